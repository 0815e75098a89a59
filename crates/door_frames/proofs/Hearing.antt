-- Pieces that are fed one after the other.
use Rattle.std.proofs.Common.{◌≡◌, ◌∙◌, ℕ, List, [], ◌∷◌, ◌++◌, ◌⊎◌, Option, Some, None, Result, Ok, Err, inl, inr, refl, sym, ap, subst, append_assoc, append-nil}
use Rattle.wire_reading.specs.Stream.{Feeding, Fed, Failed, Hears, BeginsWrong, IsOpen, unfed, first_of, Whole, Partial}
use Rattle.wire_fields.specs.declared.messages.Framed.{Framed}
use Rattle.wire_fields.specs.declared.operations.Heard.{Heard}
use Rattle.wire_fields.specs.declared.refusals.WireRefusal.{WireRefusal}
use Rattle.door_frames.specs.Hearing.{HasHeard, IsSound, IsRefused, HearsMore, HandsOut}

-- what is heard of the rest comes behind what was heard before
abbrev pub Law : Type 0
Law = (heard : Heard) (bytes more : List ℕ) (ms ns : List Framed) (x y : List ℕ)
    → Hears heard bytes ms x → Hears heard (x ++ more) ns y → Hears heard (bytes ++ more) (ms ++ ns) y

-- a piece with a wrong frame
pub hears_failed : Law → (old new : Feeding) (piece : List ℕ) (refusal : WireRefusal) → old.failed ≡ None
    → Failed old new piece refusal → HearsMore piece old new
hears_failed law old new piece refusal sound failed bytes taken before =
    let at = before.sound sound in
    let front : Hears old.heard bytes (taken ++ old.waiting) old.partial =
    subst (λ rest. Hears old.heard bytes (taken ++ old.waiting) rest) at.0 before.heard in
    let whole = law old.heard bytes piece (taken ++ old.waiting) failed.messages old.partial failed.behind front failed.heard in
    let frames : (taken ++ old.waiting) ++ failed.messages ≡ taken ++ new.waiting =
    append_assoc taken old.waiting failed.messages ∙ ap (λ ms. taken ++ ms) (sym failed.waiting) in
    record {
      behind = failed.behind;
      heard = subst (λ (side : Heard). Hears side (bytes ++ piece) (taken ++ new.waiting) failed.behind) (sym failed.side)
          (subst (λ ms. Hears old.heard (bytes ++ piece) ms failed.behind) frames whole);
      sound = λ is. absurd (some_is_none (sym failed.failed ∙ is));
      wrong = λ other is.
          subst (λ (side : Heard). BeginsWrong side failed.behind other) (sym failed.side)
          (subst (λ (r : WireRefusal). BeginsWrong old.heard failed.behind r) (same other (sym failed.failed ∙ is)) failed.wrong);
    }
  where
    some_is_none : Some refusal ≡ None → ⊥
    some_is_none is = cc

    same : (other : WireRefusal) → Some refusal ≡ Some other → refusal ≡ other
    same other is = cc

-- no bytes
nothing_more : (heard : Heard) (bytes behind : List ℕ) (messages : List Framed) → IsOpen heard bytes
    → Hears heard (bytes ++ []) messages behind → (messages ≡ []) × (behind ≡ bytes)
nothing_more heard bytes behind [] unfinished is = (refl, sym is ∙ append-nil bytes)
nothing_more heard bytes behind (framed ∷ messages) unfinished (rest, whole, more) =
    let same : first_of heard (bytes ++ []) ≡ first_of heard bytes = ap (λ bs. first_of heard bs) (append-nil bytes) in
    let wrong : Whole framed rest ≡ Partial = sym whole ∙ (same ∙ unfinished) in
    absurd (apart framed rest wrong)
  where
    apart : (framed : Framed) (rest : List ℕ) → Whole framed rest ≡ Partial → ⊥
    apart framed rest is = cc

-- a feeder that is fed no bytes stays as it was
pub unfed_still : (old new : Feeding) → IsSound old → old.failed ≡ None → Fed old new [] → new ≡ old
unfed_still old new sound none fed =
    let still = nothing_more old.heard old.partial new.partial fed.messages (sound none) fed.heard in
    let waiting : new.waiting ≡ old.waiting = fed.waiting ∙ (ap (λ ms. old.waiting ++ ms) still.0 ∙ append-nil old.waiting) in
    let partial = still.1 in
    let side = fed.side in
    let failed : new.failed ≡ old.failed = fed.failed ∙ sym none in
    λ i. record { heard = side i; waiting = waiting i; partial = partial i; failed = failed i }

-- no bytes are heard
pub hears_nothing : (feeder : Feeding) → HearsMore [] feeder feeder
hears_nothing feeder bytes frames before = subst (λ bs. HasHeard bs frames feeder) (sym (append-nil bytes)) before

-- ---- a feeder that is asked whether it has failed

either : {X : Type 0} (told : Option X) → (told ≡ None) ⊎ ((x : X) × (told ≡ Some x))
either None = inl refl
either (Some x) = inr (x, refl)

abbrev pub AnswersAgain : Feeding → Feeding → Result (Unit {0}) WireRefusal → Type 0
AnswersAgain old new result = (refusal : WireRefusal) → old.failed ≡ Some refusal → (result ≡ Err refusal) × (new ≡ old)

ok_is_err : (result : Result (Unit {0}) WireRefusal) (done : Unit {0}) (refusal : WireRefusal) → result ≡ Ok done → result ≡ Err refusal → ⊥
ok_is_err result done refusal ok err = cc

pub fed_nothing : (old new : Feeding) (result : Result (Unit {0}) WireRefusal) (done : Unit {0}) → result ≡ Ok done → IsSound old
    → Fed old new [] → AnswersAgain old new result → (old.failed ≡ None) × (new ≡ old)
fed_nothing old new result done ok sound fed again =
    elim (either old.failed) [
      | inl none ↦ (none, unfed_still old new sound none fed)
      | inr (refusal, some) ↦ absurd (ok_is_err result done refusal ok (again refusal some).0)
    ]

pub refused_nothing : Law → (old new : Feeding) (result : Result (Unit {0}) WireRefusal) (refusal : WireRefusal) → result ≡ Err refusal
    → IsSound old → old.waiting ≡ [] → (old.failed ≡ None → Failed old new [] refusal) → AnswersAgain old new result
    → IsRefused old new refusal
refused_nothing law old new result refusal is sound empty failed again =
    elim (either old.failed) [
      | inl none ↦
          let f = failed none in
          let still = nothing_more old.heard old.partial f.behind f.messages (sound none) f.heard in
          record {
            failed = f.failed;
            empty = f.waiting ∙ (ap (λ ms. ms ++ f.messages) empty ∙ still.0);
            side = f.side;
            heard = hears_failed law old new [] refusal none f;
          }
      | inr (other, some) ↦
          let stands = again other some in
          let same : other ≡ refusal = same_refusal result other refusal stands.0 is in
          record {
            failed = ap (λ (feeder : Feeding). feeder.failed) stands.1 ∙ (some ∙ ap Some same);
            empty = ap (λ (feeder : Feeding). feeder.waiting) stands.1 ∙ empty;
            side = ap (λ (feeder : Feeding). feeder.heard) stands.1;
            heard = subst (λ (feeder : Feeding). HearsMore [] old feeder) (sym stands.1) (hears_nothing old);
          }
    ]
  where
    same_refusal : (result : Result (Unit {0}) WireRefusal) (other refusal : WireRefusal) → result ≡ Err other → result ≡ Err refusal → other ≡ refusal
    same_refusal result other refusal is so = cc

-- before the first byte
pub unfed_sound : (heard : Heard) → IsSound (unfed heard)
unfolding first_of
unfed_sound heard none = refl

pub unfed_heard : (heard : Heard) → HasHeard [] [] (unfed heard)
unfed_heard heard = record {
  behind = [];
  heard = refl;
  sound = λ none. (refl, unfed_sound heard none);
  wrong = λ refusal is. absurd (none_is_some refusal is);
}
  where
    none_is_some : (refusal : WireRefusal) → None ≡ Some refusal → ⊥
    none_is_some refusal is = cc

-- a frame that waited is taken
pub takes : (old new : Feeding) (framed : Framed) → old.waiting ≡ framed ∷ new.waiting → new ≡ record old { waiting = new.waiting }
    → HandsOut [] framed old new
takes old new framed first rest bytes taken before =
    let frames : taken ++ old.waiting ≡ (taken ++ framed ∷ []) ++ new.waiting =
    ap (λ ms. taken ++ ms) first ∙ sym (append_assoc taken (framed ∷ []) new.waiting) in
    let none : bytes ≡ bytes ++ [] = sym (append-nil bytes) in
    let side : old.heard ≡ new.heard = sym (ap (λ (feeder : Feeding). feeder.heard) rest) in
    let partial : new.partial ≡ old.partial = ap (λ (feeder : Feeding). feeder.partial) rest in
    let failed : new.failed ≡ old.failed = ap (λ (feeder : Feeding). feeder.failed) rest in
    record {
      behind = before.behind;
      heard = subst (λ (s : Heard). Hears s (bytes ++ []) ((taken ++ framed ∷ []) ++ new.waiting) before.behind) side
          (subst (λ bs. Hears old.heard bs ((taken ++ framed ∷ []) ++ new.waiting) before.behind) none
          (subst (λ ms. Hears old.heard bytes ms before.behind) frames before.heard));
      sound = λ is.
          let at = before.sound (sym failed ∙ is) in
          (at.0 ∙ sym partial, subst (λ (s : Heard). IsOpen s before.behind) side at.1);
      wrong = λ refusal is.
          subst (λ (s : Heard). BeginsWrong s before.behind refusal) side (before.wrong refusal (sym failed ∙ is));
    }

-- bytes are heard, and then a frame is taken
pub hands_out_more : (first more : List ℕ) (framed : Framed) (start between end : Feeding)
    → HearsMore first start between → HandsOut more framed between end → HandsOut (first ++ more) framed start end
hands_out_more first more framed start between end heard taken bytes frames before =
    subst (λ bs. HasHeard bs (frames ++ framed ∷ []) end) (append_assoc bytes first more)
    (taken (bytes ++ first) frames (heard bytes frames before))

pub hears_more : (first more : List ℕ) (start between end : Feeding)
    → HearsMore first start between → HearsMore more between end → HearsMore (first ++ more) start end
hears_more first more start between end one two bytes frames before =
    subst (λ bs. HasHeard bs frames end) (append_assoc bytes first more) (two (bytes ++ first) frames (one bytes frames before))
