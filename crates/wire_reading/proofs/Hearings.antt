-- The messages that are heard are those that are spelled, and no others.
use Rattle.std.proofs.Common.{◌≡◌, ℕ, ◌+◌, ◌≤◌, Bool, true, false, cond, ltb, List, [], ◌∷◌, ◌++◌, length, take, drop}
use Rattle.std.proofs.Common.{Option, Some, None, Result, Ok, Err, refl, sym, ap, subst, ◌∙◌, append_assoc, arith}
use Rattle.std.specs.Int.{w32, from_be_bytes}
use Rattle.std.specs.List.{flat_map, AllByRecursion}
use Rattle.std.specs.Option.{option_to_list}
use Rattle.std.specs.Prelude.{IfSome}
use Rattle.std.proofs.lemmas.Bool.{ltb-false}
use Rattle.std.proofs.lemmas.List.{take-append-drop, length-take, take-append-le}
use Rattle.std.proofs.lemmas.List.Concat.{flat_map-cons}
use Rattle.wire_fields.specs.Left.{IsBytes}
use Rattle.wire_fields.specs.declared.messages.Framed.{Framed}
use Rattle.wire_fields.specs.declared.operations.Heard.{Heard}
use Rattle.wire_fields.specs.declared.refusals.WireRefusal.{WireRefusal}
use Rattle.wire_reading.specs.Frame.{spelling, length_of, length_fault, frame_of}
use Rattle.wire_reading.specs.Hearing.{IsHeard}
use Rattle.wire_reading.specs.Stream.{Front, Partial, Whole, front_of, with_length, first_of, Hears, IsOpen}
use Rattle.wire_fields.proofs.Exact.{IsBytes-drop, IsBytes-take}
use Rattle.wire_reading.proofs.FrameLaws.{frame_takes, frame_again, spelled_length, spelled_right, spelling_size}
use Rattle.wire_reading.proofs.Streams.{whole_more}
use Rattle.wire_reading.proofs.Settling.{finished}

-- the bytes are the spelling of the message, and then the rest
record Spelt (heard : Heard) (bytes : List ℕ) (framed : Framed) (rest : List ℕ) : Type 0 where
  parts : bytes ≡ spelling framed ++ rest
  right : IsHeard heard framed
  fits : IsBytes rest

pub framed_spelt : (heard : Heard) (bytes : List ℕ) (read : Result Framed WireRefusal) (behind : List ℕ)
    (framed : Framed) (rest : List ℕ)
    → front_of read behind ≡ Whole framed rest → (read ≡ Ok framed) × (behind ≡ rest)
framed_spelt heard bytes (Ok read) behind framed rest e = (cc, cc)
framed_spelt heard bytes (Err refusal) behind framed rest e = absurd cc

with_length_spelt : (heard : Heard) (bytes : List ℕ) (fault : Option WireRefusal) (framed : Framed) (rest : List ℕ)
    → IsBytes bytes
    → 4 ≤ length bytes → with_length heard bytes (length_of bytes + 4) fault ≡ Whole framed rest
    → Spelt heard bytes framed rest
with_length_spelt heard bytes (Some fault) framed rest fits long e = absurd cc
with_length_spelt heard bytes None framed rest fits long e = spelt (ltb (length bytes) size) refl e
  where
    size : ℕ
    size = length_of bytes + 4

    spelt : (b : Bool) → ltb (length bytes) (length_of bytes + 4) ≡ b
        → cond b Partial (front_of (frame_of heard (take (length_of bytes + 4) bytes))
        (drop (length_of bytes + 4) bytes)) ≡ Whole framed rest
        → Spelt heard bytes framed rest
    spelt true is e = absurd cc
    spelt false is e =
        let n = length_of bytes + 4 in
        let frame = take n bytes in
        let there : n ≤ length bytes = ltb-false _ _ is in
        let whole = framed_spelt heard bytes (frame_of heard frame) (drop n bytes) framed rest e in
        let len : length frame ≡ n = omega (arith, length-take n bytes) in
        let front : take 4 bytes ≡ take 4 frame =
        ap (take 4) (sym (take-append-drop n bytes)) ∙ take-append-le 4 frame (drop n bytes) (omega (arith, len)) in
        let value : length_of frame ≡ length_of bytes = ap (from_be_bytes w32) (sym front) in
        let size : length frame ≡ length_of frame + 4 = len ∙ ap (λ (k : ℕ). k + 4) (sym value) in
        let taken = frame_takes heard frame framed (IsBytes-take n bytes fits) size whole.0 in
        record {
          parts = sym (take-append-drop n bytes) ∙ λ i. taken.1 i ++ whole.1 i;
          right = taken.0;
          fits = subst IsBytes whole.1 (IsBytes-drop n bytes fits);
        }

first_spelt : (heard : Heard) (bytes : List ℕ) (framed : Framed) (rest : List ℕ) → IsBytes bytes
    → first_of heard bytes ≡ Whole framed rest
    → Spelt heard bytes framed rest
unfolding first_of
first_spelt heard bytes framed rest fits e = spelt (ltb (length bytes) 4) refl e
  where
    spelt : (b : Bool) → ltb (length bytes) 4 ≡ b
        → cond b Partial (with_length heard bytes (length_of bytes + 4) (length_fault (length_of bytes)))
        ≡ Whole framed rest
        → Spelt heard bytes framed rest
    spelt true is e = absurd cc
    spelt false is e = with_length_spelt heard bytes (length_fault (length_of bytes)) framed rest fits
        (ltb-false _ _ is) e

-- what was heard is spelled in the bytes
pub heard_spelled : (heard : Heard) (bytes : List ℕ) (messages : List Framed) (behind : List ℕ) → IsBytes bytes
    → Hears heard bytes messages behind
    → (bytes ≡ flat_map spelling messages ++ behind) × AllByRecursion (IsHeard heard) messages
heard_spelled heard bytes [] behind fits is = (is, tt)
heard_spelled heard bytes (framed ∷ messages) behind fits is =
    let one = first_spelt heard bytes framed is.0 fits is.1 in
    let more = heard_spelled heard is.0 messages behind one.fits is.2 in (
      one.parts ∙ ap (λ (rest : List ℕ). spelling framed ++ rest) more.0
          ∙ sym (append_assoc (spelling framed) (flat_map spelling messages) behind)
          ∙ ap (λ (b : List ℕ). b ++ behind) (sym (flat_map-cons spelling framed messages)),
      (one.right, more.1),
    )

first_spelled : (heard : Heard) (framed : Framed) (rest : List ℕ) → IsHeard heard framed
    → first_of heard (spelling framed ++ rest) ≡ Whole framed rest
first_spelled heard framed rest is =
    let bytes = spelling framed in
    let value = spelled_length heard framed is in
    let size = spelling_size framed in
    let whole : first_of heard bytes ≡ Whole framed [] =
    finished heard bytes (omega (arith, size)) (spelled_right heard framed is) (omega (arith, size, value))
    ∙ ap (λ (r : Result Framed WireRefusal). front_of r []) (frame_again heard framed is) in
    whole_more heard bytes rest framed [] whole

-- what is spelled in the bytes is heard
pub spelled_heard : (heard : Heard) (messages : List Framed) (behind : List ℕ) → AllByRecursion (IsHeard heard) messages
    → Hears heard (flat_map spelling messages ++ behind) messages behind
spelled_heard heard [] behind all = refl
spelled_heard heard (framed ∷ messages) behind all =
    let rest = flat_map spelling messages ++ behind in
    let regrouped : flat_map spelling (framed ∷ messages) ++ behind ≡ spelling framed ++ rest =
    ap (λ (b : List ℕ). b ++ behind) (flat_map-cons spelling framed messages)
    ∙ append_assoc (spelling framed) (flat_map spelling messages) behind in (
      rest,
      ap (first_of heard) regrouped ∙ first_spelled heard framed rest all.0,
      spelled_heard heard messages behind all.1,
    )

pub same_whole : (front : Front) (a b : Framed) (x y : List ℕ) → front ≡ Whole a x → front ≡ Whole b y
    → (a ≡ b) × (x ≡ y)
same_whole front a b x y first second = (cc, cc)

-- no other messages are heard in the same bytes
pub heard_once : (heard : Heard) (bytes : List ℕ) (ms ns : List Framed) (x y : List ℕ) → Hears heard bytes ms x
    → IsOpen heard x
    → Hears heard bytes ns y → IsOpen heard y → (ms ≡ ns) × (x ≡ y)
heard_once heard bytes [] [] x y first last second end = (refl, sym first ∙ second)
heard_once heard bytes [] (n ∷ ns) x y first last second end =
    let partial : first_of heard bytes ≡ Partial = ap (first_of heard) first ∙ last in
    let whole : first_of heard bytes ≡ Whole n second.0 = second.1 in
    absurd cc
heard_once heard bytes (m ∷ ms) [] x y first last second end =
    let partial : first_of heard bytes ≡ Partial = ap (first_of heard) second ∙ end in
    let whole : first_of heard bytes ≡ Whole m first.0 = first.1 in
    absurd cc
heard_once heard bytes (m ∷ ms) (n ∷ ns) x y first last second end =
    let same = same_whole (first_of heard bytes) m n first.0 second.0 first.1 second.1 in
    let behind = subst (λ (rest : List ℕ). Hears heard rest ns y) (sym same.1) second.2 in
    let more = heard_once heard first.0 ms ns x y first.2 last behind end in
    ((λ i. same.0 i ∷ more.0 i), more.1)

-- one more that is as all of them are
pub all_and_one : (P : Framed → Type 0) (messages : List Framed) (framed : Framed) → AllByRecursion P messages
    → P framed → AllByRecursion P (messages ++ framed ∷ [])
all_and_one P [] framed all is = (is, tt)
all_and_one P (first ∷ messages) framed all is = (all.0, all_and_one P messages framed all.1 is)

-- the first that is taken, if one is, and the others
pub front_heard : (P : Framed → Type 0) (old new : List Framed) (first : Option Framed)
    → old ≡ option_to_list first ++ new → AllByRecursion P old → IfSome first P × AllByRecursion P new
front_heard P old new None same all = (tt, subst (AllByRecursion P) same all)
front_heard P old new (Some framed) same all = subst (AllByRecursion P) same all
