-- What bytes begin with stays so, however they go on.
use Rattle.std.proofs.Common.{◌≡◌, ℕ, ◌+◌, ◌≤◌, Bool, true, false, cond, ltb, List, [], ◌∷◌, ◌++◌, length, take, drop}
use Rattle.std.proofs.Common.{Option, Some, None, Result, Ok, Err, refl, sym, ap, subst, ◌∙◌, arith}
use Rattle.std.proofs.lemmas.Bool.{ltb-false, le-ltb}
use Rattle.std.proofs.lemmas.List.{take-append-le, drop-append-le, length-append}
use Rattle.wire_fields.specs.declared.messages.Framed.{Framed}
use Rattle.wire_fields.specs.declared.operations.Heard.{Heard}
use Rattle.wire_fields.specs.declared.refusals.WireRefusal.{WireRefusal}
use Rattle.wire_fields.specs.declared.refusals.WireRefusal.TheVariants.{TooShort, TooLong, BadOperation, BadField}
use Rattle.wire_fields.specs.declared.refusals.WireRefusal.TheVariants.{Trailing, Memory}
use Rattle.wire_reading.specs.Frame.{length_of, length_fault, frame_of}
use Rattle.wire_reading.specs.Stream.{Front, Partial, Wrong, Whole, front_of, with_length, first_of, Hears, BeginsWrong}

-- what stands in front, and more behind it
abbrev pub and_more : List ℕ → Front → Front
and_more more Partial = Partial
and_more more (Wrong refusal) = Wrong refusal
and_more more (Whole framed behind) = Whole framed (behind ++ more)

IsSettled : Front → Type 0
IsSettled front = front ≡ Partial → ⊥

front_more : (read : Result Framed WireRefusal) (behind more : List ℕ)
    → front_of read (behind ++ more) ≡ and_more more (front_of read behind)
front_more (Ok framed) behind more = refl
front_more (Err refusal) behind more = refl

with_length_more : (heard : Heard) (bytes more : List ℕ) (size : ℕ) (fault : Option WireRefusal)
    → (with_length heard bytes size fault ≡ Partial → ⊥)
    → with_length heard (bytes ++ more) size fault ≡ and_more more (with_length heard bytes size fault)
with_length_more heard bytes more size (Some fault) settled = refl
with_length_more heard bytes more size None settled = whole (ltb (length bytes) size) refl settled
  where
    whole : (b : Bool) → ltb (length bytes) size ≡ b
        → (cond b Partial (front_of (frame_of heard (take size bytes)) (drop size bytes)) ≡ Partial → ⊥)
        → with_length heard (bytes ++ more) size None
        ≡ and_more more (cond b Partial (front_of (frame_of heard (take size bytes)) (drop size bytes)))
    whole true is settled = absurd (settled refl)
    whole false is settled =
        let long : size ≤ length bytes = ltb-false _ _ is in
        let longer : ltb (length (bytes ++ more)) size ≡ false = le-ltb _ _ (omega (arith, length-append bytes more)) in
        let front : take size (bytes ++ more) ≡ take size bytes = take-append-le size bytes more long in
        let behind : drop size (bytes ++ more) ≡ drop size bytes ++ more = drop-append-le size bytes more long in
        rw (longer, front, behind) (front_more (frame_of heard (take size bytes)) (drop size bytes) more)

first_more_by : (heard : Heard) (bytes more : List ℕ) (b : Bool) → ltb (length bytes) 4 ≡ b
    → (cond b Partial (with_length heard bytes (length_of bytes + 4) (length_fault (length_of bytes))) ≡ Partial → ⊥)
    → first_of heard (bytes ++ more)
    ≡ and_more more (cond b Partial (with_length heard bytes (length_of bytes + 4) (length_fault (length_of bytes))))
unfolding first_of
first_more_by heard bytes more true is settled = absurd (settled refl)
first_more_by heard bytes more false is settled =
    let long : 4 ≤ length bytes = ltb-false _ _ is in
    let longer : ltb (length (bytes ++ more)) 4 ≡ false = le-ltb _ _ (omega (arith, length-append bytes more)) in
    let front : take 4 (bytes ++ more) ≡ take 4 bytes = take-append-le 4 bytes more long in
    rw (longer, front) (with_length_more heard bytes more (length_of bytes + 4) (length_fault (length_of bytes))
    settled)

pub first_more : (heard : Heard) (bytes more : List ℕ) → (first_of heard bytes ≡ Partial → ⊥)
    → first_of heard (bytes ++ more) ≡ and_more more (first_of heard bytes)
unfolding first_of
first_more heard bytes more settled = first_more_by heard bytes more (ltb (length bytes) 4) refl settled

pub whole_more : (heard : Heard) (bytes more : List ℕ) (framed : Framed) (behind : List ℕ)
    → first_of heard bytes ≡ Whole framed behind
    → first_of heard (bytes ++ more) ≡ Whole framed (behind ++ more)
whole_more heard bytes more framed behind is =
    first_more heard bytes more (λ partial. absurd cc) ∙ ap (and_more more) is

pub wrong_front : (heard : Heard) (bytes more : List ℕ) (refusal : WireRefusal) → first_of heard bytes ≡ Wrong refusal
    → first_of heard (bytes ++ more) ≡ Wrong refusal
wrong_front heard bytes more refusal is = first_more heard bytes more (λ partial. absurd cc) ∙ ap (and_more more) is

pub wrong_more : (heard : Heard) (bytes more : List ℕ) (refusal : WireRefusal) → BeginsWrong heard bytes refusal
    → BeginsWrong heard (bytes ++ more) refusal
wrong_more heard bytes more (TooShort n) is = wrong_front heard bytes more (TooShort n) is
wrong_more heard bytes more (TooLong n) is = wrong_front heard bytes more (TooLong n) is
wrong_more heard bytes more (BadOperation n) is = wrong_front heard bytes more (BadOperation n) is
wrong_more heard bytes more (BadField n) is = wrong_front heard bytes more (BadField n) is
wrong_more heard bytes more (Trailing n) is = wrong_front heard bytes more (Trailing n) is
wrong_more heard bytes more (Memory error) is = tt

-- what was heard is heard, however the bytes go on
pub hears_more : (heard : Heard) (bytes more : List ℕ) (messages : List Framed) (behind : List ℕ)
    → Hears heard bytes messages behind
    → Hears heard (bytes ++ more) messages (behind ++ more)
hears_more heard bytes more [] behind is = ap (λ (b : List ℕ). b ++ more) is
hears_more heard bytes more (framed ∷ messages) behind is =
    (is.0 ++ more, whole_more heard bytes more framed is.0 is.1, hears_more heard is.0 more messages behind is.2)

pub hears_then : (heard : Heard) (a : List ℕ) (ms : List Framed) (b : List ℕ) (ns : List Framed) (c : List ℕ)
    → Hears heard a ms b
    → Hears heard b ns c → Hears heard a (ms ++ ns) c
hears_then heard a [] b ns c first second = subst (λ (bytes : List ℕ). Hears heard bytes ns c) (sym first) second
hears_then heard a (m ∷ ms) b ns c first second = (first.0, first.1, hears_then heard first.0 ms b ns c first.2 second)
