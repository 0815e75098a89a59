-- How many bytes the frame has that some bytes begin, and that no more of them were taken.
use Rattle.std.proofs.Common.{◌≡◌, ◌∙◌, ℕ, ◌+◌, ◌-◌, ◌<◌, ◌≤◌, Bool, true, false, cond, ltb, List, [], ◌∷◌, ◌++◌, length, take, drop, Option, Some, None, Result, Ok, Err, refl, sym, ap, arith}
use Rattle.std.specs.Int.{w32, from_be_bytes}
use Rattle.std.proofs.lemmas.Bool.{ltb-true, ltb-false, le-ltb}
use Rattle.std.proofs.lemmas.List.{length-append, length-drop, take-append-le}
use Rattle.wire_fields.specs.declared.messages.Framed.{Framed}
use Rattle.wire_fields.specs.declared.operations.Heard.{Heard}
use Rattle.wire_fields.specs.declared.refusals.WireRefusal.{WireRefusal}
use Rattle.wire_fields.specs.declared.refusals.WireRefusal.TheVariants.{TooShort, TooLong}
use Rattle.wire_reading.specs.Frame.{length_of, length_fault, frame_of}
use Rattle.wire_reading.specs.Stream.{Partial, Whole, front_of, with_length, first_of, wanted, Hears, IsOpen}
use Rattle.wire_reading.proofs.Settling.{open_bound}
use Rattle.wire_reading.proofs.Hearings.{framed_spelt}
use Rattle.client_connection.specs.Reading.{size_by, size_of, IsRead}
use Rattle.client_connection.specs.declared.faults.Broken.{Broken}
use Rattle.client_connection.specs.declared.faults.Broken.TheVariants.{Lost, Wrong}

-- the length is there at least
size_by_some : (n : ℕ) (fault : Option WireRefusal) → 4 ≤ size_by n fault
size_by_some n (Some fault) = omega arith
size_by_some n None = omega arith

size_some : (bytes : List ℕ) → 4 ≤ size_of bytes
size_some bytes = by_length (ltb (length bytes) 4)
  where
    by_length : (b : Bool) → 4 ≤ cond b 4 (size_by (length_of bytes) (length_fault (length_of bytes)))
    by_length true = omega arith
    by_length false = size_by_some (length_of bytes) (length_fault (length_of bytes))

-- the length is there, and is right
size_is : (bytes : List ℕ) → 4 ≤ length bytes → length_fault (length_of bytes) ≡ None → size_of bytes ≡ length_of bytes + 4
size_is bytes long right =
    ap (λ (b : Bool). cond b 4 (size_by (length_of bytes) (length_fault (length_of bytes)))) (le-ltb (length bytes) 4 long)
    ∙ ap (size_by (length_of bytes)) right

-- of a frame that is not whole the length is right, if it is there
open_right : (heard : Heard) (bytes : List ℕ) → 4 ≤ length bytes → IsOpen heard bytes → length_fault (length_of bytes) ≡ None
unfolding first_of
open_right heard bytes long is =
    right (length_fault (length_of bytes)) refl
    (sym (ap (λ (b : Bool). cond b Partial (with_length heard bytes (length_of bytes + 4) (length_fault (length_of bytes))))
    (le-ltb (length bytes) 4 long)) ∙ is)
  where
    right : (fault : Option WireRefusal) → length_fault (length_of bytes) ≡ fault
        → with_length heard bytes (length_of bytes + 4) fault ≡ Partial → length_fault (length_of bytes) ≡ None
    right (Some fault) of_length e = absurd cc
    right None of_length e = of_length

-- some bytes are wanted as long as a frame is not whole
pub open_wants : (heard : Heard) (partial : List ℕ) → IsOpen heard partial → 0 < wanted partial
open_wants heard partial is = by_length (ltb (length partial) 4) refl
  where
    by_length : (b : Bool) → ltb (length partial) 4 ≡ b → 0 < cond b (4 - length partial) (length_of partial + 4 - length partial)
    by_length true short =
        let less : length partial < 4 = ltb-true _ _ short in
        omega (arith, less)
    by_length false short =
        let long : 4 ≤ length partial = ltb-false _ _ short in
        let less : length partial < length_of partial + 4 = (open_bound heard partial is).less long in
        omega (arith, less)

-- a piece that is no longer than what is wanted does not pass the end of its frame, be it right or wrong
pub piece_within : (heard : Heard) (partial piece : List ℕ) → IsOpen heard partial → length piece ≤ wanted partial
    → length (partial ++ piece) ≤ size_of (partial ++ piece)
piece_within heard partial piece is few = by_length (ltb (length partial) 4) refl few
  where
    by_length : (b : Bool) → ltb (length partial) 4 ≡ b
        → length piece ≤ cond b (4 - length partial) (length_of partial + 4 - length partial)
        → length (partial ++ piece) ≤ size_of (partial ++ piece)
    by_length true short few =
        let less : length partial < 4 = ltb-true _ _ short in
        let some : 4 ≤ size_of (partial ++ piece) = size_some (partial ++ piece) in
        omega (arith, length-append partial piece, less, few, some)
    by_length false short few =
        let long : 4 ≤ length partial = ltb-false _ _ short in
        let less : length partial < length_of partial + 4 = (open_bound heard partial is).less long in
        let same : length_of (partial ++ piece) ≡ length_of partial =
        ap (from_be_bytes w32) (take-append-le 4 partial piece long) in
        let size : size_of (partial ++ piece) ≡ length_of (partial ++ piece) + 4 =
        size_is (partial ++ piece) (omega (arith, length-append partial piece, long))
        (ap length_fault same ∙ open_right heard partial long is) in
        omega (arith, length-append partial piece, less, few, same, size)

-- a frame that was read whole, and nothing behind it, has as many
pub whole_within : (heard : Heard) (bytes : List ℕ) (framed : Framed) → Hears heard bytes (framed ∷ []) []
    → length bytes ≤ size_of bytes
unfolding first_of
whole_within heard bytes framed is = by_length (ltb (length bytes) 4) refl is.1
  where
    by_size : (b : Bool) → 4 ≤ length bytes → length_fault (length_of bytes) ≡ None
        → cond b Partial (front_of (frame_of heard (take (length_of bytes + 4) bytes)) (drop (length_of bytes + 4) bytes)) ≡ Whole framed is.0
        → length bytes ≤ size_of bytes
    by_size true long right e = absurd cc
    by_size false long right e =
        let behind = framed_spelt heard bytes (frame_of heard (take (length_of bytes + 4) bytes)) (drop (length_of bytes + 4) bytes)
        framed is.0 e in
        let none : length (drop (length_of bytes + 4) bytes) ≡ 0 = ap length (behind.1 ∙ is.2) in
        let size : size_of bytes ≡ length_of bytes + 4 = size_is bytes long right in
        omega (arith, none, size, length-drop (length_of bytes + 4) bytes)

    by_fault : (fault : Option WireRefusal) → length_fault (length_of bytes) ≡ fault → 4 ≤ length bytes
        → with_length heard bytes (length_of bytes + 4) fault ≡ Whole framed is.0
        → length bytes ≤ size_of bytes
    by_fault (Some fault) of_length long e = absurd cc
    by_fault None of_length long e = by_size (ltb (length bytes) (length_of bytes + 4)) long of_length e

    by_length : (b : Bool) → ltb (length bytes) 4 ≡ b
        → cond b Partial (with_length heard bytes (length_of bytes + 4) (length_fault (length_of bytes))) ≡ Whole framed is.0
        → length bytes ≤ size_of bytes
    by_length true short e = absurd cc
    by_length false short e = by_fault (length_fault (length_of bytes)) refl (ltb-false _ _ short) e

-- ---- no frame has more than the longest one

size_by_most : (a b : Bool) (n : ℕ) → ltb 1048576 n ≡ b → size_by n (cond a (Some (TooShort n)) (cond b (Some (TooLong n)) None)) ≤ 1048580
size_by_most true b n is = omega arith
size_by_most false true n is = omega arith
size_by_most false false n is =
    let few : n ≤ 1048576 = ltb-false 1048576 n is in
    omega (arith, few)

size_most : (bytes : List ℕ) → size_of bytes ≤ 1048580
size_most bytes = by_length (ltb (length bytes) 4)
  where
    by_length : (b : Bool) → cond b 4 (size_by (length_of bytes) (length_fault (length_of bytes))) ≤ 1048580
    by_length true = omega arith
    by_length false = size_by_most (ltb (length_of bytes) 3) (ltb 1048576 (length_of bytes)) (length_of bytes) refl

-- whatever was read of them, no more were taken
pub most_taken : (heard : Heard) (result : Result Framed Broken) (bytes : List ℕ) → IsRead heard result bytes → length bytes ≤ 1048580
most_taken heard (Ok framed) bytes read =
    let within = whole_within heard bytes framed read in
    let most = size_most bytes in
    omega (arith, within, most)
most_taken heard (Err Lost) bytes read =
    let most : length bytes ≤ 1048579 = (open_bound heard bytes read).most in
    omega (arith, most)
most_taken heard (Err (Wrong refusal)) bytes read =
    let within : length bytes ≤ size_of bytes = read.within in
    let most = size_most bytes in
    omega (arith, within, most)
