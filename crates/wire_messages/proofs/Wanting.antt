-- A piece that is no longer than what is wanted does not pass the end of its frame.
use Rattle.std.proofs.Common.{◌≡◌, ℕ, ◌+◌, ◌-◌, ◌<◌, ◌≤◌, Bool, true, false, cond, ltb, List, [], ◌∷◌, ◌++◌, length}
use Rattle.std.proofs.Common.{take, drop, Option, Some, None, refl, sym, ap, subst, ◌∙◌, arith}
use Rattle.std.specs.Int.{w32, from_be_bytes}
use Rattle.std.proofs.lemmas.Bool.{ltb-false, ltb-true}
use Rattle.std.proofs.lemmas.List.{length-append, take-append-le, drop_all}
use Rattle.wire_fields.specs.declared.messages.Framed.{Framed}
use Rattle.wire_fields.specs.declared.operations.Heard.{Heard}
use Rattle.wire_fields.specs.declared.refusals.WireRefusal.{WireRefusal}
use Rattle.wire_reading.specs.Frame.{length_of, length_fault, frame_of}
use Rattle.wire_reading.specs.Stream.{Partial, Whole, front_of, with_length, first_of, Hears, HearsOne, none, one}
use Rattle.wire_reading.specs.Stream.{IsOpen, wanted}
use Rattle.wire_reading.proofs.Settling.{open_bound, short_open}
use Rattle.wire_reading.proofs.Hearings.{framed_spelt}

-- the bytes do not pass the end of their first frame
within : (heard : Heard) (partial piece : List ℕ) → IsOpen heard partial → length piece ≤ wanted partial
    → length (partial ++ piece) ≤ length_of (partial ++ piece) + 4
within heard partial piece is few = by_length (ltb (length partial) 4) refl few
  where
    by_length : (b : Bool) → ltb (length partial) 4 ≡ b
        → length piece ≤ cond b (4 - length partial) (length_of partial + 4 - length partial)
        → length (partial ++ piece) ≤ length_of (partial ++ piece) + 4
    by_length true short few =
        let less : length partial < 4 = ltb-true _ _ short in
        omega (arith, length-append partial piece, less, few)
    by_length false short few =
        let long : 4 ≤ length partial = ltb-false _ _ short in
        let less : length partial < length_of partial + 4 = (open_bound heard partial is).less long in
        let same : length_of (partial ++ piece) ≡ length_of partial =
        ap (from_be_bytes w32) (take-append-le 4 partial piece long) in
        omega (arith, length-append partial piece, less, few, same)

-- what is behind a whole frame stands behind its length
behind_whole : (heard : Heard) (bytes : List ℕ) (framed : Framed) (rest : List ℕ)
    → first_of heard bytes ≡ Whole framed rest → rest ≡ drop (length_of bytes + 4) bytes
unfolding first_of
behind_whole heard bytes framed rest e = by_length (ltb (length bytes) 4) e
  where
    by_size : (b : Bool) → cond b Partial (front_of (frame_of heard (take (length_of bytes + 4) bytes))
        (drop (length_of bytes + 4) bytes)) ≡ Whole framed rest
        → rest ≡ drop (length_of bytes + 4) bytes
    by_size true e = absurd cc
    by_size false e =
        sym (framed_spelt heard bytes (frame_of heard (take (length_of bytes + 4) bytes))
        (drop (length_of bytes + 4) bytes) framed rest e).1

    by_fault : (fault : Option WireRefusal) → with_length heard bytes (length_of bytes + 4) fault ≡ Whole framed rest
        → rest ≡ drop (length_of bytes + 4) bytes
    by_fault (Some fault) e = absurd cc
    by_fault None e = by_size (ltb (length bytes) (length_of bytes + 4)) e

    by_length : (b : Bool)
        → cond b Partial (with_length heard bytes (length_of bytes + 4) (length_fault (length_of bytes)))
        ≡ Whole framed rest
        → rest ≡ drop (length_of bytes + 4) bytes
    by_length true e = absurd cc
    by_length false e = by_fault (length_fault (length_of bytes)) e

-- nothing is heard in no bytes
nothing_heard : (heard : Heard) (messages : List Framed) (behind : List ℕ) → Hears heard [] messages behind
    → (messages ≡ []) × (behind ≡ [])
nothing_heard heard [] behind is = (refl, sym is)
nothing_heard heard (framed ∷ messages) behind is =
    let partial : first_of heard [] ≡ Partial = short_open heard [] (omega arith) in
    let whole : first_of heard [] ≡ Whole framed is.0 = is.1 in
    absurd cc

pub hears_one : (heard : Heard) (partial piece : List ℕ) (messages : List Framed) (behind : List ℕ)
    → IsOpen heard partial → length piece ≤ wanted partial → Hears heard (partial ++ piece) messages behind
    → HearsOne (partial ++ piece) messages behind
hears_one heard partial piece [] behind is few heard_all = none refl (sym heard_all)
hears_one heard partial piece (framed ∷ messages) behind is few heard_all =
    let bytes = partial ++ piece in
    let rest : heard_all.0 ≡ [] =
    behind_whole heard bytes framed heard_all.0 heard_all.1
    ∙ drop_all (length_of bytes + 4) bytes (within heard partial piece is few) in
    let end = nothing_heard heard messages behind
    (subst (λ (left : List ℕ). Hears heard left messages behind) rest heard_all.2) in
    one framed (ap (λ (others : List Framed). framed ∷ others) end.0) end.1
