-- What the bytes of a frame are while it comes, and once it is whole.
use Rattle.std.proofs.Common.{◌≡◌, ℕ, ◌+◌, ◌<◌, ◌≤◌, Bool, true, false, cond, ltb, List, [], ◌∷◌, ◌++◌, length, take}
use Rattle.std.proofs.Common.{drop, Option, Some, None, Result, Ok, Err, refl, sym, ap, subst, ◌∙◌, arith}
use Rattle.std.specs.declared.alloc.AllocError.{AllocError}
use Rattle.std.specs.Int.{w32, from_be_bytes}
use Rattle.std.proofs.lemmas.Bool.{ltb-false, ltb-true, le-ltb, lt-ltb}
use Rattle.std.proofs.lemmas.List.{take-append-le, take-append-drop, length-append, append-nil, append_assoc, take_all}
use Rattle.std.proofs.lemmas.List.{drop_all}
use Rattle.wire_fields.specs.declared.messages.Framed.{Framed}
use Rattle.wire_fields.specs.declared.operations.Heard.{Heard}
use Rattle.wire_fields.specs.declared.refusals.WireRefusal.{WireRefusal}
use Rattle.wire_fields.specs.declared.refusals.WireRefusal.TheVariants.{TooShort, TooLong, BadOperation, BadField}
use Rattle.wire_fields.specs.declared.refusals.WireRefusal.TheVariants.{Trailing, Memory}
use Rattle.wire_fields.specs.Left.{Refuses}
use Rattle.wire_reading.specs.Frame.{length_of, length_fault, frame_of}
use Rattle.wire_reading.specs.Stream.{Feeding, Partial, Wrong, Whole, front_of, with_length, first_of, Hears}
use Rattle.wire_reading.specs.Stream.{BeginsWrong, IsOpen}
use Rattle.wire_reading.specs.parts.Feeding.{IsUpTo, Settled, Unsettled, Stepped, Unstepped}
use Rattle.wire_reading.proofs.Streams.{hears_more, hears_then, wrong_more}

pub cut-in-two : (bytes front left : List ℕ) (count : ℕ) → front ≡ take count bytes → left ≡ drop count bytes
    → bytes ≡ front ++ left
cut-in-two bytes front left count of_front of_left = rw (of_front, of_left) (sym (take-append-drop count bytes))

pub begins_wrong : (heard : Heard) (bytes : List ℕ) (refusal : WireRefusal) → first_of heard bytes ≡ Wrong refusal
    → BeginsWrong heard bytes refusal
begins_wrong heard bytes (TooShort n) is = is
begins_wrong heard bytes (TooLong n) is = is
begins_wrong heard bytes (BadOperation n) is = is
begins_wrong heard bytes (BadField n) is = is
begins_wrong heard bytes (Trailing n) is = is
begins_wrong heard bytes (Memory error) is = tt

pub short_open : (heard : Heard) (bytes : List ℕ) → length bytes < 4 → IsOpen heard bytes
unfolding first_of
short_open heard bytes short = rw (lt-ltb (length bytes) 4 short) refl

pub length_wrong : (heard : Heard) (bytes : List ℕ) (fault : WireRefusal) → 4 ≤ length bytes
    → length_fault (length_of bytes) ≡ Some fault → first_of heard bytes ≡ Wrong fault
unfolding first_of
length_wrong heard bytes fault long is =
    ap (λ (b : Bool). cond b Partial (with_length heard bytes (length_of bytes + 4) (length_fault (length_of bytes))))
    (le-ltb (length bytes) 4 long)
    ∙ ap (with_length heard bytes (length_of bytes + 4)) is

pub with_no_fault : (heard : Heard) (bytes : List ℕ) → 4 ≤ length bytes → length_fault (length_of bytes) ≡ None
    → first_of heard bytes ≡ with_length heard bytes (length_of bytes + 4) None
unfolding first_of
with_no_fault heard bytes long none =
    ap (λ (b : Bool). cond b Partial (with_length heard bytes (length_of bytes + 4) (length_fault (length_of bytes))))
    (le-ltb (length bytes) 4 long)
    ∙ ap (with_length heard bytes (length_of bytes + 4)) none

pub not_finished : (heard : Heard) (bytes : List ℕ) → 4 ≤ length bytes → length_fault (length_of bytes) ≡ None
    → length bytes < length_of bytes + 4 → IsOpen heard bytes
not_finished heard bytes long none less =
    with_no_fault heard bytes long none
    ∙ ap (λ (b : Bool). cond b Partial (front_of (frame_of heard (take (length_of bytes + 4) bytes))
    (drop (length_of bytes + 4) bytes)))
    (lt-ltb (length bytes) (length_of bytes + 4) less)

pub finished : (heard : Heard) (bytes : List ℕ) → 4 ≤ length bytes → length_fault (length_of bytes) ≡ None
    → length bytes ≡ length_of bytes + 4 → first_of heard bytes ≡ front_of (frame_of heard bytes) []
finished heard bytes long none same =
    let all : take (length_of bytes + 4) bytes ≡ bytes = take_all (length_of bytes + 4) bytes (omega arith) in
    let nothing : drop (length_of bytes + 4) bytes ≡ [] = drop_all (length_of bytes + 4) bytes (omega arith) in
    with_no_fault heard bytes long none
    ∙ ap (λ (b : Bool). cond b Partial (front_of (frame_of heard (take (length_of bytes + 4) bytes))
    (drop (length_of bytes + 4) bytes)))
    (le-ltb (length bytes) (length_of bytes + 4) (omega arith))
    ∙ (λ i. front_of (frame_of heard (all i)) (nothing i))

-- ---- how far a frame that is not whole has come

pub record Bound (bytes : List ℕ) : Type 0 where
  pub less : 4 ≤ length bytes → length bytes < length_of bytes + 4
  pub most : length bytes ≤ 1048579

no_fault : (a b : Bool) (n : ℕ) → ltb 1048576 n ≡ b
    → cond a (Some (TooShort n)) (cond b (Some (TooLong n)) None) ≡ None → n ≤ 1048576
no_fault true b n second none = absurd cc
no_fault false true n second none = absurd cc
no_fault false false n second none = ltb-false 1048576 n second

with_length_bound : (heard : Heard) (bytes : List ℕ) (fault : Option WireRefusal)
    → length_fault (length_of bytes) ≡ fault
    → with_length heard bytes (length_of bytes + 4) fault ≡ Partial → Bound bytes
with_length_bound heard bytes (Some fault) is e = absurd cc
with_length_bound heard bytes None is e =
    less (ltb (length bytes) (length_of bytes + 4)) refl (frame_of heard (take (length_of bytes + 4) bytes)) e
  where
    less : (b : Bool) → ltb (length bytes) (length_of bytes + 4) ≡ b → (read : Result Framed WireRefusal)
        → cond b Partial (front_of read (drop (length_of bytes + 4) bytes)) ≡ Partial → Bound bytes
    less true is_less read e =
        let small : length_of bytes ≤ 1048576 =
        no_fault (ltb (length_of bytes) 3) (ltb 1048576 (length_of bytes)) (length_of bytes) refl is in
        let under : length bytes < length_of bytes + 4 = ltb-true _ _ is_less in
        record { less = λ long. under; most = omega (arith, small, under) }
    less false is_less (Ok framed) e = absurd cc
    less false is_less (Err refusal) e = absurd cc

pub open_bound : (heard : Heard) (bytes : List ℕ) → IsOpen heard bytes → Bound bytes
unfolding first_of
open_bound heard bytes e = bounded (ltb (length bytes) 4) refl e
  where
    bounded : (b : Bool) → ltb (length bytes) 4 ≡ b
        → cond b Partial (with_length heard bytes (length_of bytes + 4) (length_fault (length_of bytes))) ≡ Partial
        → Bound bytes
    bounded true short e =
        let less : length bytes < 4 = ltb-true _ _ short in
        record { less = λ long. absurd (omega arith); most = omega (arith, less) }
    bounded false short e = with_length_bound heard bytes (length_fault (length_of bytes)) refl e

open_right : (heard : Heard) (bytes : List ℕ) → 4 ≤ length bytes → IsOpen heard bytes
    → length_fault (length_of bytes) ≡ None
unfolding first_of
open_right heard bytes long is =
    right (length_fault (length_of bytes)) refl
    (sym (ap
    (λ (b : Bool). cond b Partial (with_length heard bytes (length_of bytes + 4) (length_fault (length_of bytes))))
    (le-ltb (length bytes) 4 long)) ∙ is)
  where
    right : (fault : Option WireRefusal) → length_fault (length_of bytes) ≡ fault
        → with_length heard bytes (length_of bytes + 4) fault ≡ Partial → length_fault (length_of bytes) ≡ None
    right (Some fault) of_length e = absurd cc
    right None of_length e = of_length

-- fewer were taken than were wanted
pub still_open : (heard : Heard) (old front : List ℕ) (wanted : ℕ) → IsOpen heard old → length front < wanted
    → (length old < 4 → wanted + length old ≡ 4) → (4 ≤ length old → wanted + length old ≡ length_of old + 4)
    → IsOpen heard (old ++ front)
still_open heard old front wanted is few short long = still (ltb (length old) 4) refl
  where
    still : (b : Bool) → ltb (length old) 4 ≡ b → IsOpen heard (old ++ front)
    still true less =
        let under : length old < 4 = ltb-true _ _ less in
        let all = short under in
        short_open heard (old ++ front) (omega (arith, length-append old front, all, few))
    still false less =
        let more : 4 ≤ length old = ltb-false _ _ less in
        let all = long more in
        let same : length_of (old ++ front) ≡ length_of old =
        ap (from_be_bytes w32) (take-append-le 4 old front more) in
        not_finished heard (old ++ front) (omega (arith, length-append old front, more))
        (ap length_fault same ∙ open_right heard old more is)
        (omega (arith, length-append old front, all, few, same))

-- no more was taken than was wanted
pub up_to : (old front : List ℕ) (wanted : ℕ) → length front ≤ wanted → (length old < 4 → wanted + length old ≡ 4)
    → (4 ≤ length old → wanted + length old ≡ length_of old + 4) → IsUpTo (old ++ front)
up_to old front wanted few short long = up (ltb (length old) 4) refl
  where
    up : (b : Bool) → ltb (length old) 4 ≡ b → IsUpTo (old ++ front)
    up true is =
        let less : length old < 4 = ltb-true _ _ is in
        let all = short less in
        omega (arith, length-append old front, all, few)
    up false is =
        let more : 4 ≤ length old = ltb-false _ _ is in
        let all = long more in
        let same : length_of (old ++ front) ≡ length_of old =
        ap (from_be_bytes w32) (take-append-le 4 old front more) in
        omega (arith, length-append old front, all, few, same)

-- ---- what became of the bytes

pub kept : (heard : Heard) (bytes : List ℕ) (waiting : List Framed) → IsOpen heard bytes
    → Settled heard bytes bytes waiting waiting
kept heard bytes waiting is =
    record { messages = []; waiting = sym (append-nil waiting); hears = refl; unfinished = is }

pub heard_whole : (heard : Heard) (bytes : List ℕ) (framed : Framed) (waiting : List Framed)
    → first_of heard bytes ≡ Whole framed []
    → Settled heard bytes [] waiting (waiting ++ framed ∷ [])
heard_whole heard bytes framed waiting is = record {
  messages = framed ∷ [];
  waiting = refl;
  hears = ([], is, refl);
  unfinished = short_open heard [] (omega arith);
}

pub refused_whole : (heard : Heard) (bytes : List ℕ) (refusal : WireRefusal)
    → first_of heard bytes ≡ front_of (frame_of heard bytes) []
    → Refuses refusal (frame_of heard bytes) → BeginsWrong heard bytes refusal
refused_whole heard bytes (TooShort n) is refused = is ∙ ap (λ (r : Result Framed WireRefusal). front_of r []) refused
refused_whole heard bytes (TooLong n) is refused = is ∙ ap (λ (r : Result Framed WireRefusal). front_of r []) refused
refused_whole heard bytes (BadOperation n) is refused =
    is ∙ ap (λ (r : Result Framed WireRefusal). front_of r []) refused
refused_whole heard bytes (BadField n) is refused = is ∙ ap (λ (r : Result Framed WireRefusal). front_of r []) refused
refused_whole heard bytes (Trailing n) is refused = is ∙ ap (λ (r : Result Framed WireRefusal). front_of r []) refused
refused_whole heard bytes (Memory error) is refused = tt

-- ---- steps of a feeder

abbrev pub feeding : Heard → List Framed → List ℕ → Option WireRefusal → Feeding
feeding heard waiting partial failed = record { heard = heard; waiting = waiting; partial = partial; failed = failed }

pub step_ok : (heard : Heard) (partial front left bytes after : List ℕ) (waiting then_waiting : List Framed)
    (failed : Option WireRefusal) → bytes ≡ front ++ left → Settled heard (partial ++ front) after waiting then_waiting
    → Stepped (feeding heard waiting partial failed) (feeding heard then_waiting after failed) bytes left
step_ok heard partial front left bytes after waiting then_waiting failed is settled = record {
  messages = settled.messages;
  waiting = settled.waiting;
  hears = subst (λ (all : List ℕ). Hears heard all settled.messages (after ++ left))
      (append_assoc partial front left ∙ ap (λ (b : List ℕ). partial ++ b) (sym is))
      (hears_more heard (partial ++ front) left settled.messages after settled.hears);
  unfinished = settled.unfinished;
  side = refl;
  failed = refl;
}

pub step_err : (heard : Heard) (partial front left bytes after : List ℕ) (waiting then_waiting : List Framed)
    (failed : Option WireRefusal) (refusal : WireRefusal) → bytes ≡ front ++ left
    → Unsettled heard (partial ++ front) waiting then_waiting refusal
    → Unstepped (feeding heard waiting partial failed) (feeding heard then_waiting after failed) bytes refusal
step_err heard partial front left bytes after waiting then_waiting failed refusal is unsettled = record {
  messages = [];
  behind = partial ++ bytes;
  waiting = unsettled.waiting ∙ sym (append-nil waiting);
  hears = refl;
  wrong = subst (λ (all : List ℕ). BeginsWrong heard all refusal)
      (append_assoc partial front left ∙ ap (λ (b : List ℕ). partial ++ b) (sym is))
      (wrong_more heard (partial ++ front) left refusal unsettled.wrong);
  side = refl;
  failed = refl;
}

-- no memory for what is kept of a frame
pub step_lost : (heard : Heard) (partial front left bytes kept after : List ℕ) (waiting then_waiting : List Framed)
    (failed : Option WireRefusal) (error : AllocError) → bytes ≡ front ++ left
    → Settled heard (partial ++ front) kept waiting then_waiting
    → Unstepped (feeding heard waiting partial failed) (feeding heard then_waiting after failed) bytes (Memory error)
step_lost heard partial front left bytes kept after waiting then_waiting failed error is settled = record {
  messages = settled.messages;
  behind = kept ++ left;
  waiting = settled.waiting;
  hears = subst (λ (all : List ℕ). Hears heard all settled.messages (kept ++ left))
      (append_assoc partial front left ∙ ap (λ (b : List ℕ). partial ++ b) (sym is))
      (hears_more heard (partial ++ front) left settled.messages kept settled.hears);
  wrong = tt;
  side = refl;
  failed = refl;
}

pub no_step : (old : Feeding) (bytes : List ℕ) → IsOpen old.heard old.partial → Stepped old old bytes bytes
no_step old bytes is = record {
  messages = [];
  waiting = sym (append-nil old.waiting);
  hears = refl;
  unfinished = is;
  side = refl;
  failed = refl;
}

pub step_then : (a b c : Feeding) (p q r : List ℕ) → Stepped a b p q → Stepped b c q r → Stepped a c p r
step_then a b c p q r first second = record {
  messages = first.messages ++ second.messages;
  waiting = second.waiting ∙ ap (λ (w : List Framed). w ++ second.messages) first.waiting
      ∙ append_assoc a.waiting first.messages second.messages;
  hears = hears_then a.heard (a.partial ++ p) first.messages (b.partial ++ q) second.messages (c.partial ++ r)
      first.hears
      (subst (λ (heard : Heard). Hears heard (b.partial ++ q) second.messages (c.partial ++ r)) first.side
      second.hears);
  unfinished = subst (λ (heard : Heard). IsOpen heard c.partial) first.side second.unfinished;
  side = second.side ∙ first.side;
  failed = second.failed ∙ first.failed;
}

pub step_wrong : (a b c : Feeding) (p q : List ℕ) (refusal : WireRefusal) → Stepped a b p q → Unstepped b c q refusal
    → Unstepped a c p refusal
step_wrong a b c p q refusal first second = record {
  messages = first.messages ++ second.messages;
  behind = second.behind;
  waiting = second.waiting ∙ ap (λ (w : List Framed). w ++ second.messages) first.waiting
      ∙ append_assoc a.waiting first.messages second.messages;
  hears = hears_then a.heard (a.partial ++ p) first.messages (b.partial ++ q) second.messages second.behind first.hears
      (subst (λ (heard : Heard). Hears heard (b.partial ++ q) second.messages second.behind) first.side second.hears);
  wrong = subst (λ (heard : Heard). BeginsWrong heard second.behind refusal) first.side second.wrong;
  side = second.side ∙ first.side;
  failed = second.failed ∙ first.failed;
}
