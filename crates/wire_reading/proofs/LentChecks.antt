-- A check that is read at the front of bytes is what is heard first in them.
use Rattle.std.proofs.Common.{◌≡◌, ℕ, ◌+◌, ◌<◌, ◌≤◌, Bool, false, cond, List, ◌++◌, length, take, drop}
use Rattle.std.proofs.Common.{Option, Some, None, refl, sym, ap, ◌∙◌, arith}
use Rattle.std.specs.Int.{w32, from_be_bytes}
use Rattle.std.specs.Prelude.{is_none}
use Rattle.std.proofs.lemmas.Bool.{le-ltb}
use Rattle.std.proofs.lemmas.List.{take-append-le, take-append-drop, length-take}
use Rattle.wire_fields.specs.declared.operations.Heard.TheVariants.{AtClient}
use Rattle.wire_fields.specs.declared.refusals.WireRefusal.{WireRefusal}
use Rattle.wire_reading.specs.Frame.{length_of, length_fault, frame_of, whole}
use Rattle.wire_reading.specs.Stream.{Partial, Wrong, front_of, first_of, NoneWhole}
use Rattle.wire_reading.specs.parts.LentCheck.{FrontFrame}
use Rattle.wire_reading.proofs.Settling.{short_open, length_wrong, with_no_fault, not_finished}

-- ---- where no frame stands whole

pub short_none : (bytes : List ℕ) → length bytes < 4 → NoneWhole AtClient bytes
short_none bytes short framed rest is =
    let partial : first_of AtClient bytes ≡ Partial = short_open AtClient bytes short in
    cc

pub fault_none : (bytes : List ℕ) → 4 ≤ length bytes → is_none (length_fault (length_of bytes)) ≡ false
    → NoneWhole AtClient bytes
fault_none bytes long some framed rest is = by_cases (length_fault (length_of bytes)) refl some
  where
    by_cases : (fault : Option WireRefusal) → length_fault (length_of bytes) ≡ fault → is_none fault ≡ false → ⊥
    by_cases None at some = cc
    by_cases (Some fault) at some =
        let wrong : first_of AtClient bytes ≡ Wrong fault = length_wrong AtClient bytes fault long at in
        cc

pub unfinished_none : (bytes : List ℕ) → 4 ≤ length bytes → length_fault (length_of bytes) ≡ None
    → length bytes < length_of bytes + 4 → NoneWhole AtClient bytes
unfinished_none bytes long none less framed rest is =
    let partial : first_of AtClient bytes ≡ Partial = not_finished AtClient bytes long none less in
    cc

-- ---- where one does

pub front_frame : (bytes frame : List ℕ) → 4 ≤ length bytes → length_fault (length_of bytes) ≡ None
    → length_of bytes + 4 ≤ length bytes → frame ≡ take (length_of bytes + 4) bytes → FrontFrame bytes frame
front_frame bytes frame long none whole is =
    let n = length_of bytes + 4 in
    let size : length frame ≡ n = ap length is ∙ omega (arith, length-take n bytes) in
    let parts : bytes ≡ frame ++ drop n bytes =
    sym (take-append-drop n bytes) ∙ ap (λ (f : List ℕ). f ++ drop n bytes) (sym is) in
    let same : length_of frame ≡ length_of bytes =
    sym (ap length_of parts ∙ ap (from_be_bytes w32) (take-append-le 4 frame (drop n bytes) (omega (arith, size)))) in
    record {
      least = omega (arith, size);
      within = omega (arith, size);
      sized = size ∙ ap (λ (k : ℕ). k + 4) (sym same);
      right = ap length_fault same ∙ none;
      first = with_no_fault AtClient bytes long none
          ∙ ap (λ (b : Bool). cond b Partial (front_of (frame_of AtClient (take n bytes)) (drop n bytes)))
          (le-ltb (length bytes) n whole)
          ∙ (λ i. front_of (frame_of AtClient (sym is i)) (drop (sym size i) bytes));
    }
