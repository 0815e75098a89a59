-- How what a stop may have left goes on from call to call. Each lemma is of the words of specs/Moments.antt.
use Rattle.std.proofs.Common.{inl, inr, ⊎_elim, ℕ, arith}
use Rattle.desk_ports.specs.FileMap.{FileMap}
use Rattle.desk_ports.specs.Disk.{DiskState, MayLeave}
use Rattle.desk_ports.specs.Moments.{Elapses, AddsOnly, LeavesOnly}

module _ {D : Type 0} (moment : D → ℕ) (left_since : D → ℕ → FileMap → Type 0) where
  -- over no call
  pub AddsOnly-none : (disk : D) (P : FileMap → Type 0) → AddsOnly moment left_since disk disk P
  AddsOnly-none disk P = record { later = omega arith; nothing_else = λ t left le was. inl was }

  -- over one call, after which a stop leaves such maps alone
  pub AddsOnly-call : (old new : D) (P : FileMap → Type 0) (state : DiskState)
      → Elapses (moment old) (moment new) (left_since old) (left_since new) state
      → ((left : FileMap) → MayLeave state left → P left) → AddsOnly moment left_since old new P
  AddsOnly-call old new P state time here = record {
    later = time.later;
    nothing_else = λ t left le was. ⊎_elim inl (λ now. inr (here left now)) (time.nothing_else t left le was);
  }

  -- over calls in a row
  pub AddsOnly-then : (old mid new : D) (P : FileMap → Type 0) → AddsOnly moment left_since old mid P
      → AddsOnly moment left_since mid new P → AddsOnly moment left_since old new P
  AddsOnly-then old mid new P first second = record {
    later = omega (arith, first.later, second.later);
    nothing_else = λ t left le was.
        ⊎_elim (first.nothing_else t left le) inr (second.nothing_else t left (omega (arith, le, first.later)) was);
  }

  -- such maps are among other ones
  pub AddsOnly-more : (old new : D) (P Q : FileMap → Type 0) → ((left : FileMap) → P left → Q left)
      → AddsOnly moment left_since old new P → AddsOnly moment left_since old new Q
  AddsOnly-more old new P Q more adds = record {
    later = adds.later;
    nothing_else = λ t left le was. ⊎_elim inl (λ is. inr (more left is)) (adds.nothing_else t left le was);
  }

  -- at each moment, where a stop at the first one leaves such maps alone
  pub LeavesOnly-from : (old new : D) (P : FileMap → Type 0)
      → ((left : FileMap) → left_since old (moment old) left → P left) → AddsOnly moment left_since old new P
      → LeavesOnly moment left_since old new P
  LeavesOnly-from old new P first adds = record {
    each = λ left was. ⊎_elim (first left) (λ is. is) (adds.nothing_else (moment old) left (omega arith) was);
    adds = adds;
  }

  -- at each moment, over calls in a row
  pub LeavesOnly-then : (old mid new : D) (P : FileMap → Type 0) → LeavesOnly moment left_since old mid P
      → LeavesOnly moment left_since mid new P → LeavesOnly moment left_since old new P
  LeavesOnly-then old mid new P first second = record {
    each = λ left was. ⊎_elim (first.each left) (λ is. is) (second.adds.nothing_else (moment old) left first.adds.later was);
    adds = AddsOnly-then old mid new P first.adds second.adds;
  }

  -- such maps are among other ones
  pub LeavesOnly-more : (old new : D) (P Q : FileMap → Type 0) → ((left : FileMap) → P left → Q left)
      → LeavesOnly moment left_since old new P → LeavesOnly moment left_since old new Q
  LeavesOnly-more old new P Q more leaves = record {
    each = λ left was. more left (leaves.each left was);
    adds = AddsOnly-more old new P Q more leaves.adds;
  }
