-- A frame is sent and answered over one link, which is given back where that fails.
use Rattle.std.specs.Prelude.{◌≡◌, ℕ, Bool, true, List, Option, Result, Ok, Err}
use Rattle.link_ports.specs.Traffic.{Traffic}
use Rattle.link_ports.specs.LinkMarks.{LinkMarks}
use Rattle.wire_fields.specs.declared.messages.Framed.{Framed}
use Rattle.desk_ports.specs.Faults.{next_count}
use Rattle.client_connection.specs.Exchange.{Exchanges}
use Rattle.client_connection.specs.Giving.{GivesBack}
use Rattle.client_connection.specs.declared.faults.Broken.{Broken}
use Rattle.client_connection.specs.declared.faults.Broken.TheVariants.{Lost, Wrong}
use Rattle.client_connection.specs.declared.asking.Outcome.{Outcome}
use Rattle.client_connection.specs.declared.asking.Outcome.TheVariants as outcome

module _ {L : Type 0} (link_faults : L → ℕ) (marks : L → LinkMarks) (traffic : L → Option Traffic)
    (frame : List ℕ) where
  -- what came over the link
  pub record Goes (base : L) (result : Result Framed Broken) (link : L) : Type 0 where
    pub exchanged : Exchanges frame result (traffic base) (traffic link)
    pub ends : (marks link).ends ≡ 0

  module _ {N : Type 0} (faults dials : N → ℕ) (given_back : N → Option (List L)) where
    -- no reply came over it, and it was given back
    pub record Fails (base : L) (broken : Broken) (old new : N) : Type 0 where
      pub link : L
      pub goes : Goes base (Err broken) link
      pub gives : GivesBack faults dials given_back link_faults marks link old new

    abbrev pub GoesOver : Bool → L → Outcome L → N → N → Type 0
    GoesOver is_new base (outcome.Replied link kept framed) old new =
        (kept ≡ is_new) × Goes base (Ok framed) link × (new ≡ old)
    GoesOver is_new base (outcome.Wrong refusal) old new = Fails base (Wrong refusal) old new
    GoesOver is_new base (outcome.Unavailable is_tried) old new =
        (is_tried ≡ true) × (faults new ≡ next_count (faults old)) × Fails base Lost old new
    GoesOver is_new base (outcome.Memory error is_tried) old new = ⊥
