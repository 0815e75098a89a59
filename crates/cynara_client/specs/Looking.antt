-- A client asks its link whether it is up.
use Rattle.std.specs.Prelude.{◌≡◌, ℕ, Bool, true, false, List, Option, Some, None}
use Rattle.desk_ports.specs.Faults.{next_count}
use Rattle.link_ports.specs.Told.{KeepsTold, ChangesTold}
use Rattle.link_ports.specs.Traffic.{Traffic}
use Rattle.link_ports.specs.LinkMarks.{LinkMarks, marks_after_look}
use Rattle.link_ports.specs.LinkContent.{LinkContent, with_call_made, LooksUp}
use Rattle.client_connection.specs.Giving.{GivesBack}
use Rattle.cynara_client.specs.State.{State, IsBare}

module _ {L : Type 0} (link_faults : L → ℕ) (marks : L → LinkMarks) (traffic : L → Option Traffic)
    (content : L → Option LinkContent) where
  -- the link was asked once, and gave this answer
  pub record IsLooked (is_up : Bool) (before after : L) : Type 0 where
    pub answer : LooksUp is_up (content before) (link_faults before) (link_faults after)
    pub once : ChangesTold (content before) with_call_made (content after)
    pub kept : KeepsTold (traffic before) (traffic after)
    pub marked : marks after ≡ marks_after_look is_up (marks before)

  -- the link was up, and stays
  pub record FindsUp {N : Type 0} (old new : State N L) : Type 0 where
    pub before : L
    pub after : L
    pub was : old.link ≡ Some before
    pub looked : IsLooked true before after
    pub now : new ≡ record old { link = Some after }

  module _ {N : Type 0} (faults dials : N → ℕ) (given_back : N → Option (List L)) where
    -- the link was down: it was given back, which the dialler counts, and no entry is kept
    pub record FindsDown (old new : State N L) : Type 0 where
      pub before : L
      pub after : L
      pub was : old.link ≡ Some before
      pub looked : IsLooked false before after
      pub bare : IsBare old new
      pub sequence : new.sequence ≡ old.sequence
      pub gives : GivesBack faults dials given_back link_faults marks after old.dial new.dial
      pub counted : faults new.dial ≡ next_count (faults old.dial)
