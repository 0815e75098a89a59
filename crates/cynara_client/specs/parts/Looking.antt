-- A link is asked whether it is up, and given back where it is down.
use Rattle.std.specs.Prelude.{◌≡◌, ℕ, true, false, List, Option, Some, None}
use Rattle.desk_ports.specs.Faults.{next_count}
use Rattle.link_ports.specs.Traffic.{Traffic}
use Rattle.link_ports.specs.LinkMarks.{LinkMarks}
use Rattle.link_ports.specs.LinkContent.{LinkContent}
use Rattle.client_connection.specs.Giving.{GivesBack}
use Rattle.cynara_client.specs.Looking.{IsLooked}

module _ {L : Type 0} (link_faults : L → ℕ) (marks : L → LinkMarks) (traffic : L → Option Traffic)
    (content : L → Option LinkContent) where
  module _ {N : Type 0} (faults dials : N → ℕ) (given_back : N → Option (List L)) where
    -- it was given back, which the dialler counts
    pub record IsLost (before : L) (old new : N) : Type 0 where
      pub after : L
      pub looked : IsLooked link_faults marks traffic content false before after
      pub gives : GivesBack faults dials given_back link_faults marks after old new
      pub counted : faults new ≡ next_count (faults old)

    abbrev pub LooksAt : L → Option L → N → N → Type 0
    LooksAt before (Some after) old new = IsLooked link_faults marks traffic content true before after × (new ≡ old)
    LooksAt before None old new = IsLost before old new
