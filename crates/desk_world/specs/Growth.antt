-- That no event takes anything back rests on the numbers and the history alone.
use Rattle.std.specs.Prelude.{◌≡◌, Some}
use Rattle.desk_world.specs.World.{World}
use Rattle.desk_world.specs.Events.{after}
use Rattle.desk_world.specs.Grows.{Grows}
use Rattle.desk_world.specs.Kept.{HasHistory}
use Rattle.desk_world.specs.declared.events.Event.{Event}

-- from any world whose numbers are in order and whose states are a chain, whatever its links, clients and asks
abbrev pub EachGrows : Type 0
EachGrows = (before next : World) (event : Event) → HasHistory before → after event before ≡ Some next
    → Grows before next
