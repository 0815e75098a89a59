-- The world as the code keeps it.
use Rattle.std.specs.Prelude.{◌≡◌, Bool, true, false, Option, Some, None}
use Rattle.desk_world.specs.World.{World}
use Rattle.desk_world.specs.declared.parts.Parts.{Parts}

abbrev pub world_of : Parts → World
world_of parts = record {
  first = parts.first;
  later = parts.later.items;
  acknowledged = parts.acknowledged;
  candidate = parts.candidate;
  published = parts.published;
  note = parts.note;
  run = parts.run;
  links = parts.links.items;
  clients = parts.clients.items;
  asks = parts.asks.items;
  given = parts.given.items;
  agents = parts.agents.items;
  entries = parts.entries.items;
}

-- the event was enabled, and this is the world after it; or it was not
abbrev pub Becomes : Option World → Bool → World → Type 0
Becomes None enabled after = enabled ≡ false
Becomes (Some next) enabled after = (enabled ≡ true) × (after ≡ next)
