-- What the admin worker and the disk do: store, publish, hang up, acknowledge, in this order; and stops.
use Rattle.std.specs.Prelude.{ℕ, Bool, true, false, not, ◌&&◌, ◌==◌, nat_lt}
use Rattle.std.specs.Prelude.{◌+◌, if◌then◌else◌, [], map, Option, Some, None, is_none}
use Rattle.desk_state.specs.DeskState.{DeskState}
use Rattle.desk_state.specs.Next.{next}
use Rattle.desk_state.specs.Rules.{fault}
use Rattle.desk_state.specs.declared.commands.Command.{Command}
use Rattle.desk_world.specs.World.{World, latest, last, with_commit}
use Rattle.desk_world.specs.Clients.{when, with_some}
use Rattle.desk_world.specs.Agents.{once_stopped}
use Rattle.desk_world.specs.declared.links.Link.{Link}

-- ---- storing

-- the last commit is acknowledged and no other is under way, and no rule refuses the command
abbrev pub may_store : Command → World → Bool
may_store command world =
    world.acknowledged == last world && (is_none world.candidate && is_none (fault (latest world) command))

abbrev pub stored : Command → World → Option World
stored command world = when (may_store command world) (with_commit (next (latest world) command) world)

abbrev pub undecided : Command → World → Option World
undecided command world =
    when (may_store command world) (record world { candidate = Some (next (latest world) command) })

-- the state is committed, if there is one
abbrev pub committed : Option DeskState → World → World
committed None world = world
committed (Some desk) world = with_commit desk world

abbrev pub decided : Bool → DeskState → World → World
decided kept desk world = record (committed (if kept then Some desk else None) world) { candidate = None }

abbrev pub decide : Bool → World → Option World
decide kept world = with_some world.candidate (λ desk. Some (decided kept desk world))

-- ---- publishing, hanging up, acknowledging

abbrev pub publish : World → Option World
publish world =
    when (is_none world.candidate && nat_lt world.published (last world)) (record world { published = last world })

-- a link is closed that entered before the published commit; one that did not enter yet will enter at it or later
abbrev pub entered_before : ℕ → Option ℕ → Bool
entered_before published None = false
entered_before published (Some entered) = nat_lt entered published

abbrev pub hung_up : ℕ → Link → Link
hung_up published link = record link { up = link.up && not (entered_before published link.entered) }

abbrev pub hang : World → World
hang world = record world { note = world.published; links = map (hung_up world.published) world.links }

abbrev pub acknowledge : World → Option World
acknowledge world = when (nat_lt world.acknowledged world.note) (record world { acknowledged = world.note })

-- ---- stops

abbrev pub closed : Link → Link
closed link = record link { up = false }

-- the service has started again from the last state
abbrev pub restarted : World → World
restarted world = record world {
  acknowledged = last world;
  candidate = None;
  published = last world;
  note = last world;
  run = world.run + 1;
  links = map closed world.links;
  agents = [];
  entries = map once_stopped world.entries;
}

-- the state that a stop may keep: of the command that was being stored, or the candidate
abbrev pub under_way : Option Command → World → Option DeskState
under_way None world = world.candidate
under_way (Some command) world = Some (next (latest world) command)

abbrev pub may_stop : Option Command → World → Bool
may_stop None world = true
may_stop (Some command) world = may_store command world

abbrev pub stop : Option Command → Bool → World → Option World
stop command kept world =
    when (may_stop command world) (restarted (committed (if kept then under_way command world else None) world))
