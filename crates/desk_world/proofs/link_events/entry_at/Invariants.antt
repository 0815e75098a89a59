use Rattle.std.proofs.Common.{◌≡◌, drop}
use Rattle.desk_world.specs.World.{entry_at}
use Rattle.desk_world.proofs.link_events.entry_at.Given as goal

-- the entries that are left have the entry, if there is one
abbrev pub invariant-loop-entry : goal.invariant-loop-entry
invariant-loop-entry l = entry_at l.run l.number (drop l.entry-index l.entries) ≡ entry_at l.run l.number l.entries
