use Rattle.std.proofs.Common.{◌≡◌, ◌++◌, map, take}
use Rattle.app_registry.specs.Manifest.{grant}
use Rattle.desk_state.specs.parts.Following.{grant_change}
use Rattle.desk_state.proofs.following.change_each.Given as goal

abbrev pub invariant-loop-privilege : goal.invariant-loop-privilege
invariant-loop-privilege l =
    l.changes.items
    ≡ l.fn.changes.items ++ map (grant_change l.allowed) (map (grant l.client l.user) (take l.privilege-index l.privileges))
