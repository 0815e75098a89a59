use Rattle.std.proofs.Common.{◌≡◌, ◌++◌, map, take}
use Rattle.app_registry.specs.Manifest.{grants}
use Rattle.desk_state.specs.parts.Following.{grant_change}
use Rattle.desk_state.proofs.following.change_installs.Given as goal

abbrev pub invariant-loop-install : goal.invariant-loop-install
invariant-loop-install l =
    l.changes.items ≡ l.fn.changes.items ++ map (grant_change l.allowed) (grants (take l.install-index l.installs))
