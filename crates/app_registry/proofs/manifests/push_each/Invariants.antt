use Rattle.std.proofs.Common.{◌≡◌, ◌++◌, map, take}
use Rattle.app_registry.specs.Manifest.{grant}
use Rattle.app_registry.proofs.manifests.push_each.Given as goal

abbrev pub invariant-loop-privilege : goal.invariant-loop-privilege
invariant-loop-privilege l =
    l.rows.items ≡ l.fn.rows.items ++ map (grant l.client l.user) (take l.privilege-index l.privileges)
