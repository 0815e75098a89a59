use Rattle.std.proofs.Common.{◌≡◌, ◌++◌, false, take}
use Rattle.app_registry.specs.Install.{is_for_user}
use Rattle.desk_state.specs.parts.Following.{grant_changes}
use Rattle.desk_state.proofs.following.take_from_user.Given as goal

abbrev pub invariant-loop-install : goal.invariant-loop-install
invariant-loop-install l =
    l.changes.items
    ≡ l.fn.changes.items ++ grant_changes false (λ install. is_for_user l.uid install.scope) (take l.install-index l.installs)
