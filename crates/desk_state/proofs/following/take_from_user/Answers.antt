use Rattle.std.proofs.Common.{false, rules}
use Rattle.app_registry.specs.Install.{is_for_user}
use Rattle.desk_state.proofs.Appending.{changes-more}
use Rattle.desk_state.proofs.following.take_from_user.Goals as goal

pub loop-install-preserved : goal.loop-install-preserved
loop-install-preserved c =
    changes-more false (λ install. is_for_user c.args.uid install.scope) c.args.installs.now c.args.changes.now.items c.loop-install.changes.items
    c.take_of_user.new.changes.items c.loop-install.install-index c.install-item.result (search rules) c.install-item.is
    c.loop-install.invariant c.in_ok-take_of_user.ensures
