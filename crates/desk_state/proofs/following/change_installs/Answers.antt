use Rattle.std.proofs.Common.{rules}
use Rattle.desk_state.proofs.Appending.{granted-more}
use Rattle.desk_state.proofs.following.change_installs.Goals as goal

pub loop-install-preserved : goal.loop-install-preserved
loop-install-preserved c =
    granted-more c.args.allowed c.args.installs.now c.args.changes.now.items c.loop-install.changes.items
    c.change_install.new.changes.items c.loop-install.install-index c.install-item.result (search rules) c.install-item.is
    c.loop-install.invariant c.in_ok-change_install.ensures
