use Rattle.std.proofs.Common.{◌^◌, ◌<◌, Bool, true, false, cond, length}
use Rattle.app_registry.specs.declared.installs.Install.{Install}
use Rattle.wire_fields.specs.declared.messages.Message.TheVariants as message
use Rattle.wire_fields.specs.Right.{IsInstall, IsRight, HasRoom}
use Rattle.wire_messages.proofs.right_fields.install_message_is_right.Goals as goal

-- by the kind of the package
either : (install : Install) (hybrid : Bool) → (length install.privileges < 2 ^ 32 → IsInstall hybrid install)
    → HasRoom (cond hybrid (message.InstallHybrid install) (message.Install install))
    → IsRight (cond hybrid (message.InstallHybrid install) (message.Install install))
either install true right room = right room
either install false right room = right room

pub returns : goal.returns
returns c = either c.args.install.now c.args.install.now.hybrid c.install_is_right.ensures
