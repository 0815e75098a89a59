-- The commands that messages carry, and the message of each.
use Rattle.std.specs.Prelude.{if◌then◌else◌, Option, Some, None}
use Rattle.app_registry.specs.declared.installs.Install.{Install as Installed}
use Rattle.desk_state.specs.declared.commands.Command.{Command}
use Rattle.desk_state.specs.declared.commands.Command.TheVariants as command
use Rattle.desk_state.specs.declared.refusals.Refusal.{Refusal}
use Rattle.desk_state.specs.declared.refusals.Refusal.TheVariants.{Memory}
use Rattle.wire_fields.specs.Right.{IsTemplate}
use Rattle.wire_fields.specs.declared.messages.Message.{Message}
use Rattle.wire_fields.specs.declared.messages.Message.TheVariants as message

-- the command of an administrator's message, if it is one
abbrev pub command_of : Message → Option Command
command_of (message.SetBucket bucket fallback) = Some (command.SetBucket bucket fallback)
command_of (message.RemoveBucket bucket) = Some (command.RemoveBucket bucket)
command_of (message.SetPolicies changes) = Some (command.SetPolicies changes)
command_of (message.Erase bucket filter) = Some (command.Erase bucket filter)
command_of message.Layout = Some command.Layout
command_of (message.SetTemplate template) = Some (command.SetTemplate template)
command_of (message.UserSet uid kind) = Some (command.UserSet uid kind)
command_of (message.UserRemove uid) = Some (command.UserRemove uid)
command_of (message.Install install) = Some (command.Install install)
command_of (message.InstallHybrid install) = Some (command.Install install)
command_of (message.Convert name hybrid) = Some (command.Convert name hybrid)
command_of (message.Uninstall app scope) = Some (command.Uninstall app scope)
command_of other = None

-- the message that installs, by the kind of the package
abbrev pub install_message : Installed → Message
install_message install = if install.hybrid then message.InstallHybrid install else message.Install install

-- the message that carries a command
abbrev pub message_of : Command → Message
message_of (command.SetBucket bucket fallback) = message.SetBucket bucket fallback
message_of (command.RemoveBucket bucket) = message.RemoveBucket bucket
message_of (command.SetPolicies changes) = message.SetPolicies changes
message_of (command.Erase bucket filter) = message.Erase bucket filter
message_of command.Layout = message.Layout
message_of (command.SetTemplate template) = message.SetTemplate template
message_of (command.UserSet uid kind) = message.UserSet uid kind
message_of (command.UserRemove uid) = message.UserRemove uid
message_of (command.Install install) = install_message install
message_of (command.Uninstall app scope) = message.Uninstall app scope
message_of (command.Convert name hybrid) = message.Convert name hybrid

-- a refusal by a rule, and no want of memory
abbrev pub IsByRule : Refusal → Type 0
IsByRule (Memory error) = ⊥
IsByRule refusal = Unit {0}

-- a template that the command sets is one that its text is read as
abbrev pub HasRightText : Command → Type 0
HasRightText (command.SetTemplate template) = IsTemplate template
HasRightText other = Unit {0}
