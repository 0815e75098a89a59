-- Messages of an administrator that are no commands.
use Rattle.wire_fields.specs.declared.messages.Message.{Message}
use Rattle.wire_fields.specs.declared.messages.Message.TheVariants.{Listing, AdminCheck, Stop, ReadState, ReadService}

abbrev pub IsNoCommand : Message → Type 0
IsNoCommand (Listing bucket filter) = Unit {0}
IsNoCommand (AdminCheck bucket recursive question) = Unit {0}
IsNoCommand Stop = Unit {0}
IsNoCommand ReadState = Unit {0}
IsNoCommand ReadService = Unit {0}
IsNoCommand other = ⊥
