-- What a refusal names.
use Rattle.std.proofs.Common.{◌≡◌, true, Some}
use Rattle.desk_state.specs.DeskState.{DeskState}
use Rattle.desk_state.specs.Rules.{Refuses, fault}
use Rattle.desk_state.specs.declared.commands.Command.{Command}
use Rattle.desk_state.specs.declared.refusals.Refusal.{Refusal}
use Rattle.desk_state.specs.declared.refusals.Refusal.TheVariants as refusal
use Rattle.line_answers.specs.Refusals.{names_a_rule}

-- a refusal that names a rule names the first one
pub refused-rule : (desk : DeskState) (command : Command) (broken : Refusal) → names_a_rule broken ≡ true
    → Refuses desk command broken → fault desk command ≡ Some broken
refused-rule desk command (refusal.Memory error) names refuses = cc
refused-rule desk command (refusal.Reserved name) names refuses = refuses
refused-rule desk command refusal.LayoutThere names refuses = refuses
refused-rule desk command refusal.NoLayout names refuses = refuses
refused-rule desk command (refusal.NoBucket name) names refuses = refuses
refused-rule desk command refusal.RootBucket names refuses = refuses
refused-rule desk command (refusal.BadKind kind) names refuses = refuses
refused-rule desk command (refusal.UnknownUser uid) names refuses = refuses
refused-rule desk command (refusal.OtherPackage name) names refuses = refuses
refused-rule desk command (refusal.OtherAuthor author) names refuses = refuses
refused-rule desk command (refusal.OtherHybrid hybrid) names refuses = refuses
refused-rule desk command refusal.NotInstalled names refuses = refuses
refused-rule desk command (refusal.Limit counted most) names refuses = refuses
refused-rule desk command (refusal.Cycle name) names refuses = refuses
