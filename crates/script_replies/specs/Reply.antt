-- What each step of a script is answered at a policy state with the shares that are open, and the state and the shares
-- that it leaves.
use Rattle.std.specs.Prelude.{ℕ, true, if◌then◌else◌, List, [], ◌++◌, length, Option, Some, None}
use Rattle.std.specs.List.{flat_map}
use Rattle.cynara_keys.specs.Field.{field_text}
use Rattle.cynara_keys.specs.Key.{Key}
use Rattle.cynara_keys.specs.declared.keys.Policy.{Policy}
use Rattle.bucket_store.specs.Database.{Database, root, has_bucket}
use Rattle.bucket_store.specs.Change.{listed}
use Rattle.bucket_eval.specs.Evaluation.{Outcome, answer}
use Rattle.smack_rules.specs.Effective.{effective}
use Rattle.smack_rules.specs.Decision.{decision}
use Rattle.smack_rules.specs.declared.decision.Decision.{Decision}
use Rattle.smack_rules.specs.declared.modes.Modes.{Modes}
use Rattle.desk_state.specs.DeskState.{DeskState, smack_rules}
use Rattle.desk_state.specs.Next.{next, erased_by}
use Rattle.desk_state.specs.Rules.{fault}
use Rattle.desk_state.specs.declared.commands.Command.{Command}
use Rattle.desk_state.specs.declared.commands.Command.TheVariants.{Erase}
use Rattle.desk_state.specs.declared.refusals.Refusal.{Refusal}
use Rattle.desk_state.specs.declared.refusals.Refusal.TheVariants.{NoBucket}
use Rattle.line_answers.specs.Answers.{accepted_text, erased_text, by_policy_text, by_fallback_text, row_text}
use Rattle.line_answers.specs.Answers.{rows_text, decided_text, status_text, refusal_text}
use Rattle.level_requests.specs.declared.requests.LevelRequest.{LevelRequest}
use Rattle.policy_levels.specs.Command.{command_of}
use Rattle.policy_levels.specs.Levels.{levels_in}
use Rattle.policy_levels.specs.Refusal.{fault as level_fault}
use Rattle.policy_levels.specs.declared.refusals.LevelRefusal.{LevelRefusal}
use Rattle.private_sharing.specs.Rules.{rules}
use Rattle.private_sharing.specs.Shares.{settled}
use Rattle.private_sharing.specs.declared.shares.Share.{Share}
use Rattle.script_replies.specs.Levels.{level_refusal_text, level_rows_text, audit_reply}
use Rattle.script_replies.specs.Sharing.{share_reply, unshare_reply, shares_reply, shares_opened, shares_closed}
use Rattle.line_script.specs.declared.steps.Step.{Step}
use Rattle.line_script.specs.declared.steps.Step.TheVariants as step

-- ---- commands

-- what an accepted command is answered, with the commit number that it leaves and the policies that it erased
abbrev pub done_text : Command → ℕ → ℕ → List ℕ
done_text (Erase name filter) commit count = erased_text commit count
done_text command commit count = accepted_text commit

abbrev pub command_text : DeskState → Command → Option Refusal → List ℕ
command_text desk command None = done_text command (next desk command).commit (erased_by desk command)
command_text desk command (Some refusal) = refusal_text refusal

-- a refused command leaves the state as it was
abbrev pub applied : DeskState → Command → Option Refusal → DeskState
applied desk command None = next desk command
applied desk command (Some refusal) = desk

-- after an accepted command only the shares of installed applications are open
abbrev pub settled_by : DeskState → List Share → Command → Option Refusal → List Share
settled_by desk shares command None = settled (next desk command).registry shares
settled_by desk shares command (Some refusal) = shares

-- what a command is answered, and the state and the shares that it leaves
abbrev pub command_reply : DeskState → Command → List ℕ
command_reply desk command = command_text desk command (fault desk command)

abbrev pub after_command : DeskState → Command → DeskState
after_command desk command = applied desk command (fault desk command)

abbrev pub shares_after_command : DeskState → List Share → Command → List Share
shares_after_command desk shares command = settled_by desk shares command (fault desk command)

-- ---- levels

-- a request that is right is its command
abbrev pub level_reply : DeskState → LevelRequest → Option LevelRefusal → List ℕ
level_reply desk request None = command_reply desk (command_of request)
level_reply desk request (Some refusal) = level_refusal_text refusal

abbrev pub after_level : DeskState → LevelRequest → Option LevelRefusal → DeskState
after_level desk request None = after_command desk (command_of request)
after_level desk request (Some refusal) = desk

abbrev pub shares_after_level : DeskState → List Share → LevelRequest → Option LevelRefusal → List Share
shares_after_level desk shares request None = shares_after_command desk shares (command_of request)
shares_after_level desk shares request (Some refusal) = shares

abbrev pub level_command : LevelRequest → Option LevelRefusal → Option Command
level_command request None = Some (command_of request)
level_command request (Some refusal) = None

-- ---- questions

-- an evaluation, by the policy with this key or by the fallback
abbrev pub verdict_by : ℕ → Outcome → Option Key → List ℕ
verdict_by commit outcome None = by_fallback_text commit outcome.cause.bucket outcome.result
verdict_by commit outcome (Some key) =
    by_policy_text commit outcome.cause.bucket outcome.result
    (field_text key.client) (field_text key.user) (field_text key.privilege)

abbrev pub verdict_text : ℕ → Outcome → List ℕ
verdict_text commit outcome = verdict_by commit outcome outcome.cause.key

-- a row of a list
abbrev pub policy_text : Policy → List ℕ
policy_text policy =
    row_text (field_text policy.key.client) (field_text policy.key.user) (field_text policy.key.privilege) policy.result

-- the policies of a list, a row each, and how many they are
abbrev pub list_text : List Policy → List ℕ
list_text policies = flat_map policy_text policies ++ rows_text (length policies)

-- a question about a bucket that is not there is refused
abbrev pub about : Database → List ℕ → List ℕ → List ℕ
about database name text = if has_bucket name database then text else refusal_text (NoBucket name)

-- the decision on a request under the rules of all packages, with those of the open shares behind them
abbrev pub decided : DeskState → List Share → List ℕ → List ℕ → Modes → Decision
decided desk shares subject object asked =
    decision subject object asked (effective (smack_rules desk ++ rules desk.registry shares) subject object)

-- ---- steps

-- the answer to a step
abbrev pub reply : DeskState → List Share → Step → List ℕ
reply desk shares step.Nothing = []
reply desk shares (step.Command command) = command_reply desk command
reply desk shares (step.List name filter) = about desk.database name (list_text (listed name filter desk.database))
reply desk shares (step.Check question) = verdict_text desk.commit (answer desk.database root question true)
reply desk shares (step.From name deep question) =
    about desk.database name (verdict_text desk.commit (answer desk.database name question deep))
reply desk shares (step.Access subject object asked) = decided_text (decided desk shares subject object asked)
reply desk shares (step.Level request) = level_reply desk request (level_fault desk request)
reply desk shares (step.Levels uid) = level_rows_text (levels_in desk.database uid)
reply desk shares (step.Audit user) = audit_reply desk user
reply desk shares (step.Share owner target name) = share_reply desk.registry owner target name shares
reply desk shares (step.Unshare owner target name) = unshare_reply owner target name shares
reply desk shares step.Shares = shares_reply desk.registry shares
reply desk shares step.Status = status_text desk.commit
reply desk shares step.Stop = accepted_text desk.commit

-- the state behind a step
abbrev pub after : DeskState → Step → DeskState
after desk (step.Command command) = after_command desk command
after desk (step.Level request) = after_level desk request (level_fault desk request)
after desk other = desk

-- the shares behind a step
abbrev pub shares_after : DeskState → List Share → Step → List Share
shares_after desk shares (step.Command command) = shares_after_command desk shares command
shares_after desk shares (step.Level request) = shares_after_level desk shares request (level_fault desk request)
shares_after desk shares (step.Share owner target name) = shares_opened desk.registry owner target name shares
shares_after desk shares (step.Unshare owner target name) = shares_closed owner target name shares
shares_after desk shares other = shares

-- the command that a step is or comes to; it may be refused
abbrev pub command_in : DeskState → Step → Option Command
command_in desk (step.Command command) = Some command
command_in desk (step.Level request) = level_command request (level_fault desk request)
command_in desk other = None
