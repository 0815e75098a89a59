-- The exact texts of the answers. Each is one line with its newline.
use Rattle.std.specs.Prelude.{ℕ, Bool, if◌then◌else◌, ◌==◌, List, [], ◌∷◌, ◌++◌, Option, Some, None, decimal, codes}
use Rattle.cynara_keys.specs.PolicyResult.{Ruling, deny, none, bucket, allow}
use Rattle.cynara_keys.specs.declared.limits.Counted.{Counted}
use Rattle.cynara_keys.specs.declared.limits.Counted.TheVariants.{Commits, Users, Packages, Installs, Grants, Buckets}
use Rattle.cynara_keys.specs.declared.limits.Counted.TheVariants.{Policies}
use Rattle.smack_rules.specs.Modes.{spelling}
use Rattle.smack_rules.specs.declared.modes.Modes.{Modes}
use Rattle.smack_rules.specs.declared.decision.Decision.{Decision}
use Rattle.app_registry.specs.declared.users.UserType.{UserType}
use Rattle.level_requests.specs.Level.{level_text as level_word}
use Rattle.level_requests.specs.declared.levels.Level.{Level}
use Rattle.desk_state.specs.declared.refusals.Refusal.{Refusal}
use Rattle.desk_state.specs.declared.refusals.Refusal.TheVariants as refusal
use Rattle.script_words.specs.WordForms.{user_type_text}
use Rattle.line_answers.specs.declared.level_answers.LevelAnswer.{LevelAnswer}
use Rattle.line_answers.specs.declared.level_answers.LevelAnswer.TheVariants as level
use Rattle.line_answers.specs.declared.level_answers.ShareAnswer.{ShareAnswer}
use Rattle.line_answers.specs.declared.level_answers.ShareAnswer.TheVariants as share
use Rattle.line_answers.specs.declared.answers.LineAnswer.{LineAnswer}
use Rattle.line_answers.specs.declared.answers.LineAnswer.TheVariants.{Accepted, Erased, ByPolicy, ByFallback}
use Rattle.line_answers.specs.declared.answers.LineAnswer.TheVariants.{FromAgent, NotResolved, NoAgent, AgentGone}
use Rattle.line_answers.specs.declared.answers.LineAnswer.TheVariants.{AgentFull, Row, Rows, Access, Status, OfLevels}
use Rattle.line_answers.specs.declared.answers.LineAnswer.TheVariants.{OfShares, Refused, StoreFault, StoreDamaged}
use Rattle.line_answers.specs.declared.answers.LineAnswer.TheVariants.{AgentQuestion, KindTaken, CommandLineFault}
use Rattle.line_answers.specs.declared.answers.LineAnswer.TheVariants.{LineFault, Damaged, ReplyFault, FrameTooLong}

-- ---- parts of lines

-- the root bucket's name is empty, and its text is `.`
abbrev pub bucket_text : List ℕ → List ℕ
bucket_text [] = codes "."
bucket_text (byte ∷ bytes) = byte ∷ bytes

abbrev pub result_text : Ruling → List ℕ
result_text result =
    if result.kind == deny then codes "deny"
    else (if result.kind == none then codes "none"
    else (if result.kind == allow then codes "allow"
    else (if result.kind == bucket then codes "bucket:" ++ bucket_text result.metadata
    else codes "agent:" ++ (decimal result.kind ++ (codes ":" ++ result.metadata)))))

-- `RESULT COMMIT BUCKET`, which the text of each evaluation begins with
abbrev pub verdict_text : ℕ → List ℕ → Ruling → List ℕ
verdict_text commit name result = result_text result ++ (codes " "
    ++ (decimal commit ++ (codes " " ++ bucket_text name)))

-- `CLIENT USER PRIVILEGE`
abbrev pub key_text : List ℕ → List ℕ → List ℕ → List ℕ
key_text client user privilege = client ++ (codes " " ++ (user ++ (codes " " ++ privilege)))

abbrev pub counted_text : Counted → List ℕ
counted_text Commits = codes "commits"
counted_text Users = codes "users"
counted_text Packages = codes "packages"
counted_text Installs = codes "installs"
counted_text Grants = codes "grants"
counted_text Buckets = codes "buckets"
counted_text Policies = codes "policies"

abbrev pub decision_text : Bool → List ℕ
decision_text allowed = if allowed then codes "allow" else codes "deny"

-- the author of a package, with `-` for none
abbrev pub author_text : Option (List ℕ) → List ℕ
author_text None = codes "-"
author_text (Some author) = author

-- whether a package is hybrid
abbrev pub hybrid_text : Bool → List ℕ
hybrid_text hybrid = if hybrid then codes "yes" else codes "no"

-- ---- answers to commands

-- a command was accepted
unfoldable pub accepted_text : ℕ → List ℕ
accepted_text commit = codes "ok " ++ (decimal commit ++ codes "\n")

-- an erasing was accepted, which took away so many policies
unfoldable pub erased_text : ℕ → ℕ → List ℕ
erased_text commit count = codes "ok " ++ (decimal commit ++ (codes " erased " ++ (decimal count ++ codes "\n")))

-- the number and the name of the rule that a refusal names; want of memory is no rule
abbrev pub rule_text : Refusal → List ℕ
rule_text (refusal.Reserved name) = codes "1 reserved"
rule_text refusal.LayoutThere = codes "2 layout-there"
rule_text refusal.NoLayout = codes "3 no-layout"
rule_text (refusal.NoBucket name) = codes "4 no-bucket"
rule_text refusal.RootBucket = codes "5 root-bucket"
rule_text (refusal.BadKind kind) = codes "6 bad-kind"
rule_text (refusal.UnknownUser uid) = codes "7 unknown-user"
rule_text (refusal.OtherPackage name) = codes "8 other-package"
rule_text (refusal.OtherAuthor author) = codes "9 other-author"
rule_text (refusal.OtherHybrid hybrid) = codes "14 other-hybrid"
rule_text refusal.NotInstalled = codes "10 not-installed"
rule_text (refusal.Limit counted most) = codes "11 limit"
rule_text (refusal.Cycle name) = codes "12 cycle"
rule_text (refusal.Memory error) = []

-- what the rule is about, with a space in front
abbrev pub subject_text : Refusal → List ℕ
subject_text (refusal.Reserved name) = codes " " ++ bucket_text name
subject_text (refusal.NoBucket name) = codes " " ++ bucket_text name
subject_text (refusal.BadKind kind) = codes " " ++ decimal kind.0
subject_text (refusal.UnknownUser uid) = codes " " ++ decimal uid
subject_text (refusal.OtherPackage name) = codes " " ++ name
subject_text (refusal.OtherAuthor author) = codes " " ++ author_text author
subject_text (refusal.OtherHybrid hybrid) = codes " " ++ hybrid_text hybrid
subject_text (refusal.Limit counted most) = codes " " ++ (counted_text counted ++ (codes " " ++ decimal most))
subject_text (refusal.Cycle name) = codes " " ++ bucket_text name
subject_text other = []

-- a command was refused
unfoldable pub refusal_text : Refusal → List ℕ
refusal_text refusal = codes "refused " ++ (rule_text refusal ++ (subject_text refusal ++ codes "\n"))

-- ---- answers to questions

-- an evaluation that a policy of a bucket decided
unfoldable pub by_policy_text : ℕ → List ℕ → Ruling → List ℕ → List ℕ → List ℕ → List ℕ
by_policy_text commit name result client user privilege =
    verdict_text commit name result ++ (codes " " ++ (key_text client user privilege ++ codes "\n"))

-- an evaluation that the fallback of a bucket decided
unfoldable pub by_fallback_text : ℕ → List ℕ → Ruling → List ℕ
by_fallback_text commit name fallback = verdict_text commit name fallback ++ codes " default\n"

-- an agent's answer to the question with this number
unfoldable pub from_agent_text : ℕ → Bool → ℕ → ℕ → List ℕ
from_agent_text commit allowed kind number =
    decision_text allowed ++ (codes " " ++ (decimal commit ++
    (codes " agent " ++ (decimal kind ++ (codes " " ++ (decimal number ++ codes "\n"))))))

-- a verdict that names an agent's kind, where none was asked
unfoldable pub not_resolved_text : ℕ → ℕ → List ℕ
not_resolved_text commit kind = codes "not-resolved " ++ (decimal commit ++ (codes " " ++ (decimal kind ++ codes "\n")))

-- no agent of this kind is there
unfoldable pub no_agent_text : ℕ → ℕ → List ℕ
no_agent_text commit kind = codes "no-agent " ++ (decimal commit ++ (codes " " ++ (decimal kind ++ codes "\n")))

-- the agent left that was asked the question with this number
unfoldable pub agent_gone_text : ℕ → ℕ → List ℕ
agent_gone_text commit number = codes "agent-gone " ++ (decimal commit ++ (codes " " ++ (decimal number ++ codes "\n")))

-- an agent of this kind is asked no more, since there are so many questions
unfoldable pub agent_full_text : ℕ → ℕ → ℕ → List ℕ
agent_full_text commit kind most =
    codes "agent-full " ++ (decimal commit ++ (codes " " ++ (decimal kind
    ++ (codes " " ++ (decimal most ++ codes "\n")))))

-- one policy of a list
unfoldable pub row_text : List ℕ → List ℕ → List ℕ → Ruling → List ℕ
row_text client user privilege result =
    codes "row " ++ (key_text client user privilege ++ (codes " " ++ (result_text result ++ codes "\n")))

-- the end of a list of so many policies
unfoldable pub rows_text : ℕ → List ℕ
rows_text count = codes "rows " ++ (decimal count ++ codes "\n")

-- a decision of Smack, with the number of the case that decided
unfoldable pub access_text : Bool → ℕ → List ℕ
access_text allowed rule = codes "access " ++ (decision_text allowed ++ (codes " " ++ (decimal rule ++ codes "\n")))

abbrev pub decided_text : Decision → List ℕ
decided_text decided = access_text decided.allowed decided.rule

-- the number of the last accepted command
unfoldable pub status_text : ℕ → List ℕ
status_text commit = codes "commit " ++ (decimal commit ++ codes "\n")

-- ---- of levels and audits

-- a level that is set
unfoldable pub level_text : List ℕ → List ℕ → Level → List ℕ
level_text client privilege level =
    codes "level " ++ (client ++ (codes " " ++ (privilege ++ (codes " " ++ (level_word level ++ codes "\n")))))

-- the end of a list of so many levels
unfoldable pub levels_text : ℕ → List ℕ
levels_text count = codes "levels " ++ (decimal count ++ codes "\n")

-- an application may use a privilege
unfoldable pub allowed_text : List ℕ → List ℕ → List ℕ
allowed_text client privilege = codes "allowed " ++ (client ++ (codes " " ++ (privilege ++ codes "\n")))

-- the end of a list of so many of these pairs
unfoldable pub pairs_text : ℕ → List ℕ
pairs_text count = codes "pairs " ++ (decimal count ++ codes "\n")

-- a user of this type sets levels for nobody else
unfoldable pub not_administrator_text : UserType → List ℕ
not_administrator_text kind = codes "refused 15 not-administrator " ++ (user_type_text kind ++ codes "\n")

-- an audit would ask about so many pairs
unfoldable pub too_many_text : ℕ → List ℕ
too_many_text product = codes "refused 16 too-many " ++ (decimal product ++ codes "\n")

-- ---- of shares

-- a share is open so often now
unfoldable pub shared_text : ℕ → List ℕ
shared_text count = codes "shared " ++ (decimal count ++ codes "\n")

-- a Smack rule that gives these modes and takes nothing away
unfoldable pub rule_row_text : List ℕ → List ℕ → Modes → List ℕ
rule_row_text subject object modes =
    codes "rule " ++ (subject ++ (codes " " ++ (object ++ (codes " " ++ (spelling modes ++ codes " -\n")))))

-- the end of a list of so many rules
unfoldable pub rule_rows_text : ℕ → List ℕ
rule_rows_text count = codes "rules " ++ (decimal count ++ codes "\n")

-- the application is not installed
unfoldable pub unknown_app_text : List ℕ → List ℕ
unknown_app_text app = codes "refused 17 unknown-app " ++ (app ++ codes "\n")

-- both applications have this label
unfoldable pub same_label_text : List ℕ → List ℕ
same_label_text label = codes "refused 18 same-label " ++ (label ++ codes "\n")

-- there is no such share
unfoldable pub not_shared_text : List ℕ
not_shared_text = codes "refused 19 not-shared\n"

-- there are so many shares already, or the share is open so often
unfoldable pub share_limit_text : ℕ → List ℕ
share_limit_text most = codes "refused 20 share-limit " ++ (decimal most ++ codes "\n")

-- ---- of a service

-- the store failed while the service kept a command
unfoldable pub store_fault_text : List ℕ
store_fault_text = codes "store-fault\n"

-- a file of the store of the service is no text of a policy state
unfoldable pub store_damaged_text : List ℕ → ℕ → List ℕ
store_damaged_text file line = codes "store-damaged " ++ (file ++ (codes " " ++ (decimal line ++ codes "\n")))

-- what an agent is asked, and the result that asks it
unfoldable pub question_text : ℕ → List ℕ → List ℕ → List ℕ → Ruling → List ℕ
question_text number client user privilege result =
    codes "question " ++ (decimal number ++ (codes " " ++ (key_text client user privilege
    ++ (codes " " ++ (result_text result ++ codes "\n")))))

-- another agent of this kind is there
unfoldable pub taken_text : ℕ → List ℕ
taken_text kind = codes "taken " ++ (decimal kind ++ codes "\n")

-- ---- last lines

unfoldable pub command_line_text : List ℕ
command_line_text = codes "fault command line\n"

-- a line is outside its grammar
unfoldable pub line_fault_text : ℕ → List ℕ
line_fault_text line = codes "syntax " ++ (decimal line ++ codes "\n")

-- a file of the folder is no text of a policy state
unfoldable pub damaged_text : List ℕ → ℕ → List ℕ
damaged_text file line = codes "damaged " ++ (file ++ (codes " " ++ (decimal line ++ codes "\n")))

-- the bytes of a peer are no reply
unfoldable pub reply_fault_text : List ℕ
reply_fault_text = codes "fault reply\n"

-- a command would be a frame of this length
unfoldable pub too_long_text : ℕ → List ℕ
too_long_text length = codes "fault too-long " ++ (decimal length ++ codes "\n")

-- ---- the text of each answer

abbrev pub ruling : ℕ → List ℕ → Ruling
ruling kind metadata = record { kind = kind; metadata = metadata }

abbrev pub level_answer_text : LevelAnswer → List ℕ
level_answer_text (level.Set client privilege set) = level_text client.now privilege.now set
level_answer_text (level.Levels count) = levels_text count
level_answer_text (level.Allowed client privilege) = allowed_text client.now privilege.now
level_answer_text (level.Pairs count) = pairs_text count
level_answer_text (level.NotAdministrator kind) = not_administrator_text kind
level_answer_text (level.TooMany product) = too_many_text product

abbrev pub share_answer_text : ShareAnswer → List ℕ
share_answer_text (share.Shared count) = shared_text count
share_answer_text (share.Rule subject object modes) = rule_row_text subject.now object.now modes
share_answer_text (share.Rules count) = rule_rows_text count
share_answer_text (share.UnknownApp app) = unknown_app_text app.now
share_answer_text (share.SameLabel label) = same_label_text label.now
share_answer_text share.NotShared = not_shared_text
share_answer_text (share.ShareLimit most) = share_limit_text most

abbrev pub answer_text : LineAnswer → List ℕ
answer_text (Accepted commit) = accepted_text commit
answer_text (Erased commit count) = erased_text commit count
answer_text (ByPolicy commit name kind metadata client user privilege) =
    by_policy_text commit name.now (ruling kind.0 metadata.now) client.now user.now privilege.now
answer_text (ByFallback commit name kind metadata) = by_fallback_text commit name.now (ruling kind.0 metadata.now)
answer_text (FromAgent commit allowed kind number) = from_agent_text commit allowed kind.0 number
answer_text (NotResolved commit kind) = not_resolved_text commit kind.0
answer_text (NoAgent commit kind) = no_agent_text commit kind.0
answer_text (AgentGone commit number) = agent_gone_text commit number
answer_text (AgentFull commit kind most) = agent_full_text commit kind.0 most
answer_text (Row client user privilege kind metadata) =
    row_text client.now user.now privilege.now (ruling kind.0 metadata.now)
answer_text (Rows count) = rows_text count
answer_text (Access allowed rule) = access_text allowed rule
answer_text (Status commit) = status_text commit
answer_text (OfLevels answer) = level_answer_text answer
answer_text (OfShares answer) = share_answer_text answer
answer_text (Refused broken) = refusal_text broken.refusal.now
answer_text StoreFault = store_fault_text
answer_text (StoreDamaged file line) = store_damaged_text file.now line
answer_text (AgentQuestion number client user privilege kind metadata) =
    question_text number client.now user.now privilege.now (ruling kind.0 metadata.now)
answer_text (KindTaken kind) = taken_text kind.0
answer_text CommandLineFault = command_line_text
answer_text (LineFault line) = line_fault_text line
answer_text (Damaged file line) = damaged_text file.now line
answer_text ReplyFault = reply_fault_text
answer_text (FrameTooLong length) = too_long_text length
