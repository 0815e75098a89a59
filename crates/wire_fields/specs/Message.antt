-- Messages: the operation of each, how its fields are spelled, and what is read as it.
use Rattle.std.specs.Prelude.{ℕ, true, false, List, Option, Some, None}
use Rattle.std.specs.Int.{w32, w64}
use Rattle.wire_fields.specs.declared.messages.Message.{Message}
use Rattle.wire_fields.specs.declared.messages.Message.TheVariants.{Check, SimpleCheck, SetBucket, RemoveBucket}
use Rattle.wire_fields.specs.declared.messages.Message.TheVariants.{SetPolicies, Erase, Layout, SetTemplate, UserSet}
use Rattle.wire_fields.specs.declared.messages.Message.TheVariants.{UserRemove, Install, Uninstall, Listing, AdminCheck}
use Rattle.wire_fields.specs.declared.messages.Message.TheVariants.{Stop, InstallHybrid, Convert, Register, AgentAnswer}
use Rattle.wire_fields.specs.declared.messages.Message.TheVariants.{Judged, FromAgent, NotResolved, NoAgent, AgentGone}
use Rattle.wire_fields.specs.declared.messages.Message.TheVariants.{AgentFull, Done, Refused, ListRow, ListEnd}
use Rattle.wire_fields.specs.declared.messages.Message.TheVariants.{StoreFault, StoreDamaged, Registered, KindTaken}
use Rattle.wire_fields.specs.declared.messages.Message.TheVariants.{AgentQuestion, UnknownNumber, AgentWithdrawn}
use Rattle.wire_fields.specs.declared.messages.Message.TheVariants.{ReadState, StateFile, StateEnd, ReadService}
use Rattle.wire_fields.specs.declared.messages.Message.TheVariants.{AgentHere, ServiceEnd}
use Rattle.wire_fields.specs.declared.operations.Operation.{Operation}
use Rattle.wire_fields.specs.declared.operations.Operation.TheVariants as op
use Rattle.wire_fields.specs.Left.{Left, Reading}
use Rattle.wire_fields.specs.Format.{number, flag, nothing, made, ◌⊗◌, counted}
use Rattle.wire_fields.specs.Field as field
use Rattle.wire_fields.specs.Refused.{refused}

abbrev pub operation : Message → Operation
operation (Check question) = op.Check
operation (SimpleCheck question) = op.SimpleCheck
operation (SetBucket bucket fallback) = op.SetBucket
operation (RemoveBucket bucket) = op.RemoveBucket
operation (SetPolicies changes) = op.SetPolicies
operation (Erase bucket filter) = op.Erase
operation Layout = op.Layout
operation (SetTemplate template) = op.SetTemplate
operation (UserSet uid kind) = op.UserSet
operation (UserRemove uid) = op.UserRemove
operation (Install install) = op.Install
operation (Uninstall app scope) = op.Uninstall
operation (Listing bucket filter) = op.Listing
operation (AdminCheck bucket recursive question) = op.AdminCheck
operation Stop = op.Stop
operation (InstallHybrid install) = op.InstallHybrid
operation (Convert name hybrid) = op.Convert
operation ReadState = op.ReadState
operation ReadService = op.ReadService
operation (Register kind) = op.Register
operation (AgentAnswer asked allowed) = op.AgentAnswer
operation (Judged verdict) = op.Judged
operation (FromAgent commit kind asked allowed) = op.FromAgent
operation (NotResolved commit kind) = op.NotResolved
operation (NoAgent commit kind) = op.NoAgent
operation (AgentGone commit asked) = op.AgentGone
operation (AgentFull commit kind most) = op.AgentFull
operation (Done commit erased) = op.Done
operation (Refused refusal) = op.Refused
operation (ListRow policy) = op.ListRow
operation (ListEnd count) = op.ListEnd
operation StoreFault = op.StoreFault
operation (StoreDamaged file line) = op.StoreDamaged
operation (StateFile name bytes) = op.StateFile
operation (StateEnd commit) = op.StateEnd
operation (AgentHere kind) = op.AgentHere
operation (ServiceEnd workers served) = op.ServiceEnd
operation (Registered kind) = op.Registered
operation (KindTaken kind) = op.KindTaken
operation (AgentQuestion asked question result) = op.AgentQuestion
operation (UnknownNumber asked) = op.UnknownNumber
operation (AgentWithdrawn asked) = op.AgentWithdrawn

-- the fields of a message as bytes
abbrev pub fields : Message → List ℕ
fields (Check question) = field.question.spelled question
fields (SimpleCheck question) = field.question.spelled question
fields (SetBucket bucket fallback) = (field.bucket ⊗ field.ruling).spelled (bucket, fallback)
fields (RemoveBucket bucket) = field.bucket.spelled bucket
fields (SetPolicies changes) = (counted field.change).spelled changes
fields (Erase bucket filter) = (field.bucket ⊗ field.filter).spelled (bucket, filter)
fields Layout = nothing.spelled tt
fields (SetTemplate template) = field.template.spelled template
fields (UserSet uid kind) = (number w32 ⊗ field.user_type).spelled (uid, kind)
fields (UserRemove uid) = (number w32).spelled uid
fields (Install install) = (field.install false).spelled install
fields (Uninstall app scope) = (field.ident ⊗ field.scope).spelled (app, scope)
fields (Listing bucket filter) = (field.bucket ⊗ field.filter).spelled (bucket, filter)
fields (AdminCheck bucket recursive question) =
    (field.bucket ⊗ (flag ⊗ field.question)).spelled (bucket, (recursive, question))
fields Stop = nothing.spelled tt
fields (InstallHybrid install) = (field.install true).spelled install
fields (Convert name hybrid) = (field.ident ⊗ flag).spelled (name, hybrid)
fields ReadState = nothing.spelled tt
fields ReadService = nothing.spelled tt
fields (Register kind) = field.agent_kind.spelled kind
fields (AgentAnswer asked allowed) = (number w32 ⊗ flag).spelled (asked, allowed)
fields (Judged verdict) = field.verdict.spelled verdict
fields (FromAgent commit kind asked allowed) =
    (number w64 ⊗ (field.kind ⊗ (number w32 ⊗ flag))).spelled (commit, (kind, (asked, allowed)))
fields (NotResolved commit kind) = (number w64 ⊗ field.kind).spelled (commit, kind)
fields (NoAgent commit kind) = (number w64 ⊗ field.kind).spelled (commit, kind)
fields (AgentGone commit asked) = (number w64 ⊗ number w32).spelled (commit, asked)
fields (AgentFull commit kind most) = (number w64 ⊗ (field.kind ⊗ field.most)).spelled (commit, (kind, most))
fields (Done commit erased) = (number w64 ⊗ number w32).spelled (commit, erased)
fields (Refused refusal) = refused.spelled refusal
fields (ListRow policy) = field.policy.spelled policy
fields (ListEnd count) = (number w32).spelled count
fields StoreFault = nothing.spelled tt
fields (StoreDamaged file line) = (field.file_name ⊗ number w32).spelled (file, line)
fields (StateFile name bytes) = (field.file_name ⊗ field.file_part).spelled (name, bytes)
fields (StateEnd commit) = (number w64).spelled commit
fields (AgentHere kind) = field.kind.spelled kind
fields (ServiceEnd workers served) = (number w32 ⊗ number w32).spelled (workers, served)
fields (Registered kind) = field.kind.spelled kind
fields (KindTaken kind) = field.kind.spelled kind
fields (AgentQuestion asked question result) =
    (number w32 ⊗ (field.question ⊗ field.ruling)).spelled (asked, (question, result))
fields (UnknownNumber asked) = (number w32).spelled asked
fields (AgentWithdrawn asked) = (number w32).spelled asked

-- what is read as a message of an operation
abbrev pub read : Operation → Left → Reading Message
read op.Check = made Check field.question
read op.SimpleCheck = made SimpleCheck field.question
read op.SetBucket = made (λ x. SetBucket x.0 x.1) (field.bucket ⊗ field.ruling)
read op.RemoveBucket = made RemoveBucket field.bucket
read op.SetPolicies = made SetPolicies (counted field.change)
read op.Erase = made (λ x. Erase x.0 x.1) (field.bucket ⊗ field.filter)
read op.Layout = made (λ none. Layout) nothing
read op.SetTemplate = made SetTemplate field.template
read op.UserSet = made (λ x. UserSet x.0 x.1) (number w32 ⊗ field.user_type)
read op.UserRemove = made UserRemove (number w32)
read op.Install = made Install (field.install false)
read op.Uninstall = made (λ x. Uninstall x.0 x.1) (field.ident ⊗ field.scope)
read op.Listing = made (λ x. Listing x.0 x.1) (field.bucket ⊗ field.filter)
read op.AdminCheck = made (λ x. AdminCheck x.0 x.1.0 x.1.1) (field.bucket ⊗ (flag ⊗ field.question))
read op.Stop = made (λ none. Stop) nothing
read op.InstallHybrid = made InstallHybrid (field.install true)
read op.Convert = made (λ x. Convert x.0 x.1) (field.ident ⊗ flag)
read op.ReadState = made (λ none. ReadState) nothing
read op.ReadService = made (λ none. ReadService) nothing
read op.Register = made Register field.agent_kind
read op.AgentAnswer = made (λ x. AgentAnswer x.0 x.1) (number w32 ⊗ flag)
read op.Judged = made Judged field.verdict
read op.FromAgent = made (λ x. FromAgent x.0 x.1.0 x.1.1.0 x.1.1.1) (number w64 ⊗ (field.kind ⊗ (number w32 ⊗ flag)))
read op.NotResolved = made (λ x. NotResolved x.0 x.1) (number w64 ⊗ field.kind)
read op.NoAgent = made (λ x. NoAgent x.0 x.1) (number w64 ⊗ field.kind)
read op.AgentGone = made (λ x. AgentGone x.0 x.1) (number w64 ⊗ number w32)
read op.AgentFull = made (λ x. AgentFull x.0 x.1.0 x.1.1) (number w64 ⊗ (field.kind ⊗ field.most))
read op.Done = made (λ x. Done x.0 x.1) (number w64 ⊗ number w32)
read op.Refused = made Refused refused
read op.ListRow = made ListRow field.policy
read op.ListEnd = made ListEnd (number w32)
read op.StoreFault = made (λ none. StoreFault) nothing
read op.StoreDamaged = made (λ x. StoreDamaged x.0 x.1) (field.file_name ⊗ number w32)
read op.StateFile = made (λ x. StateFile x.0 x.1) (field.file_name ⊗ field.file_part)
read op.StateEnd = made StateEnd (number w64)
read op.AgentHere = made AgentHere field.kind
read op.ServiceEnd = made (λ x. ServiceEnd x.0 x.1) (number w32 ⊗ number w32)
read op.Registered = made Registered field.kind
read op.KindTaken = made KindTaken field.kind
read op.AgentQuestion = made (λ x. AgentQuestion x.0 x.1.0 x.1.1) (number w32 ⊗ (field.question ⊗ field.ruling))
read op.UnknownNumber = made UnknownNumber (number w32)
read op.AgentWithdrawn = made AgentWithdrawn (number w32)

-- the commit that a reply tells, if it tells one
abbrev pub commit_of : Message → Option ℕ
commit_of (Judged verdict) = Some verdict.commit
commit_of (FromAgent commit kind asked allowed) = Some commit
commit_of (NotResolved commit kind) = Some commit
commit_of (NoAgent commit kind) = Some commit
commit_of (AgentGone commit asked) = Some commit
commit_of (AgentFull commit kind most) = Some commit
commit_of (Done commit erased) = Some commit
commit_of (StateEnd commit) = Some commit
commit_of other = None
