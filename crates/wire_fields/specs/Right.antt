-- What the values of a message are that has a spelling. Most of it the types of the fields keep.
use Rattle.std.specs.Prelude.{◌≡◌, ◌<◌, ◌≤◌, ◌^◌, ℕ, Bool, true, false, ◌&&◌, List, [], ◌∷◌, length, Option, Some, None}
use Rattle.std.specs.Prelude.{Ok}
use Rattle.std.specs.List.{AllByRecursion}
use Rattle.cynara_keys.specs.Name.{is_name}
use Rattle.cynara_keys.specs.BucketName.{is_bucket_name}
use Rattle.cynara_keys.specs.Metadata.{is_metadata}
use Rattle.cynara_keys.specs.PolicyResult.{Ruling, may_carry, is_agent}
use Rattle.cynara_keys.specs.declared.fields.Field.{Field}
use Rattle.cynara_keys.specs.declared.fields.Field.TheVariants.{Any, Exact}
use Rattle.cynara_keys.specs.declared.fields.FilterField.{FilterField}
use Rattle.cynara_keys.specs.declared.fields.FilterField.TheVariants.{Every, Any as AnyStored, Exact as ExactStored}
use Rattle.cynara_keys.specs.Key.{Key}
use Rattle.cynara_keys.specs.declared.keys.Filter.{Filter}
use Rattle.cynara_keys.specs.declared.keys.Policy.{Policy}
use Rattle.cynara_keys.specs.Key.{Question}
use Rattle.cynara_keys.specs.declared.results.Kind.{Kind}
use Rattle.bucket_store.specs.declared.policy_changes.Change.{Change}
use Rattle.bucket_store.specs.declared.policy_changes.Change.TheVariants.{Set, Delete}
use Rattle.bucket_eval.specs.declared.answers.Row.{Row}
use Rattle.bucket_eval.specs.declared.answers.Verdict.{Verdict}
use Rattle.app_registry.specs.declared.installs.Install.{Install as Installed}
use Rattle.app_registry.specs.declared.installs.Scope.{Scope}
use Rattle.app_registry.specs.declared.installs.Scope.TheVariants.{Everyone, One}
use Rattle.desk_state.specs.declared.refusals.Refusal.{Refusal}
use Rattle.desk_state.specs.declared.refusals.Refusal.TheVariants as refusal
use Rattle.rule_templates.specs.declared.lines.TemplateLine.{TemplateLine}
use Rattle.rule_templates.specs.Template.{template_of, template_text}
use Rattle.wire_fields.specs.declared.messages.Message.{Message}
use Rattle.wire_fields.specs.declared.messages.Message.TheVariants.{Check, SimpleCheck, SetBucket, RemoveBucket}
use Rattle.wire_fields.specs.declared.messages.Message.TheVariants.{SetPolicies, Erase, Layout, SetTemplate, UserSet}
use Rattle.wire_fields.specs.declared.messages.Message.TheVariants.{UserRemove, Install, Uninstall, Listing, AdminCheck}
use Rattle.wire_fields.specs.declared.messages.Message.TheVariants.{Stop, InstallHybrid, Convert, Register, AgentAnswer}
use Rattle.wire_fields.specs.declared.messages.Message.TheVariants.{Judged, FromAgent, NotResolved, NoAgent, AgentGone}
use Rattle.wire_fields.specs.declared.messages.Message.TheVariants.{AgentFull, Done, Refused, ListRow, ListEnd}
use Rattle.wire_fields.specs.declared.messages.Message.TheVariants.{StoreFault, StoreDamaged, Registered, KindTaken}
use Rattle.wire_fields.specs.declared.messages.Message.TheVariants.{AgentQuestion, UnknownNumber, AgentWithdrawn}
use Rattle.wire_fields.specs.declared.messages.Message.TheVariants.{ReadState, StateFile, StateEnd, ReadService}
use Rattle.wire_fields.specs.declared.messages.Message.TheVariants.{AgentHere, ServiceEnd}
use Rattle.wire_fields.specs.Limits.{most_part_bytes}
use Rattle.wire_fields.specs.Field.{is_field_text, is_ident, is_file_text, is_most, comes_after}

-- ---- numbers

abbrev pub IsNumber4 : ℕ → Type 0
IsNumber4 n = n < 2 ^ 32

abbrev pub IsNumber8 : ℕ → Type 0
IsNumber8 n = n < 2 ^ 64

abbrev pub IsKind : Kind → Type 0
IsKind kind = kind.0 < 2 ^ 16

-- ---- texts

abbrev pub IsName : List ℕ → Type 0
IsName bytes = is_name bytes ≡ true

abbrev pub IsBucket : List ℕ → Type 0
IsBucket bytes = is_bucket_name bytes ≡ true

abbrev pub IsIdent : List ℕ → Type 0
IsIdent bytes = is_ident bytes ≡ true

abbrev pub IsFieldText : List ℕ → Type 0
IsFieldText bytes = is_field_text bytes ≡ true

abbrev pub IsAuthor : Option (List ℕ) → Type 0
IsAuthor None = Unit {0}
IsAuthor (Some author) = IsIdent author

-- a template that its text is read as
abbrev pub IsTemplate : List TemplateLine → Type 0
IsTemplate lines = (length (template_text lines) < 2 ^ 16) × (template_of (template_text lines) ≡ Ok lines)

-- ---- keys and results

abbrev pub IsField : Field → Type 0
IsField Any = Unit {0}
IsField (Exact name) = IsName name

abbrev pub IsFilterField : FilterField → Type 0
IsFilterField Every = Unit {0}
IsFilterField AnyStored = Unit {0}
IsFilterField (ExactStored name) = IsName name

abbrev pub IsQuestion : Question → Type 0
IsQuestion question = IsName question.client × (IsName question.user × IsName question.privilege)

abbrev pub IsKey : Key → Type 0
IsKey key = IsField key.client × (IsField key.user × IsField key.privilege)

abbrev pub IsFilter : Filter → Type 0
IsFilter filter = IsFilterField filter.client × (IsFilterField filter.user × IsFilterField filter.privilege)

abbrev pub IsRuling : Ruling → Type 0
IsRuling ruling =
    (ruling.kind < 2 ^ 16) × ((is_metadata ruling.metadata && may_carry ruling.kind ruling.metadata) ≡ true)

abbrev pub IsPolicy : Policy → Type 0
IsPolicy policy = IsKey policy.key × IsRuling policy.result

abbrev pub IsChange : Change → Type 0
IsChange (Set bucket key result) = (IsBucket bucket × IsKey key) × IsRuling result
IsChange (Delete bucket key) = IsBucket bucket × IsKey key

abbrev pub AreChanges : List Change → Type 0
AreChanges changes = (length changes < 2 ^ 32) × AllByRecursion IsChange changes

-- ---- verdicts

abbrev pub IsRow : Row → Type 0
IsRow row = IsFieldText row.client × (IsFieldText row.user × IsFieldText row.privilege)

abbrev pub IsOptionalRow : Option Row → Type 0
IsOptionalRow None = Unit {0}
IsOptionalRow (Some row) = IsRow row

abbrev pub IsRightVerdict : Verdict → Type 0
IsRightVerdict verdict =
    IsNumber8 verdict.commit
    × (
    IsRuling (record { kind = verdict.answer.kind.0; metadata = verdict.answer.metadata })
    × (IsBucket verdict.answer.cause.bucket × IsOptionalRow verdict.answer.cause.row)
    )

-- ---- installs

abbrev pub IsScope : Scope → Type 0
IsScope Everyone = Unit {0}
IsScope (One uid) = IsNumber4 uid

-- each name behind the one before it
abbrev pub AreRising : Option (List ℕ) → List (List ℕ) → Type 0
AreRising last [] = Unit {0}
AreRising last (next ∷ names) = (comes_after last next ≡ true) × AreRising (Some next) names

abbrev pub ArePrivileges : List (List ℕ) → Type 0
ArePrivileges names = (length names < 2 ^ 32) × (AllByRecursion IsName names × AreRising None names)

-- an install into a package of the kind
abbrev pub IsInstall : Bool → Installed → Type 0
IsInstall hybrid install =
    (install.hybrid ≡ hybrid) × (IsIdent install.package
    × (IsAuthor install.author × (IsIdent install.app × (IsScope install.scope × ArePrivileges install.privileges))))

-- ---- refusals

-- a refusal that a frame tells: any but want of memory
abbrev pub IsTold : Refusal → Type 0
IsTold (refusal.Reserved name) = IsBucket name
IsTold refusal.LayoutThere = Unit {0}
IsTold refusal.NoLayout = Unit {0}
IsTold (refusal.NoBucket name) = IsBucket name
IsTold refusal.RootBucket = Unit {0}
IsTold (refusal.BadKind kind) = IsKind kind
IsTold (refusal.UnknownUser uid) = IsNumber4 uid
IsTold (refusal.OtherPackage name) = IsIdent name
IsTold (refusal.OtherAuthor name) = IsAuthor name
IsTold (refusal.OtherHybrid hybrid) = Unit {0}
IsTold refusal.NotInstalled = Unit {0}
IsTold (refusal.Limit counted limit) = IsNumber8 limit
IsTold (refusal.Cycle name) = IsBucket name
IsTold (refusal.Memory error) = ⊥

-- ---- messages

-- what no field of a message breaks
abbrev pub IsRight : Message → Type 0
IsRight (Check question) = IsQuestion question
IsRight (SimpleCheck question) = IsQuestion question
IsRight (SetBucket bucket fallback) = IsBucket bucket × IsRuling fallback
IsRight (RemoveBucket bucket) = IsBucket bucket
IsRight (SetPolicies changes) = AreChanges changes
IsRight (Erase bucket filter) = IsBucket bucket × IsFilter filter
IsRight Layout = Unit {0}
IsRight (SetTemplate template) = IsTemplate template
IsRight (UserSet uid kind) = IsNumber4 uid × Unit {0}
IsRight (UserRemove uid) = IsNumber4 uid
IsRight (Install install) = IsInstall false install
IsRight (Uninstall app scope) = IsIdent app × IsScope scope
IsRight (Listing bucket filter) = IsBucket bucket × IsFilter filter
IsRight (AdminCheck bucket recursive question) = IsBucket bucket × (Unit {0} × IsQuestion question)
IsRight Stop = Unit {0}
IsRight (InstallHybrid install) = IsInstall true install
IsRight (Convert name hybrid) = IsIdent name × Unit {0}
IsRight ReadState = Unit {0}
IsRight ReadService = Unit {0}
IsRight (Register kind) = IsKind kind × (is_agent kind.0 ≡ true)
IsRight (AgentAnswer asked allowed) = IsNumber4 asked × Unit {0}
IsRight (Judged verdict) = IsRightVerdict verdict
IsRight (FromAgent commit kind asked allowed) = IsNumber8 commit × (IsKind kind × (IsNumber4 asked × Unit {0}))
IsRight (NotResolved commit kind) = IsNumber8 commit × IsKind kind
IsRight (NoAgent commit kind) = IsNumber8 commit × IsKind kind
IsRight (AgentGone commit asked) = IsNumber8 commit × IsNumber4 asked
IsRight (AgentFull commit kind most) = IsNumber8 commit × (IsKind kind × (is_most most ≡ true))
IsRight (Done commit erased) = IsNumber8 commit × IsNumber4 erased
IsRight (Refused refusal) = IsTold refusal
IsRight (ListRow policy) = IsPolicy policy
IsRight (ListEnd count) = IsNumber4 count
IsRight StoreFault = Unit {0}
IsRight (StoreDamaged file line) = (is_file_text file ≡ true) × IsNumber4 line
IsRight (StateFile name bytes) = (is_file_text name ≡ true) × (length bytes ≤ most_part_bytes)
IsRight (StateEnd commit) = IsNumber8 commit
IsRight (AgentHere kind) = IsKind kind
IsRight (ServiceEnd workers served) = IsNumber4 workers × IsNumber4 served
IsRight (Registered kind) = IsKind kind
IsRight (KindTaken kind) = IsKind kind
IsRight (AgentQuestion asked question result) = IsNumber4 asked × (IsQuestion question × IsRuling result)
IsRight (UnknownNumber asked) = IsNumber4 asked
IsRight (AgentWithdrawn asked) = IsNumber4 asked

-- the number in front of a list has room for it, which no type keeps
abbrev pub HasRoom : Message → Type 0
HasRoom (SetPolicies changes) = length changes < 2 ^ 32
HasRoom (Install install) = length install.privileges < 2 ^ 32
HasRoom (InstallHybrid install) = length install.privileges < 2 ^ 32
HasRoom message = Unit {0}
