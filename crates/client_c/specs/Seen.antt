-- What a message says, by its fields, as C reads it.
use Rattle.std.specs.Prelude.{◌≡◌, ℕ, ◌==◌, Bool, true, false, if◌then◌else◌, List, [], take, codes, Option, Some, None}
use Rattle.bucket_eval.specs.declared.answers.Row.{Row}
use Rattle.bucket_eval.specs.declared.answers.Verdict.{Verdict}
use Rattle.cynara_keys.specs.Key.{Key, Question}
use Rattle.cynara_keys.specs.Field.{field_text}
use Rattle.cynara_keys.specs.PolicyResult.{Ruling, allow}
use Rattle.cynara_keys.specs.declared.keys.Policy.{Policy}
use Rattle.cynara_keys.specs.declared.limits.Counted.{Counted}
use Rattle.cynara_keys.specs.declared.limits.Counted.TheVariants.{Commits, Users, Packages, Installs, Grants, Buckets}
use Rattle.cynara_keys.specs.declared.limits.Counted.TheVariants.{Policies}
use Rattle.desk_state.specs.declared.refusals.Refusal.{Refusal}
use Rattle.desk_state.specs.declared.refusals.Refusal.TheVariants as refusal
use Rattle.wire_fields.specs.Operation.{number_of}
use Rattle.wire_fields.specs.Message.{operation}
use Rattle.wire_fields.specs.declared.messages.Message.{Message}
use Rattle.wire_fields.specs.declared.messages.Message.TheVariants as message
use Rattle.wire_fields.specs.declared.refusals.WireRefusal.{WireRefusal}
use Rattle.wire_fields.specs.declared.refusals.WireRefusal.TheVariants as wire
use Rattle.answer_cache.specs.Cache.{newest}
use Rattle.client_core.specs.declared.machines.Machine.{Machine}
use Rattle.client_core.specs.declared.machines.Machine.TheVariants.{Client}
use Rattle.client_core.specs.declared.steps.Step.{Step}
use Rattle.client_core.specs.declared.steps.Step.TheVariants as step
use Rattle.client_core.specs.declared.steps.Fault.{Fault}
use Rattle.client_core.specs.declared.steps.Fault.TheVariants as fault
use Rattle.client_c.specs.declared.said.Text.{Text}
use Rattle.client_c.specs.declared.said.Said.{Said}

pub record Seen : Type 0 where
  pub commit : ℕ
  pub value : ℕ
  pub number : ℕ
  pub kind : ℕ
  pub operation : ℕ
  pub rule : ℕ
  pub allowed : Bool
  pub has_key : Bool
  pub metadata : List ℕ
  pub text : List ℕ
  pub client : List ℕ
  pub user : List ℕ
  pub privilege : List ℕ

abbrev pub held : Text → List ℕ
held text = take text.count text.bytes

-- what C reads
abbrev pub seen : Said → Seen
seen said = record {
  commit = said.commit;
  value = said.value;
  number = said.number;
  kind = said.kind;
  operation = said.operation;
  rule = said.rule;
  allowed = said.allowed;
  has_key = said.has_key;
  metadata = held said.metadata;
  text = held said.text;
  client = held said.client;
  user = held said.user;
  privilege = held said.privilege;
}

abbrev pub nothing : Seen
nothing = record {
  commit = 0;
  value = 0;
  number = 0;
  kind = 0;
  operation = 0;
  rule = 0;
  allowed = false;
  has_key = false;
  metadata = [];
  text = [];
  client = [];
  user = [];
  privilege = [];
}

-- no text of a message has more than 255 bytes
abbrev pub short : List ℕ → List ℕ
short bytes = take 255 bytes

abbrev pub with_names : List ℕ → List ℕ → List ℕ → Seen → Seen
with_names client user privilege said =
    record said { client = short client; user = short user; privilege = short privilege }

abbrev pub with_key : List ℕ → List ℕ → List ℕ → Seen → Seen
with_key client user privilege said = with_names client user privilege (record said { has_key = true })

abbrev pub with_row : Option Row → Seen → Seen
with_row None said = said
with_row (Some row) said = with_key row.client row.user row.privilege said

-- a verdict of the policies: nothing but ALLOW allows
abbrev pub verdict_seen : Verdict → Seen
verdict_seen verdict = with_row verdict.answer.cause.row (record nothing {
  commit = verdict.commit;
  kind = verdict.answer.kind.0;
  operation = 129;
  allowed = verdict.answer.kind.0 == allow;
  metadata = short verdict.answer.metadata;
  text = short verdict.answer.cause.bucket;
})

abbrev pub with_result : Ruling → Seen → Seen
with_result result said = record said { kind = result.kind; metadata = short result.metadata }

abbrev pub policy_seen : Policy → Seen
policy_seen policy =
    with_key (field_text policy.key.client) (field_text policy.key.user) (field_text policy.key.privilege)
    (with_result policy.result (record nothing { operation = 146 }))

abbrev pub question_seen : ℕ → Question → Ruling → Seen
question_seen number question result =
    with_names question.client question.user question.privilege
    (with_result result (record nothing { operation = 162; number = number }))

-- ---- refusals by a rule

abbrev pub counted_text : Counted → List ℕ
counted_text Commits = codes "commits"
counted_text Users = codes "users"
counted_text Packages = codes "packages"
counted_text Installs = codes "installs"
counted_text Grants = codes "grants"
counted_text Buckets = codes "buckets"
counted_text Policies = codes "policies"

abbrev pub rule_seen : ℕ → List ℕ → ℕ → Seen
rule_seen rule text value = record nothing { operation = 145; rule = rule; text = short text; value = value }

abbrev pub refused_seen : Refusal → Seen
refused_seen (refusal.Reserved name) = rule_seen 1 name 0
refused_seen refusal.LayoutThere = rule_seen 2 [] 0
refused_seen refusal.NoLayout = rule_seen 3 [] 0
refused_seen (refusal.NoBucket name) = rule_seen 4 name 0
refused_seen refusal.RootBucket = rule_seen 5 [] 0
refused_seen (refusal.BadKind kind) = rule_seen 6 [] kind.0
refused_seen (refusal.UnknownUser uid) = rule_seen 7 [] uid
refused_seen (refusal.OtherPackage name) = rule_seen 8 name 0
refused_seen (refusal.OtherAuthor (Some author)) = rule_seen 9 author 0
refused_seen (refusal.OtherAuthor None) = rule_seen 9 [] 0
refused_seen refusal.NotInstalled = rule_seen 10 [] 0
refused_seen (refusal.Limit counted limit) = rule_seen 11 (counted_text counted) limit
refused_seen (refusal.Cycle name) = rule_seen 12 name 0
refused_seen (refusal.OtherHybrid hybrid) = rule_seen 14 [] (if hybrid then 1 else 0)
refused_seen (refusal.Memory error) = record nothing { operation = 145 }

-- ---- messages

-- the numbers of a message, and the name of a file
abbrev pub numbers : Message → Seen → Seen
numbers (message.FromAgent commit kind number allowed) said =
    record said { commit = commit; kind = kind.0; number = number; allowed = allowed }
numbers (message.NotResolved commit kind) said = record said { commit = commit; kind = kind.0 }
numbers (message.NoAgent commit kind) said = record said { commit = commit; kind = kind.0 }
numbers (message.AgentGone commit number) said = record said { commit = commit; number = number }
numbers (message.AgentFull commit kind most) said = record said { commit = commit; kind = kind.0; number = most }
numbers (message.Done commit erased) said = record said { commit = commit; number = erased }
numbers (message.ListEnd count) said = record said { number = count }
numbers (message.StoreDamaged file line) said = record said { text = short file; number = line }
numbers (message.Registered kind) said = record said { kind = kind.0 }
numbers (message.KindTaken kind) said = record said { kind = kind.0 }
numbers (message.UnknownNumber number) said = record said { number = number }
numbers (message.AgentWithdrawn number) said = record said { number = number }
numbers other said = said

abbrev pub message_seen : Message → Seen
message_seen (message.Judged verdict) = verdict_seen verdict
message_seen (message.Refused found) = refused_seen found
message_seen (message.ListRow policy) = policy_seen policy
message_seen (message.AgentQuestion number question result) = question_seen number question result
message_seen other = numbers other (record nothing { operation = number_of (operation other) })

-- ---- faults

-- which fault of the bytes, and the number behind it: a length, an operation or a place
abbrev pub refusal_seen : WireRefusal → Seen
refusal_seen (wire.TooShort n) = record nothing { value = 1; number = n }
refusal_seen (wire.TooLong n) = record nothing { value = 2; number = n }
refusal_seen (wire.BadOperation n) = record nothing { value = 3; number = n }
refusal_seen (wire.BadField n) = record nothing { value = 4; number = n }
refusal_seen (wire.Trailing n) = record nothing { value = 5; number = n }
refusal_seen (wire.Memory error) = nothing

abbrev pub fault_seen : Fault → Seen
fault_seen fault.Unavailable = nothing
fault_seen (fault.Older told got) = record nothing { commit = got }
fault_seen (fault.Frame refusal) = refusal_seen refusal
fault_seen (fault.Sequence sent got) = record nothing { number = got }
fault_seen (fault.Operation operation) = record nothing { number = operation }
fault_seen (fault.Memory error) = nothing

-- the verdict that a client used last
abbrev pub newest_in : Machine → Option Verdict
newest_in (Client side) = newest side.cache
newest_in other = None

abbrev pub says_kept : Option Verdict → Said → Said → Type 0
says_kept (Some verdict) old new = seen new ≡ verdict_seen verdict
says_kept None old new = new ≡ old

-- what is said of a step that made this machine, and nothing of most
abbrev pub Says : Step → Machine → Said → Said → Type 0
Says step.Kept machine old new = says_kept (newest_in machine) old new
Says (step.Reply message) machine old new = seen new ≡ message_seen message
Says (step.Row message) machine old new = seen new ≡ message_seen message
Says (step.Over fault) machine old new = seen new ≡ fault_seen fault
Says (step.Unfit refusal) machine old new = seen new ≡ refusal_seen refusal
Says answer machine old new = new ≡ old
