-- Which replies a message of an administrator is to have.
use Rattle.std.specs.Prelude.{◌≡◌, ℕ, ◌==◌, nat_lt, Bool, true, false, ◌&&◌, if◌then◌else◌}
use Rattle.wire_fields.specs.Operation.{number_of}
use Rattle.wire_fields.specs.Message.{operation}
use Rattle.wire_fields.specs.declared.messages.Framed.{Framed}
use Rattle.wire_fields.specs.declared.messages.Message.{Message}
use Rattle.wire_fields.specs.declared.messages.Message.TheVariants as message
use Rattle.client_core.specs.declared.steps.Fault.{Fault}
use Rattle.client_core.specs.declared.steps.Fault.TheVariants.{Sequence, Operation}
use Rattle.client_core.specs.declared.wanted.Wanted.{Wanted}
use Rattle.client_core.specs.declared.wanted.Wanted.TheVariants.{Command, Verdict, Rows, State, Service, Stop}
use Rattle.client_core.specs.declared.wanted.Next.{Next}
use Rattle.client_core.specs.declared.wanted.Next.TheVariants.{More, Whole, Wrong}

-- rows of a list, or of the agents that are there
abbrev pub most_rows : ℕ
most_rows = 65536

-- parts of a policy state
abbrev pub most_parts : ℕ
most_parts = 1048576

-- what answer a message is to have
abbrev pub wanted_of : Message → Wanted
wanted_of (message.Listing bucket filter) = Rows
wanted_of message.ReadState = State
wanted_of message.ReadService = Service
wanted_of (message.AdminCheck bucket recursive question) = Verdict
wanted_of message.Stop = Stop
wanted_of other = Command

-- one policy of those that were asked for
abbrev pub is_list_row : Message → Bool
is_list_row (message.ListRow policy) = true
is_list_row other = false

-- one part of a file of a policy state
abbrev pub is_state_part : Message → Bool
is_state_part (message.StateFile name bytes) = true
is_state_part other = false

-- one kind that has an agent
abbrev pub is_agent_here : Message → Bool
is_agent_here (message.AgentHere kind) = true
is_agent_here other = false

-- a further row, where there may be one
abbrev pub is_row : Wanted → ℕ → Message → Bool
is_row Rows rows reply = is_list_row reply && nat_lt rows most_rows
is_row State rows reply = is_state_part reply && nat_lt rows most_parts
is_row Service rows reply = is_agent_here reply && nat_lt rows most_rows
is_row wanted rows reply = false

-- The reply ends the answer: rows end with their count, parts with the commit, agents
-- with the workers, and else there is one reply.
abbrev pub is_last : Wanted → ℕ → Message → Bool
is_last Rows rows (message.ListEnd count) = count == rows
is_last Rows rows (message.Refused refusal) = rows == 0
is_last State rows (message.StateEnd commit) = true
is_last Service rows (message.ServiceEnd workers served) = true
is_last Verdict rows (message.Judged verdict) = true
is_last Verdict rows (message.Refused refusal) = true
is_last Stop rows (message.Done commit erased) = true
is_last Command rows (message.Done commit erased) = true
is_last Command rows (message.Refused refusal) = true
is_last Command rows message.StoreFault = true
is_last Command rows (message.StoreDamaged file line) = true
is_last wanted rows other = false

-- What follows from a reply behind so many rows: another sequence number is found first, and then an operation that is
-- no answer here.
abbrev pub next_of : Wanted → ℕ → ℕ → Framed → Next
next_of wanted sequence rows framed =
    if framed.sequence == sequence then
    (if is_row wanted rows framed.message then More
    else (if is_last wanted rows framed.message then Whole
    else Wrong (Operation (number_of (operation framed.message)))))
    else Wrong (Sequence sequence framed.sequence)

-- behind so many rows the reply is a further one; it ends the answer; or it is wrong, and this is why
abbrev pub IsRow : Wanted → ℕ → ℕ → Framed → Type 0
IsRow wanted sequence rows framed = next_of wanted sequence rows framed ≡ More

abbrev pub IsLast : Wanted → ℕ → ℕ → Framed → Type 0
IsLast wanted sequence rows framed = next_of wanted sequence rows framed ≡ Whole

abbrev pub IsWrong : Wanted → ℕ → ℕ → Framed → Fault → Type 0
IsWrong wanted sequence rows framed found = next_of wanted sequence rows framed ≡ Wrong found
