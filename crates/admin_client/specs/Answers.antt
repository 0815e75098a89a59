-- The bytes of the replies to a message, and what they come to.
use Rattle.std.specs.Prelude.{◌≡◌, ◌≤◌, ℕ, List, [], ◌∷◌, ◌++◌, length, map, Option, Some}
use Rattle.link_ports.specs.Told.{IfTold}
use Rattle.link_ports.specs.Traffic.{Traffic, with_received}
use Rattle.wire_reading.specs.Stream.{Hears, IsOpen}
use Rattle.wire_fields.specs.declared.messages.Framed.{Framed}
use Rattle.wire_fields.specs.declared.messages.Message.{Message}
use Rattle.wire_fields.specs.declared.operations.Heard.TheVariants.{Replies}
use Rattle.wire_fields.specs.declared.refusals.WireRefusal.{WireRefusal}
use Rattle.client_connection.specs.Reading.{size_of, IsWrong}
use Rattle.client_connection.specs.declared.faults.ReplyFault.{ReplyFault}
use Rattle.client_connection.specs.declared.faults.ReplyFault.TheVariants.{Frame, Sequence, Operation}
use Rattle.client_core.specs.AdminCalls.{AreRows}
use Rattle.client_core.specs.AdminReplies.{IsLast, IsWrong as IsWrongReply}
use Rattle.client_core.specs.declared.steps.Fault.{Fault}
use Rattle.client_core.specs.declared.steps.Fault.TheVariants as of_core
use Rattle.client_core.specs.declared.wanted.Wanted.{Wanted}
use Rattle.admin_client.specs.declared.refusals.AdminRefusal.{AdminRefusal}
use Rattle.admin_client.specs.declared.refusals.AdminRefusal.TheVariants.{Unavailable, BadReply, TooLong, Memory}

-- the bytes received are such
abbrev pub TookBytes : (List ℕ → Type 0) → Option Traffic → Option Traffic → Type 0
TookBytes P old new = IfTold old (λ before. (bytes : List ℕ) × P bytes × (new ≡ Some (with_received bytes before)))

-- the bytes begin with rows, and these are behind them
pub record BeginsWithRows (wanted : Wanted) (sequence : ℕ) (bytes behind : List ℕ) : Type 0 where
  pub rows : List Framed
  pub heard : Hears Replies bytes rows behind
  pub are_rows : AreRows wanted sequence 0 rows

-- The bytes are a whole answer, and nothing is behind it: rows, where rows are wanted, and the last reply. These are
-- the replies.
pub record IsWhole (wanted : Wanted) (sequence : ℕ) (replies : List Message) (bytes : List ℕ) : Type 0 where
  pub rows : List Framed
  pub last : Framed
  pub heard : Hears Replies bytes (rows ++ last ∷ []) []
  pub are_rows : AreRows wanted sequence 0 rows
  pub whole : IsLast wanted sequence (length rows) last
  pub are_all : replies ≡ map (λ framed. framed.message) (rows ++ last ∷ [])

-- a machine of an administrator is told of no commit, so no reply is too old
abbrev pub IsNoAge : Fault → Type 0
IsNoAge (of_core.Older told got) = ⊥
IsNoAge other = Unit {0}

-- why there is no answer, by what the machine says
abbrev pub refusal_of : Fault → AdminRefusal
refusal_of of_core.Unavailable = Unavailable
refusal_of (of_core.Older told got) = Unavailable
refusal_of (of_core.Frame wrong) = BadReply (Frame wrong)
refusal_of (of_core.Sequence sent got) = BadReply (Sequence sent got)
refusal_of (of_core.Operation operation) = BadReply (Operation operation)
refusal_of (of_core.Memory error) = Memory error

-- The bytes are no answer, and go no further than what is wrong in them: behind rows they go on with what is no frame,
-- or with a reply that is wrong there.
pub data IsBad (wanted : Wanted) (sequence : ℕ) (fault : ReplyFault) (bytes : List ℕ) : Type 0 where
  no_frame : (refusal : WireRefusal) (behind : List ℕ) → fault ≡ Frame refusal
      → BeginsWithRows wanted sequence bytes behind
      → IsWrong Replies behind refusal → IsBad wanted sequence fault bytes
  no_answer : (rows : List Framed) (wrong : Framed) (found : Fault) → Hears Replies bytes (rows ++ wrong ∷ []) []
      → AreRows wanted sequence 0 rows → IsWrongReply wanted sequence (length rows) wrong found
      → refusal_of found ≡ BadReply fault → IsBad wanted sequence fault bytes

-- What the bytes are behind which a message has no answer. Where no memory was found for a reply, they do not pass its
-- frame.
abbrev pub IsRefused : Wanted → ℕ → AdminRefusal → List ℕ → Type 0
IsRefused wanted sequence Unavailable bytes =
    (behind : List ℕ) × BeginsWithRows wanted sequence bytes behind × IsOpen Replies behind
IsRefused wanted sequence (BadReply fault) bytes = IsBad wanted sequence fault bytes
IsRefused wanted sequence (TooLong n) bytes = ⊥
IsRefused wanted sequence (Memory error) bytes =
    (behind : List ℕ) × BeginsWithRows wanted sequence bytes behind × (length behind ≤ size_of behind)

abbrev pub IfUnavailable : AdminRefusal → Type 0 → Type 0
IfUnavailable Unavailable fact = fact
IfUnavailable other fact = Unit {0}
