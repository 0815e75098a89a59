-- What one message of an administrator is answered, and what it leaves.
use Rattle.std.specs.Prelude.{◌≡◌, ◌⊎◌, List, [], ◌∷◌, Option, Some, None}
use Rattle.desk_ports.specs.Disk.{DiskState}
use Rattle.desk_state.specs.Next.{next}
use Rattle.desk_state.specs.Rules.{fault}
use Rattle.desk_state.specs.declared.commands.Command.{Command}
use Rattle.desk_state.specs.declared.refusals.Refusal.{Refusal}
use Rattle.wire_messages.specs.Commands.{command_of}
use Rattle.wire_fields.specs.declared.messages.Message.{Message}
use Rattle.wire_fields.specs.declared.messages.Message.TheVariants.{Refused, Listing, AdminCheck}
use Rattle.wire_fields.specs.declared.messages.Message.TheVariants.{Stop, StoreFault, StoreDamaged}
use Rattle.wire_fields.specs.declared.messages.Message.TheVariants.{ReadState, ReadService}
use Rattle.door_frames.specs.declared.endings.Ended.{Ended}
use Rattle.door_frames.specs.declared.endings.Ended.TheVariants.{Memory}
use Rattle.admin_door.specs.Side.{AdminSide, with_kept, with_shown, with_fault, with_stop}
use Rattle.admin_door.specs.State.{AreState}
use Rattle.admin_door.specs.Service.{IsService}
use Rattle.admin_door.specs.Reply.{list_replies, check_replies, done_replies, stop_replies}
use Rattle.admin_door.specs.Settling.{Settles, Unsettles}
use Rattle.desk_keeper.specs.declared.refusals.KeeperRefusal.{KeeperRefusal}
use Rattle.desk_keeper.specs.declared.refusals.KeeperRefusal.TheVariants as why

-- ---- a command, from a state that is settled

-- The command is accepted: its state is kept, then published behind the others, and then all older connections are hung
-- up, before it is answered as done.
pub record IsDone (command : Command) (settled now : AdminSide) (replies : List Message) : Type 0 where
  pub accepted : fault settled.desk command ≡ None
  pub leaves : now ≡ with_shown (next settled.desk command) (with_kept (next settled.desk command) settled)
  pub answered : replies ≡ done_replies settled.desk command

-- It breaks this rule, and nothing was done.
pub record IsRefused (command : Command) (settled now : AdminSide) (replies : List Message) : Type 0 where
  pub refusal : Refusal
  pub rule : fault settled.desk command ≡ Some refusal
  pub leaves : now ≡ settled
  pub answered : replies ≡ Refused refusal ∷ []

-- It is accepted, and its commit failed: it is not known whether the folder keeps the state before or behind it.
pub record HasFailed (command : Command) (settled now : AdminSide) (replies : List Message) : Type 0 where
  pub accepted : fault settled.desk command ≡ None
  pub leaves : now ≡ with_fault settled
  pub answered : replies ≡ StoreFault ∷ []

abbrev pub Commits : Command → AdminSide → AdminSide → List Message → Type 0
Commits command settled now replies = IsDone command settled now replies
    ⊎ (IsRefused command settled now replies ⊎ HasFailed command settled now replies)

-- Memory was wanting before the commit, or for the publication behind it.
abbrev pub IsUnpublished : Command → AdminSide → AdminSide → Type 0
IsUnpublished command settled now =
    (fault settled.desk command ≡ None) × (now ≡ with_kept (next settled.desk command) settled)

abbrev pub LacksMemory : Command → AdminSide → AdminSide → Type 0
LacksMemory command settled now = (now ≡ settled) ⊎ IsUnpublished command settled now

-- ---- a command

-- what a command is answered that could not be settled
abbrev pub AnswersUnsettled : KeeperRefusal → List Message → Type 0
AnswersUnsettled why.StoreFault replies = replies ≡ StoreFault ∷ []
AnswersUnsettled (why.Damaged file line) replies = replies ≡ StoreDamaged file line ∷ []
AnswersUnsettled (why.Memory error) replies = ⊥

-- a command is answered so
abbrev pub Obeys : Option DiskState → Command → AdminSide → AdminSide → List Message → Type 0
Obeys told command old now replies =
    ((between : AdminSide) × Settles told old between × Commits command between now replies)
    ⊎ ((reason : KeeperRefusal) × Unsettles told old now reason × AnswersUnsettled reason replies)

-- a command is not answered, for want of memory: behind the settling, within it, or before it
abbrev pub IsUnanswered : Option DiskState → Command → AdminSide → AdminSide → Type 0
IsUnanswered told command old now =
    ((between : AdminSide) × Settles told old between × LacksMemory command between now)
    ⊎ (((reason : KeeperRefusal) × Unsettles told old now reason) ⊎ (now ≡ old))

-- ---- a message

-- a question is answered at the last state that is known to be kept, and nothing else is done; a stop stops the service
abbrev pub AnswersQuestion : Message → AdminSide → AdminSide → List Message → Type 0
AnswersQuestion (Listing bucket filter) old now replies = (now ≡ old) × (replies ≡ list_replies old.desk bucket filter)
AnswersQuestion (AdminCheck bucket recursive question) old now replies =
    (now ≡ old) × (replies ≡ check_replies old.desk bucket recursive question)
AnswersQuestion ReadState old now replies = (now ≡ old) × AreState old.desk replies
AnswersQuestion ReadService old now replies = (now ≡ old) × IsService replies
AnswersQuestion Stop old now replies = (now ≡ with_stop old) × (replies ≡ stop_replies old.desk)
AnswersQuestion other old now replies = ⊥

abbrev pub AnswersBy : Option DiskState → Option Command → Message → AdminSide → AdminSide → List Message → Type 0
AnswersBy told (Some command) message old now replies = Obeys told command old now replies
AnswersBy told None message old now replies = AnswersQuestion message old now replies

-- a message is answered so, over a disk that told this
abbrev pub Answers : Option DiskState → Message → AdminSide → AdminSide → List Message → Type 0
Answers told message old now replies = AnswersBy told (command_of message) message old now replies

abbrev pub RefusesBy : Option DiskState → Option Command → AdminSide → AdminSide → Type 0
RefusesBy told (Some command) old now = IsUnanswered told command old now
RefusesBy told None old now = now ≡ old

-- a message has no answer for want of memory alone
abbrev pub Refuses : Option DiskState → Message → AdminSide → AdminSide → Ended → Type 0
Refuses told message old now ended = (ended ≡ Memory) × RefusesBy told (command_of message) old now
