-- What a service replies to a message of an administrator, and what that comes to.
use Rattle.std.specs.Prelude.{◌≡◌, ℕ, true, List, [], ◌∷◌, Option, None, Result, Ok, Err}
use Rattle.std.specs.declared.alloc.AllocError.{AllocError}
use Rattle.link_ports.specs.Traffic.{Traffic}
use Rattle.link_ports.specs.LinkMarks.{LinkMarks}
use Rattle.desk_state.specs.declared.refusals.Refusal.{Refusal}
use Rattle.line_answers.specs.Answers.{refusal_text}
use Rattle.bucket_eval.specs.declared.answers.Verdict.{Verdict}
use Rattle.cynara_keys.specs.Key.{Question}
use Rattle.wire_fields.specs.declared.messages.Message.{Message}
use Rattle.wire_fields.specs.declared.messages.Message.TheVariants as message
use Rattle.client_connection.specs.Giving.{GivesBackAny}
use Rattle.admin_client.specs.Sending.{State, with_dial, Sends}
use Rattle.admin_client.specs.declared.refusals.AdminRefusal.{AdminRefusal}
use Rattle.admin_client.specs.declared.refusals.AdminRefusal.TheVariants as admin
use Rattle.ctl_door.specs.declared.refusals.DoorRefusal.{DoorRefusal}
use Rattle.ctl_door.specs.declared.refusals.DoorRefusal.TheVariants.{Unavailable, BadReply, StoreFault}
use Rattle.ctl_door.specs.declared.refusals.DoorRefusal.TheVariants.{StoreDamaged, Refused as IsRefused, Memory}
use Rattle.ctl_door.specs.declared.commands.Obeyed.{Obeyed}
use Rattle.ctl_door.specs.declared.commands.Obeyed.TheVariants.{Done, Refused}

-- all replies to a message, or why there are none
abbrev pub Heard : Type 0
Heard = Result (List Message) AdminRefusal

-- what it comes to that there are none
abbrev pub refusal_of : AdminRefusal → DoorRefusal
refusal_of admin.Unavailable = Unavailable
refusal_of (admin.BadReply fault) = BadReply fault
refusal_of (admin.TooLong size) = IsRefused
refusal_of (admin.Memory error) = Memory error

abbrev pub replies_by : Heard → Result (List Message) DoorRefusal
replies_by (Ok replies) = Ok replies
replies_by (Err refusal) = Err (refusal_of refusal)

-- a list that was built, seen by its elements
abbrev pub listed : {V : Type 0} → (V → List Message) → Result V DoorRefusal → Result (List Message) DoorRefusal
listed items (Ok replies) = Ok (items replies)
listed items (Err refusal) = Err refusal

module _ {N L : Type 0} (link_faults : L → ℕ) (marks : L → LinkMarks) (traffic : L → Option Traffic)
    (faults dials : N → ℕ) (given_back : N → Option (List L)) where
  -- The message was sent once at most, over a link that was dialled for it, and this was heard. The link is given back.
  pub record Hears (message : Message) (heard : Heard) (before after : N) : Type 0 where
    pub between : State N L
    pub sent : Sends link_faults marks traffic faults dials given_back message heard
        (with_dial before (record { link = None; sequence = 0 })) between
    pub given : GivesBackAny faults dials given_back link_faults marks between.link between.dial after

  -- the message was sent, and this follows from what was heard
  abbrev pub Asks : Message → (Heard → Type 0) → N → N → Type 0
  Asks message Follows before after = (heard : Heard) × Hears message heard before after × Follows heard

  -- the same; or no memory was found for the message, and nothing was sent
  pub data AsksIfRoom {V : Type 0} (message : Message) (Follows : Heard → Result V DoorRefusal → Type 0)
      (result : Result V DoorRefusal) (before after : N) : Type 0 where
    asked : Asks message (λ heard. Follows heard result) before after → AsksIfRoom message Follows result before after
    no_room : (error : AllocError) → result ≡ Err (Memory error) → after ≡ before
        → AsksIfRoom message Follows result before after

-- ---- a question

-- the question to the root bucket, with those that it points to
abbrev pub check_of : Question → Message
check_of question = message.AdminCheck [] true question

-- the verdict that was heard
abbrev pub verdict_in : List Message → Result Verdict DoorRefusal
verdict_in (message.Judged verdict ∷ more) = Ok verdict
verdict_in other = Err IsRefused

abbrev pub verdict_by : Heard → Result Verdict DoorRefusal
verdict_by (Ok replies) = verdict_in replies
verdict_by (Err refusal) = Err (refusal_of refusal)

-- ---- a command

-- the command was refused, with the text of this refusal, for which memory may be wanting
abbrev pub TellsRefusal : Refusal → Result Obeyed DoorRefusal → Type 0
TellsRefusal refusal (Ok (Refused answer)) = answer ≡ refusal_text refusal
TellsRefusal refusal (Err (Memory error)) = Unit {0}
TellsRefusal refusal other = ⊥

-- the store is damaged there, for which memory may be wanting
abbrev pub IsDamage : List ℕ → ℕ → DoorRefusal → Type 0
IsDamage file line (StoreDamaged named at) = (named ≡ file) × (at ≡ line)
IsDamage file line (Memory error) = Unit {0}
IsDamage file line other = ⊥

abbrev pub TellsDamage : {V : Type 0} → List ℕ → ℕ → Result V DoorRefusal → Type 0
TellsDamage file line (Ok value) = ⊥
TellsDamage file line (Err refusal) = IsDamage file line refusal

-- what became of a command by these replies
abbrev pub BecomesBy : List Message → Result Obeyed DoorRefusal → Type 0
BecomesBy (message.Done commit erased ∷ more) result = result ≡ Ok (Done commit)
BecomesBy (message.Refused refusal ∷ more) result = TellsRefusal refusal result
BecomesBy (message.StoreFault ∷ more) result = result ≡ Err StoreFault
BecomesBy (message.StoreDamaged file line ∷ more) result = TellsDamage file line result
BecomesBy other result = result ≡ Err IsRefused

abbrev pub Becomes : Heard → Result Obeyed DoorRefusal → Type 0
Becomes (Ok replies) result = BecomesBy replies result
Becomes (Err refusal) result = result ≡ Err (refusal_of refusal)
