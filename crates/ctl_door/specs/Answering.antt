-- Whether a service answers: a check, and then a listing.
use Rattle.std.specs.Prelude.{◌≡◌, ◌⊎◌, ℕ, Bool, true, false, if◌then◌else◌, List, []}
use Rattle.std.specs.Prelude.{◌∷◌, Option, Some, None, Result, Ok, Err, codes}
use Rattle.std.specs.declared.alloc.AllocError.{AllocError}
use Rattle.link_ports.specs.Traffic.{Traffic}
use Rattle.link_ports.specs.LinkMarks.{LinkMarks}
use Rattle.cynara_keys.specs.Key.{Question}
use Rattle.cynara_keys.specs.declared.fields.FilterField.TheVariants.{Every, Exact}
use Rattle.wire_fields.specs.declared.messages.Message.{Message}
use Rattle.wire_fields.specs.declared.messages.Message.TheVariants as message
use Rattle.cynara_client.specs.declared.refusals.Checked.{Checked}
use Rattle.cynara_client.specs.declared.refusals.ClientRefusal.{ClientRefusal}
use Rattle.cynara_client.specs.declared.refusals.ClientRefusal.TheVariants as client
use Rattle.client_runs.specs.AskedOnce.{first_frame, AsksOnce}
use Rattle.ctl_door.specs.declared.refusals.DoorRefusal.{DoorRefusal}
use Rattle.ctl_door.specs.declared.refusals.DoorRefusal.TheVariants.{Unavailable, BadReply, NoState, Refused, Memory}
use Rattle.ctl_door.specs.Replies.{Heard, Asks, refusal_of}

-- the name that is asked about
abbrev pub probe : List ℕ
probe = codes "privctl"

-- the question for a check
abbrev pub probe_question : Question
probe_question = record { client = probe; user = probe; privilege = probe }

-- the message for a listing
abbrev pub probe_listing : Message
probe_listing = message.Listing [] (record { client = Exact probe; user = Every; privilege = Every })

-- Why a check is no answer. What the service refuses is one.
abbrev pub fault_of : Result Checked ClientRefusal → Option DoorRefusal
fault_of (Ok checked) = None
fault_of (Err client.Unavailable) = Some Unavailable
fault_of (Err (client.BadReply fault)) = Some (BadReply fault)
fault_of (Err (client.Older told got)) = Some NoState
fault_of (Err (client.Memory error)) = Some (Memory error)
fault_of (Err other) = None

-- no fault is an answer
abbrev pub as_result : Option DoorRefusal → Result (Unit {0}) DoorRefusal
as_result None = Ok tt
as_result (Some refusal) = Err refusal

-- the replies are rows and their end
abbrev pub is_list : List Message → Bool
is_list (message.ListRow policy ∷ more) = true
is_list (message.ListEnd count ∷ more) = true
is_list other = false

abbrev pub listing_by : Heard → Result (Unit {0}) DoorRefusal
listing_by (Ok replies) = if is_list replies then Ok tt else Err Refused
listing_by (Err refusal) = Err (refusal_of refusal)

module _ {N L : Type 0} (link_faults : L → ℕ) (marks : L → LinkMarks) (traffic : L → Option Traffic)
    (faults dials : N → ℕ) (given_back : N → Option (List L)) where
  -- The check went out as one that asks no agent, and was answered, or this is why not.
  abbrev pub ChecksOnce : Result (Unit {0}) DoorRefusal → N → N → Type 0
  ChecksOnce result before after = (answer : Result Checked ClientRefusal)
      × AsksOnce link_faults marks traffic faults dials given_back (first_frame true probe_question) answer before after
      × (result ≡ as_result (fault_of answer))

  -- The same, or no memory was found for the question.
  abbrev pub Checks : Result (Unit {0}) DoorRefusal → N → N → Type 0
  Checks result before after =
      ChecksOnce result before after ⊎ ((error : AllocError) × (result ≡ Err (Memory error)) × (after ≡ before))

  -- Both were answered. Or the check was not, and no listing was asked for; or the listing was not.
  pub data Answers (result : Result (Unit {0}) DoorRefusal) (before after : N) : Type 0 where
    no_check : (refusal : DoorRefusal) → result ≡ Err refusal → Checks (Err refusal) before after
        → Answers result before after
    checked : (between : N) → Checks (Ok tt) before between
        → Asks link_faults marks traffic faults dials given_back probe_listing
        (λ heard. result ≡ listing_by heard) between after
        → Answers result before after
