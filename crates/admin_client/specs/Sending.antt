-- An administrator's client, and what sending a message does.
use Rattle.std.specs.Prelude.{◌≡◌, ◌⊎◌, ◌+◌, ◌%◌, ◌^◌, ◌≤◌, ℕ, if◌then◌else◌, List, [], length, Option, Some, None}
use Rattle.std.specs.Prelude.{is_some, Result, Ok, Err}
use Rattle.std.specs.declared.alloc.AllocError.{AllocError}
use Rattle.desk_ports.specs.Faults.{next_count}
use Rattle.desk_ports.specs.PortFault.{count_after_refusal}
use Rattle.desk_ports.specs.declared.port_faults.PortFault.{PortFault}
use Rattle.desk_ports.specs.declared.port_faults.PortFault.TheVariants as fault
use Rattle.link_ports.specs.Told.{IfTold}
use Rattle.link_ports.specs.Traffic.{Traffic, with_received, with_sent}
use Rattle.link_ports.specs.LinkMarks.{LinkMarks}
use Rattle.wire_fields.specs.Limits.{most_length}
use Rattle.wire_reading.specs.Frame.{body, spelling, with_sequence, IsTooLong}
use Rattle.wire_fields.specs.declared.messages.Message.{Message}
use Rattle.wire_fields.specs.declared.refusals.EncodeRefusal.TheVariants.{TooLong as TooLongFor}
use Rattle.client_connection.specs.Giving.{GivesBack, GivesBackAny}
use Rattle.client_connection.specs.Asking.{IsBase}
use Rattle.client_core.specs.AdminReplies.{wanted_of}
use Rattle.admin_client.specs.Answers.{IsWhole, IsRefused, IfUnavailable}
use Rattle.admin_client.specs.declared.refusals.AdminRefusal.{AdminRefusal}
use Rattle.admin_client.specs.declared.refusals.AdminRefusal.TheVariants.{Unavailable, TooLong, Memory}

-- its dialler, its link, and the number of its next frame
pub record State (N L : Type 0) : Type 0 where
  pub dial : N
  pub link : Option L
  pub sequence : ℕ

-- what it keeps where the dialler is lent to each call
pub record Kept (L : Type 0) : Type 0 where
  pub link : Option L
  pub sequence : ℕ

-- both together
abbrev pub with_dial : {N L : Type 0} → N → Kept L → State N L
with_dial dial kept = record { dial = dial; link = kept.link; sequence = kept.sequence }

-- numbers go from 0 to 65535, and from there to 0
abbrev pub next_number : ℕ → ℕ
next_number sequence = (sequence + 1) % 2 ^ 16

-- the frame of the message
abbrev pub frame_of : ℕ → Message → List ℕ
frame_of sequence message = spelling (with_sequence sequence message)

-- it is no longer than a frame may be
abbrev pub Fits : ℕ → Message → Type 0
Fits sequence message = length (body (with_sequence sequence message)) ≤ most_length

-- what it comes to that a dial gave no link
abbrev pub refusal_by : PortFault → AdminRefusal
refusal_by (fault.Memory error) = Memory error
refusal_by fault.Failed = Unavailable

-- an answer, seen by the list of its messages
abbrev pub listed : {V : Type 0} → (V → List Message) → Result V AdminRefusal → Result (List Message) AdminRefusal
listed items (Ok replies) = Ok (items replies)
listed items (Err refusal) = Err refusal

-- what the bytes that came say
abbrev pub IsSaid : ℕ → Message → Result (List Message) AdminRefusal → List ℕ → Type 0
IsSaid sequence message (Ok replies) bytes = IsWhole (wanted_of message) sequence replies bytes
IsSaid sequence message (Err refusal) bytes = IsRefused (wanted_of message) sequence refusal bytes

-- The frame of the message went out once, and these bytes came; or nothing of it went out.
pub record Exchanged (sequence : ℕ) (message : Message) (result : Result (List Message) AdminRefusal)
    (sent bytes : List ℕ) : Type 0 where
  pub went : (sent ≡ frame_of sequence message) ⊎ ((sent ≡ []) × (result ≡ Err Unavailable))
  pub said : IsSaid sequence message result bytes

abbrev pub Exchanges : ℕ → Message → Result (List Message) AdminRefusal → Option Traffic → Option Traffic → Type 0
Exchanges sequence message result old new = IfTold old (λ before.
    (sent : List ℕ) × (bytes : List ℕ) × Exchanged sequence message result sent bytes
    × (new ≡ Some (with_received bytes (with_sent sent before))))

module _ {N L : Type 0} (link_faults : L → ℕ) (marks : L → LinkMarks) (traffic : L → Option Traffic)
    (faults dials : N → ℕ) (given_back : N → Option (List L)) where
  -- the link that the frame is to go out on: the one that was there, or one that was dialled, which is no failure
  pub record Begins (entry : Option L) (base : L) (old new : N) : Type 0 where
    pub is_base : IsBase link_faults marks traffic entry base
    pub dialled : dials new ≡ (if is_some entry then dials old else next_count (dials old))
    pub counted : faults new ≡ faults old
    pub given : given_back new ≡ given_back old

  -- no link was there, and the dial failed, or found no memory
  pub record IsRefusedDial (fault : PortFault) (entry : Option L) (old new : N) : Type 0 where
    pub was : entry ≡ None
    pub counted : faults new ≡ count_after_refusal fault (faults old)
    pub dialled : dials new ≡ next_count (dials old)
    pub given : given_back new ≡ given_back old

  -- the link is given back; one that failed or ended counts for the dialler
  pub record Refuses (refusal : AdminRefusal) (link : L) (old new : N) : Type 0 where
    pub gives : GivesBack faults dials given_back link_faults marks link old new
    pub counted : IfUnavailable refusal (faults new ≡ next_count (faults old))

  -- a whole answer leaves the link, and a refusal takes it
  abbrev pub Ends : Result (List Message) AdminRefusal → N → L → N → Option L → Type 0
  Ends (Ok replies) dial link after left = (left ≡ Some link) × (after ≡ dial)
  Ends (Err refusal) dial link after left = (left ≡ None) × Refuses refusal link dial after

  -- the frame was to go out on a link
  pub record Talks (message : Message) (result : Result (List Message) AdminRefusal)
      (old new : State N L) : Type 0 where
    pub base : L
    pub link : L
    pub dial : N
    pub begins : Begins old.link base old.dial dial
    pub exchanged : Exchanges old.sequence message result (traffic base) (traffic link)
    pub ends : Ends result dial link new.dial new.link
    pub sequence : new.sequence ≡ next_number old.sequence

  pub record FailsToDial (result : Result (List Message) AdminRefusal) (old new : State N L) : Type 0 where
    pub fault : PortFault
    pub is : result ≡ Err (refusal_by fault)
    pub refused : IsRefusedDial fault old.link old.dial new.dial
    pub same : new ≡ record old { dial = new.dial }

  -- no memory was found to spell the message; the link is given back, if there is one
  pub record FindsNoRoom (result : Result (List Message) AdminRefusal) (old new : State N L) : Type 0 where
    pub error : AllocError
    pub is : result ≡ Err (Memory error)
    pub link : new.link ≡ None
    pub gives : GivesBackAny faults dials given_back link_faults marks old.link old.dial new.dial
    pub sequence : new.sequence ≡ old.sequence

  -- the frame would be too long: nothing was sent, and all stays
  pub record IsRefusedLong (message : Message) (result : Result (List Message) AdminRefusal)
      (old new : State N L) : Type 0 where
    pub size : ℕ
    pub long : IsTooLong (with_sequence old.sequence message) (TooLongFor size)
    pub is : result ≡ Err (TooLong size)
    pub same : new ≡ old

  -- A message is sent once at most, on one link.
  pub data Sends (message : Message) (result : Result (List Message) AdminRefusal) (old new : State N L) : Type 0 where
    too_long : IsRefusedLong message result old new → Sends message result old new
    no_room : FindsNoRoom result old new → Sends message result old new
    no_dial : Fits old.sequence message → FailsToDial result old new → Sends message result old new
    talks : Fits old.sequence message → Talks message result old new → Sends message result old new
