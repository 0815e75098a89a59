-- A message that was sent, and what came back.
use Rattle.std.proofs.Common.{◌≡◌, ◌∙◌, ℕ, List, [], Option, Some, Result, Ok, Err, refl, sym, ap, subst, inl, inr, append-nil, Bool, true, false}
use Rattle.std.specs.declared.alloc.AllocError.{AllocError}
use Rattle.desk_ports.specs.Faults.{next_count}
use Rattle.link_ports.specs.Told.{KeepsTold, ChangesTold}
use Rattle.link_ports.specs.LinkMarks.{LinkMarks}
use Rattle.link_ports.specs.NetCounts.{count_after_give_back}
use Rattle.client_connection.specs.Reading.{IsTrouble}
use Rattle.client_connection.proofs.Troubles.{trouble-counts}
use Rattle.link_ports.specs.Traffic.{Traffic, with_received, with_sent}
use Rattle.wire_reading.specs.Stream.{IsOpen, first_of}
use Rattle.wire_reading.specs.Frame.{spelling, with_sequence, IsTooLong}
use Rattle.wire_fields.specs.declared.messages.Framed.{Framed}
use Rattle.wire_fields.specs.declared.messages.Message.{Message}
use Rattle.wire_fields.specs.declared.refusals.EncodeRefusal.TheVariants.{TooLong as TooLongFor}
use Rattle.wire_fields.specs.declared.operations.Heard.TheVariants.{Replies}
use Rattle.client_core.specs.AdminReplies.{wanted_of}
use Rattle.client_core.specs.Admin.{Admin, cut, exchange_of}
use Rattle.client_core.specs.Admin as does
use Rattle.client_core.specs.declared.stages.AdminStage.{AdminStage}
use Rattle.client_core.specs.declared.stages.AdminStage.TheVariants as stage
use Rattle.client_core.specs.declared.steps.Step.{Step}
use Rattle.client_core.specs.declared.steps.Step.TheVariants as step
use Rattle.client_core.specs.declared.steps.Fault.{Fault}
use Rattle.client_core.specs.declared.steps.Fault.TheVariants as fault
use Rattle.admin_client.specs.Answers.{TookBytes, IfUnavailable}
use Rattle.admin_client.specs.Sending.{Fits, frame_of, IsSaid, Exchanges}
use Rattle.admin_client.specs.declared.beginning.Begun.{Begun}
use Rattle.admin_client.specs.parts.Beginning.{answer_of}
use Rattle.admin_client.specs.parts.States.{IsAlone, IsAtRest, IsDialling, IsDue}
use Rattle.admin_client.specs.parts.Talking.{Answers, Leaves}
use Rattle.admin_client.specs.declared.refusals.AdminRefusal.{AdminRefusal}
use Rattle.admin_client.specs.declared.refusals.AdminRefusal.TheVariants.{Unavailable, BadReply, TooLong, Memory}

-- what the bytes say
pub said : (sequence : ℕ) (message : Message) (result : Result (List Message) AdminRefusal) (start end : Option Traffic)
    → Answers (wanted_of message) sequence result start end → TookBytes (IsSaid sequence message result) start end
said sequence message (Ok replies) start end is = is
said sequence message (Err refusal) start end is = is

-- the message was sent, and this was read
pub talked : (sequence : ℕ) (message : Message) (result : Result (List Message) AdminRefusal) (old between new : Option Traffic)
    → ChangesTold old (with_sent (frame_of sequence message)) between → TookBytes (IsSaid sequence message result) between new
    → Exchanges sequence message result old new
talked sequence message result old between new sent read before told =
    let came = read (with_sent (frame_of sequence message) before) (sent before told) in
    (frame_of sequence message, came.0, record { went = inl refl; said = came.1 }, came.2)

-- no bytes are less than a frame
nothing_open : IsOpen Replies []
unfolding first_of
nothing_open = refl

nothing_more : (before : Traffic) → with_received [] (with_sent [] before) ≡ before
nothing_more before = λ i. record { received = append-nil before.received i; sent = append-nil before.sent i }

-- nothing was sent
pub unsent : (sequence : ℕ) (message : Message) (old new : Option Traffic) → KeepsTold old new
    → Exchanges sequence message (Err Unavailable) old new
unsent sequence message old new kept before told = (
  [],
  [],
  record { went = inr (refl, refl); said = ([], record { rows = []; heard = refl; are_rows = tt }, nothing_open) },
  kept before told ∙ ap Some (sym (nothing_more before)),
)

-- what giving the link back counts, by why it was
pub counts : (refusal : AdminRefusal) (marks : LinkMarks) (faults count after : ℕ) → IfUnavailable refusal (IsTrouble marks faults)
    → marks.ends ≡ 0 → after ≡ count_after_give_back marks faults count → IfUnavailable refusal (after ≡ next_count count)
counts Unavailable marks faults count after trouble none is = is ∙ trouble-counts marks faults count trouble none
counts (BadReply fault) marks faults count after trouble none is = tt
counts (TooLong n) marks faults count after trouble none is = tt
counts (Memory error) marks faults count after trouble none is = tt

-- ---- the machine is given a message

abbrev the_ok : Step → Result Step ℕ
the_ok answer = Ok answer

send_over : {X : Type 0} (found : Fault) → step.Send ≡ step.Over found → X
send_over found is = cc

dial_over : {X : Type 0} (found : Fault) → step.Dial ≡ step.Over found → X
dial_over found is = cc

over_send : {X : Type 0} (found : Fault) → step.Over found ≡ step.Send → X
over_send found is = cc

over_dial : {X : Type 0} (found : Fault) → step.Over found ≡ step.Dial → X
over_dial found is = cc

send_dial : {X : Type 0} → step.Send ≡ step.Dial → X
send_dial is = cc

dial_send : {X : Type 0} → step.Dial ≡ step.Send → X
dial_send is = cc

module _ (message : Message) (old new : Admin) (idle : old.stage ≡ stage.Idle) where
  abbrev framed : Framed
  framed = with_sequence old.sequence message

  abbrev with_frame : Admin
  with_frame = record old { frame = spelling framed }

  spelled : (answer : Result Step ℕ) → does.Says message answer old new → does.spells message answer old new
  spelled answer d = subst (λ (s : AdminStage). does.says_at s message answer old new) idle d

  -- it is too long
  pub too_long : (n : ℕ) → does.Says message (Err n) old new → IsTooLong framed (TooLongFor n) × (new ≡ record old { frame = [] })
  too_long n d = spelled (Err n) d

  -- no memory was found for its frame
  begun_over : {X : Type 0} (is_linked : Bool) (found : Fault) → does.begins is_linked (exchange_of framed) (step.Over found) with_frame new → X
  begun_over true found d = over_send found d.0
  begun_over false found d = over_dial found d.0

  lacks : (found : Fault) → does.spells message (Ok (step.Over found)) old new → new ≡ record (cut old) { frame = [] }
  lacks found (inl d) = begun_over old.is_linked found d.1
  lacks found (inr d) = d.2

  pub lacks_room : (found : Fault) → does.Says message (Ok (step.Over found)) old new → new ≡ record (cut old) { frame = [] }
  lacks_room found d = lacks found (spelled (Ok (step.Over found)) d)

  -- a link is there, and the frame is to be sent
  to_send : does.spells message (Ok step.Send) old new → old.is_linked ≡ true
      → Fits old.sequence message × (new ≡ does.sent (exchange_of framed) with_frame)
  to_send (inl d) linked =
      (d.0, (subst (λ (b : Bool). does.begins b (exchange_of framed) step.Send with_frame new) linked d.1).1)
  to_send (inr d) linked = send_over (fault.Memory d.0) d.1

  pub sends : does.Says message (Ok step.Send) old new → old.is_linked ≡ true
      → Fits old.sequence message × (new ≡ does.sent (exchange_of framed) with_frame)
  sends d linked = to_send (spelled (Ok step.Send) d) linked

  pub send_due : does.Says message (Ok step.Send) old new → old.is_linked ≡ true → IsDue old.sequence message new
  send_due d linked =
      subst (IsDue old.sequence message) (sym (sends d linked).1) (record { stage_is = refl; frame_is = refl; linked = refl })

  -- none is there, and the service is to be dialled
  to_dial : does.spells message (Ok step.Dial) old new → old.is_linked ≡ false
      → Fits old.sequence message × (new ≡ record with_frame { stage = stage.Dialling (exchange_of framed) })
  to_dial (inl d) alone =
      (d.0, (subst (λ (b : Bool). does.begins b (exchange_of framed) step.Dial with_frame new) alone d.1).1)
  to_dial (inr d) alone = dial_over (fault.Memory d.0) d.1

  pub dials_so : does.Says message (Ok step.Dial) old new → old.is_linked ≡ false
      → Fits old.sequence message × (new ≡ record with_frame { stage = stage.Dialling (exchange_of framed) })
  dials_so d alone = to_dial (spelled (Ok step.Dial) d) alone

  pub dial_due : does.Says message (Ok step.Dial) old new → old.is_linked ≡ false → IsDialling message new
  dial_due d alone =
      let so = dials_so d alone in
      subst (IsDialling message) (sym so.1) (record { stage_is = refl; frame_is = refl; fits = so.0 })

  -- where a link is there none is to be dialled, and without one nothing is to be sent
  no_dial : does.spells message (Ok step.Dial) old new → old.is_linked ≡ true → ⊥
  no_dial (inl d) linked = dial_send (subst (λ (b : Bool). does.begins b (exchange_of framed) step.Dial with_frame new) linked d.1).0
  no_dial (inr d) linked = dial_over (fault.Memory d.0) d.1

  pub never_dials : does.Says message (Ok step.Dial) old new → old.is_linked ≡ true → ⊥
  never_dials d linked = no_dial (spelled (Ok step.Dial) d) linked

  no_send : does.spells message (Ok step.Send) old new → old.is_linked ≡ false → ⊥
  no_send (inl d) alone = send_dial (subst (λ (b : Bool). does.begins b (exchange_of framed) step.Send with_frame new) alone d.1).0
  no_send (inr d) alone = send_over (fault.Memory d.0) d.1

  pub never_sends : does.Says message (Ok step.Send) old new → old.is_linked ≡ false → ⊥
  never_sends d alone = no_send (spelled (Ok step.Send) d) alone

  -- nothing else comes of it
  begun_at : (is_linked : Bool) (answer : Step) → does.begins is_linked (exchange_of framed) answer with_frame new
      → (begun : Begun) × (answer_of begun ≡ Ok answer)
  begun_at true answer d = (Begun.Send, ap (λ (s : Step). Ok s) (sym d.0))
  begun_at false answer d = (Begun.Dial, ap (λ (s : Step). Ok s) (sym d.0))

  begun_by : (answer : Step) → does.spells message (Ok answer) old new → (begun : Begun) × (answer_of begun ≡ Ok answer)
  begun_by answer (inl d) = begun_at old.is_linked answer d.1
  begun_by answer (inr d) = (Begun.NoRoom d.0, ap (λ (s : Step). Ok s) (sym d.1))

  pub begun : (answer : Step) → does.Says message (Ok answer) old new → (begun : Begun) × (answer_of begun ≡ Ok answer)
  begun answer d = begun_by answer (spelled (Ok answer) d)

ok_step : (one other : Step) → the_ok one ≡ the_ok other → other ≡ one
ok_step one other is = cc

err_step : (n : ℕ) (answer : Step) → Err n ≡ the_ok answer → ⊥
err_step n answer is = cc

-- it is one of these
pub one_of_them : (answer : Step) (begun : Begun) → answer_of begun ≡ Ok answer → (answer ≡ step.Send → ⊥) → (answer ≡ step.Dial → ⊥)
    → ((found : Fault) → answer ≡ step.Over found → ⊥) → ⊥
one_of_them answer Begun.Send is not_send not_dial not_over = not_send (ok_step step.Send answer is)
one_of_them answer Begun.Dial is not_send not_dial not_over = not_dial (ok_step step.Dial answer is)
one_of_them answer (Begun.NoRoom error) is not_send not_dial not_over =
    not_over (fault.Memory error) (ok_step (step.Over (fault.Memory error)) answer is)
one_of_them answer (Begun.TooLong n) is not_send not_dial not_over = err_step n answer is

over_fault : (one other : Fault) → the_ok (step.Over one) ≡ the_ok (step.Over other) → other ≡ one
over_fault one other is = cc

send_no_fault : {X : Type 0} (found : Fault) → the_ok step.Send ≡ the_ok (step.Over found) → X
send_no_fault found is = cc

dial_no_fault : {X : Type 0} (found : Fault) → the_ok step.Dial ≡ the_ok (step.Over found) → X
dial_no_fault found is = cc

-- the one fault of it is want of memory
pub no_memory : (found : Fault) (begun : Begun) → answer_of begun ≡ Ok (step.Over found) → (error : AllocError) × (found ≡ fault.Memory error)
no_memory found Begun.Send is = send_no_fault found is
no_memory found Begun.Dial is = dial_no_fault found is
no_memory found (Begun.NoRoom error) is = (error, over_fault (fault.Memory error) found is)
no_memory found (Begun.TooLong n) is = absurd (err_step n (step.Over found) is)

-- it is told that the service was dialled
pub told_dialled : (message : Message) (answer : Step) (old new : Admin) → IsDialling message old → does.Dialled answer old new
    → (answer ≡ step.Send) × (new ≡ does.sent (exchange_of (with_sequence old.sequence message)) old)
told_dialled message answer old new due d = subst (λ (s : AdminStage). does.dialled_at s answer old new) due.stage_is d

pub dialled_due : (message : Message) (answer : Step) (old new : Admin) → IsDialling message old → does.Dialled answer old new
    → IsDue old.sequence message new
dialled_due message answer old new due d =
    subst (IsDue old.sequence message) (sym (told_dialled message answer old new due d).1)
    (record { stage_is = refl; frame_is = due.frame_is; linked = refl })

-- ---- what the machine is behind it

pub left_rests : {L : Type 0} (link : L) (trouble : Type 0) (replies : List Message) (old new : Admin) → old.is_linked ≡ true
    → Leaves trouble (Ok replies) old new → IsAtRest (Some link) new
left_rests link trouble replies old new linked is =
    (ap (λ (k : Admin). k.stage) is, ap (λ (k : Admin). k.is_linked) is ∙ linked)

pub cut_rests : (old new : Admin) → new ≡ cut old → IsAlone new
cut_rests old new is = (ap (λ (k : Admin). k.stage) is, ap (λ (k : Admin). k.is_linked) is)

pub same_number : (trouble : Type 0) (result : Result (List Message) AdminRefusal) (old new : Admin) → Leaves trouble result old new
    → new.sequence ≡ old.sequence
same_number trouble (Ok replies) old new is = ap (λ (k : Admin). k.sequence) is
same_number trouble (Err refusal) old new is = ap (λ (k : Admin). k.sequence) is.0
