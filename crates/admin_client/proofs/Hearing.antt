-- Bytes that were received piece by piece, and what the machine makes of them.
use Rattle.std.proofs.Common.{◌≡◌, ◌<◌, ◌≤◌, ◌∙◌, ℕ, Bool, List, [], ◌++◌, length, Option, Some, Result, sym, ap, subst, arith, append-nil, length-append}
use Rattle.link_ports.specs.Told.{IfTold}
use Rattle.link_ports.specs.Traffic.{Traffic, with_received}
use Rattle.wire_reading.specs.Stream.{IsOpen, wanted}
use Rattle.wire_reading.proofs.Settling.{open_bound}
use Rattle.wire_fields.specs.declared.messages.Framed.{Framed}
use Rattle.wire_fields.specs.declared.messages.Message.{Message}
use Rattle.wire_fields.specs.declared.operations.Heard.TheVariants.{Replies}
use Rattle.client_connection.specs.Reading.{IsRead, Receives}
use Rattle.client_connection.specs.Coming.{Comes}
use Rattle.client_connection.specs.declared.faults.Broken.{Broken}
use Rattle.client_connection.proofs.Exchanging.{nothing_open}
use Rattle.client_connection.proofs.Receiving.{comes_too, read_whole, received_more, received_nothing}
use Rattle.client_connection.proofs.Sizes.{piece_within, open_wants}
use Rattle.client_core.specs.Listening.{Listening, unheard, is_fit}
use Rattle.client_core.specs.Hearing.{fault_by}
use Rattle.client_core.specs.Admin.{Admin, cut}
use Rattle.client_core.specs.Admin as does
use Rattle.client_core.proofs.Staging.{fit, admin_by_piece, admin_by_reply, wait_over, wait_reply}
use Rattle.client_core.specs.declared.stages.Exchange.{Exchange}
use Rattle.client_core.specs.declared.stages.AdminStage.{AdminStage}
use Rattle.client_core.specs.declared.stages.AdminStage.TheVariants as stage
use Rattle.client_core.specs.declared.steps.Step.{Step}
use Rattle.client_core.specs.declared.steps.Step.TheVariants as step
use Rattle.client_core.specs.declared.steps.Fault.{Fault}
use Rattle.client_core.specs.declared.steps.Fault.TheVariants as fault
use Rattle.admin_client.specs.parts.Talking.{Follows, Hears, Takes}

module _ (before after : Option Traffic) (trouble : Type 0) (exchange : Exchange) (ear : Listening) (answer : Step) (old new : Admin)
    (unfinished : IsOpen ear.side ear.bytes) where
  followed : (framed : Framed) → does.Concludes exchange framed answer old new → Follows exchange framed answer old new
  followed framed d =
      admin_by_reply exchange framed answer old new (λ is a n. Follows.row is a n) (λ is a n. Follows.last is a n)
      (λ found is a n. Follows.wrong found is a n) d

  -- some bytes came
  pub some_came : (bytes : List ℕ) → IfTold before (λ traffic. after ≡ Some (with_received bytes traffic)) → 0 < length bytes
      → length bytes ≤ wanted ear.bytes → old.stage ≡ stage.Waiting exchange ear → does.Comes bytes answer old new
      → Takes before after trouble exchange ear answer old new
  some_came bytes received some few was came =
      let at : does.comes (is_fit ear.bytes bytes) exchange ear bytes answer old new =
      subst (λ (s : AdminStage). does.comes_at s bytes answer old new) was came in
      let heard : does.HearsReply exchange ear bytes answer old new =
      subst (λ (b : Bool). does.comes b exchange ear bytes answer old new) (fit ear.bytes bytes some few) at in
      admin_by_piece exchange ear bytes answer old new
      (λ after is open_frame a n. Takes.went_on bytes some received open_frame a
      (n ∙ ap (λ (l : Listening). record old { stage = stage.Waiting exchange l }) is))
      (λ framed whole d. Takes.ended bytes received (Comes.whole framed whole (followed framed d)))
      (λ refusal begins a n. Takes.ended bytes received
      (Comes.bad refusal (record { begins = begins; within = piece_within ear.side ear.bytes bytes unfinished few }) (a, n))) heard

  -- none came, and the machine was told that the connection ended
  pub none_came : IfTold before (λ traffic. after ≡ Some (with_received [] traffic)) → trouble → old.stage ≡ stage.Waiting exchange ear
      → does.Falls answer old new → Takes before after trouble exchange ear answer old new
  none_came received lost was fell =
      Takes.ended [] received
      (Comes.cut (subst (λ (bytes : List ℕ). IsOpen ear.side bytes) (sym (append-nil ear.bytes)) unfinished)
      (lost, fell.0 ∙ ap (λ (s : AdminStage). does.answer_to_fall s) was, fell.1))

-- ---- what the machine does does not hang on how much it heard

module _ (exchange : Exchange) (answer : Step) (old new : Admin) (s : AdminStage) where
  same_follows : (framed : Framed) → Follows exchange framed answer (record old { stage = s }) new
      → Follows exchange framed answer old new
  same_follows framed (Follows.row is a n) = Follows.row is a n
  same_follows framed (Follows.last is a n) = Follows.last is a n
  same_follows framed (Follows.wrong found is a n) = Follows.wrong found is a n

  -- it was read behind what was read before
  pub heard_on : (Reads Known : Result Framed Broken → Type 0) (trouble : Type 0)
      → ((result : Result Framed Broken) → Reads result → Known result)
      → Hears Reads trouble exchange answer (record old { stage = s }) new → Hears Known trouble exchange answer old new
  heard_on Reads Known trouble known comes =
      comes_too Reads Known
      (λ framed. Follows exchange framed answer (record old { stage = s }) new)
      (λ framed. Follows exchange framed answer old new)
      (λ refusal. (answer ≡ step.Over (fault_by refusal)) × (new ≡ cut old))
      (λ refusal. (answer ≡ step.Over (fault_by refusal)) × (new ≡ cut old))
      (trouble × (answer ≡ step.Over fault.Unavailable) × (new ≡ cut old))
      (trouble × (answer ≡ step.Over fault.Unavailable) × (new ≡ cut old))
      known (λ framed d. same_follows framed d) (λ refusal d. d)
      (λ d. d) comes

-- one reply to one message is under way
pub same_exchange : (one other : Exchange) → stage.Waiting one (unheard Replies) ≡ stage.Waiting other (unheard Replies) → one ≡ other
same_exchange one other is = cc

-- ---- piece by piece

-- so many bytes of the reply were heard
abbrev pub heard_at : AdminStage → ℕ
heard_at (stage.Waiting exchange ear) = length ear.bytes
heard_at other = 0

abbrev pub so_far : Admin → Exchange → List ℕ → Admin
so_far old exchange bytes = record old { stage = stage.Waiting exchange (record { side = Replies; bytes = bytes }) }

-- what is known before each piece
pub record IsUnder (start now : Option Traffic) (old machine : Admin) : Type 0 where
  pub exchange : Exchange
  pub was : old.stage ≡ stage.Waiting exchange (unheard Replies)
  pub bytes : List ℕ
  pub is : machine ≡ so_far old exchange bytes
  pub unfinished : IsOpen Replies bytes
  pub received : IfTold start (λ before. now ≡ Some (with_received bytes before))

-- before the first one
pub begun : (start : Option Traffic) (old : Admin) (exchange : Exchange) → old.stage ≡ stage.Waiting exchange (unheard Replies)
    → IsUnder start start old old
begun start old exchange was = record {
  exchange = exchange;
  was = was;
  bytes = [];
  is = λ i. record old { stage = was i };
  unfinished = nothing_open Replies;
  received = received_nothing start;
}

wait_row : {X : Type 0} (m : Message) → step.Wait ≡ step.Row m → X
wait_row m is = cc

no_conclusion : {X : Type 0} (exchange : Exchange) (framed : Framed) (old new : Admin)
    → Follows exchange framed step.Wait old new → X
no_conclusion exchange framed old new (Follows.row is a n) = wait_row framed.message a
no_conclusion exchange framed old new (Follows.last is a n) = wait_reply framed.message a
no_conclusion exchange framed old new (Follows.wrong found is a n) = wait_over found a

-- the machine waits for no more bytes behind the end
no_wait : {X : Type 0} (Reads : Result Framed Broken → Type 0) (trouble : Type 0) (exchange : Exchange) (old new : Admin)
    → Hears Reads trouble exchange step.Wait old new → X
no_wait Reads trouble exchange old new (Comes.whole framed read d) =
    no_conclusion exchange framed old new d
no_wait Reads trouble exchange old new (Comes.bad refusal read d) = wait_over (fault_by refusal) d.0
no_wait Reads trouble exchange old new (Comes.cut read d) = wait_over fault.Unavailable d.1

module _ (start mid end : Option Traffic) (trouble : Type 0) (old machine new : Admin) (under : IsUnder start mid old machine) where
  abbrev ear : Listening
  ear = record { side = Replies; bytes = under.bytes }

  abbrev Taken : Step → Type 0
  Taken answer = (exchange : Exchange) (ear : Listening) → machine.stage ≡ stage.Waiting exchange ear → IsOpen ear.side ear.bytes
      → Takes mid end trouble exchange ear answer machine new

  taken_at : (answer : Step) → Taken answer → Takes mid end trouble under.exchange ear answer machine new
  taken_at answer taken = taken under.exchange ear (ap (λ (c : Admin). c.stage) under.is) under.unfinished

  went : Takes mid end trouble under.exchange ear step.Wait machine new
      → IsUnder start end old new × (heard_at machine.stage < heard_at new.stage)
  went (Takes.went_on more some received unfinished a now) =
      let is : new ≡ so_far old under.exchange (under.bytes ++ more) =
      now ∙ ap (λ (c : Admin). record c { stage = stage.Waiting under.exchange (record ear { bytes = under.bytes ++ more }) }) under.is in
      let first : heard_at machine.stage ≡ length under.bytes = ap (λ (c : Admin). heard_at c.stage) under.is in
      let after : heard_at new.stage ≡ length (under.bytes ++ more) = ap (λ (c : Admin). heard_at c.stage) is in (
        record {
          exchange = under.exchange;
          was = under.was;
          bytes = under.bytes ++ more;
          is = is;
          unfinished = unfinished;
          received = received_more under.bytes more start mid end under.received received;
        },
        omega (arith, first, after, some, length-append under.bytes more),
      )
  went (Takes.ended more received comes) =
      no_wait (λ result. IsRead Replies result (under.bytes ++ more)) trouble under.exchange machine new comes

  -- the reply goes on
  pub goes_on : Taken step.Wait → IsUnder start end old new × (heard_at machine.stage < heard_at new.stage)
  goes_on taken = went (taken_at step.Wait taken)

  finished : (answer : Step) → (answer ≡ step.Wait → ⊥) → Takes mid end trouble under.exchange ear answer machine new
      → Hears (λ result. Receives Replies result start end) trouble under.exchange answer old new
  finished answer not (Takes.went_on more some received unfinished a now) = absurd (not a)
  finished answer not (Takes.ended more received comes) =
      heard_on under.exchange answer old new (stage.Waiting under.exchange ear)
      (λ result. IsRead Replies result (under.bytes ++ more)) (λ result. Receives Replies result start end) trouble
      (λ result read. read_whole under.bytes more start mid end result under.received received read)
      (subst (λ (c : Admin). Hears (λ result. IsRead Replies result (under.bytes ++ more)) trouble under.exchange answer c new)
      under.is comes)

  -- the reply has come
  pub ends_so : (answer : Step) → (answer ≡ step.Wait → ⊥) → Taken answer → (exchange : Exchange)
      → old.stage ≡ stage.Waiting exchange (unheard Replies)
      → Hears (λ result. Receives Replies result start end) trouble exchange answer old new
  ends_so answer not taken exchange was =
      subst (λ (e : Exchange). Hears (λ result. Receives Replies result start end) trouble e answer old new)
      (same_exchange under.exchange exchange (sym under.was ∙ was)) (finished answer not (taken_at answer taken))

  -- so much was heard at most
  pub most_heard : heard_at machine.stage < 1048580
  most_heard =
      let most : length under.bytes ≤ 1048579 = (open_bound Replies under.bytes under.unfinished).most in
      let is : heard_at machine.stage ≡ length under.bytes = ap (λ (c : Admin). heard_at c.stage) under.is in
      omega (arith, most, is)

-- some bytes are wanted as long as the frame is not whole
pub some_wanted : (start now : Option Traffic) (old machine : Admin) → IsUnder start now old machine → 0 < does.wanted_at machine.stage
some_wanted start now old machine under =
    subst (λ (c : Admin). 0 < does.wanted_at c.stage) (sym under.is)
    (open_wants Replies under.bytes under.unfinished)

-- ---- what a step can be

module _ (exchange : Exchange) (answer : Step) (old new : Admin) (not_row : (m : Message) → answer ≡ step.Row m → ⊥)
    (not_reply : (m : Message) → answer ≡ step.Reply m → ⊥) (not_over : (f : Fault) → answer ≡ step.Over f → ⊥) where
  only_followed : (framed : Framed) → Follows exchange framed answer old new → ⊥
  only_followed framed (Follows.row is a n) = not_row framed.message a
  only_followed framed (Follows.last is a n) = not_reply framed.message a
  only_followed framed (Follows.wrong found is a n) = not_over found a

  -- a row, the last reply, or a fault
  pub only_heard : (Reads : Result Framed Broken → Type 0) (trouble : Type 0) → Hears Reads trouble exchange answer old new → ⊥
  only_heard Reads trouble (Comes.whole framed read d) =
      only_followed framed d
  only_heard Reads trouble (Comes.bad refusal read d) = not_over (fault_by refusal) d.0
  only_heard Reads trouble (Comes.cut read d) = not_over fault.Unavailable d.1

  -- or more is waited for
  only_taken : (before after : Option Traffic) (trouble : Type 0) (heard : Listening) → (answer ≡ step.Wait → ⊥)
      → Takes before after trouble exchange heard answer old new → ⊥
  only_taken before after trouble heard not_wait (Takes.went_on bytes some received unfinished a n) = not_wait a
  only_taken before after trouble heard not_wait (Takes.ended bytes received comes) =
      only_heard (λ result. IsRead heard.side result (heard.bytes ++ bytes)) trouble comes

pub only_these : (start mid end : Option Traffic) (trouble : Type 0) (old machine new : Admin) (under : IsUnder start mid old machine)
    (answer : Step)
    → ((exchange : Exchange) (ear : Listening) → machine.stage ≡ stage.Waiting exchange ear → IsOpen ear.side ear.bytes
    → Takes mid end trouble exchange ear answer machine new)
    → (answer ≡ step.Wait → ⊥) → ((m : Message) → answer ≡ step.Row m → ⊥) → ((m : Message) → answer ≡ step.Reply m → ⊥)
    → ((f : Fault) → answer ≡ step.Over f → ⊥) → ⊥
only_these start mid end trouble old machine new under answer taken not_wait not_row not_reply not_over =
    only_taken under.exchange answer machine new not_row not_reply not_over mid end trouble
    (record { side = Replies; bytes = under.bytes }) not_wait
    (taken under.exchange (record { side = Replies; bytes = under.bytes }) (ap (λ (c : Admin). c.stage) under.is) under.unfinished)
