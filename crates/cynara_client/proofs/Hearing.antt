-- Bytes that were received piece by piece, and what the machine makes of them.
use Rattle.std.proofs.Common.{◌≡◌, ◌<◌, ◌≤◌, ◌∙◌, ℕ, Bool, true, false, List, [], ◌++◌, length, Option, Some, None, Result, refl, sym, ap, subst, arith, append-nil, length-append}
use Rattle.std.specs.Prelude.{◌+◌, ◌-◌, nat_le, nat_lt, if◌then◌else◌}
use Rattle.link_ports.specs.Told.{IfTold, KeepsTold, ChangesTold}
use Rattle.link_ports.specs.Traffic.{Traffic, with_received, with_sent}
use Rattle.wire_reading.specs.Frame.{length_of}
use Rattle.wire_reading.specs.Stream.{IsOpen, wanted}
use Rattle.wire_reading.proofs.Settling.{open_bound}
use Rattle.wire_fields.specs.declared.messages.Framed.{Framed}
use Rattle.wire_fields.specs.declared.messages.Message.{Message}
use Rattle.wire_fields.specs.declared.operations.Heard.TheVariants.{Replies}
use Rattle.client_connection.specs.Reading.{IsRead, Receives}
use Rattle.client_connection.specs.Exchange.{Exchanges}
use Rattle.client_connection.specs.Coming.{Comes}
use Rattle.client_connection.specs.declared.faults.Broken.{Broken}
use Rattle.client_connection.proofs.Exchanging.{nothing_open, replied, unsent}
use Rattle.client_connection.proofs.Receiving.{comes_too, read_whole, received_more, received_nothing}
use Rattle.client_connection.proofs.Sizes.{piece_within}
use Rattle.client_core.specs.Listening.{Listening, is_fit}
use Rattle.client_core.specs.Hearing.{fault_by}
use Rattle.client_core.specs.Client.{Client, waiting, forgotten, raised}
use Rattle.client_core.proofs.Staging.{fit, by_piece}
use Rattle.client_core.specs.Asking as does
use Rattle.client_core.specs.declared.stages.Asking.{Asking}
use Rattle.client_core.specs.declared.stages.Stage.{Stage}
use Rattle.client_core.specs.declared.stages.Stage.TheVariants as stage
use Rattle.client_core.specs.declared.steps.Step.{Step}
use Rattle.client_core.specs.declared.steps.Step.TheVariants as step
use Rattle.client_core.specs.declared.steps.Fault.{Fault}
use Rattle.client_core.specs.declared.steps.Fault.TheVariants as fault
use Rattle.cynara_client.specs.parts.Talking.{Hears, Takes, tried}

module _ (before after : Option Traffic) (trouble : Type 0) (asking : Asking) (ear : Listening) (answer : Step) (old new : Client)
    (unfinished : IsOpen ear.side ear.bytes) where
  -- some bytes came
  pub some_came : (bytes : List ℕ) → IfTold before (λ traffic. after ≡ Some (with_received bytes traffic)) → 0 < length bytes
      → length bytes ≤ wanted ear.bytes → old.stage ≡ stage.Waiting asking ear → does.Comes bytes answer old new
      → Takes before after trouble asking ear answer old new
  some_came bytes received some few was came =
      let at : does.comes (is_fit ear.bytes bytes) asking ear bytes answer old new =
      subst (λ (s : Stage). does.comes_at s bytes answer old new) was came in
      let heard : does.HearsReply asking ear bytes answer old new =
      subst (λ (b : Bool). does.comes b asking ear bytes answer old new) (fit ear.bytes bytes some few) at in
      by_piece asking ear bytes answer old new
      (λ after is open_frame a n. Takes.went_on bytes some received open_frame a
      (n ∙ ap (λ (l : Listening). record old { stage = stage.Waiting asking l }) is))
      (λ framed whole d. Takes.ended bytes received (Comes.whole framed whole d))
      (λ refusal begins a n. Takes.ended bytes received
      (Comes.bad refusal (record { begins = begins; within = piece_within ear.side ear.bytes bytes unfinished few }) (a, n))) heard

  -- none came, and the machine was told that the connection ended
  pub none_came : IfTold before (λ traffic. after ≡ Some (with_received [] traffic)) → trouble → old.stage ≡ stage.Waiting asking ear
      → does.Falls answer old new → Takes before after trouble asking ear answer old new
  none_came received lost was fell =
      Takes.ended [] received
      (Comes.cut (subst (λ (bytes : List ℕ). IsOpen ear.side bytes) (sym (append-nil ear.bytes)) unfinished)
      (lost, subst (λ (s : Stage). does.falls_at s answer old new) was fell))

-- ---- what the machine does does not hang on how much it heard

module _ (asking : Asking) (answer : Step) (old new : Client) (s : Stage) where
  same_concludes : (framed : Framed) (found : Option Fault) → does.concludes found asking framed answer (record old { stage = s }) new
      → does.concludes found asking framed answer old new
  same_concludes framed (Some fault) d = d
  same_concludes framed None d = d

  same_retries : (last : Bool) → does.retries last asking answer (record old { stage = s }) new → does.retries last asking answer old new
  same_retries true d = d
  same_retries false d = d

  -- it was read behind what was read before
  pub heard_on : (Reads Known : Result Framed Broken → Type 0) (trouble : Type 0)
      → ((result : Result Framed Broken) → Reads result → Known result)
      → Hears Reads trouble asking answer (record old { stage = s }) new → Hears Known trouble asking answer old new
  heard_on Reads Known trouble known comes =
      comes_too Reads Known
      (λ framed. does.Concludes asking framed answer (record old { stage = s }) new)
      (λ framed. does.Concludes asking framed answer old new)
      (λ refusal. (answer ≡ step.Over (fault_by refusal)) × (new ≡ raised true (forgotten old)))
      (λ refusal. (answer ≡ step.Over (fault_by refusal)) × (new ≡ raised true (forgotten old)))
      (trouble × does.Retries asking answer (record old { stage = s }) new)
      (trouble × does.Retries asking answer old new)
      known (λ framed d. same_concludes framed (does.fault_in old.sequence old.cache.told framed) d) (λ refusal d. d)
      (λ d. (d.0, same_retries (nat_le asking.tries 1) d.1)) comes

-- one frame of one question is under way
pub same_asking : (one other : Asking) → waiting one ≡ waiting other → tried one ≡ tried other
same_asking one other is = cc

-- ---- piece by piece

-- so many bytes of the reply were heard
abbrev pub heard_at : Stage → ℕ
heard_at (stage.Waiting asking ear) = length ear.bytes
heard_at other = 0

abbrev pub so_far : Client → Asking → List ℕ → Client
so_far old asking bytes = record old { stage = stage.Waiting (tried asking) (record { side = Replies; bytes = bytes }) }

-- what is known before each piece
pub record IsUnder (start now : Option Traffic) (old machine : Client) : Type 0 where
  pub asking : Asking
  pub was : old.stage ≡ waiting asking
  pub bytes : List ℕ
  pub is : machine ≡ so_far old asking bytes
  pub unfinished : IsOpen Replies bytes
  pub received : IfTold start (λ before. now ≡ Some (with_received bytes before))

-- before the first one
pub begun : (start : Option Traffic) (old : Client) (asking : Asking) → old.stage ≡ waiting asking → IsUnder start start old old
begun start old asking was = record {
  asking = asking;
  was = was;
  bytes = [];
  is = λ i. record old { stage = was i };
  unfinished = nothing_open Replies;
  received = received_nothing start;
}

never : {X : Type 0} (answer : Step) → (answer ≡ step.Wait → ⊥) → answer ≡ step.Wait → X
never answer not is = absurd (not is)

wait_over : {X : Type 0} (f : Fault) → step.Wait ≡ step.Over f → X
wait_over f is = cc

wait_reply : {X : Type 0} (m : Message) → step.Wait ≡ step.Reply m → X
wait_reply m is = cc

wait_dial : {X : Type 0} → step.Wait ≡ step.Dial → X
wait_dial is = cc

no_conclusion : {X : Type 0} (found : Option Fault) (asking : Asking) (framed : Framed) (old new : Client)
    → does.concludes found asking framed step.Wait old new → X
no_conclusion None asking framed old new d = wait_reply framed.message d.0
no_conclusion (Some fault) asking framed old new d = wait_over fault d.0

no_retry : {X : Type 0} (last : Bool) (asking : Asking) (old new : Client) → does.retries last asking step.Wait old new → X
no_retry true asking old new d = wait_over fault.Unavailable d.0
no_retry false asking old new d = wait_dial d.0

-- the machine waits for no more bytes behind the end
no_wait : {X : Type 0} (Reads : Result Framed Broken → Type 0) (trouble : Type 0) (asking : Asking) (old new : Client)
    → Hears Reads trouble asking step.Wait old new → X
no_wait Reads trouble asking old new (Comes.whole framed read d) =
    no_conclusion (does.fault_in old.sequence old.cache.told framed) asking framed old new d
no_wait Reads trouble asking old new (Comes.bad refusal read d) = wait_over (fault_by refusal) d.0
no_wait Reads trouble asking old new (Comes.cut read d) = no_retry (nat_le asking.tries 1) asking old new d.1

module _ (start mid end : Option Traffic) (trouble : Type 0) (old machine new : Client) (under : IsUnder start mid old machine) where
  abbrev ear : Listening
  ear = record { side = Replies; bytes = under.bytes }

  abbrev Taken : Step → Type 0
  Taken answer = (asking : Asking) (ear : Listening) → machine.stage ≡ stage.Waiting asking ear → IsOpen ear.side ear.bytes
      → Takes mid end trouble asking ear answer machine new

  taken_at : (answer : Step) → Taken answer → Takes mid end trouble (tried under.asking) ear answer machine new
  taken_at answer taken = taken (tried under.asking) ear (ap (λ (c : Client). c.stage) under.is) under.unfinished

  went : Takes mid end trouble (tried under.asking) ear step.Wait machine new
      → IsUnder start end old new × (heard_at machine.stage < heard_at new.stage)
  went (Takes.went_on more some received unfinished a now) =
      let is : new ≡ so_far old under.asking (under.bytes ++ more) =
      now ∙ ap (λ (c : Client). record c { stage = stage.Waiting (tried under.asking) (record ear { bytes = under.bytes ++ more }) }) under.is in
      let first : heard_at machine.stage ≡ length under.bytes = ap (λ (c : Client). heard_at c.stage) under.is in
      let after : heard_at new.stage ≡ length (under.bytes ++ more) = ap (λ (c : Client). heard_at c.stage) is in (
        record {
          asking = under.asking;
          was = under.was;
          bytes = under.bytes ++ more;
          is = is;
          unfinished = unfinished;
          received = received_more under.bytes more start mid end under.received received;
        },
        omega (arith, first, after, some, length-append under.bytes more),
      )
  went (Takes.ended more received comes) =
      no_wait (λ result. IsRead Replies result (under.bytes ++ more)) trouble (tried under.asking) machine new comes

  -- the reply goes on
  pub goes_on : Taken step.Wait → IsUnder start end old new × (heard_at machine.stage < heard_at new.stage)
  goes_on taken = went (taken_at step.Wait taken)

  finished : (answer : Step) → (answer ≡ step.Wait → ⊥) → Takes mid end trouble (tried under.asking) ear answer machine new
      → Hears (λ result. Receives Replies result start end) trouble (tried under.asking) answer old new
  finished answer not (Takes.went_on more some received unfinished a now) = never answer not a
  finished answer not (Takes.ended more received comes) =
      heard_on (tried under.asking) answer old new (stage.Waiting (tried under.asking) ear)
      (λ result. IsRead Replies result (under.bytes ++ more)) (λ result. Receives Replies result start end) trouble
      (λ result read. read_whole under.bytes more start mid end result under.received received read)
      (subst (λ (c : Client). Hears (λ result. IsRead Replies result (under.bytes ++ more)) trouble (tried under.asking) answer c new)
      under.is comes)

  -- the reply has come
  pub ends_so : (answer : Step) → (answer ≡ step.Wait → ⊥) → Taken answer → (asking : Asking) → old.stage ≡ waiting asking
      → Hears (λ result. Receives Replies result start end) trouble (tried asking) answer old new
  ends_so answer not taken asking was =
      subst (λ (a : Asking). Hears (λ result. Receives Replies result start end) trouble a answer old new)
      (same_asking under.asking asking (sym under.was ∙ was)) (finished answer not (taken_at answer taken))

  -- so much was heard at most
  pub most_heard : heard_at machine.stage < 1048580
  most_heard =
      let most : length under.bytes ≤ 1048579 = (open_bound Replies under.bytes under.unfinished).most in
      let is : heard_at machine.stage ≡ length under.bytes = ap (λ (c : Client). heard_at c.stage) under.is in
      omega (arith, most, is)

-- some bytes are wanted as long as the frame is not whole
wanted_if : (short : Bool) (bytes : List ℕ) → nat_lt (length bytes) 4 ≡ short → (4 ≤ length bytes → length bytes < length_of bytes + 4)
    → 0 < (if short then 4 - length bytes else length_of bytes + 4 - length bytes)
wanted_if true bytes is less = let few : length bytes < 4 = grind (arith, is) in omega (arith, few)
wanted_if false bytes is less =
    let long : 4 ≤ length bytes = grind (arith, is) in
    let more = less long in
    omega (arith, more)

pub some_wanted : (start now : Option Traffic) (old machine : Client) → IsUnder start now old machine → 0 < does.wanted_at machine.stage
some_wanted start now old machine under =
    subst (λ (c : Client). 0 < does.wanted_at c.stage) (sym under.is)
    (wanted_if (nat_lt (length under.bytes) 4) under.bytes refl (open_bound Replies under.bytes under.unfinished).less)

-- ---- what a step can be

module _ (asking : Asking) (answer : Step) (old new : Client) (not_reply : (m : Message) → answer ≡ step.Reply m → ⊥)
    (not_dial : answer ≡ step.Dial → ⊥) (not_over : (f : Fault) → answer ≡ step.Over f → ⊥) where
  only_concluded : (found : Option Fault) (framed : Framed) → does.concludes found asking framed answer old new → ⊥
  only_concluded None framed d = not_reply framed.message d.0
  only_concluded (Some f) framed d = not_over f d.0

  only_retried : (last : Bool) → does.retries last asking answer old new → ⊥
  only_retried true d = not_over fault.Unavailable d.0
  only_retried false d = not_dial d.0

  -- a reply, a further dial, or a fault
  pub only_heard : (Reads : Result Framed Broken → Type 0) (trouble : Type 0) → Hears Reads trouble asking answer old new → ⊥
  only_heard Reads trouble (Comes.whole framed read d) =
      only_concluded (does.fault_in old.sequence old.cache.told framed) framed d
  only_heard Reads trouble (Comes.bad refusal read d) = not_over (fault_by refusal) d.0
  only_heard Reads trouble (Comes.cut read d) = only_retried (nat_le asking.tries 1) d.1

  -- or more is waited for
  only_taken : (before after : Option Traffic) (trouble : Type 0) (heard : Listening) → (answer ≡ step.Wait → ⊥)
      → Takes before after trouble asking heard answer old new → ⊥
  only_taken before after trouble heard not_wait (Takes.went_on bytes some received unfinished a n) = not_wait a
  only_taken before after trouble heard not_wait (Takes.ended bytes received comes) =
      only_heard (λ result. IsRead heard.side result (heard.bytes ++ bytes)) trouble comes

pub only_these : (start mid end : Option Traffic) (trouble : Type 0) (old machine new : Client) (under : IsUnder start mid old machine)
    (answer : Step)
    → ((asking : Asking) (ear : Listening) → machine.stage ≡ stage.Waiting asking ear → IsOpen ear.side ear.bytes
    → Takes mid end trouble asking ear answer machine new)
    → (answer ≡ step.Wait → ⊥) → ((m : Message) → answer ≡ step.Reply m → ⊥) → (answer ≡ step.Dial → ⊥)
    → ((f : Fault) → answer ≡ step.Over f → ⊥) → ⊥
only_these start mid end trouble old machine new under answer taken not_wait not_reply not_dial not_over =
    only_taken (tried under.asking) answer machine new not_reply not_dial not_over mid end trouble
    (record { side = Replies; bytes = under.bytes }) not_wait
    (taken (tried under.asking) (record { side = Replies; bytes = under.bytes }) (ap (λ (c : Client). c.stage) under.is) under.unfinished)

-- ---- the frame and the reply

-- the frame was sent, and this was read behind it
pub sent_and_heard : (frame : List ℕ) (start mid end : Option Traffic) (trouble : Type 0) (asking : Asking) (answer : Step) (old new : Client)
    → ChangesTold start (with_sent frame) mid
    → Hears (λ result. Receives Replies result mid end) trouble asking answer old new
    → Hears (λ result. Exchanges frame result start end) trouble asking answer old new
sent_and_heard frame start mid end trouble asking answer old new sent heard =
    comes_too (λ result. Receives Replies result mid end) (λ result. Exchanges frame result start end)
    (λ framed. does.Concludes asking framed answer old new) (λ framed. does.Concludes asking framed answer old new)
    (λ refusal. (answer ≡ step.Over (fault_by refusal)) × (new ≡ raised true (forgotten old)))
    (λ refusal. (answer ≡ step.Over (fault_by refusal)) × (new ≡ raised true (forgotten old)))
    (trouble × does.Retries asking answer old new) (trouble × does.Retries asking answer old new)
    (λ result read. replied frame result start mid end sent read) (λ framed d. d) (λ refusal d. d) (λ d. d) heard

-- nothing went out
pub not_sent : (frame : List ℕ) (start end : Option Traffic) (trouble : Type 0) (asking : Asking) (answer : Step) (old new : Client)
    → KeepsTold start end → trouble → old.stage ≡ waiting asking → does.Falls answer old new
    → Hears (λ result. Exchanges frame result start end) trouble (tried asking) answer old new
not_sent frame start end trouble asking answer old new kept lost was fell =
    Comes.cut (unsent frame start end kept) (lost, subst (λ (s : Stage). does.falls_at s answer old new) was fell)
