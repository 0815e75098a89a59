-- A frame of the machine is sent, and a message is answered.
use Rattle.std.proofs.Common.{◌≡◌, ℕ, inl, inr, Bool, true, List, [], Some, None, Result, Ok, Err, refl, sym, ap, subst, arith}
use Rattle.std.proofs.lemmas.Bool.Decides.{nat_tests}
use Rattle.std.specs.Prelude.{◌==◌}
use Rattle.cynara_keys.specs.declared.results.Kind.{Kind}
use Rattle.cynara_keys.specs.Key.{Question}
use Rattle.cynara_keys.specs.PolicyResult.{Ruling}
use Rattle.desk_ports.specs.Faults.{next_count}
use Rattle.link_ports.specs.Told.{ChangesTold, KeepsTold}
use Rattle.link_ports.specs.Traffic.{with_sent}
use Rattle.wire_reading.specs.Frame.{spelling, with_sequence}
use Rattle.wire_fields.specs.declared.messages.Message.{Message}
use Rattle.wire_fields.specs.declared.messages.Message.TheVariants as m
use Rattle.client_core.specs.Listening.{unheard}
use Rattle.client_core.specs.Agent.{Agent, listening}
use Rattle.client_core.specs.Agent as does
use Rattle.wire_fields.specs.declared.operations.Heard.TheVariants.{AgentReplies}
use Rattle.client_core.specs.declared.stages.Open.{Open}
use Rattle.client_core.specs.declared.stages.AgentStage.{AgentStage}
use Rattle.client_core.specs.declared.steps.Step.{Step}
use Rattle.client_core.specs.declared.steps.Step.TheVariants as step
use Rattle.run_endings.specs.declared.endings.Ending.{Ending}
use Rattle.run_endings.specs.declared.endings.Ending.TheVariants.{Memory, Net}
use Rattle.agent_runs.specs.LinkSeen.{LinkSeen}
use Rattle.agent_runs.specs.AgentTalk.{line_for}
use Rattle.agent_runs.specs.parts.Hearing.{IsPut}
use Rattle.agent_runs.specs.parts.Turns.{SendsFrame, Sends, Answers}
use Rattle.agent_runs.proofs.Carrying.{carries-nothing, carries-sent, carries-kept}

-- ---- a frame

module _ (sequence : ℕ) (message : Message) (s : AgentStage) (answer : Step) (old new : Agent) (link after : LinkSeen) where
  abbrev frame : List ℕ
  frame = spelling (with_sequence sequence message)

  -- the message's frame was sent, or the link failed, or no memory was found
  pub sent : (result : Result (Unit {0}) Ending) → does.Spells sequence message s answer old new → Sends answer new.frame result link after
      → SendsFrame frame result link after
  sent result (inl (is, now)) sends =
      subst (λ (bytes : List ℕ). SendsFrame bytes result link after) (ap (λ (a : Agent). a.frame) now)
      (subst (λ (a : Step). Sends a new.frame result link after) is sends)
  sent result (inr (error, is, now)) sends =
      let none : (result ≡ Err Memory) × (after ≡ link) = subst (λ (a : Step). Sends a new.frame result link after) is sends in
      subst (λ (r : Result (Unit {0}) Ending). SendsFrame frame r link after) (sym none.0) none.1

  -- and the machine goes on
  pub stage_sent : (value : Unit {0}) → does.Spells sequence message s answer old new → Sends answer new.frame (Ok value) link after
      → new.stage ≡ s
  stage_sent value (inl (is, now)) sends = ap (λ (a : Agent). a.stage) now
  stage_sent value (inr (error, is, now)) sends =
      let none : (Ok value ≡ Err Memory) × (after ≡ link) = subst (λ (a : Step). Sends a new.frame (Ok value) link after) is sends in
      let never : Ok value ≡ Err Memory = none.0 in
      cc

-- the machine answered that no frame is there
pub unsent : (answer : Step) (bytes : List ℕ) (link : LinkSeen) → (answer ≡ step.Send → ⊥) → Sends answer bytes (Err Memory) link link
unsent step.Send bytes link none = absurd (none refl)
unsent answer bytes link none = (refl, refl)

-- it is sent, and the link took all of it
pub went_out : (bytes : List ℕ) (link after : LinkSeen) → ChangesTold link.traffic (with_sent bytes) after.traffic
    → after.marks ≡ link.marks → after.faults ≡ link.faults → SendsFrame bytes (Ok tt) link after
went_out bytes link after sent marks faults = (carries-sent bytes link after sent marks, faults)

-- it is sent, and the link failed
pub kept_back : (bytes : List ℕ) (link after : LinkSeen) → KeepsTold link.traffic after.traffic → after.marks ≡ link.marks
    → after.faults ≡ next_count link.faults → SendsFrame bytes (Err Net) link after
kept_back bytes link after kept marks faults = (carries-kept link after kept marks, faults)

-- ---- a message

eqb-same : (a : ℕ) → (a == a) ≡ true
eqb-same a = grind (arith, nat_tests)

module _ (allowed : Bool) (sequence number : ℕ) (question : Question) (ruling : Ruling) (answer : Step) (old new : Agent)
    (link after : LinkSeen) where
  abbrev asked : Open
  asked = record { number = number; sequence = sequence }

  abbrev Spelled : Type 0
  Spelled = does.Spells sequence (m.AgentAnswer number allowed) (listening None) answer old new

  went : (result : Result (Unit {0}) Ending) → Spelled → Sends answer new.frame result link after
      → SendsFrame (spelling (with_sequence sequence (m.AgentAnswer number allowed))) result link after
  went = sent sequence (m.AgentAnswer number allowed) (listening None) answer old new link after

  by_result : (result : Result (Unit {0}) Ending) → Spelled → Sends answer new.frame result link after
      → Answers allowed sequence (m.AgentQuestion number question ruling) result new link after
  by_result (Ok value) spells sends =
      let frame = went (Ok value) spells sends in
      let listens = stage_sent sequence (m.AgentAnswer number allowed) (listening None) answer old new link after value spells sends in
      (λ refused. refused, (None, listens), frame.0, frame.1)
  by_result (Err Memory) spells sends = (tt, went (Err Memory) spells sends)
  by_result (Err Net) spells sends = let frame = went (Err Net) spells sends in (tt, frame.0, frame.1)
  by_result (Err ending) spells sends = absurd (went (Err ending) spells sends)

  -- the question that the machine has just put is answered
  pub answered : (result : Result (Unit {0}) Ending) → old.stage ≡ listening (Some asked) → does.Answers number allowed answer old new
      → Sends answer new.frame result link after
      → Answers allowed sequence (m.AgentQuestion number question ruling) result new link after
  answered result put spells sends =
      let at : does.answers (number == number) (Some asked) (unheard AgentReplies) number allowed answer old new =
      subst (λ (s : AgentStage). does.answers_at s number allowed answer old new) put spells in
      by_result result
      (subst (λ (b : Bool). does.answers b (Some asked) (unheard AgentReplies) number allowed answer old new) (eqb-same number) at) sends

-- it asks nothing, and does not say that the kind is taken
abbrev pub IsOther : Message → Type 0
IsOther message = ((number : ℕ) (question : Question) (ruling : Ruling) → message ≡ m.AgentQuestion number question ruling → ⊥)
    × ((kind : Kind) → message ≡ m.KindTaken kind → ⊥)

-- such a message is not answered
pub passed : (allowed : Bool) (sequence : ℕ) (message : Message) (machine : Agent) (link : LinkSeen) → IsOther message
    → IsPut message sequence machine.stage → Answers allowed sequence message (Ok tt) machine link link
passed allowed sequence (m.AgentQuestion number question ruling) machine link other put = absurd (other.0 number question ruling refl)
passed allowed sequence (m.KindTaken kind) machine link other put = absurd (other.1 kind refl)
passed allowed sequence message machine link other put = (λ refused. refused, put, carries-nothing link, refl)

-- and has no line
pub no_line : (message : Message) → IsOther message → line_for message ≡ []
no_line (m.AgentQuestion number question ruling) other = absurd (other.0 number question ruling refl)
no_line (m.KindTaken kind) other = absurd (other.1 kind refl)
no_line message other = refl
