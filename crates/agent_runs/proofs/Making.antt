-- What the machine makes of some bytes: the message goes on, it is whole and in its place, or nothing follows from it.
use Rattle.std.proofs.Common.{◌≡◌, ◌<◌, ◌≤◌, ◌∙◌, ℕ, inl, inr, Bool, false, List, [], ◌∷◌, ◌++◌, length, Option, None, Ok, refl, sym, ap, subst, arith}
use Rattle.link_ports.specs.Told.{ChangesTold}
use Rattle.link_ports.specs.Traffic.{with_received}
use Rattle.link_ports.specs.LinkMarks.{marks_after_receive}
use Rattle.wire_fields.specs.Operation.{number_of}
use Rattle.wire_fields.specs.Message.{operation}
use Rattle.wire_fields.specs.declared.messages.Framed.{Framed}
use Rattle.wire_fields.specs.declared.messages.Message.{Message}
use Rattle.wire_fields.specs.declared.messages.Message.TheVariants as m
use Rattle.wire_fields.specs.declared.operations.Heard.TheVariants.{AgentReplies}
use Rattle.wire_fields.specs.declared.refusals.WireRefusal.{WireRefusal}
use Rattle.wire_fields.specs.declared.refusals.WireRefusal.TheVariants.{Memory as NoMemory}
use Rattle.wire_reading.specs.Stream.{Hears, IsOpen, BeginsWrong, wanted}
use Rattle.client_connection.specs.Reading.{size_of}
use Rattle.client_connection.proofs.Sizes.{piece_within, open_wants}
use Rattle.client_core.specs.Listening.{Listening, is_fit}
use Rattle.client_core.specs.Hearing.{fault_by}
use Rattle.client_core.specs.Agent.{Agent, wanted_at, still_open}
use Rattle.client_core.specs.Agent as does
use Rattle.client_core.proofs.Staging.{fit, agent_by_first, agent_by_next}
use Rattle.client_core.specs.declared.stages.Open.{Open}
use Rattle.client_core.specs.declared.stages.AgentStage.{AgentStage}
use Rattle.client_core.specs.declared.stages.AgentStage.TheVariants as stage
use Rattle.client_core.specs.declared.steps.Step.{Step}
use Rattle.client_core.specs.declared.steps.Step.TheVariants as step
use Rattle.client_core.specs.declared.steps.Fault.{Fault}
use Rattle.client_core.specs.declared.steps.Fault.TheVariants as fault
use Rattle.agent_runs.specs.LinkSeen.{LinkSeen}
use Rattle.agent_runs.specs.AgentTalk.{GoesOn, AreInPlace, IsBadReply}
use Rattle.agent_runs.specs.parts.Hearing.{with_bytes, IsBehind, IsReady, IsPut, Came}
use Rattle.agent_runs.proofs.Carrying.{carries-received, marks-some}
use Rattle.agent_runs.proofs.Places.{turn-goes_on, misplaced-turn}

abbrev pub framed : ℕ → Message → Framed
framed sequence message = record { sequence = sequence; message = message }

-- behind these messages the bytes are a bad reply, or no memory was found
abbrev pub IsOver : Fault → List Framed → List ℕ → Type 0
IsOver (fault.Memory error) messages bytes = Unit {0}
IsOver other messages bytes = IsBadReply messages bytes false

-- what the machine answers to these bytes of a message behind these, by which it came so far
abbrev pub Makes : List Framed → List ℕ → Step → AgentStage → Type 0
Makes messages bytes step.Wait s = IsOpen AgentReplies bytes × IsBehind messages bytes s
Makes messages bytes (step.Reply message) s =
    (sequence : ℕ) × Hears AgentReplies bytes (framed sequence message ∷ []) [] × AreInPlace (messages ++ framed sequence message ∷ [])
    × IsPut message sequence s
Makes messages bytes (step.Over found) s = IsOver found messages bytes
Makes messages bytes other s = ⊥

module _ (answer : Step) (old new : Agent) where
  so : (messages : List Framed) (bytes : List ℕ) (other : Step) → answer ≡ other → Makes messages bytes other new.stage
      → Makes messages bytes answer new.stage
  so messages bytes other is makes = subst (λ (a : Step). Makes messages bytes a new.stage) (sym is) makes

  -- ---- the message is whole

  begins : (bytes : List ℕ) (message : Message) (sequence : ℕ) → Hears AgentReplies bytes (framed sequence message ∷ []) []
      → does.Begins message answer old new → Makes [] bytes answer new.stage
  begins bytes (m.Registered kind) sequence heard d =
      so [] bytes (step.Reply (m.Registered kind)) d.0 (sequence, heard, inl (tt, tt), (None, ap (λ (a : Agent). a.stage) d.1))
  begins bytes (m.KindTaken kind) sequence heard d =
      so [] bytes (step.Reply (m.KindTaken kind)) d.0 (sequence, heard, inr (tt, refl), tt)
  begins bytes message sequence heard d =
      so [] bytes (step.Over (fault.Operation (number_of (operation message)))) d.0
      (IsBadReply.misplaced (framed sequence message) heard
      (λ place. elim place [
        | inl goes ↦ goes.0
        | inr taken ↦ taken.0
      ]) refl)

  module _ (first : Framed) (before : List Framed) (goes : GoesOn (first ∷ before)) (asked : Option Open) where
    turns : (bytes : List ℕ) (message : Message) (sequence : ℕ) → Hears AgentReplies bytes (framed sequence message ∷ []) []
        → does.Turns (framed sequence message) asked answer old new → Makes (first ∷ before) bytes answer new.stage
    turns bytes (m.AgentQuestion number question result) sequence heard d =
        let message : Message = m.AgentQuestion number question result in
        so (first ∷ before) bytes (step.Reply message) d.0
        (sequence, heard, inl (turn-goes_on first before (framed sequence message) goes tt), ap (λ (a : Agent). a.stage) d.1)
    turns bytes (m.AgentWithdrawn number) sequence heard d =
        let message : Message = m.AgentWithdrawn number in
        so (first ∷ before) bytes (step.Reply message) d.0 (
          sequence,
          heard,
          inl (turn-goes_on first before (framed sequence message) goes tt),
          (still_open number asked, ap (λ (a : Agent). a.stage) d.1),
        )
    turns bytes (m.UnknownNumber number) sequence heard d =
        let message : Message = m.UnknownNumber number in
        so (first ∷ before) bytes (step.Reply message) d.0 (
          sequence,
          heard,
          inl (turn-goes_on first before (framed sequence message) goes tt),
          (asked, ap (λ (a : Agent). a.stage) d.1),
        )
    turns bytes message sequence heard d =
        so (first ∷ before) bytes (step.Over (fault.Operation (number_of (operation message)))) d.0
        (IsBadReply.misplaced (framed sequence message) heard
        (misplaced-turn first before (framed sequence message) goes (λ turn. turn)) refl)

  -- ---- it goes on, or is wrong

  over : (messages : List Framed) (bytes : List ℕ) (refusal : WireRefusal) → BeginsWrong AgentReplies bytes refusal
      → length bytes ≤ size_of bytes → IsOver (fault_by refusal) messages bytes
  over messages bytes (NoMemory error) is within = tt
  over messages bytes refusal is within = IsBadReply.wrong refusal is within refl

  module _ (there bytes : List ℕ) (unfinished : IsOpen AgentReplies there) (some : 0 < length bytes) (few : length bytes ≤ wanted there) where
    wrong : (messages : List Framed) (refusal : WireRefusal) → BeginsWrong AgentReplies (there ++ bytes) refusal
        → answer ≡ step.Over (fault_by refusal) → new ≡ does.cut old → Makes messages (there ++ bytes) answer new.stage
    wrong messages refusal is a now =
        so messages (there ++ bytes) (step.Over (fault_by refusal)) a
        (over messages (there ++ bytes) refusal is (piece_within AgentReplies there bytes unfinished few))

    pub makes : (messages : List Framed) → GoesOn messages → IsBehind messages there old.stage → does.Comes bytes answer old new
        → Makes messages (there ++ bytes) answer new.stage
    makes [] goes behind comes =
        let at : does.comes_first (is_fit there bytes) (with_bytes there) bytes answer old new =
        subst (λ (s : AgentStage). does.comes_at s bytes answer old new) behind comes in
        agent_by_first (with_bytes there) bytes answer old new (wrong [])
        (λ after is open_frame a now. so [] (there ++ bytes) step.Wait a
        (open_frame, ap (λ (a : Agent). a.stage) now ∙ ap (λ (ear : Listening). stage.Registering ear) is))
        (λ one heard d. begins (there ++ bytes) one.message one.sequence heard d)
        (subst (λ (fits : Bool). does.comes_first fits (with_bytes there) bytes answer old new) (fit there bytes some few) at)
    makes (first ∷ before) goes behind comes =
        let asked : Option Open = behind.0 in
        let at : does.comes_next (is_fit there bytes) asked (with_bytes there) bytes answer old new =
        subst (λ (s : AgentStage). does.comes_at s bytes answer old new) behind.1 comes in
        agent_by_next (with_bytes there) bytes answer old new (wrong (first ∷ before)) asked
        (λ after is open_frame a now. so (first ∷ before) (there ++ bytes) step.Wait a
        (open_frame, (asked, ap (λ (a : Agent). a.stage) now ∙ ap (λ (ear : Listening). stage.Listening asked ear) is)))
        (λ one heard d. turns first before goes asked (there ++ bytes) one.message one.sequence heard d)
        (subst (λ (fits : Bool). does.comes_next fits asked (with_bytes there) bytes answer old new) (fit there bytes some few) at)

-- ---- how much is wanted

pub wanted_behind : (messages : List Framed) (there : List ℕ) (s : AgentStage) → IsBehind messages there s → wanted_at s ≡ wanted there
wanted_behind [] there s behind = ap wanted_at behind
wanted_behind (first ∷ turns) there s behind = ap wanted_at behind.1

-- some bytes are wanted wherever a message is heard
pub wants_some : (s : AgentStage) → IsReady s → 0 < wanted_at s
wants_some s ready =
    subst (λ (n : ℕ). 0 < n) (sym (wanted_behind ready.messages ready.there s ready.stage_is))
    (open_wants AgentReplies ready.there ready.unfinished)

-- ---- bytes that were received

pub came : {answer : Step} {old new : Agent} {link after : LinkSeen} (bytes : List ℕ) (count room : ℕ) → 0 < count
    → length bytes ≡ count → count ≤ room → room ≤ wanted_at old.stage → does.Comes bytes answer old new
    → ChangesTold link.traffic (with_received bytes) after.traffic → after.marks ≡ marks_after_receive (Ok count) room link.marks
    → after.faults ≡ link.faults → Came answer old new link after
came {link = link} {after = after} bytes count room some long within few comes received marks faults = record {
  bytes = bytes;
  some = omega (arith, some, long);
  few = omega (arith, long, within, few);
  comes = comes;
  carried = carries-received bytes false link after received (marks ∙ marks-some count room link.marks some);
  faults = faults;
}

-- the machine waits for more, gives a message, or is over with a fault
only : (messages : List Framed) (bytes : List ℕ) (answer : Step) (s : AgentStage) → Makes messages bytes answer s
    → (answer ≡ step.Wait → ⊥) → ((message : Message) → answer ≡ step.Reply message → ⊥)
    → ((found : Fault) → answer ≡ step.Over found → ⊥) → ⊥
only messages bytes step.Wait s makes not_wait not_reply not_over = not_wait refl
only messages bytes (step.Reply message) s makes not_wait not_reply not_over = not_reply message refl
only messages bytes (step.Over found) s makes not_wait not_reply not_over = not_over found refl
only messages bytes answer s makes not_wait not_reply not_over = makes

pub only_these : (answer : Step) (old new : Agent) (bytes : List ℕ) (count room : ℕ) → IsReady old.stage → 0 < count
    → length bytes ≡ count → count ≤ room → room ≤ wanted_at old.stage → does.Comes bytes answer old new
    → (answer ≡ step.Wait → ⊥) → ((message : Message) → answer ≡ step.Reply message → ⊥)
    → ((found : Fault) → answer ≡ step.Over found → ⊥) → ⊥
only_these answer old new bytes count room ready some long within few comes =
    let wants : wanted_at old.stage ≡ wanted ready.there = wanted_behind ready.messages ready.there old.stage ready.stage_is in
    only ready.messages (ready.there ++ bytes) answer new.stage
    (makes answer old new ready.there bytes ready.unfinished (omega (arith, some, long)) (omega (arith, long, within, few, wants))
    ready.messages ready.goes_on ready.stage_is comes)
