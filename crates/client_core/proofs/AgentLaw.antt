-- What the calls of an agent keep, and what it sends.
use Rattle.std.proofs.Common.{◌≡◌, ℕ, Bool, true, false, List, [], ◌∷◌, ◌++◌, Option, Some, None, refl, sym, ap, ◌∙◌, subst, inl, inr, arith}
use Rattle.std.specs.Prelude.{◌==◌, if◌then◌else◌}
use Rattle.cynara_keys.specs.declared.results.Kind.{Kind}
use Rattle.wire_reading.specs.Frame.{spelling, with_sequence}
use Rattle.wire_fields.specs.declared.messages.Framed.{Framed}
use Rattle.wire_fields.specs.declared.messages.Message.{Message}
use Rattle.wire_fields.specs.declared.messages.Message.TheVariants.{Register, AgentAnswer}
use Rattle.client_core.specs.Listening.{Listening, is_fit}
use Rattle.client_core.specs.Hearing.{HearsPiece, fault_by}
use Rattle.client_core.specs.Agent.{Agent, fresh, cut, First, Turn, first_of, turn_of, is_open}
use Rattle.client_core.specs.Agent as does
use Rattle.client_core.specs.AgentCalls.{Call, Does, Ran, open_in, opened, closed_by, IsAnswer, Means}
use Rattle.client_core.specs.declared.ears.Piece.{Piece}
use Rattle.client_core.specs.declared.ears.Piece.TheVariants as piece
use Rattle.client_core.specs.declared.stages.Open.{Open}
use Rattle.client_core.specs.declared.stages.AgentStage.{AgentStage}
use Rattle.client_core.specs.declared.stages.AgentStage.TheVariants as stage
use Rattle.client_core.specs.declared.steps.Step.{Step}
use Rattle.client_core.specs.declared.steps.Step.TheVariants as step
use Rattle.client_core.specs.declared.steps.Fault.{Fault}
use Rattle.client_core.specs.declared.steps.Fault.TheVariants as fault

abbrev IsAt : AgentStage → Option ℕ → Type 0
IsAt (stage.Listening (Some question) ear) asked = asked ≡ Some question.number
IsAt other asked = Unit {0}

record Holds (kind : Kind) (calls : List Call) (agent : Agent) : Type 0 where
  kind_is : agent.kind ≡ kind
  stage_is : IsAt agent.stage (open_in calls)

module _ (kind : Kind) where
  abbrev Both : (Step → Call) → List Call → Step → Agent → Type 0
  Both make calls answer after = Holds kind (make answer ∷ calls) after × Means kind (make answer) calls after

  reach : (make : Step → Call) (calls : List Call) (answer is : Step) (after same : Agent)
      → answer ≡ is → after ≡ same → Both make calls is same → Both make calls answer after
  reach make calls answer is after same a c both =
      subst (λ (s : Step). Both make calls s after) (sym a) (subst (λ (k : Agent). Both make calls is k) (sym c) both)

  module _ (calls : List Call) (before : Agent) (holds : Holds kind calls before) where
    at : (s : AgentStage) → before.stage ≡ s → IsAt s (open_in calls)
    at s is = subst (λ (s : AgentStage). IsAt s (open_in calls)) is holds.stage_is

    same : IsAt before.stage (open_in calls)
    same = holds.stage_is

    -- ---- the service was dialled

    dials_no : (answer : Step) (after : Agent) → does.IsNotNow answer before after → Both Call.Dials calls answer after
    dials_no answer after d =
        reach Call.Dials calls answer step.NotNow after before d.0 d.1 (record { kind_is = holds.kind_is; stage_is = same }, tt)

    dialled_at : (s : AgentStage) (answer : Step) (after : Agent) → does.dialled_at s answer before after → Both Call.Dials calls answer after
    dialled_at stage.Dialling answer after (inl d) = reach Call.Dials calls answer step.Send after _ d.0 d.1 (
      record { kind_is = holds.kind_is; stage_is = tt },
      ap (λ (k : Kind). spelling (with_sequence 0 (Register k))) holds.kind_is,
    )
    dialled_at stage.Dialling answer after (inr d) = reach Call.Dials calls answer (step.Over (fault.Memory d.0)) after _ d.1 d.2
        (record { kind_is = holds.kind_is; stage_is = tt }, tt)
    dialled_at (stage.Registering ear) answer after d = dials_no answer after d
    dialled_at (stage.Listening asked ear) answer after d = dials_no answer after d

    -- ---- an answer is given

    module _ (number : ℕ) (allowed : Bool) where
      abbrev gives : Step → Call
      gives answer = Call.Answers number allowed answer

      gives_no : (answer : Step) (after : Agent) → does.IsNotNow answer before after → Both gives calls answer after
      gives_no answer after d =
          reach gives calls answer step.NotNow after before d.0 d.1 (record { kind_is = holds.kind_is; stage_is = same }, tt)

      wrong : (answer : Step) (after : Agent) → (answer ≡ step.WrongNumber) × (after ≡ before) → Both gives calls answer after
      wrong answer after d =
          reach gives calls answer step.WrongNumber after before d.0 d.1 (record { kind_is = holds.kind_is; stage_is = same }, tt)

      answers : (fits : Bool) (asked : Option Open) (ear : Listening) → is_open number asked ≡ fits → before.stage ≡ stage.Listening asked ear
          → (answer : Step) (after : Agent) → does.answers fits asked ear number allowed answer before after → Both gives calls answer after
      answers true (Some question) ear fits is answer after (inl d) =
          let number_is : question.number ≡ number = grind (arith, fits) in
          let asked : open_in calls ≡ Some question.number = at (stage.Listening (Some question) ear) is in
          reach gives calls answer step.Send after _ d.0 d.1 (
            record { kind_is = holds.kind_is; stage_is = tt },
            record { asked = asked ∙ ap (λ (n : ℕ). Some n) number_is; sequence = question.sequence; frame_is = refl },
          )
      answers true (Some question) ear fits is answer after (inr d) = reach gives calls answer (step.Over (fault.Memory d.0)) after _ d.1 d.2
          (record { kind_is = holds.kind_is; stage_is = tt }, tt)
      answers true None ear fits is answer after d = wrong answer after d
      answers false (Some question) ear fits is answer after d = wrong answer after d
      answers false None ear fits is answer after d = wrong answer after d

      answers_at : (s : AgentStage) → before.stage ≡ s → (answer : Step) (after : Agent)
          → does.answers_at s number allowed answer before after → Both gives calls answer after
      answers_at (stage.Listening asked ear) is answer after d =
          answers (is_open number asked) asked ear refl is answer after d
      answers_at stage.Dialling is answer after d = gives_no answer after d
      answers_at (stage.Registering ear) is answer after d = gives_no answer after d

    -- ---- bytes came

    module _ (bytes : List ℕ) where
      abbrev comes : Step → Call
      comes answer = Call.Comes bytes answer

      comes_no : (answer : Step) (after : Agent) → does.IsNotNow answer before after → Both comes calls answer after
      comes_no answer after d =
          reach comes calls answer step.NotNow after before d.0 d.1 (record { kind_is = holds.kind_is; stage_is = same }, tt)

      uncounted : (answer : Step) (after : Agent) → does.IsUncounted answer before after → Both comes calls answer after
      uncounted answer after d =
          reach comes calls answer step.BadCount after before d.0 d.1 (record { kind_is = holds.kind_is; stage_is = same }, tt)

      over : (found : Fault) (answer : Step) (after : Agent) → (answer ≡ step.Over found) × (after ≡ cut before) → Both comes calls answer after
      over found answer after d =
          reach comes calls answer (step.Over found) after _ d.0 d.1 (record { kind_is = holds.kind_is; stage_is = tt }, tt)

      begins : (first : First) (message : Message) (answer : Step) (after : Agent) → does.begins first message answer before after
          → Both comes calls answer after
      begins First.Registers message answer after d =
          reach comes calls answer (step.Reply message) after _ d.0 d.1 (record { kind_is = holds.kind_is; stage_is = tt }, tt)
      begins First.IsTaken message answer after d =
          reach comes calls answer (step.Reply message) after _ d.0 d.1 (record { kind_is = holds.kind_is; stage_is = tt }, tt)
      begins First.Strays message answer after d = over _ answer after d

      hears_first : (came : Piece) (answer : Step) (after : Agent) → does.hears_first came answer before after → Both comes calls answer after
      hears_first (piece.More ear) answer after d =
          reach comes calls answer step.Wait after _ d.0 d.1 (record { kind_is = holds.kind_is; stage_is = tt }, tt)
      hears_first (piece.Whole framed) answer after d = begins (first_of framed.message) framed.message answer after d
      hears_first (piece.Wrong refusal) answer after d = over (fault_by refusal) answer after d

      -- the question that is open stays so
      stays : (asked : Option Open) (ear next : Listening) → IsAt (stage.Listening asked ear) (open_in calls)
          → IsAt (stage.Listening asked next) (open_in calls)
      stays (Some question) ear next is = is
      stays None ear next is = tt

      -- a question that is withdrawn is open no more
      closes_if : (same : Bool) (question : Open) (before : Option ℕ) (number : ℕ) → (question.number == number) ≡ same
          → before ≡ Some question.number → IsAt (does.listening (if same then None else Some question)) (closed_by number before)
      closes_if true question before number same is = tt
      closes_if false question before number same is =
          ap (closed_by number) is ∙ ap (λ (b : Bool). if b then None else Some question.number) same

      closes : (asked : Option Open) (ear : Listening) (number : ℕ) → IsAt (stage.Listening asked ear) (open_in calls)
          → IsAt (does.listening (does.still_open number asked)) (closed_by number (open_in calls))
      closes (Some question) ear number is = closes_if (question.number == number) question (open_in calls) number refl is
      closes None ear number is = tt

      turns : (turn : Turn) (framed : Framed) (asked : Option Open) (ear : Listening) → turn_of framed.message ≡ turn
          → before.stage ≡ stage.Listening asked ear → (answer : Step) (after : Agent)
          → does.turns turn framed.sequence framed.message asked answer before after → Both comes calls answer after
      turns (Turn.Asks number) framed asked ear turn is answer after d =
          reach comes calls answer (step.Reply framed.message) after _ d.0 d.1
          (record { kind_is = holds.kind_is; stage_is = ap (λ (t : Turn). opened t (open_in calls)) turn }, tt)
      turns (Turn.Withdraws number) framed asked ear turn is answer after d =
          let stands : IsAt (does.listening (does.still_open number asked)) (closed_by number (open_in calls)) =
          closes asked ear number (at (stage.Listening asked ear) is) in
          reach comes calls answer (step.Reply framed.message) after _ d.0 d.1 (
            record {
              kind_is = holds.kind_is;
              stage_is = subst (λ (t : Turn). IsAt (does.listening (does.still_open number asked)) (opened t (open_in calls))) (sym turn) stands;
            },
            tt,
          )
      turns Turn.Passes framed asked ear turn is answer after d =
          let stands : IsAt (does.listening asked) (open_in calls) = stays asked ear _ (at (stage.Listening asked ear) is) in
          reach comes calls answer (step.Reply framed.message) after _ d.0 d.1 (
            record {
              kind_is = holds.kind_is;
              stage_is = subst (λ (t : Turn). IsAt (does.listening asked) (opened t (open_in calls))) (sym turn) stands;
            },
            tt,
          )
      turns Turn.HasNoPlace framed asked ear turn is answer after d = over _ answer after d

      hears_next : (came : Piece) (asked : Option Open) (ear : Listening) → before.stage ≡ stage.Listening asked ear
          → (answer : Step) (after : Agent) → does.hears_next came asked answer before after → Both comes calls answer after
      hears_next (piece.More next) asked ear is answer after d = reach comes calls answer step.Wait after _ d.0 d.1
          (record { kind_is = holds.kind_is; stage_is = stays asked ear next (at (stage.Listening asked ear) is) }, tt)
      hears_next (piece.Whole framed) asked ear is answer after d =
          turns (turn_of framed.message) framed asked ear refl is answer after d
      hears_next (piece.Wrong refusal) asked ear is answer after d = over (fault_by refusal) answer after d

      comes_first : (fits : Bool) (ear : Listening) (answer : Step) (after : Agent) → does.comes_first fits ear bytes answer before after
          → Both comes calls answer after
      comes_first true ear answer after d = hears_first d.0 answer after d.2
      comes_first false ear answer after d = uncounted answer after d

      comes_next : (fits : Bool) (asked : Option Open) (ear : Listening) → before.stage ≡ stage.Listening asked ear
          → (answer : Step) (after : Agent) → does.comes_next fits asked ear bytes answer before after → Both comes calls answer after
      comes_next true asked ear is answer after d = hears_next d.0 asked ear is answer after d.2
      comes_next false asked ear is answer after d = uncounted answer after d

      comes_at : (s : AgentStage) → before.stage ≡ s → (answer : Step) (after : Agent) → does.comes_at s bytes answer before after
          → Both comes calls answer after
      comes_at stage.Dialling is answer after d = comes_no answer after d
      comes_at (stage.Registering ear) is answer after d = comes_first (is_fit ear.bytes bytes) ear answer after d
      comes_at (stage.Listening asked ear) is answer after d = comes_next (is_fit ear.bytes bytes) asked ear is answer after d

    -- ---- all calls

    each : (call : Call) (after : Agent) → Does call before after → Holds kind (call ∷ calls) after × Means kind call calls after
    each (Call.Dials answer) after d = dialled_at before.stage answer after d
    each (Call.Answers number allowed answer) after d = answers_at number allowed before.stage refl answer after d
    each (Call.Comes bytes answer) after d = comes_at bytes before.stage refl answer after d
    each (Call.Falls answer) after d = reach Call.Falls calls answer (step.Over fault.Unavailable) after _ d.0 d.1
        (record { kind_is = holds.kind_is; stage_is = tt }, tt)
    each Call.Leaves after d =
        (subst (Holds kind (Call.Leaves ∷ calls)) (sym d) (record { kind_is = holds.kind_is; stage_is = tt }), tt)

  ran : (calls : List Call) (agent : Agent) → Ran kind calls agent → Holds kind calls agent
  ran [] agent r = subst (Holds kind []) (sym r) (record { kind_is = refl; stage_is = tt })
  ran (call ∷ calls) agent r = (each calls r.0 (ran calls r.0 r.1) call agent r.2).0

  pub law : (calls : List Call) (call : Call) (before after : Agent) → Ran kind calls before → Does call before after
      → Means kind call calls after
  law calls call before after r d = (each calls before (ran calls before r) call after d).1
