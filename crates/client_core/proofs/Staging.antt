-- What a call does from a stage does not hang on the stage, where another one is set.
use Rattle.std.proofs.Common.{◌≡◌, ◌≤◌, ◌<◌, ◌∙◌, ℕ, Bool, true, false, List, [], ◌∷◌, ◌++◌, length, Option, Some, None, refl, ap, arith, inl, inr}
use Rattle.std.proofs.lemmas.Bool.Decides.{nat_tests}
use Rattle.std.specs.Prelude.{◌⊎◌, nat_lt, nat_le, ◌==◌, ◌&&◌, if◌then◌else◌}
use Rattle.answer_cache.specs.Cache.{Cache}
use Rattle.bucket_eval.specs.declared.answers.Verdict.{Verdict}
use Rattle.wire_reading.specs.Stream.{Hears, BeginsWrong, IsOpen, wanted}
use Rattle.wire_fields.specs.declared.operations.Heard.TheVariants.{Replies}
use Rattle.wire_fields.specs.declared.refusals.WireRefusal.{WireRefusal}
use Rattle.wire_fields.specs.declared.messages.Framed.{Framed}
use Rattle.wire_fields.specs.declared.messages.Message.{Message}
use Rattle.client_core.specs.Listening.{Listening, unheard, is_fit}
use Rattle.client_core.specs.Client.{Client, forgotten, raised}
use Rattle.client_core.specs.Hearing.{HearsPiece, fault_by}
use Rattle.client_core.specs.Asking as asking_does
use Rattle.client_core.specs.Admin.{Admin, cut, with_row}
use Rattle.client_core.specs.Agent.{Agent, First, Turn}
use Rattle.client_core.specs.Agent as agent_does
use Rattle.cynara_keys.specs.declared.results.Kind.{Kind}
use Rattle.client_core.specs.declared.stages.Open.{Open}
use Rattle.client_core.specs.declared.stages.AgentStage.{AgentStage}
use Rattle.client_core.specs.declared.stages.AgentStage.TheVariants as agent_stage
use Rattle.client_core.specs.Admin as admin_does
use Rattle.client_core.specs.AdminReplies.{next_of, is_row, is_last, is_list_row, is_state_part, is_agent_here, IsRow, IsLast, IsWrong}
use Rattle.client_core.specs.declared.ears.Piece.{Piece}
use Rattle.client_core.specs.declared.ears.Piece.TheVariants as piece
use Rattle.client_core.specs.declared.stages.Asking.{Asking}
use Rattle.client_core.specs.declared.stages.Exchange.{Exchange}
use Rattle.client_core.specs.declared.stages.Stage.{Stage}
use Rattle.client_core.specs.declared.stages.Stage.TheVariants as stage
use Rattle.client_core.specs.declared.stages.AdminStage.{AdminStage}
use Rattle.client_core.specs.declared.stages.AdminStage.TheVariants as admin_stage
use Rattle.client_core.specs.declared.steps.Step.{Step}
use Rattle.client_core.specs.declared.steps.Step.TheVariants as step
use Rattle.client_core.specs.declared.steps.Fault.{Fault}
use Rattle.client_core.specs.declared.steps.Fault.TheVariants.{Sequence, Operation}
use Rattle.client_core.specs.declared.wanted.Wanted.{Wanted}
use Rattle.client_core.specs.declared.wanted.Wanted.TheVariants.{Command, Verdict as WantedVerdict, Rows, State, Service, Stop}
use Rattle.wire_fields.specs.Operation.{number_of}
use Rattle.wire_fields.specs.Message.{operation}
use Rattle.client_core.specs.declared.wanted.Next.{Next}
use Rattle.client_core.specs.declared.wanted.Next.TheVariants as next

fit_if : (some : Bool) (there bytes : List ℕ) → (if some then nat_le (length bytes) (wanted there) else false) ≡ true
    → length bytes ≤ wanted there
fit_if true there bytes is = grind (arith, is)
fit_if false there bytes is = cc

pub within : (there bytes : List ℕ) → is_fit there bytes ≡ true → length bytes ≤ wanted there
within there bytes is = fit_if (nat_lt 0 (length bytes)) there bytes is

-- some bytes, no more than are wanted, are fit
pub fit : (there bytes : List ℕ) → 0 < length bytes → length bytes ≤ wanted there → is_fit there bytes ≡ true
fit there bytes some few =
    let one : nat_lt 0 (length bytes) ≡ true = grind (arith, nat_tests) in
    let two : nat_le (length bytes) (wanted there) ≡ true = grind (arith, nat_tests) in
    ap (λ (b : Bool). if b then nat_le (length bytes) (wanted there) else false) one ∙ two

abbrev pub client : Cache → ℕ → List ℕ → Bool → Stage → Client
client cache sequence frame is_linked stage =
    record { cache = cache; sequence = sequence; frame = frame; is_linked = is_linked; stage = stage }

module _ (cache : Cache) (sequence : ℕ) (frame : List ℕ) (is_linked : Bool) (s t : Stage) (asking : Asking) (answer : Step) (new : Client) where
  pub same_finds : (found : Option Verdict) → asking_does.finds found asking answer (client cache sequence frame is_linked s) new
      → asking_does.finds found asking answer (client cache sequence frame is_linked t) new
  same_finds (Some verdict) d = d
  same_finds None d = d

  same_concludes : (framed : Framed) (found : Option Fault)
      → asking_does.concludes found asking framed answer (client cache sequence frame is_linked s) new
      → asking_does.concludes found asking framed answer (client cache sequence frame is_linked t) new
  same_concludes framed (Some fault) d = d
  same_concludes framed None d = d

  same_hears : (came : Piece) → asking_does.hears came asking answer (client cache sequence frame is_linked s) new
      → asking_does.hears came asking answer (client cache sequence frame is_linked t) new
  same_hears (piece.More ear) d = d
  same_hears (piece.Whole framed) d = same_concludes framed (asking_does.fault_in sequence cache.told framed) d
  same_hears (piece.Wrong refusal) d = d

  pub same_reply : (ear : Listening) (bytes : List ℕ)
      → asking_does.HearsReply asking ear bytes answer (client cache sequence frame is_linked s) new
      → asking_does.HearsReply asking ear bytes answer (client cache sequence frame is_linked t) new
  same_reply ear bytes d = (d.0, d.1, same_hears d.0 d.2)

-- what is heard of a piece: the reply goes on, it is whole, or it is wrong
module _ {X : Type 0} (asking : Asking) (ear : Listening) (bytes : List ℕ) (answer : Step) (old new : Client)
    (more : (after : Listening) → after ≡ record ear { bytes = ear.bytes ++ bytes } → IsOpen ear.side (ear.bytes ++ bytes)
    → answer ≡ step.Wait → new ≡ record old { stage = stage.Waiting asking after } → X)
    (whole : (framed : Framed) → Hears ear.side (ear.bytes ++ bytes) (framed ∷ []) []
    → asking_does.Concludes asking framed answer old new → X)
    (bad : (refusal : WireRefusal) → BeginsWrong ear.side (ear.bytes ++ bytes) refusal → answer ≡ step.Over (fault_by refusal)
    → new ≡ raised true (forgotten old) → X) where
  piece_at : (came : Piece) → HearsPiece came ear bytes → asking_does.hears came asking answer old new → X
  piece_at (piece.More after) heard d = more after heard.0 heard.1 d.0 d.1
  piece_at (piece.Whole framed) heard d = whole framed heard d
  piece_at (piece.Wrong refusal) heard d = bad refusal heard d.0 d.1

  pub by_piece : asking_does.HearsReply asking ear bytes answer old new → X
  by_piece d = piece_at d.0 d.1 d.2

abbrev pub admin : ℕ → List ℕ → Bool → AdminStage → Admin
admin sequence frame is_linked stage =
    record { sequence = sequence; frame = frame; is_linked = is_linked; stage = stage }

module _ (sequence : ℕ) (frame : List ℕ) (is_linked : Bool) (s t : AdminStage) (exchange : Exchange) (answer : Step) (new : Admin) where
  admin_concludes : (framed : Framed) (follows : Next)
      → admin_does.concludes follows exchange framed answer (admin sequence frame is_linked s) new
      → admin_does.concludes follows exchange framed answer (admin sequence frame is_linked t) new
  admin_concludes framed next.More d = d
  admin_concludes framed next.Whole d = d
  admin_concludes framed (next.Wrong fault) d = d

  admin_hears : (came : Piece) → admin_does.hears came exchange answer (admin sequence frame is_linked s) new
      → admin_does.hears came exchange answer (admin sequence frame is_linked t) new
  admin_hears (piece.More ear) d = d
  admin_hears (piece.Whole framed) d =
      admin_concludes framed (next_of exchange.wanted exchange.sequence exchange.rows framed) d
  admin_hears (piece.Wrong refusal) d = d

  pub admin_reply : (ear : Listening) (bytes : List ℕ)
      → admin_does.HearsReply exchange ear bytes answer (admin sequence frame is_linked s) new
      → admin_does.HearsReply exchange ear bytes answer (admin sequence frame is_linked t) new
  admin_reply ear bytes d = (d.0, d.1, admin_hears d.0 d.2)

-- what an administrator hears of a piece: the reply goes on, it is whole, or it is wrong
module _ {X : Type 0} (exchange : Exchange) (ear : Listening) (bytes : List ℕ) (answer : Step) (old new : Admin)
    (more : (after : Listening) → after ≡ record ear { bytes = ear.bytes ++ bytes } → IsOpen ear.side (ear.bytes ++ bytes)
    → answer ≡ step.Wait → new ≡ record old { stage = admin_stage.Waiting exchange after } → X)
    (whole : (framed : Framed) → Hears ear.side (ear.bytes ++ bytes) (framed ∷ []) []
    → admin_does.Concludes exchange framed answer old new → X)
    (bad : (refusal : WireRefusal) → BeginsWrong ear.side (ear.bytes ++ bytes) refusal → answer ≡ step.Over (fault_by refusal)
    → new ≡ cut old → X) where
  admin_piece_at : (came : Piece) → HearsPiece came ear bytes → admin_does.hears came exchange answer old new → X
  admin_piece_at (piece.More after) heard d = more after heard.0 heard.1 d.0 d.1
  admin_piece_at (piece.Whole framed) heard d = whole framed heard d
  admin_piece_at (piece.Wrong refusal) heard d = bad refusal heard d.0 d.1

  pub admin_by_piece : admin_does.HearsReply exchange ear bytes answer old new → X
  admin_by_piece d = admin_piece_at d.0 d.1 d.2

-- by what follows from a reply
module _ {X : Type 0} (exchange : Exchange) (framed : Framed) (answer : Step) (old new : Admin)
    (row : IsRow exchange.wanted exchange.sequence exchange.rows framed → answer ≡ step.Row framed.message
    → new ≡ record old { stage = admin_stage.Waiting (with_row exchange) (unheard Replies) } → X)
    (last : IsLast exchange.wanted exchange.sequence exchange.rows framed → answer ≡ step.Reply framed.message
    → new ≡ record old { stage = admin_stage.Idle } → X)
    (wrong : (found : Fault) → IsWrong exchange.wanted exchange.sequence exchange.rows framed found → answer ≡ step.Over found
    → new ≡ cut old → X) where
  reply_at : (follows : Next) → next_of exchange.wanted exchange.sequence exchange.rows framed ≡ follows
      → admin_does.concludes follows exchange framed answer old new → X
  reply_at next.More is d = row is d.0 d.1
  reply_at next.Whole is d = last is d.0 d.1
  reply_at (next.Wrong found) is d = wrong found is d.0 d.1

  pub admin_by_reply : admin_does.Concludes exchange framed answer old new → X
  admin_by_reply d = reply_at (next_of exchange.wanted exchange.sequence exchange.rows framed) refl d

abbrev pub agent : Kind → List ℕ → AgentStage → Agent
agent kind frame stage = record { kind = kind; frame = frame; stage = stage }

module _ (kind : Kind) (frame : List ℕ) (s t : AgentStage) (answer : Step) (new : Agent) where
  same_begins : (message : Message) (first : First) → agent_does.begins first message answer (agent kind frame s) new
      → agent_does.begins first message answer (agent kind frame t) new
  same_begins message First.Registers d = d
  same_begins message First.IsTaken d = d
  same_begins message First.Strays d = d

  first_hears : (came : Piece) → agent_does.hears_first came answer (agent kind frame s) new
      → agent_does.hears_first came answer (agent kind frame t) new
  first_hears (piece.More ear) d = d
  first_hears (piece.Whole framed) d = same_begins framed.message (agent_does.first_of framed.message) d
  first_hears (piece.Wrong refusal) d = d

  pub same_first : (ear : Listening) (bytes : List ℕ) → agent_does.HearsFirst ear bytes answer (agent kind frame s) new
      → agent_does.HearsFirst ear bytes answer (agent kind frame t) new
  same_first ear bytes d = (d.0, d.1, first_hears d.0 d.2)

  module _ (asked : Option Open) where
    same_turns : (framed : Framed) (turn : Turn)
        → agent_does.turns turn framed.sequence framed.message asked answer (agent kind frame s) new
        → agent_does.turns turn framed.sequence framed.message asked answer (agent kind frame t) new
    same_turns framed (Turn.Asks number) d = d
    same_turns framed (Turn.Withdraws number) d = d
    same_turns framed Turn.Passes d = d
    same_turns framed Turn.HasNoPlace d = d

    next_hears : (came : Piece) → agent_does.hears_next came asked answer (agent kind frame s) new
        → agent_does.hears_next came asked answer (agent kind frame t) new
    next_hears (piece.More ear) d = d
    next_hears (piece.Whole framed) d = same_turns framed (agent_does.turn_of framed.message) d
    next_hears (piece.Wrong refusal) d = d

    pub same_next : (ear : Listening) (bytes : List ℕ) → agent_does.HearsNext asked ear bytes answer (agent kind frame s) new
        → agent_does.HearsNext asked ear bytes answer (agent kind frame t) new
    same_next ear bytes d = (d.0, d.1, next_hears d.0 d.2)

-- what an agent hears of a piece: the message goes on, it is whole, or it is wrong
module _ {X : Type 0} (ear : Listening) (bytes : List ℕ) (answer : Step) (old new : Agent)
    (bad : (refusal : WireRefusal) → BeginsWrong ear.side (ear.bytes ++ bytes) refusal → answer ≡ step.Over (fault_by refusal)
    → new ≡ agent_does.cut old → X) where
  -- the first message
  module _ (more : (after : Listening) → after ≡ record ear { bytes = ear.bytes ++ bytes } → IsOpen ear.side (ear.bytes ++ bytes)
      → answer ≡ step.Wait → new ≡ record old { stage = agent_stage.Registering after } → X)
      (whole : (framed : Framed) → Hears ear.side (ear.bytes ++ bytes) (framed ∷ []) []
      → agent_does.Begins framed.message answer old new → X) where
    first_at : (came : Piece) → HearsPiece came ear bytes → agent_does.hears_first came answer old new → X
    first_at (piece.More after) heard d = more after heard.0 heard.1 d.0 d.1
    first_at (piece.Whole framed) heard d = whole framed heard d
    first_at (piece.Wrong refusal) heard d = bad refusal heard d.0 d.1

    pub agent_by_first : agent_does.HearsFirst ear bytes answer old new → X
    agent_by_first d = first_at d.0 d.1 d.2

  -- a further one
  module _ (asked : Option Open)
      (more : (after : Listening) → after ≡ record ear { bytes = ear.bytes ++ bytes } → IsOpen ear.side (ear.bytes ++ bytes)
      → answer ≡ step.Wait → new ≡ record old { stage = agent_stage.Listening asked after } → X)
      (whole : (framed : Framed) → Hears ear.side (ear.bytes ++ bytes) (framed ∷ []) []
      → agent_does.Turns framed asked answer old new → X) where
    next_at : (came : Piece) → HearsPiece came ear bytes → agent_does.hears_next came asked answer old new → X
    next_at (piece.More after) heard d = more after heard.0 heard.1 d.0 d.1
    next_at (piece.Whole framed) heard d = whole framed heard d
    next_at (piece.Wrong refusal) heard d = bad refusal heard d.0 d.1

    pub agent_by_next : agent_does.HearsNext asked ear bytes answer old new → X
    agent_by_next d = next_at d.0 d.1 d.2

-- ---- where more bytes are waited for

pub wait_over : {X : Type 0} (f : Fault) → step.Wait ≡ step.Over f → X
wait_over f is = cc

pub wait_reply : {X : Type 0} (m : Message) → step.Wait ≡ step.Reply m → X
wait_reply m is = cc

-- ---- wrong replies

module _ (sequence : ℕ) (framed : Framed) (found : Fault) where
  abbrev pub IsFor : Type 0
  IsFor = (found ≡ Sequence sequence framed.sequence) ⊎ (found ≡ Operation (number_of (operation framed.message)))

  wrong_if : (same is_more ends : Bool)
      → (if same then
      (if is_more then next.More else (if ends then next.Whole else next.Wrong (Operation (number_of (operation framed.message)))))
      else next.Wrong (Sequence sequence framed.sequence)) ≡ next.Wrong found
      → IsFor
  wrong_if true true ends is = cc
  wrong_if true false true is = cc
  wrong_if true false false is = inr cc
  wrong_if false is_more ends is = inl cc

  -- it is for the number, or else for the operation
  pub wrong_for : (wanted : Wanted) (rows : ℕ) → IsWrong wanted sequence rows framed found → IsFor
  wrong_for wanted rows is =
      wrong_if (framed.sequence == sequence) (is_row wanted rows framed.message) (is_last wanted rows framed.message) is

-- ---- rows

and_right : (a b : Bool) → (a && b) ≡ true → b ≡ true
and_right true b is = is
and_right false b is = cc

row_below : (wanted : Wanted) (rows : ℕ) (reply : Message) → is_row wanted rows reply ≡ true → rows < 1048576
row_below Rows rows reply is = let below = and_right (is_list_row reply) (nat_lt rows 65536) is in grind (arith, below)
row_below State rows reply is = let below = and_right (is_state_part reply) (nat_lt rows 1048576) is in grind (arith, below)
row_below Service rows reply is = let below = and_right (is_agent_here reply) (nat_lt rows 65536) is in grind (arith, below)
row_below Command rows reply is = cc
row_below WantedVerdict rows reply is = cc
row_below Stop rows reply is = cc

more_if : (same is_more ends : Bool) (wanted : Wanted) (sequence rows : ℕ) (framed : Framed) → is_row wanted rows framed.message ≡ is_more
    → (if same then
    (if is_more then next.More else (if ends then next.Whole else next.Wrong (Operation (number_of (operation framed.message)))))
    else next.Wrong (Sequence sequence framed.sequence)) ≡ next.More
    → rows < 1048576
more_if true true ends wanted sequence rows framed row is = row_below wanted rows framed.message row
more_if true false true wanted sequence rows framed row is = cc
more_if true false false wanted sequence rows framed row is = cc
more_if false is_more ends wanted sequence rows framed row is = cc

-- behind a further row there were fewer than may be
pub more_rows : (wanted : Wanted) (sequence rows : ℕ) (framed : Framed) → next_of wanted sequence rows framed ≡ next.More → rows < 1048576
more_rows wanted sequence rows framed is =
    more_if (framed.sequence == sequence) (is_row wanted rows framed.message) (is_last wanted rows framed.message) wanted sequence rows framed refl is
