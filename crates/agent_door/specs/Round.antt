-- One question after the other: what `next` gave an agent of a kind, and what came then until the question was no
-- longer open.
use Rattle.std.specs.Prelude.{◌≡◌, ◌<◌, ◌≤◌, ℕ, Bool, true, false, List, [], ◌∷◌, ◌++◌, length, map, Result, Ok, Err}
use Rattle.std.specs.List.{AllByRecursion, flat_map}
use Rattle.cynara_keys.specs.declared.results.Kind.{Kind}
use Rattle.agent_table.specs.declared.refusals.AnswerRefusal.{AnswerRefusal}
use Rattle.agent_table.specs.declared.table.Asked.{Asked}
use Rattle.wire_fields.specs.declared.messages.Framed.{Framed}
use Rattle.server_hall.specs.declared.calls.HallCall.{HallCall}
use Rattle.server_hall.specs.declared.calls.HallCall.TheVariants.{Next, Answer as AnswerCalled, Look}
use Rattle.agent_door.specs.Frame.{answer_frame, question_frame, unknown_frame, withdrawn_frame}
use Rattle.agent_door.specs.declared.messages.Answer.{Answer}

-- an answer that came, and what the call of `answer` for it gave
pub record Given : Type 0 where
  pub answer : Answer
  pub result : Result (Unit {0}) AnswerRefusal

-- What came while a question was open: an answer; or none in a tenth of a second, and it was looked whether the
-- question is open still.
pub data Turn : Type 0 where
  answered : Given → Turn
  looked : Bool → Turn

-- a question that `next` gave, and what came behind it
pub record Round : Type 0 where
  pub asked : Asked
  pub turns : List Turn

-- The turn leaves the question open: it is an answer to another number, or a look that found it open.
abbrev pub IsInVain : Asked → Turn → Type 0
IsInVain asked (Turn.answered given) = given.answer.number ≡ asked.number → ⊥
IsInVain asked (Turn.looked is_open) = is_open ≡ true

-- The turn closes the round: it is the answer to the question, or a look that found it withdrawn.
abbrev pub IsLast : Asked → Turn → Type 0
IsLast asked (Turn.answered given) = given.answer.number ≡ asked.number
IsLast asked (Turn.looked is_open) = is_open ≡ false

-- The last turn, and no other, closes the round, and it is one of the first 600.
abbrev pub IsWhole : Round → Type 0
IsWhole round = (others : List Turn) × (last : Turn)
    × (round.turns ≡ others ++ last ∷ [])
    × AllByRecursion (IsInVain round.asked) others
    × (length others < 600)
    × IsLast round.asked last

-- the question is open still
abbrev pub IsOpen : Round → Type 0
IsOpen round = AllByRecursion (IsInVain round.asked) round.turns × (length round.turns ≤ 600)

-- the question has been open for as many turns as an agent is given
abbrev pub IsLate : Round → Type 0
IsLate round = length round.turns ≡ 600

-- ---- the calls that are made, each with the kind

abbrev pub answer_call : Kind → Given → HallCall
answer_call kind given = AnswerCalled (record {
  kind = kind;
  number = given.answer.number;
  allowed = given.answer.allowed;
  result = given.result;
})

abbrev pub look_call : ℕ → Bool → HallCall
look_call number is_open = Look number is_open

abbrev pub turn_call : Kind → Asked → Turn → HallCall
turn_call kind asked (Turn.answered given) = answer_call kind given
turn_call kind asked (Turn.looked is_open) = look_call asked.number is_open

abbrev pub round_calls : Kind → Round → List HallCall
round_calls kind round =
    Next (record { kind = kind; result = Ok round.asked }) ∷ map (turn_call kind round.asked) round.turns

abbrev pub rounds_calls : Kind → List Round → List HallCall
rounds_calls kind rounds = flat_map (round_calls kind) rounds

-- ---- the frames that come and go

abbrev pub turn_frames : Turn → List Framed
turn_frames (Turn.answered given) = answer_frame given.answer ∷ []
turn_frames (Turn.looked is_open) = []

abbrev pub round_frames : Round → List Framed
round_frames round = flat_map turn_frames round.turns

abbrev pub rounds_frames : List Round → List Framed
rounds_frames rounds = flat_map round_frames rounds

-- an answer that was refused is told so
abbrev pub told_of : Result (Unit {0}) AnswerRefusal → Answer → List Framed
told_of (Ok done) answer = []
told_of (Err refusal) answer = unknown_frame answer ∷ []

-- and so is a question that was found withdrawn
abbrev pub told_at : ℕ → Bool → List Framed
told_at number true = []
told_at number false = withdrawn_frame number ∷ []

abbrev pub turn_told : Asked → Turn → List Framed
turn_told asked (Turn.answered given) = told_of given.result given.answer
turn_told asked (Turn.looked is_open) = told_at asked.number is_open

abbrev pub round_told : Kind → Round → List Framed
round_told kind round = question_frame kind round.asked ∷ flat_map (turn_told round.asked) round.turns

abbrev pub rounds_told : Kind → List Round → List Framed
rounds_told kind rounds = flat_map (round_told kind) rounds
