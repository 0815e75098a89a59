-- One turn of answering a script.
use Rattle.std.specs.Prelude.{◌≡◌, ◌+◌, ◌⊎◌, ℕ, Bool, true, false, List, [], ◌++◌, Option, Some, None, Result, Ok, Err}
use Rattle.desk_ports.specs.Faults.{next_count}
use Rattle.desk_ports.specs.Content.{Appended, AppendedPart}
use Rattle.text_lines.specs.LineReader.{LineReading, HandsOut, Keeps, Ends, EndsReading, GoesPast, IsUnfinished}
use Rattle.text_lines.specs.LineReader.{has_line}
use Rattle.desk_state.specs.DeskState.{DeskState}
use Rattle.desk_state.specs.Rules.{fault}
use Rattle.desk_state.specs.declared.commands.Command.{Command}
use Rattle.line_script.specs.Block.{Block}
use Rattle.line_script.specs.Grammar.{step_at}
use Rattle.line_script.specs.declared.steps.Step.{Step}
use Rattle.line_script.specs.declared.steps.Step.TheVariants.{Nothing, Command as CommandStep, Level}
use Rattle.line_script.specs.declared.steps.Step.TheVariants.{Share as ShareStep, Unshare}
use Rattle.private_sharing.specs.declared.shares.Share.{Share}
use Rattle.script_replies.specs.Reply.{reply, after, shares_after, command_in}
use Rattle.script_replies.specs.Reading.{Gives}
use Rattle.run_endings.specs.declared.endings.Ending.{Ending}
use Rattle.run_endings.specs.declared.endings.Ending.TheVariants.{Memory, Line, Source, Sink, Disk}
use Rattle.local_runs.specs.declared.local_script.LocalScript.{LocalScript}

-- the sink's count of faults behind a phase of a run: one call failed where it stopped so, and else none
abbrev pub counts_sink : {A : Type 0} → Result A Ending → ℕ → ℕ
counts_sink (Err Sink) count = next_count count
counts_sink outcome count = count

-- a step that changes nothing
abbrev pub is_question : Step → Bool
is_question (CommandStep command) = false
is_question (Level request) = false
is_question (ShareStep owner target name) = false
is_question (Unshare owner target name) = false
is_question question = true

-- the step of a line; a line without one does nothing
abbrev pub step_of : Option (Block × Step) → Step
step_of None = Nothing
step_of (Some read) = read.1

-- the script stands where it stood, but for the answers that wait
pub record IsSameScript (old new : LocalScript) : Type 0 where
  pub reader : new.reader ≡ old.reader
  pub rules : new.rules ≡ old.rules
  pub shares : new.shares ≡ old.shares

-- the answers that waited are taken, or a part of them where the sink failed
abbrev pub Flushes : Option (List ℕ) → Option (List ℕ) → LocalScript → LocalScript → Result (Unit {0}) Ending → Type 0
Flushes taken taken_after old new (Ok value) = Appended taken old.answers taken_after × (new.answers ≡ [])
    × IsSameScript old new
Flushes taken taken_after old new (Err Sink) = AppendedPart taken old.answers taken_after × IsSameScript old new
Flushes taken taken_after old new (Err ending) = ⊥

-- some of the answers that waited are taken, all or none, and these wait now
pub record Hands (taken taken_after : Option (List ℕ)) (answers waiting : List ℕ) : Type 0 where
  pub handed : List ℕ
  pub appended : Appended taken handed taken_after
  pub parts : answers ≡ handed ++ waiting

-- The answers that waited are taken, unless a whole line waits to be answered; or a part of them, where the sink
-- failed.
abbrev pub HandsOver : Option (List ℕ) → Option (List ℕ) → LocalScript → LocalScript → LineReading
    → Result (Unit {0}) Ending → Type 0
HandsOver taken taken_after old new reading (Ok value) =
    Hands taken taken_after old.answers new.answers × (has_line reading ≡ false → new.answers ≡ [])
    × IsSameScript old new
HandsOver taken taken_after old new reading (Err Sink) = AppendedPart taken old.answers taken_after
    × IsSameScript old new
HandsOver taken taken_after old new reading (Err ending) = ⊥

module _ (taken taken_after : Option (List ℕ)) (answers answers_after : List ℕ) (desk desk_after : DeskState) where
  module _ (shares shares_now : List Share) where
    -- The step was done, and its answer waits. All earlier answers were taken before the state changed.
    pub record AnswersStep (step : Step) : Type 0 where
      pub waiting : List ℕ
      pub hands : Hands taken taken_after answers waiting
      pub answer : answers_after ≡ waiting ++ reply desk shares step
      pub state : desk_after ≡ after desk step
      pub sharing : shares_now ≡ shares_after desk shares step
      pub in_turn : (desk_after ≡ desk) ⊎ (waiting ≡ [])

  -- a command was accepted, and its commit failed; all earlier answers were taken
  pub record FailsToKeep (step : Step) : Type 0 where
    pub command : Command
    pub is : command_in desk step ≡ Some command
    pub accepted : fault desk command ≡ None
    pub appended : Appended taken answers taken_after
    pub nothing : answers_after ≡ []
    pub state : desk_after ≡ desk

  -- the step was not done; no answer was added
  abbrev pub RefusesStep : Step → Ending → Type 0
  RefusesStep asked Memory = Hands taken taken_after answers answers_after × (desk_after ≡ desk)
  RefusesStep asked Sink = AppendedPart taken answers taken_after × (desk_after ≡ desk)
  RefusesStep asked Disk = FailsToKeep asked
  RefusesStep asked ending = ⊥

module _ (taken taken_after : Option (List ℕ)) (old new : LocalScript) (desk desk_after : DeskState)
    (line : List ℕ) where
  -- the line's step was done
  pub record AnswersLine : Type 0 where
    pub step : Step
    pub reads : step_at old.reader line ≡ Some (new.reader, step)
    pub done : AnswersStep taken taken_after old.answers new.answers desk desk_after old.shares new.shares step

  -- the line's step is a command, or comes to one, whose commit failed
  pub record FailsAtLine : Type 0 where
    pub step : Step
    pub reads : step_at old.reader line ≡ Some (new.reader, step)
    pub fails : FailsToKeep taken taken_after old.answers new.answers desk desk_after step

  -- the line with this number has no step, or its step was not done
  abbrev pub RefusesLine : ℕ → Ending → Type 0
  RefusesLine number (Line wrong) =
      (wrong ≡ number) × (step_at old.reader line ≡ None) × (new.answers ≡ old.answers) × (taken_after ≡ taken)
      × (desk_after ≡ desk)
  RefusesLine number Memory = Hands taken taken_after old.answers new.answers × (desk_after ≡ desk)
  RefusesLine number Sink = AppendedPart taken old.answers taken_after × (desk_after ≡ desk)
  RefusesLine number Disk = FailsAtLine
  RefusesLine number ending = ⊥

module _ (left left_after taken taken_after : Option (List ℕ)) (old new : LocalScript) (desk desk_after : DeskState)
    (reading reading_after : LineReading) where
  -- a line was handed out and answered
  pub record AnswersNext : Type 0 where
    pub line : HandsOut left left_after reading reading_after
    pub ends : EndsReading left left_after reading reading_after
    pub answers : AnswersLine taken taken_after old new desk desk_after reading_after.line

  -- no line is left, and all answers are taken
  pub record EndsScript : Type 0 where
    pub appended : Appended taken old.answers taken_after
    pub nothing : new.answers ≡ []
    pub same : IsSameScript old new
    pub state : desk_after ≡ desk
    pub ended : Ends left left_after reading reading_after
    pub ends : EndsReading left left_after reading reading_after

  -- memory ran out
  pub record WantsMemory : Type 0 where
    pub hands : Hands taken taken_after old.answers new.answers
    pub gives : Gives left left_after reading
    pub state : desk_after ≡ desk

  -- the next line is wrong: it is past a limit, or has no step
  pub record StopsAtLine (line : ℕ) : Type 0 where
    pub hands : Hands taken taken_after old.answers new.answers
    pub ends : EndsReading left left_after reading reading_after
    pub number : line ≡ reading.number + 1
    pub wrong : (Keeps left left_after reading reading_after
        × GoesPast reading.longest reading.room reading_after.waiting)
        ⊎ (HandsOut left left_after reading reading_after × (step_at old.reader reading_after.line ≡ None))
    pub state : desk_after ≡ desk

  -- the source failed, when all answers were taken
  pub record FailsToRead : Type 0 where
    pub appended : Appended taken old.answers taken_after
    pub nothing : new.answers ≡ []
    pub kept : Keeps left left_after reading reading_after
    pub unfinished : IsUnfinished reading_after
    pub state : desk_after ≡ desk

  -- the sink failed
  pub record FailsToWrite : Type 0 where
    pub appended : AppendedPart taken old.answers taken_after
    pub gives : Gives left left_after reading
    pub state : desk_after ≡ desk

  -- a line was handed out whose step is a command or comes to one, and the disk failed in its commit
  pub record FailsNext : Type 0 where
    pub line : HandsOut left left_after reading reading_after
    pub ends : EndsReading left left_after reading reading_after
    pub fails : FailsAtLine taken taken_after old new desk desk_after reading_after.line

  -- how one turn ends
  abbrev pub Turns : Result Bool Ending → Type 0
  Turns (Ok true) = AnswersNext
  Turns (Ok false) = EndsScript
  Turns (Err Memory) = WantsMemory
  Turns (Err (Line line)) = StopsAtLine line
  Turns (Err Source) = FailsToRead
  Turns (Err Sink) = FailsToWrite
  Turns (Err Disk) = FailsNext
  Turns (Err ending) = ⊥
