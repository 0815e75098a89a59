-- What a run of `local` reads, answers and keeps.
use Rattle.std.specs.Prelude.{◌≡◌, ◌⊎◌, List, [], ◌∷◌, ◌++◌, ℕ, Some, None}
use Rattle.desk_ports.specs.Disk.{WhereTold}
use Rattle.desk_state.specs.DeskState.{DeskState}
use Rattle.desk_state.specs.Rules.{fault}
use Rattle.desk_state.specs.declared.commands.Command.{Command}
use Rattle.script_words.specs.declared.places.Place.TheVariants.{Local}
use Rattle.line_script.specs.declared.steps.Step.{Step}
use Rattle.script_replies.specs.Reply.{command_in}
use Rattle.script_replies.specs.Script.{Script, read_script, replies, state_after, AreInTurn}
use Rattle.script_replies.specs.Reading.{ReadsLines, ReadsAllLines, ReadsWhole, MeetsWrongLine}
use Rattle.run_endings.specs.Outside.{SourceSeen, DiskSeen, HadInput}
use Rattle.run_endings.specs.Saying.{Said}
use Rattle.folder_runs.specs.Folder.{RefusesFolder, KeepsFolder}
use Rattle.run_endings.specs.declared.endings.Ending.{Ending}
use Rattle.run_endings.specs.declared.endings.Ending.TheVariants.{Done, Memory, Line, Source, Sink, Disk}

-- ---- what was read

-- what the bytes of a script say that is for this program's own folder
abbrev pub read_local : List ℕ → Script
read_local bytes = read_script Local bytes

-- The input, what is left of it, and the steps that were read, for each way in which the run ends.
abbrev pub HasRead : Ending → List ℕ → List ℕ → List Step → Type 0
HasRead Done input rest steps = ReadsWhole Local steps input rest
HasRead (Line number) input rest steps = MeetsWrongLine Local number steps input rest
HasRead Memory input rest steps = ReadsLines Local input rest steps
HasRead Source input rest steps = ReadsAllLines Local input rest steps
HasRead Sink input rest steps = ReadsLines Local input rest steps
HasRead Disk input rest steps = ReadsLines Local input rest steps
HasRead ending input rest steps = ⊥

-- ---- what was answered

-- Each step that was read was answered; but where a call of the disk failed, all up to a last one, which is a command,
-- or comes to one, that was accepted and not committed.
abbrev pub AreAnswered : Ending → DeskState → List Step → List Step → Type 0
AreAnswered Disk start answered steps =
    (last : Step) × (command : Command) × (steps ≡ answered ++ last ∷ [])
    × (command_in (state_after start answered) last ≡ Some command)
    × (fault (state_after start answered) command ≡ None)
AreAnswered ending start answered steps = steps ≡ answered

-- The script of the source was answered from this state on. No share is open at first.
pub record AnswersScript (start : DeskState) (said : Said) (ending : Ending) (before after : SourceSeen) : Type 0 where
  pub input : List ℕ
  pub rest : List ℕ
  pub steps : List Step
  pub answered : List Step
  pub had : HadInput before.left after.left input rest
  pub read : HasRead ending input rest steps
  pub are_answered : AreAnswered ending start answered steps
  pub in_turn : AreInTurn start answered said.written
  pub due : said.due ≡ replies start [] answered

-- ---- the run

-- The folder was not mounted, and the source was not read.
pub record RunsUnmounted (said : Said) (ending : Ending) (source source_after : SourceSeen)
    (disk disk_after : DiskSeen) : Type 0 where
  pub folder : RefusesFolder said ending disk disk_after
  pub unread : source_after ≡ source

-- The folder was mounted, and stood for this state.
pub record RunsOver (said : Said) (ending : Ending) (source source_after : SourceSeen)
    (disk disk_after : DiskSeen) : Type 0 where
  pub start : DeskState
  pub script : AnswersScript start said ending source source_after
  pub folder : WhereTold disk.state
      (λ entry. KeepsFolder entry disk disk_after ending start script.answered script.steps)

abbrev pub RunsLocal : Said → Ending → SourceSeen → SourceSeen → DiskSeen → DiskSeen → Type 0
RunsLocal said ending source source_after disk disk_after =
    RunsUnmounted said ending source source_after disk disk_after
    ⊎ RunsOver said ending source source_after disk disk_after
