-- What the generated script comes to.
use Rattle.std.specs.Prelude.{ℕ, true, ◌+◌, ◌*◌, ◌==◌, if◌then◌else◌, List, []}
use Rattle.std.specs.Prelude.{◌∷◌, ◌++◌, Option, Some, None, codes, decimal, option_and_then}
use Rattle.std.specs.Option.{option_map}
use Rattle.bucket_store.specs.Database.{Database, root}
use Rattle.bucket_eval.specs.Evaluation.{answer}
use Rattle.desk_state.specs.DeskState.{DeskState, fresh}
use Rattle.line_script.specs.Block.{Block, outside}
use Rattle.line_script.specs.Grammar.{step_at}
use Rattle.script_words.specs.declared.places.Place.TheVariants.{Local}
use Rattle.line_script.specs.declared.steps.Step.{Step}
use Rattle.desk_state.specs.declared.commands.Command.{Command}
use Rattle.line_script.specs.declared.steps.Step.TheVariants.{Command as CommandStep, Check}
use Rattle.script_replies.specs.Reply.{after_command}
use Rattle.sample_runs.specs.Lines.{commands, questions}
use Rattle.sample_runs.specs.declared.tallies.Tally.{Tally}

-- lines one after another, each by this step, as long as each has one
abbrev pub each_line : {S : Type 0} → (List ℕ → S → Option S) → List (List ℕ) → S → Option S
each_line step [] now = Some now
each_line step (line ∷ lines) now = option_and_then (each_line step lines) (step line now)

-- ---- commands

-- where a script stands, and the policy state behind what was read of it
pub record Stand : Type 0 where
  pub block : Block
  pub desk : DeskState

-- the command that a step is; other steps are none
abbrev pub command_in : Step → Option Command
command_in (CommandStep command) = Some command
command_in other = None

-- one line more, where it is a command
abbrev pub follow_line : List ℕ → Stand → Option Stand
follow_line line now =
    option_and_then
    (λ read. option_map (λ command. record { block = read.0; desk = after_command now.desk command })
    (command_in read.1))
    (step_at now.block line)

-- ---- questions

-- a result more, by its kind
abbrev pub with_kind : ℕ → Tally → Tally
with_kind kind tally = record {
  allowed = if kind == 65535 then tally.allowed + 1 else tally.allowed;
  denied = if kind == 0 then tally.denied + 1 else tally.denied;
}

-- where a script stands, and how the questions so far were decided
pub record Asked : Type 0 where
  pub block : Block
  pub tally : Tally

abbrev pub none_asked : Block → Asked
none_asked block = record { block = block; tally = record { allowed = 0; denied = 0 } }

-- the kind that a question is decided by; other steps ask nothing
abbrev pub kind_at : Database → Step → Option ℕ
kind_at database (Check question) = Some (answer database root question true).result.kind
kind_at database other = None

-- one line more, where it is a question
abbrev pub ask_line : Database → List ℕ → Asked → Option Asked
ask_line database line now =
    option_and_then
    (λ read. option_map (λ kind. record { block = read.0; tally = with_kind kind now.tally }) (kind_at database read.1))
    (step_at now.block line)

-- ---- the whole

abbrev pub prepared : ℕ → Option Stand
prepared count = each_line follow_line (commands count) (record { block = outside Local; desk = fresh })

-- the commit number of the state behind the commands, and how its questions are decided
pub record Outcome : Type 0 where
  pub commits : ℕ
  pub tally : Tally

abbrev pub outcome_at : ℕ → Stand → Option Outcome
outcome_at count stand =
    option_map (λ asked. record { commits = stand.desk.commit; tally = asked.tally })
    (each_line (ask_line stand.desk.database) (questions count) (none_asked stand.block))

abbrev pub outcome : ℕ → Option Outcome
outcome count = option_and_then (outcome_at count) (prepared count)

-- ---- as text

-- a word, a number and a newline
abbrev pub count_line : List ℕ → ℕ → List ℕ
count_line word number = word ++ (decimal number ++ codes "\n")

abbrev pub sample_text : ℕ → Outcome → List ℕ
sample_text count found =
    count_line (codes "sample ") count ++ count_line (codes "commits ") found.commits
    ++ count_line (codes "checks ") (4 * count)
    ++ count_line (codes "allow ") found.tally.allowed ++ count_line (codes "deny ") found.tally.denied
