-- Commands: the answers that wait behind them, and how a line's step ends.
use Rattle.std.proofs.Common.{◌≡◌, ◌++◌, [], ℕ, List, Option, Some, None, Result, Ok, Err, MatchResult, inl, inr, refl}
use Rattle.std.proofs.Common.{sym, ap, ◌∙◌, append-nil}
use Rattle.cynara_keys.specs.Key.{Question}
use Rattle.desk_ports.specs.Content.{Appended}
use Rattle.desk_ports.proofs.Appends.{Appended-none}
use Rattle.desk_state.specs.DeskState.{DeskState}
use Rattle.desk_state.specs.Rules.{fault}
use Rattle.desk_state.specs.declared.commands.Command.{Command}
use Rattle.desk_state.specs.declared.refusals.Refusal.{Refusal}
use Rattle.line_script.specs.Grammar.{step_at}
use Rattle.line_script.specs.declared.steps.Step.{Step}
use Rattle.line_script.specs.declared.steps.Step.TheVariants as step
use Rattle.private_sharing.specs.declared.shares.Share.{Share}
use Rattle.script_replies.specs.Reply.{command_text, applied, settled_by, reply}
use Rattle.local_runs.specs.parts.Local.{Hands, Flushes, AnswersStep, RefusesStep, AnswersLine, RefusesLine}
use Rattle.folder_runs.specs.Keeping.{counts_disk}
use Rattle.run_endings.specs.declared.endings.Ending.{Ending}
use Rattle.run_endings.specs.declared.endings.Ending.TheVariants.{Done, Memory, Words, Line, Source, Sink, Disk, Net}
use Rattle.run_endings.specs.declared.endings.Ending.TheVariants.{Damaged, Reply, TooLong}
use Rattle.local_runs.specs.declared.local_script.LocalScript.{LocalScript}

-- no answer was handed over
pub hands-none : (taken : Option (List ℕ)) (answers answers_after : List ℕ) → answers_after ≡ answers
    → Hands taken taken answers answers_after
hands-none taken answers answers_after same =
    record { handed = []; appended = Appended-none taken; parts = sym same }

-- all answers were
pub hands-all : (taken taken_after : Option (List ℕ)) (answers waiting : List ℕ) → Appended taken answers taken_after
    → waiting ≡ []
    → Hands taken taken_after answers waiting
hands-all taken taken_after answers waiting appended none =
    record {
      handed = answers;
      appended = appended;
      parts = sym (append-nil answers) ∙ ap (λ waiting. answers ++ waiting) (sym none);
    }

-- a command was refused
pub answers-refusal : (taken : Option (List ℕ)) (answers answers_after : List ℕ) (desk : DeskState)
    (shares : List Share)
    (command : Command) (broken : Refusal) → fault desk command ≡ Some broken
    → answers_after ≡ answers ++ command_text desk command (Some broken)
    → AnswersStep taken taken answers answers_after desk desk shares shares (step.Command command)
answers-refusal taken answers answers_after desk shares command broken breaks text =
    record {
      waiting = answers;
      hands = hands-none taken answers answers refl;
      answer = text ∙ ap (λ fault. answers ++ command_text desk command fault) (sym breaks);
      state = ap (applied desk command) (sym breaks);
      sharing = ap (settled_by desk shares command) (sym breaks);
      in_turn = inl refl;
    }

-- a command was accepted, when all earlier answers were taken
pub answers-command : (taken taken_after : Option (List ℕ)) (answers flushed answers_after : List ℕ)
    (desk desk_after : DeskState)
    (shares shares_now : List Share) (command : Command) → fault desk command ≡ None
    → Appended taken answers taken_after
    → flushed ≡ [] → answers_after ≡ flushed ++ command_text desk command None → desk_after ≡ applied desk command None
    → shares_now ≡ settled_by desk shares command None
    → AnswersStep taken taken_after answers answers_after desk desk_after shares shares_now (step.Command command)
answers-command taken taken_after answers flushed answers_after desk desk_after shares shares_now command accepted appended none text is open_ =
    record {
      waiting = flushed;
      hands = hands-all taken taken_after answers flushed appended none;
      answer = text ∙ ap (λ fault. flushed ++ command_text desk command fault) (sym accepted);
      state = is ∙ ap (applied desk command) (sym accepted);
      sharing = open_ ∙ ap (settled_by desk shares command) (sym accepted);
      in_turn = inr none;
    }

-- how a line ends, by how its step does
pub line-of-step : (taken taken_after : Option (List ℕ)) (old new : LocalScript) (desk desk_after : DeskState)
    (line : List ℕ)
    (number : ℕ) (asked : Step) → step_at old.reader line ≡ Some (new.reader, asked)
    → (result : Result (Unit {0}) Ending)
    → MatchResult result (λ value. AnswersStep taken taken_after old.answers new.answers desk desk_after old.shares new.shares asked)
    (RefusesStep taken taken_after old.answers new.answers desk desk_after asked)
    → MatchResult result (λ value. AnswersLine taken taken_after old new desk desk_after line)
    (RefusesLine taken taken_after old new desk desk_after line number)
line-of-step taken taken_after old new desk desk_after line number asked reads (Ok value) done =
    record { step = asked; reads = reads; done = done }
line-of-step taken taken_after old new desk desk_after line number asked reads (Err Memory) refuses = refuses
line-of-step taken taken_after old new desk desk_after line number asked reads (Err Sink) refuses = refuses
line-of-step taken taken_after old new desk desk_after line number asked reads (Err Disk) fails =
    record { step = asked; reads = reads; fails = fails }
line-of-step taken taken_after old new desk desk_after line number asked reads (Err Done) refuses = absurd refuses
line-of-step taken taken_after old new desk desk_after line number asked reads (Err Words) refuses = absurd refuses
line-of-step taken taken_after old new desk desk_after line number asked reads (Err Source) refuses = absurd refuses
line-of-step taken taken_after old new desk desk_after line number asked reads
    (Err (Line wrong)) refuses = absurd refuses
line-of-step taken taken_after old new desk desk_after line number asked reads (Err Net) refuses = absurd refuses
line-of-step taken taken_after old new desk desk_after line number asked reads (Err Reply) refuses = absurd refuses
line-of-step taken taken_after old new desk desk_after line number asked reads
    (Err (TooLong size)) refuses = absurd refuses
line-of-step taken taken_after old new desk desk_after line number asked reads
    (Err (Damaged file place)) refuses = absurd refuses

-- the line asks for a check, whose answer waits
pub answers-check : (taken : Option (List ℕ)) (old new : LocalScript) (desk : DeskState) (line : List ℕ)
    (question : Question)
    → step_at old.reader line ≡ Some (old.reader, step.Check question) → new.reader ≡ old.reader
    → new.shares ≡ old.shares
    → new.answers ≡ old.answers ++ reply desk old.shares (step.Check question)
    → AnswersLine taken taken old new desk desk line
answers-check taken old new desk line question reads same shares text =
    record {
      step = step.Check question;
      reads = reads ∙ ap (λ reader. Some (reader, step.Check question)) (sym same);
      done = record {
        waiting = old.answers;
        hands = hands-none taken old.answers old.answers refl;
        answer = text;
        state = refl;
        sharing = shares;
        in_turn = inl refl;
      };
    }

-- the answers that waited were not all taken
module _ (taken taken_after : Option (List ℕ)) (old new : LocalScript) where
  pub refuses-unflushed : (answers_after : List ℕ) (desk : DeskState) (asked : Step) (ending : Ending)
      → Flushes taken taken_after old new (Err ending)
      → RefusesStep taken taken_after old.answers answers_after desk desk asked ending
  refuses-unflushed answers_after desk asked Sink flushed = (flushed.0, refl)
  refuses-unflushed answers_after desk asked Done flushed = absurd flushed
  refuses-unflushed answers_after desk asked Memory flushed = absurd flushed
  refuses-unflushed answers_after desk asked Words flushed = absurd flushed
  refuses-unflushed answers_after desk asked (Line number) flushed = absurd flushed
  refuses-unflushed answers_after desk asked Source flushed = absurd flushed
  refuses-unflushed answers_after desk asked Disk flushed = absurd flushed
  refuses-unflushed answers_after desk asked Net flushed = absurd flushed
  refuses-unflushed answers_after desk asked Reply flushed = absurd flushed
  refuses-unflushed answers_after desk asked (TooLong size) flushed = absurd flushed
  refuses-unflushed answers_after desk asked (Damaged file line) flushed = absurd flushed

  pub disk-unflushed : (ending : Ending) → Flushes taken taken_after old new (Err ending)
      → (count : ℕ) → count ≡ counts_disk {A = Unit {0}} (Err ending) count
  disk-unflushed Sink flushed count = refl
  disk-unflushed Done flushed count = absurd flushed
  disk-unflushed Memory flushed count = absurd flushed
  disk-unflushed Words flushed count = absurd flushed
  disk-unflushed (Line number) flushed count = absurd flushed
  disk-unflushed Source flushed count = absurd flushed
  disk-unflushed Disk flushed count = absurd flushed
  disk-unflushed Net flushed count = absurd flushed
  disk-unflushed Reply flushed count = absurd flushed
  disk-unflushed (TooLong size) flushed count = absurd flushed
  disk-unflushed (Damaged file line) flushed count = absurd flushed
