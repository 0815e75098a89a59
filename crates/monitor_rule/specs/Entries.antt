-- Entries of the workers, in the order in which they were put.
use Rattle.std.specs.Prelude.{◌≡◌, ◌==◌, ℕ, suc, List, [], ◌∷◌, Option, None}
use Rattle.std.specs.List.{filter}
use Rattle.cynara_keys.specs.Key.{Question}
use Rattle.bucket_eval.specs.declared.answers.Verdict.{Verdict}
use Rattle.monitor_rule.specs.declared.entries.Entry.{Entry}
use Rattle.monitor_rule.specs.declared.moments.Moment.{Moment}

-- the entry of a check that the policies answered, recorded at this time
abbrev pub entry_of : ℕ → ℕ → Option Moment → Question → Verdict → Entry
entry_of worker number time question verdict = record {
  worker = worker;
  number = number;
  client = question.client;
  user = question.user;
  privilege = question.privilege;
  commit = verdict.commit;
  allowed = verdict.answer.kind.0 == 65535;
  time = time;
  agent = None;
  cause = verdict.answer.cause;
}

-- the entries of a worker, in their order
abbrev pub of_worker : ℕ → List Entry → List Entry
of_worker worker entries = filter (λ entry. entry.worker == worker) entries

-- the entries have the numbers from this one on, in turn
abbrev pub NumberedFrom : ℕ → List Entry → Type 0
NumberedFrom number [] = Unit {0}
NumberedFrom number (entry ∷ more) = (entry.number ≡ number) × NumberedFrom (suc number) more
