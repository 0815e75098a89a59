-- The rule of the monitor, over what the queue holds, oldest first, and what each pass knows. In what was handed out,
-- followed by what the queue holds, the entries of each worker are what that worker put, in its order; they have the
-- numbers from 0 on.
use Rattle.std.specs.Prelude.{◌≡◌, ◌≤◌, ℕ, true, List, [], ◌++◌}
use mathlib.Core.Option.{Option, some, none}
use lib.ListN.{get_elem?}
use Rattle.monitor_rule.specs.declared.entries.Entry.{Entry}
use Rattle.monitor_rule.specs.declared.knowing.Account.{Account}
use Rattle.monitor_rule.specs.declared.knowing.View.{View}
use Rattle.monitor_rule.specs.Entries.{of_worker, NumberedFrom}

-- The recorder of a worker is the pass that has the worker's seat. It put what there is of its worker.
abbrev pub FitsRecorder : (ℕ → Option ℕ) → List Entry → ℕ → View → Type 0
FitsRecorder seat all pass v = v.records ≡ true → (seat v.worker ≡ some pass) × (v.put ≡ of_worker v.worker all)

-- The recorder of the account has ended, and the account is what there is of its worker.
abbrev pub IsFinal : (ℕ → Option ℕ) → List Entry → Account → Type 0
IsFinal seat all account = (seat account.worker ≡ none) × (account.put ≡ of_worker account.worker all)

-- There is one reader. It handed out what was handed out, and no worker has put anything for which it made no recorder
-- yet.
abbrev pub FitsReader : ℕ → (ℕ → Option ℕ) → List Entry → List Entry → ℕ → View → Type 0
FitsReader reader seat handed all pass v = v.reads ≡ true
    → (pass ≡ reader) × (v.handed ≡ handed)
    × ((worker : ℕ) → v.made ≤ worker → (seat worker ≡ none) × (of_worker worker all ≡ []))
    × ((place : ℕ) (account : Account) → get_elem? v.joined place ≡ some account → IsFinal seat all account)

-- the rule over all that ever was in the queue
abbrev pub Keeps : ℕ → (ℕ → Option ℕ) → List Entry → List Entry → List View → Type 0
Keeps reader seat handed all views =
    ((worker : ℕ) → NumberedFrom 0 (of_worker worker all))
    × ((pass : ℕ) (v : View) → get_elem? views pass ≡ some v
    → FitsRecorder seat all pass v × FitsReader reader seat handed all pass v)

-- Once a reader knows what is left, that is what the queue holds, and no recorder is there any more.
abbrev pub FitsEnd : (ℕ → Option ℕ) → List Entry → View → Type 0
FitsEnd seat items v = v.reads ≡ true → v.ends ≡ true → (v.left ≡ items) × ((worker : ℕ) → seat worker ≡ none)

-- the rule
abbrev pub Delivers : List Entry → List View → Type 0
Delivers items views = (reader : ℕ) × (seat : ℕ → Option ℕ) × (handed : List Entry)
    × Keeps reader seat handed (handed ++ items) views
    × ((pass : ℕ) (v : View) → get_elem? views pass ≡ some v → FitsEnd seat items v)
