-- How the answers that wait are handed to the sink when a run ends.
use Rattle.std.specs.Prelude.{◌≡◌, ◌⊎◌, ℕ, List, Option}
use Rattle.desk_ports.specs.Faults.{next_count}
use Rattle.desk_ports.specs.Content.{Appended, AppendedPart}
use Rattle.run_endings.specs.Saying.{IsTried}
use Rattle.run_endings.specs.declared.endings.Ending.{Ending}
use Rattle.run_endings.specs.declared.endings.Ending.TheVariants.{Memory, Line, Sink}

-- how the answers that wait when a run ends so are handed to the sink, and how the run ends then
abbrev pub Finishes : Option (List ℕ) → Option (List ℕ) → ℕ → ℕ → List ℕ → Ending → Ending → Type 0
Finishes taken taken_after faults faults_after waiting Memory result =
    (result ≡ Memory)
    × ((written : List ℕ) × Appended taken written taken_after × IsTried faults faults_after waiting written)
Finishes taken taken_after faults faults_after waiting (Line number) result =
    ((result ≡ Line number) × Appended taken waiting taken_after × (faults_after ≡ faults))
    ⊎ ((result ≡ Sink) × AppendedPart taken waiting taken_after × (faults_after ≡ next_count faults))
Finishes taken taken_after faults faults_after waiting ending result =
    (result ≡ ending) × (taken_after ≡ taken) × (faults_after ≡ faults)
