-- What reading gives.
use Rattle.std.specs.Prelude.{◌≡◌, ℕ, List, Option, Some, None, Result, Ok, Err}
use Rattle.std.specs.Borrow.{Bor}
use Rattle.script_words.specs.declared.refusals.LineRefusal.{LineRefusal}
use Rattle.script_words.specs.declared.refusals.LineRefusal.TheVariants.{Syntax, Memory}

-- a call gives what the definition reads, unless memory runs out
abbrev pub Refuses : {A : Type 0} → LineRefusal → Option A → Type 0
Refuses Syntax reading = reading ≡ None
Refuses (Memory error) reading = Unit {0}

abbrev pub Gives : {A : Type 0} → Result A LineRefusal → Option A → Type 0
Gives (Ok value) reading = reading ≡ Some value
Gives (Err refusal) reading = Refuses refusal reading

-- the same, where words are left
abbrev pub GivesWord : {A : Type 0} → Result A LineRefusal → List (List ℕ) → Option (A × List (List ℕ)) → Type 0
GivesWord (Ok value) left reading = reading ≡ Some (value, left)
GivesWord (Err refusal) left reading = Refuses refusal reading

-- the same for bytes that stay in the line, and are read as a value
abbrev pub GivesText : {A : Type 0} → (List ℕ → A) → Result (Bor (List ℕ)) LineRefusal → List (List ℕ)
    → Option (A × List (List ℕ)) → Type 0
GivesText value (Ok text) left reading = reading ≡ Some (value text.now, left)
GivesText value (Err refusal) left reading = Refuses refusal reading
