-- The parts of a run of `smack-access`.
use Rattle.std.specs.Prelude.{◌≡◌, ◌≤◌, ◌<◌, ◌+◌, ℕ, Bool, true, false, List, [], ◌++◌, length, Option, Result, Ok, Err}
use Rattle.desk_ports.specs.Faults.{next_count}
use Rattle.desk_ports.specs.Content.{Took, AtEnd, ReadToEnd, Appended, AppendedPart}
use Rattle.text_lines.specs.Lines.{pieces_of, HasNoNewline, AreWholeLines}
use Rattle.smack_rules.specs.declared.rule.Rule.{Rule}
use Rattle.smack_rules.specs.declared.modes.Modes.{Modes}
use Rattle.smack_rules.specs.Effective.{effective}
use Rattle.run_endings.specs.Outside.{HadInput}
use Rattle.access_runs.specs.AccessRun.{rules_read, IsReadThrough}
use Rattle.access_runs.specs.Limits.{most_rules_bytes}
use Rattle.run_endings.specs.Ending.{source_faults_after}
use Rattle.run_endings.specs.declared.endings.Ending.{Ending}
use Rattle.run_endings.specs.declared.endings.Ending.TheVariants.{Memory, Line, Source, Sink}

-- The text is all that the source had, or goes past the limit.
pub record IsRead (left left_after : Option (List ℕ)) (text : List ℕ) : Type 0 where
  pub took : Took left text left_after
  pub end : length text ≤ most_rules_bytes → ReadToEnd left left_after

-- these are the whole lines of the text, so many
pub record AreLinesOf (text lines : List ℕ) (count : ℕ) : Type 0 where
  pub rest : List ℕ
  pub parts : text ≡ lines ++ rest
  pub whole : AreWholeLines lines
  pub unfinished : HasNoNewline rest
  pub counted : length (pieces_of lines) ≡ count

-- a text that begins so has its first wrong line here; nothing follows a text within the limit
abbrev pub IsWrongAt : List ℕ → ℕ → Type 0
IsWrongAt text line = (more : List ℕ) → (length text ≤ most_rules_bytes → more ≡ [])
    → rules_read (text ++ more) ≡ Err line

-- the text is rules, and this is what they grant the pair
pub record AreGranted (text subject object : List ℕ) (granted : Modes) : Type 0 where
  pub rules : List Rule
  pub within : length text ≤ most_rules_bytes
  pub right : rules_read text ≡ Ok rules
  pub grants : granted ≡ effective rules subject object

-- the source was read to its end, and this is what the rules of what it had grant the pair
pub record AreRead (left left_after : Option (List ℕ)) (subject object : List ℕ) (granted : Modes) : Type 0 where
  pub input : List ℕ
  pub rules : List Rule
  pub had : HadInput left left_after input []
  pub right : rules_read input ≡ Ok rules
  pub grants : granted ≡ effective rules subject object

-- the first wrong line of what the source had, which was read to its end or past the limit
pub record IsWrongInput (left left_after : Option (List ℕ)) (number : ℕ) : Type 0 where
  pub input : List ℕ
  pub rest : List ℕ
  pub had : HadInput left left_after input rest
  pub through : IsReadThrough input rest
  pub wrong : rules_read input ≡ Err number

-- the counts of faults behind a phase of a run: one call failed where it stopped so, and else none
abbrev pub counts_source : {A : Type 0} → Result A Ending → ℕ → ℕ
counts_source (Err ending) count = source_faults_after ending count
counts_source (Ok value) count = count

abbrev pub counts_sink : {A : Type 0} → Result A Ending → ℕ → ℕ
counts_sink (Err Sink) count = next_count count
counts_sink outcome count = count

-- how reading the rules for a pair ends
abbrev pub ReadsRules : Option (List ℕ) → Option (List ℕ) → List ℕ → List ℕ → Result Modes Ending → Type 0
ReadsRules left left_after subject object (Ok granted) = AreRead left left_after subject object granted
ReadsRules left left_after subject object (Err (Line number)) = IsWrongInput left left_after number
ReadsRules left left_after subject object (Err Memory) = (given : List ℕ) × Took left given left_after
ReadsRules left left_after subject object (Err Source) = (given : List ℕ) × Took left given left_after
ReadsRules left left_after subject object (Err ending) = ⊥

-- how writing the answer ends
abbrev pub WritesAnswer : Option (List ℕ) → Option (List ℕ) → List ℕ → Result (Unit {0}) Ending → Type 0
WritesAnswer taken taken_after text (Ok value) = Appended taken text taken_after
WritesAnswer taken taken_after text (Err Memory) = taken_after ≡ taken
WritesAnswer taken taken_after text (Err Sink) = AppendedPart taken text taken_after
WritesAnswer taken taken_after text (Err ending) = ⊥

module _ (left left_after : Option (List ℕ)) (old new : List ℕ) where
  -- One reading gave these bytes, and the text goes on with them. A text within the limit ends only where the source
  -- does.
  pub record ReadsMore (more : Bool) : Type 0 where
    pub given : List ℕ
    pub took : Took left given left_after
    pub longer : new ≡ old ++ given
    pub within : length new ≤ most_rules_bytes + 1
    pub nearer : more ≡ true → length old < length new
    pub end : more ≡ false → length new ≤ most_rules_bytes → AtEnd left × (given ≡ [])
