-- What one reading brings into a window.
use Rattle.std.specs.Prelude.{◌≡◌, ◌<◌, ◌≤◌, ℕ, Bool, true, false, List, []}
use Rattle.std.specs.Prelude.{◌++◌, ◌+◌, length, take, Option, Result, Ok, Err}
use Rattle.desk_ports.specs.Content.{Took, AtEnd, ReadToEnd}
use Rattle.text_lines.specs.declared.refusal.ReadRefusal.{ReadRefusal}
use Rattle.text_lines.specs.declared.refusal.ReadRefusal.TheVariants.{PastLimit, Source, Memory}

-- the source gave so many bytes, or none at its end, and they stand in the buffer from this place on
pub record ReadsBehind (left left_after : Option (List ℕ)) (old new : List ℕ) (end most count : ℕ) : Type 0 where
  pub given : List ℕ
  pub took : Took left given left_after
  pub behind : take (end + count) new ≡ take end old ++ given
  pub size : length given ≡ count
  pub within : count ≤ most
  pub ended : count ≡ 0 → AtEnd left

-- the source gave some bytes, and they stand behind those in the window
pub record Lengthens (left left_after : Option (List ℕ)) (old new : List ℕ) (most : ℕ) : Type 0 where
  pub given : List ℕ
  pub took : Took left given left_after
  pub behind : new ≡ old ++ given
  pub some : 0 < length given
  pub within : length given ≤ most

-- a call of the source failed, or memory ran out
abbrev pub ComesFromOutside : ReadRefusal → Type 0
ComesFromOutside (PastLimit number) = ⊥
ComesFromOutside Source = Unit {0}
ComesFromOutside (Memory error) = Unit {0}

-- whether one reading gave bytes or the end; where it failed, the window and what is left are as before
abbrev pub Gives : Option (List ℕ) → Option (List ℕ) → List ℕ → List ℕ → ℕ → Result Bool ReadRefusal → Type 0
Gives left left_after old new most (Ok true) = Lengthens left left_after old new most
Gives left left_after old new most (Ok false) = Took left [] left_after × ReadToEnd left left_after × (new ≡ old)
Gives left left_after old new most (Err refusal) = Took left [] left_after × (new ≡ old) × ComesFromOutside refusal
