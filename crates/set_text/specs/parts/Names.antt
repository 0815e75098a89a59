-- What a refusal names. Memory may be wanting whatever the fault is.
use Rattle.std.specs.Prelude.{◌≡◌, ℕ, List, Option, Some}
use Rattle.set_text.specs.declared.lines.FileFault.{FileFault}
use Rattle.set_text.specs.declared.lines.FileFault.TheVariants.{Line, Memory as FileMemory}
use Rattle.set_text.specs.declared.refusals.TextRefusal.{TextRefusal}
use Rattle.set_text.specs.declared.refusals.TextRefusal.TheVariants.{Damaged, Memory}
use Rattle.set_text.specs.Fault.{Fault}

-- the refusal is this fault
abbrev pub Names : TextRefusal → Fault → Type 0
Names (Damaged file line) fault = fault ≡ record { file = file; line = line }
Names (Memory error) fault = Unit {0}

abbrev pub WantsMemory : TextRefusal → Type 0
WantsMemory (Damaged file line) = ⊥
WantsMemory (Memory error) = Unit {0}

-- the refusal is this fault of the file of a name
abbrev pub NamesLine : TextRefusal → List ℕ → FileFault → Type 0
NamesLine refusal name (Line number) = Names refusal (record { file = name; line = number })
NamesLine refusal name (FileMemory error) = WantsMemory refusal

-- a test that finds this fault refuses so
abbrev pub RefusesTest : TextRefusal → Option Fault → Type 0
RefusesTest (Damaged file line) fault = fault ≡ Some (record { file = file; line = line })
RefusesTest (Memory error) fault = Unit {0}
