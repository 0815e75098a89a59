-- What reading a line or a file answers. Memory may be wanting at any text.
use Rattle.std.specs.Prelude.{◌≡◌, ℕ, Option, Some, None, Result, Ok, Err}
use Rattle.set_text.specs.declared.lines.LineFault.{LineFault}
use Rattle.set_text.specs.declared.lines.LineFault.TheVariants.{Wrong, Memory}
use Rattle.set_text.specs.declared.lines.FileFault.{FileFault}
use Rattle.set_text.specs.declared.lines.FileFault.TheVariants.{Line, Memory as FileMemory}

-- the fault of a line, where the line gives this
abbrev pub RefusesLine : {X : Type 0} → LineFault → Option X → Type 0
RefusesLine Wrong line = line ≡ None
RefusesLine (Memory error) line = Unit {0}

abbrev pub ReadsLine : {X : Type 0} → Result X LineFault → Option X → Type 0
ReadsLine (Ok value) line = line ≡ Some value
ReadsLine (Err fault) line = RefusesLine fault line

-- the fault of a file, where the file gives this
abbrev pub RefusesFile : {X : Type 0} → FileFault → Result X ℕ → Type 0
RefusesFile (Line number) file = file ≡ Err number
RefusesFile (FileMemory error) file = Unit {0}

-- the fault of the file in which a line has a number
abbrev pub fault_at : ℕ → LineFault → FileFault
fault_at number Wrong = Line number
fault_at number (Memory error) = FileMemory error
