-- The endings that a refusal of a reader of lines leads to.
use Rattle.std.specs.Prelude.{◌≡◌}
use Rattle.text_lines.specs.declared.refusal.ReadRefusal.{ReadRefusal}
use Rattle.text_lines.specs.declared.refusal.ReadRefusal.TheVariants.{PastLimit, Source as SourceFailed}
use Rattle.text_lines.specs.declared.refusal.ReadRefusal.TheVariants.{Memory as NoMemory}
use Rattle.run_endings.specs.declared.endings.Ending.{Ending}
use Rattle.run_endings.specs.declared.endings.Ending.TheVariants.{Memory, Line, Source}

abbrev pub reading_ending : ReadRefusal → Ending
reading_ending (PastLimit number) = Line number
reading_ending SourceFailed = Source
reading_ending (NoMemory error) = Memory

abbrev pub RefusesLine : ReadRefusal → Ending → Type 0
RefusesLine refusal ending = ending ≡ reading_ending refusal
