-- The line that a run writes last.
use Rattle.std.specs.Prelude.{ℕ, List, [], ◌++◌, codes, decimal}
use Rattle.run_endings.specs.declared.endings.Ending.{Ending}
use Rattle.run_endings.specs.declared.endings.Ending.TheVariants.{Words, Line, Damaged, Reply, TooLong}

unfoldable pub words_text : List ℕ
words_text = codes "fault command line\n"

unfoldable pub line_text : ℕ → List ℕ
line_text line = codes "syntax " ++ (decimal line ++ codes "\n")

unfoldable pub damaged_text : List ℕ → ℕ → List ℕ
damaged_text file line = codes "damaged " ++ (file ++ (codes " " ++ (decimal line ++ codes "\n")))

unfoldable pub reply_text : List ℕ
reply_text = codes "fault reply\n"

unfoldable pub too_long_text : ℕ → List ℕ
too_long_text length = codes "fault too-long " ++ (decimal length ++ codes "\n")

-- most endings have none
abbrev pub last_line : Ending → List ℕ
last_line Words = words_text
last_line (Line number) = line_text number
last_line (Damaged file line) = damaged_text file line
last_line Reply = reply_text
last_line (TooLong length) = too_long_text length
last_line ending = []
