-- What the words of a line are while they are read.
use Rattle.std.specs.Prelude.{ℕ, List, [], Option, Some, None}
use Rattle.std.specs.Borrow.{Bor}
use Rattle.script_words.specs.Words.{words_of}

-- the words of what is left of a line, if anything is
abbrev pub words_left : Option (Bor (List ℕ)) → List (List ℕ)
words_left None = []
words_left (Some rest) = words_of rest.now
