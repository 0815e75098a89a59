-- The file `stamp`: the number of the last accepted command, on one line.
use Rattle.std.specs.Prelude.{ℕ, ◌==◌, if◌then◌else◌, List, [], ◌∷◌, length, decimal, Option, None, Result}
use Rattle.desk_state.specs.Limits.{last_commit}
use Rattle.set_text.specs.Lines.{text_of, values_of, at_least_one}
use Rattle.set_text.specs.Numbers.{decimal_of}

abbrev pub stamp_text : ℕ → List ℕ
stamp_text commit = text_of decimal (commit ∷ [])

-- the number in a line, which has no line before it
abbrev pub read_commit : List ℕ → List ℕ → Option ℕ
read_commit before line = if length before == 0 then decimal_of last_commit line else None

abbrev pub commits_of : List ℕ → Result (List ℕ) ℕ
commits_of text = at_least_one (values_of read_commit text)
