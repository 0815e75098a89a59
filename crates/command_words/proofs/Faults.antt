-- What is wrong with the words of a line, and with words of none.
use Rattle.std.proofs.Common.{◌≡◌, ◌∙◌, false, refl, ap, List, String, Some, None, Global}
use Rattle.std.specs.Prelude.{if◌then◌else◌, option_map}
use Rattle.std.specs.Option.{option_or}
use Rattle.std.specs.List.{position}
use Rattle.word_line.specs.Lines.{is_line, words_of}
use Rattle.word_line.specs.declared.lines.Line.{Line}
use Rattle.word_line.specs.declared.lines.Line.TheVariants as line
use Rattle.command_words.specs.Commands.{is_option}
use Rattle.command_words.specs.Faults.{first_wrong, line_wrong, value_wrong}
use Rattle.command_words.specs.parts.Lines.{wrong_in}
use Rattle.command_words.specs.declared.word_faults.WordFault.TheVariants as fault
use Rattle.command_words.proofs.Lining.{bytes_of}

wrong_line : (l : Line) → line_wrong (words_of l) ≡ wrong_in l
wrong_line line.Local = refl
wrong_line line.SmackLoad = refl
wrong_line line.Admin = refl
wrong_line (line.Serve workers) = refl
wrong_line (line.Watch workers) = refl
wrong_line (line.Sample count) = refl
wrong_line (line.Agent kind answer) = refl
wrong_line (line.SmackAccess subject object modes) = refl
wrong_line (line.Check client session user privilege) = refl
wrong_line (line.Simple client session user privilege) = refl

-- No word is an option, so that what is wrong is what is wrong with a line.
past_options : (words : List (String Global)) → position is_option words ≡ None → first_wrong words ≡ line_wrong (bytes_of words)
past_options words none = ap (λ place. option_or (option_map fault.Dash place) (line_wrong (bytes_of words))) none

pub wrong-by : (words : List (String Global)) (l : Line) → position is_option words ≡ None → bytes_of words ≡ words_of l → first_wrong words ≡ wrong_in l
wrong-by words l none is = past_options words none ∙ ap line_wrong is ∙ wrong_line l

pub wrong-by-none : (words : List (String Global)) → position is_option words ≡ None → is_line (bytes_of words) ≡ false
    → first_wrong words ≡ Some fault.NoLine
wrong-by-none words none unlined = past_options words none ∙ ap (λ b. if b then value_wrong (bytes_of words) else Some fault.NoLine) unlined
