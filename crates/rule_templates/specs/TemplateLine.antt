-- Lines of a template: rules whose labels may be placeholders.
use Rattle.std.specs.Prelude.{ℕ, Bool, true, false, not, ◌&&◌, ◌||◌, List, []}
use Rattle.std.specs.Prelude.{◌∷◌, Option, Some, None, Result, Ok, Err, if◌then◌else◌}
use Rattle.std.specs.Option.{option_map}
use Rattle.smack_rules.specs.declared.modes.Modes.{Modes}
use Rattle.smack_rules.specs.Modes.{modes_of, spelling}
use Rattle.smack_rules.specs.Rule.{is_label}
use Rattle.smack_rules.specs.Spelling.{parted}
use Rattle.smack_rules.specs.Words.{words_of}
use Rattle.rule_templates.specs.declared.lines.Word.{Word}
use Rattle.rule_templates.specs.declared.lines.Word.TheVariants.{Fixed, OfPackage}
use Rattle.rule_templates.specs.declared.lines.Change.{Change}
use Rattle.rule_templates.specs.declared.lines.Change.TheVariants.{Set, Adjust}
use Rattle.rule_templates.specs.declared.lines.TemplateLine.{TemplateLine}
use Rattle.rule_templates.specs.declared.lines.LineFault.{LineFault}
use Rattle.rule_templates.specs.declared.lines.LineFault.TheVariants.{Form, UnknownPlaceholder}
use Rattle.rule_templates.specs.Placeholder.{placeholder_text, placeholder_of, begins_with_tilde}

-- The one spelling of a line.

abbrev pub word_text : Word → List ℕ
word_text (Fixed label) = label
word_text (OfPackage placeholder) = placeholder_text placeholder

-- the mode words of a change
abbrev pub change_words : Change → List (List ℕ)
change_words (Set modes) = spelling modes ∷ []
change_words (Adjust allow deny) = spelling allow ∷ spelling deny ∷ []

-- the words of a line, parted by one space
abbrev pub line_text : TemplateLine → List ℕ
line_text line = parted (word_text line.subject ∷ word_text line.object ∷ change_words line.change)

-- The reading of a line.

-- the form of a label word: a label, or whatever begins with `~`
abbrev pub is_label_word : List ℕ → Bool
is_label_word word = begins_with_tilde word || is_label word

-- what a label word is: a placeholder where it begins with `~`, and else a label
abbrev pub word_of : List ℕ → Option Word
word_of word =
    if begins_with_tilde word then option_map OfPackage (placeholder_of word)
    else (if is_label word then Some (Fixed word) else None)

abbrev pub adjustment : Option Modes → Option Modes → Option Change
adjustment (Some allow) (Some deny) = Some (Adjust allow deny)
adjustment (Some allow) None = None
adjustment None deny = None

-- the change that mode words make: one sets, two adjust
abbrev pub change_of : List (List ℕ) → Option Change
change_of (modes ∷ []) = option_map Set (modes_of modes)
change_of (allow ∷ deny ∷ []) = adjustment (modes_of allow) (modes_of deny)
change_of _ = None

-- the line of two label words and a change, where there is a change and the placeholders are known
abbrev pub line_with : Option Word → Option Word → Option Change → Result TemplateLine LineFault
line_with subject object None = Err Form
line_with (Some subject) (Some object) (Some change) =
    Ok (record { subject = subject; object = object; change = change })
line_with (Some subject) None (Some change) = Err UnknownPlaceholder
line_with None object (Some change) = Err UnknownPlaceholder

-- The line that words give. A line of a wrong form is named so, whatever its placeholders are.
abbrev pub line_of_words : List (List ℕ) → Result TemplateLine LineFault
line_of_words [] = Err Form
line_of_words (word ∷ []) = Err Form
line_of_words (subject ∷ object ∷ modes) =
    if is_label_word subject && is_label_word object then line_with (word_of subject) (word_of object) (change_of modes)
    else Err Form

-- the line that bytes spell, or what is wrong with it
abbrev pub line_of : List ℕ → Result TemplateLine LineFault
line_of bytes = line_of_words (words_of bytes)

-- What the words of a template are: labels without `~` at the front, and placeholders.
abbrev pub is_kept_word : Word → Bool
is_kept_word (Fixed label) = is_label label && not (begins_with_tilde label)
is_kept_word (OfPackage placeholder) = true

abbrev pub is_kept_line : TemplateLine → Bool
is_kept_line line = is_kept_word line.subject && is_kept_word line.object

-- a line without placeholders
abbrev pub is_fixed_word : Word → Bool
is_fixed_word (Fixed label) = true
is_fixed_word (OfPackage placeholder) = false

abbrev pub is_fixed_line : TemplateLine → Bool
is_fixed_line line = is_fixed_word line.subject && is_fixed_word line.object
