-- The first thing that is wrong with words that are no command.
use Rattle.std.specs.Prelude.{◌≡◌, String, if◌then◌else◌, ℕ, List, [], ◌∷◌, map}
use Rattle.std.specs.Prelude.{Option, Some, None, Result, Ok, Err, codes}
use Rattle.std.specs.Option.{option_map, option_or}
use Rattle.std.specs.List.{position}
use Rattle.std.specs.String.{string_bytes}
use Rattle.std.specs.declared.alloc.Global.{Global}
use Rattle.cynara_keys.specs.Text.{same_text}
use Rattle.cynara_keys.specs.Name.{name_fault}
use Rattle.smack_rules.specs.Label.{label_fault}
use Rattle.smack_rules.specs.Modes.{modes_of, is_request}
use Rattle.smack_rules.specs.declared.modes.Modes.{Modes}
use Rattle.word_line.specs.Lines.{is_line}
use Rattle.command_words.specs.Numbers.{number_within}
use Rattle.command_words.specs.Commands.{allowed_of, is_option}
use Rattle.command_words.specs.declared.commands.CommandRefusal.{CommandRefusal}
use Rattle.command_words.specs.declared.commands.CommandRefusal.TheVariants.{Unknown, Memory}
use Rattle.command_words.specs.declared.word_faults.WordFault.{WordFault}
use Rattle.command_words.specs.declared.word_faults.WordFault.TheVariants as fault

-- ---- a word in its place

-- the fault, where nothing was read
abbrev pub unless_read : {X : Type 0} → Option X → WordFault → Option WordFault
unless_read (Some value) wrong = None
unless_read None wrong = Some wrong

-- the second word, which is to be a number from the least to the most
abbrev pub number_wrong : ℕ → ℕ → List ℕ → Option WordFault
number_wrong least most word = unless_read (number_within least most word) (fault.Number 1 least most)

abbrev pub label_wrong : ℕ → List ℕ → Option WordFault
label_wrong place word = option_map (fault.Label place) (label_fault word)

abbrev pub name_wrong : ℕ → List ℕ → Option WordFault
name_wrong place word = option_map (fault.Name place) (name_fault word)

-- the fourth word, which is to be modes that may be asked for
abbrev pub modes_wrong : Option Modes → Option WordFault
modes_wrong None = Some (fault.Modes 3)
modes_wrong (Some asked) = if is_request asked then None else Some (fault.NoRequest 3)

-- ---- the words behind the name

abbrev pub agent_wrong : List ℕ → List ℕ → Option WordFault
agent_wrong kind answer = option_or (number_wrong 2 65533 kind) (unless_read (allowed_of answer) (fault.Answer 2))

abbrev pub access_wrong : List ℕ → List ℕ → List ℕ → Option WordFault
access_wrong subject object modes =
    option_or (label_wrong 1 subject) (option_or (label_wrong 2 object) (modes_wrong (modes_of modes)))

abbrev pub names_wrong : List ℕ → List ℕ → List ℕ → List ℕ → Option WordFault
names_wrong client session user privilege =
    option_or (name_wrong 1 client)
    (option_or (name_wrong 2 session) (option_or (name_wrong 3 user) (name_wrong 4 privilege)))

-- The words are those of a line, so that their count tells which places they have.
abbrev pub value_wrong : List (List ℕ) → Option WordFault
value_wrong (name ∷ number ∷ []) = number_wrong 1 (if same_text name (codes "sample") then 1000 else 64) number
value_wrong (name ∷ kind ∷ answer ∷ []) = agent_wrong kind answer
value_wrong (name ∷ subject ∷ object ∷ modes ∷ []) = access_wrong subject object modes
value_wrong (name ∷ client ∷ session ∷ user ∷ privilege ∷ []) = names_wrong client session user privilege
value_wrong words = None

-- ---- all words

-- words of which none begins with `-`
abbrev pub line_wrong : List (List ℕ) → Option WordFault
line_wrong words = if is_line words then value_wrong words else Some fault.NoLine

-- A word that begins with `-` comes first, then words of no line, then the first word that is wrong in its place.
abbrev pub first_wrong : List (String Global) → Option WordFault
first_wrong words = option_or (option_map fault.Dash (position is_option words)) (line_wrong (map string_bytes words))

-- ---- reading

-- a refusal names this fault
abbrev pub NamesFault : {C : Type 0} → Result C CommandRefusal → Option WordFault → Type 0
NamesFault (Err (Unknown found)) wrong = wrong ≡ Some found
NamesFault (Err (Memory error)) wrong = Unit {0}
NamesFault (Ok command) wrong = Unit {0}
