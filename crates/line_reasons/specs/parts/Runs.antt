-- How far the forms of a line go along its bytes.
use Rattle.std.specs.Prelude.{ℕ, Bool, true, false, ◌||◌, ◌==◌, if◌then◌else◌, List, [], ◌∷◌, ◌++◌, Option, Some, None}
use Rattle.std.specs.Prelude.{option_and_then}
use Rattle.line_reasons.specs.declared.forms.Form.{Form}
use Rattle.line_reasons.specs.parts.Forms.{is_word, begins_word, may_lack, repeats, leaves_out}

-- The words of a line are parted by blanks, spaces and tabs in any number, or each by one space.
abbrev pub parts_words : Bool → ℕ → Bool
parts_words true byte = byte == 32 || byte == 9
parts_words false byte = byte == 32

-- a part between two blanks that is no word
abbrev pub is_gap : Bool → List ℕ → Bool
is_gap true [] = true
is_gap true (byte ∷ bytes) = false
is_gap false part = false

abbrev pub without_first : List Form → List Form
without_first [] = []
without_first (form ∷ forms) = forms

-- the forms of the words behind this word of the first form
abbrev pub behind_form : Form → List Form → List ℕ → List Form
behind_form form forms word =
    if repeats form then form ∷ forms else (if leaves_out form word then without_first forms else forms)

-- the forms of the words behind this part, if it has the first form
abbrev pub behind_word : List Form → List ℕ → Option (List Form)
behind_word [] word = None
behind_word (form ∷ forms) word = if is_word form word then Some (behind_form form forms word) else None

abbrev pub behind_part : Bool → List Form → List ℕ → Option (List Form)
behind_part blanks forms part = if is_gap blanks part then Some forms else behind_word forms part

-- no word of these forms must follow
abbrev pub may_end : List Form → Bool
may_end [] = true
may_end (form ∷ forms) = may_lack form

-- Where a front of a line is: the forms from the part under way on, and the bytes of that part.
pub record Stand : Type 0 where
  pub forms : List Form
  pub part : List ℕ

abbrev pub stand : List Form → List ℕ → Stand
stand forms part = record { forms = forms; part = part }

-- one byte more
abbrev pub with_byte : Bool → Stand → ℕ → Option Stand
with_byte blanks at byte =
    if parts_words blanks byte then option_and_then (λ left. Some (stand left [])) (behind_part blanks at.forms at.part)
    else Some (stand at.forms (at.part ++ byte ∷ []))

-- where a front leads to
abbrev pub run : Bool → Stand → List ℕ → Option Stand
run blanks at [] = Some at
run blanks at (byte ∷ bytes) = option_and_then (λ next. run blanks next bytes) (with_byte blanks at byte)

abbrev pub may_end_with : Option (List Form) → Bool
may_end_with None = false
may_end_with (Some left) = may_end left

-- where a part that is done, and the bytes behind it, lead to
abbrev pub run_behind : Bool → Option (List Form) → List ℕ → Option Stand
run_behind blanks None bytes = None
run_behind blanks (Some left) bytes = run blanks (stand left []) bytes

-- the line may end here
abbrev pub ends_at : Bool → Stand → Bool
ends_at blanks at = may_end_with (behind_part blanks at.forms at.part)

-- the part under way can still become a word of its form
abbrev pub begins_at : List Form → List ℕ → Bool
begins_at [] part = false
begins_at (form ∷ forms) part = begins_word form part

-- a line can go on from here
abbrev pub goes_on_at : Bool → Stand → Bool
goes_on_at blanks at = is_gap blanks at.part || begins_at at.forms at.part

abbrev pub holds_at : (Stand → Bool) → Option Stand → Bool
holds_at test None = false
holds_at test (Some at) = test at

-- a line of these forms
abbrev pub is_line_of : Bool → List Form → List ℕ → Bool
is_line_of blanks forms line = holds_at (ends_at blanks) (run blanks (stand forms []) line)

-- a line of these forms can begin so
abbrev pub begins_line_of : Bool → List Form → List ℕ → Bool
begins_line_of blanks forms front = holds_at (goes_on_at blanks) (run blanks (stand forms []) front)
