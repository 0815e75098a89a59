-- The file `list` and its backup: the version of the store, and then the names of a set's files, one a line, in
-- strictly rising order. A list of version 2 begins with a line that says so, one of version 1 with the first name.
use Rattle.std.specs.Prelude.{◌≡◌, ℕ, Bool, true, false, ◌&&◌, ◌==◌, if◌then◌else◌, List, [], ◌∷◌, ◌++◌, length, drop, nat_eq, Option, Some, None}
use Rattle.std.specs.Option.{option_map}
use Rattle.std.specs.List.{list_all, starts_with}
use Rattle.std.specs.Str.{bytes_eq}
use Rattle.std.specs.Ordering.{nat_cmp, is_lt}
use Rattle.std.specs.Cmp.Lexicographic.{slice_cmp}
use lib.Chars.{codes}
use Rattle.desk_ports.specs.FileMap.{FileMap}
use Rattle.guard_files.specs.OwnName.{list_name, is_listable}

-- the names' lines: each name, and a newline behind it
abbrev pub list_text : List (List ℕ) → List ℕ
list_text [] = []
list_text (name ∷ names) = name ++ 10 ∷ list_text names

-- a byte in front of the first line
abbrev pub in_front : ℕ → List (List ℕ) → List (List ℕ)
in_front byte [] = (byte ∷ []) ∷ []
in_front byte (line ∷ lines) = (byte ∷ line) ∷ lines

-- the lines of a text, without their newlines
abbrev pub lines_of : List ℕ → List (List ℕ)
lines_of [] = []
lines_of (byte ∷ bytes) = if byte == 10 then [] ∷ lines_of bytes else in_front byte (lines_of bytes)

-- each name is below those after it, byte by byte, and a front of another comes first
abbrev pub rises : List (List ℕ) → Bool
rises [] = true
rises (name ∷ names) = list_all (λ later. is_lt (slice_cmp nat_cmp name later)) names && rises names

-- the names may stand in a list, in this order
abbrev pub are_listable : List (List ℕ) → Bool
are_listable names = list_all is_listable names && rises names

-- The names of these lines, or none where the bytes are no names of set files: where they are not the spelling of their
-- lines, or a line may not stand there, or the lines do not rise.
unfoldable pub names_in : List ℕ → Option (List (List ℕ))
names_in bytes =
    if bytes_eq (list_text (lines_of bytes)) bytes && are_listable (lines_of bytes) then Some (lines_of bytes)
    else None

-- ---- versions

pub data Version : Type 0 where
  One : Version
  Two : Version

-- what a list file says
pub record Listing : Type 0 where
  pub version : Version
  pub names : List (List ℕ)

-- the line that a list of version 2 begins with: no name of the store's own
abbrev pub version_text : List ℕ
version_text = codes "version 2" ++ 10 ∷ []

-- The one spelling of each. What is written is of version 2.
abbrev pub version_line : Version → List ℕ
version_line One = []
version_line Two = version_text

abbrev pub listing_text : Listing → List ℕ
listing_text said = version_line said.version ++ list_text said.names

abbrev pub saved_list : List (List ℕ) → List ℕ
saved_list names = listing_text (record { version = Two; names = names })

abbrev pub said : Version → Option (List (List ℕ)) → Option Listing
said version names = option_map (λ names. record { version = version; names = names }) names

-- what a list file says, or none where it is no list of set files: the names are those behind the version's line
unfoldable pub listing : List ℕ → Option Listing
listing bytes =
    if starts_with nat_eq bytes version_text then said Two (names_in (drop (length version_text) bytes))
    else said One (names_in bytes)

-- the names of a list file of either version
unfoldable pub listed : List ℕ → Option (List (List ℕ))
listed bytes = option_map (λ (read : Listing). read.names) (listing bytes)

-- the version that a file says, or none where there is no file or it is no list of set files
abbrev pub version_of : Option (List ℕ) → Option Version
version_of None = None
version_of (Some bytes) = option_map (λ (read : Listing). read.version) (listing bytes)

abbrev pub is_one : Option Version → Bool
is_one None = false
is_one (Some One) = true
is_one (Some Two) = false

-- whether the file is there and is a list of version 1
abbrev pub is_old_list : Option (List ℕ) → Bool
is_old_list list = is_one (version_of list)

-- where the file `list` is there it is of version 2
abbrev pub IsCurrent : FileMap → Type 0
IsCurrent files = (bytes : List ℕ) → files list_name ≡ Some bytes → version_of (Some bytes) ≡ Some Two

-- The spelling of a listing whose names may stand in a list reads back, and a list file is the one spelling of what it
-- says.
abbrev pub ReadsBack : Type 0
ReadsBack = (read : Listing) → are_listable read.names ≡ true → listing (listing_text read) ≡ Some read

abbrev pub IsOneSpelling : Type 0
IsOneSpelling =
    (bytes : List ℕ) (read : Listing) → listing bytes ≡ Some read
    → (listing_text read ≡ bytes) × (are_listable read.names ≡ true)
