-- Texts as lists of lines.
use Rattle.std.specs.Prelude.{◌≡◌, ◌≢◌, ◌-◌, nat_lt, ℕ, Bool, false, List, [], ◌∷◌}
use Rattle.std.specs.Prelude.{◌++◌, length, map, if◌then◌else◌, ◌==◌, ◌⊎◌, Option, Some, None}
use Rattle.std.specs.List.{AllByRecursion, onto_first}
use Rattle.text_lines.specs.declared.TheConstants.{NEWLINE}

-- the byte 0x0A
abbrev pub is_newline : ℕ → Bool
is_newline byte = byte == 10

abbrev pub HasNoNewline : List ℕ → Type 0
HasNoNewline bytes = AllByRecursion (λ byte. is_newline byte ≡ false) bytes

-- The text cut behind each newline. Each piece is a line with its newline, which the last may lack.
abbrev pub pieces_of : List ℕ → List (List ℕ)
pieces_of [] = []
pieces_of (byte ∷ bytes) = if is_newline byte then (byte ∷ []) ∷ pieces_of bytes else onto_first byte (pieces_of bytes)

-- the line in a piece, without its newline
abbrev pub line_of : List ℕ → List ℕ
line_of [] = []
line_of (byte ∷ bytes) = if is_newline byte then [] else byte ∷ line_of bytes

-- The lines of a text. A text that ends with a newline has no line behind it.
abbrev pub lines_of : List ℕ → List (List ℕ)
lines_of text = map line_of (pieces_of text)

-- The text is this line, and behind it a newline and these bytes. The last line may lack its newline, with no bytes
-- behind.
abbrev pub IsFirstLine : List ℕ → List ℕ → List ℕ → Type 0
IsFirstLine text line rest = HasNoNewline line × ((text ≡ line ++ NEWLINE ∷ rest) ⊎ ((text ≡ line) × (rest ≡ [])))

-- a piece of a text holds this line: with its newline, or the bytes of a last line without one
abbrev pub IsPieceOf : List ℕ → List ℕ → Type 0
IsPieceOf line piece = HasNoNewline line × ((piece ≡ line ++ NEWLINE ∷ []) ⊎ ((piece ≡ line) × (line ≢ [])))

-- no line is begun behind the last newline
abbrev pub AreWholeLines : List ℕ → Type 0
AreWholeLines bytes = (bytes ≡ []) ⊎ ((front : List ℕ) × (bytes ≡ front ++ NEWLINE ∷ []))

-- The lines of a text that may have so many bytes, given as its pieces. `None` stands for the line in which a byte past
-- that stands, and nothing comes behind it.
abbrev pub lines_within : ℕ → List (List ℕ) → List (Option (List ℕ))
lines_within room [] = []
lines_within room (piece ∷ pieces) =
    if nat_lt room (length piece) then None ∷ [] else Some (line_of piece) ∷ lines_within (room - length piece) pieces
