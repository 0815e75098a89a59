-- The words of a line, and what reading them gives.
use Rattle.std.specs.Prelude.{◌≡◌, ◌==◌, ℕ, Option, option_map, find, length, Bool, false}
use Rattle.std.specs.Prelude.{List, [], ◌∷◌, Result, Ok, Err, codes, alloc_error}
use Rattle.std.specs.Option.{option_map_or}
use Rattle.std.specs.Str.{bytes_eq}
use Rattle.clap.specs.declared.error.ErrorKind.{ErrorKind}
use Rattle.clap.specs.declared.error.ErrorKind.TheVariants.{OutOfMemory}
use Rattle.word_line.specs.declared.lines.Line.{Line}
use Rattle.word_line.specs.declared.lines.Line.TheVariants.{Local, SmackLoad, Admin, Serve, Watch}
use Rattle.word_line.specs.declared.lines.Line.TheVariants.{Sample, Agent, SmackAccess, Check, Simple}
use Rattle.word_line.specs.declared.lines.LineRefusal.{LineRefusal}
use Rattle.word_line.specs.declared.lines.LineRefusal.TheVariants.{NoLine, Memory}

-- the word begins with `-`
abbrev pub is_dashed : List ℕ → Bool
is_dashed [] = false
is_dashed (byte ∷ bytes) = byte == 45

-- the words that spell a line
abbrev pub words_of : Line → List (List ℕ)
words_of Local = codes "local" ∷ []
words_of SmackLoad = codes "smack-load" ∷ []
words_of Admin = codes "admin" ∷ []
words_of (Serve workers) = codes "serve" ∷ workers.now ∷ []
words_of (Watch workers) = codes "watch" ∷ workers.now ∷ []
words_of (Sample count) = codes "sample" ∷ count.now ∷ []
words_of (Agent kind answer) = codes "agent" ∷ kind.now ∷ answer.now ∷ []
words_of (SmackAccess subject object modes) = codes "smack-access" ∷ subject.now ∷ object.now ∷ modes.now ∷ []
words_of (Check client session user privilege) =
    codes "check" ∷ client.now ∷ session.now ∷ user.now ∷ privilege.now ∷ []
words_of (Simple client session user privilege) =
    codes "simple" ∷ client.now ∷ session.now ∷ user.now ∷ privilege.now ∷ []

-- each command's name, and how many words stand behind it
abbrev pub table : List (List ℕ × ℕ)
table =
    (codes "local", 0) ∷ (codes "smack-load", 0) ∷ (codes "smack-access", 3)
    ∷ (codes "serve", 1) ∷ (codes "watch", 1)
    ∷ (codes "check", 4) ∷ (codes "simple", 4)
    ∷ (codes "admin", 0) ∷ (codes "agent", 2) ∷ (codes "sample", 1) ∷ []

-- how many words stand behind this name, where it is a command's
abbrev pub places_of : List ℕ → Option ℕ
places_of name = option_map (λ row. row.1) (find (λ row. bytes_eq row.0 name) table)

-- the first word is a command's name, and so many words as that has places stand behind it
abbrev pub is_line : List (List ℕ) → Bool
is_line [] = false
is_line (name ∷ words) = option_map_or (λ places. places == length words) (places_of name) false

-- The line is the one that the words spell, and a refusal says that they spell none. Memory may run out at any words.
abbrev pub ReadsLine : List (List ℕ) → Result Line LineRefusal → Type 0
ReadsLine words (Ok line) = words ≡ words_of line
ReadsLine words (Err NoLine) = (is_line words ≡ false) × ((line : Line) → words ≡ words_of line → ⊥)
ReadsLine words (Err (Memory error)) = Unit {0}

-- what a kind of clap's errors is a refusal of
abbrev pub refusal_of : ErrorKind → LineRefusal
refusal_of OutOfMemory = Memory alloc_error
refusal_of kind = NoLine
