-- The words that the matches of clap tell.
use Rattle.std.specs.Prelude.{◌≡◌, false, List, [], ◌∷◌, Option}
use Rattle.std.specs.Prelude.{Some, None, if◌then◌else◌, option_map, option_and_then, codes}
use Rattle.std.specs.Str.{bytes_eq}
use Rattle.clap.specs.Words.{Kinds, Row, Text, first_of}
use Rattle.word_line.specs.Lines.{is_line}

-- one word behind the name
abbrev pub one : Text → Text → List Row → Option (List Text)
one name a rows = option_map (λ x. name ∷ x ∷ []) (first_of a rows)

-- two words
abbrev pub two : Text → Text → Text → List Row → Option (List Text)
two name a b rows =
    option_and_then (λ x. option_map (λ y. name ∷ x ∷ y ∷ []) (first_of b rows)) (first_of a rows)

-- three
abbrev pub three : Text → Text → Text → Text → List Row → Option (List Text)
three name a b c rows = option_and_then (λ x. option_and_then (λ y. option_map (λ z. name ∷ x ∷ y ∷ z ∷ [])
    (first_of c rows)) (first_of b rows)) (first_of a rows)

-- the four of a question
abbrev pub four : Text → List Row → Option (List Text)
four name rows = option_and_then (λ x. option_and_then (λ y. option_and_then
    (λ z. option_map (λ w. name ∷ x ∷ y ∷ z ∷ w ∷ [])
    (first_of (codes "PRIVILEGE") rows)) (first_of (codes "USER") rows)) (first_of (codes "SESSION") rows))
    (first_of (codes "CLIENT") rows)

-- the words that a subcommand's name and rows tell
abbrev pub spelled : Text → List Row → Option (List Text)
spelled name rows =
    if bytes_eq name (codes "local") then Some (codes "local" ∷ [])
    else (if bytes_eq name (codes "smack-load") then Some (codes "smack-load" ∷ [])
    else (if bytes_eq name (codes "admin") then Some (codes "admin" ∷ [])
    else (if bytes_eq name (codes "serve") then one (codes "serve") (codes "WORKERS") rows
    else (if bytes_eq name (codes "watch") then one (codes "watch") (codes "WORKERS") rows
    else (if bytes_eq name (codes "sample") then one (codes "sample") (codes "COUNT") rows
    else (if bytes_eq name (codes "agent") then two (codes "agent") (codes "KIND") (codes "ANSWER") rows
    else (if bytes_eq name (codes "smack-access")
    then three (codes "smack-access") (codes "SUBJECT") (codes "OBJECT") (codes "MODES") rows
    else (if bytes_eq name (codes "check") then four (codes "check") rows
    else (if bytes_eq name (codes "simple") then four (codes "simple") rows else None)))))))))

-- What clap says of the words: no kind of fault, and a subcommand that tells them; or a fault, where they spell
-- no line.
abbrev pub Tells : List Text → Kinds → Option (Text × List Row) → Type 0
Tells words [] (Some found) = spelled found.0 found.1 ≡ Some words
Tells words [] None = ⊥
Tells words (kind ∷ kinds) found = is_line words ≡ false
