-- Fronts of texts.
use Rattle.std.specs.Prelude.{ℕ, Bool, ◌&&◌, ◌||◌, nat_le, ◌==◌, if◌then◌else◌, List, [], ◌∷◌, length, take, drop}
use Rattle.std.specs.Prelude.{Option, Some, None}
use Rattle.std.specs.List.{list_all, list_any}
use Rattle.cynara_keys.specs.Text.{same_text}

-- whether a text begins with a front
abbrev pub begins : List ℕ → List ℕ → Bool
begins front text = same_text front (take (length front) text)

-- whether one of the texts begins with a front
abbrev pub begins_one : List (List ℕ) → List ℕ → Bool
begins_one texts front = list_any (begins front) texts

-- a text behind a fixed one that passes a test
abbrev pub is_behind : List ℕ → (List ℕ → Bool) → List ℕ → Bool
is_behind fixed test text = begins fixed text && test (drop (length fixed) text)

-- a front of such a text
abbrev pub begins_behind : List ℕ → (List ℕ → Bool) → List ℕ → Bool
begins_behind fixed test front = begins front fixed || is_behind fixed test front

-- at most so many bytes, each of which passes a test
abbrev pub is_run : ℕ → (ℕ → Bool) → List ℕ → Bool
is_run most test text = nat_le (length text) most && list_all test text

-- a byte in front of a text that is cut
abbrev pub onto_cut : ℕ → Option (List ℕ × List ℕ) → Option (List ℕ × List ℕ)
onto_cut byte None = None
onto_cut byte (Some cut) = Some (byte ∷ cut.0, cut.1)

-- a text cut at the first byte of a value: what stands in front of that byte, and what stands behind it
abbrev pub cut_at : ℕ → List ℕ → Option (List ℕ × List ℕ)
cut_at mark [] = None
cut_at mark (byte ∷ bytes) = if byte == mark then Some ([], bytes) else onto_cut byte (cut_at mark bytes)

-- a test of a text without such a byte, and a test of the two sides of a text with one
abbrev pub by_cut : (List ℕ → Bool) → (List ℕ → List ℕ → Bool) → List ℕ → Option (List ℕ × List ℕ) → Bool
by_cut whole parted text None = whole text
by_cut whole parted text (Some cut) = parted cut.0 cut.1
