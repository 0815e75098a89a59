-- Sets of access modes, from the Linux kernel's Documentation/admin-guide/LSM/Smack; the letter `l` is this project's
-- profile.
use Rattle.std.specs.Prelude.{ℕ, Bool, true, false, not, ◌&&◌, ◌||◌, ◌==◌, nat_le}
use Rattle.std.specs.Prelude.{List, [], ◌∷◌, ◌++◌, length, Option, Some, None, if◌then◌else◌}
use Rattle.std.specs.List.{list_any, list_all}
use Rattle.std.specs.Char.{to_ascii_lowercase}
use Rattle.smack_rules.specs.declared.modes.Modes.{Modes}
use Rattle.smack_rules.specs.Limits.{most_mode_word_bytes}

-- the set of the letters that pass a test
abbrev pub letters_that : (ℕ → Bool) → Modes
letters_that test =
    record {
      read = test 114;
      write = test 119;
      execute = test 120;
      append = test 97;
      transmute = test 116;
      lock = test 108;
      bring_up = test 98;
    }

-- a set made of two sets, letter by letter
abbrev pub by_letter : (Bool → Bool → Bool) → Modes → Modes → Modes
by_letter choose a b =
    record {
      read = choose a.read b.read;
      write = choose a.write b.write;
      execute = choose a.execute b.execute;
      append = choose a.append b.append;
      transmute = choose a.transmute b.transmute;
      lock = choose a.lock b.lock;
      bring_up = choose a.bring_up b.bring_up;
    }

-- the set without a letter
abbrev pub no_access : Modes
no_access = letters_that (λ letter. false)

-- the set of all letters
abbrev pub all_modes : Modes
all_modes = letters_that (λ letter. true)

-- the letters of either set
abbrev pub union : Modes → Modes → Modes
union a b = by_letter (λ in_a in_b. in_a || in_b) a b

-- the letters of the first set that aren't in the second
abbrev pub without : Modes → Modes → Modes
without a b = by_letter (λ in_a in_b. in_a && not in_b) a b

-- whether the set has no letter
abbrev pub is_empty : Modes → Bool
is_empty m = not (m.read || m.write || m.execute || m.append || m.transmute || m.lock || m.bring_up)

-- whether each letter of the first set is in the second
abbrev pub is_within : Modes → Modes → Bool
is_within a b = is_empty (without a b)

-- whether the set has the letter, which is a small one
abbrev pub has : Modes → ℕ → Bool
has m letter =
    (m.read && letter == 114) || (m.write && letter == 119) || (m.execute && letter == 120)
    || (m.append && letter == 97)
    || (m.transmute && letter == 116) || (m.lock && letter == 108) || (m.bring_up && letter == 98)

-- what may be asked: a set with a letter, and without `b`, which only marks rules that are being tried out
abbrev pub is_request : Modes → Bool
is_request m = not (is_empty m) && not m.bring_up

-- whether the letter stands in a word, in either case
abbrev pub stands_in : List ℕ → ℕ → Bool
stands_in word letter = list_any (λ byte. to_ascii_lowercase byte == letter) word

-- `-` and the letters `r w x a t l b`
abbrev pub mode_bytes : List ℕ
mode_bytes = 45 ∷ 114 ∷ 119 ∷ 120 ∷ 97 ∷ 116 ∷ 108 ∷ 98 ∷ []

-- one of the letters in either case, or `-`
abbrev pub is_mode_byte : ℕ → Bool
is_mode_byte byte = list_any (λ known. to_ascii_lowercase byte == known) mode_bytes

-- letters or `-`, at least one and within the limit
abbrev pub is_mode_word : List ℕ → Bool
is_mode_word word = nat_le 1 (length word) && nat_le (length word) most_mode_word_bytes && list_all is_mode_byte word

-- the set that a mode word names: the letters that stand in it
abbrev pub modes_of : List ℕ → Option Modes
modes_of word = if is_mode_word word then Some (letters_that (stands_in word)) else None

-- a letter where it is there
abbrev pub letter_if : Bool → ℕ → List ℕ
letter_if present letter = if present then letter ∷ [] else []

-- the one printed form: the letters in the order `rwxatlb`, and `-` for the set without one
abbrev pub spelling : Modes → List ℕ
spelling m =
    if is_empty m then 45 ∷ []
    else letter_if m.read 114 ++ letter_if m.write 119 ++ letter_if m.execute 120 ++ letter_if m.append 97
    ++ letter_if m.transmute 116 ++ letter_if m.lock 108 ++ letter_if m.bring_up 98
