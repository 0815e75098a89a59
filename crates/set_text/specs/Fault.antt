-- What is wrong with a set of files, and the ways to look for it.
use Rattle.std.specs.Prelude.{ℕ, if◌then◌else◌, List, [], ◌∷◌, Option, Some, None, Result, Ok, Err}
use Rattle.std.specs.declared.cmp.Ordering.{Ordering}
use Rattle.std.specs.declared.cmp.Ordering.TheVariants.{Less, Equal, Greater}
use Rattle.cynara_keys.specs.Text.{same_text, text_cmp}
use Rattle.desk_ports.specs.declared.file_sets.SetFile.{SetFile}

-- a file, and the number of its wrong line, from 1; 0 stands for the file as a whole
pub record Fault : Type 0 where
  pub file : List ℕ
  pub line : ℕ

abbrev pub whole : List ℕ → Fault
whole name = record { file = name; line = 0 }

-- ---- one test after the other: the first fault is named

abbrev pub unless : {X : Type 0} → Option Fault → Result X Fault → Result X Fault
unless (Some fault) later = Err fault
unless None later = later

abbrev pub with_value : {X Y : Type 0} → Result X Fault → (X → Result Y Fault) → Result Y Fault
with_value (Err fault) later = Err fault
with_value (Ok value) later = later value

-- what the lines of a file give, with the file's name at a wrong line
abbrev pub in_file : {X : Type 0} → List ℕ → Result X ℕ → Result X Fault
in_file name (Ok value) = Ok value
in_file name (Err line) = Err (record { file = name; line = line })

-- ---- whole files

-- the least name that stands in only one of two lists that rise
abbrev pub odd_by : Ordering → List ℕ → List ℕ → Option (List ℕ) → Option (List ℕ)
odd_by Less first second later = Some first
odd_by Greater first second later = Some second
odd_by Equal first second later = later

abbrev pub odd_name : List (List ℕ) → List (List ℕ) → Option (List ℕ)
odd_name [] [] = None
odd_name (first ∷ names) [] = Some first
odd_name [] (second ∷ others) = Some second
odd_name (first ∷ names) (second ∷ others) = odd_by (text_cmp first second) first second (odd_name names others)

-- the bytes of the file of a name, none where it is absent
abbrev pub bytes_in : List SetFile → List ℕ → List ℕ
bytes_in [] name = []
bytes_in (file ∷ set) name = if same_text file.name name then file.bytes else bytes_in set name

-- the file, where it is not this text
abbrev pub unlike : List SetFile → List ℕ → List ℕ → Option Fault
unlike set name text = if same_text (bytes_in set name) text then None else Some (whole name)
