-- Which names stand among others, and what that tells of rows of changes.
use Rattle.std.proofs.Common.{◌≡◌, ◌≢◌, ℕ, Bool, true, false, ◌||◌, List, [], ◌∷◌, ◌++◌, map, filter, Option, Some, None, IsSome, cond, inl, inr, refl, sym, ◌∙◌, ap, subst}
use Rattle.std.proofs.lemmas.Bool.{both_ways, cases_Bool, or_parts, or_cases, false≢true}
use Rattle.std.specs.List.{AllByRecursion}
use Rattle.std.specs.Str.{bytes_eq}
use Rattle.desk_ports.specs.declared.file_sets.SetFile.{SetFile}
use Rattle.desk_ports.specs.FileMap.{FileMap, with_content, names_of}
use Rattle.guard_files.specs.OwnName.{list_name, primary_name, is_backup}
use Rattle.guard_files.specs.Holding.{is_among}
use Rattle.guard_files.specs.parts.Changes.{Change, changed, writes, removals, list_write, set_writes, Holds}
use Rattle.guard_files.proofs.Names.{same-same, same-true}
use Rattle.guard_files.proofs.Stages.{IsPlain, Apart}

apart_name : (name other : List ℕ) → bytes_eq other name ≡ false → other ≢ name
apart_name name other differs same = both_ways (bytes_eq other name) differs (same-same other name same)

-- removed where it was not, a name stays without a file
pub removals-none : (names : List (List ℕ)) (files : FileMap) (name : List ℕ) → files name ≡ None
    → changed (removals names) files name ≡ None
removals-none [] files name none = none
removals-none (first ∷ names) files name none =
    removals-none names (with_content files first None) name (at_first (bytes_eq first name))
  where
    at_first : (same : Bool) → cond same None (files name) ≡ None
    at_first true = refl
    at_first false = none

-- a name that is among those removed has no file
pub removals-among : (names : List (List ℕ)) (files : FileMap) (name : List ℕ) → is_among names name ≡ true
    → changed (removals names) files name ≡ None
removals-among [] files name is = absurd (false≢true is)
removals-among (first ∷ names) files name is = elim (or_cases (bytes_eq first name) (is_among names name) is) [
  | inl same ↦ removals-none names (with_content files first None) name
      (ap (λ test. cond test None (files name)) same)
  | inr later ↦ removals-among names (with_content files first None) name later
]

-- a name that is not among those changed is apart from the changes
pub removals-apart : (names : List (List ℕ)) (name : List ℕ) → is_among names name ≡ false → Apart (removals names) name
removals-apart [] name none = tt
removals-apart (first ∷ names) name none =
    let both = or_parts (bytes_eq first name) (is_among names name) none in
    (apart_name name first both.0, removals-apart names name both.1)

pub writes-apart : (place : List ℕ → List ℕ) (set : List SetFile) (name : List ℕ)
    → is_among (map place (names_of set)) name ≡ false
    → Apart (writes place set) name
writes-apart place [] name none = tt
writes-apart place (file ∷ rest) name none =
    let both = or_parts (bytes_eq (place file.name) name) (is_among (map place (names_of rest)) name) none in
    (apart_name name (place file.name) both.0, writes-apart place rest name both.1)

Apart-append : (first second : List Change) (name : List ℕ) → Apart first name → Apart second name
    → Apart (first ++ second) name
Apart-append [] second name apart more = more
Apart-append (change ∷ first) second name apart more = (apart.0, Apart-append first second name apart.1 more)

pub set_writes-apart : (place : List ℕ → List ℕ) (set : List SetFile) (name : List ℕ)
    → is_among (place list_name ∷ map place (names_of set)) name ≡ false → Apart (set_writes place set) name
set_writes-apart place set name none =
    let both = or_parts (bytes_eq (place list_name) name) (is_among (map place (names_of set)) name) none in
    Apart-append (writes place set) (list_write place set ∷ []) name (writes-apart place set name both.1)
    (apart_name name (place list_name) both.0, tt)

-- no backup's name is among plain names
pub plain_not_among : (names : List (List ℕ)) (name : List ℕ) → AllByRecursion IsPlain names → is_backup name ≡ true
    → is_among names name ≡ false
plain_not_among [] name plain backup = refl
plain_not_among (first ∷ names) name plain backup = elim (cases_Bool (bytes_eq first name)) [
  | inl same ↦ absurd (both_ways (is_backup first) plain.0.plain (ap is_backup (same-true first name same) ∙ backup))
  | inr differs ↦ ap (λ test. test || is_among names name) differs ∙ plain_not_among names name plain.1 backup
]

-- a name among others that passes the test is among those that pass it
passes : (goes : Bool) (first name : List ℕ) (rest : List (List ℕ)) → is_among rest name ≡ true
    → is_among (cond goes (first ∷ rest) rest) name ≡ true
passes true first name rest is = at_test (bytes_eq first name)
  where
    at_test : (test : Bool) → (test || is_among rest name) ≡ true
    at_test true = refl
    at_test false = is
passes false first name rest is = is

pub among-filter : (test : List ℕ → Bool) (names : List (List ℕ)) (name : List ℕ) → test name ≡ true
    → is_among names name ≡ true
    → is_among (filter test names) name ≡ true
among-filter test [] name pass is = absurd (false≢true is)
among-filter test (first ∷ names) name pass is = elim (or_cases (bytes_eq first name) (is_among names name) is) [
  | inl same ↦
      ap (λ goes. is_among (cond goes (first ∷ filter test names) (filter test names)) name) (ap test (same-true first name same) ∙ pass)
      ∙ ap (λ found. found || is_among (filter test names) name) same
  | inr later ↦ passes (test first) first name (filter test names) (among-filter test names name pass later)
]

-- the files of a set that is held are there
is_there : (content : Option (List ℕ)) (bytes : List ℕ) → content ≡ Some bytes → IsSome content
is_there content bytes is = subst IsSome (sym is) refl

all_there : (set : List SetFile) (files : FileMap)
    → AllByRecursion (λ file. files (primary_name file.name) ≡ Some file.bytes) set
    → AllByRecursion (λ name. IsSome (files name)) (names_of set)
all_there [] files holds = tt
all_there (file ∷ rest) files holds = (is_there (files file.name) file.bytes holds.0, all_there rest files holds.1)

pub holds_there : (set : List SetFile) (files : FileMap) → Holds primary_name set files
    → AllByRecursion (λ name. IsSome (files name)) (list_name ∷ names_of set)
holds_there set files holds = (is_there (files list_name) _ holds.list, all_there set files holds.each)
