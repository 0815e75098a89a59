-- What a binary search finds in a set's files, whose names rise.
use Rattle.std.proofs.Common.{◌≡◌, ℕ, ◌+◌, ◌<◌, Bool, true, false, ◌||◌, inl, inr, zero, suc, length, List, [], ◌∷◌, get_or, Result, Ok, Err, refl, sym, ap, ◌∙◌, arith}
use Rattle.std.specs.Result.{is_ok}
use Rattle.std.specs.List.Sorted.{IsSortedBy, IsSearchInRange, IsBinarySearchResult}
use Rattle.std.specs.declared.cmp.Ordering.TheVariants.{Less, Equal}
use Rattle.std.specs.Ordering.{nat_cmp, is_eq, is_lt, ordering_reverse}
use Rattle.std.specs.Cmp.Lexicographic.{slice_cmp, texts_ties}
use Rattle.std.specs.Str.{bytes_eq}
use Rattle.std.proofs.lemmas.Bool.{cases_lt}
use Rattle.std.proofs.lemmas.Cmp.{nat_list_cmp_total}
use Rattle.std.proofs.lemmas.List.{get_or-map, length-map}
use Rattle.std.proofs.lemmas.List.Sorted.{searchable_from_sorted}
use Rattle.std.proofs.lemmas.Map.Keys.{Less-from_sorted}
use Rattle.desk_ports.specs.declared.file_sets.SetFile.{SetFile}
use Rattle.desk_ports.specs.FileMap.{names_of, NamesRise}
use Rattle.guard_files.specs.Holding.{is_among}

-- each name comes before the one behind it
name_before : (files : List SetFile) (k : ℕ) (d : SetFile) → NamesRise (names_of files) → k + 1 < length files
    → slice_cmp nat_cmp (get_or files k d).name (get_or files (k + 1) d).name ≡ Less
name_before files k d rising lt =
    let names = names_of files in
    let size = length-map files (λ (file : SetFile). file.name) in
    let first = get_or-map (λ (file : SetFile). file.name) files k d d.name (omega (arith, lt)) in
    let second = get_or-map (λ (file : SetFile). file.name) files (k + 1) d d.name lt in
    sym (ap (λ name. slice_cmp nat_cmp name (get_or names (k + 1) d.name)) first
    ∙ ap (λ name. slice_cmp nat_cmp (get_or files k d).name name) second)
    ∙ Less-from_sorted (slice_cmp nat_cmp) names k (k + 1) d.name rising (omega arith) (omega (arith, size, lt))

-- what a binary search asks of the files
IsSortedBy-names : (files : List SetFile) → NamesRise (names_of files)
    → IsSortedBy (λ (one other : SetFile). is_lt (slice_cmp nat_cmp one.name other.name)) files
IsSortedBy-names files rising k d ge lt =
    ap is_lt (nat_list_cmp_total.antisymm (get_or files (k + 1) d).name (get_or files k d).name
    ∙ ap ordering_reverse (name_before files k d rising lt))

-- the file at a place has the name
among_at : (name : List ℕ) (files : List SetFile) (place : ℕ) (d : SetFile) → place < length files
    → slice_cmp nat_cmp (get_or files place d).name name ≡ Equal → is_among (names_of files) name ≡ true
among_at name [] place d lt equal = absurd (omega arith)
among_at name (file ∷ files) zero d lt equal =
    ap (λ found. found || is_among (names_of files) name) (texts_ties file.name name ∙ ap is_eq equal)
among_at name (file ∷ files) (suc place) d lt equal = or_later (bytes_eq file.name name) (among_at name files place d (omega arith) equal)
  where
    or_later : {later : Bool} (found : Bool) → later ≡ true → (found || later) ≡ true
    or_later true is = refl
    or_later false is = is

-- no file has the name
among_none : (name : List ℕ) (files : List SetFile)
    → ((k : ℕ) (d : SetFile) → k < length files → bytes_eq (get_or files k d).name name ≡ false)
    → is_among (names_of files) name ≡ false
among_none name [] none = refl
among_none name (file ∷ files) none =
    ap (λ found. found || is_among (names_of files) name) (none 0 file (omega arith))
    ∙ among_none name files (λ k d lt. none (suc k) d (omega arith))

-- what a binary search finds
pub searched : (name : List ℕ) (files : List SetFile) (found : Result ℕ ℕ) → NamesRise (names_of files)
    → IsSearchInRange found (length files)
    → IsBinarySearchResult (λ (file : SetFile). slice_cmp nat_cmp file.name name) files found
    → is_ok found ≡ is_among (names_of files) name
searched name [] (Ok place) rising lt equal = absurd (omega arith)
searched name (file ∷ files) (Ok place) rising lt equal = sym (among_at name (file ∷ files) place file lt (equal file))
searched name files (Err place) rising le parts =
    let parted = parts (searchable_from_sorted nat_list_cmp_total (λ (file : SetFile). file.name) files name (IsSortedBy-names files rising)) in
    sym (among_none name files
    (λ k d lt. elim (cases_lt k place) [
      | inl before ↦ texts_ties (get_or files k d).name name ∙ ap is_eq (parted.0 k d (omega arith) before)
      | inr from ↦ texts_ties (get_or files k d).name name ∙ ap is_eq (parted.1 k d (omega arith) lt)
    ]))
