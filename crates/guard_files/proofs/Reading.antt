-- What a set that was read tells of its names.
use Rattle.std.proofs.Common.{◌≡◌, ℕ, Bool, true, false, List, [], ◌∷◌, Option, Some, None, Result, Ok, Err, ◌++◌, refl, sym, ◌∙◌, ap}
use Rattle.desk_ports.specs.declared.file_sets.SetFile.{SetFile}
use Rattle.desk_ports.specs.FileMap.{FileMap, names_of}
use Rattle.guard_files.specs.OwnName.{list_name, primary_name, backup_name}
use Rattle.guard_files.specs.ListFile.{are_listable, listed}
use Rattle.guard_files.specs.Recovery.{Recovered, with_file, files_at, set_of, set_named, set_listed, backup_set, primary_set}
use Rattle.guard_files.specs.Mounted.{IfDamaged, placed, set_read}
use Rattle.guard_files.specs.declared.refusals.VaultRefusal.{VaultRefusal}
use Rattle.guard_files.specs.declared.refusals.VaultRefusal.TheVariants.{StoreFault, Damaged, Memory}
use Rattle.guard_files.proofs.Versions.{listed-listable}

-- the files read have the names asked for
one_more : (name : List ℕ) (names : List (List ℕ)) (found : Option (List ℕ)) (others : Result (List SetFile) (List ℕ)) (set : List SetFile)
    → ((files : List SetFile) → others ≡ Ok files → names_of files ≡ names) → with_file name found others ≡ Ok set
    → names_of set ≡ name ∷ names
one_more name names None others set rest is = absurd (cc)
one_more name names (Some bytes) (Err absent) set rest is = absurd (cc)
one_more name names (Some bytes) (Ok files) set rest is =
    let whole : record { name = name; bytes = bytes } ∷ files ≡ set = cc in
    ap names_of (sym whole) ∙ ap (λ names. name ∷ names) (rest files refl)

pub names_of-files_at : (place : List ℕ → List ℕ) (files : FileMap) (names : List (List ℕ)) (set : List SetFile)
    → files_at place files names ≡ Ok set → names_of set ≡ names
names_of-files_at place files [] [] is = refl
names_of-files_at place files [] (file ∷ set) is = absurd (cc)
names_of-files_at place files (name ∷ names) set is =
    one_more name names (files (place name)) (files_at place files names) set (names_of-files_at place files names) is

pub set_of-Ok : (read : Result (List SetFile) (List ℕ)) (set : List SetFile) → set_of read ≡ Ok (Some set)
    → read ≡ Ok set
set_of-Ok (Ok files) set is = cc
set_of-Ok (Err absent) set is = absurd (cc)

-- a set that was read has names that may stand in a list
named_may : (place : List ℕ → List ℕ) (files : FileMap) (names : Option (List (List ℕ))) (set : List SetFile)
    → ((found : List (List ℕ)) → names ≡ Some found → are_listable found ≡ true)
    → set_named place files names ≡ Ok (Some set) → are_listable (names_of set) ≡ true
named_may place files None set may is = absurd (cc)
named_may place files (Some names) set may is =
    ap are_listable (names_of-files_at place files names set (set_of-Ok (files_at place files names) set is)) ∙ may names refl

listed_may : (place : List ℕ → List ℕ) (absent : Recovered) (files : FileMap) (list : Option (List ℕ)) (set : List SetFile)
    → (absent ≡ Ok (Some set) → ⊥) → set_listed place absent files list ≡ Ok (Some set)
    → are_listable (names_of set) ≡ true
listed_may place absent files None set none is = absurd (none is)
listed_may place absent files (Some bytes) set none is =
    named_may place files (listed bytes) set (λ names found. listed-listable bytes names found) is

pub primaries_may : (files : FileMap) (set : List SetFile) → primary_set files ≡ Ok (Some set)
    → are_listable (names_of set) ≡ true
unfolding primary_set
primaries_may files set is = listed_may primary_name (Ok None) files (files list_name) set (λ same. cc) is

pub backups_may : (files : FileMap) (set : List SetFile) → backup_set files ≡ Ok (Some set)
    → are_listable (names_of set) ≡ true
unfolding backup_set
backups_may files set is = listed_may backup_name (Err (backup_name list_name)) files (files (backup_name list_name)) set (λ same. cc) is

-- one more file was read, or was absent
module _ (place : List ℕ → List ℕ) (files : FileMap) where
  after_first : (name : List ℕ) (found : Option (List ℕ)) (others more : Result (List SetFile) (List ℕ)) (set : List SetFile) (file : SetFile)
      → ((rest : List SetFile) → others ≡ Ok rest → more ≡ Ok (rest ++ file ∷ []))
      → with_file name found others ≡ Ok set
      → with_file name found more ≡ Ok (set ++ file ∷ [])
  after_first name None others more set file goes is = absurd (cc)
  after_first name (Some bytes) (Err absent) more set file goes is = absurd (cc)
  after_first name (Some bytes) (Ok rest) more set file goes is =
      let whole : record { name = name; bytes = bytes } ∷ rest ≡ set = cc in
      ap (with_file name (Some bytes)) (goes rest refl) ∙ ap (λ set. Ok (set ++ file ∷ [])) whole

  pub files_at-push : (names : List (List ℕ)) (set : List SetFile) (name bytes : List ℕ)
      → files_at place files names ≡ Ok set
      → files (place name) ≡ Some bytes → files_at place files (names ++ name ∷ []) ≡ Ok (set ++ record { name = name; bytes = bytes } ∷ [])
  files_at-push [] set name bytes is found =
      let none : [] ≡ set = cc in
      ap (λ content. with_file name content (Ok [])) found ∙ ap (λ (set : List SetFile). Ok (set ++ record { name = name; bytes = bytes } ∷ [])) none
  files_at-push (first ∷ names) set name bytes is found =
      after_first first (files (place first)) (files_at place files names) (files_at place files (names ++ name ∷ [])) set
      (record { name = name; bytes = bytes }) (λ rest read. files_at-push names rest name bytes read found) is

  absent_first : (first name : List ℕ) (found : Option (List ℕ)) (others more : Result (List SetFile) (List ℕ)) (set : List SetFile)
      → ((rest : List SetFile) → others ≡ Ok rest → more ≡ Err name) → with_file first found others ≡ Ok set
      → with_file first found more ≡ Err name
  absent_first first name None others more set goes is = absurd (cc)
  absent_first first name (Some bytes) (Err absent) more set goes is = absurd (cc)
  absent_first first name (Some bytes) (Ok rest) more set goes is = ap (with_file first (Some bytes)) (goes rest refl)

  pub files_at-absent : (names : List (List ℕ)) (set : List SetFile) (name : List ℕ) (more : List (List ℕ))
      → files_at place files names ≡ Ok set
      → files (place name) ≡ None → files_at place files (names ++ name ∷ more) ≡ Err name
  files_at-absent [] set name more is none = ap (λ content. with_file name content (files_at place files more)) none
  files_at-absent (first ∷ names) set name more is none =
      absent_first first name (files (place first)) (files_at place files names) (files_at place files (names ++ name ∷ more)) set
      (λ rest read. files_at-absent names rest name more read none) is

-- what is read where the backups count, or the primaries
abbrev pub unlisted : Bool → Recovered
unlisted true = Err (backup_name list_name)
unlisted false = Ok None

set_read-is : (guarded : Bool) (files : FileMap)
    → set_read guarded files ≡ set_listed (placed guarded) (unlisted guarded) files (files (placed guarded list_name))
unfolding backup_set primary_set
set_read-is true files = refl
set_read-is false files = refl

module _ (guarded : Bool) (files : FileMap) where
  pub set_read-unlisted : files (placed guarded list_name) ≡ None → set_read guarded files ≡ unlisted guarded
  set_read-unlisted none = set_read-is guarded files ∙ ap (set_listed (placed guarded) (unlisted guarded) files) none

  listed_with : (bytes : List ℕ) → files (placed guarded list_name) ≡ Some bytes
      → set_read guarded files ≡ set_named (placed guarded) files (listed bytes)
  listed_with bytes some = set_read-is guarded files ∙ ap (set_listed (placed guarded) (unlisted guarded) files) some

  pub set_read-bad_list : (bytes : List ℕ) → files (placed guarded list_name) ≡ Some bytes → listed bytes ≡ None
      → set_read guarded files ≡ Err (placed guarded list_name)
  set_read-bad_list bytes some none = listed_with bytes some ∙ ap (set_named (placed guarded) files) none

  pub set_read-whole : (bytes : List ℕ) (names : List (List ℕ)) (set : List SetFile)
      → files (placed guarded list_name) ≡ Some bytes
      → listed bytes ≡ Some names → files_at (placed guarded) files names ≡ Ok set
      → set_read guarded files ≡ Ok (Some set)
  set_read-whole bytes names set some are read =
      listed_with bytes some ∙ ap (set_named (placed guarded) files) are ∙ ap set_of read

  pub set_read-absent : (bytes : List ℕ) (names : List (List ℕ)) (name : List ℕ)
      → files (placed guarded list_name) ≡ Some bytes
      → listed bytes ≡ Some names → files_at (placed guarded) files names ≡ Err name → set_read guarded files ≡ Err name
  set_read-absent bytes names name some are read =
      listed_with bytes some ∙ ap (set_named (placed guarded) files) are ∙ ap set_of read

-- from one fact of the damaged file to another
pub IfDamaged-more : (refusal : VaultRefusal) (P Q : List ℕ → Type 0) → ((file : List ℕ) → P file → Q file)
    → IfDamaged refusal P → IfDamaged refusal Q
IfDamaged-more StoreFault P Q more is = tt
IfDamaged-more (Damaged file) P Q more is = more file is
IfDamaged-more (Memory error) P Q more is = tt
