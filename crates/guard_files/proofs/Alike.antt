-- Maps that agree where a recovery reads recover alike.
use Rattle.std.proofs.Common.{◌≡◌, ℕ, Bool, true, false, List, [], ◌∷◌, map, Option, Some, None, is_some, cond, refl, sym, ◌∙◌, ap}
use Rattle.desk_ports.specs.FileMap.{FileMap}
use Rattle.guard_files.specs.OwnName.{guard_name, list_name, primary_name, backup_name}
use Rattle.guard_files.specs.ListFile.{listed}
use Rattle.guard_files.specs.Recovery.{Recovered, with_file, files_at, set_of, set_named, set_listed, backup_set, primary_set, recover, names_or_none, named_by, names_at, protected, AgreeAt, RecoversAlike}

files_alike : (place : List ℕ → List ℕ) (files others : FileMap) (names : List (List ℕ))
    → AgreeAt (map place names) files others
    → files_at place others names ≡ files_at place files names
files_alike place files others [] agree = refl
files_alike place files others (name ∷ names) agree =
    ap (λ found. with_file name found (files_at place others names)) (sym agree.0)
    ∙ ap (with_file name (files (place name))) (files_alike place files others names agree.1)

named_alike : (place : List ℕ → List ℕ) (files others : FileMap) (names : Option (List (List ℕ)))
    → AgreeAt (map place (names_or_none names)) files others
    → set_named place others names ≡ set_named place files names
named_alike place files others None agree = refl
named_alike place files others (Some names) agree = ap set_of (files_alike place files others names agree)

listed_alike : (place : List ℕ → List ℕ) (absent : Recovered) (files others : FileMap) (list : Option (List ℕ))
    → AgreeAt (map place (named_by list)) files others
    → set_listed place absent others list ≡ set_listed place absent files list
listed_alike place absent files others None agree = refl
listed_alike place absent files others (Some bytes) agree = named_alike place files others (listed bytes) agree

pub backups_alike : (files others : FileMap) → AgreeAt (names_at backup_name files) files others
    → backup_set others ≡ backup_set files
unfolding backup_set names_at
backups_alike files others agree =
    ap (set_listed backup_name _ others) (sym agree.0) ∙ listed_alike backup_name _ files others (files (backup_name list_name)) agree.1

pub primaries_alike : (files others : FileMap) → AgreeAt (names_at primary_name files) files others
    → primary_set others ≡ primary_set files
unfolding primary_set names_at
primaries_alike files others agree =
    ap (set_listed primary_name _ others) (sym agree.0) ∙ listed_alike primary_name _ files others (files list_name) agree.1

either_alike : (files others : FileMap) (backups primaries : List (List ℕ)) (guarded : Bool) (a b c d : Recovered)
    → (AgreeAt backups files others → a ≡ b) → (AgreeAt primaries files others → c ≡ d)
    → AgreeAt (cond guarded backups primaries) files others → cond guarded a c ≡ cond guarded b d
either_alike files others backups primaries true a b c d first second agree = first agree
either_alike files others backups primaries false a b c d first second agree = second agree

pub recovers_alike : RecoversAlike
unfolding recover protected
recovers_alike files others agree =
    ap (λ found. cond (is_some found) (backup_set others) (primary_set others)) (sym agree.0)
    ∙ either_alike files others (names_at backup_name files) (names_at primary_name files) (is_some (files guard_name))
    (backup_set others) (backup_set files) (primary_set others) (primary_set files)
    (backups_alike files others) (primaries_alike files others) agree.1
