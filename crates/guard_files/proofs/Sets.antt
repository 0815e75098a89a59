-- A set that is written where it is placed is read there.
use Rattle.std.proofs.Common.{◌≡◌, ◌≢◌, ℕ, true, List, [], ◌∷◌, ◌++◌, Option, Some, Ok, cond, refl, sym, ◌∙◌, ap, subst, ◌||◌}
use Rattle.std.proofs.lemmas.Bool.{and_parts, false≢true}
use Rattle.std.specs.List.{AllByRecursion, list_all}
use Rattle.std.specs.Ordering.{nat_cmp, is_lt, is_eq}
use Rattle.std.specs.declared.cmp.Ordering.{Ordering}
use Rattle.std.specs.declared.cmp.Ordering.TheVariants.{Less, Equal, Greater}
use Rattle.std.proofs.lemmas.Map.Text.{is_eq-slice_cmp}
use Rattle.std.specs.Cmp.Lexicographic.{slice_cmp}
use Rattle.desk_ports.specs.declared.file_sets.SetFile.{SetFile}
use Rattle.desk_ports.specs.FileMap.{FileMap, NameSet, with_name, with_content, names_of}
use Rattle.desk_ports.specs.Disk.{DiskState}
use Rattle.guard_files.specs.OwnName.{list_name, primary_name, backup_name, is_listable}
use Rattle.guard_files.specs.ListFile.{saved_list, rises, are_listable}
use Rattle.guard_files.specs.Recovery.{Recovered, with_file, files_at, set_of, set_named, set_listed, backup_set, primary_set}
use Rattle.guard_files.specs.parts.Changes.{Change, changed, touching, after, writes, list_write, set_writes, Holds}
use Rattle.guard_files.proofs.Names.{same-same, same-other, listable}
use Rattle.guard_files.proofs.Versions.{listed-text}

files_read : (place : List ℕ → List ℕ) (set : List SetFile) (files : FileMap)
    → AllByRecursion (λ file. files (place file.name) ≡ Some file.bytes) set
    → files_at place files (names_of set) ≡ Ok set
files_read place [] files all = refl
files_read place (file ∷ rest) files all =
    ap (λ found. with_file file.name found (files_at place files (names_of rest))) all.0
    ∙ ap (with_file file.name (Some file.bytes)) (files_read place rest files all.1)

pub set_read : (place : List ℕ → List ℕ) (absent : Recovered) (set : List SetFile) (files : FileMap)
    → are_listable (names_of set) ≡ true
    → Holds place set files → set_listed place absent files (files (place list_name)) ≡ Ok (Some set)
set_read place absent set files may holds =
    ap (set_listed place absent files) holds.list
    ∙ ap (set_named place files) (listed-text (names_of set) may)
    ∙ ap set_of (files_read place set files holds.each)

pub backups_read : (set : List SetFile) (files : FileMap) → are_listable (names_of set) ≡ true
    → Holds backup_name set files
    → backup_set files ≡ Ok (Some set)
unfolding backup_set
backups_read set files may holds = set_read backup_name _ set files may holds

pub primaries_read : (set : List SetFile) (files : FileMap) → are_listable (names_of set) ≡ true
    → Holds primary_name set files
    → primary_set files ≡ Ok (Some set)
unfolding primary_set
primaries_read set files may holds = set_read primary_name _ set files may holds

pub content-same : (files : FileMap) (name : List ℕ) (content : Option (List ℕ))
    → with_content files name content name ≡ content
content-same files name content = ap (λ test. cond test content (files name)) (same-same name name refl)

pub content-other : (files : FileMap) (name other : List ℕ) (content : Option (List ℕ)) → name ≢ other
    → with_content files name content other ≡ files other
content-other files name other content differ = ap (λ test. cond test content (files other)) (same-other name other differ)

-- the changes one after the other
pub changed-append : (first second : List Change) (files : FileMap)
    → changed (first ++ second) files ≡ changed second (changed first files)
changed-append [] second files = refl
changed-append (change ∷ first) second files = changed-append first second (with_content files change.0 change.1)

pub touching-append : (first second : List Change) (names : NameSet)
    → touching (first ++ second) names ≡ touching second (touching first names)
touching-append [] second names = refl
touching-append (change ∷ first) second names = touching-append first second (with_name names change.0)

pub after-append : (first second : List Change) (state : DiskState)
    → after (first ++ second) state ≡ after second (after first state)
after-append first second state =
    λ i. record { current = changed-append first second state.current i; durable = state.durable; touched = touching-append first second state.touched i }

-- a name that is not changed stays as it was
pub changed-other : (changes : List Change) (files : FileMap) (name : List ℕ)
    → AllByRecursion (λ change. change.0 ≢ name) changes → changed changes files name ≡ files name
changed-other [] files name apart = refl
changed-other (change ∷ changes) files name apart =
    changed-other changes (with_content files change.0 change.1) name apart.1
    ∙ content-other files change.0 name change.1 apart.0

pub touching-other : (changes : List Change) (names : NameSet) (name : List ℕ)
    → AllByRecursion (λ change. change.0 ≢ name) changes → touching changes names name ≡ names name
touching-other [] names name apart = refl
touching-other (change ∷ changes) names name apart =
    touching-other changes (with_name names change.0) name apart.1
    ∙ ap (λ test. test || names name) (same-other change.0 name apart.0)

below_not_same : (order : Ordering) → is_lt order ≡ true → is_eq order ≡ true → ⊥
below_not_same Less below same = false≢true same
below_not_same Equal below same = false≢true below
below_not_same Greater below same = false≢true below

pub below_apart : (name later : List ℕ) → is_lt (slice_cmp nat_cmp name later) ≡ true → later ≢ name
below_apart name later below same =
    below_not_same (slice_cmp nat_cmp name later) below (is_eq-slice_cmp name later ∙ same-same name later (sym same))

-- the names behind one that is below them all are other names
pub later_apart : (place : List ℕ → List ℕ) (injective : (a b : List ℕ) → place a ≡ place b
    → a ≡ b) (name : List ℕ) (set : List SetFile)
    → list_all (λ later. is_lt (slice_cmp nat_cmp name later)) (names_of set) ≡ true
    → AllByRecursion (λ file. place file.name ≢ place name) set
later_apart place injective name [] below = tt
later_apart place injective name (file ∷ rest) below =
    let both = and_parts _ _ below in
    (λ same. below_apart name file.name both.0 (injective file.name name same), later_apart place injective name rest both.1)

all_other : (place : List ℕ → List ℕ) (name : List ℕ) (set : List SetFile)
    → AllByRecursion (λ file. place file.name ≢ name) set
    → AllByRecursion (λ change. change.0 ≢ name) (writes place set)
all_other place name [] apart = tt
all_other place name (file ∷ rest) apart = (apart.0, all_other place name rest apart.1)

-- each file of a set is where it was written
pub written-each : (place : List ℕ → List ℕ) (injective : (a b : List ℕ) → place a ≡ place b
    → a ≡ b) (set : List SetFile) (files : FileMap)
    → rises (names_of set) ≡ true
    → AllByRecursion (λ file. changed (writes place set) files (place file.name) ≡ Some file.bytes) set
written-each place injective [] files rising = tt
written-each place injective (file ∷ rest) files rising =
    let both = and_parts _ _ rising in
    let next = with_content files (place file.name) (Some file.bytes) in (
      changed-other (writes place rest) next (place file.name)
          (all_other place (place file.name) rest (later_apart place injective file.name rest both.0))
          ∙ content-same files (place file.name) (Some file.bytes),
      written-each place injective rest next both.1,
    )

pub primary-same : (name other : List ℕ) → primary_name name ≡ primary_name other → name ≡ other
primary-same name other same = same

content-each : (place : List ℕ → List ℕ) (name : List ℕ) (content : Option (List ℕ)) (files : FileMap) (set : List SetFile)
    → AllByRecursion (λ file. name ≢ place file.name) set
    → AllByRecursion (λ file. files (place file.name) ≡ Some file.bytes) set
    → AllByRecursion (λ file. with_content files name content (place file.name) ≡ Some file.bytes) set
content-each place name content files [] apart all = tt
content-each place name content files (file ∷ rest) apart all =
    (content-other files name (place file.name) content apart.0 ∙ all.0, content-each place name content files rest apart.1 all.1)

not_the_list : (place : List ℕ → List ℕ) (injective : (a b : List ℕ) → place a ≡ place b → a ≡ b) (set : List SetFile)
    → list_all is_listable (names_of set) ≡ true → AllByRecursion (λ file. place list_name ≢ place file.name) set
not_the_list place injective [] all = tt
not_the_list place injective (file ∷ rest) all =
    let both = and_parts _ _ all in
    (λ same. (listable file.name both.0).not_list (sym (injective list_name file.name same)), not_the_list place injective rest both.1)

-- a set that is written whole is there
pub holds_written : (place : List ℕ → List ℕ) (injective : (a b : List ℕ) → place a ≡ place b
    → a ≡ b) (set : List SetFile) (files : FileMap)
    → are_listable (names_of set) ≡ true → Holds place set (changed (set_writes place set) files)
holds_written place injective set files may =
    let both = and_parts _ _ may in
    let split = changed-append (writes place set) (list_write place set ∷ []) files in
    let last = Some (saved_list (names_of set)) in
    let P : FileMap → Type 0 = λ found. Holds place set found in
    subst P (sym split)
    (record {
      list = content-same (changed (writes place set) files) (place list_name) last;
      each = content-each place (place list_name) last (changed (writes place set) files) set (not_the_list place injective set both.0)
          (written-each place injective set files both.1);
    })
