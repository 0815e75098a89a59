-- The names of the files of a policy state.
use Rattle.std.proofs.Common.{◌≡◌, ℕ, ◌||◌, Bool, true, false, not, cond, List, [], ◌∷◌, filter, Option, Some, None}
use Rattle.std.proofs.Common.{Result, Ok, is_none, ◌⊎◌, inl, inr, refl, ap, sym, ◌∙◌, subst}
use Rattle.std.proofs.lemmas.Bool.{and_parts, eqb-true}
use Rattle.std.specs.Ordering.{is_eq}
use Rattle.std.specs.List.{list_all}
use Rattle.std.specs.Option.{option_map}
use Rattle.std.specs.declared.cmp.Ordering.{Ordering}
use Rattle.std.specs.declared.cmp.Ordering.TheVariants.{Less, Equal, Greater}
use Rattle.cynara_keys.specs.Text.{text_cmp}
use Rattle.cynara_keys.specs.BucketName.{bucket_name_fault}
use Rattle.cynara_keys.proofs.Order.{text_cmp-equal, same_text-≡}
use Rattle.app_registry.specs.Ident.{ident_fault}
use Rattle.desk_ports.specs.FileMap.{names_of}
use Rattle.desk_ports.specs.declared.file_sets.SetFile.{SetFile}
use Rattle.desk_state.specs.DeskState.{DeskState}
use Rattle.guard_files.specs.OwnName.{is_listable, is_own, is_primary, is_desk_name, is_backup}
use Rattle.set_text.specs.Fault.{Fault, whole, unless, odd_by, odd_name}
use Rattle.set_text.specs.FileNames.{is_bucket_file, is_load_file, is_other_file, fixed_files}
use Rattle.set_text.specs.Reading.{odd_file, read_of}
use Rattle.desk_keeper.proofs.Listable.{and_true, listable-bucket, listable-load}

-- two lists of names without an odd one are the same
odd_by-none : (order : Ordering) (first second : List ℕ) (later : Option (List ℕ))
    → odd_by order first second later ≡ None
    → (order ≡ Equal) × (later ≡ None)
odd_by-none Less first second later none = cc
odd_by-none Greater first second later none = cc
odd_by-none Equal first second later none = (refl, none)

equal-same : (first second : List ℕ) → text_cmp first second ≡ Equal → first ≡ second
equal-same first second equal = same_text-≡ first second (sym (text_cmp-equal first second) ∙ ap is_eq equal)

pub odd-none : (names others : List (List ℕ)) → odd_name names others ≡ None → names ≡ others
odd-none [] [] none = refl
odd-none (name ∷ names) [] none = cc
odd-none [] (other ∷ others) none = cc
odd-none (name ∷ names) (other ∷ others) none =
    let parts = odd_by-none (text_cmp name other) name other (odd_name names others) none in
    ap (λ first. first ∷ names) (equal-same name other parts.0)
    ∙ ap (λ rest. other ∷ rest) (odd-none names others parts.1)

-- a name that is neither that of a bucket nor that of a package is one of the five
listable-other : list_all is_listable fixed_files ≡ true
unfolding is_listable is_own is_primary is_desk_name is_backup
listable-other = refl

none-from-is : {X : Type 0} (found : Option X) → is_none found ≡ true → found ≡ None
none-from-is None is = refl
none-from-is (Some x) is = cc

of-bucket : (name : List ℕ) → is_bucket_file name ≡ true → is_listable name ≡ true
of-bucket [] is = cc
of-bucket (byte ∷ name) is =
    let parts = and_parts _ _ is in
    subst (λ first. is_listable (first ∷ name) ≡ true) (sym (eqb-true byte 95 parts.0))
    (listable-bucket name (none-from-is (bucket_name_fault name) parts.1))

of-load : (name : List ℕ) → is_load_file name ≡ true → is_listable name ≡ true
of-load [] is = cc
of-load (first ∷ []) is = cc
of-load (first ∷ second ∷ name) is =
    let parts = and_parts _ _ is in
    let later = and_parts _ _ parts.1 in
    subst (λ byte. is_listable (byte ∷ second ∷ name) ≡ true) (sym (eqb-true first 114 parts.0))
    (subst (λ byte. is_listable (114 ∷ byte ∷ name) ≡ true) (sym (eqb-true second 46 later.0))
    (listable-load name (none-from-is (ident_fault name) later.1)))

of-either : (bucket load : Bool) → not (bucket || load) ≡ false → (bucket ≡ true) ⊎ (load ≡ true)
of-either true load is = inl refl
of-either false true is = inr refl
of-either false false is = cc

of-sort : (name : List ℕ) → is_other_file name ≡ false → is_listable name ≡ true
of-sort name is = by_sort (of-either (is_bucket_file name) (is_load_file name) is)
  where
    by_sort : (is_bucket_file name ≡ true) ⊎ (is_load_file name ≡ true) → is_listable name ≡ true
    by_sort (inl bucket) = of-bucket name bucket
    by_sort (inr load) = of-load name load

-- where the names of the other sort are listable, all are
with-name : (name : List ℕ) (names : List (List ℕ)) (other : Bool) → is_other_file name ≡ other
    → list_all is_listable (cond other (name ∷ filter is_other_file names) (filter is_other_file names)) ≡ true
    → (list_all is_listable (filter is_other_file names) ≡ true → list_all is_listable names ≡ true)
    → list_all is_listable (name ∷ names) ≡ true
with-name name names true is others later =
    let parts = and_parts (is_listable name) (list_all is_listable (filter is_other_file names)) others in
    and_true _ _ parts.0 (later parts.1)
with-name name names false is others later = and_true _ _ (of-sort name is) (later others)

all-listable : (names : List (List ℕ)) → list_all is_listable (filter is_other_file names) ≡ true
    → list_all is_listable names ≡ true
all-listable [] others = refl
all-listable (name ∷ names) others = with-name name names (is_other_file name) refl others (all-listable names)

unless-ok : {X : Type 0} (fault : Option Fault) (later : Result X Fault) (value : X) → unless fault later ≡ Ok value
    → fault ≡ None
unless-ok None later value reads = refl
unless-ok (Some fault) later value reads = cc

map-none : (found : Option (List ℕ)) → option_map whole found ≡ None → found ≡ None
map-none None none = refl
map-none (Some name) none = cc

-- each name of a set that reads may stand in a list
pub set-listable : (set : List SetFile) (desk : DeskState) → read_of set ≡ Ok desk
    → list_all is_listable (names_of set) ≡ true
set-listable set desk reads =
    all-listable (names_of set) (sym (ap (list_all is_listable)
    (odd-none fixed_files (filter is_other_file (names_of set))
    (map-none _ (unless-ok (odd_file is_other_file fixed_files set) _ desk reads))))
    ∙ listable-other)
