-- A sort of names after which repeats are left out gives the rising list of the names.
use Rattle.std.proofs.Common.{◌≡◌, ℕ, List, [], ◌∷◌, ◌∙◌}
use Rattle.std.specs.Cmp.Lexicographic.{texts_ties}
use Rattle.std.specs.List.{AllByRecursion}
use Rattle.std.specs.List.Retain.{IsFiltered, DiffersFromLast}
use Rattle.std.specs.List.Sorted.{IsPermutation, IsSorted}
use Rattle.std.proofs.lemmas.Cmp.{nat_list_cmp_total}
use Rattle.std.proofs.lemmas.List.Filters.{dedup_is}
use Rattle.std.proofs.lemmas.Map.Lookups.{exact_bytes}
use Rattle.cynara_keys.specs.Text.{same_text, text_cmp}
use Rattle.app_registry.specs.Rising.{rising}
use Rattle.app_registry.proofs.Rising.{rising_from_sort}

any_names : (names : List (List ℕ)) → AllByRecursion (λ name. Unit {0}) names
any_names [] = tt
any_names (name ∷ names) = (tt, any_names names)

pub rising_names : (names sorted left : List (List ℕ)) → IsPermutation names sorted → IsSorted text_cmp sorted
    → IsFiltered (DiffersFromLast same_text) [] sorted left → left ≡ rising text_cmp names
rising_names names sorted left moved rises kept =
    dedup_is same_text sorted left kept
    ∙ rising_from_sort nat_list_cmp_total texts_ties (λ name. Unit {0}) (λ x y first second tied. exact_bytes x y tied) names
    sorted (any_names names) moved rises
