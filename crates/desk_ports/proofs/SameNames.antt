-- Lists with the same names.
use Rattle.std.proofs.Common.{◌≡◌, ◌↔◌, ℕ, true, List, sym, ◌∙◌}
use Rattle.std.specs.List.{Contains, list_any}
use Rattle.std.specs.Ordering.{nat_cmp, eq_by_cmp}
use Rattle.std.specs.Cmp.Lexicographic.{slice_cmp, texts_ties, same_text}
use Rattle.std.proofs.lemmas.Cmp.{eq_by_cmp_equiv, nat_list_cmp_total}
use Rattle.std.proofs.lemmas.Map.Views.{Contains-from_any, list_any-from_Contains}

-- names that compare as equal are the same
pub same_name : (name other : List ℕ) → eq_by_cmp (slice_cmp nat_cmp) name other ≡ true → name ≡ other
same_name name other same = same_text name other (sym (texts_ties name other ∙ same))

-- a name that a test finds in one list and in the other alike is in both or in none
pub Contains-same : (xs ys : List (List ℕ)) (name : List ℕ)
    → list_any (eq_by_cmp (slice_cmp nat_cmp) name) xs ≡ list_any (eq_by_cmp (slice_cmp nat_cmp) name) ys
    → Contains xs name ↔ Contains ys name
Contains-same xs ys name same = (
  (λ has. Contains-from_any same_name name ys (sym same ∙ list_any-from_Contains (eq_by_cmp_equiv nat_list_cmp_total) name xs has)),
  (λ has. Contains-from_any same_name name xs (same ∙ list_any-from_Contains (eq_by_cmp_equiv nat_list_cmp_total) name ys has)),
)
