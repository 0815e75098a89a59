-- Names that rise, as a list in order and as they are read one behind the other.
use Rattle.std.proofs.Common.{◌≡◌, ℕ, zero, suc, true, cond, List, [], ◌∷◌, ◌++◌, Option, Some, None, Ok, refl, ap}
use Rattle.std.proofs.Common.{subst, ◌∙◌}
use Rattle.std.specs.declared.cmp.Ordering.{Ordering}
use Rattle.std.specs.declared.cmp.Ordering.TheVariants.{Less, Equal, Greater}
use Rattle.std.specs.List.{AllByRecursion, filter}
use Rattle.std.specs.List.Sorted.{IsStrictlySortedBy}
use Rattle.std.specs.Ordering.{is_lt, ordering_reverse}
use Rattle.std.specs.Cmp.{IsTotalOrder}
use Rattle.std.proofs.lemmas.Cmp.{nat_list_cmp_total}
use Rattle.cynara_keys.specs.Text.{text_cmp}
use Rattle.app_registry.specs.Rising.{rising}
use Rattle.wire_fields.specs.Left.{Left, wrong, place, ◌>>=◌}
use Rattle.wire_fields.specs.Format.{tested}
use Rattle.wire_fields.specs.Field.{name, comes_after, rising_names}
use Rattle.wire_fields.specs.Right.{AreRising}
use Rattle.wire_fields.specs.declared.refusals.WireRefusal.TheVariants.{BadField}
use Rattle.wire_fields.proofs.Exact.{bind_ok, pass_ok, ok_is}

total : IsTotalOrder text_cmp
total = nat_list_cmp_total

less_from : (o : Ordering) → is_lt o ≡ true → o ≡ Less
less_from Less below = refl
less_from Equal below = absurd cc
less_from Greater below = absurd cc

weaker : (P Q : List ℕ → Type 0) → ((x : List ℕ) → P x → Q x) → (xs : List (List ℕ)) → AllByRecursion P xs
    → AllByRecursion Q xs
weaker P Q f [] all = tt
weaker P Q f (x ∷ xs) all = (f x all.0, weaker P Q f xs all.1)

-- what rises behind a name is behind it
behind : (last : List ℕ) (names : List (List ℕ)) → AreRising (Some last) names
    → AllByRecursion (λ other. text_cmp last other ≡ Less) names
behind last [] rise = tt
behind last (name ∷ names) rise =
    let less = less_from (text_cmp last name) rise.0 in (
      less,
      weaker (λ other. text_cmp name other ≡ Less) (λ other. text_cmp last other ≡ Less)
          (λ other below. total.trans last name other less below) names (behind name names rise.1),
    )

pub sorted_from_rising : (last : Option (List ℕ)) (names : List (List ℕ)) → AreRising last names
    → IsStrictlySortedBy text_cmp names
unfolding IsStrictlySortedBy
sorted_from_rising last [] rise = tt
sorted_from_rising last (name ∷ names) rise = (behind name names rise.1, sorted_from_rising (Some name) names rise.1)

-- ---- the set of names that rise is the list of them

none_before : (x : List ℕ) (ys : List (List ℕ)) → AllByRecursion (λ other. text_cmp x other ≡ Less) ys
    → filter (λ other. is_lt (text_cmp other x)) ys ≡ []
none_before x [] all = refl
none_before x (y ∷ ys) all =
    let greater : text_cmp y x ≡ Greater = total.antisymm y x ∙ ap ordering_reverse all.0 in
    let rest = filter (λ other. is_lt (text_cmp other x)) ys in
    ap (λ (o : Ordering). cond (is_lt o) (y ∷ rest) rest) greater ∙ none_before x ys all.1

all_behind : (x : List ℕ) (ys : List (List ℕ)) → AllByRecursion (λ other. text_cmp x other ≡ Less) ys
    → filter (λ other. is_lt (text_cmp x other)) ys ≡ ys
all_behind x [] all = refl
all_behind x (y ∷ ys) all =
    let rest = filter (λ other. is_lt (text_cmp x other)) ys in
    ap (λ (o : Ordering). cond (is_lt o) (y ∷ rest) rest) all.0
    ∙ ap (λ (zs : List (List ℕ)). y ∷ zs) (all_behind x ys all.1)

pub rising_same : (names : List (List ℕ)) → IsStrictlySortedBy text_cmp names → rising text_cmp names ≡ names
unfolding IsStrictlySortedBy
rising_same [] sorted = refl
rising_same (name ∷ names) sorted =
    let same = rising_same names sorted.1 in
    ap (λ (ys : List (List ℕ)). filter (λ other. is_lt (text_cmp other name)) ys ++ name
    ∷ filter (λ other. is_lt (text_cmp name other)) ys) same
    ∙ λ i. none_before name names sorted.0 i ++ name ∷ all_behind name names sorted.0 i

-- ---- what is read rises

pub names_rise : (last : Option (List ℕ)) (count : ℕ) (left : Left) (x : List (List ℕ) × Left)
    → rising_names last count left ≡ Ok x → AreRising last x.0
unfolding rising_names
names_rise last zero left x e = subst (λ (x : List (List ℕ) × Left). AreRising last x.0) (ok_is ([], left) x e) tt
names_rise last (suc count) left x e =
    let a = bind_ok ((tested (comes_after last) name).read left)
    (λ first. rising_names (Some first.0) count first.1 >>= λ others. Ok (first.0 ∷ others.0, others.1)) x e in
    let b = bind_ok (rising_names (Some a.0.0) count a.0.1) (λ others. Ok (a.0.0 ∷ others.0, others.1)) x a.2 in
    let n = bind_ok (name.read left) (λ x. cond (comes_after last x.0) (Ok x) (wrong left)) a.0 a.1 in
    let g = pass_ok (comes_after last n.0.0) (BadField (place left)) n.0 a.0 n.2 in
    let after : comes_after last a.0.0 ≡ true = subst (λ (x : List ℕ × Left). comes_after last x.0 ≡ true) g.1 g.0 in
    let read : List (List ℕ) × Left = (a.0.0 ∷ b.0.0, b.0.1) in
    subst (λ (x : List (List ℕ) × Left). AreRising last x.0) (ok_is read x b.2)
    (after, names_rise (Some a.0.0) count a.0.1 b.0 b.1)

-- ---- what is in order rises

rises_behind : (last : List ℕ) (names : List (List ℕ)) → AllByRecursion (λ other. text_cmp last other ≡ Less) names
    → IsStrictlySortedBy text_cmp names → AreRising (Some last) names
unfolding IsStrictlySortedBy
rises_behind last [] all sorted = tt
rises_behind last (name ∷ names) all sorted = (ap is_lt all.0, rises_behind name names sorted.0 sorted.1)

pub rises_from_sorted : (names : List (List ℕ)) → IsStrictlySortedBy text_cmp names → AreRising None names
unfolding IsStrictlySortedBy
rises_from_sorted [] sorted = tt
rises_from_sorted (name ∷ names) sorted = (refl, rises_behind name names sorted.0 sorted.1)
