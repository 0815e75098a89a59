-- Policies stand in the order of their keys, so places tell which key comes first. Results of a kind without metadata tie.
use Rattle.std.proofs.Common.{◌≡◌, ℕ, ◌<◌, ◌==◌, ◌||◌, Bool, true, false, cond, length, zero, suc, List, [], ◌∷◌, slice_get, Some, refl, sym, ap, ◌∙◌, subst, arith, inl, inr}
use Rattle.std.specs.declared.cmp.Ordering.TheVariants.{Less, Equal, Greater}
use Rattle.std.specs.Cmp.{nat_cmp_is}
use Rattle.std.specs.List.{AllByRecursion}
use Rattle.std.specs.List.Sorted.{IsStrictlySortedBy}
use Rattle.std.specs.Ordering.{nat_cmp, ordering_reverse, ordering_then}
use Rattle.std.proofs.lemmas.Bool.{cases_eq, cases_lt, eqb-true}
use Rattle.std.proofs.lemmas.Cmp.{tied_itself}
use Rattle.std.proofs.lemmas.Option.{same_Some}
use Rattle.cynara_keys.specs.BucketName.{is_bucket_name}
use Rattle.cynara_keys.specs.Key.{key_cmp}
use Rattle.cynara_keys.specs.PolicyResult.{Ruling, allow, bucket, deny, may_carry, none, result_cmp}
use Rattle.cynara_keys.specs.Text.{text_cmp}
use Rattle.cynara_keys.specs.declared.keys.Policy.{Policy}
use Rattle.cynara_keys.proofs.Order.{key_total, result_total}
use Rattle.bucket_store.specs.Order.{policy_cmp}
use Rattle.bucket_eval.specs.parts.Deciding.{is_bare}

all-at : (P : Policy → Type 0) (policies : List Policy) (at : ℕ) (policy : Policy) → AllByRecursion P policies
    → slice_get policies at ≡ Some policy → P policy
all-at P [] at policy all is = cc
all-at P (first ∷ policies) zero policy all is = subst P (same_Some _ _ is) all.0
all-at P (first ∷ policies) (suc at) policy all is = all-at P policies at policy all.1 is

earlier : (policies : List Policy) → IsStrictlySortedBy policy_cmp policies → (one other : ℕ) (p q : Policy) → one < other
    → slice_get policies one ≡ Some p → slice_get policies other ≡ Some q → key_cmp p.key q.key ≡ Less
unfolding IsStrictlySortedBy
earlier [] rising one other p q less is other_is = cc
earlier (first ∷ policies) rising zero zero p q less is other_is = absurd (omega arith)
earlier (first ∷ policies) rising zero (suc other) p q less is other_is =
    all-at (λ (later : Policy). key_cmp p.key later.key ≡ Less) policies other q
    (subst (λ (f : Policy). AllByRecursion (λ (later : Policy). key_cmp f.key later.key ≡ Less) policies)
    (same_Some _ _ is) rising.0)
    other_is
earlier (first ∷ policies) rising (suc one) zero p q less is other_is = absurd (omega arith)
earlier (first ∷ policies) rising (suc one) (suc other) p q less is other_is =
    earlier policies rising.1 one other p q (omega (arith, less)) is other_is

pub places-order : (policies : List Policy) → IsStrictlySortedBy policy_cmp policies → (one other : ℕ) (p q : Policy)
    → slice_get policies one ≡ Some p → slice_get policies other ≡ Some q → nat_cmp one other ≡ key_cmp p.key q.key
places-order policies rising one other p q is other_is = elim (cases_lt one other) [
  | inl less ↦ sym (nat_cmp_is one other Less less) ∙ sym (earlier policies rising one other p q less is other_is)
  | inr from ↦ elim (cases_eq one other) [
    | inl same ↦
        (let alike : p ≡ q = same_Some _ _ (sym is ∙ ap (slice_get policies) same ∙ other_is) in
        sym (nat_cmp_is one other Equal same) ∙ sym (tied_itself key_total p.key)
        ∙ ap (λ (policy : Policy). key_cmp p.key policy.key) alike)
    | inr apart ↦
        (let after : other < one = omega (arith, from, apart) in
        sym (nat_cmp_is one other Greater after)
        ∙ sym (ap ordering_reverse (earlier policies rising other one q p after other_is is))
        ∙ sym (key_total.antisymm p.key q.key))
  ]
]

-- ---- results without metadata

or-more : (one two three : Bool) → (one || three) ≡ true → (one || (two || three)) ≡ true
or-more true two three h = refl
or-more false true three h = refl
or-more false false three h = h

no-texts : (metadata : List ℕ) → (length metadata == 0) ≡ true → metadata ≡ []
no-texts [] is = refl
no-texts (byte ∷ metadata) is = let none = eqb-true (length (byte ∷ metadata)) 0 is in absurd (omega (arith, none))

bare-empty : (kind : ℕ) (metadata : List ℕ) → is_bare kind ≡ true → may_carry kind metadata ≡ true → metadata ≡ []
bare-empty kind metadata bare carried =
    no-texts metadata
    (sym (ap (λ b. cond b (length metadata == 0) (cond (kind == bucket) (is_bucket_name metadata) true))
    (or-more (kind == deny) (kind == none) (kind == allow) bare))
    ∙ carried)

pub bare-tie : (one other : Ruling) → one.kind ≡ other.kind → is_bare one.kind ≡ true
    → may_carry one.kind one.metadata ≡ true → may_carry other.kind other.metadata ≡ true
    → result_cmp one other ≡ Equal
bare-tie one other alike bare carried other_carried =
    let own : one.metadata ≡ [] = bare-empty one.kind one.metadata bare carried in
    let others : other.metadata ≡ [] =
    bare-empty other.kind other.metadata (ap is_bare (sym alike) ∙ bare) other_carried in
    (λ i. ordering_then (nat_cmp one.kind (sym alike i)) (text_cmp one.metadata ((others ∙ sym own) i)))
    ∙ tied_itself result_total one
