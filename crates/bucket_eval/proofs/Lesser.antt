-- The lesser of some elements, whichever two of them are compared first.
use Rattle.std.proofs.Common.{◌≡◌, Bool, true, false, Option, None, Some, IfSome, refl, sym, ap, ◌∙◌}
use Rattle.std.specs.declared.cmp.Ordering.{Ordering}
use Rattle.std.specs.declared.cmp.Ordering.TheVariants.{Less, Equal, Greater}
use Rattle.std.specs.Cmp.{IsTotalOrder}
use Rattle.std.specs.Ordering.{is_gt, is_eq, ordering_reverse, min_by_ordering}
use Rattle.std.proofs.lemmas.Cmp.{upto}
use Rattle.std.proofs.lemmas.Bool.{true_from_ne_false, false≢true, true≢false}
use Rattle.cynara_keys.specs.Minimum.{lesser}
use Rattle.bucket_eval.specs.parts.Buckets.{combined}
use Rattle.bucket_eval.proofs.Best.{min-after, min-before}

min-swap : {X : Type 0} (x y : X) (there back : Ordering) → there ≡ ordering_reverse back → is_eq there ≡ false
    → min_by_ordering there x y ≡ min_by_ordering back y x
min-swap x y there Less turned apart = ap (λ o. min_by_ordering o x y) turned
min-swap x y there Equal turned apart = cc
min-swap x y there Greater turned apart = ap (λ o. min_by_ordering o x y) turned

turned : (there back : Ordering) → there ≡ ordering_reverse back → is_gt back ≡ true → is_gt there ≡ false
turned there Less reversed h = absurd (true≢false (sym h))
turned there Equal reversed h = absurd (true≢false (sym h))
turned there Greater reversed h = ap is_gt reversed

module _ {X : Type 0} {cmp : X → X → Ordering} (order : IsTotalOrder cmp) where
  behind : (x y : X) → is_gt (cmp x y) ≡ true → lesser cmp x (Some y) ≡ y
  behind x y after = min-after (cmp x y) x y after

  ahead : (x y : X) → is_gt (cmp x y) ≡ false → lesser cmp x (Some y) ≡ x
  ahead x y before = min-before (cmp x y) x y before

  pair-swap : (x y : X) → is_eq (cmp x y) ≡ false → lesser cmp x (Some y) ≡ lesser cmp y (Some x)
  pair-swap x y apart = min-swap x y (cmp x y) (cmp y x) (order.antisymm x y) apart

  -- of three, of which the one or the other or neither comes after the third
  triple-swap : (x y z : X) (first second : Bool) → is_gt (cmp x z) ≡ first → is_gt (cmp y z) ≡ second
      → is_eq (cmp x y) ≡ false
      → lesser cmp x (Some (lesser cmp y (Some z))) ≡ lesser cmp y (Some (lesser cmp x (Some z)))
  triple-swap x y z true true hx hy apart =
      ap (λ other. lesser cmp x (Some other)) (behind y z hy) ∙ behind x z hx
      ∙ sym (ap (λ other. lesser cmp y (Some other)) (behind x z hx) ∙ behind y z hy)
  triple-swap x y z false true hx hy apart =
      let after : is_gt (cmp y x) ≡ true =
      true_from_ne_false _ (λ h. false≢true (sym (upto order y x z h hx) ∙ hy)) in
      ap (λ other. lesser cmp x (Some other)) (behind y z hy) ∙ ahead x z hx
      ∙ sym (ap (λ other. lesser cmp y (Some other)) (ahead x z hx) ∙ behind y x after)
  triple-swap x y z true false hx hy apart =
      let after : is_gt (cmp x y) ≡ true =
      true_from_ne_false _ (λ h. false≢true (sym (upto order x y z h hy) ∙ hx)) in
      ap (λ other. lesser cmp x (Some other)) (ahead y z hy) ∙ behind x y after
      ∙ sym (ap (λ other. lesser cmp y (Some other)) (behind x z hx) ∙ ahead y z hy)
  triple-swap x y z false false hx hy apart =
      ap (λ other. lesser cmp x (Some other)) (ahead y z hy) ∙ pair-swap x y apart
      ∙ sym (ap (λ other. lesser cmp y (Some other)) (ahead x z hx))

  lesser-swap : (x y : X) (rest : Option X) → is_eq (cmp x y) ≡ false
      → lesser cmp x (Some (lesser cmp y rest)) ≡ lesser cmp y (Some (lesser cmp x rest))
  lesser-swap x y None apart = pair-swap x y apart
  lesser-swap x y (Some z) apart = triple-swap x y z _ _ refl refl apart

  after-both : (x y z : X) → is_gt (cmp x y) ≡ true → is_gt (cmp y z) ≡ true → is_gt (cmp x z) ≡ true
  after-both x y z hx hy =
      let back : is_gt (cmp z y) ≡ false = turned (cmp z y) (cmp y z) (order.antisymm z y) hy in
      true_from_ne_false _ (λ h. false≢true (sym (upto order x z y h back) ∙ hx))

  -- of three, the first two compared first or the last two
  lesser-joined : (x y z : X) (first second : Bool) → is_gt (cmp x y) ≡ first → is_gt (cmp y z) ≡ second
      → lesser cmp x (Some (lesser cmp y (Some z))) ≡ lesser cmp (lesser cmp x (Some y)) (Some z)
  lesser-joined x y z true true hx hy =
      ap (λ other. lesser cmp x (Some other)) (behind y z hy) ∙ behind x z (after-both x y z hx hy)
      ∙ sym (ap (λ other. lesser cmp other (Some z)) (behind x y hx) ∙ behind y z hy)
  lesser-joined x y z false true hx hy =
      ap (λ other. lesser cmp x (Some other)) (behind y z hy)
      ∙ sym (ap (λ other. lesser cmp other (Some z)) (ahead x y hx))
  lesser-joined x y z true false hx hy =
      ap (λ other. lesser cmp x (Some other)) (ahead y z hy) ∙ behind x y hx
      ∙ sym (ap (λ other. lesser cmp other (Some z)) (behind x y hx) ∙ ahead y z hy)
  lesser-joined x y z false false hx hy =
      ap (λ other. lesser cmp x (Some other)) (ahead y z hy) ∙ ahead x y hx
      ∙ sym (ap (λ other. lesser cmp other (Some z)) (ahead x y hx) ∙ ahead x z (upto order x y z hx hy))

  pub combined-joined : (first second rest : Option X)
      → combined cmp first (combined cmp second rest) ≡ combined cmp (combined cmp first second) rest
  combined-joined None second rest = refl
  combined-joined (Some x) None rest = refl
  combined-joined (Some x) (Some y) None = refl
  combined-joined (Some x) (Some y) (Some z) = ap Some (lesser-joined x y z _ _ refl refl)

  -- an element and one that does not tie with it
  pub combined-swapped : (x : X) (other rest : Option X) → IfSome other (λ y. is_eq (cmp x y) ≡ false)
      → combined cmp (Some x) (combined cmp other rest) ≡ combined cmp other (combined cmp (Some x) rest)
  combined-swapped x None rest apart = refl
  combined-swapped x (Some y) rest apart = ap Some (lesser-swap x y rest apart)
