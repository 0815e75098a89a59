-- The laws of the order of pairs.
use Rattle.std.proofs.Common.{◌≡◌, ℕ, Bool, true, false, ◌&&◌, List, refl, sym, ap, ◌∙◌}
use Rattle.std.specs.declared.cmp.Ordering.{Ordering}
use Rattle.std.specs.declared.cmp.Ordering.TheVariants.{Less, Equal, Greater}
use Rattle.std.specs.Ordering.{is_eq, nat_cmp, ordering_then}
use Rattle.std.specs.Str.{bytes_eq}
use Rattle.std.specs.Cmp.{IsTotalOrder, both_tied, tied_itself}
use Rattle.std.specs.Cmp.Lexicographic.{slice_cmp, texts_ties, bytes_decides}
use Rattle.std.proofs.lemmas.Cmp.{nat_cmp_total, nat_list_cmp_total, nat_list_eq_equiv, on_total, then_total}
use Rattle.smack_rules.specs.Rule.{is_pair}
use Rattle.smack_rules.specs.parts.Order.{LabelPair, mark_of, pair_cmp, same_pair}

pub pair_total : IsTotalOrder pair_cmp
pair_total =
    then_total (on_total (λ (pair : LabelPair). mark_of pair.subject pair.object) nat_cmp_total)
    (then_total (on_total (λ (pair : LabelPair). pair.subject) nat_list_cmp_total)
    (on_total (λ (pair : LabelPair). pair.object) nat_list_cmp_total))

both : (a b : Bool) → (a && b) ≡ true → (a ≡ true) × (b ≡ true)
both true b h = (refl, h)
both false b h = cc

-- the labels of one pair are those of the other
pub is_pair-≡ : (a b s o : List ℕ) → is_pair a b s o ≡ true → (a ≡ s) × (b ≡ o)
is_pair-≡ a b s o same =
    let parts = both (bytes_eq a s) (bytes_eq b o) same in
    ((bytes_decides a s).0 parts.0, (bytes_decides b o).0 parts.1)

pub is_pair-symm : (a b s o : List ℕ) → is_pair a b s o ≡ is_pair s o a b
is_pair-symm a b s o =
    ap (λ same. same && bytes_eq b o) (nat_list_eq_equiv.symm a s) ∙ ap (λ same. bytes_eq s a && same) (nat_list_eq_equiv.symm b o)

-- a first comparison that is equal wherever the second is
after_alike : (first then : Ordering) → (is_eq then ≡ true → first ≡ Equal) → is_eq (ordering_then first then) ≡ is_eq then
after_alike Less Less h = refl
after_alike Less Equal h = ap is_eq (h refl)
after_alike Less Greater h = refl
after_alike Equal then h = refl
after_alike Greater Less h = refl
after_alike Greater Equal h = ap is_eq (h refl)
after_alike Greater Greater h = refl

-- pairs that tie have the same labels, since the mark is made of these
pub same_pair-is_pair : (a b : LabelPair) → same_pair a b ≡ is_pair a.subject a.object b.subject b.object
same_pair-is_pair a b =
    let labels = ordering_then (slice_cmp nat_cmp a.subject b.subject) (slice_cmp nat_cmp a.object b.object) in
    let tied : is_pair a.subject a.object b.subject b.object ≡ is_eq labels =
    both_tied _ _ _ _ (texts_ties a.subject b.subject) (texts_ties a.object b.object) in
    let mark : is_eq labels ≡ true
    → nat_cmp (mark_of a.subject a.object) (mark_of b.subject b.object) ≡ Equal =
    λ equal. let same = is_pair-≡ a.subject a.object b.subject b.object (tied ∙ equal) in
    sym (ap (λ l. nat_cmp (mark_of a.subject a.object) (mark_of l a.object)) same.0
    ∙ ap (λ l. nat_cmp (mark_of a.subject a.object) (mark_of b.subject l)) same.1)
    ∙ tied_itself nat_cmp_total (mark_of a.subject a.object) in
    after_alike _ labels mark ∙ sym tied
