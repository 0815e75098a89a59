-- The places of a bucket's policies that a question can match.
use Rattle.std.proofs.Common.{◌≡◌, ℕ, ◌<◌, ◌≤◌, Bool, true, false, not, ◌&&◌, ◌+◌, List, length, take, drop, get_or, Some, refl, sym, ap, ◌∙◌, subst, arith}
use mathlib.Core.Logic.{⊎_elim}
use Rattle.std.specs.declared.cmp.Ordering.{Ordering}
use Rattle.std.specs.declared.cmp.Ordering.TheVariants.{Less, Equal, Greater}
use Rattle.std.specs.List.{position}
use Rattle.std.specs.List.Sorted.{IsStrictlySortedBy, IsPartitionedBy, IsPartitionPoint}
use Rattle.std.specs.Ordering.{is_gt, is_eq, ordering_then, ordering_reverse}
use Rattle.std.proofs.lemmas.Bool.{cases_lt, true_from_ne_false, false_from_ne_true, true≢false, false≢true}
use Rattle.std.proofs.lemmas.Cmp.{upto}
use Rattle.std.proofs.lemmas.List.{get_or-take, get_or-drop, length-take}
use Rattle.std.proofs.lemmas.List.Quantifiers.{position-Some}
use Rattle.std.proofs.lemmas.Map.Keys.{Less-from_sorted}
use Rattle.cynara_keys.specs.Field.{field_text, field_matches, wildcard}
use Rattle.cynara_keys.specs.Text.{same_text, text_cmp}
use Rattle.cynara_keys.specs.declared.fields.Field.{Field}
use Rattle.cynara_keys.specs.declared.fields.Field.TheVariants.{Any, Exact}
use Rattle.cynara_keys.specs.declared.keys.Policy.{Policy}
use Rattle.cynara_keys.specs.Key.{Question}
use Rattle.cynara_keys.proofs.Order.{text_total, text_cmp-equal}
use Rattle.bucket_store.specs.Order.{policy_cmp}
use Rattle.bucket_eval.specs.parts.Windows.{FailsOutside, Covers, client_of, has_client, matches, comes_before}
use Rattle.bucket_eval.specs.declared.windows.Window.{Window}

-- ---- clients rise

not_above : (o p : Ordering) → ordering_then o p ≡ Less → is_gt o ≡ false
not_above Less p h = refl
not_above Equal p h = refl
not_above Greater p h = cc

client-rises : (a b : Policy) → policy_cmp a b ≡ Less → is_gt (text_cmp (client_of a) (client_of b)) ≡ false
client-rises a b h = not_above (text_cmp (client_of a) (client_of b)) _ h

module _ (client : List ℕ) (policies : List Policy) (rises : IsStrictlySortedBy policy_cmp policies) where
  -- of two places, the client at the later one is not before that at the earlier one
  not_below : (i j : ℕ) (d : Policy) → i < j → j < length policies
      → is_gt (text_cmp (client_of (get_or policies i d)) (client_of (get_or policies j d))) ≡ false
  not_below i j d lt within =
      client-rises (get_or policies i d) (get_or policies j d) (Less-from_sorted policy_cmp policies i j d rises lt within)

  earlier-before : (a b : List ℕ) → is_gt (text_cmp a b) ≡ false → is_gt (text_cmp client b) ≡ true
      → is_gt (text_cmp client a) ≡ true
  earlier-before a b rising before =
      true_from_ne_false _ (λ h. false≢true (sym (upto text_total client a b h rising) ∙ before))

  pub before-parted : IsPartitionedBy (comes_before client) policies
  before-parted i j d le within before =
      ⊎_elim (λ lt. earlier-before (client_of (get_or policies i d)) (client_of (get_or policies j d)) (not_below i j d lt within) before)
      (λ ge. let same : j ≡ i = omega arith in subst (λ k. comes_before client (get_or policies k d) ≡ true) same before)
      (cases_lt i j)

  -- none is of a client before, where the first is not
  pub none-before : ((d : Policy) → 0 < length policies → comes_before client (get_or policies 0 d) ≡ false)
      → IsPartitionPoint (λ policy. comes_before client policy ≡ true) (λ policy. comes_before client policy ≡ false) policies 0
  none-before first = (
    λ k d le lt. absurd (omega arith),
    λ k d le lt. false_from_ne_true _
        (λ before. true≢false (sym (before-parted 0 k d (omega arith) lt before) ∙ first d (omega arith))),
  )

  not-true : (b : Bool) → not b ≡ true → b ≡ false
  not-true true h = cc
  not-true false h = refl

  -- ---- outside of a client's window

  greater-apart : (o : Ordering) → is_gt o ≡ true → is_eq o ≡ false
  greater-apart Less h = refl
  greater-apart Equal h = cc
  greater-apart Greater h = refl

  reverse-apart : (o : Ordering) → is_gt o ≡ true → is_eq (ordering_reverse o) ≡ false
  reverse-apart Less h = refl
  reverse-apart Equal h = cc
  reverse-apart Greater h = refl

  before-apart : (text : List ℕ) → is_gt (text_cmp client text) ≡ true → same_text text client ≡ false
  before-apart text before =
      sym (text_cmp-equal text client) ∙ ap is_eq (text_total.antisymm text client) ∙ reverse-apart (text_cmp client text) before

  behind-apart : (text : List ℕ) → is_gt (text_cmp text client) ≡ true → same_text text client ≡ false
  behind-apart text behind = sym (text_cmp-equal text client) ∙ greater-apart (text_cmp text client) behind

  -- a client that is neither before nor the same is behind
  is_behind : (text : List ℕ) (o : Ordering) → text_cmp text client ≡ o → is_gt (text_cmp client text) ≡ false
      → same_text text client ≡ false → is_gt o ≡ true
  is_behind text Less at below apart =
      absurd (true≢false (sym (ap is_gt (text_total.antisymm client text ∙ ap ordering_reverse at)) ∙ below))
  is_behind text Equal at below apart = absurd (true≢false (sym (ap is_eq at) ∙ text_cmp-equal text client ∙ apart))
  is_behind text Greater at below apart = refl

  module _ (start : ℕ)
      (parted : IsPartitionPoint (λ policy. comes_before client policy ≡ true) (λ policy. comes_before client policy ≡ false) policies start) where
    in_front : (place : ℕ) (d : Policy) → place < start → has_client client (get_or policies place d) ≡ false
    in_front place d lt = before-apart (client_of (get_or policies place d)) (parted.0 place d (omega arith) lt)

    -- behind a policy of a later client none is of this client
    further : (at place : ℕ) (d : Policy) → at < place → place < length policies
        → is_gt (text_cmp (client_of (get_or policies at d)) client) ≡ true → has_client client (get_or policies place d) ≡ false
    further at place d lt within behind =
        let a = client_of (get_or policies at d) in
        let b = client_of (get_or policies place d) in
        behind-apart b (true_from_ne_false _
        (λ h. false≢true (sym (upto text_total a b client (not_below at place d lt within) h) ∙ behind)))

    past : (at place : ℕ) (d : Policy) → start ≤ at → at ≤ place → place < length policies
        → has_client client (get_or policies at d) ≡ false → has_client client (get_or policies place d) ≡ false
    past at place d from le within apart =
        let text = client_of (get_or policies at d) in
        let behind = is_behind text (text_cmp text client) refl (parted.1 at d from (omega arith)) apart in
        ⊎_elim (λ lt. further at place d lt within behind)
        (λ ge. let same : at ≡ place = omega arith in
        subst (λ k. has_client client (get_or policies k d) ≡ false) same apart) (cases_lt at place)

    -- up to a policy of another client
    pub outside-some : (most count : ℕ) → position (λ policy. not (has_client client policy)) (take most (drop start policies)) ≡ Some count
        → FailsOutside (has_client client) (record { start = start; end = start + count }) policies
    outside-some most count found place d within outside =
        let first = position-Some (λ policy. not (has_client client policy)) (take most (drop start policies)) count d found in
        let counted = length-take most (drop start policies) in
        let there : get_or (take most (drop start policies)) count d ≡ get_or policies (start + count) d =
        get_or-take most (drop start policies) count d (omega (arith, first.0, counted)) ∙ get_or-drop start policies count d in
        let apart : has_client client (get_or policies (start + count) d) ≡ false =
        not-true _ (subst (λ policy. not (has_client client policy) ≡ true) there first.1) in
        ⊎_elim (λ lt. in_front place d lt) (λ ge. past (start + count) place d (omega arith) ge within apart) outside

    -- up to the end
    pub outside-none : FailsOutside (has_client client) (record { start = start; end = length policies }) policies
    outside-none place d within outside = ⊎_elim (λ lt. in_front place d lt) (λ ge. absurd (omega arith)) outside

-- ---- no match outside of both

field-mismatch : (field : Field) (name : List ℕ) → same_text (field_text field) name ≡ false
    → same_text (field_text field) wildcard ≡ false → field_matches field name ≡ false
field-mismatch Any name own any = any
field-mismatch (Exact text) name own any = own

pub both-outside : (question : Question) (policies : List Policy) (window one other : Window) → Covers window one other
    → FailsOutside (has_client question.client) one policies → FailsOutside (has_client wildcard) other policies
    → FailsOutside (matches question) window policies
both-outside question policies window one other covers own any place d within outside =
    let policy = get_or policies place d in
    let both = covers place outside in
    ap (λ b. b && (field_matches policy.key.user question.user && field_matches policy.key.privilege question.privilege))
    (field-mismatch policy.key.client question.client (own place d within both.0) (any place d within both.1))
