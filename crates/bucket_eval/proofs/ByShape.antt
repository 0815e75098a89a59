-- The policies that match a question, shape by shape: each is of one shape, and a search finds the one of a shape.
use Rattle.std.proofs.Common.{◌≡◌, ℕ, ◌+◌, ◌<◌, ◌≤◌, ◌%◌, Bool, true, false, ◌&&◌, ◌==◌, cond, List, [], ◌∷◌, ◌++◌}
use Rattle.std.proofs.Common.{get_or, nat_lt, nat_le, Option, None, Some, IfSome, refl, sym, ap, ◌∙◌, subst, arith}
use Rattle.std.proofs.Common.{inl, inr, ◌⊎◌}
use Rattle.std.specs.declared.cmp.Ordering.{Ordering}
use Rattle.std.specs.declared.cmp.Ordering.TheVariants.{Less, Equal, Greater}
use Rattle.std.specs.Cmp.{IsTotalOrder, first_so, second_so}
use Rattle.std.specs.List.{AllByRecursion, filter_map, cons_option}
use Rattle.std.specs.List.Sorted.{IsStrictlySortedBy}
use Rattle.std.specs.Ordering.{is_eq, ordering_then}
use Rattle.std.proofs.lemmas.Bool.{true≢false, cases_lt, lt-ltb, le-ltb, eqb-true, eq-eqb, ne_eqb}
use Rattle.std.proofs.lemmas.Cmp.{on_total, then_total}
use Rattle.std.proofs.Math.Seq.{get_or-append_seam}
use Rattle.cynara_keys.specs.Field.{field_matches, field_cmp}
use Rattle.cynara_keys.specs.Key.{key_matches, key_cmp}
use Rattle.cynara_keys.specs.Minimum.{first_least}
use Rattle.cynara_keys.specs.PolicyResult.{result_cmp}
use Rattle.cynara_keys.specs.declared.fields.Field.{Field}
use Rattle.cynara_keys.specs.declared.fields.Field.TheVariants.{Any, Exact}
use Rattle.cynara_keys.specs.Key.{Key}
use Rattle.cynara_keys.specs.declared.keys.Policy.{Policy}
use Rattle.cynara_keys.specs.Key.{Question}
use Rattle.cynara_keys.proofs.Minimum.{first_least-all}
use Rattle.cynara_keys.proofs.Order.{text_cmp-equal, key_total, result_total}
use Rattle.bucket_store.specs.Order.{policy_cmp}
use Rattle.bucket_store.specs.parts.Search.{StandsAt, BelongsAt}
use Rattle.bucket_store.proofs.Lists.{All-weaker, All-append}
use Rattle.bucket_eval.specs.Evaluation.{Contribution, contribution_cmp}
use Rattle.bucket_eval.specs.parts.Shapes.{is_wild, shape_by, shape_of, sought_field, sought, fits, FitsAt, OnlyAt}
use Rattle.bucket_eval.specs.parts.Shapes.{in_shape, below_shape}
use Rattle.bucket_eval.specs.parts.Buckets.{combined}
use Rattle.bucket_eval.proofs.Lesser.{combined-joined, combined-swapped}

-- ---- a key that matches ties with the sought one of its shape

pub equal-same : (o : Ordering) → is_eq o ≡ true → o ≡ Equal
equal-same Less h = cc
equal-same Equal h = refl
equal-same Greater h = cc

field-ties : (field : Field) (name : List ℕ) → field_matches field name ≡ true
    → field_cmp field (sought_field (is_wild field) name) ≡ Equal
field-ties Any name matches = refl
field-ties (Exact own) name matches = equal-same _ (text_cmp-equal own name ∙ matches)

pub client-wild : (client user privilege : Bool) → nat_le 4 (shape_by client user privilege) ≡ client
client-wild true true true = refl
client-wild true true false = refl
client-wild true false true = refl
client-wild true false false = refl
client-wild false true true = refl
client-wild false true false = refl
client-wild false false true = refl
client-wild false false false = refl

pub user-wild : (client user privilege : Bool) → nat_le 2 (shape_by client user privilege % 4) ≡ user
user-wild true true true = refl
user-wild true true false = refl
user-wild true false true = refl
user-wild true false false = refl
user-wild false true true = refl
user-wild false true false = refl
user-wild false false true = refl
user-wild false false false = refl

pub privilege-wild : (client user privilege : Bool) → (shape_by client user privilege % 2 == 1) ≡ privilege
privilege-wild true true true = refl
privilege-wild true true false = refl
privilege-wild true false true = refl
privilege-wild true false false = refl
privilege-wild false true true = refl
privilege-wild false true false = refl
privilege-wild false false true = refl
privilege-wild false false false = refl

shape-below : (client user privilege : Bool) → shape_by client user privilege < 8
shape-below true true true = omega arith
shape-below true true false = omega arith
shape-below true false true = omega arith
shape-below true false false = omega arith
shape-below false true true = omega arith
shape-below false true false = omega arith
shape-below false false true = omega arith
shape-below false false false = omega arith

three-equal : (first second third : Ordering) → first ≡ Equal → second ≡ Equal → third ≡ Equal
    → ordering_then first (ordering_then second third) ≡ Equal
three-equal first second third one two three =
    ap (λ o. ordering_then o (ordering_then second third)) one ∙ ap (λ o. ordering_then o third) two ∙ three

key-ties : (key : Key) (question : Question) → key_matches key question ≡ true
    → key_cmp key (sought question (shape_of key)) ≡ Equal
key-ties key question matches =
    let client = is_wild key.client in
    let user = is_wild key.user in
    let privilege = is_wild key.privilege in
    three-equal _ _ _
    (subst (λ wild. field_cmp key.client (sought_field wild question.client) ≡ Equal)
    (sym (client-wild client user privilege)) (field-ties key.client question.client (first_so _ _ matches)))
    (subst (λ wild. field_cmp key.user (sought_field wild question.user) ≡ Equal)
    (sym (user-wild client user privilege))
    (field-ties key.user question.user (first_so _ _ (second_so _ _ matches))))
    (subst (λ wild. field_cmp key.privilege (sought_field wild question.privilege) ≡ Equal)
    (sym (privilege-wild client user privilege))
    (field-ties key.privilege question.privilege (second_so _ _ (second_so _ _ matches))))

-- ---- where a search ends

module _ (question : Question) (shape : ℕ) where
  pub misfit : (policy : Policy) → is_eq (key_cmp policy.key (sought question shape)) ≡ false
      → fits question shape policy ≡ false
  misfit policy apart = settled (fits question shape policy) refl
    where
      settled : (fit : Bool) → fits question shape policy ≡ fit → fit ≡ false
      settled true is =
          let shaped : shape_of policy.key ≡ shape = eqb-true _ _ (second_so _ _ is) in
          let ties : key_cmp policy.key (sought question shape) ≡ Equal =
          subst (λ n. key_cmp policy.key (sought question n) ≡ Equal) shaped
          (key-ties policy.key question (first_so _ _ is)) in
          absurd (true≢false (sym (ap is_eq ties) ∙ apart))
      settled false is = refl

  before-misfit : (policies : List Policy)
      → AllByRecursion (λ (policy : Policy). key_cmp policy.key (sought question shape) ≡ Less) policies
      → AllByRecursion (λ policy. fits question shape policy ≡ false) policies
  before-misfit policies before =
      All-weaker (λ (policy : Policy). key_cmp policy.key (sought question shape) ≡ Less)
      (λ policy. fits question shape policy ≡ false) (λ policy less. misfit policy (ap is_eq less)) policies before

  behind-misfit : (policies : List Policy)
      → AllByRecursion (λ (policy : Policy). key_cmp policy.key (sought question shape) ≡ Greater) policies
      → AllByRecursion (λ policy. fits question shape policy ≡ false) policies
  behind-misfit policies behind =
      All-weaker (λ (policy : Policy). key_cmp policy.key (sought question shape) ≡ Greater)
      (λ policy. fits question shape policy ≡ false) (λ policy greater. misfit policy (ap is_eq greater)) policies
      behind

  -- the policy at the place of the search
  element-is : (policies : List Policy) (place : ℕ) (policy : Policy)
      → (at : StandsAt (λ policy. key_cmp policy.key (sought question shape)) policies place)
      → policy ≡ get_or policies place policy → policy ≡ at.element
  element-is policies place policy at is =
      is ∙ (λ i. get_or (at.parts i) (sym at.length_front i) policy)
      ∙ get_or-append_seam at.front at.element at.back policy

  pub FitsAt-found : (policies : List Policy) (place : ℕ) (policy : Policy)
      → StandsAt (λ policy. key_cmp policy.key (sought question shape)) policies place
      → policy ≡ get_or policies place policy → fits question shape policy ≡ true
      → FitsAt question shape policies (Some place)
  FitsAt-found policies place policy at is fit = record {
    front = at.front;
    element = at.element;
    back = at.back;
    parts = at.parts;
    length_front = at.length_front;
    before = before-misfit at.front at.before;
    passes = ap (fits question shape) (sym (element-is policies place policy at is)) ∙ fit;
    behind = behind-misfit at.back at.behind;
  }

  pub FitsAt-other : (policies : List Policy) (place : ℕ) (policy : Policy)
      → StandsAt (λ policy. key_cmp policy.key (sought question shape)) policies place
      → policy ≡ get_or policies place policy → fits question shape policy ≡ false
      → FitsAt question shape policies None
  FitsAt-other policies place policy at is other =
      let here : fits question shape at.element ≡ false =
      ap (fits question shape) (sym (element-is policies place policy at is)) ∙ other in
      subst (AllByRecursion (λ policy. fits question shape policy ≡ false)) (sym at.parts)
      (All-append (λ policy. fits question shape policy ≡ false) at.front (at.element ∷ at.back)
      (before-misfit at.front at.before) (here, behind-misfit at.back at.behind))

  pub FitsAt-absent : (policies : List Policy) (place : ℕ)
      → BelongsAt (λ policy. key_cmp policy.key (sought question shape)) policies place
      → FitsAt question shape policies None
  FitsAt-absent policies place at =
      subst (AllByRecursion (λ policy. fits question shape policy ≡ false)) (sym at.parts)
      (All-append (λ policy. fits question shape policy ≡ false) at.front at.back
      (before-misfit at.front at.before) (behind-misfit at.back at.behind))

-- ---- what a list gives

filter_map-none : {X Y : Type 0} (f : X → Option Y) (xs : List X) → AllByRecursion (λ x. f x ≡ None) xs
    → filter_map f xs ≡ []
filter_map-none f [] none = refl
filter_map-none f (x ∷ xs) none =
    ap (λ made. cons_option made (filter_map f xs)) none.0 ∙ filter_map-none f xs none.1

filter_map-one : {X Y : Type 0} (f : X → Option Y) (front : List X) (x : X) (back : List X)
    → AllByRecursion (λ y. f y ≡ None) front → AllByRecursion (λ y. f y ≡ None) back
    → filter_map f (front ++ x ∷ back) ≡ cons_option (f x) []
filter_map-one f [] x back before behind = ap (cons_option (f x)) (filter_map-none f back behind)
filter_map-one f (y ∷ front) x back before behind =
    ap (λ made. cons_option made (filter_map f (front ++ x ∷ back))) before.0
    ∙ filter_map-one f front x back before.1 behind

filter_map-same : {X Y : Type 0} (f g : X → Option Y) (xs : List X) → ((x : X) → f x ≡ g x)
    → filter_map f xs ≡ filter_map g xs
filter_map-same f g [] same = refl
filter_map-same f g (x ∷ xs) same = λ i. cons_option (same x i) (filter_map-same f g xs same i)

first_least-alone : {X : Type 0} (cmp : X → X → Ordering) (made : Option X)
    → first_least cmp (cons_option made []) ≡ made
first_least-alone cmp None = refl
first_least-alone cmp (Some x) = refl

pub first_least-cons_option : {X : Type 0} (cmp : X → X → Ordering) (made : Option X) (others : List X)
    → first_least cmp (cons_option made others) ≡ combined cmp made (first_least cmp others)
first_least-cons_option cmp None others = refl
first_least-cons_option cmp (Some made) others = refl

-- ---- contributions

contribution_total : IsTotalOrder contribution_cmp
contribution_total =
    then_total (on_total (λ (made : Contribution). made.outcome.result) result_total)
    (on_total (λ (made : Contribution). made.key) key_total)

then-apart : (first second : Ordering) → is_eq second ≡ false → is_eq (ordering_then first second) ≡ false
then-apart Less second h = refl
then-apart Equal second h = h
then-apart Greater second h = refl

-- what a policy contributes has the policy's key, and one that does not match contributes nothing
pub record IsOwn (question : Question) (made : Policy → Option Contribution) : Type 0 where
  pub key : (policy : Policy) → IfSome (made policy) (λ contribution. contribution.key ≡ policy.key)
  pub silent : (policy : Policy) → key_matches policy.key question ≡ false → made policy ≡ None

pub if-some : (b : Bool) (P : Contribution → Type 0) (made : Option Contribution) → IfSome made P
    → IfSome (cond b made None) P
if-some true P made holds = holds
if-some false P made holds = tt

module _ (question : Question) (made : Policy → Option Contribution) (own : IsOwn question made) where
  quiet : (shape : ℕ) (policy : Policy) (matches shaped : Bool) → key_matches policy.key question ≡ matches
      → (shape_of policy.key == shape) ≡ shaped → fits question shape policy ≡ false → in_shape shape made policy ≡ None
  quiet shape policy true true matching is other = absurd (true≢false (sym (λ i. matching i && is i) ∙ other))
  quiet shape policy true false matching is other = ap (λ b. cond b (made policy) None) is
  quiet shape policy false true matching is other =
      ap (λ b. cond b (made policy) None) is ∙ own.silent policy matching
  quiet shape policy false false matching is other = ap (λ b. cond b (made policy) None) is

  all-quiet : (shape : ℕ) (policies : List Policy)
      → AllByRecursion (λ policy. fits question shape policy ≡ false) policies
      → AllByRecursion (λ policy. in_shape shape made policy ≡ None) policies
  all-quiet shape policies others =
      All-weaker (λ policy. fits question shape policy ≡ false) (λ policy. in_shape shape made policy ≡ None)
      (λ policy other. quiet shape policy _ _ refl refl other) policies others

  -- the least of the shape is what its one policy contributes
  pub least-of-one : (shape : ℕ) (policies : List Policy) (place : ℕ) (policy : Policy)
      → OnlyAt (fits question shape) policies place → policy ≡ get_or policies place policy
      → first_least contribution_cmp (filter_map (in_shape shape made) policies) ≡ made policy
  least-of-one shape policies place policy at is =
      let same : policy ≡ at.element =
      is ∙ (λ i. get_or (at.parts i) (sym at.length_front i) policy)
      ∙ get_or-append_seam at.front at.element at.back policy in
      ap (λ list. first_least contribution_cmp (filter_map (in_shape shape made) list)) at.parts
      ∙ ap (first_least contribution_cmp)
      (filter_map-one (in_shape shape made) at.front at.element at.back (all-quiet shape at.front at.before)
      (all-quiet shape at.back at.behind))
      ∙ first_least-alone contribution_cmp (in_shape shape made at.element)
      ∙ ap (λ b. cond b (made at.element) None) (second_so _ _ at.passes) ∙ ap made (sym same)

  pub least-of-none : (shape : ℕ) (policies : List Policy)
      → AllByRecursion (λ policy. fits question shape policy ≡ false) policies
      → first_least contribution_cmp (filter_map (in_shape shape made) policies) ≡ None
  least-of-none shape policies others =
      ap (first_least contribution_cmp)
      (filter_map-none (in_shape shape made) policies (all-quiet shape policies others))

  -- ---- one shape more

  -- a policy contributes under the one or the other
  abbrev Parted : (f g h : Option Contribution) → Type 0
  Parted f g h = ((h ≡ f) × (g ≡ None)) ⊎ ((h ≡ g) × (f ≡ None))

  parted : (shape : ℕ) (policy : Policy)
      → Parted (in_shape shape made policy) (below_shape shape made policy) (below_shape (shape + 1) made policy)
  parted shape policy =
      let own_shape = shape_of policy.key in
      elim (cases_lt own_shape shape) [
        | inl below ↦ inr (
          ap (λ b. cond b (made policy) None) (lt-ltb own_shape (shape + 1) (omega arith))
              ∙ sym (ap (λ b. cond b (made policy) None) (lt-ltb own_shape shape below)),
          ap (λ b. cond b (made policy) None) (ne_eqb own_shape shape (λ same. omega arith)),
        )
        | inr from ↦ elim (cases_lt shape own_shape) [
          | inl above ↦ inr (
            ap (λ b. cond b (made policy) None) (le-ltb own_shape (shape + 1) (omega arith))
                ∙ sym (ap (λ b. cond b (made policy) None) (le-ltb own_shape shape from)),
            ap (λ b. cond b (made policy) None) (ne_eqb own_shape shape (λ same. omega arith)),
          )
          | inr upto ↦ (
              let same : own_shape ≡ shape = omega arith in
              inl (
                ap (λ b. cond b (made policy) None) (lt-ltb own_shape (shape + 1) (omega arith))
                    ∙ sym (ap (λ b. cond b (made policy) None) (eq-eqb own_shape shape same)),
                ap (λ b. cond b (made policy) None) (le-ltb own_shape shape from),
              )
              )
        ]
      ]

  -- the keys of what later policies contribute come behind
  behind-more : (first policy : Policy) (given : Option Contribution) (others : List Contribution)
      → policy_cmp first policy ≡ Less → IfSome given (λ later. later.key ≡ policy.key)
      → AllByRecursion (λ (later : Contribution). key_cmp first.key later.key ≡ Less) others
      → AllByRecursion (λ (later : Contribution). key_cmp first.key later.key ≡ Less) (cons_option given others)
  behind-more first policy None others before keyed rest = rest
  behind-more first policy (Some later) others before keyed rest = (ap (key_cmp first.key) keyed ∙ before, rest)

  all-behind : (shape : ℕ) (first : Policy) (policies : List Policy)
      → AllByRecursion (λ later. policy_cmp first later ≡ Less) policies
      → AllByRecursion (λ (later : Contribution). key_cmp first.key later.key ≡ Less)
      (filter_map (in_shape shape made) policies)
  all-behind shape first [] all = tt
  all-behind shape first (policy ∷ policies) all =
      behind-more first policy (in_shape shape made policy) (filter_map (in_shape shape made) policies) all.0
      (if-some (shape_of policy.key == shape) (λ later. later.key ≡ policy.key) (made policy) (own.key policy))
      (all-behind shape first policies all.1)

  apart : (first : Policy) (given least : Contribution) → given.key ≡ first.key → key_cmp first.key least.key ≡ Less
      → is_eq (contribution_cmp given least) ≡ false
  apart first given least keyed before =
      then-apart (result_cmp given.outcome.result least.outcome.result) (key_cmp given.key least.key)
      (ap is_eq (ap (λ key. key_cmp key least.key) keyed ∙ before))

  if-apart : (first : Policy) (given : Contribution) (least : Option Contribution) → given.key ≡ first.key
      → IfSome least (λ later. key_cmp first.key later.key ≡ Less)
      → IfSome least (λ later. is_eq (contribution_cmp given later) ≡ false)
  if-apart first given None keyed before = tt
  if-apart first given (Some least) keyed before = apart first given least keyed before

  -- a contribution of the second kind goes past the least of the first
  swapped : (first : Policy) (given least rest : Option Contribution) → IfSome given (λ later. later.key ≡ first.key)
      → IfSome least (λ later. key_cmp first.key later.key ≡ Less)
      → combined contribution_cmp given (combined contribution_cmp least rest)
      ≡ combined contribution_cmp least (combined contribution_cmp given rest)
  swapped first None least rest keyed before = refl
  swapped first (Some given) least rest keyed before =
      combined-swapped contribution_total given least rest (if-apart first given least keyed before)

  one-more : (first : Policy) (f g h : Option Contribution) (least rest : Option Contribution) → Parted f g h
      → IfSome g (λ later. later.key ≡ first.key) → IfSome least (λ later. key_cmp first.key later.key ≡ Less)
      → combined contribution_cmp h (combined contribution_cmp least rest)
      ≡ combined contribution_cmp (combined contribution_cmp f least) (combined contribution_cmp g rest)
  one-more first f g h least rest (inl as_first) keyed before =
      ap (λ o. combined contribution_cmp o (combined contribution_cmp least rest)) as_first.0
      ∙ combined-joined contribution_total f least rest
      ∙ sym (ap (λ o. combined contribution_cmp (combined contribution_cmp f least) (combined contribution_cmp o rest))
      as_first.1)
  one-more first f g h least rest (inr as_second) keyed before =
      ap (λ o. combined contribution_cmp o (combined contribution_cmp least rest)) as_second.0
      ∙ swapped first g least rest keyed before
      ∙ sym (ap (λ o. combined contribution_cmp (combined contribution_cmp o least) (combined contribution_cmp g rest))
      as_second.1)

  -- the least of the shapes up to this one is that of this one, or that of those below
  pub least-below-more : (shape : ℕ) (policies : List Policy) → IsStrictlySortedBy policy_cmp policies
      → first_least contribution_cmp (filter_map (below_shape (shape + 1) made) policies)
      ≡ combined contribution_cmp (first_least contribution_cmp (filter_map (in_shape shape made) policies))
      (first_least contribution_cmp (filter_map (below_shape shape made) policies))
  unfolding IsStrictlySortedBy
  least-below-more shape [] rising = refl
  least-below-more shape (policy ∷ policies) rising =
      let of = first_least contribution_cmp (filter_map (in_shape shape made) policies) in
      let below = first_least contribution_cmp (filter_map (below_shape shape made) policies) in
      first_least-cons_option contribution_cmp (below_shape (shape + 1) made policy)
      (filter_map (below_shape (shape + 1) made) policies)
      ∙ ap (combined contribution_cmp (below_shape (shape + 1) made policy)) (least-below-more shape policies rising.1)
      ∙ one-more policy (in_shape shape made policy) (below_shape shape made policy)
      (below_shape (shape + 1) made policy)
      of below (parted shape policy)
      (if-some (nat_lt (shape_of policy.key) shape) (λ later. later.key ≡ policy.key) (made policy) (own.key policy))
      (first_least-all contribution_cmp (λ (later : Contribution). key_cmp policy.key later.key ≡ Less)
      (filter_map (in_shape shape made) policies) (all-behind shape policy policies rising.0))
      ∙ sym (λ i. combined contribution_cmp
      (first_least-cons_option contribution_cmp (in_shape shape made policy)
      (filter_map (in_shape shape made) policies) i)
      (first_least-cons_option contribution_cmp (below_shape shape made policy)
      (filter_map (below_shape shape made) policies) i))

  -- below the first shape there is none, and below the last all are
  pub least-below-first : (policies : List Policy)
      → first_least contribution_cmp (filter_map (below_shape 0 made) policies) ≡ None
  least-below-first policies = ap (first_least contribution_cmp) (none policies)
    where
      none : (list : List Policy) → filter_map (below_shape 0 made) list ≡ []
      none [] = refl
      none (policy ∷ list) =
          ap (λ b. cons_option (cond b (made policy) None) (filter_map (below_shape 0 made) list))
          (le-ltb (shape_of policy.key) 0 (omega arith))
          ∙ none list

  pub least-below-last : (shape : ℕ) (policies : List Policy) → 8 ≤ shape
      → first_least contribution_cmp (filter_map (below_shape shape made) policies)
      ≡ first_least contribution_cmp (filter_map made policies)
  least-below-last shape policies last =
      ap (first_least contribution_cmp)
      (filter_map-same (below_shape shape made) made policies
      (λ policy. let key = policy.key in
      let below = shape-below (is_wild key.client) (is_wild key.user) (is_wild key.privilege) in
      ap (λ b. cond b (made policy) None) (lt-ltb (shape_of policy.key) shape (omega arith))))
