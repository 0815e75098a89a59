-- The merge of a bucket's policies with changes in the order of their keys.
use Rattle.std.proofs.Common.{◌≡◌, ℕ, ◌+◌, ◌<◌, ◌≤◌, suc, Bool, true, false, List, [], ◌∷◌, ◌++◌, length, take, drop}
use Rattle.std.proofs.Common.{get_or, refl, sym, ap, ◌∙◌, subst, arith, append_assoc, add-one}
use Rattle.std.specs.declared.cmp.Ordering.{Ordering}
use Rattle.std.specs.declared.cmp.Ordering.TheVariants.{Less, Equal, Greater}
use Rattle.std.specs.Ordering.{is_lt, is_gt}
use Rattle.std.specs.List.{AllByRecursion, filter, fold}
use Rattle.std.specs.List.Sorted.{IsStrictlySortedBy}
use Rattle.std.proofs.lemmas.Cmp.{upto}
use Rattle.std.proofs.lemmas.List.{take_at, drop_at, take_more}
use Rattle.std.proofs.lemmas.List.Elements.{filter-append}
use Rattle.std.proofs.Math.Seq.{drop-cons}
use Rattle.cynara_keys.specs.Key.{key_cmp}
use Rattle.cynara_keys.specs.Key.{Key}
use Rattle.cynara_keys.specs.declared.keys.Policy.{Policy}
use Rattle.cynara_keys.proofs.Order.{key_total}
use Rattle.bucket_store.specs.Order.{policy_cmp}
use Rattle.bucket_store.specs.parts.Batch.{key_of, effect, edited}
use Rattle.bucket_store.specs.parts.Merge.{AreInOrder, comes_first}
use Rattle.bucket_store.specs.parts.Search.{StandsAt, BelongsAt}
use Rattle.bucket_store.specs.declared.policy_changes.Change.{Change}
use Rattle.bucket_store.specs.declared.policy_changes.Change.TheVariants.{Set, Delete}
use Rattle.bucket_store.proofs.Lists.{All-weaker, All-append, All-front, All-passing, filter-none}
use Rattle.std.specs.List.Sorted.{IsSortedBy}
use Rattle.std.specs.Ordering.{ordering_reverse}
use Rattle.std.proofs.lemmas.Bool.{true≢false}
use Rattle.std.proofs.lemmas.List.{length-drop, drop-drop}
use Rattle.std.proofs.lemmas.List.Elements.{recursion_from_All}
use Rattle.std.proofs.lemmas.List.Sorted.{sorted_far, ranks_by}
use Rattle.bucket_store.proofs.Searching.{below-tied, above-tied, below-front, above-back}
use Rattle.bucket_store.proofs.Changing.{edited-rises, fold-end}

abbrev below : Key → List Policy → List Policy
below key policies = filter (λ policy. is_lt (key_cmp policy.key key)) policies

abbrev above : Key → List Policy → List Policy
above key policies = filter (λ policy. is_gt (key_cmp policy.key key)) policies

-- ---- where a search cuts

take-found : (key : Key) (policies : List Policy) (at : ℕ)
    → StandsAt (λ (policy : Policy). key_cmp policy.key key) policies at
    → take at policies ≡ filter (λ (policy : Policy). is_lt (key_cmp policy.key key)) policies
take-found key policies at stands =
    ap (take at) stands.parts ∙ take_at stands.front (stands.element ∷ stands.back) at stands.length_front
    ∙ sym (ap (filter (λ (policy : Policy). is_lt (key_cmp policy.key key))) stands.parts
    ∙ below-tied (λ (policy : Policy). key_cmp policy.key key)
    stands.front stands.element stands.back stands.before stands.ties stands.behind)

take-absent : (key : Key) (policies : List Policy) (at : ℕ)
    → BelongsAt (λ (policy : Policy). key_cmp policy.key key) policies at
    → take at policies ≡ filter (λ (policy : Policy). is_lt (key_cmp policy.key key)) policies
take-absent key policies at belongs =
    ap (take at) belongs.parts ∙ take_at belongs.front belongs.back at belongs.length_front
    ∙ sym (ap (filter (λ (policy : Policy). is_lt (key_cmp policy.key key))) belongs.parts
    ∙ below-front (λ (policy : Policy). key_cmp policy.key key)
    belongs.front belongs.back belongs.before belongs.behind)

drop-past : {X : Type 0} (front : List X) (x : X) (back : List X) → drop (length front + 1) (front ++ x ∷ back) ≡ back
drop-past [] x back = refl
drop-past (y ∷ front) x back = rw add-one (rw add-one at (drop-past front x back))

drop-found : (key : Key) (policies : List Policy) (at : ℕ)
    → StandsAt (λ (policy : Policy). key_cmp policy.key key) policies at
    → drop (at + 1) policies ≡ filter (λ (policy : Policy). is_gt (key_cmp policy.key key)) policies
drop-found key policies at stands =
    (λ i. drop (sym stands.length_front i + 1) (stands.parts i)) ∙ drop-past stands.front stands.element stands.back
    ∙ sym (ap (filter (λ (policy : Policy). is_gt (key_cmp policy.key key))) stands.parts
    ∙ above-tied (λ (policy : Policy). key_cmp policy.key key)
    stands.front stands.element stands.back stands.before stands.ties stands.behind)

drop-absent : (key : Key) (policies : List Policy) (at : ℕ)
    → BelongsAt (λ (policy : Policy). key_cmp policy.key key) policies at
    → drop at policies ≡ filter (λ (policy : Policy). is_gt (key_cmp policy.key key)) policies
drop-absent key policies at belongs =
    ap (drop at) belongs.parts ∙ drop_at belongs.front belongs.back at belongs.length_front
    ∙ sym (ap (filter (λ (policy : Policy). is_gt (key_cmp policy.key key))) belongs.parts
    ∙ above-back (λ (policy : Policy). key_cmp policy.key key) belongs.front belongs.back belongs.before belongs.behind)

pub cut-found : (key : Key) (policies : List Policy) (at : ℕ)
    → StandsAt (λ (policy : Policy). key_cmp policy.key key) policies at
    → take at policies ≡ filter (λ (policy : Policy). is_lt (key_cmp policy.key key)) policies
cut-found = take-found

pub cut-absent : (key : Key) (policies : List Policy) (at : ℕ)
    → BelongsAt (λ (policy : Policy). key_cmp policy.key key) policies at
    → take at policies ≡ filter (λ (policy : Policy). is_lt (key_cmp policy.key key)) policies
cut-absent = take-absent

pub rest-found : (key : Key) (policies : List Policy) (at : ℕ)
    → StandsAt (λ (policy : Policy). key_cmp policy.key key) policies at
    → drop (at + 1) policies ≡ filter (λ (policy : Policy). is_gt (key_cmp policy.key key)) policies
rest-found = drop-found

pub rest-absent : (key : Key) (policies : List Policy) (at : ℕ)
    → BelongsAt (λ (policy : Policy). key_cmp policy.key key) policies at
    → drop at policies ≡ filter (λ (policy : Policy). is_gt (key_cmp policy.key key)) policies
rest-absent = drop-absent

-- ---- one turn

-- none of the policies comes behind the change
abbrev pub NoneBehind : List Policy → Change → Type 0
NoneBehind policies change =
    AllByRecursion (λ (policy : Policy). is_gt (key_cmp policy.key (key_of change)) ≡ false) policies

-- what is done and what is left, before and after a change
pub turn-is : (done rest done' rest' : List Policy) (change : Change) → NoneBehind done change
    → done' ≡ filter (λ (policy : Policy). is_lt (key_cmp policy.key (key_of change))) done
    ++ (filter (λ (policy : Policy). is_lt (key_cmp policy.key (key_of change))) rest ++ effect change)
    → rest' ≡ filter (λ (policy : Policy). is_gt (key_cmp policy.key (key_of change))) rest
    → done' ++ rest' ≡ edited (done ++ rest) change
turn-is done rest done' rest' change none made left =
    let lt : Policy → Bool = λ policy. is_lt (key_cmp policy.key (key_of change)) in
    let gt : Policy → Bool = λ policy. is_gt (key_cmp policy.key (key_of change)) in
    (λ i. made i ++ left i)
    ∙ append_assoc (filter lt done) (filter lt rest ++ effect change) (filter gt rest)
    ∙ ap (λ list. filter lt done ++ list) (append_assoc (filter lt rest) (effect change) (filter gt rest))
    ∙ sym (append_assoc (filter lt done) (filter lt rest) (effect change ++ filter gt rest))
    ∙ (λ i. sym (filter-append lt done rest) i
    ++ (effect change ++ sym
    (filter-append gt done rest ∙ ap (λ list. list ++ filter gt rest) (filter-none gt done none)) i))

lt-not-gt : (o : Ordering) → is_lt o ≡ true → is_gt o ≡ false
lt-not-gt Less h = refl
lt-not-gt Equal h = refl
lt-not-gt Greater h = cc

-- nothing done comes behind a later change
pub still-before : (done rest done' : List Policy) (change later : Change)
    → is_gt (key_cmp (key_of change) (key_of later)) ≡ false
    → done' ≡ filter (λ (policy : Policy). is_lt (key_cmp policy.key (key_of change))) done
    ++ (filter (λ (policy : Policy). is_lt (key_cmp policy.key (key_of change))) rest ++ effect change)
    → NoneBehind done' later
still-before done rest done' change later order made =
    let behind = λ (policy : Policy). is_gt (key_cmp policy.key (key_of later)) ≡ false in
    let lt : Policy → Bool = λ policy. is_lt (key_cmp policy.key (key_of change)) in
    let passing : (policy : Policy) → lt policy ≡ true → is_gt (key_cmp policy.key (key_of later)) ≡ false =
    λ policy h. upto key_total policy.key (key_of change) (key_of later)
    (lt-not-gt (key_cmp policy.key (key_of change)) h) order in
    subst (AllByRecursion behind) (sym made)
    (All-append behind (filter lt done) (filter lt rest ++ effect change) (All-passing behind lt passing done)
    (All-append behind (filter lt rest) (effect change) (All-passing behind lt passing rest)
    (own-before change later order)))
  where
    own-before : (change later : Change) → is_gt (key_cmp (key_of change) (key_of later)) ≡ false
        → AllByRecursion (λ (policy : Policy). is_gt (key_cmp policy.key (key_of later)) ≡ false) (effect change)
    own-before (Set name key result) later order = (order, tt)
    own-before (Delete name key) later order = tt

pub all-before : (done rest done' : List Policy) (change : Change) (changes : List Change)
    → AllByRecursion (λ later. is_gt (key_cmp (key_of change) (key_of later)) ≡ false) changes
    → done' ≡ filter (λ (policy : Policy). is_lt (key_cmp policy.key (key_of change))) done
    ++ (filter (λ (policy : Policy). is_lt (key_cmp policy.key (key_of change))) rest ++ effect change)
    → AllByRecursion (NoneBehind done') changes
all-before done rest done' change changes order made =
    All-weaker (λ (later : Change). is_gt (key_cmp (key_of change) (key_of later)) ≡ false) (NoneBehind done')
    (λ later h. still-before done rest done' change later h made) changes order

-- the state of the merge before the change at a place
pub record IsMerging (policies : List Policy) (changes : List Change) (done : List Policy) (from at : ℕ) : Type 0 where
  pub within : from ≤ length policies
  pub made : done ++ drop from policies ≡ fold edited policies (take at changes)
  pub before : AllByRecursion (NoneBehind done) (drop at changes)
  pub order : AreInOrder (drop at changes)
  pub rise : IsStrictlySortedBy policy_cmp (done ++ drop from policies)

strictly-front : (xs ys : List Policy) → IsStrictlySortedBy policy_cmp (xs ++ ys) → IsStrictlySortedBy policy_cmp xs
unfolding IsStrictlySortedBy
strictly-front [] ys rise = tt
strictly-front (x ∷ xs) ys rise =
    (All-front (λ (other : Policy). policy_cmp x other ≡ Less) xs ys rise.0, strictly-front xs ys rise.1)

strictly-back : (xs ys : List Policy) → IsStrictlySortedBy policy_cmp (xs ++ ys) → IsStrictlySortedBy policy_cmp ys
unfolding IsStrictlySortedBy
strictly-back [] ys rise = rise
strictly-back (x ∷ xs) ys rise = strictly-back xs ys rise.1

module _ {policies : List Policy} {changes : List Change} {done : List Policy} {from at : ℕ}
    (state : IsMerging policies changes done from at) where
  pub done-rises : IsStrictlySortedBy policy_cmp done
  done-rises = strictly-front done (drop from policies) state.rise

  pub rest-rises : IsStrictlySortedBy policy_cmp (drop from policies)
  rest-rises = strictly-back done (drop from policies) state.rise

pub merging-turn : (policies : List Policy) (changes : List Change) (done : List Policy) (from at : ℕ)
    → IsMerging policies changes done from at
    → at < length changes → (change : Change) → change ≡ get_or changes at change → (done' : List Policy) (taken : ℕ)
    → taken ≤ length (drop from policies)
    → done' ≡ filter (λ (policy : Policy). is_lt (key_cmp policy.key (key_of change))) done
    ++ (filter (λ (policy : Policy). is_lt (key_cmp policy.key (key_of change))) (drop from policies) ++ effect change)
    → drop taken (drop from policies) ≡ filter (λ (policy : Policy). is_gt (key_cmp policy.key (key_of change)))
    (drop from policies)
    → IsMerging policies changes done' (from + taken) (at + 1)
merging-turn policies changes done from at state lt change is done' taken short made left =
    let rest = drop from policies in
    let long = length-drop from policies in
    let next : drop at changes ≡ change ∷ drop (at + 1) changes =
    drop-cons changes at change lt ∙ (λ i. sym is i ∷ drop (sym (add-one at) i) changes) in
    let before = subst (AllByRecursion (NoneBehind done)) next state.before in
    let order = subst AreInOrder next state.order in
    let further : drop (from + taken) policies ≡ drop taken rest = sym (drop-drop taken from policies) in
    let now : done' ++ drop (from + taken) policies ≡ edited (done ++ rest) change =
    turn-is done rest done' (drop (from + taken) policies) change before.0 made (further ∙ left) in
    record {
      within = omega (arith, short, long, state.within);
      made = now ∙ ap (λ list. edited list change) state.made
          ∙ sym (ap (fold edited policies)
          (take_more changes at change lt ∙ ap (λ one. take at changes ++ one ∷ []) (sym is))
          ∙ fold-end edited policies (take at changes) change);
      before = all-before done rest done' change (drop (at + 1) changes) order.0 made;
      order = order.1;
      rise = subst (IsStrictlySortedBy policy_cmp) (sym now) (edited-rises (done ++ rest) change state.rise);
    }

-- ---- changes sorted by key

not-behind : (first later : Change) → comes_first later first ≡ false
    → is_gt (key_cmp (key_of first) (key_of later)) ≡ false
not-behind first later h =
    ap is_gt (key_total.antisymm (key_of first) (key_of later)) ∙ turned (key_cmp (key_of later) (key_of first)) h
  where
    turned : (o : Ordering) → is_lt o ≡ false → is_gt (ordering_reverse o) ≡ false
    turned Less h = absurd (true≢false h)
    turned Equal h = refl
    turned Greater h = refl

pub in-order : (changes : List Change) → IsSortedBy comes_first changes → AreInOrder changes
in-order [] sorted = tt
in-order (change ∷ changes) sorted = (
  recursion_from_All (λ (later : Change). is_gt (key_cmp (key_of change) (key_of later)) ≡ false) changes (λ k d lt.
      not-behind change (get_or changes k d)
      (sorted_far comes_first (ranks_by key_total key_of) (change ∷ changes) sorted 0 (suc k) d (omega arith)
      (omega arith))),
  in-order changes (λ k d low high. rw add-one (rw add-one at (sorted (suc k) d (omega arith) (omega arith)))),
)
