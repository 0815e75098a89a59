-- Changes sorted by key, ties in their order, make the same policies as the changes in their order.
use Rattle.std.proofs.Common.{◌≡◌, Bool, true, false, not, cond, ◌&&◌, List, [], ◌∷◌, ◌++◌, refl, sym, ap, ◌∙◌}
use Rattle.std.proofs.Common.{append-nil}
use Rattle.std.specs.declared.cmp.Ordering.{Ordering}
use Rattle.std.specs.declared.cmp.Ordering.TheVariants.{Less, Equal, Greater}
use Rattle.std.specs.Ordering.{is_lt, is_gt, is_eq, ordering_reverse}
use Rattle.std.specs.List.{AllByRecursion, filter, fold}
use Rattle.std.specs.List.Sorted.{IsStrictlySortedBy, IsStableBy, ties}
use Rattle.std.proofs.lemmas.Bool.{true≢false}
use Rattle.std.proofs.lemmas.Cmp.{tied_itself, tied_back}
use Rattle.std.proofs.lemmas.List.Elements.{filter-append, filter_agree}
use Rattle.cynara_keys.specs.Key.{key_cmp}
use Rattle.cynara_keys.specs.Key.{Key}
use Rattle.cynara_keys.specs.declared.keys.Policy.{Policy}
use Rattle.cynara_keys.proofs.Order.{key_total}
use Rattle.bucket_store.specs.Order.{policy_cmp}
use Rattle.bucket_store.specs.parts.Batch.{key_of, effect, edited}
use Rattle.bucket_store.specs.parts.Merge.{comes_first}
use Rattle.bucket_store.specs.declared.policy_changes.Change.{Change}
use Rattle.bucket_store.specs.declared.policy_changes.Change.TheVariants.{Set, Delete}
use Rattle.bucket_store.proofs.Lists.{All-weaker, filter-none}
use Rattle.bucket_store.proofs.Changing.{edited-rises}

-- ---- a rising list is known by what it has at each key

Some-not-nil : {X : Type 0} (x : X) (xs : List X) → x ∷ xs ≡ [] → ⊥
Some-not-nil x xs h = cc

later-none : (policy : Policy) (policies : List Policy)
    → AllByRecursion (λ (other : Policy). policy_cmp policy other ≡ Less) policies
    → (key : Key) → is_gt (key_cmp key policy.key) ≡ false
    → filter (λ (other : Policy). is_eq (key_cmp other.key key)) policies ≡ []
later-none policy policies later key up =
    filter-none (λ (other : Policy). is_eq (key_cmp other.key key)) policies
    (All-weaker (λ (other : Policy). policy_cmp policy other ≡ Less) (λ other. is_eq (key_cmp other.key key) ≡ false)
    (λ other after. behind (key_cmp key policy.key) refl up other after) policies later)
  where
    behind : (o : Ordering) → key_cmp key policy.key ≡ o → is_gt o ≡ false → (other : Policy)
        → policy_cmp policy other ≡ Less
        → is_eq (key_cmp other.key key) ≡ false
    behind Less is up other after =
        ap is_eq (key_total.antisymm other.key key
        ∙ ap ordering_reverse (key_total.trans key policy.key other.key is after))
    behind Equal is up other after =
        ap is_eq (key_total.antisymm other.key key
        ∙ ap ordering_reverse (key_total.congr key policy.key other.key is ∙ after))
    behind Greater is up other after = absurd (true≢false up)

at-head : (policy : Policy) (policies : List Policy)
    → AllByRecursion (λ (other : Policy). policy_cmp policy other ≡ Less) policies
    → (key : Key) → key_cmp policy.key key ≡ Equal
    → filter (λ (other : Policy). is_eq (key_cmp other.key key)) (policy ∷ policies) ≡ policy ∷ []
at-head policy policies later key tied =
    ap (λ b. cond b (policy ∷ filter (λ (other : Policy). is_eq (key_cmp other.key key)) policies)
    (filter (λ (other : Policy). is_eq (key_cmp other.key key)) policies)) (ap is_eq tied)
    ∙ ap (λ rest. policy ∷ rest)
    (later-none policy policies later key (ap is_gt (tied_back key_total policy.key key tied)))

before-all : (policy : Policy) (policies : List Policy)
    → AllByRecursion (λ (other : Policy). policy_cmp policy other ≡ Less) policies
    → (key : Key) → key_cmp key policy.key ≡ Less
    → filter (λ (other : Policy). is_eq (key_cmp other.key key)) (policy ∷ policies) ≡ []
before-all policy policies later key less =
    ap (λ b. cond b (policy ∷ filter (λ (other : Policy). is_eq (key_cmp other.key key)) policies)
    (filter (λ (other : Policy). is_eq (key_cmp other.key key)) policies))
    (ap is_eq (key_total.antisymm policy.key key ∙ ap ordering_reverse less))
    ∙ later-none policy policies later key (ap is_gt less)

abbrev SameAtEach : List Policy → List Policy → Type 0
SameAtEach xs ys =
    (key : Key) → filter (λ (other : Policy). is_eq (key_cmp other.key key)) xs ≡ filter
    (λ (other : Policy). is_eq (key_cmp other.key key)) ys

heads : (x y : Policy) → x ∷ [] ≡ y ∷ [] → x ≡ y
heads x y h = cc

-- the tails have the same at each key too
tails : (x y : Policy) (xs ys : List Policy) → x ≡ y → AllByRecursion (λ (other : Policy). policy_cmp x other ≡ Less) xs
    → AllByRecursion (λ (other : Policy). policy_cmp y other ≡ Less) ys
    → ((key : Key) → filter (λ (other : Policy). is_eq (key_cmp other.key key)) (x ∷ xs) ≡ filter
    (λ (other : Policy). is_eq (key_cmp other.key key)) (y ∷ ys))
    → SameAtEach xs ys
tails x y xs ys head before behind same key = parts (key_cmp x.key key) refl
  where
    parts : (o : Ordering) → key_cmp x.key key ≡ o
        → filter (λ (other : Policy). is_eq (key_cmp other.key key)) xs ≡ filter
        (λ (other : Policy). is_eq (key_cmp other.key key)) ys
    parts Equal is =
        later-none x xs before key (ap is_gt (tied_back key_total x.key key is))
        ∙ sym (later-none y ys behind key
        (ap is_gt (ap (key_cmp key) (ap (λ (p : Policy). p.key) (sym head)) ∙ tied_back key_total x.key key is)))
    parts Less is =
        ap (λ o. cond (is_eq o) (x ∷ filter (λ (other : Policy). is_eq (key_cmp other.key key)) xs)
        (filter (λ (other : Policy). is_eq (key_cmp other.key key)) xs)) (sym is)
        ∙ same key
        ∙ ap (λ o. cond (is_eq o) (y ∷ filter (λ (other : Policy). is_eq (key_cmp other.key key)) ys)
        (filter (λ (other : Policy). is_eq (key_cmp other.key key)) ys))
        (ap (λ (p : Policy). key_cmp p.key key) (sym head) ∙ is)
    parts Greater is =
        ap (λ o. cond (is_eq o) (x ∷ filter (λ (other : Policy). is_eq (key_cmp other.key key)) xs)
        (filter (λ (other : Policy). is_eq (key_cmp other.key key)) xs)) (sym is)
        ∙ same key
        ∙ ap (λ o. cond (is_eq o) (y ∷ filter (λ (other : Policy). is_eq (key_cmp other.key key)) ys)
        (filter (λ (other : Policy). is_eq (key_cmp other.key key)) ys))
        (ap (λ (p : Policy). key_cmp p.key key) (sym head) ∙ is)

known-by-keys : (xs ys : List Policy) → IsStrictlySortedBy policy_cmp xs → IsStrictlySortedBy policy_cmp ys
    → SameAtEach xs ys → xs ≡ ys
unfolding IsStrictlySortedBy
known-by-keys [] [] rise more same = refl
known-by-keys [] (y ∷ ys) rise more same =
    absurd (Some-not-nil y [] (sym (at-head y ys more.0 y.key (tied_itself key_total y.key)) ∙ sym (same y.key)))
known-by-keys (x ∷ xs) [] rise more same =
    absurd (Some-not-nil x [] (sym (at-head x xs rise.0 x.key (tied_itself key_total x.key)) ∙ same x.key))
known-by-keys (x ∷ xs) (y ∷ ys) rise more same =
    let rest : x ≡ y → SameAtEach xs ys = λ head. tails x y xs ys head rise.0 more.0 same in
    parts (λ head. known-by-keys xs ys rise.1 more.1 (rest head)) (key_cmp x.key y.key) refl
  where
    parts : (x ≡ y → xs ≡ ys) → (o : Ordering) → key_cmp x.key y.key ≡ o → x ∷ xs ≡ y ∷ ys
    parts rest Less is =
        absurd (Some-not-nil x []
        (sym (at-head x xs rise.0 x.key (tied_itself key_total x.key)) ∙ same x.key ∙ before-all y ys more.0 x.key is))
    parts rest Greater is =
        absurd (Some-not-nil y [] (sym (at-head y ys more.0 y.key (tied_itself key_total y.key)) ∙ sym (same y.key)
        ∙ before-all x xs rise.0 y.key (key_total.antisymm y.key x.key ∙ ap ordering_reverse is)))
    parts rest Equal is =
        let head : x ≡ y = heads x y
        (sym (at-head x xs rise.0 y.key is) ∙ same y.key ∙ at-head y ys more.0 y.key (tied_itself key_total y.key)) in
        λ i. head i ∷ rest head i

-- ---- what changes leave at a key

filter-within : {X : Type 0} (test kept : X → Bool) → ((x : X) → test x ≡ true → kept x ≡ true) → (xs : List X)
    → filter test (filter kept xs) ≡ filter test xs
filter-within test kept both [] = refl
filter-within test kept both (x ∷ xs) = parts (filter-within test kept both xs) (kept x) (test x) refl refl
  where
    parts : filter test (filter kept xs) ≡ filter test xs → (keeps passes : Bool) → kept x ≡ keeps → test x ≡ passes
        → filter test (cond keeps (x ∷ filter kept xs) (filter kept xs)) ≡ cond passes (x ∷ filter test xs)
        (filter test xs)
    parts rest true true is has = ap (λ b. cond b (x ∷ filter test (filter kept xs)) (filter test (filter kept xs))) has
        ∙ ap (λ list. x ∷ list) rest
    parts rest true false is has =
        ap (λ b. cond b (x ∷ filter test (filter kept xs)) (filter test (filter kept xs))) has ∙ rest
    parts rest false true is has = absurd (true≢false (sym (both x has) ∙ is))
    parts rest false false is has = rest

filter-outside : {X : Type 0} (test kept : X → Bool) → ((x : X) → test x ≡ true → kept x ≡ false) → (xs : List X)
    → filter test (filter kept xs) ≡ []
filter-outside test kept both [] = refl
filter-outside test kept both (x ∷ xs) = parts (filter-outside test kept both xs) (kept x) (test x) refl refl
  where
    parts : filter test (filter kept xs) ≡ [] → (keeps passes : Bool) → kept x ≡ keeps → test x ≡ passes
        → filter test (cond keeps (x ∷ filter kept xs) (filter kept xs)) ≡ []
    parts rest true true is has = absurd (true≢false (sym is ∙ both x has))
    parts rest true false is has =
        ap (λ b. cond b (x ∷ filter test (filter kept xs)) (filter test (filter kept xs))) has ∙ rest
    parts rest false passes is has = rest

eq-tied : (o : Ordering) → is_eq o ≡ true → o ≡ Equal
eq-tied Less h = cc
eq-tied Equal h = refl
eq-tied Greater h = cc

turn : (o : Ordering) → is_eq (ordering_reverse o) ≡ is_eq o
turn Less = refl
turn Equal = refl
turn Greater = refl

either-way : (list : List Policy) (b : Bool) → list ≡ cond b list list
either-way list true = refl
either-way list false = refl

effect-at : (key : Key) (change : Change) (o : Ordering) → key_cmp key (key_of change) ≡ o
    → filter (λ (policy : Policy). is_eq (key_cmp policy.key key)) (effect change) ≡ cond (is_eq o) (effect change) []
effect-at key (Set name own result) o is =
    let policy : Policy = record { key = own; result = result } in
    ap (λ b. cond b (policy ∷ []) []) (ap is_eq (key_total.antisymm own key ∙ ap ordering_reverse is) ∙ turn o)
effect-at key (Delete name own) o is = either-way [] (is_eq o)

at-own : (key own : Key) (o : Ordering) → key_cmp key own ≡ o → (policy : Policy)
    → is_eq (key_cmp policy.key key) ≡ true
    → key_cmp policy.key own ≡ o
at-own key own o is policy tied = key_total.congr policy.key key own (eq-tied (key_cmp policy.key key) tied) ∙ is

-- a change leaves at its own key what it puts, and at another key what is there
edited-at : (key : Key) (change : Change) (policies : List Policy) (o : Ordering) → key_cmp key (key_of change) ≡ o
    → filter (λ (policy : Policy). is_eq (key_cmp policy.key key)) (edited policies change)
    ≡ cond (is_eq o) (effect change) (filter (λ (policy : Policy). is_eq (key_cmp policy.key key)) policies)
edited-at key change policies o is = joined ∙ parts o is
  where
    joined : filter (λ (policy : Policy). is_eq (key_cmp policy.key key)) (edited policies change)
        ≡ filter (λ (policy : Policy). is_eq (key_cmp policy.key key))
        (filter (λ (policy : Policy). is_lt (key_cmp policy.key (key_of change))) policies)
        ++ (filter (λ (policy : Policy). is_eq (key_cmp policy.key key)) (effect change)
        ++ filter (λ (policy : Policy). is_eq (key_cmp policy.key key))
        (filter (λ (policy : Policy). is_gt (key_cmp policy.key (key_of change))) policies))
    joined =
        let tests : Policy → Bool = λ policy. is_eq (key_cmp policy.key key) in
        let belows = filter (λ (policy : Policy). is_lt (key_cmp policy.key (key_of change))) policies in
        let aboves = filter (λ (policy : Policy). is_gt (key_cmp policy.key (key_of change))) policies in
        filter-append tests belows (effect change ++ aboves)
        ∙ ap (λ rest. filter tests belows ++ rest) (filter-append tests (effect change) aboves)

    parts : (o : Ordering) → key_cmp key (key_of change) ≡ o
        → filter (λ (policy : Policy). is_eq (key_cmp policy.key key))
        (filter (λ (policy : Policy). is_lt (key_cmp policy.key (key_of change))) policies)
        ++ (filter (λ (policy : Policy). is_eq (key_cmp policy.key key)) (effect change)
        ++ filter (λ (policy : Policy). is_eq (key_cmp policy.key key))
        (filter (λ (policy : Policy). is_gt (key_cmp policy.key (key_of change))) policies))
        ≡ cond (is_eq o) (effect change) (filter (λ (policy : Policy). is_eq (key_cmp policy.key key)) policies)
    parts Less is =
        let tests : Policy → Bool = λ policy. is_eq (key_cmp policy.key key) in
        (λ i. filter-within tests (λ (policy : Policy). is_lt (key_cmp policy.key (key_of change)))
        (λ policy tied. ap is_lt (at-own key (key_of change) Less is policy tied)) policies i
        ++ (effect-at key change Less is i
        ++ filter-outside tests (λ (policy : Policy). is_gt (key_cmp policy.key (key_of change)))
        (λ policy tied. ap is_gt (at-own key (key_of change) Less is policy tied)) policies i))
        ∙ append-nil (filter tests policies)
    parts Equal is =
        let tests : Policy → Bool = λ policy. is_eq (key_cmp policy.key key) in
        (λ i. filter-outside tests (λ (policy : Policy). is_lt (key_cmp policy.key (key_of change)))
        (λ policy tied. ap is_lt (at-own key (key_of change) Equal is policy tied)) policies i
        ++ (effect-at key change Equal is i
        ++ filter-outside tests (λ (policy : Policy). is_gt (key_cmp policy.key (key_of change)))
        (λ policy tied. ap is_gt (at-own key (key_of change) Equal is policy tied)) policies i))
        ∙ append-nil (effect change)
    parts Greater is =
        let tests : Policy → Bool = λ policy. is_eq (key_cmp policy.key key) in
        λ i. filter-outside tests (λ (policy : Policy). is_lt (key_cmp policy.key (key_of change)))
        (λ policy tied. ap is_lt (at-own key (key_of change) Greater is policy tied)) policies i
        ++ (effect-at key change Greater is i
        ++ filter-within tests (λ (policy : Policy). is_gt (key_cmp policy.key (key_of change)))
        (λ policy tied. ap is_gt (at-own key (key_of change) Greater is policy tied)) policies i)

-- the changes of a key, in their order, settle what is at it
abbrev settle : List Policy → Change → List Policy
settle old change = effect change

fold-at : (key : Key) (changes : List Change) (policies : List Policy)
    → filter (λ (policy : Policy). is_eq (key_cmp policy.key key)) (fold edited policies changes)
    ≡ fold settle (filter (λ (policy : Policy). is_eq (key_cmp policy.key key)) policies)
    (filter (λ (change : Change). is_eq (key_cmp key (key_of change))) changes)
fold-at key [] policies = refl
fold-at key (change ∷ changes) policies =
    fold-at key changes (edited policies change)
    ∙ ap (λ old. fold settle old (filter (λ (change : Change). is_eq (key_cmp key (key_of change))) changes))
    (edited-at key change policies (key_cmp key (key_of change)) refl)
    ∙ parts (is_eq (key_cmp key (key_of change)))
  where
    parts : (b : Bool)
        → fold settle (cond b (effect change) (filter (λ (policy : Policy). is_eq (key_cmp policy.key key)) policies))
        (filter (λ (change : Change). is_eq (key_cmp key (key_of change))) changes)
        ≡ fold settle (filter (λ (policy : Policy). is_eq (key_cmp policy.key key)) policies)
        (cond b (change ∷ filter (λ (change : Change). is_eq (key_cmp key (key_of change))) changes)
        (filter (λ (change : Change). is_eq (key_cmp key (key_of change))) changes))
    parts true = refl
    parts false = refl

-- ---- sorted changes

tie-cases : (there back : Ordering) → back ≡ ordering_reverse there
    → (not (is_lt there) && not (is_lt back)) ≡ is_eq there
tie-cases Less back is = refl
tie-cases Equal back is = ap (λ o. not (is_lt o)) is
tie-cases Greater back is = ap (λ o. not (is_lt o)) is

stable-at : (key : Key) (changes sorted : List Change) → IsStableBy comes_first changes sorted
    → filter (λ (change : Change). is_eq (key_cmp key (key_of change))) sorted
    ≡ filter (λ (change : Change). is_eq (key_cmp key (key_of change))) changes
stable-at key changes sorted stable =
    let probe : Change = Delete [] key in
    let same : (list : List Change)
    → filter (ties comes_first probe) list ≡ filter (λ (change : Change). is_eq (key_cmp key (key_of change))) list =
    λ list. filter_agree (ties comes_first probe) (λ (change : Change). is_eq (key_cmp key (key_of change)))
    (λ change. tie-cases (key_cmp key (key_of change)) (key_cmp (key_of change) key)
    (key_total.antisymm (key_of change) key)) list in
    sym (same sorted) ∙ stable probe ∙ same changes

fold-rises : (policies : List Policy) (changes : List Change) → IsStrictlySortedBy policy_cmp policies
    → IsStrictlySortedBy policy_cmp (fold edited policies changes)
fold-rises policies [] rise = rise
fold-rises policies (change ∷ changes) rise =
    fold-rises (edited policies change) changes (edited-rises policies change rise)

-- changes sorted by key, ties in their order, make the same of policies as the changes in their order
pub sorted-same : (policies : List Policy) (changes sorted : List Change) → IsStrictlySortedBy policy_cmp policies
    → IsStableBy comes_first changes sorted → fold edited policies sorted ≡ fold edited policies changes
sorted-same policies changes sorted rise stable =
    known-by-keys (fold edited policies sorted) (fold edited policies changes) (fold-rises policies sorted rise)
    (fold-rises policies changes rise)
    (λ key. fold-at key sorted policies
    ∙ ap (fold settle (filter (λ (policy : Policy). is_eq (key_cmp policy.key key)) policies))
    (stable-at key changes sorted stable)
    ∙ sym (fold-at key changes policies))
