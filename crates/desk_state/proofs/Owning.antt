-- The policies of one bucket among those of all: what the settled buckets have, and which changes leave them.
use Rattle.std.proofs.Common.{◌≡◌, ℕ, Bool, true, false, not, cond, ◌&&◌, List, [], ◌∷◌, ◌++◌, map, refl, sym, ap, ◌∙◌}
use Rattle.std.specs.declared.cmp.Ordering.{Ordering}
use Rattle.std.specs.declared.cmp.Ordering.TheVariants.{Less, Equal, Greater}
use Rattle.std.specs.List.{AllByRecursion, filter}
use Rattle.std.specs.List.Sorted.{IsStrictlySortedBy}
use Rattle.std.specs.Ordering.{is_lt, is_gt, is_eq, ordering_reverse, ordering_then}
use Rattle.std.proofs.lemmas.Bool.{true≢false}
use Rattle.std.proofs.lemmas.List.Elements.{filter-append}
use Rattle.cynara_keys.specs.Text.{same_text, text_cmp}
use Rattle.cynara_keys.specs.Key.{key_cmp, same_key}
use Rattle.cynara_keys.specs.declared.keys.Policy.{Policy}
use Rattle.cynara_keys.proofs.Order.{same_text-≡, ≡-same_text, text_total, text_cmp-equal}
use Rattle.bucket_store.specs.Database.{Database, Placed}
use Rattle.bucket_store.specs.Order.{placed_cmp, policy_cmp}
use Rattle.bucket_store.specs.Change.{after_change, is_at}
use Rattle.bucket_store.specs.parts.Batch.{name_of}
use Rattle.bucket_store.specs.declared.policy_changes.Change.{Change}
use Rattle.bucket_store.specs.declared.policy_changes.Change.TheVariants.{Set, Delete}
use Rattle.app_registry.specs.Registry.{RegistryLists}
use Rattle.desk_state.specs.Layout.{main, manifests, with_own, main_policies, manifest_policies, settled}
use Rattle.desk_state.proofs.Filters.{filter-within, filter-outside, AllUp, up, three-parts, up-through}

-- the policies of a bucket
abbrev pub own : List ℕ → List Placed → List Placed
own name policies = filter (λ (placed : Placed). same_text placed.bucket name) policies

abbrev pub in_bucket : List ℕ → Policy → Placed
in_bucket name policy = record { bucket = name; policy = policy }

text-tied : (a b : List ℕ) → text_cmp a b ≡ Equal → a ≡ b
text-tied a b h = same_text-≡ a b (sym (text_cmp-equal a b) ∙ ap is_eq h)

same-tied : (a b : List ℕ) → same_text a b ≡ true → text_cmp a b ≡ Equal
same-tied a b h = equal (text_cmp a b) (text_cmp-equal a b ∙ h)
  where
    equal : (o : Ordering) → is_eq o ≡ true → o ≡ Equal
    equal Less is = cc
    equal Equal is = refl
    equal Greater is = cc

-- ---- a list in the order of its buckets

behind-up : (name : List ℕ) (x y : Placed) → placed_cmp x y ≡ Less → up (text_cmp x.bucket name) (text_cmp y.bucket name) ≡ true
behind-up name x y less = at (text_cmp x.bucket y.bucket) refl less
  where
    same : (o : Ordering) → up o o ≡ true
    same Less = refl
    same Equal = refl
    same Greater = refl

    at : (o : Ordering) → text_cmp x.bucket y.bucket ≡ o → ordering_then o (policy_cmp x.policy y.policy) ≡ Less
        → up (text_cmp x.bucket name) (text_cmp y.bucket name) ≡ true
    at Less is h = up-through text_total name x.bucket y.bucket is
    at Equal is h =
        ap (λ bucket. up (text_cmp x.bucket name) (text_cmp bucket name)) (sym (text-tied x.bucket y.bucket is))
        ∙ same (text_cmp x.bucket name)
    at Greater is h = cc

buckets-up : (name : List ℕ) (policies : List Placed) → IsStrictlySortedBy placed_cmp policies
    → AllUp (λ (placed : Placed). text_cmp placed.bucket name) policies
unfolding IsStrictlySortedBy
buckets-up name [] rise = tt
buckets-up name (x ∷ xs) rise = (each xs rise.0, buckets-up name xs rise.1)
  where
    each : (ys : List Placed) → AllByRecursion (λ (y : Placed). placed_cmp x y ≡ Less) ys
        → AllByRecursion (λ (y : Placed). up (text_cmp x.bucket name) (text_cmp y.bucket name) ≡ true) ys
    each [] all = tt
    each (y ∷ ys) all = (behind-up name x y all.0, each ys all.1)

-- policies put in place of the ones that are there
pub with_own-same : (name : List ℕ) (own_policies : List Policy) (policies : List Placed) → IsStrictlySortedBy placed_cmp policies
    → own name policies ≡ map (in_bucket name) own_policies → with_own name own_policies policies ≡ policies
with_own-same name own_policies policies rise is =
    let below = filter (λ (placed : Placed). is_lt (text_cmp placed.bucket name)) policies in
    let above = filter (λ (placed : Placed). is_gt (text_cmp placed.bucket name)) policies in
    ap (λ middle. below ++ (middle ++ above)) (sym is)
    ∙ ap (λ middle. below ++ (middle ++ above))
    (λ i. filter (λ (placed : Placed). sym (text_cmp-equal placed.bucket name) i) policies)
    ∙ three-parts (λ (placed : Placed). text_cmp placed.bucket name) policies (buckets-up name policies rise)

-- ---- what a bucket has whose policies were put in place

lt-apart : (o : Ordering) → is_eq o ≡ true → is_lt o ≡ false
lt-apart Less h = absurd (true≢false (sym h))
lt-apart Equal h = refl
lt-apart Greater h = refl

gt-apart : (o : Ordering) → is_eq o ≡ true → is_gt o ≡ false
gt-apart Less h = refl
gt-apart Equal h = refl
gt-apart Greater h = absurd (true≢false (sym h))

own-made : (name : List ℕ) (policies : List Policy) → own name (map (in_bucket name) policies) ≡ map (in_bucket name) policies
own-made name [] = refl
own-made name (policy ∷ policies) =
    ap (λ b. cond b (in_bucket name policy ∷ own name (map (in_bucket name) policies)) (own name (map (in_bucket name) policies)))
    (≡-same_text name name refl)
    ∙ ap (λ rest. in_bucket name policy ∷ rest) (own-made name policies)

not-own-made : (name other : List ℕ) → same_text other name ≡ false → (policies : List Policy)
    → own name (map (in_bucket other) policies) ≡ []
not-own-made name other apart [] = refl
not-own-made name other apart (policy ∷ policies) =
    ap (λ b. cond b (in_bucket other policy ∷ own name (map (in_bucket other) policies)) (own name (map (in_bucket other) policies))) apart
    ∙ not-own-made name other apart policies

own-parts : (name other : List ℕ) (own_policies : List Policy) (policies : List Placed)
    → own name (with_own other own_policies policies)
    ≡ own name (filter (λ (placed : Placed). is_lt (text_cmp placed.bucket other)) policies)
    ++ (own name (map (in_bucket other) own_policies) ++ own name (filter (λ (placed : Placed). is_gt (text_cmp placed.bucket other)) policies))
own-parts name other own_policies policies =
    let below = filter (λ (placed : Placed). is_lt (text_cmp placed.bucket other)) policies in
    let above = filter (λ (placed : Placed). is_gt (text_cmp placed.bucket other)) policies in
    filter-append (λ (placed : Placed). same_text placed.bucket name) below (map (in_bucket other) own_policies ++ above)
    ∙ ap (λ rest. own name below ++ rest)
    (filter-append (λ (placed : Placed). same_text placed.bucket name) (map (in_bucket other) own_policies) above)

append-none : {X : Type 0} (xs : List X) → xs ++ [] ≡ xs
append-none [] = refl
append-none (x ∷ xs) = ap (λ rest. x ∷ rest) (append-none xs)

pub own-with_own : (name : List ℕ) (own_policies : List Policy) (policies : List Placed)
    → own name (with_own name own_policies policies) ≡ map (in_bucket name) own_policies
own-with_own name own_policies policies =
    own-parts name name own_policies policies
    ∙ (λ i. filter-outside (λ (placed : Placed). same_text placed.bucket name) (λ (placed : Placed). is_lt (text_cmp placed.bucket name))
    (λ placed is. lt-apart (text_cmp placed.bucket name) (text_cmp-equal placed.bucket name ∙ is)) policies i
    ++ (own-made name own_policies i
    ++ filter-outside (λ (placed : Placed). same_text placed.bucket name) (λ (placed : Placed). is_gt (text_cmp placed.bucket name))
    (λ placed is. gt-apart (text_cmp placed.bucket name) (text_cmp-equal placed.bucket name ∙ is)) policies i))
    ∙ append-none (map (in_bucket name) own_policies)

-- the bucket of a name that comes before
own-before : (name other : List ℕ) → text_cmp name other ≡ Less → same_text other name ≡ false
    → (own_policies : List Policy) (policies : List Placed) → own name (with_own other own_policies policies) ≡ own name policies
own-before name other less apart own_policies policies =
    own-parts name other own_policies policies
    ∙ (λ i. filter-within (λ (placed : Placed). same_text placed.bucket name) (λ (placed : Placed). is_lt (text_cmp placed.bucket other))
    (λ placed is. ap is_lt (at placed is)) policies i
    ++ (not-own-made name other apart own_policies i
    ++ filter-outside (λ (placed : Placed). same_text placed.bucket name) (λ (placed : Placed). is_gt (text_cmp placed.bucket other))
    (λ placed is. ap is_gt (at placed is)) policies i))
    ∙ append-none (own name policies)
  where
    at : (placed : Placed) → same_text placed.bucket name ≡ true → text_cmp placed.bucket other ≡ Less
    at placed is = ap (λ bucket. text_cmp bucket other) (same_text-≡ placed.bucket name is) ∙ less

-- ---- the two settled buckets

pub record IsOwned (registry : RegistryLists) (policies : List Placed) : Type 0 where
  pub main : own main policies ≡ map (in_bucket main) (main_policies registry)
  pub manifests : own manifests policies ≡ map (in_bucket manifests) (manifest_policies registry)

pub settled-IsOwned : (registry : RegistryLists) (database : Database) → IsOwned registry (settled registry database).policies
settled-IsOwned registry database = record {
  main =
      own-before main manifests refl refl (manifest_policies registry) (with_own main (main_policies registry) database.policies)
      ∙ own-with_own main (main_policies registry) database.policies;
  manifests = own-with_own manifests (manifest_policies registry) (with_own main (main_policies registry) database.policies);
}

pub IsOwned-settled : (registry : RegistryLists) (database : Database) → IsStrictlySortedBy placed_cmp database.policies
    → IsOwned registry database.policies → settled registry database ≡ database
IsOwned-settled registry database rise owned =
    let inner = with_own-same main (main_policies registry) database.policies rise owned.main in
    let outer = with_own-same manifests (manifest_policies registry) database.policies rise owned.manifests in
    let policies : (settled registry database).policies ≡ database.policies =
    ap (with_own manifests (manifest_policies registry)) inner ∙ outer in
    λ i. record { buckets = database.buckets; policies = policies i }

-- ---- changes that leave a bucket as it is

-- whatever lies before the bucket of a change, or behind it
pub aside : (test : Placed → Bool) (change : Change) (o : Ordering) → is_eq o ≡ false
    → ((placed : Placed) → test placed ≡ true → text_cmp placed.bucket (name_of change) ≡ o) → (policies : List Placed)
    → filter test (after_change policies change) ≡ filter test policies
aside test (Set name key result) Equal apart beside policies = absurd (true≢false apart)
aside test (Set name key result) Less apart beside policies =
    filter-append test (filter (λ (other : Placed). is_lt (placed_cmp other (in_bucket name (record { key = key; result = result })))) policies)
    (in_bucket name (record { key = key; result = result })
    ∷ filter (λ (other : Placed). is_gt (placed_cmp other (in_bucket name (record { key = key; result = result })))) policies)
    ∙ (λ i. filter-within test (λ (other : Placed). is_lt (placed_cmp other (in_bucket name (record { key = key; result = result }))))
    (λ placed is. ap (λ o. is_lt (ordering_then o (key_cmp placed.policy.key key))) (beside placed is)) policies i
    ++ cond (out i) (in_bucket name (record { key = key; result = result }) ∷ above i) (above i))
    ∙ append-none (filter test policies)
  where
    out : test (in_bucket name (record { key = key; result = result })) ≡ false
    out = off (test (in_bucket name (record { key = key; result = result }))) refl
      where
        off : (b : Bool) → test (in_bucket name (record { key = key; result = result })) ≡ b → b ≡ false
        off true is = absurd (true≢false (ap is_eq (sym (same-tied name name (≡-same_text name name refl)) ∙ beside (in_bucket name (record { key = key; result = result })) is)))
        off false is = refl

    above : filter test (filter (λ (other : Placed). is_gt (placed_cmp other (in_bucket name (record { key = key; result = result })))) policies) ≡ []
    above =
        filter-outside test (λ (other : Placed). is_gt (placed_cmp other (in_bucket name (record { key = key; result = result }))))
        (λ placed is. ap (λ o. is_gt (ordering_then o (key_cmp placed.policy.key key))) (beside placed is)) policies
aside test (Set name key result) Greater apart beside policies =
    filter-append test (filter (λ (other : Placed). is_lt (placed_cmp other (in_bucket name (record { key = key; result = result })))) policies)
    (in_bucket name (record { key = key; result = result })
    ∷ filter (λ (other : Placed). is_gt (placed_cmp other (in_bucket name (record { key = key; result = result })))) policies)
    ∙ (λ i. filter-outside test (λ (other : Placed). is_lt (placed_cmp other (in_bucket name (record { key = key; result = result }))))
    (λ placed is. ap (λ o. is_lt (ordering_then o (key_cmp placed.policy.key key))) (beside placed is)) policies i
    ++ cond (out i) (in_bucket name (record { key = key; result = result }) ∷ above i) (above i))
  where
    out : test (in_bucket name (record { key = key; result = result })) ≡ false
    out = off (test (in_bucket name (record { key = key; result = result }))) refl
      where
        off : (b : Bool) → test (in_bucket name (record { key = key; result = result })) ≡ b → b ≡ false
        off true is = absurd (true≢false (ap is_eq (sym (same-tied name name (≡-same_text name name refl)) ∙ beside (in_bucket name (record { key = key; result = result })) is)))
        off false is = refl

    above : filter test (filter (λ (other : Placed). is_gt (placed_cmp other (in_bucket name (record { key = key; result = result })))) policies)
        ≡ filter test policies
    above =
        filter-within test (λ (other : Placed). is_gt (placed_cmp other (in_bucket name (record { key = key; result = result }))))
        (λ placed is. ap (λ o. is_gt (ordering_then o (key_cmp placed.policy.key key))) (beside placed is)) policies
aside test (Delete name key) o apart beside policies =
    filter-within test (λ (placed : Placed). not (is_at name key placed))
    (λ placed is. ap (λ b. not (b && same_key placed.policy.key key)) (sym (text_cmp-equal placed.bucket name) ∙ ap is_eq (beside placed is) ∙ apart)) policies

-- a change in another bucket
pub own-apart : (name : List ℕ) (change : Change) → same_text (name_of change) name ≡ false → (policies : List Placed)
    → own name (after_change policies change) ≡ own name policies
own-apart name change apart policies =
    aside (λ (placed : Placed). same_text placed.bucket name) change (text_cmp name (name_of change))
    (turned (text_cmp name (name_of change)) (text_cmp (name_of change) name) (text_total.antisymm (name_of change) name) (text_cmp-equal (name_of change) name ∙ apart))
    (λ placed is. ap (λ bucket. text_cmp bucket (name_of change)) (same_text-≡ placed.bucket name is)) policies
  where
    turned : (o p : Ordering) → p ≡ ordering_reverse o → is_eq p ≡ false → is_eq o ≡ false
    turned Less p is not_equal = refl
    turned Equal p is not_equal = absurd (true≢false (ap is_eq (sym is) ∙ not_equal))
    turned Greater p is not_equal = refl
