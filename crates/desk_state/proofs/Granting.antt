-- What installs grant after a change of the registry: `MANIFESTS` follows by taking away and allowing what the changed
-- part of them grants.
use Rattle.std.proofs.Common.{◌≡◌, ◌⊎◌, inl, inr, Bool, true, false, not, cond, ◌&&◌, ◌||◌, List, [], ◌∷◌, ◌++◌, map, refl, sym, ap, ◌∙◌}
use Rattle.std.specs.declared.cmp.Ordering.{Ordering}
use Rattle.std.specs.declared.cmp.Ordering.TheVariants.{Less, Equal, Greater}
use Rattle.std.specs.List.{AllByRecursion, filter, fold, list_any}
use Rattle.std.specs.List.Sorted.{IsStrictlySortedBy}
use Rattle.std.specs.Ordering.{is_lt, is_gt, is_eq}
use Rattle.std.proofs.lemmas.Bool.{true≢false}
use Rattle.std.proofs.lemmas.List.Folds.{list_any-append}
use Rattle.std.proofs.lemmas.List.Elements.{filter-append}
use Rattle.cynara_keys.specs.Text.{same_text, text_cmp}
use Rattle.cynara_keys.specs.Key.{key_cmp}
use Rattle.cynara_keys.specs.Key.{Key}
use Rattle.cynara_keys.specs.declared.keys.Policy.{Policy}
use Rattle.cynara_keys.specs.PolicyResult.{allow}
use Rattle.cynara_keys.proofs.Order.{≡-same_text, key_total}
use Rattle.bucket_store.specs.Database.{Database, Placed}
use Rattle.bucket_store.specs.Order.{placed_cmp, policy_cmp}
use Rattle.bucket_store.specs.Change.{after_change}
use Rattle.bucket_store.specs.parts.Batch.{name_of}
use Rattle.bucket_store.specs.declared.policy_changes.Change.{Change}
use Rattle.app_registry.specs.Manifest.{install_grants, grants, manifest_rows}
use Rattle.app_registry.specs.Registry.{RegistryLists}
use Rattle.app_registry.specs.declared.installs.Install.{Install}
use Rattle.app_registry.proofs.Grants.{grants_are}
use Rattle.app_registry.proofs.Rising.{rising_rises}
use Rattle.desk_state.specs.Layout.{main, manifests, with_own, main_policies, manifest_policies, settled}
use Rattle.desk_state.specs.parts.Following.{grant_changes}
use Rattle.desk_state.proofs.Filters.{filter-within}
use Rattle.desk_state.proofs.Owning.{own, in_bucket, aside}
use Rattle.desk_state.proofs.Settling.{at_key, settle, fold-at, fold-append, own-known, hits, grant_at, allowed_at, deletes-at, sets-at, rows-at, tied-bucket}

-- ---- the two parts of the installs

or_front : (a o u : Bool) → (a || (o || u)) ≡ ((a || o) || u)
or_front true o u = refl
or_front false o u = refl

or_back : (a o u : Bool) → (a || (o || u)) ≡ (o || (a || u))
or_back true true u = refl
or_back true false u = refl
or_back false o u = refl

both-parts : (key : Key) (test : Install → Bool) (installs : List Install)
    → list_any (hits key) (grants installs)
    ≡ (list_any (hits key) (grants (filter test installs)) || list_any (hits key) (grants (filter (λ install. not (test install)) installs)))
both-parts key test [] = refl
both-parts key test (install ∷ installs) =
    list_any-append (hits key) (install_grants install) (grants installs)
    ∙ ap (λ b. list_any (hits key) (install_grants install) || b) (both-parts key test installs)
    ∙ parts (test install)
  where
    parts : (b : Bool)
        → (list_any (hits key) (install_grants install)
        || (list_any (hits key) (grants (filter test installs)) || list_any (hits key) (grants (filter (λ (other : Install). not (test other)) installs))))
        ≡ (list_any (hits key) (grants (cond b (install ∷ filter test installs) (filter test installs)))
        || list_any (hits key) (grants (cond (not b) (install ∷ filter (λ (other : Install). not (test other)) installs) (filter (λ (other : Install). not (test other)) installs))))
    parts true =
        or_front (list_any (hits key) (install_grants install)) (list_any (hits key) (grants (filter test installs)))
        (list_any (hits key) (grants (filter (λ (other : Install). not (test other)) installs)))
        ∙ ap (λ b. b || list_any (hits key) (grants (filter (λ (other : Install). not (test other)) installs)))
        (sym (list_any-append (hits key) (install_grants install) (grants (filter test installs))))
    parts false =
        or_back (list_any (hits key) (install_grants install)) (list_any (hits key) (grants (filter test installs)))
        (list_any (hits key) (grants (filter (λ (other : Install). not (test other)) installs)))
        ∙ ap (λ b. list_any (hits key) (grants (filter test installs)) || b)
        (sym (list_any-append (hits key) (install_grants install) (grants (filter (λ (other : Install). not (test other)) installs))))

-- what is taken away and allowed, by what the parts grant
come-to : {X : Type 0} (new old other : Bool) (x y : X) → (old ≡ true → other ≡ false)
    → cond new x (cond old y (cond (old || other) x y)) ≡ cond (new || other) x y
come-to true old other x y apart = refl
come-to false true other x y apart = ap (λ b. cond b x y) (sym (apart refl))
come-to false false other x y apart = refl

allowed-map : (keys : List Key)
    → map (in_bucket manifests) (map (λ key. record { key = key; result = record { kind = allow; metadata = [] } }) keys) ≡ map allowed_at keys
allowed-map [] = refl
allowed-map (key ∷ keys) = ap (λ rest. allowed_at key ∷ rest) (allowed-map keys)

each-behind : (key : Key) (keys : List Key) → AllByRecursion (λ (other : Key). key_cmp key other ≡ Less) keys
    → AllByRecursion (λ (other : Policy). key_cmp key other.key ≡ Less) (map (λ key. record { key = key; result = record { kind = allow; metadata = [] } }) keys)
each-behind key [] all = tt
each-behind key (other ∷ keys) all = (all.0, each-behind key keys all.1)

keys-rise : (keys : List Key) → IsStrictlySortedBy key_cmp keys
    → IsStrictlySortedBy policy_cmp (map (λ key. record { key = key; result = record { kind = allow; metadata = [] } }) keys)
unfolding IsStrictlySortedBy
keys-rise [] rise = tt
keys-rise (key ∷ keys) rise = (each-behind key keys rise.0, keys-rise keys rise.1)

pub manifests-rise : (registry : RegistryLists) → IsStrictlySortedBy policy_cmp (manifest_policies registry)
manifests-rise registry = keys-rise (manifest_rows registry) (rising_rises key_total (grants registry.installs))

module _ (before after : RegistryLists) (test : Install → Bool) (policies : List Placed)
    (owned : own manifests policies ≡ map (in_bucket manifests) (manifest_policies before))
    (rest : filter (λ (install : Install). not (test install)) after.installs ≡ filter (λ (install : Install). not (test install)) before.installs)
    (apart : (key : Key) → list_any (hits key) (grants (filter test before.installs)) ≡ true
    → list_any (hits key) (grants (filter (λ (install : Install). not (test install)) before.installs)) ≡ false) where
  abbrev changes : List Change
  changes = grant_changes false test before.installs ++ grant_changes true test after.installs

  was : (key : Key)
      → filter (λ (placed : Placed). is_eq (placed_cmp placed (in_bucket manifests (at_key key)))) policies
      ≡ cond (list_any (hits key) (grants before.installs)) (allowed_at (grant_at key) ∷ []) []
  was key =
      sym (filter-within (λ (placed : Placed). is_eq (placed_cmp placed (in_bucket manifests (at_key key)))) (λ (placed : Placed). same_text placed.bucket manifests)
      (λ placed tied. ≡-same_text placed.bucket manifests (tied-bucket placed (in_bucket manifests (at_key key)) tied)) policies)
      ∙ ap (filter (λ (placed : Placed). is_eq (placed_cmp placed (in_bucket manifests (at_key key))))) (owned ∙ allowed-map (manifest_rows before))
      ∙ rows-at key (grants before.installs) (grants_are before.installs)

  follow-at : (key : Key)
      → filter (λ (placed : Placed). is_eq (placed_cmp placed (in_bucket manifests (at_key key)))) (fold after_change policies changes)
      ≡ filter (λ (placed : Placed). is_eq (placed_cmp placed (in_bucket manifests (at_key key)))) (map (in_bucket manifests) (manifest_policies after))
  follow-at key =
      let place = in_bucket manifests (at_key key) in
      let some = allowed_at (grant_at key) ∷ [] in
      let new = list_any (hits key) (grants (filter test after.installs)) in
      let old = list_any (hits key) (grants (filter test before.installs)) in
      let other = list_any (hits key) (grants (filter (λ (install : Install). not (test install)) before.installs)) in
      fold-at place changes policies
      ∙ fold-append (settle place) (filter (λ (placed : Placed). is_eq (placed_cmp placed place)) policies) (grant_changes false test before.installs)
      (grant_changes true test after.installs)
      ∙ ap (λ list. fold (settle place) list (grant_changes true test after.installs))
      (deletes-at key (grants (filter test before.installs)) (filter (λ (placed : Placed). is_eq (placed_cmp placed place)) policies))
      ∙ sets-at key (grants (filter test after.installs)) (grants_are (filter test after.installs))
      (cond old [] (filter (λ (placed : Placed). is_eq (placed_cmp placed place)) policies))
      ∙ ap (λ list. cond new some (cond old [] list)) (was key ∙ ap (λ b. cond b some []) (both-parts key test before.installs))
      ∙ come-to new old other some [] (apart key)
      ∙ ap (λ installs. cond (new || list_any (hits key) (grants installs)) some []) (sym rest)
      ∙ ap (λ b. cond b some []) (sym (both-parts key test after.installs))
      ∙ sym (rows-at key (grants after.installs) (grants_are after.installs))
      ∙ ap (filter (λ (placed : Placed). is_eq (placed_cmp placed place))) (sym (allowed-map (manifest_rows after)))

  pub manifests-follow : IsStrictlySortedBy placed_cmp (fold after_change policies changes)
      → own manifests (fold after_change policies changes) ≡ map (in_bucket manifests) (manifest_policies after)
  manifests-follow rise =
      own-known manifests (fold after_change policies changes) (manifest_policies after) rise (manifests-rise after) follow-at

-- ---- changes in the two buckets leave all others

-- the change is in one of the two
abbrev pub IsFollowing : Change → Type 0
IsFollowing change = (name_of change ≡ main) ⊎ (name_of change ≡ manifests)

both-sides : (a b : Bool) → (a && b) ≡ true → (a ≡ true) × (b ≡ true)
both-sides true b h = (refl, h)
both-sides false b h = absurd (true≢false (sym h))

lt-Less : (o : Ordering) → is_lt o ≡ true → o ≡ Less
lt-Less Less h = refl
lt-Less Equal h = absurd (true≢false (sym h))
lt-Less Greater h = absurd (true≢false (sym h))

gt-Greater : (o : Ordering) → is_gt o ≡ true → o ≡ Greater
gt-Greater Less h = absurd (true≢false (sym h))
gt-Greater Equal h = absurd (true≢false (sym h))
gt-Greater Greater h = refl

module _ (first second : Ordering → Bool) (o p : Ordering) (first-is : (order : Ordering) → first order ≡ true → order ≡ o)
    (second-is : (order : Ordering) → second order ≡ true → order ≡ p) (first-apart : is_eq o ≡ false) (second-apart : is_eq p ≡ false) where
  zone-once : (change : Change) → IsFollowing change → (policies : List Placed)
      → filter (λ (placed : Placed). first (text_cmp placed.bucket main) && second (text_cmp placed.bucket manifests)) (after_change policies change)
      ≡ filter (λ (placed : Placed). first (text_cmp placed.bucket main) && second (text_cmp placed.bucket manifests)) policies
  zone-once change (inl is) policies =
      aside (λ (placed : Placed). first (text_cmp placed.bucket main) && second (text_cmp placed.bucket manifests)) change o first-apart
      (λ placed inside.
      ap (text_cmp placed.bucket) is
      ∙ first-is (text_cmp placed.bucket main) (both-sides (first (text_cmp placed.bucket main)) (second (text_cmp placed.bucket manifests)) inside).0) policies
  zone-once change (inr is) policies =
      aside (λ (placed : Placed). first (text_cmp placed.bucket main) && second (text_cmp placed.bucket manifests)) change p second-apart
      (λ placed inside.
      ap (text_cmp placed.bucket) is
      ∙ second-is (text_cmp placed.bucket manifests) (both-sides (first (text_cmp placed.bucket main)) (second (text_cmp placed.bucket manifests)) inside).1) policies

  zone-all : (changes : List Change) → AllByRecursion IsFollowing changes → (policies : List Placed)
      → filter (λ (placed : Placed). first (text_cmp placed.bucket main) && second (text_cmp placed.bucket manifests)) (fold after_change policies changes)
      ≡ filter (λ (placed : Placed). first (text_cmp placed.bucket main) && second (text_cmp placed.bucket manifests)) policies
  zone-all [] all policies = refl
  zone-all (change ∷ changes) all policies = zone-all changes all.1 (after_change policies change) ∙ zone-once change all.0 policies

-- two filters as one
twice : (test other : Placed → Bool) (policies : List Placed)
    → filter test (filter other policies) ≡ filter (λ (placed : Placed). other placed && test placed) policies
twice test other [] = refl
twice test other (placed ∷ policies) = parts (other placed) (twice test other policies)
  where
    parts : (b : Bool) → filter test (filter other policies) ≡ filter (λ (one : Placed). other one && test one) policies
        → filter test (cond b (placed ∷ filter other policies) (filter other policies))
        ≡ cond (b && test placed) (placed ∷ filter (λ (one : Placed). other one && test one) policies) (filter (λ (one : Placed). other one && test one) policies)
    parts true rest = ap (λ list. cond (test placed) (placed ∷ list) list) rest
    parts false rest = rest

module _ (changes : List Change) (all : AllByRecursion IsFollowing changes) (policies : List Placed) where
  abbrev changed : List Placed
  changed = fold after_change policies changes

  same-zone : (first second : Ordering → Bool) (o p : Ordering) → ((order : Ordering) → first order ≡ true → order ≡ o)
      → ((order : Ordering) → second order ≡ true → order ≡ p) → is_eq o ≡ false → is_eq p ≡ false
      → filter (λ (placed : Placed). second (text_cmp placed.bucket manifests)) (filter (λ (placed : Placed). first (text_cmp placed.bucket main)) (fold after_change policies changes))
      ≡ filter (λ (placed : Placed). second (text_cmp placed.bucket manifests)) (filter (λ (placed : Placed). first (text_cmp placed.bucket main)) policies)
  same-zone first second o p first-is second-is first-apart second-apart =
      twice (λ (placed : Placed). second (text_cmp placed.bucket manifests)) (λ (placed : Placed). first (text_cmp placed.bucket main)) (fold after_change policies changes)
      ∙ zone-all first second o p first-is second-is first-apart second-apart changes all policies
      ∙ sym (twice (λ (placed : Placed). second (text_cmp placed.bucket manifests)) (λ (placed : Placed). first (text_cmp placed.bucket main)) policies)

  around : (second : Ordering → Bool) (p : Ordering) → ((order : Ordering) → second order ≡ true → order ≡ p) → is_eq p ≡ false
      → (mains : List Policy)
      → filter (λ (placed : Placed). second (text_cmp placed.bucket manifests)) (with_own main mains (fold after_change policies changes))
      ≡ filter (λ (placed : Placed). second (text_cmp placed.bucket manifests)) (with_own main mains policies)
  around second p second-is second-apart mains =
      three (filter (λ (placed : Placed). is_lt (text_cmp placed.bucket main)) (fold after_change policies changes))
      (filter (λ (placed : Placed). is_gt (text_cmp placed.bucket main)) (fold after_change policies changes))
      ∙ (λ i. same-zone is_lt second Less p lt-Less second-is refl second-apart i
      ++ (filter (λ (placed : Placed). second (text_cmp placed.bucket manifests)) (map (in_bucket main) mains)
      ++ same-zone is_gt second Greater p gt-Greater second-is refl second-apart i))
      ∙ sym (three (filter (λ (placed : Placed). is_lt (text_cmp placed.bucket main)) policies) (filter (λ (placed : Placed). is_gt (text_cmp placed.bucket main)) policies))
    where
      three : (front back : List Placed)
          → filter (λ (placed : Placed). second (text_cmp placed.bucket manifests)) (front ++ (map (in_bucket main) mains ++ back))
          ≡ filter (λ (placed : Placed). second (text_cmp placed.bucket manifests)) front
          ++ (filter (λ (placed : Placed). second (text_cmp placed.bucket manifests)) (map (in_bucket main) mains)
          ++ filter (λ (placed : Placed). second (text_cmp placed.bucket manifests)) back)
      three front back =
          filter-append (λ (placed : Placed). second (text_cmp placed.bucket manifests)) front (map (in_bucket main) mains ++ back)
          ∙ ap (λ list. filter (λ (placed : Placed). second (text_cmp placed.bucket manifests)) front ++ list)
          (filter-append (λ (placed : Placed). second (text_cmp placed.bucket manifests)) (map (in_bucket main) mains) back)

  pub settled-around : (registry : RegistryLists) (buckets : Database)
      → (settled registry (record { buckets = buckets.buckets; policies = fold after_change policies changes })).policies
      ≡ (settled registry (record { buckets = buckets.buckets; policies = policies })).policies
  settled-around registry buckets =
      λ i. around is_lt Less lt-Less refl (main_policies registry) i
      ++ (map (in_bucket manifests) (manifest_policies registry)
      ++ around is_gt Greater gt-Greater refl (main_policies registry) i)
