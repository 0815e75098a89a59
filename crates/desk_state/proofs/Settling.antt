-- What changes leave at one place, and what the grants of installs and the links of users come to there.
use Rattle.std.proofs.Common.{◌≡◌, ℕ, Bool, true, false, not, cond, ◌&&◌, ◌||◌, List, [], ◌∷◌, ◌++◌, map, refl, sym, ap, ◌∙◌}
use Rattle.std.specs.declared.cmp.Ordering.{Ordering}
use Rattle.std.specs.declared.cmp.Ordering.TheVariants.{Less, Equal, Greater}
use Rattle.std.specs.List.{AllByRecursion, filter, fold, list_any}
use Rattle.std.specs.List.Sorted.{IsStrictlySortedBy}
use Rattle.std.specs.Ordering.{is_eq, ordering_then}
use Rattle.std.proofs.lemmas.Bool.{true≢false}
use Rattle.std.proofs.lemmas.List.Kept.{IsStrictlySortedBy-filter}
use Rattle.cynara_keys.specs.Text.{same_text, text_cmp}
use Rattle.cynara_keys.specs.Field.{field_text, field_of, same_field}
use Rattle.cynara_keys.specs.Key.{key_cmp, same_key}
use Rattle.cynara_keys.specs.PolicyResult.{allow}
use Rattle.cynara_keys.specs.declared.fields.Field.TheVariants.{Exact}
use Rattle.cynara_keys.specs.Key.{Key}
use Rattle.cynara_keys.specs.declared.keys.Policy.{Policy}
use Rattle.cynara_keys.proofs.Order.{same_text-≡, ≡-same_text, text_cmp-equal, key_total, key_cmp-equal}
use Rattle.bucket_store.specs.Database.{Placed}
use Rattle.bucket_store.specs.Order.{placed_cmp, policy_cmp}
use Rattle.bucket_store.specs.Change.{after_change, is_at}
use Rattle.bucket_store.specs.parts.Batch.{name_of, key_of}
use Rattle.bucket_store.specs.declared.policy_changes.Change.{Change}
use Rattle.bucket_store.specs.declared.policy_changes.Change.TheVariants.{Set, Delete}
use Rattle.bucket_store.proofs.Lists.{filter-map}
use Rattle.bucket_store.proofs.Searching.{put-rises}
use Rattle.bucket_store.proofs.Sound.{placed_total}
use Rattle.app_registry.specs.Rising.{rising}
use Rattle.app_registry.proofs.Grants.{IsGrant}
use Rattle.desk_state.specs.Layout.{manifests}
use Rattle.desk_state.specs.parts.Following.{grant_change}
use Rattle.desk_state.proofs.Filters.{filter-within, filter-outside}
use Rattle.desk_state.proofs.Known.{known, put-at, rising-at, first_at, eq-tied}
use Rattle.desk_state.proofs.Owning.{own, in_bucket}

-- a policy at a key, with some result
abbrev pub at_key : Key → Policy
at_key key = record { key = key; result = record { kind = 0; metadata = [] } }

-- ---- changes at a place

-- the place of a change
abbrev pub place_of : Change → Placed
place_of change = in_bucket (name_of change) (at_key (key_of change))

abbrev pub made : Change → List Placed
made (Set name key result) = in_bucket name (record { key = key; result = result }) ∷ []
made (Delete name key) = []

abbrev pub settle : Placed → List Placed → Change → List Placed
settle place old change = cond (is_eq (placed_cmp place (place_of change))) (made change) old

both-equal : (o p : Ordering) → is_eq (ordering_then o p) ≡ (is_eq o && is_eq p)
both-equal Less p = refl
both-equal Equal p = refl
both-equal Greater p = refl

at-is : (name : List ℕ) (key : Key) (placed : Placed)
    → is_at name key placed ≡ is_eq (placed_cmp placed (in_bucket name (at_key key)))
at-is name key placed =
    (λ i. sym (text_cmp-equal placed.bucket name) i && sym (key_cmp-equal placed.policy.key key) i)
    ∙ sym (both-equal (text_cmp placed.bucket name) (key_cmp placed.policy.key key))

deleted-at : (place : Placed) (name : List ℕ) (key : Key) (policies : List Placed) (b : Bool)
    → is_eq (placed_cmp place (in_bucket name (at_key key))) ≡ b
    → filter (λ (placed : Placed). is_eq (placed_cmp placed place)) (filter (λ (placed : Placed). not (is_at name key placed)) policies)
    ≡ cond b [] (filter (λ (placed : Placed). is_eq (placed_cmp placed place)) policies)
deleted-at place name key policies b is = parts b is
  where
    tied : (placed : Placed) → is_eq (placed_cmp placed place) ≡ true
        → placed_cmp placed (in_bucket name (at_key key)) ≡ placed_cmp place (in_bucket name (at_key key))
    tied placed here =
        placed_total.congr placed place (in_bucket name (at_key key)) (eq-tied (placed_cmp placed place) here)

    parts : (b : Bool) → is_eq (placed_cmp place (in_bucket name (at_key key))) ≡ b
        → filter (λ (placed : Placed). is_eq (placed_cmp placed place)) (filter (λ (placed : Placed). not (is_at name key placed)) policies)
        ≡ cond b [] (filter (λ (placed : Placed). is_eq (placed_cmp placed place)) policies)
    parts true is =
        filter-outside (λ (placed : Placed). is_eq (placed_cmp placed place)) (λ (placed : Placed). not (is_at name key placed))
        (λ placed here. ap not (at-is name key placed ∙ ap is_eq (tied placed here) ∙ is)) policies
    parts false is =
        filter-within (λ (placed : Placed). is_eq (placed_cmp placed place)) (λ (placed : Placed). not (is_at name key placed))
        (λ placed here. ap not (at-is name key placed ∙ ap is_eq (tied placed here) ∙ is)) policies

after-at : (place : Placed) (change : Change) (policies : List Placed)
    → filter (λ (placed : Placed). is_eq (placed_cmp placed place)) (after_change policies change)
    ≡ settle place (filter (λ (placed : Placed). is_eq (placed_cmp placed place)) policies) change
after-at place (Set name key result) policies =
    put-at placed_total (in_bucket name (record { key = key; result = result })) place policies
after-at place (Delete name key) policies = deleted-at place name key policies (is_eq (placed_cmp place (in_bucket name (at_key key)))) refl

pub fold-at : (place : Placed) (changes : List Change) (policies : List Placed)
    → filter (λ (placed : Placed). is_eq (placed_cmp placed place)) (fold after_change policies changes)
    ≡ fold (settle place) (filter (λ (placed : Placed). is_eq (placed_cmp placed place)) policies) changes
fold-at place [] policies = refl
fold-at place (change ∷ changes) policies =
    fold-at place changes (after_change policies change)
    ∙ ap (λ old. fold (settle place) old changes) (after-at place change policies)

pub fold-rises : (policies : List Placed) (changes : List Change) → IsStrictlySortedBy placed_cmp policies
    → IsStrictlySortedBy placed_cmp (fold after_change policies changes)
fold-rises policies [] rise = rise
fold-rises policies (Set name key result ∷ changes) rise =
    fold-rises (after_change policies (Set name key result)) changes
    (put-rises placed_total (in_bucket name (record { key = key; result = result })) policies rise)
fold-rises policies (Delete name key ∷ changes) rise =
    fold-rises (after_change policies (Delete name key)) changes
    (IsStrictlySortedBy-filter placed_cmp (λ (placed : Placed). not (is_at name key placed)) policies rise)

pub fold-append : {A B : Type 0} (f : B → A → B) (start : B) (xs ys : List A) → fold f start (xs ++ ys) ≡ fold f (fold f start xs) ys
fold-append f start [] ys = refl
fold-append f start (x ∷ xs) ys = fold-append f (f start x) xs ys

-- ---- the policies of a bucket are known by their keys

map-rises : (name : List ℕ) (policies : List Policy) → IsStrictlySortedBy policy_cmp policies
    → IsStrictlySortedBy placed_cmp (map (in_bucket name) policies)
unfolding IsStrictlySortedBy
map-rises name [] rise = tt
map-rises name (policy ∷ policies) rise = (each policies rise.0, map-rises name policies rise.1)
  where
    each : (others : List Policy) → AllByRecursion (λ (other : Policy). policy_cmp policy other ≡ Less) others
        → AllByRecursion (λ (other : Placed). placed_cmp (in_bucket name policy) other ≡ Less) (map (in_bucket name) others)
    each [] all = tt
    each (other ∷ others) all =
        (ap (λ o. ordering_then o (policy_cmp policy other)) (own-tied (text_cmp name name) (text_cmp-equal name name ∙ ≡-same_text name name refl)) ∙ all.0, each others all.1)
      where
        own-tied : (o : Ordering) → is_eq o ≡ true → o ≡ Equal
        own-tied o is = eq-tied o is

first-tied : (o p : Ordering) → is_eq (ordering_then o p) ≡ true → is_eq o ≡ true
first-tied Less p h = h
first-tied Equal p h = refl
first-tied Greater p h = h

-- what ties with a place is in the place's bucket
pub tied-bucket : (placed place : Placed) → is_eq (placed_cmp placed place) ≡ true → placed.bucket ≡ place.bucket
tied-bucket placed place here =
    same_text-≡ placed.bucket place.bucket
    (sym (text_cmp-equal placed.bucket place.bucket) ∙ first-tied (text_cmp placed.bucket place.bucket) (policy_cmp placed.policy place.policy) here)

pub own-known : (name : List ℕ) (policies : List Placed) (own_policies : List Policy) → IsStrictlySortedBy placed_cmp policies
    → IsStrictlySortedBy policy_cmp own_policies
    → ((key : Key) → filter (λ (placed : Placed). is_eq (placed_cmp placed (in_bucket name (at_key key)))) policies
    ≡ filter (λ (placed : Placed). is_eq (placed_cmp placed (in_bucket name (at_key key)))) (map (in_bucket name) own_policies))
    → own name policies ≡ map (in_bucket name) own_policies
own-known name policies own_policies rise more same =
    known placed_total (own name policies) (map (in_bucket name) own_policies)
    (IsStrictlySortedBy-filter placed_cmp (λ (placed : Placed). same_text placed.bucket name) policies rise) (map-rises name own_policies more) each
  where
    each : (place : Placed) → filter (λ (placed : Placed). is_eq (placed_cmp placed place)) (own name policies)
        ≡ filter (λ (placed : Placed). is_eq (placed_cmp placed place)) (map (in_bucket name) own_policies)
    each place = parts (same_text place.bucket name) refl
      where
        parts : (b : Bool) → same_text place.bucket name ≡ b
            → filter (λ (placed : Placed). is_eq (placed_cmp placed place)) (own name policies)
            ≡ filter (λ (placed : Placed). is_eq (placed_cmp placed place)) (map (in_bucket name) own_policies)
        parts true is =
            let here : place.bucket ≡ name = same_text-≡ place.bucket name is in
            filter-within (λ (placed : Placed). is_eq (placed_cmp placed place)) (λ (placed : Placed). same_text placed.bucket name)
            (λ placed tied. ≡-same_text placed.bucket name (tied-bucket placed place tied ∙ here)) policies
            ∙ (λ i. filter (λ (placed : Placed). is_eq (placed_cmp placed (in_bucket (here i) place.policy))) policies)
            ∙ same place.policy.key
            ∙ (λ i. filter (λ (placed : Placed). is_eq (placed_cmp placed (in_bucket (sym here i) place.policy))) (map (in_bucket name) own_policies))
        parts false is =
            filter-outside (λ (placed : Placed). is_eq (placed_cmp placed place)) (λ (placed : Placed). same_text placed.bucket name)
            (λ placed tied. ap (λ bucket. same_text bucket name) (tied-bucket placed place tied) ∙ is) policies
            ∙ sym (none own_policies)
          where
            off : (policy : Policy) (b : Bool) → is_eq (placed_cmp (in_bucket name policy) place) ≡ b → b ≡ false
            off policy true tied = absurd (true≢false (sym (≡-same_text place.bucket name (sym (tied-bucket (in_bucket name policy) place tied))) ∙ is))
            off policy false tied = refl

            none : (others : List Policy)
                → filter (λ (placed : Placed). is_eq (placed_cmp placed place)) (map (in_bucket name) others) ≡ []
            none [] = refl
            none (policy ∷ others) =
                ap (λ b. cond b (in_bucket name policy ∷ filter (λ (placed : Placed). is_eq (placed_cmp placed place)) (map (in_bucket name) others))
                (filter (λ (placed : Placed). is_eq (placed_cmp placed place)) (map (in_bucket name) others)))
                (off policy (is_eq (placed_cmp (in_bucket name policy) place)) refl)
                ∙ none others

-- ---- grants at a key

-- the grant that a key ties with, if it ties with one
abbrev pub grant_at : Key → Key
grant_at key =
    record { client = Exact (field_text key.client); user = field_of (field_text key.user); privilege = Exact (field_text key.privilege) }

abbrev pub hits : Key → Key → Bool
hits key other = is_eq (key_cmp key other)

abbrev pub allowed_at : Key → Placed
allowed_at key = in_bucket manifests (record { key = key; result = record { kind = allow; metadata = [] } })

split : (a b : Bool) → (a && b) ≡ true → (a ≡ true) × (b ≡ true)
split true b h = (refl, h)
split false b h = absurd (true≢false (sym h))

pub grant-known : (key grant : Key) → IsGrant grant → hits key grant ≡ true → grant ≡ grant_at key
grant-known key grant is tied =
    let same : same_key key grant ≡ true = sym (key_cmp-equal key grant) ∙ tied in
    let client = (split (same_field key.client grant.client) (same_field key.user grant.user && same_field key.privilege grant.privilege) same).0 in
    let later = (split (same_field key.client grant.client) (same_field key.user grant.user && same_field key.privilege grant.privilege) same).1 in
    let user = (split (same_field key.user grant.user) (same_field key.privilege grant.privilege) later).0 in
    let privilege = (split (same_field key.user grant.user) (same_field key.privilege grant.privilege) later).1 in
    let clients : grant.client ≡ Exact (field_text key.client) =
    is.client ∙ ap Exact (sym (same_text-≡ (field_text key.client) (field_text grant.client) client)) in
    let users : grant.user ≡ field_of (field_text key.user) =
    sym is.user ∙ ap field_of (sym (same_text-≡ (field_text key.user) (field_text grant.user) user)) in
    let privileges : grant.privilege ≡ Exact (field_text key.privilege) =
    is.privilege ∙ ap Exact (sym (same_text-≡ (field_text key.privilege) (field_text grant.privilege) privilege)) in
    λ i. record { client = clients i; user = users i; privilege = privileges i }

later-cond : {X : Type 0} (a b : Bool) (x y : X) → cond b x (cond a x y) ≡ cond (a || b) x y
later-cond true true x y = refl
later-cond true false x y = refl
later-cond false b x y = refl

-- the grants of a list, taken away and allowed
pub deletes-at : (key : Key) (keys : List Key) (old : List Placed)
    → fold (settle (in_bucket manifests (at_key key))) old (map (grant_change false) keys) ≡ cond (list_any (hits key) keys) [] old
deletes-at key [] old = refl
deletes-at key (grant ∷ keys) old =
    deletes-at key keys (cond (hits key grant) [] old) ∙ later-cond (hits key grant) (list_any (hits key) keys) [] old

pub sets-at : (key : Key) (keys : List Key) → AllByRecursion IsGrant keys → (old : List Placed)
    → fold (settle (in_bucket manifests (at_key key))) old (map (grant_change true) keys)
    ≡ cond (list_any (hits key) keys) (allowed_at (grant_at key) ∷ []) old
sets-at key [] all old = refl
sets-at key (grant ∷ keys) all old =
    sets-at key keys all.1 (cond (hits key grant) (allowed_at grant ∷ []) old)
    ∙ ap (λ list. cond (list_any (hits key) keys) (allowed_at (grant_at key) ∷ []) list) (here (hits key grant) refl)
    ∙ later-cond (hits key grant) (list_any (hits key) keys) (allowed_at (grant_at key) ∷ []) old
  where
    here : (b : Bool) → hits key grant ≡ b → cond b (allowed_at grant ∷ []) old ≡ cond b (allowed_at (grant_at key) ∷ []) old
    here true is = ap (λ known. allowed_at known ∷ []) (grant-known key grant all.0 is)
    here false is = refl

first-grant : (key : Key) (keys : List Key) → AllByRecursion IsGrant keys
    → first_at key_total key keys ≡ cond (list_any (hits key) keys) (grant_at key ∷ []) []
first-grant key [] all = refl
first-grant key (grant ∷ keys) all = here (hits key grant) refl (first-grant key keys all.1)
  where
    here : (b : Bool) → hits key grant ≡ b → first_at key_total key keys ≡ cond (list_any (hits key) keys) (grant_at key ∷ []) []
        → cond b (grant ∷ []) (first_at key_total key keys) ≡ cond (b || list_any (hits key) keys) (grant_at key ∷ []) []
    here true is rest = ap (λ known. known ∷ []) (grant-known key grant all.0 is)
    here false is rest = rest

-- the rows of the grants of a list
pub rows-at : (key : Key) (keys : List Key) → AllByRecursion IsGrant keys
    → filter (λ (placed : Placed). is_eq (placed_cmp placed (in_bucket manifests (at_key key)))) (map allowed_at (rising key_cmp keys))
    ≡ cond (list_any (hits key) keys) (allowed_at (grant_at key) ∷ []) []
rows-at key keys all =
    filter-map (λ (placed : Placed). is_eq (placed_cmp placed (in_bucket manifests (at_key key)))) allowed_at (rising key_cmp keys)
    ∙ ap (map allowed_at) (rising-at key_total key keys ∙ first-grant key keys all)
    ∙ mapped (list_any (hits key) keys)
  where
    mapped : (b : Bool) → map allowed_at (cond b (grant_at key ∷ []) []) ≡ cond b (allowed_at (grant_at key) ∷ []) []
    mapped true = refl
    mapped false = refl
