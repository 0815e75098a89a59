-- What commands on the database keep: a desk without a layout stays so, and one with the layout keeps it.
use Rattle.std.proofs.Common.{◌≡◌, ℕ, Bool, true, false, not, cond, ◌&&◌, ◌||◌, List, [], ◌∷◌, map, find, Some, None, refl, sym, ap, ◌∙◌, subst, inl, inr}
use Rattle.std.specs.declared.cmp.Ordering.TheVariants.{Equal}
use Rattle.std.specs.List.{AllByRecursion, filter, fold, list_any}
use Rattle.std.specs.List.Sorted.{IsStrictlySortedBy}
use Rattle.std.specs.Ordering.{is_lt, is_gt, is_eq}
use Rattle.std.proofs.lemmas.Bool.{true≢false}
use Rattle.std.proofs.lemmas.List.Folds.{list_any-append}
use Rattle.std.proofs.lemmas.List.Kept.{IsStrictlySortedBy-filter}
use Rattle.cynara_keys.specs.Text.{same_text, text_cmp}
use Rattle.cynara_keys.specs.PolicyResult.{deny}
use Rattle.cynara_keys.specs.declared.keys.Filter.{Filter}
use Rattle.cynara_keys.specs.declared.keys.Policy.{Policy}
use Rattle.cynara_keys.specs.Key.{Key}
use Rattle.cynara_keys.proofs.Order.{same_text-≡, ≡-same_text, text_cmp-equal}
use Rattle.bucket_store.specs.Database.{Database, Heading, Placed, has_bucket}
use Rattle.bucket_store.specs.Order.{heading_cmp, placed_cmp, policy_cmp, put}
use Rattle.bucket_store.specs.Change.{with_bucket, without_bucket, concerns, after_change, with_changes, erased, is_admitted}
use Rattle.bucket_store.specs.Walk.{points_to}
use Rattle.bucket_store.specs.WellFormed.{IsWellFormed}
use Rattle.bucket_store.specs.parts.Batch.{name_of}
use Rattle.bucket_store.specs.declared.policy_changes.Change.{Change}
use Rattle.bucket_store.specs.declared.policy_changes.Change.TheVariants.{Set, Delete}
use Rattle.bucket_store.proofs.Lists.{All-append, All-filter, All-map, any-filter, filter-all}
use Rattle.bucket_store.proofs.Heading.{any-put}
use Rattle.bucket_store.proofs.Sound.{policy_total}
use Rattle.app_registry.specs.Registry.{RegistryLists}
use Rattle.app_registry.specs.Manifest.{manifest_rows}
use Rattle.app_registry.specs.Rising.{rising}
use Rattle.app_registry.specs.declared.users.User.{User}
use Rattle.app_registry.specs.declared.users.UserType.{UserType}
use Rattle.app_registry.specs.declared.users.UserType.TheVariants.{System, Admin, Normal, Guest}
use Rattle.app_registry.proofs.Filters.{AllByRecursion-both, option_map-none}
use Rattle.app_registry.proofs.Rising.{AllByRecursion-placed}
use Rattle.cynara_keys.specs.declared.fields.Field.TheVariants.{Any}
use Rattle.desk_state.specs.DeskState.{DeskState}
use Rattle.desk_state.specs.IsDesk.{IsBare, IsLaidOut, IsDesk}
use Rattle.desk_state.specs.Layout.{main, manifests, type_bucket, built_in, is_built_in, is_managed, has_layout, link, user_link, main_policies, manifest_policies}
use Rattle.desk_state.specs.Rules.{reserved, reserves, changed_bucket}
use Rattle.desk_state.specs.parts.Stepping.{IsArranged, moved}
use Rattle.desk_state.specs.declared.commands.Command.TheVariants.{SetBucket, RemoveBucket, SetPolicies, Erase}
use Rattle.desk_state.specs.declared.refusals.Refusal.TheVariants.{Reserved}
use Rattle.desk_state.proofs.Filters.{filter-within, filter-turn, none-filter}
use Rattle.desk_state.proofs.Owning.{own, in_bucket, IsOwned, settled-IsOwned, IsOwned-settled, own-apart}

-- ---- tests that hold no name back

free : (test : Bool) (name : List ℕ) → reserves test name ≡ None → test ≡ false
free true name h = cc
free false name h = refl

left : (a b : Bool) → (a || b) ≡ false → a ≡ false
left true b h = absurd (true≢false h)
left false b h = refl

right : (a b : Bool) → (a || b) ≡ false → b ≡ false
right true b h = absurd (true≢false h)
right false b h = h

pub apart-turn : (a b : List ℕ) → same_text a b ≡ false → same_text b a ≡ false
apart-turn a b apart = at (same_text b a) refl
  where
    at : (same : Bool) → same_text b a ≡ same → same ≡ false
    at true is = absurd (true≢false (sym (≡-same_text a b (sym (same_text-≡ b a is))) ∙ apart))
    at false is = refl

all-apart : (name : List ℕ) (names : List (List ℕ)) → list_any (same_text name) names ≡ false
    → AllByRecursion (λ other. same_text name other ≡ false) names
all-apart name [] none = tt
all-apart name (other ∷ names) none =
    (left (same_text name other) (list_any (same_text name) names) none, all-apart name names (right (same_text name other) (list_any (same_text name) names) none))

unbuilt-apart : (name : List ℕ) → is_built_in name ≡ false → AllByRecursion (λ other. same_text name other ≡ false) built_in
unbuilt-apart name none = all-apart name built_in none

bare-out : (desk : DeskState) → IsBare desk → has_layout desk.database ≡ false
bare-out desk bare = bare.no_bucket.0

laid-out : (desk : DeskState) → IsLaidOut desk → has_layout desk.database ≡ true
laid-out desk laid = laid.buckets.0

pub laid-owned : (desk : DeskState) → IsLaidOut desk → IsOwned desk.registry desk.database.policies
laid-owned desk laid =
    subst (λ (database : Database). IsOwned desk.registry database.policies) laid.settled (settled-IsOwned desk.registry desk.database)

-- ---- a bucket made

pub has-with : (heading : Heading) (other : List ℕ) (database : Database) → has_bucket other database ≡ true
    → has_bucket other (with_bucket heading database) ≡ true
has-with heading other database has =
    any-put (λ (here : Heading). same_text here.name other) heading_cmp heading
    (λ here tied same. ap (λ name. same_text name other) (sym (tied-names here.name heading.name tied)) ∙ same) database.buckets has
  where
    tied-names : (a b : List ℕ) → text_cmp a b ≡ Equal → a ≡ b
    tied-names a b h = same_text-≡ a b (sym (text_cmp-equal a b) ∙ ap is_eq h)

pub absent-with : (heading : Heading) (other : List ℕ) (database : Database) → same_text heading.name other ≡ false
    → has_bucket other database ≡ false → has_bucket other (with_bucket heading database) ≡ false
absent-with heading other database apart none =
    let test : Heading → Bool = λ here. same_text here.name other in
    let below = filter (λ (here : Heading). is_lt (heading_cmp here heading)) database.buckets in
    let above = filter (λ (here : Heading). is_gt (heading_cmp here heading)) database.buckets in
    list_any-append test below (heading ∷ above)
    ∙ (λ i. none-filter test (λ (here : Heading). is_lt (heading_cmp here heading)) database.buckets none i
    || (apart i || none-filter test (λ (here : Heading). is_gt (heading_cmp here heading)) database.buckets none i))

-- the fallback of a bucket that users and installs decide
abbrev pub Denies : Heading → Type 0
Denies heading = is_managed heading.name ≡ true → heading.fallback ≡ record { kind = deny; metadata = [] }

pub denies-with : (heading : Heading) (buckets : List Heading) → Denies heading → AllByRecursion Denies buckets
    → AllByRecursion Denies (put heading_cmp heading buckets)
denies-with heading buckets own all =
    All-append Denies (filter (λ (other : Heading). is_lt (heading_cmp other heading)) buckets)
    (heading ∷ filter (λ (other : Heading). is_gt (heading_cmp other heading)) buckets)
    (All-filter Denies (λ (other : Heading). is_lt (heading_cmp other heading)) buckets all)
    (own, All-filter Denies (λ (other : Heading). is_gt (heading_cmp other heading)) buckets all)

pub keeps-set_bucket : (desk : DeskState) (heading : Heading) → IsDesk desk
    → reserved (has_layout desk.database) (SetBucket heading.name heading.fallback) ≡ None
    → IsArranged (moved desk (with_bucket heading desk.database) desk.registry desk.template)
keeps-set_bucket desk heading is unreserved = at is.layout
  where
    clear : (laid : Bool) → has_layout desk.database ≡ laid → (is_managed heading.name || (is_built_in heading.name && not laid)) ≡ false
    clear laid has =
        ap (λ b. is_managed heading.name || (is_built_in heading.name && not b)) (sym has)
        ∙ free (is_managed heading.name || (is_built_in heading.name && not (has_layout desk.database))) heading.name unreserved

    and_true : (b : Bool) → (b && true) ≡ b
    and_true true = refl
    and_true false = refl

    at : IsArranged desk → IsArranged (moved desk (with_bucket heading desk.database) desk.registry desk.template)
    at (inl bare) =
        let unbuilt : is_built_in heading.name ≡ false =
        sym (and_true (is_built_in heading.name))
        ∙ right (is_managed heading.name) (is_built_in heading.name && true) (clear false (bare-out desk bare)) in
        inl (record {
          no_bucket =
              AllByRecursion-both (λ name. same_text heading.name name ≡ false) (λ name. has_bucket name desk.database ≡ false)
              (λ name. has_bucket name (with_bucket heading desk.database) ≡ false)
              (λ name apart none. absent-with heading name desk.database apart none) built_in (unbuilt-apart heading.name unbuilt) bare.no_bucket;
          nobody = bare.nobody;
        })
    at (inr laid) =
        let unmanaged : is_managed heading.name ≡ false =
        left (is_managed heading.name) (is_built_in heading.name && false) (clear true (laid-out desk laid)) in
        inr (record {
          buckets =
              AllByRecursion-both (λ name. has_bucket name desk.database ≡ true) (λ name. has_bucket name desk.database ≡ true)
              (λ name. has_bucket name (with_bucket heading desk.database) ≡ true)
              (λ name has same. has-with heading name desk.database has) built_in laid.buckets laid.buckets;
          denies = denies-with heading desk.database.buckets (λ managed. absurd (true≢false (sym managed ∙ unmanaged))) laid.denies;
          settled = λ i. record { buckets = put heading_cmp heading desk.database.buckets; policies = (laid.settled i).policies };
        })

-- ---- a bucket removed

-- policies that the removal of a bucket leaves
abbrev Unconcerned : List ℕ → Placed → Type 0
Unconcerned name placed = not (concerns name placed) ≡ true

rising-all : (P : Policy → Type 0) (policies : List Policy) → AllByRecursion P policies → AllByRecursion P (rising policy_cmp policies)
rising-all P [] all = tt
rising-all P (policy ∷ policies) all =
    AllByRecursion-placed policy_total P policy (rising policy_cmp policies) all.0 (rising-all P policies all.1)

unconcerned : (a b : Bool) → a ≡ false → b ≡ false → not (a || b) ≡ true
unconcerned true b none other = absurd (true≢false none)
unconcerned false b none other = ap not other

type-apart : (name : List ℕ) (kind : UserType) → AllByRecursion (λ other. same_text name other ≡ false) built_in
    → same_text (type_bucket kind) name ≡ false
type-apart name System apart = apart-turn name (type_bucket System) apart.1.1.1.0
type-apart name Admin apart = apart-turn name (type_bucket Admin) apart.1.1.1.1.0
type-apart name Normal apart = apart-turn name (type_bucket Normal) apart.1.1.1.1.1.0
type-apart name Guest apart = apart-turn name (type_bucket Guest) apart.1.1.1.1.1.1.0

module _ (name : List ℕ) (apart : AllByRecursion (λ other. same_text name other ≡ false) built_in) where
  users-unconcerned : (users : List User) → AllByRecursion (λ policy. Unconcerned name (in_bucket main policy)) (map user_link users)
  users-unconcerned [] = tt
  users-unconcerned (user ∷ users) =
      (unconcerned (same_text main name) (points_to name (user_link user)) (apart-turn name main apart.0) (type-apart name user.kind apart), users-unconcerned users)

  main-unconcerned : (registry : RegistryLists)
      → AllByRecursion (λ policy. Unconcerned name (in_bucket main policy)) (main_policies registry)
  main-unconcerned registry =
      rising-all (λ policy. Unconcerned name (in_bucket main policy)) (link Any manifests ∷ map user_link registry.users)
      (unconcerned (same_text main name) (points_to name (link Any manifests)) (apart-turn name main apart.0) (apart-turn name manifests apart.1.0), users-unconcerned registry.users)

  keys-unconcerned : (keys : List Key)
      → AllByRecursion (λ policy. Unconcerned name (in_bucket manifests policy)) (map (λ key. record { key = key; result = record { kind = 65535; metadata = [] } }) keys)
  keys-unconcerned [] = tt
  keys-unconcerned (key ∷ keys) = (unconcerned (same_text manifests name) false (apart-turn name manifests apart.1.0) refl, keys-unconcerned keys)

  own-left : (bucket : List ℕ) (own_policies : List Policy) (policies : List Placed)
      → AllByRecursion (λ policy. Unconcerned name (in_bucket bucket policy)) own_policies
      → own bucket policies ≡ map (in_bucket bucket) own_policies
      → own bucket (filter (λ (placed : Placed). not (concerns name placed)) policies) ≡ map (in_bucket bucket) own_policies
  own-left bucket own_policies policies all is =
      filter-turn (λ (placed : Placed). same_text placed.bucket bucket) (λ (placed : Placed). not (concerns name placed)) policies
      ∙ ap (filter (λ (placed : Placed). not (concerns name placed))) is
      ∙ filter-all (λ (placed : Placed). not (concerns name placed)) (map (in_bucket bucket) own_policies)
      (All-map (Unconcerned name) (in_bucket bucket) own_policies all)

  owned-left : (registry : RegistryLists) (policies : List Placed) → IsOwned registry policies
      → IsOwned registry (filter (λ (placed : Placed). not (concerns name placed)) policies)
  owned-left registry policies owned = record {
    main = own-left main (main_policies registry) policies (main-unconcerned registry) owned.main;
    manifests = own-left manifests (manifest_policies registry) policies (keys-unconcerned (manifest_rows registry)) owned.manifests;
  }

  has-left : (other : List ℕ) (database : Database) → same_text name other ≡ false → has_bucket other database ≡ true
      → has_bucket other (without_bucket name database) ≡ true
  has-left other database differs has =
      any-filter (λ (heading : Heading). same_text heading.name other) (λ (heading : Heading). not (same_text heading.name name))
      (λ heading same.
      ap not (ap (λ own. same_text own name) (same_text-≡ heading.name other same) ∙ apart-turn name other differs)) database.buckets has

pub keeps-remove_bucket : (desk : DeskState) (name : List ℕ) → IsDesk desk
    → reserved (has_layout desk.database) (RemoveBucket name) ≡ None
    → IsArranged (moved desk (without_bucket name desk.database) desk.registry desk.template)
keeps-remove_bucket desk name is unreserved = at is.layout
  where
    apart : AllByRecursion (λ other. same_text name other ≡ false) built_in
    apart = unbuilt-apart name (free (is_built_in name) name unreserved)

    at : IsArranged desk → IsArranged (moved desk (without_bucket name desk.database) desk.registry desk.template)
    at (inl bare) = inl (record {
      no_bucket =
          AllByRecursion-both (λ other. has_bucket other desk.database ≡ false) (λ other. has_bucket other desk.database ≡ false)
          (λ other. has_bucket other (without_bucket name desk.database) ≡ false)
          (λ other none same. none-filter (λ (heading : Heading). same_text heading.name other) (λ (heading : Heading). not (same_text heading.name name)) desk.database.buckets none)
          built_in bare.no_bucket bare.no_bucket;
      nobody = bare.nobody;
    })
    at (inr laid) = inr (record {
      buckets =
          AllByRecursion-both (λ other. same_text name other ≡ false) (λ other. has_bucket other desk.database ≡ true)
          (λ other. has_bucket other (without_bucket name desk.database) ≡ true)
          (λ other differs has. has-left name apart other desk.database differs has) built_in apart laid.buckets;
      denies = All-filter Denies (λ (heading : Heading). not (same_text heading.name name)) desk.database.buckets laid.denies;
      settled =
          IsOwned-settled desk.registry (without_bucket name desk.database)
          (IsStrictlySortedBy-filter placed_cmp (λ (placed : Placed). not (concerns name placed)) desk.database.policies is.database.keys_rise)
          (owned-left name apart desk.registry desk.database.policies (laid-owned desk laid));
    })

-- ---- policies set, deleted and erased

same_database : (desk : DeskState) (database : Database) → database.buckets ≡ desk.database.buckets
    → IsStrictlySortedBy placed_cmp database.policies
    → (IsOwned desk.registry desk.database.policies → IsOwned desk.registry database.policies)
    → IsArranged desk → IsArranged (moved desk database desk.registry desk.template)
same_database desk database same rise owned (inl bare) = inl (record {
  no_bucket =
      subst (λ buckets. AllByRecursion (λ name. has_bucket name (record { buckets = buckets; policies = database.policies }) ≡ false) built_in)
      (sym same) bare.no_bucket;
  nobody = bare.nobody;
})
same_database desk database same rise owned (inr laid) = inr (record {
  buckets =
      subst (λ buckets. AllByRecursion (λ name. has_bucket name (record { buckets = buckets; policies = database.policies }) ≡ true) built_in)
      (sym same) laid.buckets;
  denies = subst (λ buckets. AllByRecursion Denies buckets) (sym same) laid.denies;
  settled = IsOwned-settled desk.registry database rise (owned (laid-owned desk laid));
})

unmanaged-all : (changes : List Change) → find is_managed (map changed_bucket changes) ≡ None
    → AllByRecursion (λ change. is_managed (changed_bucket change) ≡ false) changes
unmanaged-all [] none = tt
unmanaged-all (change ∷ changes) none = at (is_managed (changed_bucket change)) refl none (unmanaged-all changes)
  where
    at : (b : Bool) → is_managed (changed_bucket change) ≡ b
        → cond b (Some (changed_bucket change)) (find is_managed (map changed_bucket changes)) ≡ None
        → (find is_managed (map changed_bucket changes) ≡ None → AllByRecursion (λ (other : Change). is_managed (changed_bucket other) ≡ false) changes)
        → (is_managed (changed_bucket change) ≡ false) × AllByRecursion (λ (other : Change). is_managed (changed_bucket other) ≡ false) changes
    at true is h rest = cc
    at false is h rest = (is, rest h)

named-alike : (change : Change) → changed_bucket change ≡ name_of change
named-alike (Set name key result) = refl
named-alike (Delete name key) = refl

own-unchanged : (bucket : List ℕ) → ((name : List ℕ) → is_managed name ≡ false → same_text name bucket ≡ false) → (changes : List Change)
    → AllByRecursion (λ change. is_managed (changed_bucket change) ≡ false) changes → (policies : List Placed)
    → own bucket (fold after_change policies changes) ≡ own bucket policies
own-unchanged bucket apart [] all policies = refl
own-unchanged bucket apart (change ∷ changes) all policies =
    own-unchanged bucket apart changes all.1 (after_change policies change)
    ∙ own-apart bucket change (ap (λ name. same_text name bucket) (sym (named-alike change)) ∙ apart (changed_bucket change) all.0) policies

no-main : (name : List ℕ) → is_managed name ≡ false → same_text name main ≡ false
no-main name unmanaged = left (same_text name main) (same_text name manifests) unmanaged

no-manifests : (name : List ℕ) → is_managed name ≡ false → same_text name manifests ≡ false
no-manifests name unmanaged = right (same_text name main) (same_text name manifests) unmanaged

pub keeps-set_policies : (desk : DeskState) (changes : List Change) → IsDesk desk
    → reserved (has_layout desk.database) (SetPolicies changes) ≡ None → IsWellFormed (with_changes changes desk.database)
    → IsArranged (moved desk (with_changes changes desk.database) desk.registry desk.template)
keeps-set_policies desk changes is unreserved well =
    let all : AllByRecursion (λ change. is_managed (changed_bucket change) ≡ false) changes =
    unmanaged-all changes (option_map-none (λ name. Reserved name) (find is_managed (map changed_bucket changes)) unreserved) in
    same_database desk (with_changes changes desk.database) refl well.keys_rise
    (λ owned. record {
      main = own-unchanged main no-main changes all desk.database.policies ∙ owned.main;
      manifests = own-unchanged manifests no-manifests changes all desk.database.policies ∙ owned.manifests;
    }) is.layout

pub keeps-erase : (desk : DeskState) (name : List ℕ) (admitted : Filter) → IsDesk desk
    → reserved (has_layout desk.database) (Erase name admitted) ≡ None
    → IsArranged (moved desk (erased name admitted desk.database) desk.registry desk.template)
keeps-erase desk name admitted is unreserved =
    let unmanaged : is_managed name ≡ false = free (is_managed name) name unreserved in
    same_database desk (erased name admitted desk.database) refl
    (IsStrictlySortedBy-filter placed_cmp (λ (placed : Placed). not (is_admitted name admitted placed)) desk.database.policies is.database.keys_rise)
    (λ owned. record {
      main = untouched main (no-main name unmanaged) ∙ owned.main;
      manifests = untouched manifests (no-manifests name unmanaged) ∙ owned.manifests;
    }) is.layout
  where
    missed : (a b : Bool) → a ≡ false → not (a && b) ≡ true
    missed true b h = absurd (true≢false h)
    missed false b h = refl

    untouched : (bucket : List ℕ) → same_text name bucket ≡ false
        → own bucket (filter (λ (placed : Placed). not (is_admitted name admitted placed)) desk.database.policies) ≡ own bucket desk.database.policies
    untouched bucket apart =
        filter-within (λ (placed : Placed). same_text placed.bucket bucket) (λ (placed : Placed). not (is_admitted name admitted placed))
        (λ placed same.
        missed (same_text placed.bucket name) _
        (ap (λ own. same_text own name) (same_text-≡ placed.bucket bucket same) ∙ apart-turn name bucket apart)) desk.database.policies
