-- The two buckets after each command on users and installs.
use Rattle.std.proofs.Common.{◌≡◌, ◌⊎◌, inl, inr, ℕ, ◌<◌, ◌^◌, Bool, true, false, not, cond, List, [], ◌∷◌, ◌++◌, map, find, Option, Some, None, refl, sym, ap, ◌∙◌, subst}
use Rattle.std.specs.Option.{option_map}
use Rattle.std.specs.List.{AllByRecursion, filter, fold, list_any, flat_map}
use Rattle.std.specs.List.Sorted.{IsStrictlySortedBy}
use Rattle.std.proofs.lemmas.Bool.{true≢false}
use Rattle.std.proofs.lemmas.Grind.{flat_map-append}
use Rattle.cynara_keys.specs.Key.{Key}
use Rattle.bucket_store.specs.Database.{Database, Placed, has_bucket}
use Rattle.bucket_store.specs.Order.{placed_cmp}
use Rattle.bucket_store.specs.Change.{after_change, with_changes}
use Rattle.bucket_store.specs.Refusal.{named_by, no_bucket}
use Rattle.bucket_store.specs.WellFormed.{IsWellFormed}
use Rattle.bucket_store.specs.declared.policy_changes.Change.{Change}
use Rattle.bucket_store.specs.declared.refusals.StoreRefusal.TheVariants.{NoBucket}
use Rattle.bucket_store.proofs.Lists.{All-append}
use Rattle.app_registry.specs.Ident.{ident_fault}
use Rattle.app_registry.specs.Install.{is_of_package, is_of_app, is_install_of, is_for_user}
use Rattle.app_registry.specs.Manifest.{grants, install_grants}
use Rattle.app_registry.specs.Registry.{RegistryLists, with_user, without_user, with_install, without_install, with_kind}
use Rattle.app_registry.specs.declared.installs.Install.{Install}
use Rattle.app_registry.specs.declared.installs.Scope.{Scope}
use Rattle.app_registry.specs.declared.users.User.{User}
use Rattle.app_registry.specs.declared.users.UserType.{UserType}
use Rattle.app_registry.specs.declared.users.UserType.TheVariants.{System, Admin, Normal, Guest}
use Rattle.rule_templates.specs.declared.lines.TemplateLine.{TemplateLine}
use Rattle.desk_state.specs.DeskState.{DeskState}
use Rattle.desk_state.specs.IsDesk.{IsBare, IsLaidOut, IsDesk}
use Rattle.desk_state.specs.Layout.{main, manifests, type_bucket, built_in, has_layout, settled, main_policies}
use Rattle.desk_state.specs.parts.Following.{grant_change, grant_changes, set_user, delete_user, install_changes, package_changes, removal_changes, app_changes}
use Rattle.desk_state.specs.parts.Stepping.{IsArranged, moved}
use Rattle.desk_state.proofs.Filters.{filter-within, filter-outside}
use Rattle.desk_state.proofs.Gaining.{is_own, none-before, others-stay, one-after}
use Rattle.desk_state.proofs.Granting.{IsFollowing, manifests-follow, settled-around}
use Rattle.desk_state.proofs.Keeping.{laid-owned, Denies}
use Rattle.desk_state.proofs.Linking.{main-set, main-removed}
use Rattle.desk_state.proofs.Owning.{own, in_bucket, IsOwned, IsOwned-settled, settled-IsOwned, own-apart}
use Rattle.desk_state.proofs.Settling.{fold-rises, hits}
use Rattle.desk_state.proofs.Touching.{package-apart, user-apart, scopes-fit, install-rest, uninstall-rest, app-found, convert-rest, found-of}

-- a desk whose buckets are there has the layout
pub laid : (desk : DeskState) → IsDesk desk → has_layout desk.database ≡ true → IsLaidOut desk
laid desk is has = at is.layout
  where
    at : IsBare desk ⊎ IsLaidOut desk → IsLaidOut desk
    at (inl bare) = absurd (true≢false (sym has ∙ bare.no_bucket.0))
    at (inr laid) = laid

-- the two buckets as a registry gives them
pub arranged : (desk : DeskState) (database : Database) (registry : RegistryLists) (template : List TemplateLine) → IsDesk desk
    → has_layout desk.database ≡ true → database ≡ settled registry desk.database → IsWellFormed database
    → IsArranged (moved desk database registry template)
arranged desk database registry template is has same well =
    let there = laid desk is has in
    let buckets : desk.database.buckets ≡ database.buckets = ap (λ (other : Database). other.buckets) (sym same) in
    inr (record {
      buckets =
          subst (λ list. AllByRecursion (λ name. has_bucket name (record { buckets = list; policies = database.policies }) ≡ true) built_in)
          buckets there.buckets;
      denies = subst (λ list. AllByRecursion Denies list) buckets there.denies;
      settled =
          IsOwned-settled registry database well.keys_rise
          (subst (λ (other : Database). IsOwned registry other.policies) (sym same) (settled-IsOwned registry desk.database));
    })

-- ---- where changes lead that make the two buckets follow

pub follow : (registry : RegistryLists) (database : Database) (changes : List Change) → AllByRecursion IsFollowing changes
    → IsStrictlySortedBy placed_cmp database.policies → IsOwned registry (fold after_change database.policies changes)
    → with_changes changes database ≡ settled registry database
follow registry database changes all rise owned =
    sym (IsOwned-settled registry (with_changes changes database) (fold-rises database.policies changes rise) owned)
    ∙ (λ i. record { buckets = database.buckets; policies = settled-around changes all database.policies registry database i })

grants-following : (allowed : Bool) (keys : List Key) → AllByRecursion IsFollowing (map (grant_change allowed) keys)
grants-following allowed [] = tt
grants-following true (key ∷ keys) = (inr refl, grants-following true keys)
grants-following false (key ∷ keys) = (inr refl, grants-following false keys)

own-grants : (allowed : Bool) (keys : List Key) (policies : List Placed)
    → own main (fold after_change policies (map (grant_change allowed) keys)) ≡ own main policies
own-grants allowed [] policies = refl
own-grants true (key ∷ keys) policies =
    own-grants true keys (after_change policies (grant_change true key)) ∙ own-apart main (grant_change true key) refl policies
own-grants false (key ∷ keys) policies =
    own-grants false keys (after_change policies (grant_change false key)) ∙ own-apart main (grant_change false key) refl policies

fold-two : (policies : List Placed) (some others : List Change)
    → fold after_change policies (some ++ others) ≡ fold after_change (fold after_change policies some) others
fold-two policies [] others = refl
fold-two policies (change ∷ some) others = fold-two (after_change policies change) some others

-- ---- the buckets that changes name

grants-named : (database : Database) → has_bucket manifests database ≡ true → (allowed : Bool) (keys : List Key)
    → AllByRecursion (λ name. has_bucket name database ≡ true) (flat_map named_by (map (grant_change allowed) keys))
grants-named database has allowed [] = tt
grants-named database has true (key ∷ keys) = (has, grants-named database has true keys)
grants-named database has false (key ∷ keys) = (has, grants-named database has false keys)

none-absent : (database : Database) (names : List (List ℕ)) → AllByRecursion (λ name. has_bucket name database ≡ true) names
    → no_bucket names database ≡ None
none-absent database [] all = refl
none-absent database (name ∷ names) all = at (has_bucket name database) all.0 (none-absent database names all.1)
  where
    at : (b : Bool) → b ≡ true → option_map (λ (one : List ℕ). NoBucket one) (find (λ other. not (has_bucket other database)) names) ≡ None
        → option_map (λ (one : List ℕ). NoBucket one) (cond (not b) (Some name) (find (λ other. not (has_bucket other database)) names)) ≡ None
    at true is rest = rest
    at false is rest = absurd (true≢false (sym is))

named-append : (database : Database) (some others : List Change)
    → AllByRecursion (λ name. has_bucket name database ≡ true) (flat_map named_by some)
    → AllByRecursion (λ name. has_bucket name database ≡ true) (flat_map named_by others)
    → AllByRecursion (λ name. has_bucket name database ≡ true) (flat_map named_by (some ++ others))
named-append database some others first second =
    subst (λ names. AllByRecursion (λ name. has_bucket name database ≡ true) names) (sym (flat_map-append named_by some others))
    (All-append (λ name. has_bucket name database ≡ true) (flat_map named_by some) (flat_map named_by others) first second)

type-there : (desk : DeskState) → IsLaidOut desk → (kind : UserType) → has_bucket (type_bucket kind) desk.database ≡ true
type-there desk there System = there.buckets.1.1.1.0
type-there desk there Admin = there.buckets.1.1.1.1.0
type-there desk there Normal = there.buckets.1.1.1.1.1.0
type-there desk there Guest = there.buckets.1.1.1.1.1.1.0

module _ (desk : DeskState) (is : IsDesk desk) (has : has_layout desk.database ≡ true) where
  there : IsLaidOut desk
  there = laid desk is has

  owned : IsOwned desk.registry desk.database.policies
  owned = laid-owned desk there

  -- ---- a user set

  pub named-user_set : (uid : ℕ) (kind : UserType) → no_bucket (flat_map named_by (set_user uid kind ∷ [])) desk.database ≡ None
  named-user_set uid kind =
      none-absent desk.database (main ∷ type_bucket kind ∷ []) (there.buckets.0, (type-there desk there kind, tt))

  pub follows-user_set : (uid : ℕ) (kind : UserType) → uid < 2 ^ 64
      → with_changes (set_user uid kind ∷ []) desk.database ≡ settled (with_user desk.registry uid kind) desk.database
  follows-user_set uid kind fits =
      let user : User = record { uid = uid; kind = kind } in
      follow (with_user desk.registry uid kind) desk.database (set_user uid kind ∷ []) (inl refl, tt) is.database.keys_rise (record {
        main =
            main-set desk.registry (with_user desk.registry uid kind) desk.database.policies owned.main user fits is.registry.users_rise refl
            (fold-rises desk.database.policies (set_user uid kind ∷ []) is.database.keys_rise);
        manifests = own-apart manifests (set_user uid kind) refl desk.database.policies ∙ owned.manifests;
      })

  -- ---- a user removed

  pub named-user_remove : (uid : ℕ) → no_bucket (flat_map named_by (removal_changes uid desk.registry.installs)) desk.database ≡ None
  named-user_remove uid =
      none-absent desk.database (flat_map named_by (removal_changes uid desk.registry.installs))
      (there.buckets.0, grants-named desk.database there.buckets.1.0 false (grants (filter (λ (install : Install). is_for_user uid install.scope) desk.registry.installs)))

  append-none : {X : Type 0} (xs : List X) → xs ++ [] ≡ xs
  append-none [] = refl
  append-none (x ∷ xs) = ap (λ rest. x ∷ rest) (append-none xs)

  pub follows-user_remove : (uid : ℕ) → uid < 2 ^ 64 → AllByRecursion (λ (user : User). user.uid < 2 ^ 64) desk.registry.users
      → with_changes (removal_changes uid desk.registry.installs) desk.database ≡ settled (without_user desk.registry uid) desk.database
  follows-user_remove uid fits small =
      let after : RegistryLists = without_user desk.registry uid in
      let test : Install → Bool = λ install. is_for_user uid install.scope in
      let before = desk.registry.installs in
      let policies = after_change desk.database.policies (delete_user uid) in
      let rise = fold-rises desk.database.policies (delete_user uid ∷ []) is.database.keys_rise in
      let none : grant_changes true test after.installs ≡ [] =
      ap (λ installs. map (grant_change true) (grants installs))
      (filter-outside test (λ (install : Install). not (test install)) (λ install for. ap not for) before) in
      let changes_are : grant_changes false test before ++ grant_changes true test after.installs ≡ grant_changes false test before =
      ap (λ list. grant_changes false test before ++ list) none ∙ append-none (grant_changes false test before) in
      follow after desk.database (removal_changes uid before) (inl refl, grants-following false (grants (filter test before)))
      is.database.keys_rise (record {
        main =
            own-grants false (grants (filter test before)) policies
            ∙ main-removed desk.registry after desk.database.policies owned.main uid fits small refl rise;
        manifests =
            ap (λ changes. own manifests (fold after_change policies changes)) (sym changes_are)
            ∙ manifests-follow desk.registry after test policies (own-apart manifests (delete_user uid) refl desk.database.policies ∙ owned.manifests)
            (filter-within (λ (install : Install). not (test install)) (λ (install : Install). not (test install)) (λ install kept. kept) before)
            (λ key. user-apart uid before fits (scopes-fit desk.registry.users before small is.registry.users_known) key)
            (fold-rises policies (grant_changes false test before ++ grant_changes true test after.installs) rise);
      })

  -- ---- the installs of a package changed

  package-named : (name : List ℕ) (after : List Install)
      → no_bucket (flat_map named_by (package_changes name desk.registry.installs after)) desk.database ≡ None
  package-named name after =
      none-absent desk.database (flat_map named_by (package_changes name desk.registry.installs after))
      (named-append desk.database (grant_changes false (is_of_package name) desk.registry.installs) (grant_changes true (is_of_package name) after)
      (grants-named desk.database there.buckets.1.0 false (grants (filter (is_of_package name) desk.registry.installs)))
      (grants-named desk.database there.buckets.1.0 true (grants (filter (is_of_package name) after))))

  package-follows : (name : List ℕ) → ident_fault name ≡ None
      → AllByRecursion (λ (install : Install). ident_fault install.package ≡ None) desk.registry.installs
      → (after : RegistryLists) → after.users ≡ desk.registry.users
      → filter (λ (install : Install). not (is_of_package name install)) after.installs
      ≡ filter (λ (install : Install). not (is_of_package name install)) desk.registry.installs
      → with_changes (package_changes name desk.registry.installs after.installs) desk.database ≡ settled after desk.database
  package-follows name sound idents after same rest =
      let before = desk.registry.installs in
      let taken = grant_changes false (is_of_package name) before in
      let given = grant_changes true (is_of_package name) after.installs in
      follow after desk.database (package_changes name before after.installs)
      (All-append IsFollowing taken given (grants-following false (grants (filter (is_of_package name) before)))
      (grants-following true (grants (filter (is_of_package name) after.installs))))
      is.database.keys_rise (record {
        main =
            ap (own main) (fold-two desk.database.policies taken given)
            ∙ own-grants true (grants (filter (is_of_package name) after.installs)) (fold after_change desk.database.policies taken)
            ∙ own-grants false (grants (filter (is_of_package name) before)) desk.database.policies
            ∙ owned.main
            ∙ ap (λ users. map (in_bucket main) (main_policies (record { users = users; installs = after.installs }))) (sym same);
        manifests =
            manifests-follow desk.registry after (is_of_package name) desk.database.policies owned.manifests rest
            (λ key. package-apart name sound before idents key) (fold-rises desk.database.policies (taken ++ given) is.database.keys_rise);
      })

  pub named-install : (install : Install)
      → no_bucket (flat_map named_by (package_changes install.package desk.registry.installs (with_install desk.registry install).installs)) desk.database ≡ None
  named-install install = package-named install.package (with_install desk.registry install).installs

  pub follows-install : (install : Install) → ident_fault install.package ≡ None
      → AllByRecursion (λ (other : Install). ident_fault other.package ≡ None) desk.registry.installs
      → with_changes (package_changes install.package desk.registry.installs (with_install desk.registry install).installs) desk.database
      ≡ settled (with_install desk.registry install) desk.database
  follows-install install sound idents =
      package-follows install.package sound idents (with_install desk.registry install) refl
      (install-rest install desk.registry.installs is.registry.installs_rise)

  -- a package of another kind

  pub named-convert : (name : List ℕ) (hybrid : Bool)
      → no_bucket (flat_map named_by (package_changes name desk.registry.installs (with_kind desk.registry name hybrid).installs)) desk.database ≡ None
  named-convert name hybrid = package-named name (with_kind desk.registry name hybrid).installs

  pub follows-convert : (name : List ℕ) (hybrid : Bool) → ident_fault name ≡ None
      → AllByRecursion (λ (install : Install). ident_fault install.package ≡ None) desk.registry.installs
      → with_changes (package_changes name desk.registry.installs (with_kind desk.registry name hybrid).installs) desk.database
      ≡ settled (with_kind desk.registry name hybrid) desk.database
  follows-convert name hybrid sound idents =
      package-follows name sound idents (with_kind desk.registry name hybrid) refl (convert-rest name hybrid desk.registry.installs)

  -- an install that takes the place of no other

  pub named-new-install : (install : Install) → no_bucket (flat_map named_by (install_changes install)) desk.database ≡ None
  named-new-install install =
      none-absent desk.database (flat_map named_by (install_changes install))
      (grants-named desk.database there.buckets.1.0 true (install_grants install))

  pub follows-new-install : (install : Install)
      → without_install (with_install desk.registry install) install.app install.scope ≡ desk.registry
      → with_changes (install_changes install) desk.database ≡ settled (with_install desk.registry install) desk.database
  follows-new-install install taken_back =
      let before = desk.registry.installs in
      let after : RegistryLists = with_install desk.registry install in
      let test : Install → Bool = is_own install before in
      let back = ap (λ (lists : RegistryLists). lists.installs) taken_back in
      let none = none-before install before back in
      let all : List Change = grant_changes false test before ++ grant_changes true test after.installs in
      let changes_are : all ≡ install_changes install =
      (λ i. map (grant_change false) (grants (none i)) ++ map (grant_change true) (grants (one-after install before back i)))
      ∙ ap (map (grant_change true)) (append-none (install_grants install)) in
      follow after desk.database (install_changes install) (grants-following true (install_grants install))
      is.database.keys_rise (record {
        main = own-grants true (install_grants install) desk.database.policies ∙ owned.main;
        manifests =
            ap (λ changes. own manifests (fold after_change desk.database.policies changes)) (sym changes_are)
            ∙ manifests-follow desk.registry after test desk.database.policies owned.manifests
            (others-stay install before back)
            (λ key any. absurd (true≢false (sym any ∙ ap (λ list. list_any (hits key) (grants list)) none)))
            (fold-rises desk.database.policies all is.database.keys_rise);
      })

  named-app : (first : Option Install) (after : List Install)
      → no_bucket (flat_map named_by (app_changes first desk.registry.installs after)) desk.database ≡ None
  named-app (Some first) after = package-named first.package after
  named-app None after = refl

  pub named-uninstall : (app : List ℕ) (scope : Scope)
      → no_bucket (flat_map named_by (app_changes (find (is_of_app app) desk.registry.installs) desk.registry.installs (without_install desk.registry app scope).installs)) desk.database ≡ None
  named-uninstall app scope = named-app (find (is_of_app app) desk.registry.installs) (without_install desk.registry app scope).installs

  pub follows-uninstall : (app : List ℕ) (scope : Scope)
      → AllByRecursion (λ (install : Install). ident_fault install.package ≡ None) desk.registry.installs → list_any (is_install_of app scope) desk.registry.installs ≡ true
      → with_changes (app_changes (find (is_of_app app) desk.registry.installs) desk.registry.installs (without_install desk.registry app scope).installs) desk.database
      ≡ settled (without_install desk.registry app scope) desk.database
  follows-uninstall app scope idents installed = at (find (is_of_app app) desk.registry.installs) refl
    where
      at : (first : Option Install) → find (is_of_app app) desk.registry.installs ≡ first
          → with_changes (app_changes first desk.registry.installs (without_install desk.registry app scope).installs) desk.database
          ≡ settled (without_install desk.registry app scope) desk.database
      at (Some first) found =
          package-follows first.package
          (found-of (λ (install : Install). ident_fault install.package ≡ None) (is_of_app app) desk.registry.installs first found idents) idents
          (without_install desk.registry app scope) refl
          (uninstall-rest app scope first desk.registry.installs found is.registry.one_package)
      at None found = absurd (true≢false (sym installed ∙ app-found app scope desk.registry.installs found))
