-- Which installs a change of the registry touches, and that what they grant is granted by no other.
use Rattle.std.proofs.Common.{◌≡◌, ℕ, ◌<◌, ◌^◌, ◌==◌, Bool, true, false, not, cond, ◌&&◌, ◌||◌, List, [], ◌∷◌, ◌++◌, map, find, decimal, Some, None, refl, sym, ap, ◌∙◌, subst, arith}
use Rattle.std.specs.declared.cmp.Ordering.{Ordering}
use Rattle.std.specs.declared.cmp.Ordering.TheVariants.{Less, Equal, Greater}
use Rattle.std.specs.List.{AllByRecursion, filter, list_any}
use Rattle.std.specs.List.Sorted.{IsStrictlySortedBy}
use Rattle.std.specs.Ordering.{is_lt, is_gt, is_eq, ordering_reverse, ordering_then}
use Rattle.std.proofs.lemmas.Bool.{true≢false}
use Rattle.std.proofs.lemmas.Bool.Decides.{nat_tests}
use Rattle.std.proofs.lemmas.List.Folds.{list_any-append}
use Rattle.std.proofs.lemmas.List.Elements.{filter-append}
use Rattle.std.proofs.lemmas.Fmt.{decimal_injective}
use Rattle.cynara_keys.specs.Text.{same_text, text_cmp}
use Rattle.cynara_keys.specs.Field.{field_text, same_field, wildcard}
use Rattle.cynara_keys.specs.Key.{key_cmp, same_key}
use Rattle.cynara_keys.specs.declared.fields.Field.TheVariants.{Exact}
use Rattle.cynara_keys.specs.Key.{Key}
use Rattle.cynara_keys.proofs.Order.{same_text-≡, ≡-same_text, text_cmp-equal, key_cmp-equal}
use Rattle.app_registry.specs.Ident.{ident_fault}
use Rattle.app_registry.specs.Install.{install_cmp, is_of_package, is_of_app, is_install_of, is_for_user}
use Rattle.app_registry.specs.Label.{install_label}
use Rattle.app_registry.specs.Manifest.{grant, install_grants, grants, scope_field}
use Rattle.app_registry.specs.Refusal.{unknown_scope, other_package, is_elsewhere}
use Rattle.app_registry.specs.Registry.{has_user, of_kind}
use Rattle.app_registry.specs.Rising.{placed}
use Rattle.app_registry.specs.Scope.{same_scope}
use Rattle.app_registry.specs.declared.installs.Install.{Install}
use Rattle.app_registry.specs.declared.installs.Scope.{Scope}
use Rattle.app_registry.specs.declared.installs.Scope.TheVariants.{Everyone, One}
use Rattle.app_registry.specs.declared.users.User.{User}
use Rattle.app_registry.proofs.Filters.{option_map-none}
use Rattle.app_registry.proofs.Orders.{install_total}
use Rattle.app_registry.proofs.Texts.{decimal-no_wildcard}
use Rattle.desk_state.proofs.Filters.{filter-outside, three-parts, rises-up}
use Rattle.desk_state.proofs.Labelling.{package_in, package_in-label}
use Rattle.desk_state.proofs.Settling.{hits}
use Rattle.desk_state.proofs.Linking.{same-user}

split : (a b : Bool) → (a && b) ≡ true → (a ≡ true) × (b ≡ true)
split true b h = (refl, h)
split false b h = absurd (true≢false (sym h))

same-client : (key other : Key) → is_eq (key_cmp key other) ≡ true → field_text key.client ≡ field_text other.client
same-client key other tied =
    let same : same_key key other ≡ true = sym (key_cmp-equal key other) ∙ tied in
    same_text-≡ (field_text key.client) (field_text other.client)
    (split (same_field key.client other.client) (same_field key.user other.user && same_field key.privilege other.privilege) same).0

-- ---- what a grant at a key says of its install

pub record IsHit (key : Key) (install : Install) : Type 0 where
  pub client : field_text key.client ≡ install_label install
  pub user : field_text key.user ≡ field_text (scope_field install.scope)

hit-each : (key : Key) (install : Install) (privileges : List (List ℕ))
    → list_any (hits key) (map (grant (Exact (install_label install)) (scope_field install.scope)) privileges) ≡ true → IsHit key install
hit-each key install [] any = absurd (true≢false (sym any))
hit-each key install (privilege ∷ privileges) any =
    at (hits key (grant (Exact (install_label install)) (scope_field install.scope) privilege)) refl any (hit-each key install privileges)
  where
    at : (b : Bool) → hits key (grant (Exact (install_label install)) (scope_field install.scope) privilege) ≡ b
        → (b || list_any (hits key) (map (grant (Exact (install_label install)) (scope_field install.scope)) privileges)) ≡ true
        → (list_any (hits key) (map (grant (Exact (install_label install)) (scope_field install.scope)) privileges) ≡ true → IsHit key install)
        → IsHit key install
    at true is any rest = record {
      client = same-client key (grant (Exact (install_label install)) (scope_field install.scope) privilege) is;
      user = same-user key (grant (Exact (install_label install)) (scope_field install.scope) privilege) is;
    }
    at false is any rest = rest any

pub hit : (key : Key) (install : Install) → list_any (hits key) (install_grants install) ≡ true → IsHit key install
hit key install any = hit-each key install install.privileges any

-- ---- touched installs and the others

module _ (key : Key) (Mark : Type 0) (test : Install → Bool)
    (marked : (install : Install) → test install ≡ true → list_any (hits key) (install_grants install) ≡ true → Mark) where
  find-mark : (installs : List Install) → list_any (hits key) (grants (filter test installs)) ≡ true → Mark
  find-mark [] any = absurd (true≢false (sym any))
  find-mark (install ∷ installs) any = at (test install) refl any (find-mark installs)
    where
      either : (b : Bool) → test install ≡ true → list_any (hits key) (install_grants install) ≡ b
          → (b || list_any (hits key) (grants (filter test installs))) ≡ true
          → (list_any (hits key) (grants (filter test installs)) ≡ true → Mark) → Mark
      either true passes is found rest = marked install passes is
      either false passes is found rest = rest found

      at : (b : Bool) → test install ≡ b → list_any (hits key) (grants (cond b (install ∷ filter test installs) (filter test installs))) ≡ true
          → (list_any (hits key) (grants (filter test installs)) ≡ true → Mark) → Mark
      at true passes found rest =
          either (list_any (hits key) (install_grants install)) passes refl
          (sym (list_any-append (hits key) (install_grants install) (grants (filter test installs))) ∙ found) rest
      at false passes found rest = rest found

  none-others : Mark → (installs : List Install)
      → AllByRecursion (λ (install : Install). test install ≡ false → Mark → list_any (hits key) (install_grants install) ≡ false) installs
      → list_any (hits key) (grants (filter (λ (install : Install). not (test install)) installs)) ≡ false
  none-others mark [] all = refl
  none-others mark (install ∷ installs) all = at (test install) refl (none-others mark installs all.1)
    where
      at : (b : Bool) → test install ≡ b
          → list_any (hits key) (grants (filter (λ (other : Install). not (test other)) installs)) ≡ false
          → list_any (hits key) (grants (cond (not b) (install ∷ filter (λ (other : Install). not (test other)) installs) (filter (λ (other : Install). not (test other)) installs))) ≡ false
      at true passes rest = rest
      at false passes rest =
          list_any-append (hits key) (install_grants install) (grants (filter (λ (other : Install). not (test other)) installs))
          ∙ (λ i. all.0 passes mark i || rest i)

  pub apart-parts : (installs : List Install)
      → AllByRecursion (λ (install : Install). test install ≡ false → Mark → list_any (hits key) (install_grants install) ≡ false) installs
      → list_any (hits key) (grants (filter test installs)) ≡ true
      → list_any (hits key) (grants (filter (λ (install : Install). not (test install)) installs)) ≡ false
  apart-parts installs all any = none-others (find-mark installs any) installs all

all-of : {X : Type 0} (P : X → Type 0) → ((x : X) → P x) → (xs : List X) → AllByRecursion P xs
all-of P every [] = tt
all-of P every (x ∷ xs) = (every x, all-of P every xs)

-- ---- installs of a package

-- what the label of a package's install says is said by no install of another package
pub package-apart : (name : List ℕ) → ident_fault name ≡ None → (installs : List Install)
    → AllByRecursion (λ (install : Install). ident_fault install.package ≡ None) installs → (key : Key)
    → list_any (hits key) (grants (filter (is_of_package name) installs)) ≡ true
    → list_any (hits key) (grants (filter (λ (install : Install). not (is_of_package name install)) installs)) ≡ false
package-apart name sound installs rights key =
    apart-parts key (package_in (field_text key.client) ≡ name) (is_of_package name) (λ install of any. own install of any) installs
    (each installs rights)
  where
    own : (install : Install) → is_of_package name install ≡ true → list_any (hits key) (install_grants install) ≡ true
        → package_in (field_text key.client) ≡ name
    own install of any =
        let is : install.package ≡ name = same_text-≡ install.package name of in
        ap package_in (hit key install any).client
        ∙ package_in-label install (subst (λ text. ident_fault text ≡ None) (sym is) sound)
        ∙ is

    at : (install : Install) → ident_fault install.package ≡ None → is_of_package name install ≡ false
        → package_in (field_text key.client) ≡ name → (b : Bool) → list_any (hits key) (install_grants install) ≡ b → b ≡ false
    at install right differs mark true any =
        let same : install.package ≡ name = sym (ap package_in (hit key install any).client ∙ package_in-label install right) ∙ mark in
        absurd (true≢false (sym (≡-same_text install.package name same) ∙ differs))
    at install right differs mark false any = refl

    each : (others : List Install) → AllByRecursion (λ (install : Install). ident_fault install.package ≡ None) others
        → AllByRecursion (λ (install : Install). is_of_package name install ≡ false → package_in (field_text key.client) ≡ name
        → list_any (hits key) (install_grants install) ≡ false) others
    each [] rights = tt
    each (install ∷ others) rights =
        ((λ differs mark. at install rights.0 differs mark (list_any (hits key) (install_grants install)) refl), each others rights.1)

-- ---- installs for a user

abbrev pub ScopeFits : Scope → Type 0
ScopeFits Everyone = Unit {0}
ScopeFits (One uid) = uid < 2 ^ 64

eqb-apart : (a b : ℕ) → (a == b) ≡ false → a ≡ b → ⊥
eqb-apart a b h same = absurd (grind (arith, nat_tests))

pub user-apart : (uid : ℕ) (installs : List Install) → uid < 2 ^ 64
    → AllByRecursion (λ (install : Install). ScopeFits install.scope) installs → (key : Key)
    → list_any (hits key) (grants (filter (λ (install : Install). is_for_user uid install.scope) installs)) ≡ true
    → list_any (hits key) (grants (filter (λ (install : Install). not (is_for_user uid install.scope)) installs)) ≡ false
user-apart uid installs fits all key =
    apart-parts key (field_text key.user ≡ decimal uid) (λ (install : Install). is_for_user uid install.scope)
    (λ install for any. (hit key install any).user ∙ own install.scope for) installs (each installs all)
  where
    eqb-same : (a b : ℕ) → (a == b) ≡ true → a ≡ b
    eqb-same a b h = grind (arith, nat_tests)

    own : (scope : Scope) → is_for_user uid scope ≡ true → field_text (scope_field scope) ≡ decimal uid
    own Everyone for = absurd (true≢false (sym for))
    own (One other) for = ap decimal (eqb-same other uid for)

    clash : (scope : Scope) → ScopeFits scope → is_for_user uid scope ≡ false → field_text (scope_field scope) ≡ decimal uid → ⊥
    clash Everyone small differs same =
        true≢false (sym (≡-same_text (decimal uid) wildcard (sym same)) ∙ decimal-no_wildcard uid)
    clash (One other) small differs same = eqb-apart other uid differs (decimal_injective other uid small fits same)

    at : (install : Install) → ScopeFits install.scope → is_for_user uid install.scope ≡ false → field_text key.user ≡ decimal uid
        → (b : Bool) → list_any (hits key) (install_grants install) ≡ b → b ≡ false
    at install small differs mark true any = absurd (clash install.scope small differs (sym (hit key install any).user ∙ mark))
    at install small differs mark false any = refl

    each : (others : List Install) → AllByRecursion (λ (install : Install). ScopeFits install.scope) others
        → AllByRecursion (λ (install : Install). is_for_user uid install.scope ≡ false → field_text key.user ≡ decimal uid
        → list_any (hits key) (install_grants install) ≡ false) others
    each [] small = tt
    each (install ∷ others) small =
        ((λ differs mark. at install small.0 differs mark (list_any (hits key) (install_grants install)) refl), each others small.1)

-- the numbers of users fit, so those of scopes do
pub scopes-fit : (users : List User) (installs : List Install) → AllByRecursion (λ (user : User). user.uid < 2 ^ 64) users
    → AllByRecursion (λ install. unknown_scope users install.scope ≡ None) installs
    → AllByRecursion (λ (install : Install). ScopeFits install.scope) installs
scopes-fit users [] small known = tt
scopes-fit users (install ∷ installs) small known = (one install.scope known.0, scopes-fit users installs small known.1)
  where
    eqb-same : (a b : ℕ) → (a == b) ≡ true → a ≡ b
    eqb-same a b h = grind (arith, nat_tests)

    there : (b : Bool) (uid : ℕ) → cond b None (Some uid) ≡ None → b ≡ true
    there true uid h = refl
    there false uid h = cc

    found : (uid : ℕ) (others : List User) → AllByRecursion (λ (user : User). user.uid < 2 ^ 64) others
        → list_any (λ (user : User). user.uid == uid) others ≡ true → uid < 2 ^ 64
    found uid [] small any = absurd (true≢false (sym any))
    found uid (user ∷ others) small any = at (user.uid == uid) refl any (found uid others small.1)
      where
        at : (b : Bool) → (user.uid == uid) ≡ b → (b || list_any (λ (other : User). other.uid == uid) others) ≡ true
            → (list_any (λ (other : User). other.uid == uid) others ≡ true → uid < 2 ^ 64) → uid < 2 ^ 64
        at true is any rest = subst (λ n. n < 2 ^ 64) (eqb-same user.uid uid is) small.0
        at false is any rest = rest any

    is-there : (b : Bool) {E : Type 0} (fault : E) → cond b None (Some fault) ≡ None → b ≡ true
    is-there true fault h = refl
    is-there false fault h = cc

    one : (scope : Scope) → unknown_scope users scope ≡ None → ScopeFits scope
    one Everyone known = tt
    one (One uid) known = found uid users small (is-there (has_user users uid) _ known)

-- ---- the installs that are not touched stay

above-turned : (o : Ordering) → is_lt (ordering_reverse o) ≡ is_gt o
above-turned Less = refl
above-turned Equal = refl
above-turned Greater = refl

tied-package : (other install : Install) → is_eq (install_cmp other install) ≡ true → same_text other.package install.package ≡ true
tied-package other install tied =
    sym (text_cmp-equal other.package install.package) ∙ first (text_cmp other.package install.package) _ tied
  where
    first : (o p : Ordering) → is_eq (ordering_then o p) ≡ true → is_eq o ≡ true
    first Less p h = h
    first Equal p h = refl
    first Greater p h = h

pub install-rest : (install : Install) (installs : List Install) → IsStrictlySortedBy install_cmp installs
    → filter (λ (other : Install). not (is_of_package install.package other)) (placed install_cmp install installs)
    ≡ filter (λ (other : Install). not (is_of_package install.package other)) installs
install-rest install installs rise =
    let rest : Install → Bool = λ other. not (is_of_package install.package other) in
    let below = filter (λ (other : Install). is_lt (install_cmp other install)) installs in
    let level = filter (λ (other : Install). is_eq (install_cmp other install)) installs in
    let above = filter (λ (other : Install). is_lt (install_cmp install other)) installs in
    filter-append rest below (install ∷ above)
    ∙ ap (λ b. filter rest below ++ cond (not b) (install ∷ filter rest above) (filter rest above)) (≡-same_text install.package install.package refl)
    ∙ ap (λ list. filter rest below ++ (list ++ filter rest above))
    (sym (filter-outside rest (λ (other : Install). is_eq (install_cmp other install))
    (λ other untouched. off other untouched (is_eq (install_cmp other install)) refl) installs))
    ∙ ap (λ list. filter rest below ++ list) (sym (filter-append rest level above))
    ∙ sym (filter-append rest below (level ++ above))
    ∙ ap (filter rest)
    (ap (λ list. below ++ (level ++ list)) (λ i. filter (λ (other : Install). (ap is_lt (install_total.antisymm install other) ∙ above-turned (install_cmp other install)) i) installs)
    ∙ three-parts (λ (other : Install). install_cmp other install) installs (rises-up install_total install installs rise))
  where
    off : (other : Install) → not (is_of_package install.package other) ≡ true → (b : Bool) → is_eq (install_cmp other install) ≡ b → b ≡ false
    off other untouched true tied = absurd (true≢false (sym (ap not (sym (tied-package other install tied)) ∙ untouched)))
    off other untouched false tied = refl

-- a package of another kind leaves the installs of the others
pub convert-rest : (name : List ℕ) (hybrid : Bool) (installs : List Install)
    → filter (λ (other : Install). not (is_of_package name other)) (map (of_kind name hybrid) installs)
    ≡ filter (λ (other : Install). not (is_of_package name other)) installs
convert-rest name hybrid [] = refl
convert-rest name hybrid (install ∷ installs) = at (is_of_package name install) refl (convert-rest name hybrid installs)
  where
    at : (b : Bool) → is_of_package name install ≡ b
        → filter (λ (other : Install). not (is_of_package name other)) (map (of_kind name hybrid) installs)
        ≡ filter (λ (other : Install). not (is_of_package name other)) installs
        → filter (λ (other : Install). not (is_of_package name other))
        (cond b (record install { hybrid = hybrid }) install ∷ map (of_kind name hybrid) installs)
        ≡ cond (not b) (install ∷ filter (λ (other : Install). not (is_of_package name other)) installs)
        (filter (λ (other : Install). not (is_of_package name other)) installs)
    at true is same =
        ap (λ t. cond (not t)
        (record install { hybrid = hybrid } ∷ filter (λ (other : Install). not (is_of_package name other)) (map (of_kind name hybrid) installs))
        (filter (λ (other : Install). not (is_of_package name other)) (map (of_kind name hybrid) installs))) is
        ∙ same
    at false is same =
        ap (λ t. cond (not t)
        (install ∷ filter (λ (other : Install). not (is_of_package name other)) (map (of_kind name hybrid) installs))
        (filter (λ (other : Install). not (is_of_package name other)) (map (of_kind name hybrid) installs))) is
        ∙ ap (λ others. install ∷ others) same

-- what holds of all is so of the one that is found
pub found-of : {X : Type 0} (P : X → Type 0) (test : X → Bool) (xs : List X) (x : X) → find test xs ≡ Some x → AllByRecursion P xs → P x
found-of P test [] x found all = cc
found-of P test (y ∷ ys) x found all = at (test y) found (λ later. found-of P test ys x later all.1)
  where
    at : (b : Bool) → cond b (Some y) (find test ys) ≡ Some x → (find test ys ≡ Some x → P x) → P x
    at true is later = let same : y ≡ x = cc in subst P same all.0
    at false is later = later is

-- ---- the package of an application

-- a filter over elements of a list
within-all : {X : Type 0} (test kept : X → Bool) (xs : List X) → AllByRecursion (λ x. test x ≡ true → kept x ≡ true) xs
    → filter test (filter kept xs) ≡ filter test xs
within-all test kept [] all = refl
within-all test kept (x ∷ xs) all = parts (within-all test kept xs all.1) (kept x) (test x) refl refl
  where
    parts : filter test (filter kept xs) ≡ filter test xs → (keeps passes : Bool) → kept x ≡ keeps → test x ≡ passes
        → filter test (cond keeps (x ∷ filter kept xs) (filter kept xs)) ≡ cond passes (x ∷ filter test xs) (filter test xs)
    parts rest true true is has = ap (λ b. cond b (x ∷ filter test (filter kept xs)) (filter test (filter kept xs))) has ∙ ap (λ list. x ∷ list) rest
    parts rest true false is has = ap (λ b. cond b (x ∷ filter test (filter kept xs)) (filter test (filter kept xs))) has ∙ rest
    parts rest false true is has = absurd (true≢false (sym (all.0 has) ∙ is))
    parts rest false false is has = rest

module _ {X : Type 0} (test : X → Bool) where
  find-passes : (xs : List X) (x : X) → find test xs ≡ Some x → test x ≡ true
  find-passes [] x is = cc
  find-passes (y ∷ xs) x is = at (test y) refl is (find-passes xs x)
    where
      at : (b : Bool) → test y ≡ b → cond b (Some y) (find test xs) ≡ Some x → (find test xs ≡ Some x → test x ≡ true) → test x ≡ true
      at true passes same rest = let one : y ≡ x = cc in ap test (sym one) ∙ passes
      at false passes same rest = rest same

  find-all : (P : X → Type 0) (xs : List X) (x : X) → AllByRecursion P xs → find test xs ≡ Some x → P x
  find-all P [] x all is = cc
  find-all P (y ∷ xs) x all is = at (test y) is (find-all P xs x all.1)
    where
      at : (b : Bool) → cond b (Some y) (find test xs) ≡ Some x → (find test xs ≡ Some x → P x) → P x
      at true same rest = let one : y ≡ x = cc in subst P one all.0
      at false same rest = rest same

  none-all : (xs : List X) → find test xs ≡ None → AllByRecursion (λ x. test x ≡ false) xs
  none-all [] none = tt
  none-all (y ∷ xs) none = at (test y) refl none (none-all xs)
    where
      at : (b : Bool) → test y ≡ b → cond b (Some y) (find test xs) ≡ None → (find test xs ≡ None → AllByRecursion (λ x. test x ≡ false) xs)
          → (test y ≡ false) × AllByRecursion (λ x. test x ≡ false) xs
      at true passes h rest = cc
      at false passes h rest = (passes, rest h)

-- the application stands in one package
pub uninstall-rest : (app : List ℕ) (scope : Scope) (first : Install) (installs : List Install) → find (is_of_app app) installs ≡ Some first
    → AllByRecursion (λ install. other_package installs install ≡ None) installs
    → filter (λ (other : Install). not (is_of_package first.package other)) (filter (λ (other : Install). not (is_install_of app scope other)) installs)
    ≡ filter (λ (other : Install). not (is_of_package first.package other)) installs
uninstall-rest app scope first installs is one_package =
    within-all (λ (other : Install). not (is_of_package first.package other)) (λ (other : Install). not (is_install_of app scope other)) installs
    (each installs (none-all (is_elsewhere first) installs (option_map-none _ (find (is_elsewhere first) installs) alone)))
  where
    alone : other_package installs first ≡ None
    alone = find-all (is_of_app app) (λ install. other_package installs install ≡ None) installs first one_package is

    own_app : first.app ≡ app
    own_app = same_text-≡ first.app app (find-passes (is_of_app app) installs first is)

    kept : (a s p : Bool) → (a && not p) ≡ false → not p ≡ true → not (a && s) ≡ true
    kept true s true h passes = absurd (true≢false (sym passes))
    kept true s false h passes = absurd (true≢false h)
    kept false s p h passes = refl

    each : (others : List Install) → AllByRecursion (λ other. is_elsewhere first other ≡ false) others
        → AllByRecursion (λ (other : Install). not (is_of_package first.package other) ≡ true → not (is_install_of app scope other) ≡ true) others
    each [] all = tt
    each (other ∷ others) all =
        ((λ passes. kept (is_of_app app other) _ (is_of_package first.package other) (ap (λ name. is_of_app name other && not (is_of_package first.package other)) (sym own_app) ∙ all.0) passes), each others all.1)

-- an install of an application is found
pub app-found : (app : List ℕ) (scope : Scope) (installs : List Install) → find (is_of_app app) installs ≡ None
    → list_any (is_install_of app scope) installs ≡ false
app-found app scope installs none = each installs (none-all (is_of_app app) installs none)
  where
    each : (others : List Install) → AllByRecursion (λ other. is_of_app app other ≡ false) others → list_any (is_install_of app scope) others ≡ false
    each [] all = refl
    each (other ∷ others) all = λ i. (all.0 i && same_scope other.scope scope) || each others all.1 i
