-- Installs, read one behind the other.
use Rattle.std.proofs.Common.{◌≡◌, ℕ, Bool, true, false, not, cond, ◌&&◌, ◌||◌, List, [], ◌∷◌, ◌++◌, Option, Some, None}
use Rattle.std.proofs.Common.{is_none, is_some, find, option_map, refl, sym, ap, ◌∙◌, subst}
use Rattle.std.specs.List.{AllByRecursion, list_any}
use Rattle.std.specs.Option.{option_or}
use Rattle.std.proofs.lemmas.Bool.{and_parts}
use Rattle.cynara_keys.specs.Text.{same_text}
use Rattle.cynara_keys.proofs.Order.{same_text-≡}
use Rattle.app_registry.specs.Install.{install_cmp, is_of_app, is_of_package}
use Rattle.app_registry.specs.Refusal.{is_elsewhere, other_package, owner_fault, installs_limit}
use Rattle.app_registry.specs.Rules.{IsRegistry}
use Rattle.app_registry.specs.declared.installs.Install.{Install}
use Rattle.app_registry.specs.declared.refusals.RegistryRefusal.{RegistryRefusal}
use Rattle.app_registry.specs.declared.users.User.{User}
use Rattle.app_registry.proofs.Changes.{IsRegistry-with_install}
use Rattle.app_registry.proofs.Filters.{none_does, option_map-none}
use Rattle.app_registry.proofs.Orders.{install_total}
use Rattle.set_text.specs.Lines.{rises_above}
use Rattle.set_text.specs.Registry.{install_fits}
use Rattle.set_text.specs.parts.Standing.{package_with, is_other_than, noted}
use Rattle.set_text.proofs.ReadingRising.{all-below, placed-last}

-- ---- a registry with one install more

none-is : {X : Type 0} (o : Option X) → is_none o ≡ true → o ≡ None
none-is None h = refl
none-is (Some x) h = cc

pub registry-more : (users : List User) (before : List Install) (install : Install) → IsRegistry users before
    → install_fits users before install ≡ true → IsRegistry users (before ++ install ∷ [])
registry-more users before install registry fits =
    let rises = and_parts (rises_above install_cmp before install) _ fits in
    let others = and_parts (is_none (owner_fault (record { users = users; installs = before }) install))
    (is_none (installs_limit (before ++ install ∷ []))) rises.1 in
    let placed = placed-last install_total before install
    (all-below install_total before install registry.installs_rise rises.0) in
    subst (IsRegistry users) placed
    (IsRegistry-with_install registry install (none-is _ others.0)
    (subst (λ installs. installs_limit installs ≡ None) (sym placed) (none-is _ others.1)))

-- ---- one test after the other

pub is_none-or : (o p : Option RegistryRefusal) → is_none (option_or o p) ≡ (is_none o && is_none p)
is_none-or None p = refl
is_none-or (Some x) p = refl

pub is_none-map : {X Y : Type 0} (f : X → Y) (o : Option X) → is_none (option_map f o) ≡ is_none o
is_none-map f None = refl
is_none-map f (Some x) = refl

is_none-cond : {X : Type 0} (b : Bool) (x : X) (o : Option X) → is_none (cond b (Some x) o) ≡ (not b && is_none o)
is_none-cond true x o = refl
is_none-cond false x o = refl

not-or : (a b : Bool) → (not a && not b) ≡ not (a || b)
not-or true b = refl
not-or false b = refl

pub is_none-find : {X : Type 0} (test : X → Bool) (xs : List X) → is_none (find test xs) ≡ not (list_any test xs)
is_none-find test [] = refl
is_none-find test (x ∷ xs) =
    is_none-cond (test x) x (find test xs) ∙ ap (λ b. not (test x) && b) (is_none-find test xs)
    ∙ not-or (test x) (list_any test xs)

-- ---- applications in another package

-- no two of the installs are of one application and in two packages
abbrev Apart : List Install → Type 0
Apart installs = AllByRecursion
    (λ install. AllByRecursion (λ other. is_elsewhere install other ≡ false) installs) installs

apart-of : (installs all : List Install) → AllByRecursion (λ install. other_package all install ≡ None) installs
    → AllByRecursion (λ install. AllByRecursion (λ other. is_elsewhere install other ≡ false) all) installs
apart-of [] all none = tt
apart-of (install ∷ installs) all none =
    (none_does (is_elsewhere install) all (option_map-none _ _ none.0), apart-of installs all none.1)

apart-rest : (install : Install) (installs xs : List Install)
    → AllByRecursion (λ x. AllByRecursion (λ other. is_elsewhere x other ≡ false) (install ∷ installs)) xs
    → AllByRecursion (λ x. AllByRecursion (λ other. is_elsewhere x other ≡ false) installs) xs
apart-rest install installs [] all = tt
apart-rest install installs (x ∷ xs) all = (all.0.1, apart-rest install installs xs all.1)

-- installs of the same application and package are elsewhere than the same others
elsewhere-same : (install first other : Install) → install.app ≡ first.app → install.«package» ≡ first.«package»
    → is_elsewhere install other ≡ is_elsewhere first other
elsewhere-same install first other apps names =
    λ i. is_of_app (apps i) other && not (is_of_package (names i) other)

none-elsewhere : (install first : Install) (others : List Install) → install.app ≡ first.app → install.«package»
    ≡ first.«package»
    → AllByRecursion (λ other. is_elsewhere first other ≡ false) others → list_any (is_elsewhere install) others ≡ false
none-elsewhere install first [] apps names all = refl
none-elsewhere install first (other ∷ others) apps names all =
    ap (λ b. b || list_any (is_elsewhere install) others) (elsewhere-same install first other apps names ∙ all.0)
    ∙ none-elsewhere install first others apps names all.1

-- The package of the first install of the application tells whether one is in another package.
pub elsewhere-first : (install : Install) (before : List Install) → Apart before
    → list_any (is_elsewhere install) before ≡ is_other_than install.«package» (package_with before install.app)
elsewhere-first install [] apart = refl
elsewhere-first install (first ∷ before) apart =
    by (elsewhere-first install before (apart-rest first before before apart.1))
    (same_text first.app install.app) refl (same_text first.«package» install.«package») refl
  where
    by : list_any (is_elsewhere install) before ≡ is_other_than install.«package» (package_with before install.app)
        → (own : Bool) → same_text first.app install.app ≡ own → (same : Bool)
        → same_text first.«package» install.«package» ≡ same
        → list_any (is_elsewhere install) (first ∷ before)
        ≡ is_other_than install.«package» (package_with (first ∷ before) install.app)
    by later false other same names =
        ap (λ b. (b && not (is_of_package install.«package» first)) || list_any (is_elsewhere install) before) other
        ∙ later
        ∙ sym (ap (λ b. is_other_than install.«package» (option_map (λ (install : Install). install.«package»)
        (cond b (Some first) (find (is_of_app install.app) before)))) other)
    by later true own true names =
        ap (λ b. b || list_any (is_elsewhere install) before)
        ((λ i. own i && not (names i)))
        ∙ none-elsewhere install first before (sym (same_text-≡ first.app install.app own))
        (sym (same_text-≡ first.«package» install.«package» names)) apart.0.1
        ∙ sym (ap (λ b. is_other_than install.«package» (option_map (λ (install : Install). install.«package»)
        (cond b (Some first) (find (is_of_app install.app) before)))) own
        ∙ ap not names)
    by later true own false names =
        ap (λ b. b || list_any (is_elsewhere install) before)
        ((λ i. own i && not (names i)))
        ∙ sym (ap (λ b. is_other_than install.«package» (option_map (λ (install : Install). install.«package»)
        (cond b (Some first) (find (is_of_app install.app) before)))) own
        ∙ ap not names)

pub other_package-first : (users : List User) (install : Install) (before : List Install) → IsRegistry users before
    → is_none (other_package before install) ≡ not (is_other_than install.«package» (package_with before install.app))
other_package-first users install before registry =
    is_none-map _ (find (is_elsewhere install) before)
    ∙ is_none-find (is_elsewhere install) before
    ∙ ap not (elsewhere-first install before (apart-of before before registry.one_package))

-- ---- the map of packages with one install more

option_or-none : {X : Type 0} (o : Option X) → option_or o None ≡ o
option_or-none None = refl
option_or-none (Some x) = refl

pub package_with-more : (installs : List Install) (install : Install) (app : List ℕ)
    → package_with (installs ++ install ∷ []) app ≡ noted install app (package_with installs app)
package_with-more [] install app = by (is_of_app app install)
  where
    by : (b : Bool) → option_map (λ (install : Install). install.«package») (cond b (Some install) None)
        ≡ cond b (Some install.«package») None
    by true = refl
    by false = refl
package_with-more (first ∷ installs) install app = by (package_with-more installs install app) (is_of_app app first)
  where
    by : package_with (installs ++ install ∷ []) app ≡ noted install app (package_with installs app)
        → (b : Bool) → option_map (λ (install : Install). install.«package»)
        (cond b (Some first) (find (is_of_app app) (installs ++ install ∷ [])))
        ≡ noted install app (option_map (λ (install : Install). install.«package»)
        (cond b (Some first) (find (is_of_app app) installs)))
    by later true = refl
    by later false = later

-- a new one gets the package of the install
pub noted-new : (install : Install) (held : List ℕ → Option (List ℕ)) → is_some (held install.app) ≡ false
    → (app : List ℕ)
    → cond (is_of_app app install) (Some install.«package») (held app) ≡ noted install app (held app)
noted-new install held new app = by (is_of_app app install) refl
  where
    none-or : (o p : Option (List ℕ)) → is_some o ≡ false → p ≡ option_or o p
    none-or None p h = refl
    none-or (Some x) p h = cc

    by : (b : Bool) → is_of_app app install ≡ b
        → cond b (Some install.«package») (held app) ≡ option_or (held app) (cond b (Some install.«package») None)
    by true is = none-or (held app) (Some install.«package»)
        (ap (λ app. is_some (held app)) (sym (same_text-≡ install.app app is)) ∙ new)
    by false is = sym (option_or-none (held app))
