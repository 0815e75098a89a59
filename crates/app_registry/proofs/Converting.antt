-- A package that becomes hybrid, or plain, leaves a registry.
use Rattle.std.proofs.Common.{◌≡◌, ℕ, ◌+◌, Bool, true, false, not, ◌&&◌, cond, List, [], ◌∷◌, length, map, None, refl, sym, ap, ◌∙◌}
use Rattle.std.specs.List.{AllByRecursion, dedup, fold}
use Rattle.std.specs.Option.{option_or}
use Rattle.std.specs.List.Sorted.{IsStrictlySortedBy}
use Rattle.std.proofs.lemmas.List.{length-map}
use Rattle.cynara_keys.specs.Text.{same_text}
use Rattle.cynara_keys.proofs.Order.{same_text-≡}
use Rattle.cynara_keys.specs.declared.limits.Counted.TheVariants.{Packages, Installs, Grants}
use Rattle.app_registry.specs.Install.{install_cmp, is_of_package, same_kind}
use Rattle.app_registry.specs.Limits.{most_packages, most_installs, most_grants}
use Rattle.app_registry.specs.Refusal.{unknown_scope, is_elsewhere, is_by_another, is_of_other_kind, over, installs_limit}
use Rattle.app_registry.specs.Registry.{of_kind, grant_count}
use Rattle.app_registry.specs.Rules.{IsRegistry}
use Rattle.app_registry.specs.declared.installs.Install.{Install}
use Rattle.app_registry.specs.declared.users.User.{User}
use Rattle.app_registry.proofs.Changes.{InOnePackage, ByOneAuthor, OfOneKind, from_package, to_package, from_author, to_author, from_kind, to_kind, same_kind-itself, and-not}
use Rattle.app_registry.proofs.Rising.{AllByRecursion-weaker}

pub AllByRecursion-map : {X Y : Type 0} (P : X → Type 0) (Q : Y → Type 0) (f : X → Y) → ((x : X) → P x → Q (f x)) → (xs : List X)
    → AllByRecursion P xs → AllByRecursion Q (map f xs)
AllByRecursion-map P Q f g [] all = tt
AllByRecursion-map P Q f g (x ∷ xs) all = (g x all.0, AllByRecursion-map P Q f g xs all.1)

-- no install of the list clashes with it
abbrev FreeOf : (Install → Install → Bool) → List Install → Install → Type 0
FreeOf clash installs install = AllByRecursion (λ other. clash install other ≡ false) installs

-- an install, of the kind where it is said to be of the package
abbrev kinded : Bool → Bool → Install → Install
kinded hybrid here install = cond here (record install { hybrid = hybrid }) install

module _ (hybrid : Bool) where
  cmp-at : (here there : Bool) (a b : Install) → install_cmp (kinded hybrid here a) (kinded hybrid there b) ≡ install_cmp a b
  cmp-at true true a b = refl
  cmp-at true false a b = refl
  cmp-at false true a b = refl
  cmp-at false false a b = refl

  elsewhere-at : (here there : Bool) (a b : Install)
      → is_elsewhere (kinded hybrid here a) (kinded hybrid there b) ≡ is_elsewhere a b
  elsewhere-at true true a b = refl
  elsewhere-at true false a b = refl
  elsewhere-at false true a b = refl
  elsewhere-at false false a b = refl

  another-at : (here there : Bool) (a b : Install)
      → is_by_another (kinded hybrid here a) (kinded hybrid there b) ≡ is_by_another a b
  another-at true true a b = refl
  another-at true false a b = refl
  another-at false true a b = refl
  another-at false false a b = refl

  -- installs of one package are both of the package that is converted, or neither is
  kind-at : (a b : Install) (same here there : Bool) → same_text b.«package» a.«package» ≡ same → (same ≡ true → here ≡ there)
      → is_of_other_kind a b ≡ false → is_of_other_kind (kinded hybrid here a) (kinded hybrid there b) ≡ false
  kind-at a b false true true at alike free = ap (λ named. named && not (same_kind hybrid hybrid)) at
  kind-at a b false true false at alike free = ap (λ named. named && not (same_kind b.hybrid hybrid)) at
  kind-at a b false false true at alike free = ap (λ named. named && not (same_kind hybrid a.hybrid)) at
  kind-at a b false false false at alike free = free
  kind-at a b true true true at alike free =
      and-not (same_text b.«package» a.«package») (same_kind hybrid hybrid) (same_kind-itself hybrid)
  kind-at a b true true false at alike free = let wrong = alike refl in cc
  kind-at a b true false true at alike free = let wrong = alike refl in cc
  kind-at a b true false false at alike free = free

  scope-at : (here : Bool) (users : List User) (install : Install) → unknown_scope users install.scope ≡ None
      → unknown_scope users (kinded hybrid here install).scope ≡ None
  scope-at true users install known = known
  scope-at false users install known = known

  package-at : (here : Bool) (install : Install) → (kinded hybrid here install).«package» ≡ install.«package»
  package-at true install = refl
  package-at false install = refl

  privileges-at : (here : Bool) (install : Install)
      → length (kinded hybrid here install).privileges ≡ length install.privileges
  privileges-at true install = refl
  privileges-at false install = refl

module _ (name : List ℕ) (hybrid : Bool) where
  abbrev one : Install → Install
  one = of_kind name hybrid

  abbrev all_of : List Install → List Install
  all_of = map one

  -- ---- clashes

  module _ (clash : Install → Install → Bool) (maps : (a b : Install) → clash a b ≡ false → clash (one a) (one b) ≡ false) where
    free-map : (installs : List Install) → AllByRecursion (FreeOf clash installs) installs
        → AllByRecursion (FreeOf clash (all_of installs)) (all_of installs)
    free-map installs all =
        AllByRecursion-map (FreeOf clash installs) (FreeOf clash (all_of installs)) one
        (λ a free.
        AllByRecursion-map (λ b. clash a b ≡ false) (λ b. clash (one a) b ≡ false) one (λ b. maps a b) installs free)
        installs all

  kind-maps : (a b : Install) → is_of_other_kind a b ≡ false → is_of_other_kind (one a) (one b) ≡ false
  kind-maps a b free =
      kind-at hybrid a b (same_text b.«package» a.«package») (is_of_package name a) (is_of_package name b) refl
      (λ same. ap (λ text. same_text text name) (sym (same_text-≡ b.«package» a.«package» same))) free

  packages-map : (installs : List Install) → AllByRecursion (InOnePackage installs) installs
      → AllByRecursion (InOnePackage (all_of installs)) (all_of installs)
  packages-map installs all =
      AllByRecursion-weaker _ (InOnePackage (all_of installs)) (to_package (all_of installs)) (all_of installs)
      (free-map is_elsewhere
      (λ a b free. elsewhere-at hybrid (is_of_package name a) (is_of_package name b) a b ∙ free) installs
      (AllByRecursion-weaker _ _ (from_package installs) installs all))

  authors-map : (installs : List Install) → AllByRecursion (ByOneAuthor installs) installs
      → AllByRecursion (ByOneAuthor (all_of installs)) (all_of installs)
  authors-map installs all =
      AllByRecursion-weaker _ (ByOneAuthor (all_of installs)) (to_author (all_of installs)) (all_of installs)
      (free-map is_by_another
      (λ a b free. another-at hybrid (is_of_package name a) (is_of_package name b) a b ∙ free) installs
      (AllByRecursion-weaker _ _ (from_author installs) installs all))

  kinds-map : (installs : List Install) → AllByRecursion (OfOneKind installs) installs
      → AllByRecursion (OfOneKind (all_of installs)) (all_of installs)
  kinds-map installs all =
      AllByRecursion-weaker _ (OfOneKind (all_of installs)) (to_kind (all_of installs)) (all_of installs)
      (free-map is_of_other_kind kind-maps installs (AllByRecursion-weaker _ _ (from_kind installs) installs all))

  -- ---- order and counts

  rises-map : (installs : List Install) → IsStrictlySortedBy install_cmp installs → IsStrictlySortedBy install_cmp (all_of installs)
  unfolding IsStrictlySortedBy
  rises-map [] rises = tt
  rises-map (install ∷ installs) rises = (
    AllByRecursion-map _ _ one
        (λ other below. cmp-at hybrid (is_of_package name install) (is_of_package name other) install other ∙ below) installs rises.0,
    rises-map installs rises.1,
  )

  names-map : (installs : List Install)
      → map (λ (install : Install). install.«package») (all_of installs) ≡ map (λ (install : Install). install.«package») installs
  names-map [] = refl
  names-map (install ∷ installs) =
      let here = package-at hybrid (is_of_package name install) install in
      let rest = names-map installs in
      λ i. here i ∷ rest i

  -- the privileges, on top of so many
  grants-from : (sum : ℕ) (installs : List Install)
      → fold (λ count (install : Install). count + length install.privileges) sum (all_of installs)
      ≡ fold (λ count (install : Install). count + length install.privileges) sum installs
  grants-from sum [] = refl
  grants-from sum (install ∷ installs) =
      ap (λ more. fold (λ count (install : Install). count + length install.privileges) (sum + more) (all_of installs))
      (privileges-at hybrid (is_of_package name install) install)
      ∙ grants-from (sum + length install.privileges) installs

  grants-map : (installs : List Install) → grant_count (all_of installs) ≡ grant_count installs
  grants-map installs = grants-from 0 installs

  limit-map : (installs : List Install) → installs_limit (all_of installs) ≡ installs_limit installs
  limit-map installs =
      let names = ap (λ list. length (dedup same_text list)) (names-map installs) in
      let count = length-map installs one in
      let granted = grants-map installs in
      λ i. option_or (over Packages most_packages (names i))
      (option_or (over Installs most_installs (count i)) (over Grants most_grants (granted i)))

  pub IsRegistry-with_kind : {users : List User} {installs : List Install} → IsRegistry users installs
      → IsRegistry users (all_of installs)
  IsRegistry-with_kind {users} {installs} registry = record {
    users_rise = registry.users_rise;
    installs_rise = rises-map installs registry.installs_rise;
    users_known =
        AllByRecursion-map _ _ one (λ install known. scope-at hybrid (is_of_package name install) users install known) installs
        registry.users_known;
    one_package = packages-map installs registry.one_package;
    one_author = authors-map installs registry.one_author;
    one_kind = kinds-map installs registry.one_kind;
    users_fit = registry.users_fit;
    installs_fit = limit-map installs ∙ registry.installs_fit;
  }
