-- The rules of installs: those of each line, with the installs before it, and those of all.
use Rattle.std.proofs.Common.{◌≡◌, ℕ, ◌≤◌, Bool, true, false, not, cond, ◌&&◌, find, List, [], ◌∷◌, ◌++◌, length, map}
use Rattle.std.proofs.Common.{Option, Some, None, is_none, Ok, refl, sym, ap, subst, ◌∙◌, arith, append_assoc}
use Rattle.std.proofs.Common.{append-nil, length-append}
use Rattle.std.specs.Option.{option_map}
use Rattle.std.specs.List.{AllByRecursion, dedup_from}
use mathlib.Core.Bool.{and-false}
use Rattle.std.proofs.lemmas.Bool.{le-ltb}
use Rattle.std.proofs.lemmas.List.{map-append}
use Rattle.std.proofs.lemmas.List.Sums.{sum_by-append}
use Rattle.cynara_keys.specs.Text.{same_text}
use Rattle.cynara_keys.specs.declared.limits.Counted.TheVariants.{Users, Packages, Installs, Grants}
use Rattle.cynara_keys.proofs.Order.{same_text-≡, ≡-same_text}
use Rattle.app_registry.specs.Install.{install_cmp, same_author, same_kind}
use Rattle.app_registry.specs.Refusal.{unknown_scope, is_elsewhere, other_package, is_by_another, other_author, is_of_other_kind, other_kind}
use Rattle.app_registry.specs.Refusal.{owner_fault, over, installs_limit}
use Rattle.app_registry.specs.Registry.{RegistryLists, packages, grant_count}
use Rattle.app_registry.specs.Rules.{IsRegistry}
use Rattle.app_registry.specs.declared.installs.Install.{Install}
use Rattle.app_registry.specs.declared.refusals.RegistryRefusal.TheVariants.{OtherPackage, OtherAuthor, OtherHybrid, Limit}
use Rattle.app_registry.specs.Limits.{most_users, most_packages, most_installs, most_grants}
use Rattle.app_registry.specs.declared.users.User.{User}
use Rattle.app_registry.proofs.Counts.{over-fits, or-none, both-none}
use Rattle.app_registry.proofs.Filters.{option_map-none, none_does}
use Rattle.app_registry.proofs.Orders.{install_total}
use Rattle.bucket_store.proofs.Lists.{All-weaker, All-append}
use Rattle.text_lines.specs.Lines.{HasNoNewline}
use Rattle.set_text.specs.IsSpelt.{IsInstall}
use Rattle.set_text.specs.Lines.{rises_above}
use Rattle.set_text.specs.Registry.{install_line, apps_text, install_of, install_fits, installs_of}
use Rattle.set_text.proofs.round.InstallLines.{install-newline, install-read, install-spelled}
use Rattle.set_text.proofs.round.Plain.{none-is}
use Rattle.set_text.proofs.round.UserLines.{AreUsers}
use Rattle.set_text.proofs.round.Values.{AllFit, fit-both, fit-first, fit-second, rises-fit, fit-rises, values-read}
use Rattle.set_text.proofs.round.Values.{values-spelled}

-- ---- what was not found

module _ {X : Type 0} (test : X → Bool) where
  find-front : (xs ys : List X) → find test (xs ++ ys) ≡ None → find test xs ≡ None
  find-front [] ys none = refl
  find-front (x ∷ xs) ys none = by (test x) none (find-front xs ys)
    where
      by : (b : Bool) → cond b (Some x) (find test (xs ++ ys)) ≡ None
          → (find test (xs ++ ys) ≡ None → find test xs ≡ None) → cond b (Some x) (find test xs) ≡ None
      by true none rest = cc
      by false none rest = rest none

  find-end : (xs : List X) (x : X) → find test xs ≡ None → test x ≡ false → find test (xs ++ x ∷ []) ≡ None
  find-end [] x none here = ap (λ b. cond b (Some x) None) here
  find-end (y ∷ xs) x none here = by (test y) none (λ none. find-end xs x none here)
    where
      by : (b : Bool) → cond b (Some y) (find test xs) ≡ None
          → (find test xs ≡ None → find test (xs ++ x ∷ []) ≡ None) → cond b (Some y) (find test (xs ++ x ∷ [])) ≡ None
      by true none rest = cc
      by false none rest = rest none

-- ---- two installs that exclude each other

module _ {X : Type 0} (excludes : X → X → Bool) (turn : (x y : X) → excludes x y ≡ excludes y x)
    (own : (x : X) → excludes x x ≡ false) where
  abbrev NoneExcluded : List X → List X → Type 0
  NoneExcluded whole xs = AllByRecursion (λ x. find (excludes x) whole ≡ None) xs

  one-more : (whole : List X) (new : X) (xs : List X) → NoneExcluded whole xs
      → AllByRecursion (λ x. excludes new x ≡ false) xs
      → NoneExcluded (whole ++ new ∷ []) xs
  one-more whole new [] none apart = tt
  one-more whole new (x ∷ xs) none apart = (
    find-end (excludes x) whole new none.0 (turn x new ∙ apart.0),
    one-more whole new xs none.1 apart.1,
  )

  -- where none excludes one before it, none excludes any
  none-excluded : (before values : List X) → NoneExcluded before before
      → AllFit (λ before value. is_none (find (excludes value) before)) before values
      → NoneExcluded (before ++ values) (before ++ values)
  none-excluded before [] none fit = subst (λ (list : List X). NoneExcluded list list) (sym (append-nil before)) none
  none-excluded before (value ∷ values) none fit =
      let here : find (excludes value) before ≡ None = none-is (find (excludes value) before) fit.0 in
      subst (λ (list : List X). NoneExcluded list list) (append_assoc before (value ∷ []) values)
      (none-excluded (before ++ value ∷ []) values
      (All-append (λ x. find (excludes x) (before ++ value ∷ []) ≡ None) before (value ∷ [])
      (one-more before value before none (none_does (excludes value) before here))
      (find-end (excludes value) before value here (own value), tt)) fit.1)

text-turn : (a b : List ℕ) → same_text a b ≡ same_text b a
text-turn a b = by (same_text a b) (same_text b a) refl refl
  where
    by : (x y : Bool) → same_text a b ≡ x → same_text b a ≡ y → x ≡ y
    by true y first second = sym (≡-same_text b a (sym (same_text-≡ a b first))) ∙ second
    by false true first second = sym first ∙ ≡-same_text a b (sym (same_text-≡ b a second))
    by false false first second = refl

author-turn : (a b : Option (List ℕ)) → same_author a b ≡ same_author b a
author-turn None None = refl
author-turn None (Some b) = refl
author-turn (Some a) None = refl
author-turn (Some a) (Some b) = text-turn a b

author-own : (a : Option (List ℕ)) → same_author a a ≡ true
author-own None = refl
author-own (Some a) = ≡-same_text a a refl

elsewhere-turn : (x y : Install) → is_elsewhere x y ≡ is_elsewhere y x
elsewhere-turn x y =
    let app = text-turn y.app x.app in
    let «package» = text-turn y.«package» x.«package» in
    λ i. app i && not («package» i)

elsewhere-own : (x : Install) → is_elsewhere x x ≡ false
elsewhere-own x =
    ap (λ b. same_text x.app x.app && not b) (≡-same_text x.«package» x.«package» refl)
    ∙ and-false (same_text x.app x.app)

another-turn : (x y : Install) → is_by_another x y ≡ is_by_another y x
another-turn x y =
    let «package» = text-turn y.«package» x.«package» in
    let author = author-turn y.author x.author in
    λ i. «package» i && not (author i)

another-own : (x : Install) → is_by_another x x ≡ false
another-own x =
    ap (λ b. same_text x.«package» x.«package» && not b) (author-own x.author)
    ∙ and-false (same_text x.«package» x.«package»)

kind-turn : (a b : Bool) → same_kind a b ≡ same_kind b a
kind-turn true true = refl
kind-turn true false = refl
kind-turn false true = refl
kind-turn false false = refl

kind-own : (a : Bool) → same_kind a a ≡ true
kind-own true = refl
kind-own false = refl

other_kind-turn : (x y : Install) → is_of_other_kind x y ≡ is_of_other_kind y x
other_kind-turn x y =
    let «package» = text-turn y.«package» x.«package» in
    let kind = kind-turn y.hybrid x.hybrid in
    λ i. «package» i && not (kind i)

other_kind-own : (x : Install) → is_of_other_kind x x ≡ false
other_kind-own x =
    ap (λ b. same_text x.«package» x.«package» && not b) (kind-own x.hybrid)
    ∙ and-false (same_text x.«package» x.«package»)

-- ---- the limits of a front of the installs

names-some : (name : List ℕ) (names : List (List ℕ)) → 1 ≤ length (dedup_from same_text name names)
names-some name [] = omega arith
names-some name (next ∷ names) = by (same_text next name) (names-some name names) (names-some next names)
  where
    by : (b : Bool) → 1 ≤ length (dedup_from same_text name names) → 1 ≤ length (dedup_from same_text next names)
        → 1 ≤ length (cond b (dedup_from same_text name names) (name ∷ dedup_from same_text next names))
    by true one other = one
    by false one other = omega (arith, other)

names-front : (name : List ℕ) (xs ys : List (List ℕ))
    → length (dedup_from same_text name xs) ≤ length (dedup_from same_text name (xs ++ ys))
names-front name [] ys = omega (arith, names-some name ys)
names-front name (next ∷ xs) ys = by (same_text next name) (names-front name xs ys) (names-front next xs ys)
  where
    by : (b : Bool) → length (dedup_from same_text name xs) ≤ length (dedup_from same_text name (xs ++ ys))
        → length (dedup_from same_text next xs) ≤ length (dedup_from same_text next (xs ++ ys))
        → length (cond b (dedup_from same_text name xs) (name ∷ dedup_from same_text next xs))
        ≤ length (cond b (dedup_from same_text name (xs ++ ys)) (name ∷ dedup_from same_text next (xs ++ ys)))
    by true one other = one
    by false one other = omega (arith, other)

packages-front : (xs ys : List Install) → length (packages xs) ≤ length (packages (xs ++ ys))
packages-front [] ys = omega arith
packages-front (x ∷ xs) ys =
    let name = λ (install : Install). install.«package» in
    let count : length (packages (x ∷ (xs ++ ys))) ≡ length
    (dedup_from same_text x.«package» (map name xs ++ map name ys)) =
    ap (λ names. length (dedup_from same_text x.«package» names)) (map-append name xs ys) in
    omega (arith, count, names-front x.«package» (map name xs) (map name ys))

limit-front : (xs ys : List Install) → installs_limit (xs ++ ys) ≡ None → installs_limit xs ≡ None
limit-front xs ys fits =
    let whole = xs ++ ys in
    let packages_fit = or-none (over Packages most_packages (length (packages whole))) _ fits in
    let others_fit = or-none (over Installs most_installs (length whole)) _ packages_fit.1 in
    let grants = sum_by-append (λ (install : Install). length install.privileges) xs ys in
    both-none
    (over-fits Packages most_packages (length (packages whole)) (length (packages xs)) packages_fit.0
    (packages-front xs ys))
    (both-none
    (over-fits Installs most_installs (length whole) (length xs) others_fit.0 (omega (arith, length-append xs ys)))
    (over-fits Grants most_grants (grant_count whole) (grant_count xs) others_fit.1 (omega (arith, grants))))

-- ---- from all installs to each line

module _ (users : List User) (whole : List Install) where
  abbrev registry : List Install → RegistryLists
  registry installs = record { users = users; installs = installs }

  owners-fit : (before values : List Install) → whole ≡ before ++ values
      → AllByRecursion (λ (install : Install). unknown_scope users install.scope ≡ None) values
      → AllByRecursion (λ install. other_package whole install ≡ None) values
      → AllByRecursion (λ install. other_author whole install ≡ None) values
      → AllByRecursion (λ install. other_kind whole install ≡ None) values
      → AllFit (λ before install. is_none (owner_fault (registry before) install)) before values
  owners-fit before [] is known one by_one of_one = tt
  owners-fit before (install ∷ values) is known one by_one of_one =
      let third : find (is_of_other_kind install) whole ≡ None =
      option_map-none (λ (other : Install). OtherHybrid other.hybrid) (find (is_of_other_kind install) whole) of_one.0 in
      let kind : other_kind before install ≡ None =
      ap (option_map (λ (other : Install). OtherHybrid other.hybrid))
      (find-front (is_of_other_kind install) before (install ∷ values)
      (sym (ap (find (is_of_other_kind install)) is) ∙ third)) in
      let first : find (is_elsewhere install) whole ≡ None =
      option_map-none (λ (other : Install). OtherPackage other.«package») (find (is_elsewhere install) whole) one.0 in
      let second : find (is_by_another install) whole ≡ None =
      option_map-none (λ (other : Install). OtherAuthor other.author) (find (is_by_another install) whole) by_one.0 in
      let elsewhere : other_package before install ≡ None =
      ap (option_map (λ (other : Install). OtherPackage other.«package»))
      (find-front (is_elsewhere install) before (install ∷ values)
      (sym (ap (find (is_elsewhere install)) is) ∙ first)) in
      let another : other_author before install ≡ None =
      ap (option_map (λ (other : Install). OtherAuthor other.author))
      (find-front (is_by_another install) before (install ∷ values)
      (sym (ap (find (is_by_another install)) is) ∙ second)) in (
        ap is_none (both-none known.0 (both-none elsewhere (both-none another kind))),
        owners-fit (before ++ install ∷ []) values
            (is ∙ sym (append_assoc before (install ∷ []) values)) known.1 one.1 by_one.1 of_one.1,
      )

  limits-fit : (before values : List Install) → whole ≡ before ++ values → installs_limit whole ≡ None
      → AllFit (λ before install. is_none (installs_limit (before ++ install ∷ []))) before values
  limits-fit before [] is fits = tt
  limits-fit before (install ∷ values) is fits =
      let parts = is ∙ sym (append_assoc before (install ∷ []) values) in (
        ap is_none (limit-front (before ++ install ∷ []) values (sym (ap installs_limit parts) ∙ fits)),
        limits-fit (before ++ install ∷ []) values parts fits,
      )

abbrev owner_fits : List User → List Install → Install → Bool
owner_fits users before install = is_none (owner_fault (record { users = users; installs = before }) install)

abbrev limit_fits : List Install → Install → Bool
limit_fits before install = is_none (installs_limit (before ++ install ∷ []))

-- the installs of a state are what their lines give
pub installs-read : (users : List User) (installs : List Install) → AllByRecursion IsInstall installs
    → IsRegistry users installs
    → installs_of users (apps_text installs) ≡ Ok installs
installs-read users installs all is =
    values-read (install_fits users) install_of install_line installs
    (All-weaker IsInstall
    (λ install. HasNoNewline (install_line install) × (install_of (install_line install) ≡ Some install))
    (λ install is. (install-newline install is, install-read install is)) installs all)
    (fit-both (rises_above install_cmp)
    (λ before install. owner_fits users before install && limit_fits before install) [] installs
    (rises-fit install_cmp installs is.installs_rise)
    (fit-both (owner_fits users) limit_fits [] installs
    (owners-fit users installs [] installs refl is.users_known is.one_package is.one_author is.one_kind)
    (limits-fit users installs [] installs refl is.installs_fit)))

-- ---- from each line to all installs

limits-whole : (before values : List Install) → installs_limit before ≡ None → AllFit limit_fits before values
    → installs_limit (before ++ values) ≡ None
limits-whole before [] fits fit = ap installs_limit (append-nil before) ∙ fits
limits-whole before (install ∷ values) fits fit =
    ap installs_limit (sym (append_assoc before (install ∷ []) values))
    ∙ limits-whole (before ++ install ∷ []) values (none-is (installs_limit (before ++ install ∷ [])) fit.0) fit.1

module _ (users : List User) where
  -- what the owner of each line says
  record Owners (before values : List Install) : Type 0 where
    known : AllByRecursion (λ (install : Install). unknown_scope users install.scope ≡ None) values
    one : AllFit (λ before install. is_none (find (is_elsewhere install) before)) before values
    by_one : AllFit (λ before install. is_none (find (is_by_another install) before)) before values
    of_one : AllFit (λ before install. is_none (find (is_of_other_kind install) before)) before values

  owners-whole : (before values : List Install) → AllFit (owner_fits users) before values → Owners before values
  owners-whole before [] fit = record { known = tt; one = tt; by_one = tt; of_one = tt }
  owners-whole before (install ∷ values) fit =
      let rest = owners-whole (before ++ install ∷ []) values fit.1 in
      let parts = or-none (unknown_scope users install.scope) _
      (none-is (owner_fault (record { users = users; installs = before }) install) fit.0) in
      let owners = or-none (other_package before install) _ parts.1 in
      let makers = or-none (other_author before install) (other_kind before install) owners.1 in
      record {
        known = (parts.0, rest.known);
        one = (
          ap is_none (option_map-none (λ (other : Install). OtherPackage other.«package»)
              (find (is_elsewhere install) before) owners.0),
          rest.one,
        );
        by_one = (
          ap is_none (option_map-none (λ (other : Install). OtherAuthor other.author)
              (find (is_by_another install) before) makers.0),
          rest.by_one,
        );
        of_one = (
          ap is_none (option_map-none (λ (other : Install). OtherHybrid other.hybrid)
              (find (is_of_other_kind install) before) makers.1),
          rest.of_one,
        );
      }

-- what the lines give has these lines, and keeps the rules
pub installs-spelled : (users : List User) (users_text text : List ℕ) (installs : List Install)
    → AreUsers users_text users
    → installs_of users text ≡ Ok installs
    → (text ≡ apps_text installs) × AllByRecursion IsInstall installs × IsRegistry users installs
installs-spelled users users_text text installs are h =
    let told = values-spelled (install_fits users) install_of install_line IsInstall install-spelled text installs h in
    let rules = fit-second (rises_above install_cmp)
    (λ before install. owner_fits users before install && limit_fits before install)
    [] installs told.fit in
    let owners = owners-whole users [] installs (fit-first (owner_fits users) limit_fits [] installs rules) in (
      told.same,
      told.all,
      record {
        users_rise = are.rise;
        installs_rise = fit-rises install_cmp install_total installs
            (fit-first (rises_above install_cmp)
            (λ before install. owner_fits users before install && limit_fits before install)
            [] installs told.fit);
        users_known = owners.known;
        one_package = All-weaker (λ install. find (is_elsewhere install) installs ≡ None)
            (λ install. other_package installs install ≡ None)
            (λ install none. ap (option_map (λ (other : Install). OtherPackage other.«package»)) none) installs
            (none-excluded is_elsewhere elsewhere-turn elsewhere-own [] installs tt owners.one);
        one_author = All-weaker (λ install. find (is_by_another install) installs ≡ None)
            (λ install. other_author installs install ≡ None)
            (λ install none. ap (option_map (λ (other : Install). OtherAuthor other.author)) none) installs
            (none-excluded is_by_another another-turn another-own [] installs tt owners.by_one);
        one_kind = All-weaker (λ install. find (is_of_other_kind install) installs ≡ None)
            (λ install. other_kind installs install ≡ None)
            (λ install none. ap (option_map (λ (other : Install). OtherHybrid other.hybrid)) none) installs
            (none-excluded is_of_other_kind other_kind-turn other_kind-own [] installs tt owners.of_one);
        users_fit = ap (λ b. cond b (Some (Limit Users most_users)) None) (le-ltb most_users (length users) are.few);
        installs_fit = limits-whole [] installs refl (fit-second (owner_fits users) limit_fits [] installs rules);
      },
    )
