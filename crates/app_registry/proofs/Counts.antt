-- How many packages, installs and privileges a part of the installs has, and that what fits still fits.
use Rattle.std.proofs.Common.{◌≡◌, ℕ, ◌+◌, ◌≤◌, Bool, true, false, not, cond, ltb, List, [], ◌∷◌, length, map, Option, Some, None, refl, sym, ap, ◌∙◌, arith}
use Rattle.std.specs.List.{filter, dedup, dedup_from}
use Rattle.std.specs.Option.{option_or}
use Rattle.std.proofs.lemmas.Bool.{ltb-false}
use Rattle.std.proofs.lemmas.Bool.Decides.{nat_tests}
use Rattle.std.proofs.lemmas.List.Filters.{length-filter_both, sum_by-filter_both}
use Rattle.cynara_keys.specs.Text.{same_text}
use Rattle.cynara_keys.proofs.Order.{same_text-≡}
use Rattle.cynara_keys.specs.declared.limits.Counted.{Counted}
use Rattle.cynara_keys.specs.declared.limits.Counted.TheVariants.{Packages, Installs, Grants}
use Rattle.app_registry.specs.Refusal.{over, installs_limit}
use Rattle.app_registry.specs.Registry.{packages, grant_count}
use Rattle.app_registry.specs.declared.installs.Install.{Install}
use Rattle.app_registry.specs.declared.refusals.RegistryRefusal.{RegistryRefusal}
use Rattle.app_registry.specs.declared.refusals.RegistryRefusal.TheVariants.{Limit}
use Rattle.app_registry.specs.Limits.{most_packages, most_installs, most_grants}

-- ---- limits

within : (counted : Counted) (most : ℕ) (b : Bool) → cond b (Some (Limit counted most)) None ≡ None → b ≡ false
within counted most true h = cc
within counted most false h = refl

-- fewer fit where more do
pub over-fits : (counted : Counted) (most count fewer : ℕ) → over counted most count ≡ None → fewer ≤ count
    → over counted most fewer ≡ None
over-fits counted most count fewer fits less =
    let room = ltb-false _ _ (within counted most (ltb most count) fits) in
    let still : ltb most fewer ≡ false = grind (arith, nat_tests, room, less) in
    ap (λ b. cond b (Some (Limit counted most)) None) still

pub or-none : (o p : Option RegistryRefusal) → option_or o p ≡ None → (o ≡ None) × (p ≡ None)
or-none None p h = (refl, h)
or-none (Some refusal) p h = cc

pub both-none : {o p : Option RegistryRefusal} → o ≡ None → p ≡ None → option_or o p ≡ None
both-none {o} {p} first second = ap (λ refusal. option_or refusal p) first ∙ second

-- ---- packages

abbrev Text : Type 0
Text = List ℕ

-- how many packages a list shows behind one of the name
abbrev shown : Text → List Text → ℕ
shown name names = length (dedup_from same_text name names)

-- one name more counts once, or not at all where it is the one before it
record Near (name next : Text) (names : List Text) : Type 0 where
  least : shown next names ≤ shown name (next ∷ names)
  most : shown name (next ∷ names) ≤ shown next names + 1

near-at : (name next : Text) (names : List Text) (b : Bool) → same_text next name ≡ b → Near name next names
near-at name next names true at =
    let is : next ≡ name = same_text-≡ next name at in
    let count : shown name (next ∷ names) ≡ shown next names =
    ap (λ b. length (cond b (dedup_from same_text name names) (name ∷ dedup_from same_text next names))) at
    ∙ ap (λ own. shown own names) (sym is) in
    record { least = omega arith; most = omega arith }
near-at name next names false at =
    let count : shown name (next ∷ names) ≡ length (name ∷ dedup_from same_text next names) =
    ap (λ b. length (cond b (dedup_from same_text name names) (name ∷ dedup_from same_text next names))) at in
    record { least = omega arith; most = omega arith }

near : (name next : Text) (names : List Text) → Near name next names
near name next names = near-at name next names (same_text next name) refl

-- behind one name there are at most one more than behind another
shown-others : (name other : Text) (names : List Text) → shown name names ≤ shown other names + 1
shown-others name other [] = omega arith
shown-others name other (next ∷ names) =
    let first = near name next names in
    let second = near other next names in
    omega (arith, first.most, second.least)

-- one name more never shows less
shown-more-at : (name next : Text) (names : List Text) (b : Bool) → same_text next name ≡ b
    → shown name names ≤ shown name (next ∷ names)
shown-more-at name next names true at =
    let count : shown name (next ∷ names) ≡ shown name names =
    ap (λ b. length (cond b (dedup_from same_text name names) (name ∷ dedup_from same_text next names))) at in
    omega arith
shown-more-at name next names false at =
    let count : shown name (next ∷ names) ≡ length (name ∷ dedup_from same_text next names) =
    ap (λ b. length (cond b (dedup_from same_text name names) (name ∷ dedup_from same_text next names))) at in
    omega (arith, shown-others name next names)

shown-cons-at : (name next : Text) (names others : List Text) (b : Bool) → same_text next name ≡ b
    → ((own : Text) → shown own names ≤ shown own others) → shown name (next ∷ names) ≤ shown name (next ∷ others)
shown-cons-at name next names others true at fewer =
    let first : shown name (next ∷ names) ≡ shown name names =
    ap (λ b. length (cond b (dedup_from same_text name names) (name ∷ dedup_from same_text next names))) at in
    let second : shown name (next ∷ others) ≡ shown name others =
    ap (λ b. length (cond b (dedup_from same_text name others) (name ∷ dedup_from same_text next others))) at in
    omega (arith, fewer name)
shown-cons-at name next names others false at fewer =
    let first : shown name (next ∷ names) ≡ length (name ∷ dedup_from same_text next names) =
    ap (λ b. length (cond b (dedup_from same_text name names) (name ∷ dedup_from same_text next names))) at in
    let second : shown name (next ∷ others) ≡ length (name ∷ dedup_from same_text next others) =
    ap (λ b. length (cond b (dedup_from same_text name others) (name ∷ dedup_from same_text next others))) at in
    omega (arith, fewer next)

packages-shown : (name : Text) (names : List Text) → length (dedup same_text names) ≤ shown name names
packages-shown name [] = omega arith
packages-shown name (next ∷ names) = let first = near name next names in omega (arith, first.least)

pub length-filter-le : {X : Type 0} (p : X → Bool) (xs : List X) → length (filter p xs) ≤ length xs
length-filter-le p xs = omega (arith, length-filter_both p (λ x. not (p x)) (λ x. refl) xs)

-- ---- a part of the installs

abbrev names_of : List Install → List Text
names_of installs = map (λ (install : Install). install.«package») installs

module _ (q : Install → Bool) where
  shown-filter-at : (install : Install) (installs : List Install) (name : Text) (b : Bool) → q install ≡ b
      → ((own : Text) → shown own (names_of (filter q installs)) ≤ shown own (names_of installs))
      → shown name (names_of (filter q (install ∷ installs))) ≤ shown name (names_of (install ∷ installs))
  shown-filter-at install installs name true at fewer =
      let kept : names_of (filter q (install ∷ installs)) ≡ install.«package» ∷ names_of (filter q installs) =
      ap (λ b. names_of (cond b (install ∷ filter q installs) (filter q installs))) at in
      let count = ap (shown name) kept in
      let fewer_here =
      shown-cons-at name install.«package» (names_of (filter q installs)) (names_of installs)
      (same_text install.«package» name) refl fewer in
      omega (arith, count, fewer_here)
  shown-filter-at install installs name false at fewer =
      let kept : names_of (filter q (install ∷ installs)) ≡ names_of (filter q installs) =
      ap (λ b. names_of (cond b (install ∷ filter q installs) (filter q installs))) at in
      let count = ap (shown name) kept in
      let more =
      shown-more-at name install.«package» (names_of installs) (same_text install.«package» name) refl in
      omega (arith, count, fewer name, more)

  shown-filter : (installs : List Install) (name : Text)
      → shown name (names_of (filter q installs)) ≤ shown name (names_of installs)
  shown-filter [] name = omega arith
  shown-filter (install ∷ installs) name =
      shown-filter-at install installs name (q install) refl (shown-filter installs)

  packages-filter-at : (install : Install) (installs : List Install) (b : Bool) → q install ≡ b
      → length (packages (filter q (install ∷ installs))) ≤ length (packages (install ∷ installs))
  packages-filter-at install installs true at =
      let count =
      ap (λ b. length (packages (cond b (install ∷ filter q installs) (filter q installs)))) at in
      omega (arith, count, shown-filter installs install.«package»)
  packages-filter-at install installs false at =
      let count =
      ap (λ b. length (packages (cond b (install ∷ filter q installs) (filter q installs)))) at in
      omega (arith, count, packages-shown install.«package» (names_of (filter q installs)), shown-filter installs install.«package»)

  packages-filter : (installs : List Install) → length (packages (filter q installs)) ≤ length (packages installs)
  packages-filter [] = omega arith
  packages-filter (install ∷ installs) = packages-filter-at install installs (q install) refl

  grants-filter : (installs : List Install) → grant_count (filter q installs) ≤ grant_count installs
  grants-filter installs =
      let privileges = λ (install : Install). length install.privileges in
      omega (arith, sum_by-filter_both q (λ install. not (q install)) (λ install. refl) privileges installs)

  -- ---- what fits

  pub installs_limit-filter : (installs : List Install) → installs_limit installs ≡ None
      → installs_limit (filter q installs) ≡ None
  installs_limit-filter installs fits =
      let packages_fit = or-none (over Packages most_packages (length (packages installs))) _ fits in
      let others_fit = or-none (over Installs most_installs (length installs)) _ packages_fit.1 in
      both-none
      (over-fits Packages most_packages (length (packages installs)) (length (packages (filter q installs))) packages_fit.0
      (packages-filter installs))
      (both-none
      (over-fits Installs most_installs (length installs) (length (filter q installs)) others_fit.0 (length-filter-le q installs))
      (over-fits Grants most_grants (grant_count installs) (grant_count (filter q installs)) others_fit.1 (grants-filter installs)))
