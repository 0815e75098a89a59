-- The kind of a package, by the last install before. As with authors.
use Rattle.std.proofs.Common.{◌≡◌, ℕ, Bool, true, false, not, ◌&&◌, ◌||◌, List, [], ◌∷◌, None}
use Rattle.std.proofs.Common.{is_none, find, refl, sym, ap, ◌∙◌, subst}
use mathlib.Core.Bool.{true≢false}
use Rattle.std.specs.declared.cmp.Ordering.TheVariants.{Less}
use Rattle.std.specs.List.{AllByRecursion, list_any}
use Rattle.std.specs.List.Sorted.{IsStrictlySortedBy}
use Rattle.std.specs.Ordering.{is_gt}
use Rattle.std.proofs.lemmas.Bool.{and_parts}
use Rattle.std.proofs.lemmas.List.Folds.{list_any-append}
use Rattle.cynara_keys.specs.Text.{text_cmp}
use Rattle.cynara_keys.proofs.Order.{same_text-≡, ≡-same_text}
use Rattle.bucket_store.proofs.Lists.{All-front, All-back}
use Rattle.app_registry.specs.Install.{install_cmp, is_of_package, same_kind}
use Rattle.app_registry.specs.Refusal.{is_of_other_kind, other_kind}
use Rattle.app_registry.specs.Rules.{IsRegistry}
use Rattle.app_registry.specs.declared.installs.Install.{Install}
use Rattle.app_registry.specs.declared.users.User.{User}
use Rattle.app_registry.proofs.Filters.{none_does, option_map-none}
use Rattle.app_registry.proofs.Orders.{install_total}
use Rattle.set_text.specs.Lines.{last_of, rises_above}
use Rattle.set_text.specs.parts.Standing.{kind_fits}
use Rattle.set_text.proofs.ReadingAuthors.{package-le, le-both, is-same, sorted-below, not-and-not}
use Rattle.set_text.proofs.ReadingInstalls.{is_none-map, is_none-find}
use Rattle.set_text.proofs.ReadingRising.{ends, all-below}

-- a package of the other kind is so by its last install too
module _ (install last : Install) (last_before : install_cmp last install ≡ Less) where
  same-kinds : (a b c : Bool) → same_kind a b ≡ true → same_kind a c ≡ same_kind b c
  same-kinds true true c h = refl
  same-kinds true false c h = cc
  same-kinds false true c h = cc
  same-kinds false false c h = refl

  kind-last : (other : Install) → install_cmp other last ≡ Less → is_of_other_kind other last ≡ false
      → is_of_other_kind install other ≡ true → is_of_other_kind install last ≡ true
  kind-last other before one_kind another =
      let parts = and_parts (is_of_package install.«package» other)
      (not (same_kind other.hybrid install.hybrid)) another in
      let other_is : other.«package» ≡ install.«package» = same_text-≡ other.«package» install.«package» parts.0 in
      let last_is : last.«package» ≡ install.«package» =
      le-both last.«package» install.«package» (package-le last install last_before)
      (subst (λ (name : List ℕ). is_gt (text_cmp name last.«package») ≡ false) other_is
      (package-le other last before)) in
      let same : same_kind last.hybrid other.hybrid ≡ true =
      is-same (is_of_package other.«package» last) (same_kind last.hybrid other.hybrid)
      (≡-same_text last.«package» other.«package» (last_is ∙ sym other_is)) one_kind in
      ap (λ b. b && not (same_kind last.hybrid install.hybrid)) (≡-same_text last.«package» install.«package» last_is)
      ∙ ap not (same-kinds last.hybrid other.hybrid install.hybrid same)
      ∙ parts.1

  -- one of these is of the other kind only where the last is
  any-kind : (front : List Install) → AllByRecursion (λ other. install_cmp other last ≡ Less) front
      → AllByRecursion (λ other. is_of_other_kind other last ≡ false) front
      → is_of_other_kind install last ≡ false → list_any (is_of_other_kind install) front ≡ false
  any-kind [] before one_kind same = refl
  any-kind (other ∷ front) before one_kind same =
      ap (λ b. b || list_any (is_of_other_kind install) front)
      (by (is_of_other_kind install other) refl) ∙ any-kind front before.1 one_kind.1 same
    where
      by : (b : Bool) → is_of_other_kind install other ≡ b → b ≡ false
      by false is = refl
      by true is = absurd (true≢false (sym (kind-last other before.0 one_kind.0 is) ∙ same))

  last-decides : (front : List Install) → AllByRecursion (λ other. install_cmp other last ≡ Less) front
      → AllByRecursion (λ other. is_of_other_kind other last ≡ false) front
      → (b : Bool) → is_of_other_kind install last ≡ b → (list_any (is_of_other_kind install) front || (b || false)) ≡ b
  last-decides front before one_kind true is = or-true (list_any (is_of_other_kind install) front)
    where
      or-true : (b : Bool) → (b || true) ≡ true
      or-true true = refl
      or-true false = refl
  last-decides front before one_kind false is =
      ap (λ b. b || false) (any-kind front before one_kind is)

-- no install of these is of another kind than this one
owned : (all installs : List Install) (last : Install)
    → ((other : Install) → AllByRecursion (λ x. is_of_other_kind other x ≡ false) all → is_of_other_kind other last ≡ false)
    → AllByRecursion (λ other. other_kind all other ≡ None) installs
    → AllByRecursion (λ other. is_of_other_kind other last ≡ false) installs
owned all [] last at none = tt
owned all (install ∷ installs) last at none =
    (at install (none_does (is_of_other_kind install) all (option_map-none _ _ none.0)), owned all installs last at none.1)

-- the last install tells whether one of the package is of the other kind
pub other_kind-last : (users : List User) (before : List Install) (install : Install) → IsRegistry users before
    → rises_above install_cmp before install ≡ true → is_none (other_kind before install)
    ≡ kind_fits (last_of before) install
other_kind-last users [] install registry above = refl
other_kind-last users (first ∷ rest) install registry above =
    let list = first ∷ rest in
    let end = ends first rest in
    let below = All-back (λ other. install_cmp other install ≡ Less) end.front (end.last ∷ [])
    (subst (AllByRecursion (λ other. install_cmp other install ≡ Less)) end.parts
    (all-below install_total list install registry.installs_rise above)) in
    let sorted = sorted-below end.front end.last
    (subst (IsStrictlySortedBy install_cmp) end.parts registry.installs_rise) in
    let kinds = All-front (λ other. is_of_other_kind other end.last ≡ false) end.front (end.last ∷ [])
    (subst (AllByRecursion (λ other. is_of_other_kind other end.last ≡ false)) end.parts
    (owned list list end.last
    (λ other all. (All-back (λ x. is_of_other_kind other x ≡ false) end.front (end.last ∷ [])
    (subst (AllByRecursion (λ x. is_of_other_kind other x ≡ false)) end.parts all)).0) registry.one_kind)) in
    is_none-map _ (find (is_of_other_kind install) list)
    ∙ is_none-find (is_of_other_kind install) list
    ∙ ap (λ installs. not (list_any (is_of_other_kind install) installs)) end.parts
    ∙ ap not (list_any-append (is_of_other_kind install) end.front (end.last ∷ [])
    ∙ last-decides install end.last below.0 end.front sorted kinds (is_of_other_kind install end.last) refl)
    ∙ not-and-not (is_of_package install.«package» end.last) (same_kind end.last.hybrid install.hybrid)
    ∙ sym (ap (λ last. kind_fits last install) end.is_last)
