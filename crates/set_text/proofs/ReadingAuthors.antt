-- The author of a package, by the last install before.
use Rattle.std.proofs.Common.{◌≡◌, ℕ, Bool, true, false, not, ◌&&◌, ◌||◌, List, [], ◌∷◌, ◌++◌, Option, Some, None}
use Rattle.std.proofs.Common.{is_none, find, refl, sym, ap, ◌∙◌, subst}
use mathlib.Core.Bool.{true≢false}
use Rattle.std.specs.declared.cmp.Ordering.{Ordering}
use Rattle.std.specs.declared.cmp.Ordering.TheVariants.{Less, Equal, Greater}
use Rattle.std.specs.List.{AllByRecursion, list_any}
use Rattle.std.specs.List.Sorted.{IsStrictlySortedBy}
use Rattle.std.specs.Ordering.{is_eq, is_gt, ordering_reverse, ordering_then}
use Rattle.std.proofs.lemmas.Bool.{and_parts}
use Rattle.std.proofs.lemmas.Cmp.{nat_list_eq_equiv}
use Rattle.std.proofs.lemmas.List.Folds.{list_any-append}
use Rattle.std.proofs.lemmas.Map.Keys.{sorted_head, sorted_tail}
use Rattle.cynara_keys.specs.Text.{text_cmp}
use Rattle.cynara_keys.proofs.Order.{same_text-≡, ≡-same_text, text_cmp-equal, text_total}
use Rattle.bucket_store.proofs.Lists.{All-front, All-back}
use Rattle.app_registry.specs.Install.{install_cmp, is_of_package, same_author}
use Rattle.app_registry.specs.Refusal.{is_by_another, other_author}
use Rattle.app_registry.specs.Rules.{IsRegistry}
use Rattle.app_registry.specs.declared.installs.Install.{Install}
use Rattle.app_registry.specs.declared.users.User.{User}
use Rattle.app_registry.proofs.Filters.{none_does, option_map-none}
use Rattle.app_registry.proofs.Orders.{install_total}
use Rattle.set_text.specs.Lines.{last_of, rises_above}
use Rattle.set_text.specs.parts.Standing.{author_fits}
use Rattle.set_text.proofs.ReadingInstalls.{is_none-map, is_none-find}
use Rattle.set_text.proofs.ReadingRising.{ends, all-below}

first-le : (first second : Ordering) → ordering_then first second ≡ Less → is_gt first ≡ false
first-le Less second h = refl
first-le Equal second h = refl
first-le Greater second h = cc

pub package-le : (a b : Install) → install_cmp a b ≡ Less → is_gt (text_cmp a.«package» b.«package») ≡ false
package-le a b less = first-le (text_cmp a.«package» b.«package») _ less

-- a text that is neither above nor below another is that text
pub le-both : (a b : List ℕ) → is_gt (text_cmp a b) ≡ false → is_gt (text_cmp b a) ≡ false → a ≡ b
le-both a b first second =
    same_text-≡ a b (sym (text_cmp-equal a b) ∙ by (text_cmp a b) (text_cmp b a) (text_total.antisymm b a) first second)
  where
    by : (o p : Ordering) → p ≡ ordering_reverse o → is_gt o ≡ false → is_gt p ≡ false → is_eq o ≡ true
    by Less p is first second = absurd (true≢false (sym (ap is_gt is) ∙ second))
    by Equal p is first second = refl
    by Greater p is first second = cc

pub is-same : (a b : Bool) → a ≡ true → (a && not b) ≡ false → b ≡ true
is-same true true a h = refl
is-same true false a h = cc
is-same false b a h = cc

-- an author that is another's is so by the last install of the package too
module _ (install last : Install) (last_before : install_cmp last install ≡ Less) where
  same-authors : (a b c : Option (List ℕ)) → same_author a b ≡ true → same_author a c ≡ same_author b c
  same-authors (Some a) (Some b) (Some c) h = nat_list_eq_equiv.congr a b c h
  same-authors (Some a) (Some b) None h = refl
  same-authors (Some a) None c h = cc
  same-authors None (Some b) c h = cc
  same-authors None None c h = refl

  another-last : (other : Install) → install_cmp other last ≡ Less → is_by_another other last ≡ false
      → is_by_another install other ≡ true → is_by_another install last ≡ true
  another-last other before one_author another =
      let parts = and_parts (is_of_package install.«package» other)
      (not (same_author other.author install.author)) another in
      let other_is : other.«package» ≡ install.«package» = same_text-≡ other.«package» install.«package» parts.0 in
      let last_is : last.«package» ≡ install.«package» =
      le-both last.«package» install.«package» (package-le last install last_before)
      (subst (λ (name : List ℕ). is_gt (text_cmp name last.«package») ≡ false) other_is
      (package-le other last before)) in
      let same : same_author last.author other.author ≡ true =
      is-same (is_of_package other.«package» last) (same_author last.author other.author)
      (≡-same_text last.«package» other.«package» (last_is ∙ sym other_is)) one_author in
      ap (λ b. b && not (same_author last.author install.author)) (≡-same_text last.«package» install.«package» last_is)
      ∙ ap not (same-authors last.author other.author install.author same)
      ∙ parts.1

  -- one of these has another author only where the last has
  any-another : (front : List Install) → AllByRecursion (λ other. install_cmp other last ≡ Less) front
      → AllByRecursion (λ other. is_by_another other last ≡ false) front
      → is_by_another install last ≡ false → list_any (is_by_another install) front ≡ false
  any-another [] before one_author same = refl
  any-another (other ∷ front) before one_author same =
      ap (λ b. b || list_any (is_by_another install) front)
      (by (is_by_another install other) refl) ∙ any-another front before.1 one_author.1 same
    where
      by : (b : Bool) → is_by_another install other ≡ b → b ≡ false
      by false is = refl
      by true is = absurd (true≢false (sym (another-last other before.0 one_author.0 is) ∙ same))

  last-decides : (front : List Install) → AllByRecursion (λ other. install_cmp other last ≡ Less) front
      → AllByRecursion (λ other. is_by_another other last ≡ false) front
      → (b : Bool) → is_by_another install last ≡ b → (list_any (is_by_another install) front || (b || false)) ≡ b
  last-decides front before one_author true is = or-true (list_any (is_by_another install) front)
    where
      or-true : (b : Bool) → (b || true) ≡ true
      or-true true = refl
      or-true false = refl
  last-decides front before one_author false is =
      ap (λ b. b || false) (any-another front before one_author is)

pub sorted-below : (front : List Install) (last : Install) → IsStrictlySortedBy install_cmp (front ++ last ∷ [])
    → AllByRecursion (λ other. install_cmp other last ≡ Less) front
sorted-below [] last sorted = tt
sorted-below (first ∷ front) last sorted = (
  (All-back (λ other. install_cmp first other ≡ Less) front (last ∷ [])
      (sorted_head install_cmp first (front ++ last ∷ []) sorted)).0,
  sorted-below front last (sorted_tail install_cmp first (front ++ last ∷ []) sorted),
)

-- no install of these has another author than this one
owned : (all installs : List Install) (last : Install)
    → ((other : Install) → AllByRecursion (λ x. is_by_another other x ≡ false) all → is_by_another other last ≡ false)
    → AllByRecursion (λ other. other_author all other ≡ None) installs
    → AllByRecursion (λ other. is_by_another other last ≡ false) installs
owned all [] last at none = tt
owned all (install ∷ installs) last at none =
    (at install (none_does (is_by_another install) all (option_map-none _ _ none.0)), owned all installs last at none.1)

pub not-and-not : (a b : Bool) → not (a && not b) ≡ (not a || b)
not-and-not true true = refl
not-and-not true false = refl
not-and-not false b = refl

-- the last install tells whether one of the package has another author
pub other_author-last : (users : List User) (before : List Install) (install : Install) → IsRegistry users before
    → rises_above install_cmp before install ≡ true → is_none (other_author before install)
    ≡ author_fits (last_of before) install
other_author-last users [] install registry above = refl
other_author-last users (first ∷ rest) install registry above =
    let list = first ∷ rest in
    let end = ends first rest in
    let below = All-back (λ other. install_cmp other install ≡ Less) end.front (end.last ∷ [])
    (subst (AllByRecursion (λ other. install_cmp other install ≡ Less)) end.parts
    (all-below install_total list install registry.installs_rise above)) in
    let sorted = sorted-below end.front end.last
    (subst (IsStrictlySortedBy install_cmp) end.parts registry.installs_rise) in
    let authors = All-front (λ other. is_by_another other end.last ≡ false) end.front (end.last ∷ [])
    (subst (AllByRecursion (λ other. is_by_another other end.last ≡ false)) end.parts
    (owned list list end.last
    (λ other all. (All-back (λ x. is_by_another other x ≡ false) end.front (end.last ∷ [])
    (subst (AllByRecursion (λ x. is_by_another other x ≡ false)) end.parts all)).0) registry.one_author)) in
    is_none-map _ (find (is_by_another install) list)
    ∙ is_none-find (is_by_another install) list
    ∙ ap (λ installs. not (list_any (is_by_another install) installs)) end.parts
    ∙ ap not (list_any-append (is_by_another install) end.front (end.last ∷ [])
    ∙ last-decides install end.last below.0 end.front sorted authors (is_by_another install end.last) refl)
    ∙ not-and-not (is_of_package install.«package» end.last) (same_author end.last.author install.author)
    ∙ sym (ap (λ last. author_fits last install) end.is_last)
