-- What the index of a registry's installs tells, and that it stays right.
use Rattle.std.proofs.Common.{◌≡◌, ℕ, ◌+◌, ◌<◌, ◌≤◌, Bool, true, false, not, cond, ◌&&◌, ◌||◌, List, [], ◌∷◌, ◌++◌, length, take, drop, get_or, find, Some, None, refl, sym, ap, ◌∙◌, subst, arith}
use Rattle.std.specs.List.{AllByRecursion, list_any}
use Rattle.std.specs.List.Sorted.{IsStrictlySortedBy}
use Rattle.std.specs.Ordering.{is_eq}
use Rattle.std.proofs.lemmas.Bool.{true≢false}
use Rattle.std.proofs.lemmas.Cmp.{nat_list_cmp_total, tied_itself}
use Rattle.std.proofs.lemmas.List.{take_more, take-append-drop}
use Rattle.std.proofs.lemmas.List.Sums.{sum_by-append}
use Rattle.cynara_keys.specs.Text.{same_text, text_cmp}
use Rattle.cynara_keys.proofs.Order.{same_text-≡}
use Rattle.app_registry.specs.Install.{install_cmp, is_of_app, is_of_package}
use Rattle.app_registry.specs.Refusal.{is_elsewhere}
use Rattle.app_registry.specs.Registry.{grant_count}
use Rattle.app_registry.specs.Rising.{placed}
use Rattle.app_registry.specs.declared.installs.Install.{Install}
use Rattle.app_registry.specs.Limits.{most_grants}
use Rattle.app_registry.specs.parts.Indexed.{is_among, IsIndexed}
use Rattle.app_registry.proofs.Orders.{install_total}
use Rattle.app_registry.proofs.Rising.{AllByRecursion-append, AllByRecursion-weaker, AllByRecursion-placed, placed_rises, has-placed, or_true}

-- ---- what it tells

-- no install is of an application that is not among those of all installs
pub new-app : (app : List ℕ) (apps : List (List ℕ)) (installs : List Install)
    → AllByRecursion (λ (install : Install). is_among install.app apps ≡ true) installs → is_among app apps ≡ false
    → list_any (is_of_app app) installs ≡ false
new-app app apps [] known new = refl
new-app app apps (install ∷ installs) known new =
    at (same_text install.app app) refl (new-app app apps installs known.1 new)
  where
    at : (b : Bool) → same_text install.app app ≡ b → list_any (is_of_app app) installs ≡ false
        → (b || list_any (is_of_app app) installs) ≡ false
    at true same rest =
        absurd (true≢false (sym known.0 ∙ ap (λ own. is_among own apps) (same_text-≡ install.app app same) ∙ new))
    at false same rest = rest

-- where no install is of the application, none of it stands elsewhere
pub none-elsewhere : (install : Install) (installs : List Install) → list_any (is_of_app install.app) installs ≡ false
    → find (is_elsewhere install) installs ≡ None
none-elsewhere install [] none = refl
none-elsewhere install (other ∷ installs) none = at (is_of_app install.app other) none (none-elsewhere install installs)
  where
    at : (b : Bool) → (b || list_any (is_of_app install.app) installs) ≡ false
        → (list_any (is_of_app install.app) installs ≡ false → find (is_elsewhere install) installs ≡ None)
        → cond (b && not (is_of_package install.package other)) (Some other) (find (is_elsewhere install) installs) ≡ None
    at true none rest = absurd (true≢false none)
    at false none rest = rest none

-- ---- how it stays right

-- more applications than those of the installs
pub indexed-noted : (apps more : List (List ℕ)) (granted : ℕ) (installs : List Install) → IsIndexed apps granted installs
    → IsStrictlySortedBy text_cmp more
    → ((other : List ℕ) → is_among other apps ≡ true → is_among other more ≡ true) → IsIndexed more granted installs
indexed-noted apps more granted installs is rise stay = record {
  rise = rise;
  known =
      AllByRecursion-weaker (λ (install : Install). is_among install.app apps ≡ true)
      (λ (install : Install). is_among install.app more ≡ true) (λ install. stay install.app) installs is.known;
  count = is.count;
  few = is.few;
}

-- one install more, whose application is among them
pub indexed-put : (apps : List (List ℕ)) (granted : ℕ) (installs : List Install) (install : Install)
    → IsIndexed apps granted installs → is_among install.app apps ≡ true → granted + length install.privileges ≤ most_grants
    → grant_count (placed install_cmp install installs) ≡ grant_count installs + length install.privileges
    → IsIndexed apps (granted + length install.privileges) (placed install_cmp install installs)
indexed-put apps granted installs install is noted room counts = record {
  rise = is.rise;
  known =
      AllByRecursion-placed install_total (λ (other : Install). is_among other.app apps ≡ true) install installs noted is.known;
  count = ap (λ n. n + length install.privileges) is.count ∙ sym counts;
  few = room;
}

-- a list of applications with one that is noted
pub record IsNoted (app : List ℕ) (apps more : List (List ℕ)) : Type 0 where
  pub rise : IsStrictlySortedBy text_cmp more
  pub noted : is_among app more ≡ true
  pub stay : (other : List ℕ) → is_among other apps ≡ true → is_among other more ≡ true

pub noting : (app : List ℕ) (apps more : List (List ℕ)) → IsStrictlySortedBy text_cmp apps → more ≡ placed text_cmp app apps
    → IsNoted app apps more
noting app apps more rise is = record {
  rise = subst (λ list. IsStrictlySortedBy text_cmp list) (sym is) (placed_rises nat_list_cmp_total app apps rise);
  noted =
      ap (is_among app) is ∙ has-placed nat_list_cmp_total app apps app rise
      ∙ ap (λ o. is_eq o || is_among app apps) (tied_itself nat_list_cmp_total app);
  stay = λ other among.
      ap (is_among other) is ∙ has-placed nat_list_cmp_total app apps other rise
      ∙ ap (λ b. is_eq (text_cmp other app) || b) among ∙ or_true (is_eq (text_cmp other app));
}

-- one more of the installs of a list
pub indexed-more : (apps more : List (List ℕ)) (granted : ℕ) (installs : List Install) (i : ℕ) (install : Install)
    → i < length installs → install ≡ get_or installs i install → IsIndexed apps granted (take i installs)
    → IsStrictlySortedBy text_cmp more → is_among install.app more ≡ true
    → ((other : List ℕ) → is_among other apps ≡ true → is_among other more ≡ true)
    → granted + length install.privileges ≤ most_grants
    → IsIndexed more (granted + length install.privileges) (take (i + 1) installs)
indexed-more apps more granted installs i install within at is rise noted stay room =
    let own = get_or installs i install in
    let one_more : take (i + 1) installs ≡ take i installs ++ install ∷ [] =
    take_more installs i install within ∙ ap (λ (last : Install). take i installs ++ last ∷ []) (sym at) in
    let before = indexed-noted apps more granted (take i installs) is rise stay in
    record {
      rise = rise;
      known =
          subst (λ list. AllByRecursion (λ (other : Install). is_among other.app more ≡ true) list) (sym one_more)
          (AllByRecursion-append (λ (other : Install). is_among other.app more ≡ true) (take i installs) (install ∷ [])
          before.known (noted, tt));
      count =
          let all : grant_count (take (i + 1) installs) ≡ grant_count (take i installs) + grant_count (install ∷ []) =
          ap grant_count one_more
          ∙ sum_by-append (λ (other : Install). length other.privileges) (take i installs) (install ∷ []) in
          let same = is.count in
          omega (arith, all, same);
      few = room;
    }

pub indexed-none : IsIndexed [] 0 []
unfolding IsStrictlySortedBy
indexed-none = record { rise = tt; known = tt; count = refl; few = omega arith }

-- what the installs from a place on grant, by the first of them and the others
pub grants-left : (installs : List Install) (i : ℕ) (install : Install) → i < length installs
    → install ≡ get_or installs i install
    → grant_count (drop i installs) ≡ length install.privileges + grant_count (drop (i + 1) installs)
grants-left installs i install within at =
    let privileges = λ (other : Install). length other.privileges in
    let one_more : take (i + 1) installs ≡ take i installs ++ install ∷ [] =
    take_more installs i install within ∙ ap (λ (last : Install). take i installs ++ last ∷ []) (sym at) in
    let grown : grant_count (take (i + 1) installs) ≡ grant_count (take i installs) + grant_count (install ∷ []) =
    ap grant_count one_more ∙ sum_by-append privileges (take i installs) (install ∷ []) in
    let before : grant_count (take i installs) + grant_count (drop i installs) ≡ grant_count installs =
    sym (sum_by-append privileges (take i installs) (drop i installs)) ∙ ap grant_count (take-append-drop i installs) in
    let after : grant_count (take (i + 1) installs) + grant_count (drop (i + 1) installs) ≡ grant_count installs =
    sym (sum_by-append privileges (take (i + 1) installs) (drop (i + 1) installs))
    ∙ ap grant_count (take-append-drop (i + 1) installs) in
    omega (arith, grown, before, after)
