-- What a change leaves is a registry.
use Rattle.std.proofs.Common.{◌≡◌, ℕ, Bool, true, false, not, ◌&&◌, ◌||◌, ◌==◌, cond, List, [], ◌∷◌, length, Option, Some, None, option_map, refl, sym, ap, ◌∙◌, subst}
use Rattle.std.specs.Cmp.{unsigned_ties}
use Rattle.std.specs.List.{AllByRecursion, filter}
use Rattle.std.specs.List.Sorted.{IsStrictlySortedBy}
use Rattle.std.specs.Ordering.{is_eq, nat_cmp}
use borrow.Author.Tests.{eqb-true}
use Rattle.std.proofs.lemmas.Cmp.{nat_list_eq_equiv, nat_eq_equiv}
use Rattle.std.proofs.lemmas.List.Kept.{IsStrictlySortedBy-filter}
use Rattle.cynara_keys.specs.Text.{same_text}
use Rattle.cynara_keys.specs.declared.limits.Counted.TheVariants.{Users}
use Rattle.app_registry.specs.Install.{install_cmp, is_for_user, same_author, same_kind}
use Rattle.app_registry.specs.Refusal.{unknown_user, unknown_scope, is_elsewhere, other_package, is_by_another, other_author, is_of_other_kind, other_kind, over, installs_limit, owner_fault}
use Rattle.app_registry.specs.Registry.{user_cmp, has_user}
use Rattle.app_registry.specs.Rising.{placed}
use Rattle.app_registry.specs.Rules.{IsRegistry}
use Rattle.app_registry.specs.declared.installs.Install.{Install}
use Rattle.app_registry.specs.declared.installs.Scope.{Scope}
use Rattle.app_registry.specs.declared.installs.Scope.TheVariants.{Everyone, One}
use Rattle.app_registry.specs.declared.refusals.RegistryRefusal.TheVariants.{UnknownUser, OtherPackage, OtherAuthor, OtherHybrid}
use Rattle.app_registry.specs.Limits.{most_users}
use Rattle.app_registry.specs.declared.users.User.{User}
use Rattle.app_registry.specs.declared.users.UserType.TheVariants.{System}
use Rattle.app_registry.proofs.Counts.{or-none, over-fits, installs_limit-filter, length-filter-le}
use Rattle.app_registry.proofs.Filters.{kept_where, AllByRecursion-both, option_map-none, none_does, find-none, list_any-filter}
use Rattle.app_registry.proofs.Orders.{user_total, install_total}
use Rattle.app_registry.proofs.Rising.{AllByRecursion-weaker, AllByRecursion-filter, AllByRecursion-placed, placed_rises, has, has-placed}

-- ---- users

is_known : (uid : ℕ) (b : Bool) → cond b None (Some (UnknownUser uid)) ≡ None → b ≡ true
is_known uid true h = refl
is_known uid false h = cc

known : (users : List User) (uid : ℕ) → has_user users uid ≡ true → unknown_user users uid ≡ None
known users uid is = ap (λ b. cond b None (Some (UnknownUser uid))) is

same_uid : (uid own : ℕ) → (own == uid) ≡ is_eq (nat_cmp uid own)
same_uid uid own = nat_eq_equiv.symm own uid ∙ unsigned_ties uid own

-- any user of this number ties with it
has_user-has : (users : List User) (uid : ℕ) → has_user users uid ≡ has user_total users (record { uid = uid; kind = System })
has_user-has [] uid = refl
has_user-has (user ∷ users) uid =
    let here = same_uid uid user.uid in
    let rest = has_user-has users uid in
    λ i. here i || rest i

or_true : (b : Bool) → (b || true) ≡ true
or_true true = refl
or_true false = refl

has_user-placed : (users : List User) (user : User) (uid : ℕ) → IsStrictlySortedBy user_cmp users → has_user users uid ≡ true
    → has_user (placed user_cmp user users) uid ≡ true
has_user-placed users user uid rises is =
    let probe : User = record { uid = uid; kind = System } in
    has_user-has (placed user_cmp user users) uid
    ∙ has-placed user_total user users probe rises
    ∙ ap (λ b. is_eq (user_cmp probe user) || b) (sym (has_user-has users uid) ∙ is)
    ∙ or_true (is_eq (user_cmp probe user))

scope_stays : (users more : List User) → ((uid : ℕ) → has_user users uid ≡ true → has_user more uid ≡ true) → (scope : Scope)
    → unknown_scope users scope ≡ None → unknown_scope more scope ≡ None
scope_stays users more stay Everyone h = refl
scope_stays users more stay (One uid) h = known more uid (stay uid (is_known uid (has_user users uid) h))

-- ---- who owns an application and a package

is_elsewhere-flip : (a b : Install) → is_elsewhere a b ≡ is_elsewhere b a
is_elsewhere-flip a b =
    let apps = nat_list_eq_equiv.symm b.app a.app in
    let names = nat_list_eq_equiv.symm b.«package» a.«package» in
    λ i. apps i && not (names i)

same_author-flip : (a b : Option (List ℕ)) → same_author a b ≡ same_author b a
same_author-flip (Some a) (Some b) = nat_list_eq_equiv.symm a b
same_author-flip (Some a) None = refl
same_author-flip None (Some b) = refl
same_author-flip None None = refl

same_author-itself : (author : Option (List ℕ)) → same_author author author ≡ true
same_author-itself (Some author) = nat_list_eq_equiv.refl author
same_author-itself None = refl

is_by_another-flip : (a b : Install) → is_by_another a b ≡ is_by_another b a
is_by_another-flip a b =
    let names = nat_list_eq_equiv.symm b.«package» a.«package» in
    let authors = same_author-flip b.author a.author in
    λ i. names i && not (authors i)

same_kind-flip : (a b : Bool) → same_kind a b ≡ same_kind b a
same_kind-flip true true = refl
same_kind-flip true false = refl
same_kind-flip false true = refl
same_kind-flip false false = refl

pub same_kind-itself : (hybrid : Bool) → same_kind hybrid hybrid ≡ true
same_kind-itself true = refl
same_kind-itself false = refl

is_of_other_kind-flip : (a b : Install) → is_of_other_kind a b ≡ is_of_other_kind b a
is_of_other_kind-flip a b =
    let names = nat_list_eq_equiv.symm b.«package» a.«package» in
    let kinds = same_kind-flip b.hybrid a.hybrid in
    λ i. names i && not (kinds i)

pub and-not : (a b : Bool) → b ≡ true → (a && not b) ≡ false
and-not true b h = ap not h
and-not false b h = refl

is_elsewhere-itself : (install : Install) → is_elsewhere install install ≡ false
is_elsewhere-itself install =
    and-not (same_text install.app install.app) (same_text install.«package» install.«package»)
    (nat_list_eq_equiv.refl install.«package»)

is_by_another-itself : (install : Install) → is_by_another install install ≡ false
is_by_another-itself install =
    and-not (same_text install.«package» install.«package») (same_author install.author install.author)
    (same_author-itself install.author)

is_of_other_kind-itself : (install : Install) → is_of_other_kind install install ≡ false
is_of_other_kind-itself install =
    and-not (same_text install.«package» install.«package») (same_kind install.hybrid install.hybrid)
    (same_kind-itself install.hybrid)

module _ (clash : Install → Install → Bool) (flips : (a b : Install) → clash a b ≡ clash b a)
    (itself : (install : Install) → clash install install ≡ false) where
  -- no install of the list clashes with it
  abbrev Free : List Install → Install → Type 0
  Free installs install = AllByRecursion (λ other. clash install other ≡ false) installs

  free-filter : (q : Install → Bool) (installs : List Install) → AllByRecursion (Free installs) installs
      → AllByRecursion (Free (filter q installs)) (filter q installs)
  free-filter q installs all =
      kept_where (Free installs) (Free (filter q installs)) q
      (λ install free kept. AllByRecursion-filter (λ other. clash install other ≡ false) q installs free) installs all

  free-placed : (install : Install) (installs : List Install) → Free installs install → AllByRecursion (Free installs) installs
      → AllByRecursion (Free (placed install_cmp install installs)) (placed install_cmp install installs)
  free-placed install installs free all =
      AllByRecursion-placed install_total (Free (placed install_cmp install installs)) install installs
      (AllByRecursion-placed install_total (λ other. clash install other ≡ false) install installs (itself install) free)
      (AllByRecursion-both (Free installs) (λ other. clash install other ≡ false) (Free (placed install_cmp install installs))
      (λ other old new.
      AllByRecursion-placed install_total (λ another. clash other another ≡ false) install installs (flips other install ∙ new) old)
      installs all free)

abbrev pub InOnePackage : List Install → Install → Type 0
InOnePackage installs install = other_package installs install ≡ None

abbrev pub ByOneAuthor : List Install → Install → Type 0
ByOneAuthor installs install = other_author installs install ≡ None

abbrev pub OfOneKind : List Install → Install → Type 0
OfOneKind installs install = other_kind installs install ≡ None

pub from_package : (installs : List Install) (install : Install) → InOnePackage installs install
    → AllByRecursion (λ other. is_elsewhere install other ≡ false) installs
from_package installs install h = none_does (is_elsewhere install) installs (option_map-none _ _ h)

pub to_package : (installs : List Install) (install : Install) → AllByRecursion (λ other. is_elsewhere install other ≡ false) installs
    → InOnePackage installs install
to_package installs install free = ap (option_map (λ other. OtherPackage other.«package»)) (find-none (is_elsewhere install) installs free)

pub from_author : (installs : List Install) (install : Install) → ByOneAuthor installs install
    → AllByRecursion (λ other. is_by_another install other ≡ false) installs
from_author installs install h = none_does (is_by_another install) installs (option_map-none _ _ h)

pub to_author : (installs : List Install) (install : Install) → AllByRecursion (λ other. is_by_another install other ≡ false) installs
    → ByOneAuthor installs install
to_author installs install free = ap (option_map (λ other. OtherAuthor other.author)) (find-none (is_by_another install) installs free)

pub from_kind : (installs : List Install) (install : Install) → OfOneKind installs install
    → AllByRecursion (λ other. is_of_other_kind install other ≡ false) installs
from_kind installs install h = none_does (is_of_other_kind install) installs (option_map-none _ _ h)

pub to_kind : (installs : List Install) (install : Install) → AllByRecursion (λ other. is_of_other_kind install other ≡ false) installs
    → OfOneKind installs install
to_kind installs install free = ap (option_map (λ other. OtherHybrid other.hybrid)) (find-none (is_of_other_kind install) installs free)

packages-filter : (q : Install → Bool) (installs : List Install) → AllByRecursion (InOnePackage installs) installs
    → AllByRecursion (InOnePackage (filter q installs)) (filter q installs)
packages-filter q installs all =
    AllByRecursion-weaker _ (InOnePackage (filter q installs)) (to_package (filter q installs)) (filter q installs)
    (free-filter is_elsewhere is_elsewhere-flip is_elsewhere-itself q installs
    (AllByRecursion-weaker _ _ (from_package installs) installs all))

authors-filter : (q : Install → Bool) (installs : List Install) → AllByRecursion (ByOneAuthor installs) installs
    → AllByRecursion (ByOneAuthor (filter q installs)) (filter q installs)
authors-filter q installs all =
    AllByRecursion-weaker _ (ByOneAuthor (filter q installs)) (to_author (filter q installs)) (filter q installs)
    (free-filter is_by_another is_by_another-flip is_by_another-itself q installs
    (AllByRecursion-weaker _ _ (from_author installs) installs all))

kinds-filter : (q : Install → Bool) (installs : List Install) → AllByRecursion (OfOneKind installs) installs
    → AllByRecursion (OfOneKind (filter q installs)) (filter q installs)
kinds-filter q installs all =
    AllByRecursion-weaker _ (OfOneKind (filter q installs)) (to_kind (filter q installs)) (filter q installs)
    (free-filter is_of_other_kind is_of_other_kind-flip is_of_other_kind-itself q installs
    (AllByRecursion-weaker _ _ (from_kind installs) installs all))

packages-placed : (install : Install) (installs : List Install) → InOnePackage installs install
    → AllByRecursion (InOnePackage installs) installs
    → AllByRecursion (InOnePackage (placed install_cmp install installs)) (placed install_cmp install installs)
packages-placed install installs own all =
    AllByRecursion-weaker _ (InOnePackage (placed install_cmp install installs)) (to_package (placed install_cmp install installs))
    (placed install_cmp install installs)
    (free-placed is_elsewhere is_elsewhere-flip is_elsewhere-itself install installs (from_package installs install own)
    (AllByRecursion-weaker _ _ (from_package installs) installs all))

authors-placed : (install : Install) (installs : List Install) → ByOneAuthor installs install
    → AllByRecursion (ByOneAuthor installs) installs
    → AllByRecursion (ByOneAuthor (placed install_cmp install installs)) (placed install_cmp install installs)
authors-placed install installs own all =
    AllByRecursion-weaker _ (ByOneAuthor (placed install_cmp install installs)) (to_author (placed install_cmp install installs))
    (placed install_cmp install installs)
    (free-placed is_by_another is_by_another-flip is_by_another-itself install installs (from_author installs install own)
    (AllByRecursion-weaker _ _ (from_author installs) installs all))

kinds-placed : (install : Install) (installs : List Install) → OfOneKind installs install
    → AllByRecursion (OfOneKind installs) installs
    → AllByRecursion (OfOneKind (placed install_cmp install installs)) (placed install_cmp install installs)
kinds-placed install installs own all =
    AllByRecursion-weaker _ (OfOneKind (placed install_cmp install installs)) (to_kind (placed install_cmp install installs))
    (placed install_cmp install installs)
    (free-placed is_of_other_kind is_of_other_kind-flip is_of_other_kind-itself install installs (from_kind installs install own)
    (AllByRecursion-weaker _ _ (from_kind installs) installs all))

-- ---- registries

pub IsRegistry-fresh : IsRegistry [] []
unfolding IsStrictlySortedBy
IsRegistry-fresh = record {
  users_rise = tt;
  installs_rise = tt;
  users_known = tt;
  one_package = tt;
  one_author = tt;
  one_kind = tt;
  users_fit = refl;
  installs_fit = refl;
}

-- equal lists
pub IsRegistry-same : {users more : List User} {installs others : List Install} → IsRegistry users installs → more ≡ users
    → others ≡ installs → IsRegistry more others
IsRegistry-same {users} {more} {installs} {others} registry users_are installs_are =
    subst (λ list. IsRegistry list others) (sym users_are) (subst (IsRegistry users) (sym installs_are) registry)

module _ {users : List User} {installs : List Install} (registry : IsRegistry users installs) where
  pub IsRegistry-with_user : (user : User) → over Users most_users (length (placed user_cmp user users)) ≡ None
      → IsRegistry (placed user_cmp user users) installs
  IsRegistry-with_user user fits = record {
    users_rise = placed_rises user_total user users registry.users_rise;
    installs_rise = registry.installs_rise;
    users_known =
        AllByRecursion-weaker _ _
        (λ install. scope_stays users (placed user_cmp user users)
        (λ uid. has_user-placed users user uid registry.users_rise) install.scope) installs registry.users_known;
    one_package = registry.one_package;
    one_author = registry.one_author;
    one_kind = registry.one_kind;
    users_fit = fits;
    installs_fit = registry.installs_fit;
  }

  pub IsRegistry-with_install : (install : Install) → owner_fault (record { users = users; installs = installs }) install ≡ None
      → installs_limit (placed install_cmp install installs) ≡ None → IsRegistry users (placed install_cmp install installs)
  IsRegistry-with_install install sound fits =
      let scope = or-none (unknown_scope users install.scope) _ sound in
      let owner = or-none (other_package installs install) _ scope.1 in
      let signed = or-none (other_author installs install) _ owner.1 in
      record {
        users_rise = registry.users_rise;
        installs_rise = placed_rises install_total install installs registry.installs_rise;
        users_known =
            AllByRecursion-placed install_total (λ other. unknown_scope users other.scope ≡ None) install installs scope.0
            registry.users_known;
        one_package = packages-placed install installs owner.0 registry.one_package;
        one_author = authors-placed install installs signed.0 registry.one_author;
        one_kind = kinds-placed install installs signed.1 registry.one_kind;
        users_fit = registry.users_fit;
        installs_fit = fits;
      }

  pub IsRegistry-without_installs : (q : Install → Bool) → IsRegistry users (filter q installs)
  IsRegistry-without_installs q = record {
    users_rise = registry.users_rise;
    installs_rise = IsStrictlySortedBy-filter install_cmp q installs registry.installs_rise;
    users_known = AllByRecursion-filter (λ install. unknown_scope users install.scope ≡ None) q installs registry.users_known;
    one_package = packages-filter q installs registry.one_package;
    one_author = authors-filter q installs registry.one_author;
    one_kind = kinds-filter q installs registry.one_kind;
    users_fit = registry.users_fit;
    installs_fit = installs_limit-filter q installs registry.installs_fit;
  }

-- ---- a user less

-- no other user has this number
other_uid : (uid own : ℕ) (user : User) → (own == uid) ≡ false → (user.uid == own) ≡ true → not (user.uid == uid) ≡ true
other_uid uid own user apart is = ap (λ n. not (n == uid)) (eqb-true user.uid own is) ∙ ap not apart

stays : (users : List User) (uid own : ℕ) → (own == uid) ≡ false → has_user users own ≡ true
    → has_user (filter (λ user. not (user.uid == uid)) users) own ≡ true
stays users uid own apart is =
    list_any-filter (λ (user : User). user.uid == own) (λ user. not (user.uid == uid)) (λ user. other_uid uid own user apart) users ∙ is

not_true : (b : Bool) → not b ≡ true → b ≡ false
not_true true h = sym h
not_true false h = refl

scope_without : (users : List User) (uid : ℕ) (scope : Scope) → unknown_scope users scope ≡ None
    → not (is_for_user uid scope) ≡ true → unknown_scope (filter (λ user. not (user.uid == uid)) users) scope ≡ None
scope_without users uid Everyone h kept = refl
scope_without users uid (One own) h kept =
    known (filter (λ user. not (user.uid == uid)) users) own
    (stays users uid own (not_true (own == uid) kept) (is_known own (has_user users own) h))

module _ {users : List User} {installs : List Install} (registry : IsRegistry users installs) (uid : ℕ) where
  pub IsRegistry-without_user : IsRegistry (filter (λ user. not (user.uid == uid)) users)
      (filter (λ install. not (is_for_user uid install.scope)) installs)
  IsRegistry-without_user =
      let keeps = λ (user : User). not (user.uid == uid) in
      let without = IsRegistry-without_installs registry (λ install. not (is_for_user uid install.scope)) in
      record {
        users_rise = IsStrictlySortedBy-filter user_cmp keeps users registry.users_rise;
        installs_rise = without.installs_rise;
        users_known =
            kept_where (λ install. unknown_scope users install.scope ≡ None)
            (λ install. unknown_scope (filter keeps users) install.scope ≡ None) (λ install. not (is_for_user uid install.scope))
            (λ install. scope_without users uid install.scope) installs registry.users_known;
        one_package = without.one_package;
        one_author = without.one_author;
        one_kind = without.one_kind;
        users_fit = over-fits Users most_users (length users) (length (filter keeps users)) registry.users_fit (length-filter-le keeps users);
        installs_fit = without.installs_fit;
      }
