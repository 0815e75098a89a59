-- The keys that installs grant tie only where they are equal.
use Rattle.std.proofs.Common.{◌≡◌, ℕ, ◌+◌, ◌<◌, true, List, [], ◌∷◌, ◌++◌, append_assoc, cond, decimal, get_or, length, map, take, refl, sym, ap, ◌∙◌, subst}
use Rattle.std.specs.declared.cmp.Ordering.TheVariants.{Equal}
use Rattle.std.specs.Cmp.{first_so, second_so}
use Rattle.std.specs.List.{All, AllByRecursion, Contains}
use Rattle.std.specs.List.Retain.{IsFiltered, DiffersFromLast}
use Rattle.std.specs.List.Sorted.{IsPermutation, IsSorted, IsStrictlySortedBy}
use Rattle.std.specs.Ordering.{is_eq}
use Rattle.std.proofs.lemmas.Grind.{flat_map-append}
use Rattle.std.proofs.lemmas.List.{append-nil, take_more, map-append}
use Rattle.std.proofs.lemmas.List.Filters.{dedup_is}
use Rattle.cynara_keys.specs.Field.{field_text, field_of, same_field}
use Rattle.cynara_keys.specs.Key.{key_cmp, same_key}
use Rattle.cynara_keys.specs.declared.fields.Field.{Field}
use Rattle.cynara_keys.specs.declared.fields.Field.TheVariants.{Any, Exact}
use Rattle.cynara_keys.specs.Key.{Key}
use Rattle.cynara_keys.proofs.Order.{same_text-≡, key_cmp-equal, key_total}
use Rattle.app_registry.specs.Label.{install_label}
use Rattle.app_registry.specs.Manifest.{scope_field, grant, install_grants, grants}
use Rattle.app_registry.specs.Rising.{rising}
use Rattle.app_registry.specs.declared.installs.Install.{Install}
use Rattle.app_registry.specs.declared.installs.Scope.{Scope}
use Rattle.app_registry.specs.declared.installs.Scope.TheVariants.{Everyone, One}
use Rattle.app_registry.proofs.Rising.{AllByRecursion-append, rising_from_sort, rising_rises, all_given, all_there}
use Rattle.app_registry.proofs.Texts.{decimal-no_wildcard}

-- what each key of an install is: its client and its privilege are names, and its user is read back from its text
pub record IsGrant (key : Key) : Type 0 where
  pub client : key.client ≡ Exact (field_text key.client)
  pub user : field_of (field_text key.user) ≡ key.user
  pub privilege : key.privilege ≡ Exact (field_text key.privilege)

same_names : (a b : Field) → a ≡ Exact (field_text a) → b ≡ Exact (field_text b) → same_field a b ≡ true → a ≡ b
same_names a b first second same = first ∙ ap Exact (same_text-≡ (field_text a) (field_text b) same) ∙ sym second

same_users : (a b : Field) → field_of (field_text a) ≡ a → field_of (field_text b) ≡ b → same_field a b ≡ true → a ≡ b
same_users a b first second same = sym first ∙ ap field_of (same_text-≡ (field_text a) (field_text b) same) ∙ second

pub same_grant : (a b : Key) → IsGrant a → IsGrant b → key_cmp a b ≡ Equal → a ≡ b
same_grant a b first second tied =
    let same : same_key a b ≡ true = sym (key_cmp-equal a b) ∙ ap is_eq tied in
    let client : a.client ≡ b.client = same_names a.client b.client first.client second.client (first_so _ _ same) in
    let user : a.user ≡ b.user = same_users a.user b.user first.user second.user (first_so _ _ (second_so _ _ same)) in
    let privilege : a.privilege ≡ b.privilege =
    same_names a.privilege b.privilege first.privilege second.privilege (second_so _ _ (second_so _ _ same)) in
    λ i. record { client = client i; user = user i; privilege = privilege i }

scope_field-text : (scope : Scope) → field_of (field_text (scope_field scope)) ≡ scope_field scope
scope_field-text Everyone = refl
scope_field-text (One uid) = ap (λ same. cond same Any (Exact (decimal uid))) (decimal-no_wildcard uid)

all_grants : (install : Install) (privileges : List (List ℕ))
    → AllByRecursion IsGrant (map (grant (Exact (install_label install)) (scope_field install.scope)) privileges)
all_grants install [] = tt
all_grants install (privilege ∷ privileges) = (
  record { client = refl; user = scope_field-text install.scope; privilege = refl },
  all_grants install privileges,
)

pub grants_are : (installs : List Install) → AllByRecursion IsGrant (grants installs)
grants_are [] = tt
grants_are (install ∷ installs) =
    AllByRecursion-append IsGrant (install_grants install) (grants installs) (all_grants install install.privileges)
    (grants_are installs)

-- ---- the rows

-- a sort of all that is granted, after which repeats are left out
pub rows_from_sort : (installs : List Install) (rows sorted left : List Key) → rows ≡ grants installs
    → IsPermutation rows sorted → IsSorted key_cmp sorted → IsFiltered (DiffersFromLast same_key) [] sorted left
    → left ≡ rising key_cmp (grants installs)
rows_from_sort installs rows sorted left are moved rises kept =
    let all_moved : IsPermutation (grants installs) sorted = subst (λ list. IsPermutation list sorted) are moved in
    dedup_is same_key sorted left kept
    ∙ rising_from_sort key_total (λ a b. sym (key_cmp-equal a b)) IsGrant same_grant (grants installs) sorted
    (grants_are installs) all_moved rises

-- one more element of a list, put behind what stands for those before it
pub map_more : {X Y : Type 0} (f : X → Y) (old rows new : List Y) (xs : List X) (i : ℕ) (x : X) → i < length xs
    → x ≡ get_or xs i x → rows ≡ old ++ map f (take i xs) → new ≡ rows ++ f x ∷ [] → new ≡ old ++ map f (take (i + 1) xs)
map_more f old rows new xs i x within at before after =
    let one_more : map f (take (i + 1) xs) ≡ map f (take i xs) ++ f x ∷ [] =
    ap (map f) (take_more xs i x within) ∙ map-append f (take i xs) (get_or xs i x ∷ [])
    ∙ ap (λ y. map f (take i xs) ++ f y ∷ []) (sym at) in
    after ∙ ap (λ list. list ++ f x ∷ []) before ∙ append_assoc old (map f (take i xs)) (f x ∷ []) ∙ ap (λ list. old ++ list) (sym one_more)

-- what one more install grants, put behind what those before it grant
pub grants_more : (installs : List Install) (rows new : List Key) (i : ℕ) (install : Install) → i < length installs
    → install ≡ get_or installs i install → rows ≡ grants (take i installs) → new ≡ rows ++ install_grants install
    → new ≡ grants (take (i + 1) installs)
grants_more installs rows new i install within at before after =
    let one_more : grants (take (i + 1) installs) ≡ grants (take i installs) ++ install_grants install =
    ap grants (take_more installs i install within)
    ∙ flat_map-append install_grants (take i installs) (get_or installs i install ∷ [])
    ∙ ap (λ list. grants (take i installs) ++ list) (append-nil (install_grants (get_or installs i install)))
    ∙ ap (λ other. grants (take i installs) ++ install_grants other) (sym at) in
    after ∙ ap (λ list. list ++ install_grants install) before ∙ sym one_more

-- what a list is that is the rising list of all that is granted
pub record IsRows (installs : List Install) (list : List Key) : Type 0 where
  pub rows : list ≡ rising key_cmp (grants installs)
  pub in_order : IsStrictlySortedBy key_cmp list
  pub granted : All (Contains (grants installs)) list
  pub complete : All (Contains list) (grants installs)

pub rows_are : (installs : List Install) (rows : List Key) → rows ≡ rising key_cmp (grants installs) → IsRows installs rows
rows_are installs rows is = record {
  rows = is;
  in_order = subst (IsStrictlySortedBy key_cmp) (sym is) (rising_rises key_total (grants installs));
  granted = subst (All (Contains (grants installs))) (sym is) (all_given key_total (grants installs));
  complete =
      subst (λ list. All (Contains list) (grants installs)) (sym is)
      (all_there key_total IsGrant same_grant (grants installs) (grants_are installs));
}
