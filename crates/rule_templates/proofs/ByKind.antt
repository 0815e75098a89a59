-- A package that is there is hybrid or plain, and the labels of its processes are those of its kind.
use Rattle.std.proofs.Common.{◌≡◌, ℕ, Bool, true, false, not, cond, ◌&&◌, ◌||◌, List, [], ◌∷◌, ◌++◌, map, find, codes, Option, Some, None, refl, sym, ap, ◌∙◌, subst}
use Rattle.std.specs.Prelude.{unwrap_or}
use Rattle.std.specs.Option.{option_map}
use Rattle.std.specs.List.{AllByRecursion, filter, list_any, dedup, dedup_from}
use Rattle.std.proofs.lemmas.Bool.{true≢false}
use Rattle.std.proofs.lemmas.List.{append_cancel_left}
use Rattle.cynara_keys.specs.Text.{same_text}
use Rattle.cynara_keys.proofs.Order.{same_text-≡, ≡-same_text}
use Rattle.app_registry.specs.Install.{is_of_package, same_kind}
use Rattle.app_registry.specs.Label.{package_label, app_label, install_label}
use Rattle.app_registry.specs.Refusal.{other_kind, is_of_other_kind}
use Rattle.app_registry.specs.Registry.{RegistryLists, has_package}
use Rattle.app_registry.specs.Rules.{IsRegistry}
use Rattle.app_registry.specs.declared.installs.Install.{Install}
use Rattle.app_registry.proofs.Changes.{from_kind}
use Rattle.app_registry.proofs.Filters.{kept_where}
use Rattle.rule_templates.specs.Kinds.{app_name, labels_by_kind}
use Rattle.rule_templates.specs.Processes.{distinct_labels, process_labels}

-- the install is of the package, which is of this kind
record IsOfKind (name : List ℕ) (hybrid : Bool) (install : Install) : Type 0 where
  package_is : install.«package» ≡ name
  kind_is : install.hybrid ≡ hybrid

-- ---- labels that are all one

all-one : (label : List ℕ) (installs : List Install)
    → dedup_from same_text label (map (λ (install : Install). label) installs) ≡ label ∷ []
all-one label [] = refl
all-one label (install ∷ installs) =
    ap (λ b. cond b (dedup_from same_text label (map (λ (other : Install). label) installs))
    (label ∷ dedup_from same_text label (map (λ (other : Install). label) installs))) (≡-same_text label label refl)
    ∙ all-one label installs

plain-label : (name : List ℕ) (install : Install) → IsOfKind name false install → install_label install ≡ package_label name
plain-label name install is =
    λ i. cond (is.kind_is i) (app_label (is.package_is i) install.app) (package_label (is.package_is i))

plain-labels : (name : List ℕ) (installs : List Install) → AllByRecursion (IsOfKind name false) installs
    → map install_label installs ≡ map (λ (install : Install). package_label name) installs
plain-labels name [] all = refl
plain-labels name (install ∷ installs) all = λ i. plain-label name install all.0 i ∷ plain-labels name installs all.1 i

-- ---- labels as the names of applications

hybrid-label : (name : List ℕ) (install : Install) → IsOfKind name true install → install_label install ≡ app_label name install.app
hybrid-label name install is =
    λ i. cond (is.kind_is i) (app_label (is.package_is i) install.app) (package_label (is.package_is i))

hybrid-labels : (name : List ℕ) (installs : List Install) → AllByRecursion (IsOfKind name true) installs
    → map install_label installs ≡ map (app_label name) (map app_name installs)
hybrid-labels name [] all = refl
hybrid-labels name (install ∷ installs) all = λ i. hybrid-label name install all.0 i ∷ hybrid-labels name installs all.1 i

same-app : (name a b : List ℕ) → same_text (app_label name a) (app_label name b) ≡ same_text a b
same-app name a b = by (same_text a b) refl (same_text (app_label name a) (app_label name b)) refl
  where
    by : (c : Bool) → same_text a b ≡ c → (d : Bool) → same_text (app_label name a) (app_label name b) ≡ d → d ≡ c
    by true is d at =
        sym at ∙ ≡-same_text (app_label name a) (app_label name b) (ap (app_label name) (same_text-≡ a b is))
    by false is true at =
        let behind = append_cancel_left (package_label name) (codes "::App::" ++ a) (codes "::App::" ++ b)
        (same_text-≡ (app_label name a) (app_label name b) at) in
        let same : a ≡ b = append_cancel_left (codes "::App::") a b behind in
        absurd (true≢false (sym (≡-same_text a b same) ∙ is))
    by false is false at = refl

from-map : (name key : List ℕ) (apps : List (List ℕ))
    → dedup_from same_text (app_label name key) (map (app_label name) apps) ≡ map (app_label name) (dedup_from same_text key apps)
from-map name key [] = refl
from-map name key (app ∷ apps) =
    ap (λ b. cond b (dedup_from same_text (app_label name key) (map (app_label name) apps))
    (app_label name key ∷ dedup_from same_text (app_label name app) (map (app_label name) apps))) (same-app name app key)
    ∙ by (from-map name key apps) (from-map name app apps) (same_text app key)
  where
    by : dedup_from same_text (app_label name key) (map (app_label name) apps) ≡ map (app_label name) (dedup_from same_text key apps)
        → dedup_from same_text (app_label name app) (map (app_label name) apps) ≡ map (app_label name) (dedup_from same_text app apps)
        → (b : Bool)
        → cond b (dedup_from same_text (app_label name key) (map (app_label name) apps))
        (app_label name key ∷ dedup_from same_text (app_label name app) (map (app_label name) apps))
        ≡ map (app_label name) (cond b (dedup_from same_text key apps) (key ∷ dedup_from same_text app apps))
    by own next true = own
    by own next false = ap (λ labels. app_label name key ∷ labels) next

once-map : (name : List ℕ) (apps : List (List ℕ))
    → dedup same_text (map (app_label name) apps) ≡ map (app_label name) (dedup same_text apps)
once-map name [] = refl
once-map name (app ∷ apps) = from-map name app apps

-- ---- by the kind of the package

of-kind : (name : List ℕ) (hybrid : Bool) (installs : List Install) (first : Install) → AllByRecursion (IsOfKind name hybrid) (first ∷ installs)
    → distinct_labels (first ∷ installs)
    ≡ cond hybrid (map (app_label name) (dedup same_text (map app_name (first ∷ installs)))) (package_label name ∷ [])
of-kind name true installs first all =
    ap (dedup same_text) (hybrid-labels name (first ∷ installs) all) ∙ once-map name (map app_name (first ∷ installs))
of-kind name false installs first all =
    ap (dedup same_text) (plain-labels name (first ∷ installs) all) ∙ all-one (package_label name) installs

same-kind-is : (a b : Bool) → same_kind a b ≡ true → a ≡ b
same-kind-is true b h = sym h
same-kind-is false true h = cc
same-kind-is false false h = refl

-- an install of the package of the first one found is of its kind
kind-of-first : (name : List ℕ) (first other : Install) → first.«package» ≡ name → is_of_other_kind first other ≡ false
    → is_of_package name other ≡ true → IsOfKind name first.hybrid other
kind-of-first name first other first_is free of =
    let is : other.«package» ≡ name = same_text-≡ other.«package» name of in
    let own : is_of_package first.«package» other ≡ true = ≡-same_text other.«package» first.«package» (is ∙ sym first_is) in
    record {
      package_is = is;
      kind_is =
          same-kind-is other.hybrid first.hybrid
          (kept (same_kind other.hybrid first.hybrid) (sym (ap (λ b. b && not (same_kind other.hybrid first.hybrid)) own) ∙ free));
    }
  where
    kept : (b : Bool) → not b ≡ false → b ≡ true
    kept true h = refl
    kept false h = cc

-- the first one found, and that it heads those of the package
record Heads (P : Install → Type 0) (name : List ℕ) (installs : List Install) : Type 0 where
  first : Install
  others : List Install
  found : find (is_of_package name) installs ≡ Some first
  heads : filter (is_of_package name) installs ≡ first ∷ others
  named : first.«package» ≡ name
  holds : AllByRecursion P installs → P first

heads-of : (P : Install → Type 0) (name : List ℕ) (installs : List Install) → list_any (is_of_package name) installs ≡ true
    → Heads P name installs
heads-of P name [] any = absurd (true≢false (sym any))
heads-of P name (install ∷ installs) any = by (is_of_package name install) refl any (heads-of P name installs)
  where
    by : (b : Bool) → is_of_package name install ≡ b → (b || list_any (is_of_package name) installs) ≡ true
        → (list_any (is_of_package name) installs ≡ true → Heads P name installs) → Heads P name (install ∷ installs)
    by true is any later = record {
      first = install;
      others = filter (is_of_package name) installs;
      found = ap (λ b. cond b (Some install) (find (is_of_package name) installs)) is;
      heads = ap (λ b. cond b (install ∷ filter (is_of_package name) installs) (filter (is_of_package name) installs)) is;
      named = same_text-≡ install.«package» name is;
      holds = λ all. all.0;
    }
    by false is any later =
        let rest = later any in record {
          first = rest.first;
          others = rest.others;
          found = ap (λ b. cond b (Some install) (find (is_of_package name) installs)) is ∙ rest.found;
          heads = ap (λ b. cond b (install ∷ filter (is_of_package name) installs) (filter (is_of_package name) installs)) is ∙ rest.heads;
          named = rest.named;
          holds = λ all. rest.holds all.1;
        }

pub labels-by-kind : (registry : RegistryLists) (name : List ℕ) → IsRegistry registry.users registry.installs
    → has_package registry name ≡ true → process_labels registry name ≡ labels_by_kind registry name
labels-by-kind registry name is there =
    let installs = registry.installs in
    let head = heads-of (λ install. other_kind installs install ≡ None) name installs there in
    let first = head.first in
    let free = from_kind installs first (head.holds is.one_kind) in
    let all : AllByRecursion (IsOfKind name first.hybrid) (first ∷ head.others) =
    subst (AllByRecursion (IsOfKind name first.hybrid)) head.heads
    (kept_where (λ other. is_of_other_kind first other ≡ false) (IsOfKind name first.hybrid) (is_of_package name)
    (λ other free of. kind-of-first name first other head.named free of) installs free) in
    ap distinct_labels head.heads
    ∙ of-kind name first.hybrid head.others first all
    ∙ ap (λ own. cond first.hybrid (map (app_label name) (dedup same_text (map app_name own))) (package_label name ∷ [])) (sym head.heads)
    ∙ ap (λ (found : Option Install). cond (unwrap_or (option_map (λ (install : Install). install.hybrid) found) false)
    (map (app_label name) (dedup same_text (map app_name (filter (is_of_package name) installs)))) (package_label name ∷ [])) (sym head.found)
