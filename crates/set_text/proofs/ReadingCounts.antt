-- How many packages and privileges there are with one install more.
use Rattle.std.proofs.Common.{◌≡◌, ℕ, ◌+◌, ◌-◌, Bool, true, false, cond, List, [], ◌∷◌, ◌++◌, length, map}
use Rattle.std.proofs.Common.{slice_get, Option, Some, None, option_map, refl, sym, ap, ◌∙◌, arith, length-append}
use Rattle.std.specs.List.{dedup, dedup_from}
use Rattle.std.proofs.lemmas.Cmp.{nat_list_eq_equiv}
use Rattle.std.proofs.lemmas.List.{map-append, length-map}
use Rattle.std.proofs.lemmas.List.Sums.{sum_by-append}
use Rattle.std.proofs.lemmas.Option.{slice_get-map}
use Rattle.cynara_keys.specs.Text.{same_text}
use Rattle.cynara_keys.proofs.Order.{same_text-≡}
use Rattle.app_registry.specs.Registry.{packages, grant_count}
use Rattle.app_registry.specs.declared.installs.Install.{Install}
use Rattle.set_text.specs.Lines.{last_of}
use Rattle.set_text.specs.parts.Standing.{new_package, ends_with, tail_of}
use Rattle.set_text.proofs.ReadingRising.{last_of-more}

-- ---- names, each once where the same stand together

record Some-first (names : List (List ℕ)) : Type 0 where
  first : List ℕ
  others : List (List ℕ)
  parts : names ≡ first ∷ others

from-some : (name : List ℕ) (names : List (List ℕ)) → Some-first (dedup_from same_text name names)
from-some name [] = record { first = name; others = []; parts = refl }
from-some name (next ∷ names) = by (from-some name names) (same_text next name)
  where
    by : Some-first (dedup_from same_text name names) → (b : Bool)
        → Some-first (cond b (dedup_from same_text name names) (name ∷ dedup_from same_text next names))
    by later true = later
    by later false = record { first = name; others = dedup_from same_text next names; parts = refl }

last-behind : (name : List ℕ) (names : List (List ℕ)) → Some-first names → last_of (name ∷ names) ≡ last_of names
last-behind name names some =
    ap (λ list. last_of (name ∷ list)) some.parts ∙ last_of-more name some.first some.others
    ∙ sym (ap last_of some.parts)

from-snoc : (key : List ℕ) (names : List (List ℕ)) (name : List ℕ)
    → dedup_from same_text key (names ++ name ∷ [])
    ≡ dedup_from same_text key names ++ tail_of (dedup_from same_text key names) name
from-snoc key [] name =
    ap (λ b. cond b (key ∷ []) (key ∷ name ∷ [])) (nat_list_eq_equiv.symm name key) ∙ by (same_text key name)
  where
    by : (b : Bool) → cond b (key ∷ []) (key ∷ name ∷ []) ≡ key ∷ cond b [] (name ∷ [])
    by true = refl
    by false = refl
from-snoc key (next ∷ names) name = by (from-snoc key names name) (from-snoc next names name) (same_text next key)
  where
    by : dedup_from same_text key (names ++ name ∷ [])
        ≡ dedup_from same_text key names ++ tail_of (dedup_from same_text key names) name
        → dedup_from same_text next (names ++ name ∷ [])
        ≡ dedup_from same_text next names ++ tail_of (dedup_from same_text next names) name → (b : Bool)
        → cond b (dedup_from same_text key (names ++ name ∷ [])) (key ∷ dedup_from same_text next (names ++ name ∷ []))
        ≡ cond b (dedup_from same_text key names) (key ∷ dedup_from same_text next names)
        ++ tail_of (cond b (dedup_from same_text key names) (key ∷ dedup_from same_text next names)) name
    by own later true = own
    by own later false =
        ap (λ list. key ∷ list) later
        ∙ ap (λ last. key ∷ (dedup_from same_text next names ++ cond (ends_with last name) [] (name ∷ [])))
        (sym (last-behind key (dedup_from same_text next names) (from-some next names)))

names-snoc : (names : List (List ℕ)) (name : List ℕ)
    → dedup same_text (names ++ name ∷ []) ≡ dedup same_text names ++ tail_of (dedup same_text names) name
names-snoc [] name = refl
names-snoc (first ∷ names) name = from-snoc first names name

abbrev names_of : List Install → List (List ℕ)
names_of installs = map (λ (install : Install). install.«package») installs

pub packages-snoc : (installs : List Install) (install : Install)
    → packages (installs ++ install ∷ []) ≡ packages installs ++ tail_of (packages installs) install.«package»
packages-snoc installs install =
    ap (dedup same_text) (map-append (λ (install : Install). install.«package») installs (install ∷ []))
    ∙ names-snoc (names_of installs) install.«package»

from-last : (key : List ℕ) (names : List (List ℕ)) → last_of (dedup_from same_text key names) ≡ last_of (key ∷ names)
from-last key [] = refl
from-last key (next ∷ names) = by (from-last key names) (from-last next names) (same_text next key) refl
  where
    by : last_of (dedup_from same_text key names) ≡ last_of (key ∷ names)
        → last_of (dedup_from same_text next names) ≡ last_of (next ∷ names) → (b : Bool) → same_text next key ≡ b
        → last_of (cond b (dedup_from same_text key names) (key ∷ dedup_from same_text next names))
        ≡ last_of (key ∷ next ∷ names)
    by own later true is =
        own ∙ ap (λ (first : List ℕ). last_of (first ∷ names)) (sym (same_text-≡ next key is))
        ∙ sym (last_of-more key next names)
    by own later false is =
        last-behind key (dedup_from same_text next names) (from-some next names) ∙ later
        ∙ sym (last_of-more key next names)

names-last : (names : List (List ℕ)) → last_of (dedup same_text names) ≡ last_of names
names-last [] = refl
names-last (first ∷ names) = from-last first names

last-map : {X Y : Type 0} (f : X → Y) (xs : List X) → last_of (map f xs) ≡ option_map f (last_of xs)
last-map f xs =
    ap (λ (n : ℕ). slice_get (map f xs) (n - 1)) (length-map xs f) ∙ slice_get-map f xs (length xs - 1)

pub packages-last : (installs : List Install)
    → last_of (packages installs) ≡ option_map (λ (install : Install). install.«package») (last_of installs)
packages-last installs = names-last (names_of installs) ∙ last-map (λ (install : Install). install.«package») installs

-- ---- counts

one-more : (last : Option Install) (install : Install)
    → length (cond (ends_with (option_map (λ (install : Install). install.«package») last) install.«package») []
    (install.«package» ∷ []))
    ≡ new_package last install
one-more None install = refl
one-more (Some last) install = by (same_text last.«package» install.«package»)
  where
    by : (b : Bool) → length (cond b [] (install.«package» ∷ [])) ≡ cond b 0 1
    by true = refl
    by false = refl

pub packages-count : (installs : List Install) (install : Install)
    → length (packages (installs ++ install ∷ [])) ≡ length (packages installs) + new_package (last_of installs) install
packages-count installs install =
    let tail = tail_of (packages installs) install.«package» in
    ap length (packages-snoc installs install) ∙ length-append (packages installs) tail
    ∙ ap (λ n. length (packages installs) + n)
    (ap (λ last. length (cond (ends_with last install.«package») [] (install.«package» ∷ []))) (packages-last installs)
    ∙ one-more (last_of installs) install)

pub grants-count : (installs : List Install) (install : Install)
    → grant_count (installs ++ install ∷ []) ≡ grant_count installs + length install.privileges
grants-count installs install =
    let more = sum_by-append (λ (install : Install). length install.privileges) installs (install ∷ []) in
    omega (arith, more)
