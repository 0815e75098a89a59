-- How many packages there are at most, and what is left where a new install is taken out again.
use Rattle.std.proofs.Common.{◌≡◌, ℕ, ◌+◌, ◌≤◌, Bool, true, false, not, ◌&&◌, cond, List, [], ◌∷◌, ◌++◌, length, map, take, drop, refl, sym, ap, ◌∙◌, arith}
use Rattle.std.specs.List.{filter, list_any, dedup, dedup_from}
use Rattle.std.proofs.lemmas.Bool.{or_parts}
use Rattle.std.proofs.lemmas.Cmp.{nat_list_eq_equiv, nat_eq_equiv}
use Rattle.std.proofs.Math.Seq.{drop-append-add}
use Rattle.std.proofs.lemmas.List.{take-append-drop, take_at, length-take-le, length-map}
use Rattle.std.proofs.lemmas.List.Elements.{filter-append}
use Rattle.cynara_keys.specs.Text.{same_text}
use Rattle.app_registry.specs.Install.{is_install_of}
use Rattle.app_registry.specs.Registry.{packages}
use Rattle.app_registry.specs.Scope.{same_scope}
use Rattle.app_registry.specs.declared.installs.Install.{Install}

-- ---- packages

fewer-from : (last : List ℕ) (names : List (List ℕ)) → length (dedup_from same_text last names) ≤ length names + 1
fewer-from last [] = omega arith
fewer-from last (name ∷ names) = step (same_text name last) (fewer-from last names) (fewer-from name names)
  where
    step : (same : Bool) → length (dedup_from same_text last names) ≤ length names + 1
        → length (dedup_from same_text name names) ≤ length names + 1
        → length (cond same (dedup_from same_text last names) (last ∷ dedup_from same_text name names))
        ≤ length (name ∷ names) + 1
    step true one other = omega arith
    step false one other = omega arith

fewer-names : (names : List (List ℕ)) → length (dedup same_text names) ≤ length names
fewer-names [] = omega arith
fewer-names (name ∷ names) = let few = fewer-from name names in omega (arith, few)

pub fewer-packages : (installs : List Install) → length (packages installs) ≤ length installs
fewer-packages installs =
    let few = fewer-names (map (λ (install : Install). install.«package») installs) in
    let same = length-map installs (λ (install : Install). install.«package») in
    omega (arith, few, same)

-- ---- an install put at a place and taken out again

module _ {X : Type 0} (xs : List X) (at : ℕ) (x : X) (fits : at ≤ length xs) where
  pub removed : take at (take at xs ++ x ∷ drop at xs) ++ drop (at + 1) (take at xs ++ x ∷ drop at xs) ≡ xs
  removed =
      let long = length-take-le at xs fits in
      let past : drop (at + 1) (take at xs ++ x ∷ drop at xs) ≡ drop at xs =
      (λ i. drop (sym long i + 1) (take at xs ++ x ∷ drop at xs)) ∙ drop-append-add (take at xs) (x ∷ drop at xs) 1 in
      (λ i. take_at (take at xs) (x ∷ drop at xs) at long i ++ past i) ∙ take-append-drop at xs

keeps-all : {X : Type 0} (test : X → Bool) (xs : List X) → list_any test xs ≡ false → filter (λ x. not (test x)) xs ≡ xs
keeps-all test [] none = refl
keeps-all test (x ∷ xs) none =
    let parts = or_parts (test x) (list_any test xs) none in
    ap (λ b. cond (not b) (x ∷ filter (λ y. not (test y)) xs) (filter (λ y. not (test y)) xs)) parts.0
    ∙ ap (λ rest. x ∷ rest) (keeps-all test xs parts.1)

without-put : {X : Type 0} (test : X → Bool) (front : List X) (x : X) (back : List X) → test x ≡ true
    → filter (λ y. not (test y)) (front ++ x ∷ back) ≡ filter (λ y. not (test y)) (front ++ back)
without-put test front x back is =
    filter-append (λ y. not (test y)) front (x ∷ back)
    ∙ ap (λ b. filter (λ y. not (test y)) front
    ++ cond (not b) (x ∷ filter (λ y. not (test y)) back) (filter (λ y. not (test y)) back)) is
    ∙ sym (filter-append (λ y. not (test y)) front back)

own-install : (install : Install) → is_install_of install.app install.scope install ≡ true
own-install install =
    (λ i. nat_list_eq_equiv.refl install.app i && same_scope install.scope install.scope)
    ∙ nat_eq_equiv.refl _

pub taken-back : (installs : List Install) (at : ℕ) (install : Install)
    → list_any (is_install_of install.app install.scope) installs ≡ false
    → filter (λ other. not (is_install_of install.app install.scope other)) (take at installs ++ install ∷ drop at installs)
    ≡ installs
taken-back installs at install none =
    without-put (is_install_of install.app install.scope) (take at installs) install (drop at installs) (own-install install)
    ∙ ap (filter (λ other. not (is_install_of install.app install.scope other))) (take-append-drop at installs)
    ∙ keeps-all (is_install_of install.app install.scope) installs none
