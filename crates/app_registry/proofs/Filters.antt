-- What a test finds in a list, and in a part of it.
use Rattle.std.proofs.Common.{◌≡◌, Bor, Bool, true, false, ◌||◌, cond, List, [], ◌∷◌, Option, Some, None, is_some, option_map, refl, sym, ap, ◌∙◌}
use mathlib.Core.Bool.{true≢false}
use Rattle.std.specs.Option.{option_copied}
use Rattle.std.specs.List.{AllByRecursion, filter, find, list_any}

-- what holds of the elements holds of those that pass, and they pass
kept_where-at : {X : Type 0} (P Q : X → Type 0) (q : X → Bool) → ((x : X) → P x → q x ≡ true → Q x) → (x : X) (b : Bool)
    → q x ≡ b → P x → (xs : List X) → AllByRecursion Q xs → AllByRecursion Q (cond b (x ∷ xs) xs)
kept_where-at P Q q f x true at here xs rest = (f x here at, rest)
kept_where-at P Q q f x false at here xs rest = rest

pub kept_where : {X : Type 0} (P Q : X → Type 0) (q : X → Bool) → ((x : X) → P x → q x ≡ true → Q x) → (xs : List X)
    → AllByRecursion P xs → AllByRecursion Q (filter q xs)
kept_where P Q q f [] all = tt
kept_where P Q q f (x ∷ xs) all = kept_where-at P Q q f x (q x) refl all.0 (filter q xs) (kept_where P Q q f xs all.1)

-- both facts of each element
pub AllByRecursion-both : {X : Type 0} (P Q S : X → Type 0) → ((x : X) → P x → Q x → S x) → (xs : List X)
    → AllByRecursion P xs → AllByRecursion Q xs → AllByRecursion S xs
AllByRecursion-both P Q S f [] first second = tt
AllByRecursion-both P Q S f (x ∷ xs) first second =
    (f x first.0 second.0, AllByRecursion-both P Q S f xs first.1 second.1)

pub option_map-none : {X Y : Type 0} (f : X → Y) (o : Option X) → option_map f o ≡ None → o ≡ None
option_map-none f None h = refl
option_map-none f (Some x) h = cc

module _ {X : Type 0} (p : X → Bool) where
  -- no element passes
  abbrev pub NoneDoes : List X → Type 0
  NoneDoes xs = AllByRecursion (λ x. p x ≡ false) xs

  found-at : (b : Bool) (x : X) (rest : Option X) → cond b (Some x) rest ≡ None → (b ≡ false) × (rest ≡ None)
  found-at true x rest h = cc
  found-at false x rest h = (refl, h)

  pub none_does : (xs : List X) → find p xs ≡ None → NoneDoes xs
  none_does [] h = tt
  none_does (x ∷ xs) h = let here = found-at (p x) x (find p xs) h in (here.0, none_does xs here.1)

  pub find-none : (xs : List X) → NoneDoes xs → find p xs ≡ None
  find-none [] none = refl
  find-none (x ∷ xs) none = ap (λ b. cond b (Some x) (find p xs)) none.0 ∙ find-none xs none.1

  -- a test that only elements pass that are kept
  module _ (q : X → Bool) (agrees : (x : X) → p x ≡ true → q x ≡ true) where
    fails : (x : X) (b : Bool) → p x ≡ b → q x ≡ false → b ≡ false
    fails x true is dropped = absurd (true≢false (sym (agrees x is) ∙ dropped))
    fails x false is dropped = refl

    list_any-filter-at : (x : X) (xs : List X) (b : Bool) → q x ≡ b → list_any p (filter q xs) ≡ list_any p xs
        → list_any p (filter q (x ∷ xs)) ≡ (p x || list_any p xs)
    list_any-filter-at x xs true at rest =
        ap (λ b. list_any p (cond b (x ∷ filter q xs) (filter q xs))) at ∙ ap (λ b. p x || b) rest
    list_any-filter-at x xs false at rest =
        ap (λ b. list_any p (cond b (x ∷ filter q xs) (filter q xs))) at ∙ rest
        ∙ ap (λ b. b || list_any p xs) (sym (fails x (p x) refl at))

    pub list_any-filter : (xs : List X) → list_any p (filter q xs) ≡ list_any p xs
    list_any-filter [] = refl
    list_any-filter (x ∷ xs) = list_any-filter-at x xs (q x) refl (list_any-filter xs)

  some_or : (b : Bool) (x : X) (rest : Option X) → is_some (cond b (Some x) rest) ≡ (b || is_some rest)
  some_or true x rest = refl
  some_or false x rest = refl

  pub is_some-find : (xs : List X) → is_some (find p xs) ≡ list_any p xs
  is_some-find [] = refl
  is_some-find (x ∷ xs) = some_or (p x) x (find p xs) ∙ ap (λ b. p x || b) (is_some-find xs)

pub is_some-copied : {X : Type 0} (o : Option (Bor X)) → is_some o ≡ is_some (option_copied o)
is_some-copied None = refl
is_some-copied (Some x) = refl
