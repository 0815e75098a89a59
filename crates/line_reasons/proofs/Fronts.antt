-- What a line, or a word, can begin with.
use Rattle.std.proofs.Common.{◌≡◌, ℕ, Bool, true, false, ◌||◌, List, [], ◌++◌, inl, inr, sym, ap, append_assoc, ◌∙◌}
use Rattle.std.specs.List.{list_all}
use Rattle.std.proofs.lemmas.Bool.{or_cases, or_left, or_right}
use Rattle.std.specs.Prelude.{nat_lt}

-- the fronts of known texts: each goes on to a known text, and a known text has no other front
pub record Fronts (known fronts : List ℕ → Bool) : Type 0 where
  pub rest_of : (front : List ℕ) → fronts front ≡ true → (rest : List ℕ) × (known (front ++ rest) ≡ true)
  pub is_front : (front rest : List ℕ) → known (front ++ rest) ≡ true → fronts front ≡ true

-- no space and no other blank
abbrev pub is_dark : ℕ → Bool
is_dark byte = nat_lt 32 byte

-- the same of words, which have a byte and no blank
pub record WordFronts (known fronts : List ℕ → Bool) : Type 0 where
  pub parts : Fronts known fronts
  pub dark : (front : List ℕ) → fronts front ≡ true → list_all is_dark front ≡ true
  pub some : known [] ≡ false
  pub starts : fronts [] ≡ true

-- one of two texts
module _ (known others fronts more : List ℕ → Bool) where
  pub Fronts-or : Fronts known fronts → Fronts others more
      → Fronts (λ text. known text || others text) (λ front. fronts front || more front)
  Fronts-or first second = record {
    rest_of = λ front is. elim (or_cases (fronts front) (more front) is) as (λ _. (rest : List ℕ) × ((known (front ++ rest) || others (front ++ rest)) ≡ true)) [
      | inl h ↦ (let found = first.rest_of front h in (found.0, or_left (known (front ++ found.0)) (others (front ++ found.0)) found.1))
      | inr h ↦ (let found = second.rest_of front h in (found.0, or_right (known (front ++ found.0)) (others (front ++ found.0)) found.1))
    ];
    is_front = λ front rest is. elim (or_cases (known (front ++ rest)) (others (front ++ rest)) is) as (λ _. (fronts front || more front) ≡ true) [
      | inl h ↦ or_left (fronts front) (more front) (first.is_front front rest h)
      | inr h ↦ or_right (fronts front) (more front) (second.is_front front rest h)
    ];
  }

-- the same known texts in other words
pub Fronts-same : (known others fronts : List ℕ → Bool) → ((text : List ℕ) → known text ≡ others text)
    → Fronts others fronts → Fronts known fronts
Fronts-same known others fronts same parts = record {
  rest_of = λ front is. (let found = parts.rest_of front is in (found.0, same (front ++ found.0) ∙ found.1));
  is_front = λ front rest is. parts.is_front front rest (sym (same (front ++ rest)) ∙ is);
}

-- a front of a front
pub Fronts-front : (known fronts : List ℕ → Bool) → Fronts known fronts → (front more : List ℕ)
    → fronts (front ++ more) ≡ true → fronts front ≡ true
Fronts-front known fronts parts front more is =
    let found = parts.rest_of (front ++ more) is in
    parts.is_front front (more ++ found.0) (ap known (sym (append_assoc front more found.0)) ∙ found.1)
