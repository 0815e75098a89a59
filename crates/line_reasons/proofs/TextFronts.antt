-- Fronts of fixed texts, and of texts behind a fixed one.
use Rattle.std.proofs.Common.{◌≡◌, ℕ, Bool, true, List, [], ◌∷◌, ◌++◌, ◌⊎◌, inl, inr, length, drop, refl, sym, ap}
use Rattle.std.proofs.Common.{subst, ◌∙◌, append_assoc}
use Rattle.std.specs.List.{list_any, list_all}
use Rattle.std.proofs.lemmas.Bool.{or_cases, or_left, or_right, and_parts, and_from}
use Rattle.std.proofs.lemmas.Bool.Decides.{Decides-eqb}
use Rattle.std.proofs.lemmas.Slice.Eq.{starts_is}
use Rattle.std.proofs.lemmas.List.Folds.{list_all-append}
use Rattle.cynara_keys.specs.Text.{same_text}
use Rattle.cynara_keys.proofs.Order.{same_text-≡, ≡-same_text}
use Rattle.line_reasons.specs.parts.Texts.{begins, begins_one, is_behind, begins_behind}
use Rattle.line_reasons.proofs.Fronts.{Fronts, Fronts-or, is_dark}

-- ---- the bytes in front

pub begins-parts : (front text : List ℕ) → begins front text ≡ true → text ≡ front ++ drop (length front) text
begins-parts front text is = (starts_is Decides-eqb text front (begins front text) refl).0 is

pub begins-from : (front text rest : List ℕ) → text ≡ front ++ rest → begins front text ≡ true
begins-from front text rest is = (starts_is Decides-eqb text front (begins front text) refl).1 rest is

-- two ways to cut a text: the first front is a front of the second, or the other way round
pub two_cuts : (a b c d : List ℕ) → a ++ b ≡ c ++ d
    → ((more : List ℕ) × (c ≡ a ++ more)) ⊎ ((more : List ℕ) × (a ≡ c ++ more) × (d ≡ more ++ b))
two_cuts [] b c d is = inl (c, refl)
two_cuts (x ∷ a) b [] d is = inr (x ∷ a, refl, sym is)
two_cuts (x ∷ a) b (y ∷ c) d is =
    let tails : a ++ b ≡ c ++ d = cc in
    let heads : x ≡ y = cc in
    elim (two_cuts a b c d tails) as (λ _. ((more : List ℕ) × (y ∷ c ≡ x ∷ (a ++ more))) ⊎ ((more : List ℕ) × (x ∷ a ≡ y ∷ (c ++ more)) × (d ≡ more ++ b))) [
      | inl found ↦ (let whole : y ∷ c ≡ x ∷ (a ++ found.0) = (let rest = found.1 in cc) in inl (found.0, whole))
      | inr found ↦ (let whole : x ∷ a ≡ y ∷ (c ++ found.0) = (let rest = found.1 in cc) in inr (found.0, whole, found.2))
    ]

-- ---- fixed texts

pub Fronts-text : (text : List ℕ) → Fronts (λ line. same_text line text) (λ front. begins front text)
Fronts-text text = record {
  rest_of = λ front is. (
    drop (length front) text,
    ≡-same_text (front ++ drop (length front) text) text
        (sym (begins-parts front text is)),
  );
  is_front = λ front rest is. begins-from front text rest (sym (same_text-≡ (front ++ rest) text is));
}

pub Fronts-texts : (texts : List (List ℕ)) → Fronts (λ line. list_any (same_text line) texts) (begins_one texts)
Fronts-texts [] = record { rest_of = λ front is. cc; is_front = λ front rest is. cc }
Fronts-texts (text ∷ texts) =
    Fronts-or (λ line. same_text line text) (λ line. list_any (same_text line) texts) (λ front. begins front text)
    (begins_one texts)
    (Fronts-text text) (Fronts-texts texts)

-- ---- texts behind a fixed one

drop-front : (front rest : List ℕ) → drop (length front) (front ++ rest) ≡ rest
drop-front [] rest = refl
drop-front (byte ∷ front) rest = drop-front front rest

pub is_behind-from : (fixed : List ℕ) (test : List ℕ → Bool) (text rest : List ℕ) → text ≡ fixed ++ rest
    → test rest ≡ true
    → is_behind fixed test text ≡ true
is_behind-from fixed test text rest is passes =
    and_from (begins fixed text) (test (drop (length fixed) text)) (begins-from fixed text rest is)
    (ap (λ text. test (drop (length fixed) text)) is ∙ ap test (drop-front fixed rest) ∙ passes)

module _ (fixed : List ℕ) (known fronts : List ℕ → Bool) (parts : Fronts known fronts) (starts : fronts [] ≡ true) where
  rest_from-short : (front : List ℕ) → begins front fixed ≡ true → (rest : List ℕ)
      × (is_behind fixed known (front ++ rest) ≡ true)
  rest_from-short front is =
      let more = parts.rest_of [] starts in
      let left = drop (length front) fixed in (
        left ++ more.0,
        is_behind-from fixed known (front ++ (left ++ more.0)) more.0
            (sym (append_assoc front left more.0) ∙ ap (λ text. text ++ more.0)
            (sym (begins-parts front fixed is))) more.1,
      )

  rest_from-long : (front : List ℕ) → is_behind fixed fronts front ≡ true → (rest : List ℕ)
      × (is_behind fixed known (front ++ rest) ≡ true)
  rest_from-long front is =
      let left = drop (length fixed) front in
      let both = and_parts (begins fixed front) (fronts left) is in
      let more = parts.rest_of left both.1 in (
        more.0,
        is_behind-from fixed known (front ++ more.0) (left ++ more.0)
            (ap (λ text. text ++ more.0) (begins-parts fixed front both.0) ∙ append_assoc fixed left more.0) more.1,
      )

  front_from : (front rest : List ℕ) → is_behind fixed known (front ++ rest) ≡ true
      → begins_behind fixed fronts front ≡ true
  front_from front rest is =
      let left = drop (length fixed) (front ++ rest) in
      let both = and_parts (begins fixed (front ++ rest)) (known left) is in
      elim (two_cuts front rest fixed left (begins-parts fixed (front ++ rest) both.0)) as (λ _. begins_behind fixed fronts front ≡ true) [
        | inl short ↦ or_left (begins front fixed) (is_behind fixed fronts front) (begins-from front fixed short.0 short.1)
        | inr long ↦ (let Known : List ℕ → Type 0 = λ text. known text ≡ true in
            or_right (begins front fixed) (is_behind fixed fronts front)
            (is_behind-from fixed fronts front long.0 long.1 (parts.is_front long.0 rest (subst Known long.2 both.1))))
      ]

  pub Fronts-behind : Fronts (is_behind fixed known) (begins_behind fixed fronts)
  Fronts-behind = record {
    rest_of = λ front is. elim (or_cases (begins front fixed) (is_behind fixed fronts front) is) as (λ _. (rest : List ℕ) × (is_behind fixed known (front ++ rest) ≡ true)) [
      | inl short ↦ rest_from-short front short
      | inr long ↦ rest_from-long front long
    ];
    is_front = front_from;
  }

-- ---- no blank in them

pub dark-front : (front text : List ℕ) → begins front text ≡ true → list_all is_dark text ≡ true
    → list_all is_dark front ≡ true
dark-front front text is dark =
    let whole : list_all is_dark (front ++ drop (length front) text)
    ≡ true = ap (list_all is_dark) (sym (begins-parts front text is)) ∙ dark in
    (and_parts (list_all is_dark front) (list_all is_dark (drop (length front) text))
    (sym (list_all-append is_dark front (drop (length front) text)) ∙ whole)).0

pub dark-one : (texts : List (List ℕ)) (front : List ℕ) → list_all (list_all is_dark) texts ≡ true
    → begins_one texts front ≡ true
    → list_all is_dark front ≡ true
dark-one [] front dark is = cc
dark-one (text ∷ texts) front dark is =
    let all = and_parts (list_all is_dark text) (list_all (list_all is_dark) texts) dark in
    elim (or_cases (begins front text) (begins_one texts front) is) as (λ _. list_all is_dark front ≡ true) [
      | inl here ↦ dark-front front text here all.0
      | inr later ↦ dark-one texts front all.1 later
    ]

pub dark-behind : (fixed : List ℕ) (test : List ℕ → Bool) → list_all is_dark fixed ≡ true
    → ((front : List ℕ) → test front ≡ true → list_all is_dark front ≡ true) → (front : List ℕ)
    → begins_behind fixed test front ≡ true
    → list_all is_dark front ≡ true
dark-behind fixed test dark inner front is =
    elim (or_cases (begins front fixed) (is_behind fixed test front) is) as (λ _. list_all is_dark front ≡ true) [
      | inl short ↦ dark-front front fixed short dark
      | inr long ↦ (let both = and_parts (begins fixed front) (test (drop (length fixed) front)) long in
          ap (list_all is_dark) (begins-parts fixed front both.0)
          ∙ list_all-append is_dark fixed (drop (length fixed) front)
          ∙ and_from (list_all is_dark fixed) (list_all is_dark (drop (length fixed) front)) dark
          (inner (drop (length fixed) front) both.1))
    ]
