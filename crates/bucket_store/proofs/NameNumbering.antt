-- Names numbered in the order in which they are met: a number stays when more names come, and tells equal texts apart
-- from others.
use Rattle.std.proofs.Common.{◌≡◌, ℕ, suc, ◌+◌, Bool, true, false, not, ◌||◌, cond, if◌then◌else◌, ltb, eqb, List, [], ◌∷◌, ◌++◌, map, length, Some, None, refl, sym, ap, subst, ◌∙◌, true≢false, arith}
use Rattle.std.specs.List.{list_any, position, position_or_len}
use Rattle.std.proofs.lemmas.List.{length-map}
use Rattle.std.proofs.lemmas.List.Folds.{list_any-append}
use Rattle.cynara_keys.specs.Text.{same_text}
use Rattle.cynara_keys.specs.Field.{wildcard}
use Rattle.cynara_keys.proofs.Order.{same_text-≡, ≡-same_text}
use Rattle.bucket_store.specs.parts.Numbering.{HasNumber}

-- ---- places

module _ {X : Type 0} (test : X → Bool) where
  -- a place that is found stays when more come
  pub place-more : (xs more : List X) → list_any test xs ≡ true → position_or_len test (xs ++ more) ≡ position_or_len test xs
  place-more [] more some = absurd (true≢false (sym some))
  place-more (x ∷ xs) more some = by (test x) (place-more xs more) refl
    where
      by : (b : Bool) → (list_any test xs ≡ true → position_or_len test (xs ++ more) ≡ position_or_len test xs)
          → test x ≡ b → position_or_len test (x ∷ (xs ++ more)) ≡ position_or_len test (x ∷ xs)
      by true rest e = (λ i. cond (not (e i)) (1 + position_or_len test (xs ++ more)) 0) ∙ sym (λ i. cond (not (e i)) (1 + position_or_len test xs) 0)
      by false rest e =
          (λ i. cond (not (e i)) (1 + position_or_len test (xs ++ more)) 0)
          ∙ ap (λ n. 1 + n) (rest (sym (ap (λ b. b || list_any test xs) e) ∙ some))
          ∙ sym (λ i. cond (not (e i)) (1 + position_or_len test xs) 0)

  -- a new one is found behind the others
  pub place-new : (xs : List X) (x : X) → list_any test xs ≡ false → test x ≡ true
      → position_or_len test (xs ++ x ∷ []) ≡ position_or_len test xs
  place-new [] x none passes = λ i. cond (not (passes i)) 1 0
  place-new (y ∷ xs) x none passes = by (test y) (λ n. place-new xs x n passes) refl
    where
      by : (b : Bool) → (list_any test xs ≡ false → position_or_len test (xs ++ x ∷ []) ≡ position_or_len test xs)
          → test y ≡ b → position_or_len test (y ∷ (xs ++ x ∷ [])) ≡ position_or_len test (y ∷ xs)
      by true rest e = absurd (true≢false (sym (ap (λ b. b || list_any test xs) e) ∙ none))
      by false rest e =
          (λ i. cond (not (e i)) (1 + position_or_len test (xs ++ x ∷ [])) 0)
          ∙ ap (λ n. 1 + n) (rest (sym (ap (λ b. b || list_any test xs) e) ∙ none))
          ∙ sym (λ i. cond (not (e i)) (1 + position_or_len test xs) 0)

  -- whether one is there, by its place
  pub place-within : (xs : List X) → ltb (position_or_len test xs) (length xs) ≡ list_any test xs
  place-within [] = refl
  place-within (x ∷ xs) = by (test x) (place-within xs) refl
    where
      next : (a b : ℕ) (c : Bool) → ltb a b ≡ c → ltb (1 + a) (suc b) ≡ c
      next a b c e = grind (arith, e)

      by : (b : Bool) → ltb (position_or_len test xs) (length xs) ≡ list_any test xs → test x ≡ b
          → ltb (position_or_len test (x ∷ xs)) (suc (length xs)) ≡ test x || list_any test xs
      by true rest e =
          (λ i. ltb (cond (not (e i)) (1 + position_or_len test xs) 0) (suc (length xs)))
          ∙ (let zero_first : ltb 0 (suc (length xs)) ≡ true = grind arith in zero_first)
          ∙ sym (ap (λ b. b || list_any test xs) e)
      by false rest e =
          (λ i. ltb (cond (not (e i)) (1 + position_or_len test xs) 0) (suc (length xs)))
          ∙ next (position_or_len test xs) (length xs) (list_any test xs) rest
          ∙ sym (ap (λ b. b || list_any test xs) e)

-- ---- names behind references

module _ {X : Type 0} (view : X → List ℕ) where
  pub any-viewed : (text : List ℕ) (xs : List X)
      → list_any (λ x. same_text text (view x)) xs ≡ list_any (same_text text) (map view xs)
  any-viewed text [] = refl
  any-viewed text (x ∷ xs) = ap (λ b. same_text text (view x) || b) (any-viewed text xs)

  pub place-viewed : (text : List ℕ) (xs : List X)
      → position_or_len (λ x. same_text text (view x)) xs ≡ position_or_len (same_text text) (map view xs)
  place-viewed text [] = refl
  place-viewed text (x ∷ xs) = ap (λ n. cond (not (same_text text (view x))) (1 + n) 0) (place-viewed text xs)

  pub position-viewed : (text : List ℕ) (xs : List X)
      → position (λ x. same_text text (view x)) xs ≡ position (same_text text) (map view xs)
  position-viewed text xs =
      (λ i. cond (ltb (place-viewed text xs i) (length xs)) (Some (place-viewed text xs i)) None)
      ∙ ap (λ n. cond (ltb (position_or_len (same_text text) (map view xs)) n) (Some (position_or_len (same_text text) (map view xs))) None)
      (sym (length-map xs view))

  map-push : (xs : List X) (x : X) → map view (xs ++ x ∷ []) ≡ map view xs ++ view x ∷ []
  map-push [] x = refl
  map-push (y ∷ xs) x = ap (λ l. view y ∷ l) (map-push xs x)

  -- what an insertion makes of the names
  abbrev pub inserted : List X → X → List X
  inserted xs x = if list_any (λ other. same_text (view x) (view other)) xs then xs else xs ++ x ∷ []

  pub inserted-number : (xs : List X) (x : X) (new : List X) (place : ℕ) → new ≡ inserted xs x
      → place ≡ position_or_len (λ other. same_text (view x) (view other)) xs → same_text (view x) wildcard ≡ false
      → HasNumber (map view new) (view x) (place + 1)
  inserted-number xs x new place is found other =
      subst (λ l. HasNumber (map view l) (view x) (place + 1)) (sym is)
      (by (list_any (λ o. same_text (view x) (view o)) xs) refl)
    where
      own : same_text (view x) (view x) ≡ true
      own = ≡-same_text (view x) (view x) refl

      at : place ≡ position_or_len (same_text (view x)) (map view xs)
      at = found ∙ place-viewed (view x) xs

      by : (b : Bool) → list_any (λ o. same_text (view x) (view o)) xs ≡ b
          → HasNumber (map view (if b then xs else xs ++ x ∷ [])) (view x) (place + 1)
      by true e = record {
        known =
            ap (λ b. b || list_any (same_text (view x)) (map view xs)) other
            ∙ sym (any-viewed (view x) xs) ∙ e;
        is =
            ap (λ n. n + 1) at
            ∙ sym (ap (λ b. if b then 0 else position_or_len (same_text (view x)) (map view xs) + 1) other);
      }
      by false e =
          let none : list_any (same_text (view x)) (map view xs) ≡ false = sym (any-viewed (view x) xs) ∙ e in
          subst (λ l. HasNumber l (view x) (place + 1)) (sym (map-push xs x))
          (record {
            known =
                ap (λ b. b || list_any (same_text (view x)) (map view xs ++ view x ∷ [])) other
                ∙ list_any-append (same_text (view x)) (map view xs) (view x ∷ [])
                ∙ (λ i. none i || (own i || false));
            is =
                ap (λ n. n + 1) (at ∙ sym (place-new (same_text (view x)) (map view xs) (view x) none own))
                ∙ sym (ap (λ b. if b then 0 else position_or_len (same_text (view x)) (map view xs ++ view x ∷ []) + 1) other);
          })

-- ---- numbers

-- a number stays when more names come
pub has-more : (names more : List (List ℕ)) (text : List ℕ) (number : ℕ) → HasNumber names text number
    → HasNumber (names ++ more) text number
has-more names more text number has = by (same_text text wildcard) refl
  where
    by : (wild : Bool) → same_text text wildcard ≡ wild → HasNumber (names ++ more) text number
    by true e = record {
      known = ap (λ b. b || list_any (same_text text) (names ++ more)) e;
      is =
          has.is
          ∙ ap (λ b. if b then 0 else position_or_len (same_text text) names + 1) e
          ∙ sym (ap (λ b. if b then 0 else position_or_len (same_text text) (names ++ more) + 1) e);
    }
    by false e =
        let there : list_any (same_text text) names ≡ true = sym (ap (λ b. b || list_any (same_text text) names) e) ∙ has.known in
        record {
          known =
              ap (λ b. b || list_any (same_text text) (names ++ more)) e
              ∙ list_any-append (same_text text) names more
              ∙ ap (λ b. b || list_any (same_text text) more) there;
          is =
              has.is
              ∙ ap (λ b. if b then 0 else position_or_len (same_text text) names + 1) e
              ∙ ap (λ n. n + 1) (sym (place-more (same_text text) names more there))
              ∙ sym (ap (λ b. if b then 0 else position_or_len (same_text text) (names ++ more) + 1) e);
        }

-- two texts whose places are the same are the same
same_place : (names : List (List ℕ)) (a b : List ℕ) → list_any (same_text a) names ≡ true
    → position_or_len (same_text a) names ≡ position_or_len (same_text b) names → list_any (same_text b) names ≡ true → a ≡ b
same_place [] a b known same other = absurd (true≢false (sym known))
same_place (name ∷ names) a b known same other = by (same_text a name) (same_text b name) (same_place names a b) refl refl
  where
    by : (p q : Bool)
        → (list_any (same_text a) names ≡ true → position_or_len (same_text a) names ≡ position_or_len (same_text b) names
        → list_any (same_text b) names ≡ true → a ≡ b)
        → same_text a name ≡ p → same_text b name ≡ q → a ≡ b
    by true true rest e f = same_text-≡ a name e ∙ sym (same_text-≡ b name f)
    by true false rest e f =
        let first : position_or_len (same_text a) (name ∷ names) ≡ 0 = λ i. cond (not (e i)) (1 + position_or_len (same_text a) names) 0 in
        let second : position_or_len (same_text b) (name ∷ names) ≡ 1 + position_or_len (same_text b) names =
        λ i. cond (not (f i)) (1 + position_or_len (same_text b) names) 0 in
        absurd (omega (arith, first, second, same))
    by false true rest e f =
        let first : position_or_len (same_text a) (name ∷ names) ≡ 1 + position_or_len (same_text a) names =
        λ i. cond (not (e i)) (1 + position_or_len (same_text a) names) 0 in
        let second : position_or_len (same_text b) (name ∷ names) ≡ 0 = λ i. cond (not (f i)) (1 + position_or_len (same_text b) names) 0 in
        absurd (omega (arith, first, second, same))
    by false false rest e f =
        let first : position_or_len (same_text a) (name ∷ names) ≡ 1 + position_or_len (same_text a) names =
        λ i. cond (not (e i)) (1 + position_or_len (same_text a) names) 0 in
        let second : position_or_len (same_text b) (name ∷ names) ≡ 1 + position_or_len (same_text b) names =
        λ i. cond (not (f i)) (1 + position_or_len (same_text b) names) 0 in
        rest
        (sym (ap (λ c. c || list_any (same_text a) names) e) ∙ known)
        (omega (arith, first, second, same))
        (sym (ap (λ c. c || list_any (same_text b) names) f) ∙ other)

-- numbers are equal exactly where the texts are
pub same_numbers : (names : List (List ℕ)) (a b : List ℕ) → list_any (same_text a) names ≡ true → list_any (same_text b) names ≡ true
    → eqb (position_or_len (same_text b) names + 1) (position_or_len (same_text a) names + 1) ≡ same_text a b
same_numbers names a b first second = by (same_text a b) refl
  where
    by : (same : Bool) → same_text a b ≡ same → eqb (position_or_len (same_text b) names + 1) (position_or_len (same_text a) names + 1) ≡ same
    by true e =
        let is : a ≡ b = same_text-≡ a b e in
        subst (λ text. eqb (position_or_len (same_text text) names + 1) (position_or_len (same_text a) names + 1) ≡ true) is
        (grind arith)
    by false e = other (eqb (position_or_len (same_text b) names + 1) (position_or_len (same_text a) names + 1)) refl
      where
        other : (equal : Bool) → eqb (position_or_len (same_text b) names + 1) (position_or_len (same_text a) names + 1) ≡ equal → equal ≡ false
        other false f = refl
        other true f =
            let places : position_or_len (same_text a) names ≡ position_or_len (same_text b) names = grind (arith, f) in
            absurd (true≢false (sym (≡-same_text a b (same_place names a b first places second)) ∙ e))
