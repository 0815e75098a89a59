-- The numbers of names, while names are added.
use Rattle.std.proofs.Common.{◌≡◌, ℕ, ◌+◌, ◌<◌, ◌≤◌, Bool, true, false, not, ◌||◌, cond, suc, List, [], ◌∷◌, ◌++◌, length, map}
use Rattle.std.proofs.Common.{nat_lt, Option, None, Some, option_and_then, refl, sym, ap, ◌∙◌, subst, arith, length-append}
use Rattle.std.specs.List.{AllZip, list_any, position, position_or_len}
use Rattle.std.proofs.lemmas.Bool.{false≢true, le-ltb, lt-ltb, ltb-false, ltb-true}
use Rattle.std.proofs.lemmas.List.{append_assoc, length-map, map-append}
use Rattle.std.proofs.lemmas.List.Folds.{list_any-append}
use Rattle.std.proofs.lemmas.Option.{same_Some}
use Rattle.cynara_keys.specs.Text.{same_text}
use Rattle.cynara_keys.proofs.Order.{≡-same_text}
use Rattle.bucket_eval.specs.parts.Numbers.{KeepsNumbers, if_small, number_of}
use Rattle.bucket_eval.proofs.Tabling.{position-map}

record Place (found : Option ℕ) : Type 0 where
  place : ℕ
  there : found ≡ Some place

place-of : (found : Option ℕ) (number : ℕ) → option_and_then if_small found ≡ Some number → Place found
place-of None number is = cc
place-of (Some place) number is = record { place = place; there = refl }

module _ {X : Type 0} (p : X → Bool) where
  past : (xs : List X) → length xs ≤ position_or_len p xs → list_any p xs ≡ false
  past [] le = refl
  past (x ∷ xs) le = by-case (p x) le (past xs)
    where
      by-case : (b : Bool) → suc (length xs) ≤ cond (not b) (1 + position_or_len p xs) 0
          → (length xs ≤ position_or_len p xs → list_any p xs ≡ false) → (b || list_any p xs) ≡ false
      by-case true less rest = absurd (omega (arith, less))
      by-case false less rest = rest (omega (arith, less))

  -- where there is no first, none passes
  pub none-passes : (xs : List X) → position p xs ≡ None → list_any p xs ≡ false
  none-passes xs none = by-case (nat_lt (position_or_len p xs) (length xs)) refl none
    where
      by-case : (less : Bool) → nat_lt (position_or_len p xs) (length xs) ≡ less
          → cond less (Some (position_or_len p xs)) None ≡ None → list_any p xs ≡ false
      by-case true lt some = cc
      by-case false lt some = past xs (ltb-false _ _ lt)

  record Placed (xs : List X) (k : ℕ) : Type 0 where
    is : position_or_len p xs ≡ k
    within : position_or_len p xs < length xs

  placed-of : (xs : List X) (k : ℕ) → position p xs ≡ Some k → Placed xs k
  placed-of xs k is = by-case (nat_lt (position_or_len p xs) (length xs)) refl is
    where
      by-case : (less : Bool) → nat_lt (position_or_len p xs) (length xs) ≡ less
          → cond less (Some (position_or_len p xs)) None ≡ Some k → Placed xs k
      by-case true lt some = record { is = same_Some _ _ some; within = ltb-true _ _ lt }
      by-case false lt some = cc

  first-kept : (xs ys : List X) → position_or_len p xs < length xs
      → position_or_len p (xs ++ ys) ≡ position_or_len p xs
  first-kept [] ys within = absurd (omega arith)
  first-kept (x ∷ xs) ys within = by-case (p x) within (first-kept xs ys)
    where
      by-case : (passes : Bool) → cond (not passes) (1 + position_or_len p xs) 0 < suc (length xs)
          → (position_or_len p xs < length xs → position_or_len p (xs ++ ys) ≡ position_or_len p xs)
          → cond (not passes) (1 + position_or_len p (xs ++ ys)) 0 ≡ cond (not passes) (1 + position_or_len p xs) 0
      by-case true less rest = refl
      by-case false less rest = ap (λ n. 1 + n) (rest (omega (arith, less)))

  -- where it is in front, it is there in both lists
  pub position-kept : (xs ys : List X) (k : ℕ) → position p xs ≡ Some k → position p (xs ++ ys) ≡ Some k
  position-kept xs ys k is =
      let placed = placed-of xs k is in
      let same : position_or_len p (xs ++ ys) ≡ k = first-kept xs ys placed.within ∙ placed.is in
      let within = placed.within in
      let own = placed.is in
      ap (λ n. cond (nat_lt n (length (xs ++ ys))) (Some n) None) same
      ∙ ap (λ b. cond b (Some k) None)
      (lt-ltb k (length (xs ++ ys)) (omega (arith, within, own, length-append xs ys)))

  first-behind : (xs ys : List X) → list_any p xs ≡ false
      → position_or_len p (xs ++ ys) ≡ length xs + position_or_len p ys
  first-behind [] ys none = omega arith
  first-behind (x ∷ xs) ys none = by-case (p x) none (first-behind xs ys)
    where
      by-case : (b : Bool) → (b || list_any p xs) ≡ false
          → (list_any p xs ≡ false → position_or_len p (xs ++ ys) ≡ length xs + position_or_len p ys)
          → cond (not b) (1 + position_or_len p (xs ++ ys)) 0 ≡ suc (length xs) + position_or_len p ys
      by-case true any rest = absurd (false≢true (sym any))
      by-case false any rest = let same = rest any in omega (arith, same)

  -- where it is not in front, it is behind
  pub position-behind : (xs ys : List X) (k : ℕ) → position p xs ≡ None → position p ys ≡ Some k
      → position p (xs ++ ys) ≡ Some (length xs + k)
  position-behind xs ys k none is =
      let placed = placed-of ys k is in
      let same : position_or_len p (xs ++ ys) ≡ length xs + k =
      first-behind xs ys (none-passes xs none) ∙ ap (λ n. length xs + n) placed.is in
      let within = placed.within in
      let own = placed.is in
      ap (λ n. cond (nat_lt n (length (xs ++ ys))) (Some n) None) same
      ∙ ap (λ b. cond b (Some (length xs + k)) None)
      (lt-ltb (length xs + k) (length (xs ++ ys)) (omega (arith, within, own, length-append xs ys)))

  none-last : (xs : List X) → list_any p xs ≡ false → position_or_len p xs ≡ length xs
  none-last [] none = refl
  none-last (x ∷ xs) none = by-case (p x) none (none-last xs)
    where
      by-case : (b : Bool) → (b || list_any p xs) ≡ false
          → (list_any p xs ≡ false → position_or_len p xs ≡ length xs)
          → cond (not b) (1 + position_or_len p xs) 0 ≡ suc (length xs)
      by-case true any rest = absurd (false≢true (sym any))
      by-case false any rest = let same = rest any in omega (arith, same)

  position-no : (xs : List X) → list_any p xs ≡ false → position p xs ≡ None
  position-no xs none =
      ap (λ n. cond (nat_lt n (length xs)) (Some n) None) (none-last xs none)
      ∙ ap (λ b. cond b (Some (length xs)) None) (le-ltb (length xs) (length xs) (omega arith))

  -- where it is in neither list, it is in none
  pub position-neither : (xs ys : List X) → position p xs ≡ None → position p ys ≡ None → position p (xs ++ ys) ≡ None
  position-neither xs ys front behind =
      position-no (xs ++ ys)
      (list_any-append p xs ys ∙ λ i. none-passes xs front i || none-passes ys behind i)

  or-second : (a b : Bool) → (a || b) ≡ false → b ≡ false
  or-second true b is = absurd (false≢true (sym is))
  or-second false b is = is

  pub position-not-behind : (xs ys : List X) → position p (xs ++ ys) ≡ None → position p ys ≡ None
  position-not-behind xs ys none =
      position-no ys
      (or-second (list_any p xs) (list_any p ys) (sym (list_any-append p xs ys) ∙ none-passes (xs ++ ys) none))

  last-first : (xs : List X) (y : X) → list_any p xs ≡ false → p y ≡ true → position_or_len p (xs ++ y ∷ []) ≡ length xs
  last-first [] y none passes = ap (λ b. cond (not b) 1 0) passes
  last-first (x ∷ xs) y none passes = by-case (p x) none (last-first xs y)
    where
      by-case : (b : Bool) → (b || list_any p xs) ≡ false
          → (list_any p xs ≡ false → p y ≡ true → position_or_len p (xs ++ y ∷ []) ≡ length xs)
          → cond (not b) (1 + position_or_len p (xs ++ y ∷ [])) 0 ≡ suc (length xs)
      by-case true any rest = absurd (false≢true (sym any))
      by-case false any rest = let same = rest any passes in omega (arith, same)

  pub position-last : (xs : List X) (y : X) → list_any p xs ≡ false → p y ≡ true
      → position p (xs ++ y ∷ []) ≡ Some (length xs)
  position-last xs y none passes =
      ap (λ n. cond (nat_lt n (length (xs ++ y ∷ []))) (Some n) None) (last-first xs y none passes)
      ∙ ap (λ b. cond b (Some (length xs)) None)
      (lt-ltb (length xs) (length (xs ++ y ∷ [])) (omega (arith, length-append xs (y ∷ []))))

-- ---- one name more

module _ {X : Type 0} (f : X → List ℕ) (xs : List X) (x : X) where
  pub numbers-kept : KeepsNumbers (map f xs) (map f (xs ++ x ∷ []))
  numbers-kept = λ text number is.
      let found = place-of (position (same_text text) (map f xs)) number is in
      ap (λ names. option_and_then if_small (position (same_text text) names)) (map-append f xs (x ∷ []))
      ∙ ap (option_and_then if_small)
      (position-kept (same_text text) (map f xs) (f x ∷ []) found.place found.there ∙ sym found.there) ∙ is

  pub number-last : (text : List ℕ) → f x ≡ text → None ≡ position (λ y. same_text text (f y)) xs
      → if_small (length xs) ≡ number_of (map f (xs ++ x ∷ [])) text
  number-last text is none =
      sym (ap (λ names. option_and_then if_small (position (same_text text) names)) (map-append f xs (x ∷ []))
      ∙ ap (option_and_then if_small)
      (position-last (same_text text) (map f xs) (f x)
      (none-passes (same_text text) (map f xs) (position-map f (same_text text) xs ∙ sym none))
      (≡-same_text text (f x) (sym is)))
      ∙ ap if_small (length-map xs f))

-- the place of a name in a list that is another one's
pub place-in : {X : Type 0} (f : X → List ℕ) (text : List ℕ) (xs ys : List X) (place : Option ℕ)
    → place ≡ position (λ x. same_text text (f x)) xs → xs ≡ ys → place ≡ position (λ x. same_text text (f x)) ys
place-in f text xs ys place is same = is ∙ ap (λ list. position (λ x. same_text text (f x)) list) same

-- a name in front, behind, or in neither list
module _ {X : Type 0} (f : X → List ℕ) (xs ys : List X) (text : List ℕ) where
  in-lists : position (same_text text) (map f (xs ++ ys)) ≡ position (λ x. same_text text (f x)) (xs ++ ys)
  in-lists = position-map f (same_text text) (xs ++ ys)

  pub place-front : (k : ℕ) → Some k ≡ position (λ x. same_text text (f x)) xs
      → Some k ≡ position (same_text text) (map f (xs ++ ys))
  place-front k is = sym (in-lists ∙ position-kept (λ x. same_text text (f x)) xs ys k (sym is))

  pub place-behind : (k : ℕ) → None ≡ position (λ x. same_text text (f x)) xs
      → Some k ≡ position (λ x. same_text text (f x)) ys
      → Some (length xs + k) ≡ position (same_text text) (map f (xs ++ ys))
  place-behind k none is =
      sym (in-lists ∙ position-behind (λ x. same_text text (f x)) xs ys k (sym none) (sym is))

  pub place-neither : None ≡ position (λ x. same_text text (f x)) xs → None ≡ position (λ x. same_text text (f x)) ys
      → None ≡ position (same_text text) (map f (xs ++ ys))
  place-neither front behind =
      sym (in-lists ∙ position-neither (λ x. same_text text (f x)) xs ys (sym front) (sym behind))

  pub not-there : None ≡ position (same_text text) (map f (xs ++ ys)) → None ≡ position (λ x. same_text text (f x)) (xs ++ ys)
  not-there none = none ∙ in-lists

  pub not-behind : None ≡ position (same_text text) (map f (xs ++ ys)) → None ≡ position (λ x. same_text text (f x)) ys
  not-behind none = sym (position-not-behind (λ x. same_text text (f x)) xs ys (sym (not-there none)))

-- a name that was in neither list is added behind
module _ {X : Type 0} (f : X → List ℕ) (xs ys zs : List X) (x : X) (more : zs ≡ ys ++ x ∷ []) where
  behind-all : (xs ++ ys) ++ x ∷ [] ≡ xs ++ zs
  behind-all = append_assoc xs ys (x ∷ []) ∙ ap (λ (l : List X). xs ++ l) (sym more)

  pub number-behind : (text : List ℕ) (number : ℕ) → number ≡ length xs + length ys → f x ≡ text
      → None ≡ position (same_text text) (map f (xs ++ ys)) → if_small number ≡ number_of (map f (xs ++ zs)) text
  number-behind text number is own none =
      ap if_small (is ∙ sym (length-append xs ys))
      ∙ number-last f (xs ++ ys) x text own (not-there f xs ys text none)
      ∙ ap (λ (l : List X). number_of (map f l) text) behind-all

  pub kept-behind : KeepsNumbers (map f (xs ++ ys)) (map f (xs ++ zs))
  kept-behind =
      subst (λ (l : List X). KeepsNumbers (map f (xs ++ ys)) (map f l)) behind-all (numbers-kept f (xs ++ ys) x)

-- a list to which an element was added that was not there
module _ {X : Type 0} (f : X → List ℕ) (eq : X → X → Bool) (alike : (x y : X) → eq x y ≡ same_text (f x) (f y)) where
  any-alike : (xs : List X) (x : X) → list_any (eq x) xs ≡ list_any (λ y. same_text (f x) (f y)) xs
  any-alike [] x = refl
  any-alike (y ∷ xs) x = λ i. alike x y i || any-alike xs x i

  pub appended : (xs ys : List X) (x : X) (text : List ℕ) → f x ≡ text
      → None ≡ position (λ y. same_text text (f y)) xs → ys ≡ cond (list_any (eq x) xs) xs (xs ++ x ∷ [])
      → ys ≡ xs ++ x ∷ []
  appended xs ys x text own none is =
      is ∙ ap (λ b. cond b xs (xs ++ x ∷ []))
      (any-alike xs x
      ∙ none-passes (λ y. same_text (f x) (f y)) xs
      (ap (λ t. position (λ y. same_text t (f y)) xs) own ∙ sym none))

-- ---- clones

bytes-cloned : (xs ys : List ℕ) → AllZip (λ (x y : ℕ). y ≡ x) xs ys → xs ≡ ys
bytes-cloned [] [] are = refl
bytes-cloned [] (y ∷ ys) are = absurd are
bytes-cloned (x ∷ xs) [] are = absurd are
bytes-cloned (x ∷ xs) (y ∷ ys) are = let rest = bytes-cloned xs ys are.1 in λ i. sym are.0 i ∷ rest i

-- the texts of clones are the texts
pub texts-cloned : {X : Type 0} (f : X → List ℕ) (P : X → X → Type 0) (xs ys : List X)
    → AllZip (λ (x y : X). AllZip (λ (b c : ℕ). c ≡ b) (f x) (f y) × P x y) xs ys → map f xs ≡ map f ys
texts-cloned f P [] [] are = refl
texts-cloned f P [] (y ∷ ys) are = absurd are
texts-cloned f P (x ∷ xs) [] are = absurd are
texts-cloned f P (x ∷ xs) (y ∷ ys) are =
    let first = bytes-cloned (f x) (f y) are.0.0 in
    let rest = texts-cloned f P xs ys are.1 in
    λ i. first i ∷ rest i
