-- The policies at the places that pass a test, and those at the others.
use Rattle.std.proofs.Common.{◌≡◌, ◌≤◌, ◌<◌, ℕ, zero, suc, ◌+◌, Bool, true, false, not, if◌then◌else◌, eqb, List, [], ◌∷◌, ◌++◌, length, slice_get, Some, filter, refl, sym, ap, ◌∙◌, arith, append_assoc, length-append, drop, get_or, take, drop-cons, append-nil, true≢false}
use Rattle.std.specs.Option.{option_to_list}
use Rattle.std.proofs.lemmas.Option.{slice_get-get_or}
use Rattle.std.proofs.Math.Seq.{get_or-append_seam}
use Rattle.std.proofs.lemmas.List.{take_more, drop-drop}
use Rattle.std.proofs.lemmas.Grind.{flat_map-append}
use Rattle.lane_scan.specs.Rows.{numbers_from}
use Rattle.cynara_keys.specs.declared.keys.Policy.{Policy}
use Rattle.bucket_store.specs.parts.Rows.{at_places, besides, starts_with}

-- the element behind the front
behind : {X : Type 0} (front back : List X) (x : X) → slice_get (front ++ x ∷ back) (length front) ≡ Some x
behind front back x =
    slice_get-get_or (front ++ x ∷ back) (length front) x (omega (arith, length-append front (x ∷ back)))
    ∙ ap Some (get_or-append_seam front x back x)

module _ (test : Policy → Bool) where
  pub places-of_front : (front policies : List Policy)
      → at_places (front ++ policies) (numbers_from (length front) test policies) ≡ filter test policies
  places-of_front front [] = refl
  places-of_front front (policy ∷ policies) =
      let long : length (front ++ policy ∷ []) ≡ length front + 1 = omega (arith, length-append front (policy ∷ [])) in
      let is = append_assoc front (policy ∷ []) policies in
      by (test policy)
      (sym (λ i. at_places (is i) (numbers_from (long i) test policies)) ∙ places-of_front (front ++ policy ∷ []) policies)
    where
      by : (b : Bool) → at_places (front ++ policy ∷ policies) (numbers_from (length front + 1) test policies) ≡ filter test policies
          → at_places (front ++ policy ∷ policies)
          (if b then length front ∷ numbers_from (length front + 1) test policies else numbers_from (length front + 1) test policies)
          ≡ (if b then policy ∷ filter test policies else filter test policies)
      by true rest = λ i. option_to_list (behind front policies policy i) ++ rest i
      by false rest = rest

  -- the policies at the places that pass
  pub places-passing : (policies : List Policy) → at_places policies (numbers_from 0 test policies) ≡ filter test policies
  places-passing policies = places-of_front [] policies

  -- ---- the others

  abbrev IsAbove : ℕ → List ℕ → Type 0
  IsAbove bound [] = Unit {0}
  IsAbove bound (number ∷ numbers) = bound < number

  numbers-above : (bound first : ℕ) → bound < first → (policies : List Policy) → IsAbove bound (numbers_from first test policies)
  numbers-above bound first above [] = tt
  numbers-above bound first above (policy ∷ policies) =
      by (test policy) (numbers-above bound (first + 1) (omega arith) policies)
    where
      by : (b : Bool) → IsAbove bound (numbers_from (first + 1) test policies)
          → IsAbove bound (if b then first ∷ numbers_from (first + 1) test policies else numbers_from (first + 1) test policies)
      by true rest = above
      by false rest = rest

  besides-above : (first : ℕ) (places : List ℕ) (policy : Policy) (policies : List Policy) → IsAbove first places
      → besides first places (policy ∷ policies) ≡ policy ∷ besides (first + 1) places policies
  besides-above first [] policy policies above = refl
  besides-above first (place ∷ places) policy policies above =
      ap (λ b. if b then besides (first + 1) places policies else policy ∷ besides (first + 1) (place ∷ places) policies)
      (let other : eqb place first ≡ false = grind (arith, above) in other)

  besides-from : (first : ℕ) (policies : List Policy)
      → besides first (numbers_from first test policies) policies ≡ filter (λ policy. not (test policy)) policies
  besides-from first [] = refl
  besides-from first (policy ∷ policies) = by (test policy) (besides-from (first + 1) policies)
    where
      by : (b : Bool)
          → besides (first + 1) (numbers_from (first + 1) test policies) policies ≡ filter (λ p. not (test p)) policies
          → besides first (if b then first ∷ numbers_from (first + 1) test policies else numbers_from (first + 1) test policies)
          (policy ∷ policies)
          ≡ (if not b then policy ∷ filter (λ p. not (test p)) policies else filter (λ p. not (test p)) policies)
      by true rest =
          ap (λ b. if b then besides (first + 1) (numbers_from (first + 1) test policies) policies
          else policy ∷ besides (first + 1) (first ∷ numbers_from (first + 1) test policies) policies)
          (let own : eqb first first ≡ true = grind arith in own)
          ∙ rest
      by false rest =
          besides-above first (numbers_from (first + 1) test policies) policy policies
          (numbers-above first (first + 1) (omega arith) policies)
          ∙ ap (λ l. policy ∷ l) rest

  -- the policies at the places that do not pass
  pub besides-passing : (policies : List Policy)
      → besides 0 (numbers_from 0 test policies) policies ≡ filter (λ policy. not (test policy)) policies
  besides-passing policies = besides-from 0 policies

-- ---- one step of a copy

pub besides-other : (at : ℕ) (places : List ℕ) (policy : Policy) (policies : List Policy) → starts_with at places ≡ false
    → besides at places (policy ∷ policies) ≡ policy ∷ besides (at + 1) places policies
besides-other at [] policy policies other = refl
besides-other at (place ∷ places) policy policies other =
    ap (λ b. if b then besides (at + 1) places policies else policy ∷ besides (at + 1) (place ∷ places) policies) other

pub besides-next : (at : ℕ) (places : List ℕ) (policy : Policy) (policies : List Policy) → starts_with at places ≡ true
    → besides at places (policy ∷ policies) ≡ besides (at + 1) (drop 1 places) policies
besides-next at [] policy policies own = cc
besides-next at (place ∷ places) policy policies own =
    ap (λ b. if b then besides (at + 1) places policies else policy ∷ besides (at + 1) (place ∷ places) policies) own

-- what was copied, and then the policies besides that are left, are those of the whole
pub record IsJoined (policies : List Policy) (places : List ℕ) (next at : ℕ) (copied : List Policy) : Type 0 where
  pub within : next ≤ length places
  pub joins : copied ++ besides at (drop next places) (drop at policies) ≡ besides 0 places policies

within_next : (at next : ℕ) (places : List ℕ) → starts_with at (drop next places) ≡ true → next + 1 ≤ length places
within_next at zero [] own = absurd (true≢false (sym own))
within_next at zero (place ∷ places) own = omega arith
within_next at (suc next) [] own = absurd (true≢false (sym own))
within_next at (suc next) (place ∷ places) own = omega (arith, within_next at next places own)

module _ {policies : List Policy} {places : List ℕ} {next at : ℕ} {copied : List Policy}
    (joined : IsJoined policies places next at copied) (policy : Policy) (within : at < length policies)
    (is : policy ≡ get_or policies at policy) where
  first_left : drop at policies ≡ policy ∷ drop (at + 1) policies
  first_left =
      drop-cons policies at policy within
      ∙ ap (λ p. p ∷ drop (suc at) policies) (sym is)
      ∙ ap (λ n. policy ∷ drop n policies) (let e : suc at ≡ at + 1 = omega arith in e)

  pub joined-next : starts_with at (drop next places) ≡ true → IsJoined policies places (next + 1) (at + 1) copied
  joined-next own = record {
    within = within_next at next places own;
    joins =
        ap (λ l. copied ++ l)
        (ap (λ l. besides (at + 1) l (drop (at + 1) policies)) (sym (drop-drop 1 next places))
        ∙ sym (besides-next at (drop next places) policy (drop (at + 1) policies) own)
        ∙ ap (besides at (drop next places)) (sym first_left))
        ∙ joined.joins;
  }

  pub joined-other : starts_with at (drop next places) ≡ false → IsJoined policies places next (at + 1) (copied ++ policy ∷ [])
  joined-other other = record {
    within = joined.within;
    joins =
        append_assoc copied (policy ∷ []) (besides (at + 1) (drop next places) (drop (at + 1) policies))
        ∙ ap (λ l. copied ++ l)
        (sym (besides-other at (drop next places) policy (drop (at + 1) policies) other)
        ∙ ap (besides at (drop next places)) (sym first_left))
        ∙ joined.joins;
  }

-- one place more
pub places-more : (policies : List Policy) (places : List ℕ) (n : ℕ) → n < length places
    → at_places policies (take (n + 1) places)
    ≡ at_places policies (take n places) ++ option_to_list (slice_get policies (get_or places n 0))
places-more policies places n within =
    let one = λ (place : ℕ). option_to_list (slice_get policies place) in
    ap (at_places policies) (take_more places n 0 within)
    ∙ flat_map-append one (take n places) (get_or places n 0 ∷ [])
    ∙ ap (λ l. at_places policies (take n places) ++ l) (append-nil (one (get_or places n 0)))
