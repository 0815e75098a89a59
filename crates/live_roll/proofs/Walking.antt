-- Places that are gone through one after the other.
use Rattle.std.proofs.Common.{◌≡◌, ◌<◌, ◌+◌, ℕ, Bool, List, [], ◌∷◌, set, zero, suc, length, Option, refl, sym, subst, arith, get_or}
use Rattle.live_roll.specs.declared.entries.Entry.{Entry}
use Rattle.live_roll.specs.Places.{IsHungUp, IsHungUpIf, AreHungUp, AreHungBelow, is_below}

module _ {P : Type 0} (R : P → P → Type 0) where
  -- the first so many are what a step makes of them, and the others are as they were
  abbrev pub Done : ℕ → List P → List P → Type 0
  Done zero old now = now ≡ old
  Done (suc count) [] now = now ≡ []
  Done (suc count) (place ∷ places) [] = ⊥
  Done (suc count) (place ∷ places) (now ∷ more) = R place now × Done count places more

  done_first : (places : List P) (q d : P) → zero < length places → R (get_or places zero d) q
      → Done (suc zero) places (set places zero q)
  done_first [] q d there step = absurd (omega (arith, there))
  done_first (place ∷ places) q d there step = (step, refl)

  done_more : (count : ℕ) (old now : List P) (q d : P) → count < length old → Done count old now
      → R (get_or now count d) q → Done (suc count) old (set now count q)
  done_more zero old now q d there done step =
      subst (λ (now : List P). R (get_or now zero d) q → Done (suc zero) old (set now zero q)) (sym done)
      (λ step. done_first old q d there step) step
  done_more (suc count) [] now q d there done step = absurd (omega (arith, there))
  done_more (suc count) (place ∷ places) [] q d there done step = absurd done
  done_more (suc count) (place ∷ places) (now ∷ more) q d there done step =
      (done.0, done_more count places more q d (omega (arith, there)) done.1 step)

  pub done_next : (count : ℕ) (old now : List P) (q d : P) → count < length old → Done count old now
      → R (get_or now count d) q → Done (count + 1) old (set now count q)
  done_next count old now q d there done step =
      let next : suc count ≡ count + 1 = omega (arith) in
      subst (λ n. Done n old (set now count q)) next (done_more count old now q d there done step)

module _ {H : Type 0} (used : H → Bool) where
  pub all_hung : (places now : List (Option (Entry H))) → Done (IsHungUp used) (length places) places now
      → AreHungUp used places now
  all_hung [] now done = done
  all_hung (place ∷ places) [] done = done
  all_hung (place ∷ places) (now ∷ more) done = (done.0, all_hung places more done.1)

  pub all_hung_below : (low : ℕ) (places now : List (Option (Entry H)))
      → Done (λ place now. IsHungUpIf used (is_below low place) place now) (length places) places now
      → AreHungBelow used low places now
  all_hung_below low [] now done = done
  all_hung_below low (place ∷ places) [] done = done
  all_hung_below low (place ∷ places) (now ∷ more) done = (done.0, all_hung_below low places more done.1)
