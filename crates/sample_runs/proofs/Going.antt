-- Lines gone through one after another.
use Rattle.std.proofs.Common.{◌≡◌, ◌<◌, ◌+◌, ◌-◌, suc, ℕ, List, [], ◌∷◌, ◌++◌, Option, Some, None, Result, Ok, Err}
use Rattle.std.proofs.Common.{option_and_then, refl, sym, ap, ◌∙◌, subst, arith, append_assoc, append-nil}
use Rattle.run_endings.specs.declared.endings.Ending.{Ending}
use Rattle.run_endings.specs.declared.endings.Ending.TheVariants.{Memory, Line}
use Rattle.sample_runs.specs.Lines.{install_line, denial, checks_of, installs, denials, checks}
use Rattle.sample_runs.specs.Sample.{each_line}
use Rattle.sample_runs.specs.parts.Following.{StopsAt, Goes}

-- what is behind a stop is not reached
pub stops-then : {A B : Type 0} (f : A → Option B) (next : Option A) (ending : Ending) → StopsAt next ending
    → StopsAt (option_and_then f next) ending
stops-then f next Memory stops = tt
stops-then f next (Line number) stops = ap (option_and_then f) stops
stops-then f next ending stops = absurd stops

module _ {S : Type 0} (step : List ℕ → S → Option S) where
  -- more lines behind lines
  pub goes-on : (first second : List (List ℕ)) (a b c : S) (result : Result (Unit {0}) Ending)
      → Goes step first a b (Ok tt)
      → Goes step second b c result → Goes step (first ++ second) a c result
  goes-on first second a b c (Ok value) one two =
      λ (rest : List (List ℕ)). ap (λ (lines : List (List ℕ)). each_line step lines a) (append_assoc first second rest)
      ∙ (one (second ++ rest) ∙ two rest)
  goes-on first second a b c (Err ending) one two =
      λ (rest : List (List ℕ)). subst (λ (next : Option S). StopsAt next ending)
      (sym (ap (λ (lines : List (List ℕ)). each_line step lines a) (append_assoc first second rest) ∙ one (second ++ rest))) (two rest)

  -- a stop in the first of them
  pub stops-on : (first second : List (List ℕ)) (a b c : S) (ending : Ending) → Goes step first a b (Err ending)
      → Goes step (first ++ second) a c (Err ending)
  stops-on first second a b c ending one rest =
      subst (λ (lines : List (List ℕ)). StopsAt (each_line step lines a) ending) (sym (append_assoc first second rest))
      (one (second ++ rest))

  -- ---- a loop: what is left of the lines, from an application on

  -- all lines come to what is left of them
  abbrev pub GoesTo : (ℕ → ℕ → List (List ℕ)) → S → ℕ → ℕ → S → Type 0
  GoesTo lines first count app now = (rest : List (List ℕ)) → each_line step (lines 0 count ++ rest) first
      ≡ each_line step (lines app (count - app) ++ rest) now

  pub goes-start : (lines : ℕ → ℕ → List (List ℕ)) (first : S) (count : ℕ) → GoesTo lines first count 0 first
  goes-start lines first count rest =
      let is : count ≡ count - 0 = omega arith in ap (λ left. each_line step (lines 0 left ++ rest) first) is

  module _ (lines : ℕ → ℕ → List (List ℕ)) (of : ℕ → List (List ℕ)) (first : S) (count : ℕ)
      (none : (app : ℕ) → lines app 0 ≡ []) (more : (app left : ℕ) → lines app (suc left) ≡ of app ++ lines (app + 1) left) where
    turn : (app : ℕ) → app < count → lines app (count - app) ≡ of app ++ lines (app + 1) (count - (app + 1))
    turn app less =
        let is : count - app ≡ suc (count - (app + 1)) = omega (arith, less) in
        ap (lines app) is ∙ more app (count - (app + 1))

    unfolds : (app : ℕ) (now : S) → app < count → GoesTo lines first count app now → (rest : List (List ℕ))
        → each_line step (lines 0 count ++ rest) first
        ≡ each_line step (of app ++ (lines (app + 1) (count - (app + 1)) ++ rest)) now
    unfolds app now less goes rest =
        goes rest
        ∙ (ap (λ (lines : List (List ℕ)). each_line step (lines ++ rest) now) (turn app less)
        ∙ ap (λ (lines : List (List ℕ)). each_line step lines now)
        (append_assoc (of app) (lines (app + 1) (count - (app + 1))) rest))

    pub goes-turn : (app : ℕ) (now after : S) → app < count → GoesTo lines first count app now
        → Goes step (of app) now after (Ok tt)
        → GoesTo lines first count (app + 1) after
    goes-turn app now after less goes one rest =
        unfolds app now less goes rest ∙ one (lines (app + 1) (count - (app + 1)) ++ rest)

    pub stops-turn : (app : ℕ) (now after : S) (ending : Ending) → app < count → GoesTo lines first count app now
        → Goes step (of app) now after (Err ending) → Goes step (lines 0 count) first after (Err ending)
    stops-turn app now after ending less goes one rest =
        subst (λ (next : Option S). StopsAt next ending) (sym (unfolds app now less goes rest))
        (one (lines (app + 1) (count - (app + 1)) ++ rest))

    pub goes-all : (app : ℕ) (now : S) → count - app ≡ 0 → GoesTo lines first count app now
        → Goes step (lines 0 count) first now (Ok tt)
    goes-all app now done goes rest =
        goes rest ∙ ap (λ (lines : List (List ℕ)). each_line step (lines ++ rest) now) (ap (lines app) done ∙ none app)
