-- A run of `sample` that no failing call stops.
use Rattle.std.proofs.Common.{◌≡◌, ◌⊎◌, inl, inr, ℕ, Option, Some, None, refl, sym, ap, ◌∙◌}
use Rattle.run_endings.specs.Ending.{IsUnfailed}
use Rattle.run_endings.specs.Saying.{Said}
use Rattle.run_endings.specs.declared.endings.Ending.{Ending}
use Rattle.run_endings.specs.declared.endings.Ending.TheVariants.{Done, Memory, Line, Sink}
use Rattle.sample_runs.specs.Sample.{Outcome, outcome, sample_text}
use Rattle.sample_runs.specs.SampleRun.{RunsSample}

-- one found outcome is the other
abbrev found_in : Outcome → Option Outcome → Outcome
found_in other None = other
found_in other (Some found) = found

clash : (found : Outcome) → Some found ≡ None → ⊥
clash found is = cc

module _ (count : ℕ) (said : Said) (found : Outcome) (comes_to : outcome count ≡ Some found) where
  pub completes-sample : (ending : Ending) → IsUnfailed ending → RunsSample count said ending
      → ((ending ≡ Done) × (said.due ≡ sample_text count found)) ⊎ (ending ≡ Memory)
  completes-sample Done unfailed run =
      inl (
        refl,
        run.told ∙ ap (λ (next : Option Outcome). sample_text count (found_in found next))
            (sym run.comes_to ∙ comes_to),
      )
  completes-sample Memory unfailed run = inr refl
  completes-sample (Line number) unfailed run = absurd (clash found (sym comes_to ∙ run.0))
  completes-sample Sink unfailed run = absurd unfailed
  completes-sample ending unfailed run = absurd run
