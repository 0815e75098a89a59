use Rattle.std.proofs.Common.{subst}
use Rattle.access_runs.specs.parts.Access.{IsWrongAt}
use Rattle.access_runs.proofs.Accessing.{IsWrongInput-text}
use Rattle.access_runs.proofs.access_runs.read_rules.Goals as goal

pub returns-in-Err-clause-read : goal.returns-in-Err-clause-read
returns-in-Err-clause-read g c =
    IsWrongInput-text _ _ c.in_ok-text.text c.in_ok-text.ensures.read c.in-Err.number
    (subst (λ text. IsWrongAt text c.in-Err.number) c.as_slice.ensures c.in-Err.ensures)
