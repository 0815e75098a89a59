use Rattle.client_runs.proofs.check_runs.run_check.Goals as goal

pub returns-clause-completes : goal.returns-clause-completes
returns-clause-completes g c = c.run.ensures.completes
