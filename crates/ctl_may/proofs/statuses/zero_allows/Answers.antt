use Rattle.ctl_may.proofs.Allowing.{allows}
use Rattle.ctl_may.proofs.statuses.zero_allows.Goals as goal

pub returns : goal.returns
returns c = allows
