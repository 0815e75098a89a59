use Rattle.ctl_may.specs.Status.{status_of}
use Rattle.ctl_may.proofs.Allowing.{allows, zero_is_wanted}
use Rattle.ctl_may.proofs.asking.may.Goals as goal

pub returns-clause-status : goal.returns-clause-status
returns-clause-status g c = (c.answer_to-answer.result, c.answer_to-answer.ensures, c.tell.ensures)

pub returns-clause-allowed : goal.returns-clause-allowed
returns-clause-allowed g c = λ zero. (
  c.answer_to-answer.result,
  c.answer_to-answer.ensures,
  allows c.answer_to-answer.result
      (zero_is_wanted c.args.telling (status_of c.answer_to-answer.result) c.tell.result c.tell.ensures zero),
)
