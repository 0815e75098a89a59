use Rattle.run_endings.proofs.LastLine.{with_last}
use Rattle.run_endings.proofs.endings.Ending.write_last_line.Goals as goal

pub returns : goal.returns
returns g c = λ said before w. with_last said before _ _ c.args.self.now w c.try_last_line.ensures
