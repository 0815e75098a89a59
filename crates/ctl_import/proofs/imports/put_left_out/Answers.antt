use Rattle.ctl_import.proofs.Telling.{told}
use Rattle.ctl_import.proofs.imports.put_left_out.Goals as goal

pub returns : goal.returns
returns c =
    told c.append.result c.as_slice.result.now c.args.out.now c.put.new.out c.append.new.self
    c.in_ok-put.ensures c.append.ensures.ok
