use Rattle.sample_runs.specs.parts.Following.{stand_of}
use Rattle.sample_runs.proofs.Telling.{prepare-unopened, prepare-uninstalled, prepare-undenied, prepares}
use Rattle.sample_runs.proofs.samples.Sample.prepared.Goals as goal

pub returns-in-Err-open-clause-err : goal.returns-in-Err-open-clause-err
returns-in-Err-open-clause-err c =
    prepare-unopened c.args.count (stand_of c.in-Ok.sample) c.in-Ok.ensures
    (stand_of c.open.new.self) c.in-Err-open.ending
    c.in-Err-open.ensures

pub returns-in-Err-install_all-clause-err : goal.returns-in-Err-install_all-clause-err
returns-in-Err-install_all-clause-err c =
    prepare-uninstalled c.args.count (stand_of c.in-Ok.sample) c.in-Ok.ensures
    (stand_of c.open.new.self) c.in-Ok-open.ensures
    (stand_of c.install_all.new.self) c.in-Err-install_all.ending c.in-Err-install_all.ensures

pub returns-in-Err-deny_all-clause-err : goal.returns-in-Err-deny_all-clause-err
returns-in-Err-deny_all-clause-err c =
    prepare-undenied c.args.count (stand_of c.in-Ok.sample) c.in-Ok.ensures
    (stand_of c.open.new.self) c.in-Ok-open.ensures
    (stand_of c.install_all.new.self) c.in-Ok-install_all.ensures
    (stand_of c.deny_all.new.self) c.in-Err-deny_all.ending
    c.in-Err-deny_all.ensures

pub returns-in-Ok-deny_all-clause-ok : goal.returns-in-Ok-deny_all-clause-ok
returns-in-Ok-deny_all-clause-ok c =
    prepares c.args.count (stand_of c.in-Ok.sample) c.in-Ok.ensures (stand_of c.open.new.self) c.in-Ok-open.ensures
    (stand_of c.install_all.new.self) c.in-Ok-install_all.ensures
    (stand_of c.deny_all.new.self) c.in-Ok-deny_all.ensures
