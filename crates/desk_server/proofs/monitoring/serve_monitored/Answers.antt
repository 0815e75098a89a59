use Rattle.desk_server.proofs.Recordings.{stays_same}
use Rattle.desk_server.proofs.monitoring.serve_monitored.Goals as goal

pub returns-clause-same : goal.returns-clause-same
returns-clause-same g c =
    let served = c.serve_noting.ensures in
    stays_same served.judged c.args.recorder.now c.serve_noting.new.recorder served.records
