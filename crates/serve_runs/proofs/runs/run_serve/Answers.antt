use Rattle.std.proofs.Common.{◌∙◌, List, None, refl, sym, subst}
use Rattle.live_desk.specs.Seat.{SeatState, new_seats}
use Rattle.desk_server.specs.Clients.{VisitsClients}
use Rattle.run_endings.specs.Outside.{disk_seen}
use Rattle.serve_runs.specs.Run.{RunsServe}
use Rattle.serve_runs.proofs.Folder.{refuses-early}
use Rattle.serve_runs.proofs.Pooling.{seats_are, plain_states}
use Rattle.serve_runs.proofs.runs.run_serve.Goals as goal

pub returns-in_default : goal.returns-in_default
returns-in_default g c = (
  None,
  RunsServe.refused refl
      (refuses-early g.D.Disk.state g.D.Disk.moment g.D.Disk.left_since g.D.Disk.faults c.args.disk.now
      (g.met.D.Disk.only_now c.args.disk.now))
      refl refl refl,
)

-- beside its seat a worker hands nothing on
pub returns : goal.returns
returns g c =
    let runs = c.run_service-run.ensures.runs in (
      runs.0,
      subst (λ (starts : List SeatState). RunsServe (λ (seat : SeatState). seat)
          (VisitsClients g.N.Door.Link.Link.traffic g.N.Door.Link.Link.marks g.N.Door.Link.Link.faults)
          g.N.Door.Link.Link.traffic g.N.Door.Link.Link.marks g.N.Door.Link.Link.faults g.N.Door.Door.given_back g.N.Door.Door.faults
          g.N.Door.Door.kind starts runs.0 c.run_service-run.result.ending
          (disk_seen g.D.Disk.state g.D.Disk.moment g.D.Disk.left_since g.D.Disk.faults c.args.disk.now)
          (disk_seen g.D.Disk.state g.D.Disk.moment g.D.Disk.left_since g.D.Disk.faults c.run_service-run.new.disk)
          (g.N.Dial.faults c.args.net.now) (g.N.Dial.faults c.run_service-run.new.net)
          (g.N.Net.closed c.args.net.now) (g.N.Net.closed c.run_service-run.new.net))
          (plain_states (new_seats c.args.workers) c.in-Ok.handlers.items (c.in-Ok.ensures ∙ sym (seats_are c.args.workers)))
          runs.1,
    )
