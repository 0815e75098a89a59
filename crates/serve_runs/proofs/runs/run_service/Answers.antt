use Rattle.std.proofs.Common.{rules, ◌≡◌, ◌∙◌, ◌∷◌, [], ℕ, Bool, Option, Some, None, List, Ok, refl, sym, ap, subst}
use Rattle.desk_ports.specs.Disk.{DiskState, WhereTold}
use Rattle.desk_ports.specs.Moments.{LeavesOnly}
use Rattle.desk_ports.specs.declared.file_sets.SetFile.{SetFile}
use Rattle.desk_state.specs.DeskState.{DeskState}
use Rattle.server_hall.specs.StopNews.{unasked}
use Rattle.desk_keeper.specs.Kept.{kept}
use Rattle.desk_keeper.specs.Keeper.{disk_of}
use Rattle.desk_keeper.specs.declared.keeper.Keeper.{Keeper}
use Rattle.admin_door.specs.Running.{RunsOver}
use Rattle.admin_door.proofs.Running.{runs-none}
use Rattle.desk_server.specs.Visit.{Works}
use Rattle.desk_server.specs.Administrators.{AdminState, VisitsAdministrators, EndsAdministrators, admin_state_of}
use Rattle.folder_runs.proofs.Mounting.{refuses-folder, refuses-count}
use Rattle.serve_runs.specs.Pool.{ends_of, left_by}
use Rattle.serve_runs.specs.Serving.{opening}
use Rattle.serve_runs.specs.Run.{RunsServe}
use Rattle.serve_runs.proofs.Concluding.{concludes, mount_undone, unopened_undone}
use Rattle.run_endings.specs.Outside.{disk_seen}
use Rattle.serve_runs.proofs.Folder.{keeps_service, published-made}
use Rattle.serve_runs.proofs.runs.run_service.Goals as goal

pub returns-in-Err-clause-runs : goal.returns-in-Err-clause-runs
returns-in-Err-clause-runs g c = (
  None,
  rw c.ending_of_mount.ensures (RunsServe.refused refl
      (refuses-folder g.D.Disk.state g.D.Disk.moment g.D.Disk.left_since g.D.Disk.faults c.args.disk.now c.find.new.disk
      c.in-Err.refusal c.in-Err.ensures.damaged c.in-Err.ensures.moments)
      (c.in-Err.ensures.count ∙ refuses-count c.in-Err.refusal (g.D.Disk.faults c.args.disk.now))
      refl refl),
  tt,
)

pub returns-in-Err-served-clause-runs : goal.returns-in-Err-served-clause-runs
returns-in-Err-served-clause-runs g c =
    let first = c.of-keeper.result in
    let last = c.serve_folder-served.new.keeper in
    let of = c.of-keeper.ensures in
    let found = c.in-Ok.ensures in
    let still : last ≡ first = c.in-Err-served.ensures.kept in
    let final : last.vault.disk.now ≡ c.disk-1.given.0 = search rules in
    rw (sym final) (
      None,
      RunsServe.unopened refl first.desk
          (keeps_service g.D.Disk.state g.D.Disk.moment g.D.Disk.left_since g.D.Disk.faults c.args.disk.now first last []
          (rw of.desk found.desk) (rw (of.desk, of.held, of.disk) found.settled) (rw of.disk found.moments)
          (subst (λ (k : Keeper g.row.D.Denot). RunsOver g.D.Disk.state g.D.Disk.moment g.D.Disk.left_since first k []) (sym still)
          (runs-none g.D.Disk.state g.D.Disk.moment g.D.Disk.left_since first (g.met.D.Disk.only_now (disk_of first)))))
          (ap (λ (k : Keeper g.row.D.Denot). g.D.Disk.faults (disk_of k)) still ∙ (ap g.D.Disk.faults of.disk ∙ found.count))
          c.in-Err-served.ensures.served c.in-Err-served.ensures.closed,
      tt,
    )

pub returns-clause-runs : goal.returns-clause-runs
returns-clause-runs g c =
    let first = c.of-keeper.result in
    let last = c.serve_folder-served.new.keeper in
    let of = c.of-keeper.ensures in
    let found = c.in-Ok.ensures in
    let runs_workers = c.in-Ok-served.ensures.served in
    let count : g.D.Disk.faults (disk_of first) ≡ g.D.Disk.faults c.args.disk.now = ap g.D.Disk.faults of.disk ∙ found.count in
    let opens : admin_state_of g.D.Disk.faults first (first.desk ∷ []) [] ≡ opening first.desk (g.D.Disk.faults c.args.disk.now) =
    λ i. record { desk = first.desk; decided = of.decided i; published = first.desk ∷ []; faults = count i; frames = [] } in
    let final : last.vault.disk.now ≡ c.disk-1.given.0 = search rules in
    let works = subst (λ (start : AdminState). Works
    (VisitsAdministrators g.N.Door.Link.Link.traffic g.N.Door.Link.Link.marks g.N.Door.Link.Link.faults) (EndsAdministrators unasked runs_workers.told)
    g.N.Door.Link.Link.marks g.N.Door.Link.Link.faults runs_workers.end start
    (admin_state_of g.D.Disk.faults last runs_workers.published runs_workers.frames)
    runs_workers.given (g.N.Door.Door.given_back runs_workers.door) 0 (g.N.Door.Door.faults runs_workers.door))
    opens runs_workers.works in
    let keeps = keeps_service g.D.Disk.state g.D.Disk.moment g.D.Disk.left_since g.D.Disk.faults c.args.disk.now first last runs_workers.frames
    (rw of.desk found.desk) (rw (of.desk, of.held, of.disk) found.settled) (rw of.disk found.moments) runs_workers.runs in
    rw (sym final) (
      Some (left_by runs_workers.pool),
      RunsServe.served first.desk
          (record {
            end = runs_workers.end;
            last = admin_state_of g.D.Disk.faults last runs_workers.published runs_workers.frames;
            given = runs_workers.given;
            door = runs_workers.door;
            is_theirs = runs_workers.is_theirs;
            unused = runs_workers.unused;
            told = runs_workers.told;
            works = works;
            counted = refl;
            events = runs_workers.events;
            none_below = runs_workers.none_below;
            hung = runs_workers.hung;
            pool = runs_workers.pool;
            serves = runs_workers.serves;
            doors = runs_workers.doors;
            ends = concludes c.ending_of-ending.result c.in-Ok-served.met.lacked_memory c.in-Ok-served.met.alone (runs_workers.end ∷ ends_of runs_workers.pool)
                (g.D.Disk.faults c.args.disk.now) (g.D.Disk.faults last.vault.disk.now) (g.N.Dial.faults c.args.net.now) (g.N.Dial.faults c.serve_folder-served.new.net)
                runs_workers.memory runs_workers.deserted runs_workers.failed
                (rw (
                  c.faults-disk_faults.ensures,
                  c.faults.ensures,
                  sym final,
                  c.faults-net_faults.ensures,
                  c.faults-2.ensures,
                ) at c.ending_of-ending.ensures);
          })
          refl
          (λ entry told. (
            keeps entry told,
            published-made g.N.Door.Link.Link.traffic g.N.Door.Link.Link.marks g.N.Door.Link.Link.faults entry
                (disk_seen g.D.Disk.state g.D.Disk.moment g.D.Disk.left_since g.D.Disk.faults c.args.disk.now)
                (disk_seen g.D.Disk.state g.D.Disk.moment g.D.Disk.left_since g.D.Disk.faults (disk_of last))
                first.desk (admin_state_of g.D.Disk.faults last runs_workers.published runs_workers.frames) (g.D.Disk.faults c.args.disk.now) runs_workers.end
                (EndsAdministrators unasked runs_workers.told)
                runs_workers.given (g.N.Door.Door.given_back runs_workers.door) (g.N.Door.Door.faults runs_workers.door) works (keeps entry told),
          )),
      runs_workers.left,
    )

pub returns-in-Err-clause-undone : goal.returns-in-Err-clause-undone
returns-in-Err-clause-undone g c = rw c.ending_of_mount.ensures (mount_undone c.in-Err.refusal)

pub returns-in-Err-served-clause-undone : goal.returns-in-Err-served-clause-undone
returns-in-Err-served-clause-undone g c =
    unopened_undone c.in-Err-served.ending (g.N.Dial.faults c.args.net.now) (g.N.Dial.faults c.serve_folder-served.new.net)
    c.in-Err-served.ensures.served
