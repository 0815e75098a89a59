use Rattle.std.proofs.Common.{rules, List, Some, None, refl, ap, subst}
use Rattle.run_endings.specs.declared.endings.Ending.TheVariants.{Memory}
use Rattle.run_endings.specs.Outside.{disk_seen, sink_seen}
use Rattle.monitor_journal.specs.declared.writing.Writing.TheVariants.{GoesOn}
use Rattle.desk_server.specs.Monitored.{Post, VisitsWatched}
use Rattle.serve_runs.specs.Run.{RunsServe}
use Rattle.serve_runs.proofs.Folder.{refuses-early}
use Rattle.watch_runs.specs.Watching.{Journaled}
use Rattle.watch_runs.proofs.Recorders.{no_queue, posts_begun, as_many, all_still, journaled_all, stays_so}
use Rattle.watch_runs.proofs.runs.run_watch.Goals as goal

-- memory was wanting for the monitor
pub returns-in_default : goal.returns-in_default
returns-in_default g c = (
  Memory,
  GoesOn,
  no_queue,
  None,
  RunsServe.refused refl
      (refuses-early g.D.Disk.state g.D.Disk.moment g.D.Disk.left_since g.D.Disk.faults c.args.disk.now
      (g.met.D.Disk.only_now c.args.disk.now))
      refl refl refl,
  Journaled.unserved refl refl refl,
  refl,
)

-- nor was any found for what wakes its reader
pub returns-in_default-alarm : goal.returns-in_default-alarm
returns-in_default-alarm g c = (
  Memory,
  GoesOn,
  no_queue,
  None,
  RunsServe.refused refl
      (refuses-early g.D.Disk.state g.D.Disk.moment g.D.Disk.left_since g.D.Disk.faults c.args.disk.now
      (g.met.D.Disk.only_now c.args.disk.now))
      refl refl refl,
  Journaled.unserved refl refl refl,
  refl,
)

pub serve_watched-served-requires-clause-recorders : goal.serve_watched-served-requires-clause-recorders
serve_watched-served-requires-clause-recorders g c κs within =
    as_many c.in-Ok.reader.queue c.args.workers c.in-Ok.recorders.items (search rules)

-- nobody was served
pub returns-in-Err : goal.returns-in-Err
returns-in-Err g c = (
  c.in-Err.ending,
  GoesOn,
  c.in-Ok.reader.queue,
  None,
  subst (λ (starts : List Post). RunsServe (λ (post : Post). post.seat)
      (VisitsWatched g.N.Door.Link.Link.traffic g.N.Door.Link.Link.marks g.N.Door.Link.Link.faults)
      g.N.Door.Link.Link.traffic g.N.Door.Link.Link.marks g.N.Door.Link.Link.faults g.N.Door.Door.given_back g.N.Door.Door.faults
      g.N.Door.Door.kind starts None c.in-Err.ending
      (disk_seen g.D.Disk.state g.D.Disk.moment g.D.Disk.left_since g.D.Disk.faults c.args.disk.now)
      (disk_seen g.D.Disk.state g.D.Disk.moment g.D.Disk.left_since g.D.Disk.faults c.serve_watched-served.new.disk)
      (g.N.Dial.faults c.args.net.now) (g.N.Dial.faults c.serve_watched-served.new.net)
      (g.N.Net.closed c.args.net.now) (g.N.Net.closed c.serve_watched-served.new.net))
      (posts_begun c.in-Ok.reader.queue c.args.workers c.in-Ok.recorders.items (search rules)) c.in-Err.ensures.refuses,
  Journaled.unserved refl refl
      (ap (λ k. sink_seen g.K.Sink.taken g.K.Sink.faults k) c.in-Err.ensures.untouched),
  stays_so c.in-Err.ending,
)

-- the recorders are still all those of the reader
pub write_end-writing-requires-clause-queue : goal.write_end-writing-requires-clause-queue
write_end-writing-requires-clause-queue g c =
    (all_still c.in-Ok.reader c.in-Ok-served.watched.reader c.args.workers c.in-Ok.recorders.items c.in-Ok-served.watched.recorders.items
    c.in-Ok-served.ensures.journal.1.entries (search rules) (search rules) c.in-Ok-served.ensures.same (search rules)).0

pub write_end-writing-requires-clause-all : goal.write_end-writing-requires-clause-all
write_end-writing-requires-clause-all g c =
    (all_still c.in-Ok.reader c.in-Ok-served.watched.reader c.args.workers c.in-Ok.recorders.items c.in-Ok-served.watched.recorders.items
    c.in-Ok-served.ensures.journal.1.entries (search rules) (search rules) c.in-Ok-served.ensures.same (search rules)).1

pub returns : goal.returns
returns g c =
    let (posts, runs, are) = c.in-Ok-served.ensures.runs in (
      c.in-Ok-served.watched.ending,
      c.write_end-writing.result,
      c.in-Ok.reader.queue,
      Some posts,
      subst (λ (starts : List Post). RunsServe (λ (post : Post). post.seat)
          (VisitsWatched g.N.Door.Link.Link.traffic g.N.Door.Link.Link.marks g.N.Door.Link.Link.faults)
          g.N.Door.Link.Link.traffic g.N.Door.Link.Link.marks g.N.Door.Link.Link.faults g.N.Door.Door.given_back g.N.Door.Door.faults
          g.N.Door.Door.kind starts (Some posts) c.in-Ok-served.watched.ending
          (disk_seen g.D.Disk.state g.D.Disk.moment g.D.Disk.left_since g.D.Disk.faults c.args.disk.now)
          (disk_seen g.D.Disk.state g.D.Disk.moment g.D.Disk.left_since g.D.Disk.faults c.serve_watched-served.new.disk)
          (g.N.Dial.faults c.args.net.now) (g.N.Dial.faults c.serve_watched-served.new.net)
          (g.N.Net.closed c.args.net.now) (g.N.Net.closed c.serve_watched-served.new.net))
          (posts_begun c.in-Ok.reader.queue c.args.workers c.in-Ok.recorders.items (search rules)) runs,
      journaled_all c.args.workers c.in-Ok-served.ensures.journal.0 c.in-Ok.reader c.in-Ok-served.watched.reader
          posts c.in-Ok-served.watched.recorders.items c.in-Ok-served.watched.writing c.write_end-writing.result
          (sink_seen g.K.Sink.taken g.K.Sink.faults c.args.sink.now) (sink_seen g.K.Sink.taken g.K.Sink.faults c.serve_watched-served.new.sink)
          (sink_seen g.K.Sink.taken g.K.Sink.faults c.write_end-writing.new.sink) (search rules) are
          c.in-Ok-served.ensures.journal.1 c.write_end-writing.ensures,
      c.ending_with.ensures,
    )
