use Rattle.std.proofs.Common.{◌≡◌, ◌&&◌, true}
use Rattle.script_replies.specs.Folded.{AreFolded}
use Rattle.folder_runs.specs.Keeping.{KeepsSoFar}
use Rattle.local_runs.specs.parts.Progress.{GoesOn}
use Rattle.local_runs.proofs.local_runs.answer_script.Given as goal

abbrev pub invariant-lines : goal.invariant-lines
invariant-lines g l =
    record {
      goes : GoesOn (KeepsSoFar g.D.Disk.state g.D.Disk.moment g.D.Disk.left_since l.fn.keeper.vault.disk.now l.keeper.vault.disk.now
          l.fn.keeper.desk l.fn.keeper.vault.held l.keeper.desk l.keeper.vault.held)
          l.fn.keeper.desk (g.S.Source.left l.fn.source) (g.S.Source.left l.source) (g.K.Sink.taken l.fn.sink)
          (g.K.Sink.taken l.sink)
          l.script l.keeper.desk l.lines;
      decided : (l.keeper.read && l.keeper.vault.decided) ≡ true;
      folded : AreFolded l.script.rules l.keeper.desk l.script.shares;
      source : g.S.Source.faults l.source ≡ g.S.Source.faults l.fn.source;
      sink : g.K.Sink.faults l.sink ≡ g.K.Sink.faults l.fn.sink;
      disk : g.D.Disk.faults l.keeper.vault.disk.now ≡ g.D.Disk.faults l.fn.keeper.vault.disk.now;
      same_disk : l.keeper.vault.disk.ghost_name ≡ l.fn.keeper.vault.disk.ghost_name;
    }

abbrev pub decreases-lines : goal.decreases-lines
decreases-lines g l = l.lines.room
