use Rattle.std.proofs.Common.{◌≡◌, ◌≤◌, length}
use Rattle.wire_fields.specs.declared.operations.Heard.TheVariants.{AtAdmin}
use Rattle.live_desk.specs.History.{last_commit}
use Rattle.desk_keeper.specs.Keeper.{IsSameDisk}
use Rattle.door_frames.specs.Hearing.{IsSound}
use Rattle.admin_door.specs.Side.{side_of}
use Rattle.admin_door.specs.Running.{RunsOver}
use Rattle.admin_door.specs.Serving.{talk_of}
use Rattle.admin_door.specs.Hanging.{HangsOn}
use Rattle.admin_door.specs.parts.Talk.{Stands}
use Rattle.admin_door.proofs.admin_loops.serve.Given as goal

-- the frames so far were answered
abbrev pub invariant-loop : goal.invariant-loop
invariant-loop g l =
    Stands
    (talk_of (side_of g.D.Disk.faults l.fn.keeper (g.P.KeptPublisher.states l.fn.publisher) (g.A.Hall.tally l.fn.hall) (g.A.Hall.calls l.fn.hall))
    (g.L.DueLink.traffic l.fn.link) (g.L.DueLink.marks l.fn.link) (g.L.DueLink.faults l.fn.link))
    (talk_of (side_of g.D.Disk.faults l.keeper (g.P.KeptPublisher.states l.publisher) (g.A.Hall.tally l.hall) (g.A.Hall.calls l.hall))
    (g.L.DueLink.traffic l.link) (g.L.DueLink.marks l.link) (g.L.DueLink.faults l.link)) l.feeder
    (RunsOver g.D.Disk.state g.D.Disk.moment g.D.Disk.left_since l.fn.keeper l.keeper)
    × (l.feeder.heard ≡ AtAdmin)
    × IsSound l.feeder
    × (length l.room ≡ 4096)
    × (last_commit 0 (g.P.KeptPublisher.states l.publisher) ≤ l.keeper.desk.commit)
    × IsSameDisk l.fn.keeper l.keeper
    × HangsOn (g.P.KeptPublisher.states l.fn.publisher) (g.P.KeptPublisher.states l.publisher) l.fn.hangs l.hangs
