-- The last line of a run, and a note for a person behind it.
use Rattle.std.proofs.Common.{◌≡◌, ℕ, List, Option, Some, sym, subst}
use Rattle.link_ports.specs.declared.dials.Dial.{Ghosts as DialTells}
use Rattle.link_ports.specs.declared.links.Link.{Ghosts as LinkTells}
use Rattle.link_ports.specs.declared.doors.Door.{Ghosts as DoorTells}
use Rattle.run_endings.specs.Outside.{SinkSeen, DiskSeen, sink_seen}
use Rattle.run_endings.specs.Saying.{Said, Writes}
use Rattle.run_endings.specs.declared.endings.Ending.{Ending}
use Rattle.command_words.specs.declared.commands.Command.{Command}
use Rattle.command_words.specs.declared.commands.Command.TheVariants.{Watch}
use Rattle.watch_runs.specs.Watching.{WritesLast}
use Rattle.watch_runs.proofs.Lines.{LastLine, last_line_behind}
use Rattle.watch_runs.proofs.Running.{lines_of}
use Rattle.privilege_cli.specs.Program.{AnswersBy, WritesBy}

-- what a sink took and counted before the note, it took and counted with it
noted : (ending : Ending) (said : Said) {K : Type 0} (taken : K → Option (List ℕ)) (faults : K → ℕ) (before : SinkSeen) (sink after : K)
    → Writes ending said before (sink_seen taken faults sink) → taken after ≡ taken sink → faults after ≡ faults sink
    → Writes ending said before (sink_seen taken faults after)
noted ending said taken faults before sink after writes same count =
    subst (λ number. Writes ending said before (record { taken = taken after; faults = number })) (sym count)
    (subst (λ bytes. Writes ending said before (record { taken = bytes; faults = faults sink })) (sym same) writes)

module _ {N L H E A J : Type 0} (dial : DialTells N L H) (link : LinkTells L H) (closed : N → Option (List E)) (door : DoorTells E A J)
    (accepted : LinkTells A J) (ending : Ending) (disk disk_after : DiskSeen) (net net_after : N) where
  -- the same of any command, by what it wrote before the last line
  pub written_by : (said : Said) (command : Option Command) {K : Type 0} (taken : K → Option (List ℕ)) (faults : K → ℕ) (before : SinkSeen)
      (sink last after : K)
      → AnswersBy dial link closed door accepted ending disk disk_after net net_after said command before (sink_seen taken faults sink)
      → LastLine ending (sink_seen taken faults sink) (sink_seen taken faults last) → taken after ≡ taken last → faults after ≡ faults last
      → WritesBy dial link closed door accepted ending disk disk_after net net_after said command before (sink_seen taken faults after)
  written_by said (Some (Watch workers)) {K} taken faults before sink last after watches writes same count = (
    sink_seen taken faults sink,
    watches,
    subst (λ number. WritesLast ending (sink_seen taken faults sink) (record { taken = taken after; faults = number })) (sym count)
        (subst (λ bytes. WritesLast ending (sink_seen taken faults sink) (record { taken = bytes; faults = faults last })) (sym same)
        (last_line_behind workers ending before (sink_seen taken faults sink) (sink_seen taken faults last)
        (lines_of accepted.traffic accepted.marks accepted.faults door.given_back door.faults door.kind workers ending disk disk_after
        (dial.faults net) (dial.faults net_after) (closed net) (closed net_after) before (sink_seen taken faults sink) watches) writes)),
  )
  written_by said command {K} taken faults before sink last after answers writes same count =
      noted ending said taken faults before last after (writes said before answers) same count
