-- What a run of the program reads, says and keeps: one line for each command.
use Rattle.std.specs.Prelude.{◌≡◌, ◌⊎◌, ◌++◌, ℕ, true, false, List, [], Option, Some, None, Ok}
use Rattle.desk_ports.specs.Content.{Appended}
use Rattle.desk_ports.specs.declared.streams.Source.{Ghosts as SourceTells}
use Rattle.desk_ports.specs.declared.streams.Sink.{Ghosts as SinkTells}
use Rattle.desk_ports.specs.declared.disks.Disk.{Ghosts as DiskTells}
use Rattle.link_ports.specs.declared.dials.Dial.{Ghosts as DialTells}
use Rattle.link_ports.specs.declared.links.Link.{Ghosts as LinkTells}
use Rattle.link_ports.specs.declared.doors.Door.{Ghosts as DoorTells}
use Rattle.smack_rules.specs.declared.rule.Rule.{Rule}
use Rattle.smack_rules.specs.Effective.{effective}
use Rattle.smack_rules.specs.Decision.{decision}
use Rattle.desk_state.specs.DeskState.{DeskState}
use Rattle.run_endings.specs.Ending.{status_of, source_faults_after, disk_faults_after, Unraised, NoCallFails}
use Rattle.run_endings.specs.LastLine.{last_line}
use Rattle.run_endings.specs.Outside.{Outside, SourceSeen, SinkSeen, DiskSeen, source_seen, sink_seen, disk_seen, seen}
use Rattle.run_endings.specs.Saying.{Said, silence, WritesAnswers, Writes}
use Rattle.run_endings.specs.declared.endings.Ending.{Ending}
use Rattle.run_endings.specs.declared.endings.Ending.TheVariants.{Memory, Words}
use Rattle.command_words.specs.Commands.{uses_net}
use Rattle.command_words.specs.declared.commands.Command.{Command}
use Rattle.command_words.specs.declared.commands.Command.TheVariants.{Local, Serve, Watch, Check, Simple, Admin, Agent}
use Rattle.command_words.specs.declared.commands.Command.TheVariants.{SmackAccess, SmackLoad, Sample}
use Rattle.script_replies.specs.Script.{wrong_line, replies}
use Rattle.line_answers.specs.Answers.{decided_text}
use Rattle.folder_runs.specs.Folder.{StandsFor}
use Rattle.folder_runs.specs.LoadRun.{loads_text, RunsLoad}
use Rattle.local_runs.specs.LocalRun.{read_local, RunsLocal}
use Rattle.access_runs.specs.AccessRun.{rules_read, RunsAccess}
use Rattle.sample_runs.specs.Sample.{Outcome, outcome, sample_text}
use Rattle.sample_runs.specs.SampleRun.{RunsSample}
use Rattle.client_runs.specs.CheckRun.{RunsCheck, CompletesCheck}
use Rattle.admin_runs.specs.AdminRun.{RunsAdmin, CompletesAdmin}
use Rattle.agent_runs.specs.LinkSeen.{dial_seen}
use Rattle.agent_runs.specs.AgentRun.{RunsAgent, CompletesAgent}
use Rattle.serve_runs.specs.Run.{RunsPlain}
use Rattle.watch_runs.specs.Watching.{RunsWatch, WritesLast}

-- what a run sees of these objects, by what their types tell
abbrev pub seen_of : {S K D N L H : Type 0} → SourceTells S → SinkTells K → DiskTells D → DialTells N L H → S → K → D
    → N → Outside
seen_of source_tells sink_tells disk_tells dial_tells source sink disk net = seen
    (source_seen source_tells.left source_tells.faults source) (sink_seen sink_tells.taken sink_tells.faults sink)
    (disk_seen disk_tells.state disk_tells.moment disk_tells.left_since disk_tells.faults disk)
    (record { faults = dial_tells.faults net })

-- How often calls of the disk failed by the end of a run. Of a service `RunsServe` tells it.
abbrev pub CountsDisk : Option Command → Ending → ℕ → ℕ → Type 0
CountsDisk (Some (Serve workers)) ending before after = Unit {0}
CountsDisk (Some (Watch workers)) ending before after = Unit {0}
CountsDisk command ending before after = after ≡ disk_faults_after ending before

-- ---- a run without a command

-- the words name none, or no memory is found to read them
abbrev pub IsWordless : Ending → Type 0
IsWordless Words = Unit {0}
IsWordless Memory = Unit {0}
IsWordless ending = ⊥

-- ---- a run that no failing call stops

-- it gives its whole answer, unless memory runs out
abbrev pub Gives : ℕ → Outside → Outside → List ℕ → Type 0
Gives status before after answer = ((status ≡ 0) × Appended before.sink.taken answer after.sink.taken) ⊎ (status ≡ 1)

-- it says this, and ends so, and all of that is written, with the last line behind it
abbrev pub SaysAll : ℕ → Outside → Outside → (Said → Ending → Type 0) → Type 0
SaysAll status before after Says = (said : Said) × (ending : Ending) × (status ≡ status_of ending) × Says said ending
    × Appended before.sink.taken (said.due ++ last_line ending) after.sink.taken

-- By what a net tells, and the links that it dials.
module _ {N L H : Type 0} (dial : DialTells N L H) (link : LinkTells L H) (net net_after : N) where
  -- where what it reads is right, and told
  abbrev pub Completes : Option Command → ℕ → Outside → Outside → Type 0
  Completes (Some Local) status before after =
      (input : List ℕ) (start : DeskState) → before.source.left ≡ Some input → wrong_line (read_local input) ≡ None
      → StandsFor before.disk start → Gives status before after (replies start [] (read_local input).steps)
  Completes (Some SmackLoad) status before after =
      (start : DeskState) → StandsFor before.disk start → Gives status before after (loads_text start)
  Completes (Some (SmackAccess subject object asked)) status before after =
      (input : List ℕ) (rules : List Rule) → before.source.left ≡ Some input → rules_read input ≡ Ok rules
      → Gives status before after (decided_text (decision subject object asked (effective rules subject object)))
  Completes (Some (Sample count)) status before after =
      (found : Outcome) → outcome count ≡ Some found → Gives status before after (sample_text count found)
  -- a service gives no answers there; where its net did not fail either, it ends with 0, or for want of memory
  Completes (Some (Serve workers)) status before after =
      (start : DeskState) → StandsFor before.disk start → Unraised before.net.faults after.net.faults
      → Gives status before after []
  Completes (Some (Watch workers)) status before after =
      (start : DeskState) → StandsFor before.disk start → Unraised before.net.faults after.net.faults
      → (status ≡ 0) ⊎ (status ≡ 1)
  -- where the net did not fail either, what a peer replied is an answer, or it is none
  Completes (Some (Check asked)) status before after = Unraised before.net.faults after.net.faults
      → SaysAll status before after (λ said ending. CompletesCheck dial link asked false said ending net net_after)
  Completes (Some (Simple asked)) status before after = Unraised before.net.faults after.net.faults
      → SaysAll status before after (λ said ending. CompletesCheck dial link asked true said ending net net_after)
  Completes (Some Admin) status before after = Unraised before.net.faults after.net.faults
      → SaysAll status before after (λ said ending. CompletesAdmin
      link.faults link.marks link.traffic dial.faults dial.dials
      dial.given_back said ending before.source after.source net net_after)
  -- where the service ends the connection, an agent has done its work, though the net counts that
  Completes (Some (Agent kind allowed)) status before after =
      SaysAll status before after (λ said ending. CompletesAgent ending said.due before.net.faults after.net.faults)
  Completes None status before after = Unit {0}

-- ---- the whole

-- By what a net tells, and the links that it dials, and what it tells of its doors, with the links that these accept.
module _ {N L H E A J : Type 0} (dial : DialTells N L H) (link : LinkTells L H)
    (closed : N → Option (List E)) (door : DoorTells E A J) (accepted : LinkTells A J) where
  -- a service by so many workers of clients that ended so
  abbrev pub Serves : ℕ → DiskSeen → DiskSeen → N → N → Ending → Type 0
  Serves workers disk disk_after net net_after ending =
      RunsPlain accepted.traffic accepted.marks accepted.faults door.given_back door.faults door.kind
      workers ending disk disk_after
      (dial.faults net) (dial.faults net_after) (closed net) (closed net_after)

  module _ (said : Said) (ending : Ending) (source source_after : SourceSeen) (disk disk_after : DiskSeen)
      (net net_after : N) where
    -- what the command that words name says, and how it ends, over a source, a disk and a net before and after
    abbrev pub RunsCommand : Option Command → Type 0
    RunsCommand None = IsWordless ending × (said ≡ silence)
    RunsCommand (Some Local) = RunsLocal said ending source source_after disk disk_after
    RunsCommand (Some SmackLoad) = RunsLoad said ending disk disk_after
    RunsCommand (Some (SmackAccess subject object asked)) =
        RunsAccess subject object asked said ending source source_after
    RunsCommand (Some (Sample count)) = RunsSample count said ending
    RunsCommand (Some (Serve workers)) = (said ≡ silence) × Serves workers disk disk_after net net_after ending
    -- how it serves is told with what it writes
    RunsCommand (Some (Watch workers)) = said ≡ silence
    RunsCommand (Some (Check asked)) = RunsCheck dial link asked false said ending net net_after
    RunsCommand (Some (Simple asked)) = RunsCheck dial link asked true said ending net net_after
    RunsCommand (Some Admin) =
        RunsAdmin link.faults link.marks link.traffic dial.faults dial.dials dial.given_back said ending
        source source_after net net_after
    RunsCommand (Some (Agent kind allowed)) =
        RunsAgent kind allowed said ending (dial_seen dial link net) (dial_seen dial link net_after)

  -- ---- what is written

  module _ (ending : Ending) (disk disk_after : DiskSeen) (net net_after : N) where
    -- a service that writes lines
    abbrev pub Watches : ℕ → SinkSeen → SinkSeen → Type 0
    Watches workers before after =
        RunsWatch accepted.traffic accepted.marks accepted.faults door.given_back door.faults door.kind
        workers ending disk disk_after
        (dial.faults net) (dial.faults net_after) (closed net) (closed net_after) before after

    -- what a command wrote before the last line
    abbrev pub AnswersBy : Said → Option Command → SinkSeen → SinkSeen → Type 0
    AnswersBy said (Some (Watch workers)) before after = Watches workers before after
    AnswersBy said command before after = WritesAnswers ending said before after

    -- and with it
    abbrev pub WritesBy : Said → Option Command → SinkSeen → SinkSeen → Type 0
    WritesBy said (Some (Watch workers)) before after =
        (between : SinkSeen) × Watches workers before between × WritesLast ending between after
    WritesBy said command before after = Writes ending said before after

  -- How a run ends, with the words' command and a status.
  pub record Ends (command : Option Command) (status : ℕ) (before after : Outside) (net net_after : N) : Type 0 where
    pub ending : Ending
    pub said : Said
    pub status_is : status ≡ status_of ending
    pub runs : RunsCommand said ending before.source after.source before.disk after.disk net net_after command
    pub writes : WritesBy ending before.disk after.disk net net_after said command before.sink after.sink
    pub source_count : after.source.faults ≡ source_faults_after ending before.source.faults
    pub disk_count : CountsDisk command ending before.disk.faults after.disk.faults
    -- a command over the net says what that counts
    pub net_count : uses_net command ≡ false → after.net.faults ≡ before.net.faults
    pub completes : NoCallFails before after → Completes dial link net net_after command status before after
