-- Runs that give no answers: without a command, without memory for its words, and a service, which may write lines.
use Rattle.std.proofs.Common.{◌≡◌, ◌++◌, [], ℕ, String, List, Option, Some, None, Err, inl, inr, refl, sym, subst}
use Rattle.std.specs.Prelude.{alloc_error}
use Rattle.std.specs.declared.alloc.Global.{Global}
use Rattle.desk_ports.specs.Content.{Appended}
use Rattle.desk_ports.specs.Disk.{MayLeave, WhereTold}
use Rattle.desk_ports.specs.FileMap.{FileMap}
use Rattle.desk_ports.proofs.Appends.{Appended-none}
use Rattle.desk_ports.proofs.Readings.{Took-nothing}
use Rattle.link_ports.specs.declared.dials.Dial.{Ghosts as DialTells}
use Rattle.link_ports.specs.declared.links.Link.{Ghosts as LinkTells}
use Rattle.link_ports.specs.declared.doors.Door.{Ghosts as DoorTells}
use Rattle.run_endings.specs.Ending.{source_faults_after, disk_faults_after}
use Rattle.run_endings.specs.Outside.{Outside, SinkSeen, DiskSeen}
use Rattle.run_endings.specs.Saying.{Said, silence, WritesAnswers}
use Rattle.run_endings.specs.declared.endings.Ending.{Ending}
use Rattle.run_endings.specs.declared.endings.Ending.TheVariants.{Memory, Words, Source, Sink, Disk}
use Rattle.run_endings.proofs.Hads.{Took-Had}
use Rattle.command_words.specs.Commands.{command_of}
use Rattle.command_words.specs.declared.commands.Command.{Command}
use Rattle.command_words.specs.declared.commands.Command.TheVariants.{Local, Serve, Watch, Check, Simple, Admin, Agent, SmackAccess, SmackLoad, Sample}
use Rattle.script_words.specs.declared.places.Place.TheVariants.{Admin as Admin_place}
use Rattle.script_replies.proofs.Ending.{ends_unread}
use Rattle.folder_runs.specs.Folder.{RefusesFolder}
use Rattle.serve_runs.specs.Run.RunsServe.{refused}
use Rattle.serve_runs.proofs.Ending.{plain-not-sink, plain-not-source}
use Rattle.admin_runs.proofs.Turns.{in_turn_none}
use Rattle.cynara_client.specs.declared.refusals.ClientRefusal.TheVariants as refusal
use Rattle.client_runs.specs.CheckRun.{EndsCheck}
use Rattle.monitor_journal.specs.declared.writing.Writing.TheVariants.{GoesOn}
use Rattle.watch_runs.specs.Watching.Journaled.{unserved as unserved_lines}
use Rattle.watch_runs.proofs.Recorders.{no_queue}
use Rattle.watch_runs.proofs.Running.{reads_no_source}
use Rattle.privilege_cli.specs.Program.{Serves, Watches, RunsCommand, AnswersBy, CountsDisk}

-- `check` and `simple` are given no source and no disk, and so no call of them ends it
pub uncounted : (ending : Ending) (count : ℕ) → EndsCheck ending → (count ≡ source_faults_after ending count) × (count ≡ disk_faults_after ending count)
uncounted Source count ends = absurd ends
uncounted Disk count ends = absurd ends
uncounted ending count ends = (refl, refl)

-- where no memory is found for the words, no call of the disk was made
pub unmoved : (command : Option Command) (count : ℕ) → CountsDisk command Memory count count
unmoved (Some (Serve workers)) count = tt
unmoved (Some (Watch workers)) count = tt
unmoved command count = refl

module _ {N L H E A J : Type 0} (dial : DialTells N L H) (link : LinkTells L H) (closed : N → Option (List E)) (door : DoorTells E A J)
    (accepted : LinkTells A J) (words : List (String Global)) (before : Outside) (net : N) where
  -- a run gives no answers, and leaves the source as it was
  abbrev Says : Ending → SinkSeen → DiskSeen → N → Option Command → Type 0
  Says ending sink disk net_after command =
      RunsCommand dial link closed door accepted silence ending before.source before.source before.disk disk net net_after command
      × AnswersBy dial link closed door accepted ending before.disk disk net net_after silence command before.sink sink

  abbrev Stops : Ending → SinkSeen → DiskSeen → N → Type 0
  Stops ending sink disk net_after =
      (said : Said) × RunsCommand dial link closed door accepted said ending before.source before.source before.disk disk net net_after (command_of words)
      × AnswersBy dial link closed door accepted ending before.disk disk net net_after said (command_of words) before.sink sink

  -- ---- without a command: nothing is read, and nothing dialled

  unwritten : WritesAnswers Memory silence before.sink before.sink
  unwritten = record { taken = Appended-none before.sink.taken; are_written = inl (refl, refl) }

  -- No memory was found to read the words, whatever they name. Since no call was made of the disk, a stop leaves what one at
  -- entry may leave.
  module _ (only_now : (left : FileMap) → WhereTold before.disk.state (λ now. before.disk.left_since before.disk.moment left → MayLeave now left)) where
    unmounted : RefusesFolder silence Memory before.disk before.disk
    unmounted = record {
      refused = tt;
      silent = refl;
      moments = λ entry told left was. let may = only_now left entry told was in (left, may, refl, λ name foreign free. may name free);
    }

    unserved : (workers : ℕ) → Serves dial link closed door accepted workers before.disk before.disk net net Memory
    unserved workers = (None, refused refl unmounted refl refl refl)

    unread : (command : Option Command) → Says Memory before.sink before.disk net command
    unread None = ((tt, refl), unwritten)
    unread (Some Local) = (inl (record { folder = unmounted; unread = refl }), unwritten)
    unread (Some SmackLoad) = (inl unmounted, unwritten)
    unread (Some (SmackAccess subject object asked)) =
        let had = Took-Had before.source.left before.source.left [] (Took-nothing before.source.left) in
        (record { input = [] ++ had.0; rest = had.0; had = had.1; answered = refl }, unwritten)
    unread (Some (Sample count)) = (refl, unwritten)
    unread (Some (Serve workers)) = ((refl, unserved workers), unwritten)
    unread (Some (Watch workers)) =
        (refl, (Memory, GoesOn, no_queue, None, refused refl unmounted refl refl refl, unserved_lines refl refl refl, refl))
    unread (Some (Check asked)) =
        ((Err (refusal.Memory alloc_error), inr (record { error = alloc_error; answer_is = refl; same = refl }), (refl, refl)), unwritten)
    unread (Some (Simple asked)) =
        ((Err (refusal.Memory alloc_error), inr (record { error = alloc_error; answer_is = refl; same = refl }), (refl, refl)), unwritten)
    unread (Some Admin) =
        let unread_input = ends_unread Admin_place before.source.left in (
          record {
            client = record { dial = net; link = None; sequence = 0 };
            script = record {
              input = unread_input.0;
              rest = unread_input.1;
              steps = [];
              answered = [];
              last = [];
              between = record { dial = net; link = None; sequence = 0 };
              had = unread_input.2;
              read = unread_input.3;
              sent = refl;
              exchanged = refl;
              ends = inr (inr (refl, refl));
              due = refl;
              in_turn = in_turn_none [];
            };
            given = refl;
          },
          unwritten,
        )
    unread (Some (Agent kind allowed)) = (inl (record { said_is = refl; fails = refl; given = refl }), unwritten)

    pub without_memory : Stops Memory before.sink before.disk net
    without_memory = let says = unread (command_of words) in (silence, says.0, says.1)

  -- the words name no command, and only a note is made of them
  pub without_command : (after : SinkSeen) → command_of words ≡ None → after.taken ≡ before.sink.taken
      → after.faults ≡ before.sink.faults → Stops Words after before.disk net
  without_command after none taken faults =
      let answers : WritesAnswers Words silence before.sink after = record {
        taken = subst (λ (now : Option (List ℕ)). Appended before.sink.taken [] now) (sym taken) (Appended-none before.sink.taken);
        are_written = (faults, refl);
      } in
      let says = subst (Says Words after before.disk net) (sym none) ((tt, refl), answers) in
      (silence, says.0, says.1)

  -- ---- a service: it is given no source and no sink, and so no call of them ends it

  module _ (workers : ℕ) (disk : DiskSeen) (net_after : N) where
    abbrev IsServed : Ending → Type 0
    IsServed = Serves dial link closed door accepted workers before.disk disk net net_after

    says-nothing : (ending : Ending) → IsServed ending → WritesAnswers ending silence before.sink before.sink
    says-nothing Sink serves =
        absurd (plain-not-sink accepted.traffic accepted.marks accepted.faults door.given_back door.faults door.kind workers
        before.disk disk (dial.faults net) (dial.faults net_after) (closed net) (closed net_after) serves)
    says-nothing Memory serves = unwritten
    says-nothing ending serves = record { taken = Appended-none before.sink.taken; are_written = (refl, refl) }

    pub reads-nothing : (ending : Ending) → IsServed ending → before.source.faults ≡ source_faults_after ending before.source.faults
    reads-nothing Source serves =
        absurd (plain-not-source accepted.traffic accepted.marks accepted.faults door.given_back door.faults door.kind workers
        before.disk disk (dial.faults net) (dial.faults net_after) (closed net) (closed net_after) serves)
    reads-nothing ending serves = refl

    -- the words' command is that service
    pub serves-as : (ending : Ending) → command_of words ≡ Some (Serve workers) → IsServed ending
        → Stops ending before.sink disk net_after
    serves-as ending is serves =
        let says = subst (Says ending before.sink disk net_after) (sym is) ((refl, serves), says-nothing ending serves) in
        (silence, says.0, says.1)

    -- ---- a service that writes lines

    module _ (ending : Ending) (sink : SinkSeen) where
      abbrev Watched : Type 0
      Watched = Watches dial link closed door accepted ending before.disk disk net net_after workers before.sink sink

      pub watches-as : command_of words ≡ Some (Watch workers) → Watched → Stops ending sink disk net_after
      watches-as is watched =
          let says = subst (Says ending sink disk net_after) (sym is) (refl, watched) in
          (silence, says.0, says.1)

      pub watches-unread : Watched → before.source.faults ≡ source_faults_after ending before.source.faults
      watches-unread watched =
          reads_no_source accepted.traffic accepted.marks accepted.faults door.given_back door.faults door.kind workers ending
          before.disk disk (dial.faults net) (dial.faults net_after) (closed net) (closed net_after) before.sink sink
          before.source.faults watched
