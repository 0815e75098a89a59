-- A run that no failing call stops.
use Rattle.std.proofs.Common.{◌≡◌, ◌∙◌, ◌<◌, ◌⊎◌, ◌++◌, inl, inr, ℕ, false, true, List, [], Option, Some, None, refl, sym, ap, subst, arith}
use Rattle.desk_ports.specs.Faults.{last_count}
use Rattle.desk_ports.specs.Content.{Appended}
use Rattle.link_ports.specs.declared.dials.Dial.{Ghosts as DialTells}
use Rattle.link_ports.specs.declared.links.Link.{Ghosts as LinkTells}
use Rattle.link_ports.specs.declared.doors.Door.{Ghosts as DoorTells}
use Rattle.run_endings.specs.Outside.{Outside, SinkSeen}
use Rattle.run_endings.specs.Ending.{status_of, source_faults_after, disk_faults_after, IsUnfailed, Unraised, NoCallFails}
use Rattle.run_endings.specs.LastLine.{last_line}
use Rattle.run_endings.specs.Saying.{Said, IsTried, Writes}
use Rattle.run_endings.specs.declared.endings.Ending.{Ending}
use Rattle.run_endings.specs.declared.endings.Ending.TheVariants.{Done, Memory, Source, Sink, Disk, Net}
use Rattle.run_endings.proofs.Completing.{is-unfailed, gives}
use Rattle.command_words.specs.declared.commands.Command.{Command}
use Rattle.command_words.specs.declared.commands.Command.TheVariants.{Local, SmackAccess, SmackLoad, Sample, Serve, Watch, Check, Simple, Admin, Agent}
use Rattle.folder_runs.proofs.Completing.{completes-load}
use Rattle.local_runs.proofs.Completing.{completes-local}
use Rattle.access_runs.proofs.Completing.{completes-access}
use Rattle.sample_runs.proofs.Completing.{completes-sample}
use Rattle.client_runs.proofs.Completing.{completes-check}
use Rattle.admin_runs.proofs.Completing.{completes-admin}
use Rattle.agent_runs.specs.LinkSeen.{dial_seen}
use Rattle.agent_runs.specs.AgentRun.{CompletesAgent}
use Rattle.agent_runs.proofs.Completing.{completes-agent}
use Rattle.serve_runs.proofs.Completing.{completes-plain}
use Rattle.watch_runs.proofs.Completing.{completes-watch}
use Rattle.privilege_cli.specs.Program.{RunsCommand, CountsDisk, WritesBy, Gives, Completes}

-- ---- all that is due is written, and the last line behind it

wrote : (due written line last : List ℕ) (before after : Option (List ℕ)) → written ≡ due → last ≡ line
    → Appended before (written ++ last) after → Appended before (due ++ line) after
wrote due written line last before after all same taken = subst (λ text. Appended before text after) (λ i. all i ++ same i) taken

tried : (before after : ℕ) (bytes written : List ℕ) → Unraised before after → IsTried before after bytes written → written ≡ bytes
tried before after bytes written still (inl (same, whole)) = whole
tried before after bytes written (below, stays) (inr (risen, cut)) = absurd (omega (arith, below, stays, risen))

all_said : (ending : Ending) (said : Said) (sink after : SinkSeen) → Unraised sink.faults after.faults → Writes ending said sink after
    → Appended sink.taken (said.due ++ last_line ending) after.taken
all_said Done said sink after still w = wrote said.due said.written [] w.last sink.taken after.taken w.is_written.0 w.is_written.1 w.taken
all_said Source said sink after still w = wrote said.due said.written [] w.last sink.taken after.taken w.is_written.0 w.is_written.1 w.taken
all_said Disk said sink after still w = wrote said.due said.written [] w.last sink.taken after.taken w.is_written.0 w.is_written.1 w.taken
all_said Net said sink after still w = wrote said.due said.written [] w.last sink.taken after.taken w.is_written.0 w.is_written.1 w.taken
all_said Memory said sink after still w =
    wrote said.due said.written [] w.last sink.taken after.taken
    (tried sink.faults after.faults said.due said.written still w.is_written.0) w.is_written.1 w.taken
all_said Sink said sink after (below, same) w = let risen = w.counts in absurd (omega (arith, below, same, risen))
all_said ending said sink after still w =
    wrote said.due said.written (last_line ending) w.last sink.taken after.taken w.is_written.0
    (tried sink.faults after.faults (last_line ending) w.last still w.is_written.1) w.taken

module _ {N L H E A J : Type 0} (dial : DialTells N L H) (link : LinkTells L H) (closed : N → Option (List E)) (door : DoorTells E A J)
    (accepted : LinkTells A J) (status : ℕ) (before after : Outside) (net net_after : N) (said : Said) (ending : Ending)
    (status_is : status ≡ status_of ending) (source_count : after.source.faults ≡ source_faults_after ending before.source.faults) (none : NoCallFails before after)
    (net_is : before.net.faults ≡ dial.faults net) (net_after_is : after.net.faults ≡ dial.faults net_after) where
  unfailed : Writes ending said before.sink after.sink → after.disk.faults ≡ disk_faults_after ending before.disk.faults → IsUnfailed ending
  unfailed writes disk_count = is-unfailed ending said before after (record { source = source_count; disk = disk_count }) writes none

  not_sink : IsUnfailed ending → ending ≡ Sink → ⊥
  not_sink unfailed_so is = subst IsUnfailed is unfailed_so

  not_source : IsUnfailed ending → ending ≡ Source → ⊥
  not_source unfailed_so is = subst IsUnfailed is unfailed_so

  given : Writes ending said before.sink after.sink → (answer : List ℕ) → ((ending ≡ Done) × (said.due ≡ answer)) ⊎ (ending ≡ Memory) → Gives status before after answer
  given writes answer due = gives ending said status before.sink after.sink answer status_is writes due

  net_still : Unraised before.net.faults after.net.faults → Unraised (dial.faults net) (dial.faults net_after)
  net_still (below, same) = (subst (λ n. n < last_count) net_is below, sym net_after_is ∙ (same ∙ net_is))

  silently : said.due ≡ [] → (ending ≡ Done) ⊎ (ending ≡ Memory) → ((ending ≡ Done) × (said.due ≡ [])) ⊎ (ending ≡ Memory)
  silently due (inl done) = inl (done, due)
  silently due (inr memory) = inr memory

  ended : (ending ≡ Done) ⊎ (ending ≡ Memory) → (status ≡ 0) ⊎ (status ≡ 1)
  ended (inl done) = inl (status_is ∙ ap status_of done)
  ended (inr memory) = inr (status_is ∙ ap status_of memory)

  pub completes : (command : Option Command)
      → RunsCommand dial link closed door accepted said ending before.source after.source before.disk after.disk net net_after command
      → WritesBy dial link closed door accepted ending before.disk after.disk net net_after said command before.sink after.sink → CountsDisk command ending before.disk.faults after.disk.faults
      → Completes dial link net net_after command status before after
  completes (Some Local) runs writes count = λ input start told right stands.
      given writes _ (completes-local said before.source after.source before.disk after.disk input start told right stands ending (unfailed writes count) runs)
  completes (Some SmackLoad) runs writes count = λ start stands.
      given writes _ (completes-load said before.disk after.disk start stands ending (unfailed writes count) runs)
  completes (Some (SmackAccess subject object asked)) runs writes count = λ input rules told right.
      given writes _ (completes-access subject object asked said before.source after.source input rules told right ending (unfailed writes count) runs)
  completes (Some (Sample number)) runs writes count = λ found comes_to.
      given writes _ (completes-sample number said found comes_to ending (unfailed writes count) runs)
  completes (Some (Serve workers)) (silent, serves) writes count = λ start stands still.
      given writes [] (silently (ap (λ (one : Said). one.due) silent)
      (completes-plain before.disk after.disk (dial.faults net) (dial.faults net_after) start stands none.disk (net_still still)
      accepted.traffic accepted.marks accepted.faults door.given_back door.faults door.kind workers (closed net) (closed net_after)
      ending serves))
  completes (Some (Watch workers)) runs (between, watches, last) count = λ start stands still.
      ended (completes-watch accepted.traffic accepted.marks accepted.faults door.given_back door.faults door.kind workers ending
      before.disk after.disk (dial.faults net) (dial.faults net_after) (closed net) (closed net_after) before.sink between after.sink
      start stands none.disk (net_still still) none.sink watches last)
  completes (Some (Check asked)) runs writes count = λ still. (
    said,
    ending,
    status_is,
    completes-check dial link asked false said ending net net_after (not_sink (unfailed writes count)) (net_still still) runs,
    all_said ending said before.sink after.sink none.sink writes,
  )
  completes (Some (Simple asked)) runs writes count = λ still. (
    said,
    ending,
    status_is,
    completes-check dial link asked true said ending net net_after (not_sink (unfailed writes count)) (net_still still) runs,
    all_said ending said before.sink after.sink none.sink writes,
  )
  completes (Some Admin) runs writes count = λ still. (
    said,
    ending,
    status_is,
    completes-admin link.faults link.marks link.traffic dial.faults dial.dials dial.given_back said before.source after.source net net_after
        (net_still still) ending runs (not_source (unfailed writes count)) (not_sink (unfailed writes count)),
    all_said ending said before.sink after.sink none.sink writes,
  )
  completes (Some (Agent kind allowed)) runs writes count = (
    said,
    ending,
    status_is,
    subst (λ n. CompletesAgent ending said.due n after.net.faults) (sym net_is)
        (subst (λ n. CompletesAgent ending said.due (dial.faults net) n) (sym net_after_is)
        (completes-agent kind allowed said ending (dial_seen dial link net) (dial_seen dial link net_after) (unfailed writes count) runs)),
    all_said ending said before.sink after.sink none.sink writes,
  )
  completes None runs writes count = tt
