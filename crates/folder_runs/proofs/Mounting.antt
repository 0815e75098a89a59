-- A folder that was mounted, and what a run leaves of it.
use Rattle.std.proofs.Common.{◌≡◌, inl, inr, ⊎_elim, ℕ, List, [], Option, Ok, Err, refl}
use Rattle.desk_ports.specs.FileMap.{FileMap}
use Rattle.desk_ports.specs.Disk.{DiskState, MayLeave, WhereTold}
use Rattle.desk_ports.specs.Moments.{LeavesOnly}
use Rattle.desk_ports.specs.declared.file_sets.SetFile.{SetFile}
use Rattle.desk_ports.proofs.Moments.{LeavesOnly-more}
use Rattle.desk_ports.proofs.Appends.{Appended-none}
use Rattle.desk_state.specs.DeskState.{DeskState}
use Rattle.desk_keeper.specs.Kept.{kept}
use Rattle.desk_keeper.specs.declared.refusals.KeeperRefusal.{KeeperRefusal}
use Rattle.desk_keeper.specs.declared.refusals.KeeperRefusal.TheVariants.{StoreFault, Damaged as FolderDamaged, Memory as NoMemory}
use Rattle.desk_keeper.specs.Keeping.{EndsKept, IfDamaged, count_after_refusal}
use Rattle.guard_files.specs.Mounted.{RecoversAsAllowed}
use Rattle.line_script.specs.declared.steps.Step.{Step}
use Rattle.run_endings.specs.Ending.{disk_faults_after}
use Rattle.run_endings.specs.Outside.{SinkSeen, disk_seen}
use Rattle.run_endings.specs.Saying.{Said, silence, WritesAnswers}
use Rattle.folder_runs.specs.Folder.{RefusesFolder, KeepsFolder, StandsWithin}
use Rattle.folder_runs.specs.LoadRun.{LoadAnswers, LoadsRules}
use Rattle.folder_runs.specs.Keeping.{KeepsSteps}
use Rattle.folder_runs.specs.Mounting.{mounting_ending}
use Rattle.run_endings.specs.declared.endings.Ending.{Ending}
use Rattle.run_endings.specs.declared.endings.Ending.TheVariants as ending
use Rattle.folder_runs.proofs.Keeping.{rests}

module _ {D : Type 0} (state : D → Option DiskState) (moment : D → ℕ) (left_since : D → ℕ → FileMap → Type 0) (faults : D → ℕ)
    (old new : D) where
  -- the folder was mounted, and the run left of it what its steps do
  pub keeps-folder : (mid : D) (start : DeskState) (held : Option (List SetFile)) (end : Ending) (answered steps : List Step)
      → WhereTold (state old) (λ before. kept before.current ≡ Ok start)
      → WhereTold (state old) (λ before. EndsKept start held (state mid))
      → WhereTold (state old) (λ before. LeavesOnly moment left_since old mid (RecoversAsAllowed before))
      → KeepsSteps state moment left_since mid new start held end answered steps
      → WhereTold (state old)
      (λ entry. KeepsFolder entry (disk_seen state moment left_since faults old) (disk_seen state moment left_since faults new)
      end start answered steps)
  keeps-folder mid start held end answered steps mounted settled moments keeps entry told =
      let mounting = moments entry told in
      let running = keeps (settled entry told) in
      record {
        stood = mounted entry told;
        mounted_at = moment mid;
        later = mounting.adds.later;
        within = running.1.adds.later;
        mounting = λ map was.
            ⊎_elim (λ before. inl (mounting.each map before)) inr
            (running.1.adds.nothing_else (moment old) map mounting.adds.later was);
        running = running.1.each;
        ends = running.0;
      }

  -- no step was done
  pub keeps-none : (start : DeskState) (held : Option (List SetFile))
      → ((left : FileMap) → WhereTold (state new) (λ now. left_since new (moment new) left → MayLeave now left))
      → EndsKept start held (state new)
      → ((held : Option (List SetFile)) × EndsKept start held (state new))
      × LeavesOnly moment left_since new new (StandsWithin start [])
  keeps-none start held only_now begins = (
    (held, begins),
    LeavesOnly-more moment left_since new new (λ left. kept left ≡ Ok start) (StandsWithin start []) (λ map is. (0, is))
        (rests state moment left_since new start held only_now begins),
  )

  -- a mount that was refused, with a state as it was found
  pub refuses-folder : (refusal : KeeperRefusal)
      → IfDamaged refusal (λ fault. WhereTold (state old) (λ before. kept before.current ≡ Err fault))
      → WhereTold (state old) (λ before. LeavesOnly moment left_since old new (RecoversAsAllowed before))
      → RefusesFolder silence (mounting_ending refusal) (disk_seen state moment left_since faults old)
      (disk_seen state moment left_since faults new)
  refuses-folder StoreFault damaged moments =
      record { refused = tt; silent = refl; moments = λ entry told. (moments entry told).each }
  refuses-folder (FolderDamaged file line) damaged moments =
      record { refused = damaged; silent = refl; moments = λ entry told. (moments entry told).each }
  refuses-folder (NoMemory error) damaged moments =
      record { refused = tt; silent = refl; moments = λ entry told. (moments entry told).each }

  -- the folder was mounted, and the rules of its state were written, or a part of them
  module _ (said : Said) (start : DeskState) (held : Option (List SetFile))
      (mounted : WhereTold (state old) (λ before. kept before.current ≡ Ok start))
      (settled : WhereTold (state old) (λ before. EndsKept start held (state new)))
      (moments : WhereTold (state old) (λ before. LeavesOnly moment left_since old new (RecoversAsAllowed before)))
      (only_now : (left : FileMap) → WhereTold (state new) (λ now. left_since new (moment new) left → MayLeave now left)) where
    abbrev Loads : Ending → Type 0
    Loads end =
        LoadsRules said end (disk_seen state moment left_since faults old) (disk_seen state moment left_since faults new)

    loads-at : (end : Ending) → LoadAnswers start end said.due
        → KeepsSteps state moment left_since new new start held end [] [] → Loads end
    loads-at end answered keeps =
        record {
          start = start;
          answered = answered;
          folder = keeps-folder new start held end [] [] mounted settled moments keeps;
        }

    pub loads-rules : (end : Ending) → LoadAnswers start end said.due → Loads end
    loads-rules ending.Done l = loads-at ending.Done l (keeps-none start held only_now)
    loads-rules ending.Sink l = loads-at ending.Sink l (keeps-none start held only_now)
    loads-rules ending.Memory l = loads-at ending.Memory l (keeps-none start held only_now)
    loads-rules ending.Words l = absurd l
    loads-rules (ending.Line number) l = absurd l
    loads-rules ending.Source l = absurd l
    loads-rules ending.Disk l = absurd l
    loads-rules ending.Net l = absurd l
    loads-rules (ending.Damaged file line) l = absurd l
    loads-rules ending.Reply l = absurd l
    loads-rules (ending.TooLong size) l = absurd l

-- the disk's count, where the rules were written or not
pub loads-count : (end : Ending) (start : DeskState) (due : List ℕ) (faults : ℕ) → LoadAnswers start end due
    → faults ≡ disk_faults_after end faults
loads-count ending.Disk start due faults l = absurd l
loads-count end start due faults l = refl

-- the count behind a refused mount
pub refuses-count : (refusal : KeeperRefusal) (faults : ℕ)
    → count_after_refusal refusal faults ≡ disk_faults_after (mounting_ending refusal) faults
refuses-count StoreFault faults = refl
refuses-count (FolderDamaged file line) faults = refl
refuses-count (NoMemory error) faults = refl

-- nothing was due, and nothing written, where a mount was refused
pub refuses-silent : (refusal : KeeperRefusal) (sink : SinkSeen) → WritesAnswers (mounting_ending refusal) silence sink sink
refuses-silent StoreFault sink = record { taken = Appended-none sink.taken; are_written = (refl, refl) }
refuses-silent (FolderDamaged file line) sink = record { taken = Appended-none sink.taken; are_written = (refl, refl) }
refuses-silent (NoMemory error) sink = record { taken = Appended-none sink.taken; are_written = inl (refl, refl) }
