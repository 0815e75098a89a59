-- A folder that was mounted, and what a service leaves of it.
use Rattle.std.proofs.Common.{◌≡◌, inl, inr, ⊎_elim, ℕ, List, [], ◌∷◌, Option, Ok, refl, sym, subst, append-nil}
use Rattle.std.specs.List.{AllByRecursion}
use Rattle.desk_ports.specs.FileMap.{FileMap}
use Rattle.desk_ports.specs.Disk.{DiskState, MayLeave, WhereTold}
use Rattle.desk_ports.specs.Moments.{LeavesOnly}
use Rattle.desk_keeper.specs.Kept.{Standing, kept}
use Rattle.desk_keeper.proofs.Keeping.{standing-kept}
use Rattle.desk_keeper.specs.Keeper.{disk_of, held_of}
use Rattle.desk_keeper.specs.Keeping.{EndsKept}
use Rattle.guard_files.specs.Mounted.{RecoversAsAllowed}
use Rattle.desk_keeper.specs.declared.keeper.Keeper.{Keeper}
use Rattle.desk_state.specs.DeskState.{DeskState}
use Rattle.link_ports.specs.Traffic.{Traffic}
use Rattle.link_ports.specs.LinkMarks.{LinkMarks}
use Rattle.admin_door.specs.Serving.{Exchange}
use Rattle.admin_door.specs.Running.{LeadsTo, ComesFrom, IsReached, RunsOver}
use Rattle.desk_server.specs.Visit.{Visit, Works}
use Rattle.desk_server.specs.Administrators.{AdminState, VisitsAdministrators}
use Rattle.desk_server.specs.declared.workers.WorkerEnd.{WorkerEnd}
use Rattle.desk_server.proofs.AdminStates.{admin_state-holds}
use Rattle.run_endings.specs.Outside.{DiskSeen, disk_seen}
use Rattle.run_endings.specs.Saying.{silence}
use Rattle.run_endings.specs.declared.endings.Ending.TheVariants.{Memory}
use Rattle.folder_runs.specs.Folder.{RefusesFolder}
use Rattle.serve_runs.specs.Folder.{KeepsService, IsMadeBy, AreMadeBy}
use Rattle.serve_runs.specs.Serving.{opening}

module _ {D : Type 0} (state : D → Option DiskState) (moment : D → ℕ) (left_since : D → ℕ → FileMap → Type 0) (faults : D → ℕ)
    (old : D) (first last : Keeper D) where
  pub keeps_service : (frames : List Exchange) → WhereTold (state old) (λ before. kept before.current ≡ Ok first.desk)
      → WhereTold (state old) (λ before. EndsKept first.desk (held_of first) (state (disk_of first)))
      → WhereTold (state old) (λ before. LeavesOnly moment left_since old (disk_of first) (RecoversAsAllowed before))
      → RunsOver state moment left_since first last frames
      → WhereTold (state old)
      (λ entry. KeepsService entry (disk_seen state moment left_since faults old)
      (disk_seen state moment left_since faults (disk_of last)) first.desk frames)
  keeps_service frames stood settled moments runs entry told =
      let (mounted, told_then, is_kept) = settled entry told in
      let mounting = moments entry told in
      let through = runs mounted told_then (λ decided. is_kept) in
      record {
        stood = stood entry told;
        mounted = mounted;
        alone = is_kept.alone;
        mounted_at = moment (disk_of first);
        later = mounting.adds.later;
        within = through.leaves.adds.later;
        mounting = λ map was.
            ⊎_elim (λ before. inl (mounting.each map before)) inr
            (through.leaves.adds.nothing_else (moment old) map mounting.adds.later was);
        running = through.leaves.each;
        since = through.since;
        tells = through.tells;
        now = through.after;
        told = through.told;
        behind = through.behind;
      }

-- memory was wanting before the folder was looked at
module _ {D : Type 0} (state : D → Option DiskState) (moment : D → ℕ) (left_since : D → ℕ → FileMap → Type 0) (faults : D → ℕ)
    (disk : D) where
  pub refuses-early : ((left : FileMap) → WhereTold (state disk) (λ now. left_since disk (moment disk) left → MayLeave now left))
      → RefusesFolder silence Memory (disk_seen state moment left_since faults disk) (disk_seen state moment left_since faults disk)
  refuses-early only_now =
      record {
        refused = tt;
        silent = refl;
        moments = λ entry told map was.
            let may = only_now map entry told was in
            (map, may, refl, λ name foreign free. may name free);
      }

-- ---- what was published

module _ (mounted : DiskState) (start : DeskState) (alone : (map : FileMap) → MayLeave mounted map → kept map ≡ Ok start)
    (frames : List Exchange) where
  made-so : (front : List Exchange) (desk : DeskState) → ComesFrom mounted start front desk → LeadsTo (Ok start) front (Ok desk)
  made-so front desk (inl leads) = leads
  made-so front desk (inr (other, may, leads)) =
      subst (λ (at : Standing). LeadsTo at front (Ok desk)) (standing-kept other start (alone other may)) leads

  all-made : (published : List DeskState) → AllByRecursion (IsReached mounted start frames) published → AreMadeBy start frames published
  all-made [] all = tt
  all-made (desk ∷ published) ((front, back, cut, comes), all) =
      ((front, back, cut, made-so front desk comes), all-made published all)

-- each state that a service published is what the first few of its frames made of the state that was mounted
module _ {L : Type 0} (traffic : L → Option Traffic) (marks : L → LinkMarks) (faults : L → ℕ) where
  pub published-made : (entry : DiskState) (before after : DiskSeen) (start : DeskState) (last : AdminState) (disk : ℕ) (end : WorkerEnd)
      (ends : WorkerEnd → List (Visit L) → Type 0) (given given_now : Option (List L)) (count : ℕ)
      → Works (VisitsAdministrators traffic marks faults) ends marks faults end (opening start disk) last given given_now 0 count
      → KeepsService entry before after start last.frames → AreMadeBy start last.frames last.published
  published-made entry before after start last disk end ends given given_now count works keeps =
      let holds = admin_state-holds traffic marks faults keeps.mounted start (start ∷ []) last.frames keeps.tells (opening start disk)
      works.visits last [] works.in_turn (sym (append-nil last.frames))
      (record { comes = inl refl; more = []; published_is = refl; each = tt }) in
      subst (λ (published : List DeskState). AreMadeBy start last.frames published) (sym holds.published_is)
      (([], last.frames, refl, refl), all-made keeps.mounted start keeps.alone last.frames holds.more holds.each)
