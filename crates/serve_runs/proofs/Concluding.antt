-- How a run ends that has served.
use Rattle.std.proofs.Common.{◌≡◌, ◌∙◌, ◌≤◌, ◌<◌, inl, inr, ℕ, Bool, true, false, List, [], ◌∷◌, Option, refl, sym, arith}
use Rattle.std.specs.List.{AllByRecursion}
use Rattle.desk_ports.specs.Faults.{next_count}
use Rattle.desk_keeper.specs.declared.refusals.KeeperRefusal.{KeeperRefusal}
use Rattle.desk_keeper.specs.declared.refusals.KeeperRefusal.TheVariants.{StoreFault, Damaged as FolderDamaged, Memory as NoMemory}
use Rattle.folder_runs.specs.Mounting.{mounting_ending}
use Rattle.desk_server.specs.declared.workers.WorkerEnd.{WorkerEnd}
use Rattle.desk_server.specs.declared.workers.WorkerEnd.TheVariants.{Stopped, DoorFailed, Memory as LacksMemory, Alone, Unstarted}
use Rattle.run_endings.specs.declared.endings.Ending.{Ending}
use Rattle.run_endings.specs.declared.endings.Ending.TheVariants.{Done, Memory, Words, Line, Source, Sink, Disk, Net, Damaged, Reply}
use Rattle.run_endings.specs.declared.endings.Ending.TheVariants.{TooLong}
use Rattle.serve_runs.specs.Pool.{lacks_memory, is_deserted}
use Rattle.serve_runs.specs.Serving.{HasRisen, HasNotRisen, EndsService, EndsUnopened, IsUndone}
use Rattle.serve_runs.specs.parts.Administering.{EndsBy}

apart : {P : Type 0} (before after : ℕ) → HasRisen before after → HasNotRisen before after → P
apart before after risen unrisen = absurd (omega (arith, risen, unrisen))

-- workers that found memory and had threads, and whose doors did not fail, were stopped by an administrator, or by none
all_stopped : (ends : List WorkerEnd) (net net_now : ℕ) → lacks_memory ends ≡ false → is_deserted ends ≡ false → HasNotRisen net net_now
    → AllByRecursion (λ (end : WorkerEnd). end ≡ DoorFailed → HasRisen net net_now) ends
    → AllByRecursion (λ (end : WorkerEnd). end ≡ Stopped) ends
all_stopped [] net net_now found tended unrisen failed = tt
all_stopped (Stopped ∷ ends) net net_now found tended unrisen (one, more) =
    (refl, all_stopped ends net net_now found tended unrisen more)
all_stopped (DoorFailed ∷ ends) net net_now found tended unrisen (one, more) = apart net net_now (one refl) unrisen
all_stopped (LacksMemory ∷ ends) net net_now found tended unrisen failed = let wrong : ⊥ = cc in absurd wrong
all_stopped (Unstarted ∷ ends) net net_now found tended unrisen failed = let wrong : ⊥ = cc in absurd wrong
all_stopped (Alone ∷ ends) net net_now found tended unrisen failed = let wrong : ⊥ = cc in absurd wrong

pub concludes : (ending : Ending) (lacked alone : Bool) (ends : List WorkerEnd) (disk disk_now net net_now : ℕ)
    → lacked ≡ lacks_memory ends → alone ≡ is_deserted ends
    → AllByRecursion (λ (end : WorkerEnd). end ≡ DoorFailed → HasRisen net net_now) ends
    → EndsBy lacked alone disk disk_now net net_now ending → EndsService ending ends disk disk_now net net_now
concludes Done lacked alone ends disk disk_now net net_now is left failed (m, a, d, n) =
    (all_stopped ends net net_now (sym is ∙ m) (sym left ∙ a) n failed, d, n)
concludes Memory lacked alone ends disk disk_now net net_now is left failed (inl m) = inl (sym is ∙ m)
concludes Memory lacked alone ends disk disk_now net net_now is left failed (inr (a, d, n)) = inr (sym left ∙ a, d, n)
concludes Disk lacked alone ends disk disk_now net net_now is left failed (m, d) = (sym is ∙ m, d)
concludes Net lacked alone ends disk disk_now net net_now is left failed (m, d, n) = (sym is ∙ m, d, n)
concludes Words lacked alone ends disk disk_now net net_now is left failed by = absurd by
concludes (Line number) lacked alone ends disk disk_now net net_now is left failed by = absurd by
concludes Source lacked alone ends disk disk_now net net_now is left failed by = absurd by
concludes Sink lacked alone ends disk disk_now net net_now is left failed by = absurd by
concludes (Damaged file line) lacked alone ends disk disk_now net net_now is left failed by = absurd by
concludes Reply lacked alone ends disk disk_now net net_now is left failed by = absurd by
concludes (TooLong size) lacked alone ends disk disk_now net net_now is left failed by = absurd by

-- ---- nobody was served

pub mount_undone : (refusal : KeeperRefusal) → IsUndone (mounting_ending refusal)
mount_undone StoreFault = tt
mount_undone (FolderDamaged file line) = tt
mount_undone (NoMemory error) = tt

pub unopened_undone : (ending : Ending) (net net_now : ℕ) → EndsUnopened ending net net_now → IsUndone ending
unopened_undone Memory net net_now ends = tt
unopened_undone Net net net_now ends = tt
unopened_undone Done net net_now ends = absurd ends
unopened_undone Words net net_now ends = absurd ends
unopened_undone (Line number) net net_now ends = absurd ends
unopened_undone Source net net_now ends = absurd ends
unopened_undone Sink net net_now ends = absurd ends
unopened_undone Disk net net_now ends = absurd ends
unopened_undone (Damaged file line) net net_now ends = absurd ends
unopened_undone Reply net net_now ends = absurd ends
unopened_undone (TooLong size) net net_now ends = absurd ends
