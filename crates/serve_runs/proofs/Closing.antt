-- Doors that are closed one after the other, and what that does to the count of their net.
use Rattle.std.proofs.Common.{◌≡◌, ◌∙◌, ◌≤◌, inr, ℕ, List, [], ◌∷◌, ◌++◌, Option, Some, refl, sym, ap, subst, append_assoc, append-nil}
use Rattle.std.proofs.Common.{arith}
use Rattle.std.specs.List.{AllByRecursion}
use Rattle.desk_ports.specs.Faults.{next_count}
use Rattle.link_ports.specs.NetCounts.{count_after_close}
use Rattle.link_ports.specs.Told.{AppendsTold}
use Rattle.link_ports.specs.declared.door_kinds.DoorKind.{DoorKind}
use Rattle.link_ports.specs.declared.door_kinds.DoorKind.TheVariants.{Admin}
use Rattle.desk_server.specs.Visit.{door_faults_after}
use Rattle.desk_server.specs.declared.workers.WorkerEnd.{WorkerEnd}
use Rattle.desk_server.specs.declared.workers.WorkerEnd.TheVariants.{DoorFailed}
use Rattle.run_endings.specs.declared.endings.Ending.{Ending}
use Rattle.run_endings.specs.declared.endings.Ending.TheVariants.{Done, Memory, Words, Line, Source, Sink, Disk, Net, Damaged, Reply}
use Rattle.run_endings.specs.declared.endings.Ending.TheVariants.{TooLong}
use Rattle.serve_runs.specs.Serving.{ClosesDoors, ClosesOpened, HasRisen, EndsUnopened}
use Rattle.serve_runs.specs.parts.Pools.{CountsDoor}

pub closes_none : {E : Type 0} (told : Option (List E)) → ClosesDoors told [] told
closes_none told = λ after is. (after, is, sym (append-nil after))

pub closes_then : {E : Type 0} (old between new : Option (List E)) (first more : List E) → ClosesDoors old first between
    → ClosesDoors between more new → ClosesDoors old (first ++ more) new
closes_then {E} old between new first more some others = λ after told.
    let (middle, middle_told, after_is) = others after told in
    let (before, old_told, middle_is) = some middle middle_told in
    (before, old_told, after_is ∙ (ap (λ (doors : List E). doors ++ more) middle_is ∙ append_assoc before first more))

-- the door for administrators is closed again, and then what else was opened
pub closes_again : {E : Type 0} (kind : E → Option DoorKind) (old opened closed new : Option (List E)) (door : E) (others : List E)
    → opened ≡ old → kind door ≡ Some Admin → AppendsTold opened door closed → ClosesDoors closed others new → ClosesOpened kind old new
closes_again {E} kind old opened closed new door others same theirs appends closes = inr (
  door,
  others,
  theirs,
  closes_then old closed new (door ∷ []) others
      (subst (λ (told : Option (List E)). AppendsTold told door closed) same appends) closes,
)

pub risen_since : (before between after : ℕ) → before ≤ between → next_count between ≤ after → HasRisen before after
risen_since before between after no_less risen = omega (arith, no_less, risen)

-- why doors were not opened, seen from earlier on
pub unopened_since : (ending : Ending) (before between after : ℕ) → before ≤ between → EndsUnopened ending between after
    → EndsUnopened ending before after
unopened_since Memory before between after no_less ends = tt
unopened_since Net before between after no_less ends = risen_since before between after no_less ends
unopened_since Done before between after no_less ends = absurd ends
unopened_since Words before between after no_less ends = absurd ends
unopened_since (Line n) before between after no_less ends = absurd ends
unopened_since Source before between after no_less ends = absurd ends
unopened_since Sink before between after no_less ends = absurd ends
unopened_since Disk before between after no_less ends = absurd ends
unopened_since (Damaged f l) before between after no_less ends = absurd ends
unopened_since Reply before between after no_less ends = absurd ends
unopened_since (TooLong n) before between after no_less ends = absurd ends

-- a door whose `accept` failed raises the count of its net when it is closed
pub door_failed : (end : WorkerEnd) (faults before opened closed after : ℕ) → before ≤ opened → faults ≡ door_faults_after end 0
    → closed ≡ count_after_close faults opened → closed ≤ after → end ≡ DoorFailed → HasRisen before after
door_failed end faults before opened closed after no_less counted closes later is =
    let faults_is : faults ≡ next_count 0 = subst (λ (e : WorkerEnd). faults ≡ door_faults_after e 0) is counted in
    let closed_is : closed ≡ next_count opened = subst (λ (n : ℕ). closed ≡ count_after_close n opened) faults_is closes in
    risen_since before opened after no_less (subst (λ (n : ℕ). n ≤ after) closed_is later)

-- ---- doors that failed, over a longer time

pub counts_within : {E : Type 0} (faults : E → ℕ) (doors : List E) (first before after last : ℕ) → first ≤ before → after ≤ last
    → AllByRecursion (λ (door : E). CountsDoor (faults door) before after) doors
    → AllByRecursion (λ (door : E). CountsDoor (faults door) first last) doors
counts_within faults [] first before after last earlier later counts = tt
counts_within faults (door ∷ doors) first before after last earlier later (one, more) = (
  (λ is. let risen = risen_since first before after earlier (one is) in omega (arith, risen, later)),
  counts_within faults doors first before after last earlier later more,
)

-- one more door is closed
pub counts_more : {E : Type 0} (faults : E → ℕ) (doors : List E) (door : E) (first before after : ℕ) → first ≤ before → before ≤ after
    → AllByRecursion (λ (one : E). CountsDoor (faults one) first before) doors → CountsDoor (faults door) before after
    → AllByRecursion (λ (one : E). CountsDoor (faults one) first after) (doors ++ door ∷ [])
counts_more faults [] door first before after earlier later counts one = ((λ is. risen_since first before after earlier (one is)), tt)
counts_more faults (other ∷ doors) door first before after earlier later (each, more) one = (
  (λ is. let risen = each is in omega (arith, risen, later)),
  counts_more faults doors door first before after earlier later more one,
)
