use Rattle.std.proofs.Common.{◌≡◌, true, false, List, ℕ, Option, Some, None, Ok, sym, ◌∙◌, ap, subst}
use Rattle.desk_ports.specs.declared.file_sets.SetFile.{SetFile}
use Rattle.desk_ports.specs.FileMap.{FileMap, AreNamesOf}
use Rattle.desk_ports.specs.Moments.{AddsOnly}
use Rattle.guard_files.specs.OwnName.{guard_name, list_name}
use Rattle.guard_files.specs.ListFile.{is_old_list, IsCurrent}
use Rattle.guard_files.specs.Recovery.{backup_set, primary_set}
use Rattle.guard_files.specs.Mounted.{placed, set_read, StandsFor, EndsAtRest, IsFound}
use Rattle.guard_files.specs.declared.survey.Survey.{Survey}
use Rattle.guard_files.proofs.Versions.{current-read}
use Rattle.guard_files.proofs.MountMoments.{some_bytes, no_bytes}
use Rattle.guard_files.proofs.settling.settle.Goals as goal

-- what was found, where the guard stands
record Guarded (files : FileMap) (set : List SetFile) (names : List (List ℕ)) : Type 0 where
  bytes : List ℕ
  guard : files guard_name ≡ Some bytes
  backups : backup_set files ≡ Ok (Some set)
  listed : AreNamesOf files names

guarded_of : {files : FileMap} {found : Survey} (set : List SetFile) (listing : List (List ℕ)) → IsFound files found
    → found.guarded ≡ true → found.held ≡ Some set → listing ≡ found.listing.items → Guarded files set listing
guarded_of {files} {found} set listing is stands held same =
    let some = some_bytes (files guard_name) (sym is.guard ∙ stands) in
    record {
      bytes = some.0;
      guard = some.1;
      backups = ap (λ guarded. set_read guarded files) (sym stands) ∙ is.read ∙ ap Ok held;
      listed = subst (λ (names : List (List ℕ)). AreNamesOf files names) (sym same) is.listed;
    }

-- what was found, where no guard stands
record Unguarded (files : FileMap) (found : Survey) (names : List (List ℕ)) : Type 0 where
  none : files guard_name ≡ None
  reads : primary_set files ≡ Ok found.held
  listed : AreNamesOf files names
  current : found.is_old ≡ false → IsCurrent files

unguarded_of : {files : FileMap} {found : Survey} (listing : List (List ℕ)) → IsFound files found
    → found.guarded ≡ false → listing ≡ found.listing.items → Unguarded files found listing
unguarded_of {files} {found} listing is stands same =
    let reads : primary_set files ≡ Ok found.held = ap (λ guarded. set_read guarded files) (sym stands) ∙ is.read in
    record {
      none = no_bytes (files guard_name) (sym is.guard ∙ stands);
      reads = reads;
      listed = subst (λ (names : List (List ℕ)). AreNamesOf files names) (sym same) is.listed;
      current = λ new.
          current-read files found.held reads
          (ap (λ guarded. is_old_list (files (placed guarded list_name))) (sym stands) ∙ sym is.old ∙ new);
    }

pub returns-in-Ok-clause-moments : goal.returns-in-Ok-clause-moments
returns-in-Ok-clause-moments g c base told found =
    let facts = guarded_of c.in-Some.set c.deref.result.now found c.if-guarded.true c.in-Some.is c.deref.ensures.value in
    subst (λ (held : Option (List SetFile)). AddsOnly g.D.Disk.moment g.D.Disk.left_since c.args.disk.now
    c.finish_guarded.new.disk (StandsFor base.current held)) (sym c.in-Some.is)
    (c.finish_guarded.ensures.moments base facts.bytes told facts.guard facts.backups facts.listed)

pub returns-in-Err-clause-moments : goal.returns-in-Err-clause-moments
returns-in-Err-clause-moments g c base told found =
    let facts = guarded_of c.in-Some.set c.deref.result.now found c.if-guarded.true c.in-Some.is c.deref.ensures.value in
    subst (λ (held : Option (List SetFile)). AddsOnly g.D.Disk.moment g.D.Disk.left_since c.args.disk.now
    c.finish_guarded.new.disk (StandsFor base.current held)) (sym c.in-Some.is)
    (c.finish_guarded.ensures.moments base facts.bytes told facts.guard facts.backups facts.listed)

pub returns-in-Ok-clause-settled : goal.returns-in-Ok-clause-settled
returns-in-Ok-clause-settled g c base told found =
    let facts = guarded_of c.in-Some.set c.deref.result.now found c.if-guarded.true c.in-Some.is c.deref.ensures.value in
    subst (λ (held : Option (List SetFile)). EndsAtRest held (g.D.Disk.state c.finish_guarded.new.disk)) (sym c.in-Some.is)
    (c.in-Ok.ensures.done base facts.bytes told facts.guard facts.backups facts.listed)

pub returns-in-Ok-finish-clause-moments : goal.returns-in-Ok-finish-clause-moments
returns-in-Ok-finish-clause-moments g c base told found =
    let facts = unguarded_of c.deref-2.result.now found c.if-guarded.false c.deref-2.ensures.value in
    c.finish.ensures.moments base told facts.none facts.reads facts.listed

pub returns-in-Err-finish-clause-moments : goal.returns-in-Err-finish-clause-moments
returns-in-Err-finish-clause-moments g c base told found =
    let facts = unguarded_of c.deref-2.result.now found c.if-guarded.false c.deref-2.ensures.value in
    c.finish.ensures.moments base told facts.none facts.reads facts.listed

pub returns-in-Ok-finish-clause-settled : goal.returns-in-Ok-finish-clause-settled
returns-in-Ok-finish-clause-settled g c base told found =
    let facts = unguarded_of c.deref-2.result.now found c.if-guarded.false c.deref-2.ensures.value in
    c.in-Ok-finish.ensures.current base told facts.none facts.reads facts.listed (facts.current c.if-is_old.false)

pub returns-in-Ok-finish_old-clause-moments : goal.returns-in-Ok-finish_old-clause-moments
returns-in-Ok-finish_old-clause-moments g c base told found =
    let facts = unguarded_of c.deref-then-is_old.result.now found c.if-guarded.false c.deref-then-is_old.ensures.value in
    subst (λ (held : Option (List SetFile)). AddsOnly g.D.Disk.moment g.D.Disk.left_since c.args.disk.now
    c.finish_old.new.disk (StandsFor base.current held)) (sym c.in-Some-held.is)
    (c.finish_old.ensures.moments base told facts.none (facts.reads ∙ ap Ok c.in-Some-held.is) facts.listed)

pub returns-in-Err-finish_old-clause-moments : goal.returns-in-Err-finish_old-clause-moments
returns-in-Err-finish_old-clause-moments g c base told found =
    let facts = unguarded_of c.deref-then-is_old.result.now found c.if-guarded.false c.deref-then-is_old.ensures.value in
    subst (λ (held : Option (List SetFile)). AddsOnly g.D.Disk.moment g.D.Disk.left_since c.args.disk.now
    c.finish_old.new.disk (StandsFor base.current held)) (sym c.in-Some-held.is)
    (c.finish_old.ensures.moments base told facts.none (facts.reads ∙ ap Ok c.in-Some-held.is) facts.listed)

pub returns-in-Ok-finish_old-clause-settled : goal.returns-in-Ok-finish_old-clause-settled
returns-in-Ok-finish_old-clause-settled g c base told found =
    let facts = unguarded_of c.deref-then-is_old.result.now found c.if-guarded.false c.deref-then-is_old.ensures.value in
    subst (λ (held : Option (List SetFile)). EndsAtRest held (g.D.Disk.state c.finish_old.new.disk)) (sym c.in-Some-held.is)
    (c.in-Ok-finish_old.ensures.done base told facts.none (facts.reads ∙ ap Ok c.in-Some-held.is) facts.listed)
