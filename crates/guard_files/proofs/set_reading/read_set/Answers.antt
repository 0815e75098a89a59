use Rattle.std.proofs.Common.{◌≡◌, not, List, ℕ, Some, None, Ok, Err, sym, ◌∙◌, ap, subst}
use Rattle.std.specs.Prelude.{Vec, nat_eq}
use Rattle.std.specs.declared.alloc.Global.{Global}
use Rattle.std.specs.Option.{option_map}
use Rattle.std.specs.List.{list_all, starts_with}
use Rattle.std.proofs.lemmas.Bool.{and_parts}
use Rattle.desk_ports.specs.declared.file_sets.SetFile.{SetFile}
use Rattle.desk_ports.specs.FileMap.{names_of, NamesRise}
use Rattle.desk_ports.specs.Disk.{WhereTold}
use Rattle.guard_files.specs.OwnName.{list_name, is_listable}
use Rattle.guard_files.specs.ListFile.{listed, are_listable, is_old_list, version_text}
use Rattle.guard_files.specs.Recovery.{files_at}
use Rattle.guard_files.specs.Mounted.{placed, set_read}
use Rattle.guard_files.proofs.Lists.{NamesRise-from}
use Rattle.guard_files.proofs.Versions.{listed-listable, old_list-is}
use Rattle.guard_files.proofs.Reading.{unlisted, set_read-unlisted, set_read-bad_list, set_read-whole, set_read-absent, IfDamaged-more}
use Rattle.guard_files.proofs.set_reading.read_set.Goals as goal

pub returns-then-guarded-clause-damaged : goal.returns-then-guarded-clause-damaged
returns-then-guarded-clause-damaged g c before told =
    set_read-unlisted c.args.guarded before.current (sym (c.in-Ok-list_content.ensures.content before told) ∙ c.in_default.is)
    ∙ ap unlisted c.if-guarded.true
    ∙ ap (λ guarded. Err (placed guarded list_name)) (sym c.if-guarded.true)
    ∙ ap Err (sym c.in-Ok.ensures)

pub returns-in_default-clause-read : goal.returns-in_default-clause-read
returns-in_default-clause-read g c before told =
    set_read-unlisted c.args.guarded before.current (sym (c.in-Ok-list_content.ensures.content before told) ∙ c.in_default.is)
    ∙ ap unlisted c.if-guarded.false

pub returns-in_default-read-clause-damaged : goal.returns-in_default-read-clause-damaged
returns-in_default-read-clause-damaged g c before told =
    let some = sym (c.in-Ok-list_content.ensures.content before told) ∙ c.in-Some.is in
    let none : listed c.in-Some.bytes ≡ None =
    ap listed (sym c.as_slice.ensures) ∙ sym c.in-Ok-read_list.ensures ∙ ap (option_map (λ (names : Vec (List ℕ) Global). names.items)) c.in_default-read.is in
    set_read-bad_list c.args.guarded before.current c.in-Some.bytes some none ∙ ap Err (sym c.in-Ok.ensures)

pub read_files-requires : goal.read_files-requires
read_files-requires g c =
    let are : listed c.in-Some.bytes ≡ Some c.in-Some-read.list.items = ap listed (sym c.as_slice.ensures) ∙ sym c.in-Ok-read_list.ensures ∙ ap (option_map (λ (names : Vec (List ℕ) Global). names.items)) c.in-Some-read.is in
    ap (list_all is_listable) c.deref.ensures.value ∙ (and_parts _ _ (listed-listable c.in-Some.bytes c.in-Some-read.list.items are)).0

pub of-requires : goal.of-requires
of-requires g c =
    let are : listed c.in-Some.bytes ≡ Some c.in-Some-read.list.items = ap listed (sym c.as_slice.ensures) ∙ sym c.in-Ok-read_list.ensures ∙ ap (option_map (λ (names : Vec (List ℕ) Global). names.items)) c.in-Some-read.is in
    subst NamesRise (sym (c.in-Ok-read_files.ensures.named ∙ c.deref.ensures.value))
    (NamesRise-from c.in-Some-read.list.items (and_parts _ _ (listed-listable c.in-Some.bytes c.in-Some-read.list.items are)).1)

pub returns-in-Ok-read_files-clause-read : goal.returns-in-Ok-read_files-clause-read
returns-in-Ok-read_files-clause-read g c before told =
    let some = sym (c.in-Ok-list_content.ensures.content before told) ∙ c.in-Some.is in
    let are : listed c.in-Some.bytes ≡ Some c.in-Some-read.list.items = ap listed (sym c.as_slice.ensures) ∙ sym c.in-Ok-read_list.ensures ∙ ap (option_map (λ (names : Vec (List ℕ) Global). names.items)) c.in-Some-read.is in
    set_read-whole c.args.guarded before.current c.in-Some.bytes c.in-Some-read.list.items c.in-Ok-read_files.files.items some are
    (ap (files_at (placed c.args.guarded) before.current) (sym c.deref.ensures.value)
    ∙ c.in-Ok-read_files.ensures.read before (c.list_content.ensures.kept before told))
    ∙ ap (λ (set : List SetFile). Ok (Some set)) (sym c.of.ensures)

pub returns-clause-damaged : goal.returns-clause-damaged
returns-clause-damaged g c =
    let are : listed c.in-Some.bytes ≡ Some c.in-Some-read.list.items = ap listed (sym c.as_slice.ensures) ∙ sym c.in-Ok-read_list.ensures ∙ ap (option_map (λ (names : Vec (List ℕ) Global). names.items)) c.in-Some-read.is in
    IfDamaged-more c.in-Err-read_files.refusal
    (λ file. WhereTold (g.D.Disk.state c.list_content.new.disk) (λ before. files_at (placed c.args.guarded) before.current c.deref.result.now ≡ Err file))
    (λ file. WhereTold (g.D.Disk.state c.args.disk.now) (λ before. set_read c.args.guarded before.current ≡ Err file))
    (λ file is before told.
    set_read-absent c.args.guarded before.current c.in-Some.bytes c.in-Some-read.list.items file
    (sym (c.in-Ok-list_content.ensures.content before told) ∙ c.in-Some.is) are
    (ap (files_at (placed c.args.guarded) before.current) (sym c.deref.ensures.value)
    ∙ is before (c.list_content.ensures.kept before told)))
    c.in-Err-read_files.ensures.damaged

pub returns-in_default-clause-version : goal.returns-in_default-clause-version
returns-in_default-clause-version g c before told =
    ap is_old_list (sym c.in_default.is ∙ c.in-Ok-list_content.ensures.content before told)

pub returns-in-Ok-read_files-clause-listable : goal.returns-in-Ok-read_files-clause-listable
returns-in-Ok-read_files-clause-listable g c =
    let are : listed c.in-Some.bytes ≡ Some c.in-Some-read.list.items = ap listed (sym c.as_slice.ensures) ∙ sym c.in-Ok-read_list.ensures ∙ ap (option_map (λ (names : Vec (List ℕ) Global). names.items)) c.in-Some-read.is in
    ap are_listable (ap names_of c.of.ensures ∙ c.in-Ok-read_files.ensures.named ∙ c.deref.ensures.value)
    ∙ listed-listable c.in-Some.bytes c.in-Some-read.list.items are

pub returns-in-Ok-read_files-clause-version : goal.returns-in-Ok-read_files-clause-version
returns-in-Ok-read_files-clause-version g c before told =
    let are : listed c.in-Some.bytes ≡ Some c.in-Some-read.list.items = ap listed (sym c.as_slice.ensures) ∙ sym c.in-Ok-read_list.ensures ∙ ap (option_map (λ (names : Vec (List ℕ) Global). names.items)) c.in-Some-read.is in
    ap not (c.has_version.ensures ∙ ap (λ bytes. starts_with nat_eq bytes version_text) c.as_slice-in-Ok-read_files.ensures)
    ∙ sym (old_list-is c.in-Some.bytes c.in-Some-read.list.items are)
    ∙ ap is_old_list (sym c.in-Some.is ∙ c.in-Ok-list_content.ensures.content before told)
