use Rattle.std.proofs.Common.{◌≡◌, List, ℕ, Some, Err, ◌∙◌, ap}
use Rattle.desk_ports.specs.Disk.{WhereTold, with_all_durable}
use Rattle.guard_files.specs.Recovery.{recover}
use Rattle.guard_files.specs.Mounted.{set_read}
use Rattle.guard_files.specs.OwnName.{guard_name}
use Rattle.guard_files.specs.Holding.{is_among}
use Rattle.guard_files.proofs.Reading.{IfDamaged-more}
use Rattle.guard_files.proofs.MountMoments.{guard_is, recover-read}
use Rattle.guard_files.proofs.surveying.survey_of.Goals as goal

pub returns-in-Ok-read_set-clause-done : goal.returns-in-Ok-read_set-clause-done
returns-in-Ok-read_set-clause-done g c before told =
    let told_1 = c.in-Ok.ensures.durable before told in
    let told_2 = c.in-Ok-names.ensures.kept (with_all_durable before) told_1 in
    let listed = c.in-Ok-names.ensures.listed (with_all_durable before) told_1 in
    let guard = c.has_guard-guarded.ensures ∙ ap (λ (names : List (List ℕ)). is_among names guard_name) c.deref.ensures.value ∙ guard_is before.current c.in-Ok-names.listing.items listed in (
      c.in-Ok-read_set.ensures.kept (with_all_durable before) told_2,
      record {
        listed = listed;
        guard = guard;
        old = c.in-Ok-read_set.ensures.version (with_all_durable before) told_2;
        read = c.in-Ok-read_set.ensures.read (with_all_durable before) told_2;
      },
    )

pub returns-in-Err-read_set-clause-damaged : goal.returns-in-Err-read_set-clause-damaged
returns-in-Err-read_set-clause-damaged g c =
    IfDamaged-more c.in-Err-read_set.refusal
    (λ file. WhereTold (g.D.Disk.state c.names.new.self) (λ before. set_read c.has_guard-guarded.result before.current ≡ Err file))
    (λ file. WhereTold (g.D.Disk.state c.args.disk.now) (λ before. (recover before.current ≡ Err file) × (g.D.Disk.state c.read_set.new.disk ≡ Some (with_all_durable before))))
    (λ file is before told.
    let told_1 = c.in-Ok.ensures.durable before told in
    let told_2 = c.in-Ok-names.ensures.kept (with_all_durable before) told_1 in
    let listed = c.in-Ok-names.ensures.listed (with_all_durable before) told_1 in
    let guard = c.has_guard-guarded.ensures ∙ ap (λ (names : List (List ℕ)). is_among names guard_name) c.deref.ensures.value ∙ guard_is before.current c.in-Ok-names.listing.items listed in (
      recover-read before.current c.has_guard-guarded.result (Err file) guard (is (with_all_durable before) told_2),
      c.read_set.ensures.kept (with_all_durable before) told_2,
    ))
    c.in-Err-read_set.ensures.damaged
