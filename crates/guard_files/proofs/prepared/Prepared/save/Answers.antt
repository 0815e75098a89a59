use Rattle.std.proofs.Common.{◌≡◌, List, ◌∙◌, ap, sym, subst}
use Rattle.desk_ports.specs.declared.file_sets.SetFile.{SetFile}
use Rattle.desk_ports.specs.Moments.{LeavesOnly}
use Rattle.guard_files.specs.Settled.{Save, gone_names, IsInSave, EndsSettled}
use Rattle.guard_files.proofs.prepared.Prepared.save.Goals as goal

pub returns-in_err-save_set-clause-moments : goal.returns-in_err-save_set-clause-moments
returns-in_err-save_set-clause-moments g c before told held settled is =
    let set_is : c.as_slice.result.now ≡ c.args.self.set = c.as_slice.ensures.files ∙ ap (λ (save : Save). save.set) c.self.view_is in
    let gone_is : c.deref-2.result.now ≡ c.args.self.gone = c.deref-2.ensures.value ∙ ap (λ (save : Save). save.gone) c.self.view_is in
    subst (λ (set : List SetFile). LeavesOnly g.D.Disk.moment g.D.Disk.left_since c.args.disk.now c.save_set.new.disk (IsInSave before held set)) set_is
    (c.save_set.ensures.moments before told held settled (gone_is ∙ is ∙ ap (gone_names held) (sym set_is)))

pub returns-clause-moments : goal.returns-clause-moments
returns-clause-moments g c before told held settled is =
    let set_is : c.as_slice.result.now ≡ c.args.self.set = c.as_slice.ensures.files ∙ ap (λ (save : Save). save.set) c.self.view_is in
    let gone_is : c.deref-2.result.now ≡ c.args.self.gone = c.deref-2.ensures.value ∙ ap (λ (save : Save). save.gone) c.self.view_is in
    subst (λ (set : List SetFile). LeavesOnly g.D.Disk.moment g.D.Disk.left_since c.args.disk.now c.save_set.new.disk (IsInSave before held set)) set_is
    (c.save_set.ensures.moments before told held settled (gone_is ∙ is ∙ ap (gone_names held) (sym set_is)))

pub returns-clause-done : goal.returns-clause-done
returns-clause-done g c before told held settled is =
    let set_is : c.as_slice.result.now ≡ c.args.self.set = c.as_slice.ensures.files ∙ ap (λ (save : Save). save.set) c.self.view_is in
    let gone_is : c.deref-2.result.now ≡ c.args.self.gone = c.deref-2.ensures.value ∙ ap (λ (save : Save). save.gone) c.self.view_is in
    subst (λ (set : List SetFile). EndsSettled set (g.D.Disk.state c.save_set.new.disk)) set_is
    (c.in_ok-save_set.ensures.done before told held settled (gone_is ∙ is ∙ ap (gone_names held) (sym set_is)))
