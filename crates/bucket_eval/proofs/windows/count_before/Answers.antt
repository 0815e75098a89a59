use Rattle.std.proofs.Common.{◌≡◌, get_or, None, Some, sym, ap, ◌∙◌, rules}
use Rattle.std.specs.Option.{option_copied}
use Rattle.std.proofs.lemmas.Option.{same_Some, slice_get-get_or}
use Rattle.std.proofs.lemmas.List.Sorted.{IsPartitionPoint-from_clause}
use Rattle.bucket_eval.specs.parts.Windows.{comes_before}
use Rattle.bucket_eval.proofs.Outside.{before-parted, none-before}
use Rattle.bucket_eval.proofs.windows.count_before.Goals as goal

pub returns-in-Some-clause-parted : goal.returns-in-Some-clause-parted
returns-in-Some-clause-parted c =
    IsPartitionPoint-from_clause (comes_before c.args.client.now) c.args.policies.now c.partition_point.result
    c.partition_point.ensures.partitioned (before-parted c.args.client.now c.args.policies.now c.requires)
    (λ a r f called. search rules)

pub returns-in_default-clause-parted : goal.returns-in_default-clause-parted
returns-in_default-clause-parted c =
    none-before c.args.client.now c.args.policies.now c.requires (λ d some.
    let is : Some c.in-Some.first.now ≡ Some (get_or c.args.policies.now 0 d) =
    c.in-Some.ensures.value ∙ slice_get-get_or c.args.policies.now 0 d some in
    sym (ap (comes_before c.args.client.now) (same_Some _ _ is)) ∙ sym c.if-comes_before.ensures)

pub returns-in_default-2-clause-parted : goal.returns-in_default-2-clause-parted
returns-in_default-2-clause-parted c =
    none-before c.args.client.now c.args.policies.now c.requires (λ d some.
    let none : None ≡ Some (get_or c.args.policies.now 0 d) =
    sym (ap option_copied c.in_default.is) ∙ c.first.ensures.value ∙ slice_get-get_or c.args.policies.now 0 d some in cc)
