use Rattle.std.proofs.Common.{rules}
use Rattle.std.proofs.lemmas.List.Sorted.{IsPartitionPoint-from_clause}
use Rattle.app_registry.specs.Install.{comes_before}
use Rattle.app_registry.proofs.Search.{is_partitioned}
use Rattle.app_registry.proofs.look_ups.place_of_package.Goals as goal

pub returns-clause-parted : goal.returns-clause-parted
returns-clause-parted c =
    IsPartitionPoint-from_clause (comes_before c.args.package.now) c.args.installs.now c.partition_point.result
    c.partition_point.ensures.partitioned (is_partitioned c.args.package.now c.args.installs.now c.requires)
    (λ a r f called. search rules)
