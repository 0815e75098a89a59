use Rattle.std.proofs.Common.{rules}
use Rattle.std.proofs.lemmas.List.{take_rest}
use Rattle.std.proofs.lemmas.List.Sorted.{IsPartitionPoint-from_clause}
use Rattle.app_registry.specs.Install.{is_of_package}
use Rattle.app_registry.proofs.Packages.{own_first, all_of_package}
use Rattle.app_registry.proofs.look_ups.of_package.Goals as goal

pub returns : goal.returns
returns c =
    let name = c.args.package.now in
    let installs = c.args.installs.now in
    let start = c.place_of_package.result in
    let parted = c.place_of_package.ensures.parted in
    let behind = take_rest installs start in
    let own =
    IsPartitionPoint-from_clause (is_of_package name) _ c.partition_point-count.result
    c.partition_point-count.ensures.partitioned
    (rw behind (own_first name installs c.requires start parted)) (λ a r f called. search rules) in
    rw behind (all_of_package name installs c.requires start parted c.partition_point-count.result (rw behind at own))
