use Rattle.std.proofs.Common.{◌≡◌, true, subst, rules, List, ℕ}
use Rattle.std.specs.List.{AllByRecursion}
use Rattle.app_registry.specs.Registry.{has_package}
use Rattle.set_text.proofs.Placing.{packages-there}
use Rattle.set_text.proofs.writing.push_load_files.Goals as goal

pub push_loads-requires : goal.push_loads-requires
push_loads-requires c =
    subst (AllByRecursion (λ (name : List ℕ). has_package c.args.desk.now.registry name ≡ true)) (search rules)
    (packages-there c.args.desk.now.registry)
