use Rattle.std.proofs.Common.{◌≡◌, ◌++◌, drop}
use Rattle.std.specs.List.{flat_map}
use Rattle.desk_state.specs.DeskState.{package_rules}
use Rattle.desk_state.specs.parts.Packages.{later_packages}
use Rattle.desk_state.proofs.desks.Desk.append_later_rules.Given as goal

abbrev pub invariant-loop-install : goal.invariant-loop-install
invariant-loop-install l =
    l.rules.items ++ flat_map (package_rules l.self) (later_packages l.last (drop l.install-index l.installs))
    ≡ l.fn.rules.items ++ flat_map (package_rules l.self) (later_packages l.fn.before l.installs)
