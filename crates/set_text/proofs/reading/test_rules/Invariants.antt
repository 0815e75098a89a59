use Rattle.std.proofs.Common.{◌≡◌, drop}
use Rattle.set_text.specs.Reading.{load_fault}
use Rattle.set_text.specs.parts.Parts.{beside}
use Rattle.set_text.proofs.reading.test_rules.Given as goal

-- what is left tells the fault
abbrev pub invariant-loop-package : goal.invariant-loop-package
invariant-loop-package l =
    load_fault l.files (beside l.registry l.template) (drop l.package-index l.packages)
    ≡ load_fault l.files (beside l.registry l.template) l.packages
