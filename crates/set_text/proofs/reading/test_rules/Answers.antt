use Rattle.std.proofs.Common.{◌≡◌, ◌+◌, ℕ, List, true, drop, subst, sym, ap, ◌∙◌}
use Rattle.std.specs.Option.{option_or}
use Rattle.std.proofs.lemmas.List.Elements.{All-from_recursion, All-contains}
use Rattle.app_registry.specs.Registry.{has_package}
use Rattle.desk_state.specs.DeskState.{package_rules}
use Rattle.set_text.specs.Fault.{unlike}
use Rattle.set_text.specs.FileNames.{load_file}
use Rattle.set_text.specs.Reading.{load_fault}
use Rattle.set_text.specs.Template.{load_text}
use Rattle.set_text.specs.parts.Names.{RefusesTest}
use Rattle.set_text.specs.parts.Parts.{beside}
use Rattle.set_text.proofs.ReadingFaults.{drop-item, stop-first}
use Rattle.set_text.proofs.reading.test_rules.Goals as goal

pub test_package-requires-clause-installed : goal.test_package-requires-clause-installed
test_package-requires-clause-installed c =
    let installed : List ℕ → Type 0 = λ name. has_package c.args.registry.now name ≡ true in
    All-contains installed c.args.packages.now c.package-item.result
    (All-from_recursion installed c.args.packages.now c.requires.installed)
    (c.loop-package.package-index, c.loop-package-test.true, sym c.package-item.is)

pub returns-in-Err : goal.returns-in-Err
returns-in-Err c =
    let files = c.args.files.now in
    let desk = beside c.args.registry.now c.args.template.now in
    let packages = c.args.packages.now in
    let i = c.loop-package.package-index in
    let item = c.package-item.result in
    let first = unlike files (load_file item) (load_text (package_rules desk item)) in
    let rest = drop-item packages i item c.loop-package-test.true c.package-item.is in
    subst (RefusesTest c.in-Err.refusal) (sym (ap (load_fault files desk) rest) ∙ c.loop-package.invariant)
    (stop-first c.in-Err.refusal first (load_fault files desk (drop (i + 1) packages)) c.in-Err.ensures)

pub loop-package-preserved : goal.loop-package-preserved
loop-package-preserved c =
    let files = c.args.files.now in
    let desk = beside c.args.registry.now c.args.template.now in
    let packages = c.args.packages.now in
    let i = c.loop-package.package-index in
    let item = c.package-item.result in
    let rest = drop-item packages i item c.loop-package-test.true c.package-item.is in
    sym (ap (λ first. option_or first (load_fault files desk (drop (i + 1) packages))) c.in-Ok.ensures)
    ∙ sym (ap (load_fault files desk) rest) ∙ c.loop-package.invariant
