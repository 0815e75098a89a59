use Rattle.std.proofs.Common.{◌≡◌, ◌++◌, ◌∷◌, [], ◌+◌, take, sym, ap, ◌∙◌}
use Rattle.std.proofs.lemmas.List.{take_more}
use Rattle.app_registry.specs.Registry.{packages}
use Rattle.set_text.specs.parts.Standing.{tail_of}
use Rattle.set_text.proofs.ReadingCounts.{packages-snoc}
use Rattle.set_text.proofs.load_files.packages_of.Goals as goal

pub loop-install-preserved : goal.loop-install-preserved
loop-install-preserved c =
    let installs = c.args.installs.now in
    let i = c.loop-install.install-index in
    let install = c.install-item.result in
    let before = take i installs in
    let more : take (i + 1) installs ≡ before ++ install ∷ [] =
    take_more installs i install c.loop-install-test.true
    ∙ ap (λ install. before ++ install ∷ []) (sym c.install-item.is) in
    c.in_ok-push_package.ensures
    ∙ ap (λ names. names ++ tail_of names install.«package») c.loop-install.invariant
    ∙ sym (packages-snoc before install) ∙ sym (ap packages more)
