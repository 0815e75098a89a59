use Rattle.std.proofs.Common.{◌≡◌, ◌++◌, ◌∷◌, [], ◌+◌, take, sym, ap, ◌∙◌}
use Rattle.std.proofs.lemmas.List.{take_more}
use Rattle.rule_templates.specs.Processes.{distinct_labels}
use Rattle.rule_templates.specs.parts.Last.{tail_of}
use Rattle.rule_templates.proofs.ProcessesMade.{labels-snoc}
use Rattle.rule_templates.proofs.processes.process_labels.Goals as goal

pub loop-install-preserved : goal.loop-install-preserved
loop-install-preserved c =
    let installs = c.args.installs.now in
    let i = c.loop-install.install-index in
    let install = c.install-item.result in
    let before = take i installs in
    let more : take (i + 1) installs ≡ before ++ install ∷ [] =
    take_more installs i install c.loop-install-test.true
    ∙ ap (λ install. before ++ install ∷ []) (sym c.install-item.is) in
    let label = c.in_ok-install_label.ensures in
    c.in_ok-push_label.ensures
    ∙ (λ k. c.loop-install.invariant k ++ tail_of (c.loop-install.invariant k) (label k))
    ∙ sym (labels-snoc before install) ∙ sym (ap distinct_labels more)
