use Rattle.std.proofs.Common.{◌≡◌, take}
use Rattle.rule_templates.specs.Processes.{distinct_labels}
use Rattle.rule_templates.proofs.processes.process_labels.Given as goal

-- the labels of the installs so far
abbrev pub invariant-loop-install : goal.invariant-loop-install
invariant-loop-install l = l.labels.items ≡ distinct_labels (take l.install-index l.installs)
