use Rattle.std.proofs.Common.{◌≡◌, take}
use Rattle.set_text.specs.Template.{load_text}
use Rattle.set_text.proofs.load_files.load_text.Given as goal

-- the lines so far
abbrev pub invariant-loop-rule : goal.invariant-loop-rule
invariant-loop-rule l = l.text.items ≡ load_text (take l.rule-index l.rules)
