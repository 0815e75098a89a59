use Rattle.std.proofs.Common.{sym, ◌∙◌}
use Rattle.set_text.specs.parts.Sorts.{is_of}
use Rattle.set_text.proofs.ReadingFaults.{odd-none}
use Rattle.set_text.proofs.sets.odd_name.Goals as goal

pub returns-in_default : goal.returns-in_default
returns-in_default c =
    sym (odd-none (is_of c.args.sort) c.args.files.now c.loop-file.file-index c.file-item.result c.loop-file.rest.now
    c.loop-file-test.true c.file-item.is (sym c.is_of.ensures ∙ c.if-not-is_of.false) c.in_default.ensures.cases)
    ∙ c.loop-file.invariant
