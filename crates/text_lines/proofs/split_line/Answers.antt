use Rattle.std.proofs.Common.{sym, ap, ◌∙◌}
use Rattle.text_lines.specs.Lines.{lines_of}
use Rattle.text_lines.proofs.Pieces.{lines_of-newline, lines_of-last}
use Rattle.text_lines.proofs.split_line.Goals as goal

pub returns-in-Some-clause-line : goal.returns-in-Some-clause-line
returns-in-Some-clause-line c =
    ap lines_of (c.in-Some.ensures.cut) ∙ lines_of-newline _ _ c.in-Some.ensures.first

pub returns-in-None-clause-line : goal.returns-in-None-clause-line
returns-in-None-clause-line c = lines_of-last _ c.in-None.ensures.none (sym c.is_empty.ensures ∙ c.if-is_empty.false)
