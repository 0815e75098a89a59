use Rattle.std.proofs.Common.{sym, ap, ◌∙◌}
use Rattle.std.proofs.lemmas.List.{take_rest}
use Rattle.line_reasons.proofs.Cuts.{cut_of_place, position-cut}
use Rattle.line_reasons.proofs.word_tests.cut_at.Goals as goal

pub returns-in-Some : goal.returns-in-Some
returns-in-Some c =
    rw take_rest (position-cut c.args.mark c.args.text.now ∙ ap (cut_of_place c.args.text.now) (sym c.in-Some.ensures))

pub returns-in-None : goal.returns-in-None
returns-in-None c = position-cut c.args.mark c.args.text.now ∙ ap (cut_of_place c.args.text.now) (sym c.in-None.ensures)
