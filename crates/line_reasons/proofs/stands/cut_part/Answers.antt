use Rattle.std.proofs.Common.{[], sym, ap, ◌∙◌}
use Rattle.std.proofs.lemmas.List.{take_rest}
use Rattle.line_reasons.proofs.RunCuts.{by_place, run-place}
use Rattle.line_reasons.proofs.stands.cut_part.Goals as goal

pub returns-in-Some-clause-parts : goal.returns-in-Some-clause-parts
returns-in-Some-clause-parts c =
    rw take_rest (λ forms. run-place c.args.blanks forms [] c.args.text.now ∙ ap
    (by_place c.args.blanks forms [] c.args.text.now) (sym c.in-Some.ensures.place))

pub returns-in-None-clause-parts : goal.returns-in-None-clause-parts
returns-in-None-clause-parts c =
    λ forms. run-place c.args.blanks forms [] c.args.text.now
    ∙ ap (by_place c.args.blanks forms [] c.args.text.now) (sym c.in-None.ensures.place)
