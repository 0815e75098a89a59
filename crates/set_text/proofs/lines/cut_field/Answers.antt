use Rattle.std.proofs.Common.{sym}
use Rattle.std.proofs.lemmas.List.{take_rest}
use Rattle.set_text.specs.Lines.{is_semicolon}
use Rattle.smack_rules.proofs.FirstPassing.{slice_split-position, slice_split-no_position}
use Rattle.set_text.proofs.lines.cut_field.Goals as goal

pub returns-in-Some-clause-fields : goal.returns-in-Some-clause-fields
returns-in-Some-clause-fields c = rw take_rest (slice_split-position is_semicolon _ _ (sym c.in-Some.ensures.place))

pub returns-in-None-clause-fields : goal.returns-in-None-clause-fields
returns-in-None-clause-fields c = slice_split-no_position is_semicolon _ (sym c.in-None.ensures.place)
