use Rattle.std.proofs.Common.{sym}
use Rattle.std.proofs.lemmas.List.{take_rest}
use Rattle.smack_rules.specs.Words.{is_blank}
use Rattle.smack_rules.proofs.FirstPassing.{slice_split-position, slice_split-no_position}
use Rattle.smack_rules.proofs.words.split_at_blank.Goals as goal

pub returns-in-Some-clause-parts : goal.returns-in-Some-clause-parts
returns-in-Some-clause-parts c = rw take_rest (slice_split-position is_blank _ _ (sym c.in-Some.ensures.place))

pub returns-in-None-clause-parts : goal.returns-in-None-clause-parts
returns-in-None-clause-parts c = slice_split-no_position is_blank _ (sym c.in-None.ensures.place)
