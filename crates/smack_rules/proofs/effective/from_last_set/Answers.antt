use Rattle.std.proofs.Common.{◌-◌, sym, ◌∙◌, arith}
use Rattle.std.proofs.lemmas.List.{take_rest}
use Rattle.smack_rules.proofs.RuleLists.{effective-set}
use Rattle.smack_rules.proofs.effective.from_last_set.Goals as goal

pub returns-in-Some : goal.returns-in-Some
returns-in-Some c =
    rw take_rest
    (effective-set c.args.rules.now (c.loop-i.i - 1) c.index-rules-i.result c.in-Some.modes _ _
    (omega (arith, c.loop-i.auto.i)) c.index-rules-i.is (sym c.modes_set.ensures ∙ c.in-Some.is))
