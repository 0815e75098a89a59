use Rattle.set_text.proofs.numbers.+is_spelt.Given as goal

abbrev pub decreases-is_spelt : goal.decreases-is_spelt
decreases-is_spelt l = l.number
