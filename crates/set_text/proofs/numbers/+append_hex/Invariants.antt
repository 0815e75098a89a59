use Rattle.set_text.proofs.numbers.+append_hex.Given as goal

abbrev pub decreases-append_hex : goal.decreases-append_hex
decreases-append_hex l = l.number
