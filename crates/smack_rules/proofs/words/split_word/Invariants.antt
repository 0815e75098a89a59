use Rattle.std.proofs.Common.{◌≡◌, length}
use Rattle.smack_rules.specs.Words.{words_of}
use Rattle.smack_rules.proofs.words.split_word.Given as goal

-- what is left has the words of the line
abbrev pub invariant-loop-part : goal.invariant-loop-part
invariant-loop-part l = words_of l.rest ≡ words_of l.line

abbrev pub decreases-loop-part : goal.decreases-loop-part
decreases-loop-part l = length l.rest
