use Rattle.std.proofs.Common.{◌≡◌, ◌++◌, length, true}
use Rattle.std.specs.List.{list_all}
use Rattle.cynara_keys.specs.Name.{is_name}
use Rattle.line_script.proofs.installs.name_words.Given as goal

-- the names so far, and behind them the words that are left, are the words that were there
abbrev pub invariant-loop-text : goal.invariant-loop-text
invariant-loop-text l = record {
  split : l.names.items ++ l.words ≡ l.fn.words;
  names : list_all is_name l.names.items ≡ true;
}

abbrev pub decreases-loop-text : goal.decreases-loop-text
decreases-loop-text l = length l.words
