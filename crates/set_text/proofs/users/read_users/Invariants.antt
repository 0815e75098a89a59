use Rattle.std.proofs.Common.{◌≡◌, ◌+◌, ◌≤◌, length}
use Rattle.set_text.specs.Lines.{whole_lines, values_behind}
use Rattle.set_text.specs.Registry.{read_user, users_of}
use Rattle.set_text.proofs.users.read_users.Given as goal

-- the users so far, and behind them what is left, are what the text gives
abbrev pub invariant-loop-rest : goal.invariant-loop-rest
invariant-loop-rest l = record {
  counted : l.number ≡ length l.users.items + 1;
  few : length l.users.items ≤ 64;
  taken : values_behind read_user l.users.items (whole_lines l.rest) ≡ users_of l.text;
}

abbrev pub decreases-loop-rest : goal.decreases-loop-rest
decreases-loop-rest l = length l.rest
