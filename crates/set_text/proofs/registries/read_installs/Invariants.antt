use Rattle.std.proofs.Common.{◌≡◌, ◌+◌, length}
use Rattle.app_registry.specs.Rules.{IsRegistry}
use Rattle.set_text.specs.Lines.{whole_lines, values_behind}
use Rattle.set_text.specs.Registry.{read_install, installs_of}
use Rattle.set_text.specs.parts.Standing.{HasPackages, counts_of}
use Rattle.set_text.proofs.registries.read_installs.Given as goal

-- the installs so far, and behind them what is left, are what the text gives
abbrev pub invariant-loop-rest : goal.invariant-loop-rest
invariant-loop-rest l = record {
  numbered : l.number ≡ length l.installs.items + 1;
  kept : IsRegistry l.users l.installs.items;
  noted : HasPackages l.packages l.installs.items;
  counted : l.counts ≡ counts_of l.installs.items;
  taken : values_behind (read_install l.users) l.installs.items (whole_lines l.rest) ≡ installs_of l.users l.text;
}

abbrev pub decreases-loop-rest : goal.decreases-loop-rest
decreases-loop-rest l = length l.rest
