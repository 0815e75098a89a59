-- A state, and what the service answers to a question.
use Rattle.std.specs.Prelude.{◌≡◌, ◌==◌}
use Rattle.ctl_door.specs.declared.settling.Settled.{Settled}

-- It is told that both are of one commit exactly where they are.
abbrev pub IsToldOfOne : Settled → Type 0
IsToldOfOne settled = settled.is_of_one ≡ (settled.desk.commit == settled.verdict.commit)
