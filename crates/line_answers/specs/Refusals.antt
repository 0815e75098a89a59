-- Refusals that lines answer.
use Rattle.std.specs.Prelude.{Bool, true, false}
use Rattle.desk_state.specs.declared.refusals.Refusal.{Refusal}
use Rattle.desk_state.specs.declared.refusals.Refusal.TheVariants.{Memory}

-- a refusal names a rule; want of memory is no rule, and no line answers it
abbrev pub names_a_rule : Refusal → Bool
names_a_rule (Memory error) = false
names_a_rule broken = true
