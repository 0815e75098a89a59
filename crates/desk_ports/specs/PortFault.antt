-- How calls of the outside answer, and what each answer does to the object's count of faults.
use Rattle.std.specs.Prelude.{ℕ, Result, Ok, Err}
use Rattle.desk_ports.specs.Faults.{next_count}
use Rattle.desk_ports.specs.declared.streams.Failed.{Failed}
use Rattle.desk_ports.specs.declared.port_faults.PortFault.{PortFault}
use Rattle.desk_ports.specs.declared.port_faults.PortFault.TheVariants.{Memory}

-- the count after a refusal: a failure of the machine raises it by one, and want of memory leaves it
abbrev pub count_after_refusal : PortFault → ℕ → ℕ
count_after_refusal (Memory error) count = count
count_after_refusal _ count = next_count count

-- the count after a call that may find no memory: an Ok leaves it
abbrev pub count_after : {T : Type 0} → Result T PortFault → ℕ → ℕ
count_after (Ok value) count = count
count_after (Err refusal) count = count_after_refusal refusal count

-- the count after a call that has no answer for want of memory: an Ok leaves it, and a failure raises it by one
abbrev pub count_after_call : {T : Type 0} → Result T Failed → ℕ → ℕ
count_after_call (Ok value) count = count
count_after_call (Err failed) count = next_count count
