-- What holds of a call that failed.
use Rattle.std.proofs.Common.{OnErr, Result, Ok, Err}

pub on_err : {T E P : Type 0} (result : Result T E) → P → OnErr result P
on_err (Ok value) fact = tt
on_err (Err error) fact = fact

pub on_err-map : {T E P Q : Type 0} (result : Result T E) → (P → Q) → OnErr result P → OnErr result Q
on_err-map (Ok value) next fact = tt
on_err-map (Err error) next fact = next fact
