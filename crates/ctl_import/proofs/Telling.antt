-- What is told of a policy that is left out.
use Rattle.std.proofs.Common.{◌≡◌, ◌∙◌, ℕ, List, ◌++◌, Result, Ok, Err, OnOk, codes, ap}
use Rattle.ctl_import.specs.LeftOut.{TellsLeftOut}

pub told : {E : Type 0} (result : Result (Unit {0}) E) (policy old between new : List ℕ) → between ≡ old ++ codes "# left out: "
    → OnOk result (new ≡ between ++ policy) → OnOk result (TellsLeftOut old new)
told (Ok done) policy old between new front added = (policy, added ∙ ap (λ bytes. bytes ++ policy) front)
told (Err error) policy old between new front added = tt
