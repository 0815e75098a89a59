-- The list of the calls of `ask`, `join`, `next` and `answer`, in order, where a hall tells it. One that told it may
-- stop to; one that does not tell it never begins to.
use Rattle.std.specs.Prelude.{◌≡◌, List, ◌++◌, Option, Some}
use Rattle.link_ports.specs.Told.{IfTold}
use Rattle.server_hall.specs.declared.calls.HallCall.{HallCall}

-- These calls were made behind those of before, where the list is still told.
abbrev pub AppendsCalls : Option (List HallCall) → List HallCall → Option (List HallCall) → Type 0
AppendsCalls old made new =
    IfTold new (λ after. (before : List HallCall) × (old ≡ Some before) × (after ≡ before ++ made))
