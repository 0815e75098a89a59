-- What went over a link since an earlier moment.
use Rattle.std.specs.Prelude.{◌≡◌, ℕ, List, ◌++◌, Option, Some}
use Rattle.link_ports.specs.Told.{IfTold}
use Rattle.link_ports.specs.Traffic.{Traffic}

-- These bytes were received and these sent, behind those of before, where the link tells them.
abbrev pub Carried : Option Traffic → Option Traffic → List ℕ → List ℕ → Type 0
Carried old new received sent =
    IfTold old (λ before. new ≡ Some (record { received = before.received ++ received; sent = before.sent ++ sent }))
