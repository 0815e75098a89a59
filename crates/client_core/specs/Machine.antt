-- A machine of any of the three kinds: each call does what it does of that kind.
use Rattle.std.specs.Prelude.{◌≡◌, ℕ, List}
use Rattle.client_core.specs.Asking as client
use Rattle.client_core.specs.Admin as admin
use Rattle.client_core.specs.Agent as agent
use Rattle.client_core.specs.declared.machines.Machine.{Machine}
use Rattle.client_core.specs.declared.machines.Machine.TheVariants.{Client, Admin, Agent}
use Rattle.client_core.specs.declared.steps.Step.{Step}

abbrev pub Dialled : Step → Machine → Machine → Type 0
Dialled answer (Client old) (Client new) = client.Dialled answer old new
Dialled answer (Admin old) (Admin new) = admin.Dialled answer old new
Dialled answer (Agent old) (Agent new) = agent.Dialled answer old new
Dialled answer old new = ⊥

abbrev pub Falls : Step → Machine → Machine → Type 0
Falls answer (Client old) (Client new) = client.Falls answer old new
Falls answer (Admin old) (Admin new) = admin.Falls answer old new
Falls answer (Agent old) (Agent new) = agent.Falls answer old new
Falls answer old new = ⊥

abbrev pub Comes : List ℕ → Step → Machine → Machine → Type 0
Comes bytes answer (Client old) (Client new) = client.Comes bytes answer old new
Comes bytes answer (Admin old) (Admin new) = admin.Comes bytes answer old new
Comes bytes answer (Agent old) (Agent new) = agent.Comes bytes answer old new
Comes bytes answer old new = ⊥

abbrev pub left : Machine → Machine
left (Client old) = Client (client.left old)
left (Admin old) = Admin (admin.cut old)
left (Agent old) = Agent (agent.cut old)

abbrev pub frame_in : Machine → List ℕ
frame_in (Client side) = side.frame
frame_in (Admin side) = side.frame
frame_in (Agent side) = side.frame

-- how many bytes may come next, at most
abbrev pub wanted_in : Machine → ℕ
wanted_in (Client side) = client.wanted_at side.stage
wanted_in (Admin side) = admin.wanted_at side.stage
wanted_in (Agent side) = agent.wanted_at side.stage
