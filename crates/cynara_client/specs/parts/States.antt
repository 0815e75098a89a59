-- A client as its machine, its link and its dialler.
use Rattle.std.specs.Prelude.{◌≡◌, true, false, List, [], Option, Some, None, is_some}
use Rattle.client_core.specs.Client.{Client, waiting}
use Rattle.client_core.specs.declared.stages.Asking.{Asking}
use Rattle.client_core.specs.declared.stages.Stage.TheVariants as stage
use Rattle.cynara_client.specs.State.{State}

abbrev pub seen : {N L : Type 0} → N → Option L → Client → State N L
seen dial link client = record { dial = dial; link = link; cache = client.cache; sequence = client.sequence }

-- no question is under way, and the machine knows whether a link is there
abbrev pub IsAtRest : {L : Type 0} → Option L → Client → Type 0
IsAtRest link client = (client.stage ≡ stage.Idle) × (client.is_linked ≡ is_some link)

abbrev pub IsAlone : Client → Type 0
IsAlone client = (client.stage ≡ stage.Idle) × (client.is_linked ≡ false)

abbrev pub IsLinked : Client → Type 0
IsLinked client = (client.stage ≡ stage.Idle) × (client.is_linked ≡ true)

-- the frame of the question is to be sent over this link; or else one is to be dialled, and nothing is kept
abbrev pub IsDue : {L : Type 0} → Option L → Asking → Client → Type 0
IsDue (Some link) asking client = (client.stage ≡ waiting asking) × (client.is_linked ≡ true)
IsDue None asking client = (client.stage ≡ stage.Dialling asking) × (client.cache.entries ≡ [])

abbrev pub IsDueAnew : Asking → Client → Type 0
IsDueAnew asking client = (client.stage ≡ stage.Dialling asking) × (client.cache.entries ≡ [])
