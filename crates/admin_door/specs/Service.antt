-- What an administrator is told of the agents that are there and of the workers for clients.
use Rattle.std.specs.Prelude.{◌≡◌, List, [], ◌∷◌, ◌++◌, map, Option, Some}
use Rattle.agent_table.specs.Table.{KindsRise}
use Rattle.server_hall.specs.Service.{ServiceTold}
use Rattle.wire_fields.specs.declared.messages.Message.{Message}
use Rattle.wire_fields.specs.declared.messages.Message.TheVariants.{ReadService, AgentHere, ServiceEnd}

-- a reply for each kind that has an agent, and then the workers
abbrev pub service_replies : ServiceTold → List Message
service_replies told = map AgentHere told.kinds ++ ServiceEnd told.workers told.served ∷ []

-- these replies tell a service, each kind once, in rising order
abbrev pub IsService : List Message → Type 0
IsService replies = (told : ServiceTold) × KindsRise told.kinds × (replies ≡ service_replies told)

-- where the hall exposes what there is to tell, who asks is told that
abbrev pub TellsService : Message → Option ServiceTold → List Message → Type 0
TellsService ReadService (Some told) replies = replies ≡ service_replies told
TellsService message told replies = Unit {0}
