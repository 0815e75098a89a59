-- All that freshness depends on: the committed policy states, the connections with what is on its way, the clients with
-- their caches, and the agents' log.
use Rattle.std.specs.Prelude.{ℕ, ◌==◌, ◌&&◌, if◌then◌else◌, List, [], ◌∷◌, ◌++◌, Option, None, find, slice_set}
use Rattle.cynara_keys.specs.Key.{Question}
use Rattle.bucket_eval.specs.Evaluation.{Outcome}
use Rattle.bucket_eval.specs.Found.{answer_of}
use Rattle.bucket_eval.specs.Root.{root_outcome as outcome_of_root}
use Rattle.bucket_eval.specs.declared.answers.Answer.{Answer}
use Rattle.desk_state.specs.DeskState.{DeskState}
use Rattle.desk_world.specs.Client.{Client, unnamed}
use Rattle.desk_world.specs.declared.agent_entries.AgentEntry.{AgentEntry}
use Rattle.desk_world.specs.declared.clients.Slot.{Slot}
use Rattle.desk_world.specs.declared.links.Asked.{Asked}
use Rattle.desk_world.specs.declared.links.Link.{Link}
use Rattle.desk_world.specs.declared.replies.Given.{Given}

pub record World : Type 0 where
  -- the committed policy states: the oldest, and the others in the order of their commits
  pub first : DeskState
  pub later : List DeskState
  -- the greatest commit whose command was answered as done
  pub acknowledged : ℕ
  -- a state of which it is not known yet whether the disk holds it
  pub candidate : Option DeskState
  -- the commit that readers are given
  pub published : ℕ
  -- the roll's note: each connection that entered before it was hung up
  pub note : ℕ
  -- how often the service has stopped
  pub run : ℕ
  pub links : List Link
  -- each client that an event has named, with its number
  pub clients : List Slot
  pub asks : List Asked
  -- the replies that clients were given, in the order in which they were
  pub given : List Given
  -- the kinds that have an agent
  pub agents : List ℕ
  pub entries : List AgentEntry

abbrev pub fresh : DeskState → World
fresh desk = record {
  first = desk;
  later = [];
  acknowledged = desk.commit;
  candidate = None;
  published = desk.commit;
  note = desk.commit;
  run = 0;
  links = [];
  clients = [];
  asks = [];
  given = [];
  agents = [];
  entries = [];
}

-- ---- the committed states

abbrev pub history : World → List DeskState
history world = world.first ∷ world.later

-- the last of a state and those after it
abbrev pub latest_of : DeskState → List DeskState → DeskState
latest_of desk [] = desk
latest_of desk (next ∷ later) = latest_of next later

abbrev pub latest : World → DeskState
latest world = latest_of world.first world.later

-- the last commit
abbrev pub last : World → ℕ
last world = (latest world).commit

-- the committed state with this number, if there is one
abbrev pub desk_at : ℕ → List DeskState → Option DeskState
desk_at commit desks = find (λ (desk : DeskState). desk.commit == commit) desks

-- what the policies of a state answer to a question: nested evaluation from the root bucket
unfoldable pub root_outcome : DeskState → Question → Outcome
root_outcome desk question = outcome_of_root desk.database question

abbrev pub root_answer : DeskState → Question → Answer
root_answer desk question = answer_of (root_outcome desk question)

-- ---- changes

abbrev pub with_commit : DeskState → World → World
with_commit desk world = record world { later = world.later ++ desk ∷ [] }

abbrev pub with_link : ℕ → Link → World → World
with_link link changed world = record world { links = slice_set world.links link changed }

-- ---- clients by number

abbrev pub client_in : ℕ → List Slot → Client
client_in number [] = unnamed
client_in number (slot ∷ slots) = if slot.number == number then slot.client else client_in number slots

abbrev pub client_of : World → ℕ → Client
client_of world number = client_in number world.clients

-- the client of this number is this one from now on
abbrev pub put_client : ℕ → Client → List Slot → List Slot
put_client number client [] = record { number = number; client = client } ∷ []
put_client number client (slot ∷ slots) =
    if slot.number == number then record { number = number; client = client } ∷ slots
    else slot ∷ put_client number client slots

abbrev pub with_client : ℕ → Client → World → World
with_client number changed world = record world { clients = put_client number changed world.clients }

-- ---- the agents' log

-- the entry of this number in this run
abbrev pub entry_at : ℕ → ℕ → List AgentEntry → Option AgentEntry
entry_at run number entries = find (λ (entry : AgentEntry). entry.run == run && entry.number == number) entries
