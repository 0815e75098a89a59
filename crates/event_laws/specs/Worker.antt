-- How a worker of clients stands for a connection of the world.
use Rattle.std.specs.Prelude.{◌≡◌, ℕ, true, false, Some, None, Ok, Err, slice_get}
use Rattle.cynara_keys.specs.declared.results.Kind.{Kind}
use Rattle.agent_table.specs.declared.refusals.PutRefusal.{PutRefusal}
use Rattle.agent_table.specs.declared.refusals.PutRefusal.TheVariants.{NoAgent as NoneThere, Full, Spent}
use Rattle.desk_state.specs.DeskState.{DeskState}
use Rattle.client_door.specs.Reading.{reading}
use Rattle.client_door.specs.declared.checks.Check.{Check}
use Rattle.server_hall.specs.Call.{AskResult}
use Rattle.server_hall.specs.declared.refusals.AskRefusal.TheVariants.{Put, Gone}
use Rattle.desk_world.specs.World.{World, entry_at}
use Rattle.desk_world.specs.Agents.{put_as}
use Rattle.desk_world.specs.Limits.{most_waiting, most_entries}
use Rattle.desk_world.specs.declared.agent_entries.AgentEntry.{AgentEntry}
use Rattle.desk_world.specs.declared.agent_entries.EntryState.{EntryState}
use Rattle.desk_world.specs.declared.agent_entries.EntryState.TheVariants.{Gone as HasGone, Answered as IsAnswered}
use Rattle.desk_world.specs.declared.links.Asked.{Asked}
use Rattle.desk_world.specs.declared.links.Link.{Link}
use Rattle.desk_world.specs.declared.links.Reading.TheVariants.{Nothing, Waiting}
use Rattle.desk_world.specs.declared.replies.Reply.{Reply}

-- the connection, which has entered, has this check to be answered, of this ask
pub record HasCheck (world : World) (link : ℕ) (found : Link) (ask : ℕ) (check : Check) : Type 0 where
  pub there : slice_get world.links link ≡ Some found
  pub question : found.question ≡ Some ask
  pub asked : Asked
  pub asks : slice_get world.asks ask ≡ Some asked
  pub same : asked.question ≡ check.question
  pub simple : asked.simple ≡ check.simple
  pub commit : ℕ
  pub entered : found.entered ≡ Some commit

-- the connection waits for this entry of the agents' log of its run, which stands so
pub record Awaits (world : World) (found : Link) (commit : ℕ) (kind : Kind) (number : ℕ)
    (state : EntryState) : Type 0 where
  pub waits : found.reading ≡ Waiting commit kind number
  pub entry : AgentEntry
  pub logged : entry_at found.run number world.entries ≡ Some entry
  pub stands : entry.state ≡ state

-- what the connection has read, where its question was not put for this reason
abbrev pub IsNotPut : Link → ℕ → Kind → PutRefusal → Type 0
IsNotPut found commit kind (NoneThere other) = found.reading ≡ put_as false None 0 commit kind
IsNotPut found commit kind Full = found.reading ≡ put_as true (Some most_waiting) 0 commit kind
IsNotPut found commit kind Spent = found.reading ≡ put_as true (Some most_entries) 0 commit kind
IsNotPut found commit kind refusal = ⊥

-- the world has what asking an agent gave
abbrev pub HasOutcome : World → Link → ℕ → Kind → AskResult → Type 0
HasOutcome world found commit kind (Ok answered) =
    Awaits world found commit kind answered.0 (IsAnswered answered.1.allowed)
HasOutcome world found commit kind (Err (Gone number)) = Awaits world found commit kind number HasGone
HasOutcome world found commit kind (Err (Put refusal)) = IsNotPut found commit kind refusal
HasOutcome world found commit kind (Err other) = ⊥

-- the connection, once its check was read at this state
abbrev pub once_read : Check → DeskState → Link → Link
once_read check desk found = record found { seen = desk.commit; reading = reading desk check }

-- the connection, once this reply was sent
abbrev pub once_sent : ℕ → Reply → Link → Link
once_sent ask reply found =
    record found { question = None; reading = Nothing; reply = Some (record { ask = ask; reply = reply }) }
