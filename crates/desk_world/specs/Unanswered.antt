-- What becomes of a question that was withdrawn.
use Rattle.std.specs.Prelude.{◌≡◌, ℕ, List, None, Some, Ok, slice_get}
use Rattle.cynara_keys.specs.declared.results.Kind.{Kind}
use Rattle.desk_state.specs.DeskState.{DeskState}
use Rattle.desk_world.specs.World.{World, fresh, entry_at}
use Rattle.desk_world.specs.Agents.{withdraw}
use Rattle.desk_world.specs.Events.{run}
use Rattle.desk_world.specs.Links.{write}
use Rattle.desk_world.specs.declared.agent_entries.AgentEntry.{AgentEntry}
use Rattle.desk_world.specs.declared.agent_entries.EntryState.TheVariants.{Gone}
use Rattle.desk_world.specs.declared.events.Event.{Event}
use Rattle.desk_world.specs.declared.links.Link.{Link}
use Rattle.desk_world.specs.declared.links.Reading.TheVariants.{Waiting}

-- Any events, the worker of a link withdraws the question that it waits with, and any events again: no reply is sent on
-- the link any more, and the entry of the question is gone for good, so that no answer is to it.
abbrev pub Unanswered : Type 0
Unanswered =
    (desk : DeskState) (earlier later : List Event) (link commit number : ℕ) (kind : Kind) (found : Link)
    (before after last : World) → run (fresh desk) earlier ≡ Ok before → slice_get before.links link ≡ Some found
    → found.reading ≡ Waiting commit kind number → withdraw link before ≡ Some after → run after later ≡ Ok last
    → (write link last ≡ None)
    × ((entry : AgentEntry) × (entry_at before.run number last.entries ≡ Some entry) × (entry.state ≡ Gone))
