-- When a reply that a client was given is right.
use Rattle.std.specs.Prelude.{◌≡◌, ◌≤◌, ℕ, true, Some, All, slice_get}
use Rattle.cynara_keys.specs.PolicyResult.{is_agent}
use Rattle.cynara_keys.specs.Key.{Question}
use Rattle.cynara_keys.specs.declared.results.Kind.{Kind}
use Rattle.desk_state.specs.DeskState.{DeskState}
use Rattle.desk_world.specs.World.{World, history, desk_at, root_outcome, root_answer, entry_at}
use Rattle.desk_world.specs.declared.agent_entries.AgentEntry.{AgentEntry}
use Rattle.desk_world.specs.declared.agent_entries.EntryState.TheVariants.{Gone, Answered}
use Rattle.desk_world.specs.declared.links.Asked.{Asked}
use Rattle.desk_world.specs.declared.replies.Given.{Given}
use Rattle.desk_world.specs.declared.replies.Reply.{Reply}
use Rattle.desk_world.specs.declared.replies.Reply.TheVariants.{Judged, FromAgent, NotResolved}
use Rattle.desk_world.specs.declared.replies.Reply.TheVariants.{NoAgent, AgentGone, AgentFull}

-- the commit of the policies that a reply was made under
abbrev pub commit_of : Reply → ℕ
commit_of (Judged verdict) = verdict.commit
commit_of (FromAgent commit kind number allowed) = commit
commit_of (NotResolved commit kind) = commit
commit_of (NoAgent commit kind) = commit
commit_of (AgentGone commit number) = commit
commit_of (AgentFull commit kind most) = commit

-- the commit is in the history, and no older than the floor of the ask
pub record IsFresh (world : World) (ask : ℕ) (commit : ℕ) : Type 0 where
  pub asked : Asked
  pub desk : DeskState
  pub asks : slice_get world.asks ask ≡ Some asked
  pub committed : desk_at commit (history world) ≡ Some desk
  pub no_older : asked.floor ≤ commit

-- the policies leave the question to an agent of the kind
pub record LeavesTo (kind : Kind) (desk : DeskState) (question : Question) : Type 0 where
  pub agent : is_agent kind.0 ≡ true
  pub decides : (root_outcome desk question).result.kind ≡ kind.0

-- the entry of this number in this run was put for this very ask and question, to the kind and under the commit
pub record IsPutFor (world : World) (run number ask : ℕ) (question : Question) (kind : Kind) (commit : ℕ) : Type 0 where
  pub entry : AgentEntry
  pub logged : entry_at run number world.entries ≡ Some entry
  pub same_ask : entry.ask ≡ ask
  pub same_question : entry.question ≡ question
  pub same_kind : entry.kind ≡ kind
  pub same_commit : entry.commit ≡ commit

-- what a reply says is so at the state, for the question of the ask; `run` is that of the link that carried it
abbrev pub IsRight : World → ℕ → ℕ → Question → DeskState → Reply → Type 0
IsRight world run ask question desk (Judged verdict) = verdict.answer ≡ root_answer desk question
IsRight world run ask question desk (FromAgent commit kind number allowed) =
    LeavesTo kind desk question
    × ((put : IsPutFor world run number ask question kind commit) × (put.entry.state ≡ Answered allowed))
IsRight world run ask question desk (NotResolved commit kind) = LeavesTo kind desk question
IsRight world run ask question desk (NoAgent commit kind) = LeavesTo kind desk question
IsRight world run ask question desk (AgentGone commit number) =
    (kind : Kind) × LeavesTo kind desk question
    × ((put : IsPutFor world run number ask question kind commit) × (put.entry.state ≡ Gone))
IsRight world run ask question desk (AgentFull commit kind most) = LeavesTo kind desk question

pub record IsSound (world : World) (run ask : ℕ) (reply : Reply) : Type 0 where
  pub fresh : IsFresh world ask (commit_of reply)
  pub right : IsRight world run ask fresh.asked.question fresh.desk reply

-- each reply that a client was given
abbrev pub AllSound : World → Type 0
AllSound world = All (λ (given : Given). IsSound world given.run given.ask given.reply) world.given
