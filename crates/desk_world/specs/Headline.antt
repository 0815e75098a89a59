-- The promise in one sentence: over every interleaving of checks, commits, hang-ups and stops each verdict, cached or
-- not, is the bucket evaluation of one committed state no older than any commit acknowledged before its question was
-- asked, or the agent's reply to that very question.
use Rattle.std.specs.Prelude.{◌≡◌, ◌≤◌, ℕ, Bool, List, length, Some, Ok, All}
use Rattle.cynara_keys.specs.Key.{Question}
use Rattle.desk_state.specs.DeskState.{DeskState}
use Rattle.desk_world.specs.World.{World, fresh, history, desk_at, root_answer, client_of}
use Rattle.desk_world.specs.Clients.{asked}
use Rattle.desk_world.specs.Events.{run}
use Rattle.desk_world.specs.Sound.{commit_of, LeavesTo, IsPutFor}
use Rattle.desk_world.specs.declared.agent_entries.EntryState.TheVariants.{Answered}
use Rattle.desk_world.specs.declared.events.Event.{Event}
use Rattle.desk_world.specs.declared.replies.Given.{Given}
use Rattle.desk_world.specs.declared.replies.Reply.{Reply}
use Rattle.desk_world.specs.declared.replies.Reply.TheVariants.{Judged, FromAgent, NotResolved}
use Rattle.desk_world.specs.declared.replies.Reply.TheVariants.{NoAgent, AgentGone, AgentFull}

-- the verdict that a reply gives, if it gives one: the evaluation at the committed state, or the agent's own reply to
-- the question that was put for this ask
abbrev pub IsVerdictAt : World → ℕ → ℕ → Question → DeskState → Reply → Type 0
IsVerdictAt world run ask question desk (Judged verdict) = verdict.answer ≡ root_answer desk question
IsVerdictAt world run ask question desk (FromAgent commit kind number allowed) =
    LeavesTo kind desk question
    × ((put : IsPutFor world run number ask question kind commit) × (put.entry.state ≡ Answered allowed))
-- no other reply is a verdict
IsVerdictAt world run ask question desk (NotResolved commit kind) = Unit {0}
IsVerdictAt world run ask question desk (NoAgent commit kind) = Unit {0}
IsVerdictAt world run ask question desk (AgentGone commit number) = Unit {0}
IsVerdictAt world run ask question desk (AgentFull commit kind most) = Unit {0}

-- one committed state, no older than this commit, at which the reply is a verdict
pub record IsVerdict (world : World) (oldest : ℕ) (question : Question) (given : Given) : Type 0 where
  pub desk : DeskState
  pub committed : desk_at (commit_of given.reply) (history world) ≡ Some desk
  pub no_older : oldest ≤ commit_of given.reply
  pub verdict : IsVerdictAt world given.run given.ask question desk given.reply

-- Any events, a client asks, and any events again: each reply that is given to this ask, from the cache or from the
-- service, is no older than what was acknowledged when it was asked, nor than what the client had been told.
abbrev pub Freshness : Type 0
Freshness =
    (desk : DeskState) (earlier later : List Event) (client : ℕ) (question : Question) (simple : Bool)
    (before after : World)
    → run (fresh desk) earlier ≡ Ok before → run (asked client question simple before) later ≡ Ok after
    → All (λ (given : Given).
    given.ask ≡ length before.asks
    → IsVerdict after before.acknowledged question given
    × IsVerdict after (client_of before client).told question given)
    after.given
