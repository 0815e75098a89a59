-- What comes of a question that the policies of a commit leave to the agent of a kind.
use Rattle.std.specs.Prelude.{◌≡◌, ℕ, true, false, List, [], ◌∷◌, Option, Some, None, Ok, Err}
use Rattle.link_ports.specs.LinkMarks.{LinkMarks}
use Rattle.cynara_keys.specs.Key.{Question}
use Rattle.cynara_keys.specs.declared.results.Kind.{Kind}
use Rattle.agent_table.specs.declared.refusals.PutRefusal.{PutRefusal}
use Rattle.agent_table.specs.declared.refusals.PutRefusal.TheVariants.{NoAgent as NoneThere, Full, Spent}
use Rattle.desk_world.specs.Agents.{put_as}
use Rattle.desk_world.specs.Links.{settled}
use Rattle.desk_world.specs.Limits.{most_waiting, most_entries}
use Rattle.desk_world.specs.declared.agent_entries.EntryState.TheVariants.{Gone as HasGone, Answered as IsAnswered}
use Rattle.desk_world.specs.declared.replies.Reply.{Reply}
use Rattle.desk_world.specs.declared.links.Reading.TheVariants.{Ready}
use Rattle.server_hall.specs.Call.{AskResult, AskMade}
use Rattle.server_hall.specs.Tally.{Tally, after_ask}
use Rattle.server_hall.specs.Told.{AppendsCalls}
use Rattle.server_hall.specs.Found.{found_down, MayCount}
use Rattle.server_hall.specs.declared.calls.HallCall.{HallCall}
use Rattle.server_hall.specs.declared.calls.HallCall.TheVariants.{Ask}
use Rattle.server_hall.specs.declared.refusals.AskRefusal.TheVariants.{Put, Gone, Stopped as AskStopped, Lost, Withdrawn}
use Rattle.door_frames.specs.declared.endings.Ended.{Ended}
use Rattle.door_frames.specs.declared.endings.Ended.TheVariants.{Closed, Stopped, Memory, Strayed}
use Rattle.client_door.specs.Check.{reply_of}
use Rattle.client_door.specs.declared.agent_replies.AgentReply.{AgentReply}

-- The question was not put, which leads to this reply: the one that the world of events reads then.
abbrev pub LeadsToReply : ℕ → Kind → PutRefusal → Reply → Type 0
LeadsToReply commit kind (NoneThere other) reply = Ready reply ≡ put_as false None 0 commit kind
LeadsToReply commit kind Full reply = Ready reply ≡ put_as true (Some most_waiting) 0 commit kind
LeadsToReply commit kind Spent reply = Ready reply ≡ put_as true (Some most_entries) 0 commit kind
LeadsToReply commit kind refusal reply = ⊥

-- The call of `ask` for the question gave what leads to this reply. An answer and an agent that left lead to what the world
-- of events replies for an entry of its log that is answered or gone; and an answer is one to this very question.
abbrev pub LeadsTo : ℕ → Kind → Question → AskResult → Reply → Type 0
LeadsTo commit kind question (Ok answered) reply =
    (answered.1.question ≡ question) × (settled commit kind answered.0 (IsAnswered answered.1.allowed) ≡ Some reply)
LeadsTo commit kind question (Err (Gone number)) reply = settled commit kind number HasGone ≡ Some reply
LeadsTo commit kind question (Err (Put refusal)) reply = LeadsToReply commit kind refusal reply
LeadsTo commit kind question (Err other) reply = ⊥

-- the call found the hall stopped
abbrev pub FindsStop : AskResult → Type 0
FindsStop result = result ≡ Err AskStopped

-- the call lost the question of the number, or found another one there
abbrev pub Strays : Question → ℕ → Option Question → AskResult → Type 0
Strays question number None result = result ≡ Err (Lost number)
Strays question number (Some found) (Ok answered) =
    (answered.0 ≡ number) × (found ≡ answered.1.question) × (found ≡ question → ⊥)
Strays question number (Some found) (Err refusal) = ⊥

-- the call found the asker's link down, and took the question of the number away
abbrev pub IsWithdrawn : ℕ → AskResult → Type 0
IsWithdrawn number result = result ≡ Err (Withdrawn number)

-- ---- one call

abbrev pub ask_made : Kind → Question → List ℕ → AskResult → AskMade
ask_made kind question metadata result =
    record { kind = kind; question = question; metadata = metadata; result = result }

-- one call of `ask` was made on the hall, and no other
pub record Asked (call : AskMade) (tally : Tally) (calls : Option (List HallCall)) (tally_after : Tally)
    (calls_after : Option (List HallCall)) : Type 0 where
  pub counted : tally_after ≡ after_ask call tally
  pub told : AppendsCalls calls (Ask call ∷ []) calls_after

-- the question was put, and this reply comes of it
abbrev pub AsksOnce : ℕ → Kind → Question → List ℕ → Tally → Option (List HallCall) → Tally → Option (List HallCall)
    → AgentReply → Type 0
AsksOnce commit kind question metadata tally calls tally_after calls_after reply = (result : AskResult)
    × Asked (ask_made kind question metadata result) tally calls tally_after calls_after
    × LeadsTo commit kind question result (reply_of reply)

-- why no reply comes of it; as closed a connection ends whose question was withdrawn
abbrev pub IsInVain : Question → AskResult → Ended → Type 0
IsInVain question result Closed = (number : ℕ) × IsWithdrawn number result
IsInVain question result Stopped = FindsStop result
IsInVain question result Memory = Unit {0}
IsInVain question result (Strayed number found) = Strays question number found result
IsInVain question result other = ⊥

-- the question was put and no reply comes of it; or memory was wanting before
pub data AsksInVain (kind : Kind) (question : Question) (metadata : List ℕ) (tally : Tally) (calls : Option (List HallCall))
    (tally_after : Tally) (calls_after : Option (List HallCall)) (ended : Ended) : Type 0 where
  unasked : ended ≡ Memory → tally_after ≡ tally → calls_after ≡ calls
      → AsksInVain kind question metadata tally calls tally_after calls_after ended
  vain : (result : AskResult) → Asked (ask_made kind question metadata result) tally calls tally_after calls_after
      → IsInVain question result ended → AsksInVain kind question metadata tally calls tally_after calls_after ended

-- The asker's link stands as before, unless the question was withdrawn, which closes the connection: then it was found down, for
-- which its count of failures may have risen by one.
abbrev pub LooksAtLink : Ended → LinkMarks → ℕ → LinkMarks → ℕ → Type 0
LooksAtLink Closed marks faults marks_after faults_after =
    (marks_after ≡ found_down marks) × MayCount faults faults_after
LooksAtLink ended marks faults marks_after faults_after = (marks_after ≡ marks) × (faults_after ≡ faults)
