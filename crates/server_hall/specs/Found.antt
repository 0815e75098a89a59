-- How a call that waits finds the link of whoever it waits with.
use Rattle.std.specs.Prelude.{◌≡◌, ◌≤◌, ℕ, true, Result, Err}
use Rattle.link_ports.specs.LinkMarks.{LinkMarks}
use Rattle.link_ports.specs.NetCounts.{MayCountFailure}
use Rattle.agent_table.specs.declared.table.Asked.{Asked}
use Rattle.server_hall.specs.declared.refusals.AskRefusal.{AskRefusal}
use Rattle.server_hall.specs.declared.refusals.AskRefusal.TheVariants.{Withdrawn}
use Rattle.server_hall.specs.declared.refusals.NextRefusal.{NextRefusal}
use Rattle.server_hall.specs.declared.refusals.NextRefusal.TheVariants.{Left}
use Rattle.server_hall.specs.Call.{AskResult}

-- of a link that was found down
abbrev pub found_down : LinkMarks → LinkMarks
found_down marks = record marks { is_down = true }

-- the link may have counted one failure
abbrev pub MayCount : ℕ → ℕ → Type 0
MayCount before after = MayCountFailure before after × (before ≤ after)

-- ---- asking

-- after an `ask` with this answer: the asker's link was found down exactly where the question was withdrawn
abbrev pub marks_after_ask : AskResult → LinkMarks → LinkMarks
marks_after_ask (Err (Withdrawn number)) marks = found_down marks
marks_after_ask result marks = marks

-- the link may count one failure where it was found down, and else counts none
abbrev pub CountsAsk : AskResult → ℕ → ℕ → Type 0
CountsAsk (Err (Withdrawn number)) before after = MayCount before after
CountsAsk result before after = after ≡ before

-- a refusal that whoever has a link which is up may get
abbrev pub IsOfTheTable : AskRefusal → Type 0
IsOfTheTable (Withdrawn number) = ⊥
IsOfTheTable refusal = Unit {0}

-- ---- being asked

-- after a `next` with this answer: the agent's link was found down exactly where the agent has left
abbrev pub marks_after_next : Result Asked NextRefusal → LinkMarks → LinkMarks
marks_after_next (Err Left) marks = found_down marks
marks_after_next result marks = marks

-- the link may count one failure where it was found down, and else counts none
abbrev pub CountsNext : Result Asked NextRefusal → ℕ → ℕ → Type 0
CountsNext (Err Left) before after = MayCount before after
CountsNext result before after = after ≡ before

-- a refusal that an agent with a link which is up may get
abbrev pub IsOfTheQueue : NextRefusal → Type 0
IsOfTheQueue Left = ⊥
IsOfTheQueue refusal = Unit {0}
