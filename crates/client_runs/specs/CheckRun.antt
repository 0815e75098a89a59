-- What `check` and `simple` say, and how they end.
use Rattle.std.specs.Prelude.{◌≡◌, ◌≤◌, ◌⊎◌, ℕ, Bool, List, Result, Ok, Err}
use Rattle.link_ports.specs.declared.dials.Dial.{Ghosts as DialTells}
use Rattle.link_ports.specs.declared.links.Link.{Ghosts as LinkTells}
use Rattle.cynara_keys.specs.Key.{Question}
use Rattle.command_words.specs.declared.commands.AskedNames.{AskedNames}
use Rattle.wire_fields.specs.declared.messages.Framed.{Framed}
use Rattle.client_connection.specs.Asking.{counted}
use Rattle.client_connection.specs.declared.faults.Broken.{Broken}
use Rattle.client_runs.specs.AskedOnce.{first_frame, answer_in, AsksOnce, AskedOverOne}
use Rattle.cynara_client.specs.declared.refusals.Checked.{Checked}
use Rattle.cynara_client.specs.declared.refusals.ClientRefusal.{ClientRefusal}
use Rattle.run_endings.specs.Saying.{Said, silence}
use Rattle.run_endings.specs.declared.endings.Ending.{Ending}
use Rattle.run_endings.specs.declared.endings.Ending.TheVariants.{Done, Memory, Sink, Net, Reply}
use Rattle.client_runs.specs.AnswerLine.{line_of, Says}

-- the session is for those that ask more than once
abbrev pub question_of : AskedNames → Question
question_of asked = record { client = asked.client; user = asked.user; privilege = asked.privilege }

-- The question was asked once, and this is said of the answer; by what a dialler tells, and its links.
abbrev pub RunsCheck : {N L H : Type 0} → DialTells N L H → LinkTells L H → AskedNames → Bool → Said → Ending → N → N
    → Type 0
RunsCheck dial link asked simple said ending before after =
    (answer : Result Checked ClientRefusal)
    × AsksOnce link.faults link.marks link.traffic dial.faults dial.dials dial.given_back
    (first_frame simple (question_of asked))
    answer before after
    × Says answer said ending

-- The count of the dialler behind a run: three dials or links failed where the service was out of reach. Else up to
-- three were counted, the link of the reply among them.
abbrev pub IsCounted : Ending → ℕ → ℕ → Type 0
IsCounted Net before after = after ≡ counted 3 before
IsCounted ending before after = (rise : ℕ) × (rise ≤ 3) × (after ≡ counted rise before)

-- How a run may end. It reads no source and touches no disk, so that no call of them ends it.
abbrev pub EndsCheck : Ending → Type 0
EndsCheck Done = Unit {0}
EndsCheck Memory = Unit {0}
EndsCheck Sink = Unit {0}
EndsCheck Net = Unit {0}
EndsCheck Reply = Unit {0}
EndsCheck ending = ⊥

-- ---- a run that no failing call stops

-- what is said of what came over the link: the line of an answer, or nothing where it is none
abbrev pub SaysReply : Result (List ℕ) Ending → Said → Ending → Type 0
SaysReply (Ok line) said Done = said.due ≡ line
SaysReply (Ok line) said ending = ⊥
SaysReply (Err Reply) said Reply = said ≡ silence
SaysReply (Err wanted) said ending = ⊥

-- Where no call of the net and of the sink fails, the question goes out once, over one link. What comes over it is an
-- answer, whose line is said, or it is none; or no memory was found, and nothing is said.
abbrev pub CompletesCheck : {N L H : Type 0} → DialTells N L H → LinkTells L H → AskedNames → Bool → Said → Ending → N
    → N → Type 0
CompletesCheck dial link asked simple said ending before after =
    ((read : Result Framed Broken)
    × AskedOverOne link.faults link.marks link.traffic dial.faults dial.dials dial.given_back
    (first_frame simple (question_of asked))
    read before after
    × SaysReply (line_of (answer_in read)) said ending)
    ⊎ ((ending ≡ Memory) × (said ≡ silence))
