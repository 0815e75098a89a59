-- How the serving of a connection ends.
use Rattle.std.specs.Prelude.{◌≡◌, ◌<◌, ℕ, true, List, [], ◌++◌, length, Option, Some, None}
use Rattle.desk_ports.specs.Faults.{next_count}
use Rattle.link_ports.specs.LinkMarks.{LinkMarks}
use Rattle.wire_reading.specs.Stream.{Feeding, Hears, BeginsWrong, IsOpen}
use Rattle.wire_fields.specs.declared.messages.Framed.{Framed}
use Rattle.wire_fields.specs.declared.operations.Heard.{Heard}
use Rattle.wire_fields.specs.declared.refusals.WireRefusal.{WireRefusal}
use Rattle.wire_fields.specs.declared.refusals.WireRefusal.TheVariants.{Memory as NoMemory}
use Rattle.door_frames.specs.declared.endings.Ended.{Ended}
use Rattle.door_frames.specs.declared.endings.Ended.TheVariants.{Closed, Cut, Hung, LinkFault, BadFrame, Stopped}
use Rattle.door_frames.specs.declared.endings.Ended.TheVariants.{Memory, Strayed}

-- the refusal speaks of the bytes
abbrev pub IsOfBytes : WireRefusal → Type 0
IsOfBytes (NoMemory error) = ⊥
IsOfBytes refusal = Unit {0}

-- how a connection ends whose bytes are refused
abbrev pub ended_by : WireRefusal → Ended
ended_by (NoMemory error) = Memory
ended_by refusal = BadFrame refusal

-- how a connection ends whose input ended behind these bytes of a frame
abbrev pub EndsInput : List ℕ → Ended → Type 0
EndsInput partial Closed = partial ≡ []
EndsInput partial (Cut count) = (count ≡ length partial) × (0 < count)
EndsInput partial other = ⊥

-- Why no further frame comes: the input has ended, between frames or within one; a call of the link failed; or the
-- feeder has failed, for the bytes or for want of memory. Marks and count are those of the link then.
abbrev pub EndsReading : Ended → Feeding → LinkMarks → ℕ → ℕ → Type 0
EndsReading Closed feeder marks before after =
    (feeder.failed ≡ None) × (feeder.partial ≡ []) × (marks.has_ended ≡ true) × (after ≡ before)
EndsReading (Cut count) feeder marks before after =
    (feeder.failed ≡ None) × (count ≡ length feeder.partial) × (0 < count) × (marks.has_ended ≡ true) × (after ≡ before)
EndsReading LinkFault feeder marks before after = (feeder.failed ≡ None) × (after ≡ next_count before)
EndsReading (BadFrame refusal) feeder marks before after =
    (feeder.failed ≡ Some refusal) × IsOfBytes refusal × (after ≡ before)
EndsReading Memory feeder marks before after = after ≡ before
EndsReading other feeder marks before after = ⊥

-- Why a frame was not sent: memory was wanting, or the call of the link failed.
abbrev pub EndsSending : Ended → ℕ → ℕ → Type 0
EndsSending Memory before after = after ≡ before
EndsSending LinkFault before after = after ≡ next_count before
EndsSending other before after = ⊥

-- The bytes that were received, of which these frames were answered, are such where a connection ended so: between
-- frames, within a frame and at a wrong frame each whole frame before was answered; else some may not be.
abbrev pub EndsBytes : Heard → List ℕ → List Framed → Ended → Type 0
EndsBytes heard bytes answered Closed = Hears heard bytes answered []
EndsBytes heard bytes answered (Cut count) =
    (rest : List ℕ) × Hears heard bytes answered rest × IsOpen heard rest × (length rest ≡ count) × (0 < count)
EndsBytes heard bytes answered (BadFrame refusal) =
    (rest : List ℕ) × Hears heard bytes answered rest × BeginsWrong heard rest refusal × IsOfBytes refusal
EndsBytes heard bytes answered other =
    (more : List Framed) × (rest : List ℕ) × Hears heard bytes (answered ++ more) rest

-- A link's count rises by one where a connection ended for its fault, and stays else.
abbrev pub faults_after : Ended → ℕ → ℕ
faults_after LinkFault count = next_count count
faults_after other count = count

-- the input has ended, where a connection ended for that
abbrev pub IsAtEnd : Ended → LinkMarks → Type 0
IsAtEnd Closed marks = marks.has_ended ≡ true
IsAtEnd (Cut count) marks = marks.has_ended ≡ true
IsAtEnd other marks = Unit {0}
