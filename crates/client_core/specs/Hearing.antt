-- What further bytes make of a frame under way.
use Rattle.std.specs.Prelude.{◌≡◌, ℕ, List, [], ◌∷◌, ◌++◌}
use Rattle.wire_fields.specs.declared.messages.Framed.{Framed}
use Rattle.wire_fields.specs.declared.refusals.WireRefusal.{WireRefusal}
use Rattle.wire_fields.specs.declared.refusals.WireRefusal.TheVariants.{Memory as NoMemory}
use Rattle.wire_reading.specs.Stream.{Feeding, Hears, BeginsWrong, IsOpen}
use Rattle.client_core.specs.Listening.{Listening}
use Rattle.client_core.specs.declared.ears.Piece.{Piece}
use Rattle.client_core.specs.declared.ears.Piece.TheVariants.{More, Whole, Wrong}
use Rattle.client_core.specs.declared.feeding.Fed.{Fed}
use Rattle.client_core.specs.declared.feeding.Fed.TheVariants as fed
use Rattle.client_core.specs.declared.steps.Fault.{Fault}
use Rattle.client_core.specs.declared.steps.Fault.TheVariants.{Frame, Memory}

-- what further bytes make of it: the frame goes on, it is whole and nothing is behind it, or it is wrong
abbrev pub HearsPiece : Piece → Listening → List ℕ → Type 0
HearsPiece (More after) ear piece =
    (after ≡ record ear { bytes = ear.bytes ++ piece }) × IsOpen ear.side (ear.bytes ++ piece)
HearsPiece (Whole framed) ear piece = Hears ear.side (ear.bytes ++ piece) (framed ∷ []) []
HearsPiece (Wrong refusal) ear piece = BeginsWrong ear.side (ear.bytes ++ piece) refusal

-- the same of the feeder
abbrev pub HearsFeeding : Fed → Feeding → Feeding → List ℕ → Type 0
HearsFeeding fed.More old new piece =
    (new ≡ record old { partial = old.partial ++ piece }) × IsOpen old.heard (old.partial ++ piece)
HearsFeeding (fed.Whole framed) old new piece = Hears old.heard (old.partial ++ piece) (framed ∷ []) []
HearsFeeding (fed.Wrong refusal) old new piece = BeginsWrong old.heard (old.partial ++ piece) refusal

-- what bytes that are no frame come to
abbrev pub fault_by : WireRefusal → Fault
fault_by (NoMemory error) = Memory error
fault_by refusal = Frame refusal
