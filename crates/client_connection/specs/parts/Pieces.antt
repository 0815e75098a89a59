-- Pieces of a frame that is read from a link.
use Rattle.std.specs.Prelude.{◌≡◌, ◌<◌, ℕ, List, [], ◌∷◌, ◌++◌, length, Option, Some}
use Rattle.link_ports.specs.Told.{IfTold}
use Rattle.link_ports.specs.Traffic.{Traffic, with_received}
use Rattle.link_ports.specs.LinkMarks.{LinkMarks}
use Rattle.wire_reading.specs.Stream.{Feeding, Hears, IsOpen}
use Rattle.client_connection.specs.Reading.{IsTrouble, IsWrong}
use Rattle.client_connection.specs.declared.reading.Piece.{Piece}
use Rattle.client_connection.specs.declared.reading.Piece.TheVariants as piece

-- what hearing a piece of the frame under way made of the feeder
abbrev pub HearsPiece : Piece → Feeding → Feeding → List ℕ → Type 0
HearsPiece piece.More old new bytes =
    (new ≡ record old { partial = old.partial ++ bytes }) × IsOpen old.heard new.partial
HearsPiece (piece.Whole framed) old new bytes =
    (new ≡ record old { partial = [] }) × Hears old.heard (old.partial ++ bytes) (framed ∷ []) []
HearsPiece (piece.Wrong refusal) old new bytes = IsWrong old.heard (old.partial ++ bytes) refusal
HearsPiece piece.Lost old new bytes = ⊥

-- some bytes were received and heard
pub record Came (result : Piece) (old new : Feeding) (before after : Option Traffic) (count counted : ℕ) : Type 0 where
  pub bytes : List ℕ
  pub some : 0 < length bytes
  pub received : IfTold before (λ traffic. after ≡ Some (with_received bytes traffic))
  pub heard : HearsPiece result old new bytes
  pub faults : counted ≡ count

-- what taking a piece from a link made of the feeder and of the link
abbrev pub TakesPiece : Piece → Feeding → Feeding → Option Traffic → Option Traffic → LinkMarks → ℕ → ℕ → Type 0
TakesPiece piece.Lost old new before after marks count counted =
    IsTrouble marks counted × IfTold before (λ traffic. after ≡ Some traffic)
TakesPiece piece.More old new before after marks count counted = Came piece.More old new before after count counted
TakesPiece (piece.Whole framed) old new before after marks count counted =
    Came (piece.Whole framed) old new before after count counted
TakesPiece (piece.Wrong refusal) old new before after marks count counted =
    Came (piece.Wrong refusal) old new before after count counted
