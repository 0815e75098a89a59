-- First lines that go past a limit, whatever follows them.
use Rattle.std.proofs.Common.{◌≡◌, false, ◌<◌, ◌≤◌, ◌+◌, ◌⊎◌, inl, inr, ℕ, suc, length, cond, List, [], ◌∷◌, ◌++◌, ap, ◌∙◌, subst, sym, take, drop, arith, append_assoc, length-append}
use Rattle.std.proofs.Math.Seq.{take-length}
use Rattle.std.proofs.lemmas.List.{length-take-le}
use Rattle.std.specs.List.{onto_first}
use Rattle.text_lines.specs.Lines.{HasNoNewline, pieces_of, line_of, is_newline}
use Rattle.text_lines.specs.LineReader.{GoesPast}
use Rattle.text_lines.specs.parts.Gathering.{IsCut}
use Rattle.text_lines.proofs.Pieces.{pieces_of-newline, line_of-newline, line_of-last}

-- the first piece of the text has at least so many bytes, without its newline too
record FirstPiece (count : ℕ) (text : List ℕ) : Type 0 where
  piece : List ℕ
  pieces : List (List ℕ)
  cut : pieces_of text ≡ piece ∷ pieces
  long : count ≤ length piece
  long_line : count ≤ length (line_of piece)

-- a byte that is no newline, before a text with such a piece
FirstPiece-next : (byte : ℕ) (text : List ℕ) (count : ℕ) → is_newline byte ≡ false → FirstPiece count text
    → FirstPiece (suc count) (byte ∷ text)
FirstPiece-next byte text count none first =
    let line : line_of (byte ∷ first.piece) ≡ byte ∷ line_of first.piece =
    ap (λ b. cond b [] (byte ∷ line_of first.piece)) none in
    record {
      piece = byte ∷ first.piece;
      pieces = first.pieces;
      cut = ap (λ b. cond b ((byte ∷ []) ∷ pieces_of text) (onto_first byte (pieces_of text))) none
          ∙ ap (onto_first byte) first.cut;
      long = omega (arith, first.long);
      long_line = omega (arith, first.long_line, ap length line);
    }

-- a byte that is no newline, before any text
FirstPiece-byte : (byte : ℕ) (text : List ℕ) → is_newline byte ≡ false → FirstPiece 1 (byte ∷ text)
FirstPiece-byte byte text none =
    let cut : pieces_of (byte ∷ text) ≡ onto_first byte (pieces_of text) =
    ap (λ b. cond b ((byte ∷ []) ∷ pieces_of text) (onto_first byte (pieces_of text))) none in
    onto (pieces_of text) cut
  where
    onto : (pieces : List (List ℕ)) → pieces_of (byte ∷ text) ≡ onto_first byte pieces
        → FirstPiece 1 (byte ∷ text)
    onto [] cut =
        record {
          piece = byte ∷ [];
          pieces = [];
          cut = cut;
          long = omega arith;
          long_line = omega (arith, ap length (ap (λ b. cond b [] (byte ∷ [])) none));
        }
    onto (piece ∷ pieces) cut =
        record {
          piece = byte ∷ piece;
          pieces = pieces;
          cut = cut;
          long = omega arith;
          long_line = omega (arith, ap length (ap (λ b. cond b [] (byte ∷ line_of piece)) none));
        }

-- bytes without a newline, before any text
FirstPiece-front : (byte : ℕ) (bytes more : List ℕ) → HasNoNewline (byte ∷ bytes)
    → FirstPiece (suc (length bytes)) ((byte ∷ bytes) ++ more)
FirstPiece-front byte [] more none = FirstPiece-byte byte more none.0
FirstPiece-front byte (next ∷ bytes) more none =
    FirstPiece-next byte ((next ∷ bytes) ++ more) (suc (length bytes)) none.0 (FirstPiece-front next bytes more none.1)

-- a line that is past a limit before its newline is read
pub GoesPast-unfinished : (longest room : ℕ) (bytes : List ℕ) → HasNoNewline bytes
    → (room < length bytes) ⊎ (longest < length bytes) → GoesPast longest room bytes
GoesPast-unfinished longest room [] none past = absurd (elim past [ inl h ↦ omega arith | inr h ↦ omega arith ])
GoesPast-unfinished longest room (byte ∷ bytes) none past =
    λ more. let first = FirstPiece-front byte bytes more none in (
      first.piece,
      first.pieces,
      first.cut,
      elim past [ inl h ↦ inl (omega (arith, first.long)) | inr h ↦ inr (omega (arith, first.long_line)) ],
    )

-- a line that is past a limit with its newline
pub GoesPast-whole : (longest room : ℕ) (line rest : List ℕ) → HasNoNewline line
    → (room < length line + 1) ⊎ (longest < length line) → GoesPast longest room (line ++ 10 ∷ rest)
GoesPast-whole longest room line rest none past =
    λ more. (
      line ++ 10 ∷ [],
      pieces_of (rest ++ more),
      ap pieces_of (append_assoc line (10 ∷ rest) more) ∙ pieces_of-newline line (rest ++ more) none,
      elim past [
        | inl h ↦ inl (omega (arith, length-append line (10 ∷ [])))
        | inr h ↦ inr (omega (arith, ap length (line_of-newline line [] none)))
      ],
    )

-- the first line of some bytes is past a limit
pub GoesPast-cut : (longest room : ℕ) (bytes : List ℕ) (line piece : ℕ) → IsCut bytes line piece
    → (room < piece) ⊎ (longest < line) → GoesPast longest room bytes
GoesPast-cut longest room bytes line piece cut past =
    elim cut.either [
      | inl whole ↦
          let count = length-take-le line bytes (omega (arith, whole.2)) in
          subst (GoesPast longest room) (sym whole.0)
          (GoesPast-whole longest room (take line bytes) (drop piece bytes) cut.no_newline
          (elim past [ inl h ↦ inl (omega (arith, count, whole.1)) | inr h ↦ inr (omega (arith, count)) ]))
      | inr last ↦
          let all : take line bytes ≡ bytes = ap (λ n. take n bytes) last.0 ∙ take-length bytes in
          GoesPast-unfinished longest room bytes (subst HasNoNewline all cut.no_newline)
          (elim past [ inl h ↦ inl (omega (arith, last.0, last.1)) | inr h ↦ inr (omega (arith, last.0)) ])
    ]

-- how long the first line is of bytes that are cut
pub length-line_of-cut : (bytes : List ℕ) (line piece : ℕ) → IsCut bytes line piece → length (line_of bytes) ≡ line
length-line_of-cut bytes line piece cut =
    elim cut.either [
      | inl whole ↦
          let first = line_of-newline (take line bytes) (drop piece bytes) cut.no_newline in
          ap length (ap line_of whole.0 ∙ first) ∙ length-take-le line bytes (omega (arith, whole.2))
      | inr last ↦
          let all : take line bytes ≡ bytes = ap (λ n. take n bytes) last.0 ∙ take-length bytes in
          ap length (line_of-last bytes (subst HasNoNewline all cut.no_newline)) ∙ sym last.0
    ]
