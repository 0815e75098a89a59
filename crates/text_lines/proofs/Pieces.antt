-- How a text is cut at its first newline.
use Rattle.std.proofs.Common.{◌≡◌, ◌==◌, ℕ, length, cond, false, List, [], ◌∷◌, ◌++◌, map, ap, refl, ◌∙◌}
use Rattle.std.specs.List.{onto_first}
use Rattle.text_lines.specs.Lines.{HasNoNewline, pieces_of, line_of, lines_of}

-- the piece at the front, where a newline ends it
pub pieces_of-newline : (line rest : List ℕ) → HasNoNewline line
    → pieces_of (line ++ 10 ∷ rest) ≡ (line ++ 10 ∷ []) ∷ pieces_of rest
pieces_of-newline [] rest h = refl
pieces_of-newline (byte ∷ bytes) rest h =
    ap (λ b. cond b ((byte ∷ []) ∷ pieces_of (bytes ++ 10 ∷ rest)) (onto_first byte (pieces_of (bytes ++ 10 ∷ rest)))) h.0
    ∙ ap (onto_first byte) (pieces_of-newline bytes rest h.1)

-- the one piece of a text without a newline
pub pieces_of-last : (byte : ℕ) (bytes : List ℕ) → HasNoNewline (byte ∷ bytes) → pieces_of (byte ∷ bytes) ≡ (byte ∷ bytes) ∷ []
pieces_of-last byte [] h = ap (λ b. cond b ((byte ∷ []) ∷ []) ((byte ∷ []) ∷ [])) h.0
pieces_of-last byte (next ∷ bytes) h =
    ap (λ b. cond b ((byte ∷ []) ∷ pieces_of (next ∷ bytes)) (onto_first byte (pieces_of (next ∷ bytes)))) h.0
    ∙ ap (onto_first byte) (pieces_of-last next bytes h.1)

-- a piece without its newline
pub line_of-newline : (line rest : List ℕ) → HasNoNewline line → line_of (line ++ 10 ∷ rest) ≡ line
line_of-newline [] rest h = refl
line_of-newline (byte ∷ bytes) rest h =
    ap (λ b. cond b [] (byte ∷ line_of (bytes ++ 10 ∷ rest))) h.0 ∙ ap (λ line. byte ∷ line) (line_of-newline bytes rest h.1)

pub line_of-last : (line : List ℕ) → HasNoNewline line → line_of line ≡ line
line_of-last [] h = refl
line_of-last (byte ∷ bytes) h =
    ap (λ b. cond b [] (byte ∷ line_of bytes)) h.0 ∙ ap (λ line. byte ∷ line) (line_of-last bytes h.1)

-- the first line, where a newline ends it
pub lines_of-newline : (line rest : List ℕ) → HasNoNewline line → lines_of (line ++ 10 ∷ rest) ≡ line ∷ lines_of rest
lines_of-newline line rest h =
    ap (λ pieces. map line_of pieces) (pieces_of-newline line rest h)
    ∙ ap (λ first. first ∷ lines_of rest) (line_of-newline line [] h)

-- the one line of a text without a newline
pub lines_of-last : (text : List ℕ) → HasNoNewline text → (length text == 0) ≡ false → lines_of text ≡ text ∷ []
lines_of-last [] h some = cc
lines_of-last (byte ∷ bytes) h some =
    ap (λ pieces. map line_of pieces) (pieces_of-last byte bytes h)
    ∙ ap (λ line. line ∷ []) (line_of-last (byte ∷ bytes) h)
