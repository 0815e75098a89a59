-- The fields of a line, joined and cut again.
use Rattle.std.proofs.Common.{◌≡◌, ℕ, false, cond, List, [], ◌∷◌, ◌++◌, refl, sym, ap, ◌∙◌}
use Rattle.std.specs.List.{AllByRecursion, onto_first}
use Rattle.std.proofs.lemmas.List.Splits.{join_with_byte-slice_split}
use Rattle.text_lines.specs.Lines.{HasNoNewline}
use Rattle.text_lines.proofs.Newlines.{HasNoNewline-append}
use Rattle.set_text.specs.Lines.{joined, is_semicolon, fields_of}

abbrev pub HasNoSemicolon : List ℕ → Type 0
HasNoSemicolon bytes = AllByRecursion (λ byte. is_semicolon byte ≡ false) bytes

-- a text that may be a field: no byte of it ends a field or a line
pub record IsPlain (text : List ℕ) : Type 0 where
  pub semicolon : HasNoSemicolon text
  pub newline : HasNoNewline text

fields_of-front : (text rest : List ℕ) → HasNoSemicolon text → fields_of (text ++ 59 ∷ rest) ≡ text ∷ fields_of rest
fields_of-front [] rest none = refl
fields_of-front (byte ∷ bytes) rest none =
    ap (λ b. cond b ([] ∷ fields_of (bytes ++ 59 ∷ rest)) (onto_first byte (fields_of (bytes ++ 59 ∷ rest)))) none.0
    ∙ ap (onto_first byte) (fields_of-front bytes rest none.1)

fields_of-last : (text : List ℕ) → HasNoSemicolon text → fields_of text ≡ text ∷ []
fields_of-last [] none = refl
fields_of-last (byte ∷ bytes) none =
    ap (λ b. cond b ([] ∷ fields_of bytes) (onto_first byte (fields_of bytes))) none.0
    ∙ ap (onto_first byte) (fields_of-last bytes none.1)

-- fields that are joined are cut into the fields
pub fields_of-joined : (first : List ℕ) (rest : List (List ℕ)) → IsPlain first → AllByRecursion IsPlain rest
    → fields_of (joined (first ∷ rest)) ≡ first ∷ rest
fields_of-joined first [] plain all = fields_of-last first plain.semicolon
fields_of-joined first (next ∷ rest) plain all =
    fields_of-front first (joined (next ∷ rest)) plain.semicolon
    ∙ ap (λ fields. first ∷ fields) (fields_of-joined next rest all.0 all.1)

pub newline-joined : (first : List ℕ) (rest : List (List ℕ)) → IsPlain first → AllByRecursion IsPlain rest
    → HasNoNewline (joined (first ∷ rest))
newline-joined first [] plain all = plain.newline
newline-joined first (next ∷ rest) plain all =
    HasNoNewline-append first (59 ∷ joined (next ∷ rest)) plain.newline (refl, newline-joined next rest all.0 all.1)

-- the fields of a line, joined, are the line
pub joined-fields_of : (line : List ℕ) (fields : List (List ℕ)) → fields_of line ≡ fields → joined fields ≡ line
joined-fields_of line fields is = ap joined (sym is) ∙ join_with_byte-slice_split 59 line
