-- What `stamp` says at each form of its text.
use Rattle.std.proofs.Common.{◌≡◌, ℕ, ◌==◌, cond, true, false, List, [], ◌∷◌, ◌++◌, length, map, Option, Some, None, Ok}
use Rattle.std.proofs.Common.{Err, refl, ap, ◌∙◌}
use Rattle.std.proofs.lemmas.Bool.{true≢false}
use Rattle.std.specs.List.{onto_first}
use Rattle.text_lines.specs.Lines.{is_newline, HasNoNewline, pieces_of}
use Rattle.desk_state.specs.Limits.{last_commit}
use Rattle.set_text.specs.Lines.{whole_line, whole_lines, values_behind, at_least_one}
use Rattle.set_text.specs.Numbers.{decimal_of}
use Rattle.set_text.specs.Stamp.{read_commit, commits_of}
use Rattle.set_text.proofs.TextLines.{values_behind-value, values_behind-wrong, values_behind-open, values_behind-done}
use Rattle.set_text.proofs.TextLines.{some-bytes, some-length}

pub commits-open : (text : List ℕ) → HasNoNewline text → commits_of text ≡ Err 1
commits-open [] none = refl
commits-open (byte ∷ bytes) none =
    ap at_least_one
    (values_behind-open read_commit [] (byte ∷ bytes) none (some-bytes (byte ∷ bytes) (some-length byte bytes)))

pub commits-wrong : (text line rest : List ℕ) → text ≡ line ++ 10 ∷ rest → HasNoNewline line
    → decimal_of last_commit line ≡ None
    → commits_of text ≡ Err 1
commits-wrong text line rest is none wrong =
    ap at_least_one (values_behind-wrong read_commit [] text line rest is none wrong)

piece-of : (byte : ℕ) (pieces : List (List ℕ))
    → (first : List ℕ) × (others : List (List ℕ)) × (onto_first byte pieces ≡ first ∷ others)
piece-of byte [] = (byte ∷ [], [], refl)
piece-of byte (piece ∷ pieces) = (byte ∷ piece, pieces, refl)

some-line : (byte : ℕ) (bytes : List ℕ) → (first : Option (List ℕ)) × (others : List (Option (List ℕ)))
    × (whole_lines (byte ∷ bytes) ≡ first ∷ others)
some-line byte bytes =
    elim (is_newline byte) as (λ b. (first : Option (List ℕ)) × (others : List (Option (List ℕ)))
    × (map whole_line (cond b ((byte ∷ []) ∷ pieces_of bytes) (onto_first byte (pieces_of bytes))) ≡ first ∷ others)) [
      | true ↦ (whole_line (byte ∷ []), whole_lines bytes, refl)
      | false ↦ let part = piece-of byte (pieces_of bytes) in
          (whole_line part.0, map whole_line part.1, ap (map whole_line) part.2)
    ]

second-line : (commit : ℕ) (first : Option (List ℕ)) (others : List (Option (List ℕ)))
    → values_behind read_commit (commit ∷ []) (first ∷ others) ≡ Err 2
second-line commit None others = refl
second-line commit (Some line) others = refl

pub commits-more : (text line rest : List ℕ) (commit : ℕ) → text ≡ line ++ 10 ∷ rest → HasNoNewline line
    → decimal_of last_commit line ≡ Some commit → (length rest == 0) ≡ false → commits_of text ≡ Err 2
commits-more text line [] commit is none gives more = absurd (true≢false more)
commits-more text line (byte ∷ bytes) commit is none gives more =
    let next = some-line byte bytes in
    ap at_least_one (values_behind-value read_commit [] text line (byte ∷ bytes) commit is none gives
    ∙ ap (values_behind read_commit (commit ∷ [])) next.2 ∙ second-line commit next.0 next.1)

pub commits-one : (text line rest : List ℕ) (commit : ℕ) → text ≡ line ++ 10 ∷ rest → HasNoNewline line
    → decimal_of last_commit line ≡ Some commit → (length rest == 0) ≡ true → commits_of text ≡ Ok (commit ∷ [])
commits-one text line rest commit is none gives done =
    ap at_least_one (values_behind-value read_commit [] text line rest commit is none gives
    ∙ values_behind-done read_commit (commit ∷ []) rest done)
