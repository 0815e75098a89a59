-- A run along a line, part by part.
use Rattle.std.proofs.Common.{◌≡◌, ℕ, suc, ◌+◌, Bool, true, false, not, cond, ltb, List, [], ◌∷◌, ◌++◌, length, take}
use Rattle.std.proofs.Common.{drop, Option, Some, None, refl, sym, ap, ◌∙◌, append_assoc, append-nil, arith}
use Rattle.std.specs.Prelude.{position, option_and_then}
use Rattle.std.specs.List.{position_or_len}
use Rattle.std.proofs.lemmas.Bool.{lt-ltb}
use Rattle.line_reasons.specs.declared.forms.Form.{Form}
use Rattle.line_reasons.specs.parts.Runs.{parts_words, behind_part, Stand, stand, run, run_behind}
use Rattle.line_reasons.proofs.Runs.{past_one}

-- where a line leads, by the place of the first byte that parts words
abbrev pub by_place : Bool → List Form → List ℕ → List ℕ → Option ℕ → Option Stand
by_place blanks forms part text None = Some (stand forms (part ++ text))
by_place blanks forms part text (Some at) = run_behind blanks (behind_part blanks forms (part ++ take at text))
    (drop (at + 1) text)

module _ (blanks : Bool) (forms : List Form) where
  behind : (left : Option (List Form)) (bytes : List ℕ)
      → option_and_then (λ next. run blanks next bytes) (option_and_then (λ left. Some (stand left [])) left)
      ≡ run_behind blanks left bytes
  behind None bytes = refl
  behind (Some left) bytes = refl

  later : (part : List ℕ) (byte n : ℕ) (bytes : List ℕ) (below : Bool)
      → by_place blanks forms (part ++ byte ∷ []) bytes (cond below (Some n) None)
      ≡ by_place blanks forms part (byte ∷ bytes) (cond below (Some (1 + n)) None)
  later part byte n bytes true =
      let e : 1 + n ≡ suc n = omega arith in
      let f : n + 1 ≡ suc n = omega arith in
      let g : suc n + 1 ≡ suc (suc n) = omega arith in
      rw (e, f, g) (ap (λ part. run_behind blanks (behind_part blanks forms part) (drop (suc n) bytes))
      (append_assoc part (byte ∷ []) (take n bytes)))
  later part byte n bytes false = ap (λ part. Some (stand forms part)) (append_assoc part (byte ∷ []) bytes)

  pub run-place : (part text : List ℕ)
      → run blanks (stand forms part) text ≡ by_place blanks forms part text (position (parts_words blanks) text)
  run-place part [] = ap (λ part. Some (stand forms part)) (sym (append-nil part))
  run-place part (byte ∷ bytes) = by_byte (run-place (part ++ byte ∷ []) bytes) (parts_words blanks byte) where
    by_byte : run blanks (stand forms (part ++ byte ∷ [])) bytes
        ≡ by_place blanks forms (part ++ byte ∷ []) bytes (position (parts_words blanks) bytes)
        → (parts : Bool)
        → option_and_then (λ next. run blanks next bytes)
        (cond parts (option_and_then (λ left. Some (stand left [])) (behind_part blanks forms part))
        (Some (stand forms (part ++ byte ∷ []))))
        ≡ (let n = cond (not parts) (1 + position_or_len (parts_words blanks) bytes) 0 in
        by_place blanks forms part (byte ∷ bytes) (cond (ltb n (suc (length bytes))) (Some n) None))
    by_byte going true =
        behind (behind_part blanks forms part) bytes
        ∙ ap (λ part. run_behind blanks (behind_part blanks forms part) bytes) (sym (append-nil part))
        ∙ ap (λ below. by_place blanks forms part (byte ∷ bytes) (cond below (Some 0) None))
        (sym (lt-ltb 0 (suc (length bytes)) (omega arith)))
    by_byte going false =
        let n = position_or_len (parts_words blanks) bytes in
        going
        ∙ later part byte n bytes (ltb n (length bytes))
        ∙ ap (λ below. by_place blanks forms part (byte ∷ bytes) (cond below (Some (1 + n)) None))
        (sym (past_one n (length bytes)))
