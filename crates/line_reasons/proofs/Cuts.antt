-- A text that is cut at the first byte of a value.
use Rattle.std.proofs.Common.{◌≡◌, ℕ, ◌+◌, Bool, true, false, not, cond, ltb, List, [], ◌∷◌, ◌++◌, length, take, drop}
use Rattle.std.proofs.Common.{Option, Some, None, suc, refl, sym, ap, subst, ◌∙◌, append-nil, arith}
use Rattle.std.specs.Prelude.{◌==◌, position}
use Rattle.std.specs.List.{slice_split, onto_first, position_or_len, list_all}
use Rattle.std.proofs.lemmas.Bool.{and_parts, not-true, ltb-true, ltb-false, lt-ltb, le-ltb, eqb-true}
use Rattle.std.proofs.lemmas.Option.{same_Some}
use Rattle.line_reasons.specs.parts.Texts.{onto_cut, cut_at, by_cut}
use Rattle.line_reasons.proofs.Fronts.{Fronts}

abbrev pub Cut : Type 0
Cut = Option (List ℕ × List ℕ)

-- bytes in front of a text that is cut
abbrev pub onto_front : List ℕ → Cut → Cut
onto_front front None = None
onto_front front (Some cut) = Some (front ++ cut.0, cut.1)

-- bytes behind a text that is cut
abbrev with_rest : List ℕ → Cut → Cut
with_rest rest None = None
with_rest rest (Some cut) = Some (cut.0, cut.1 ++ rest)

onto_cut-with_rest : (byte : ℕ) (rest : List ℕ) (cut : Cut)
    → onto_cut byte (with_rest rest cut) ≡ with_rest rest (onto_cut byte cut)
onto_cut-with_rest byte rest None = refl
onto_cut-with_rest byte rest (Some cut) = refl

onto_cut-onto_front : (byte : ℕ) (front : List ℕ) (cut : Cut)
    → onto_cut byte (onto_front front cut) ≡ onto_front (byte ∷ front) cut
onto_cut-onto_front byte front None = refl
onto_cut-onto_front byte front (Some cut) = refl

onto_cut-none : (byte : ℕ) (cut : Cut) → onto_cut byte cut ≡ None → cut ≡ None
onto_cut-none byte None is = refl
onto_cut-none byte (Some cut) is = cc

onto_cut-some : (byte : ℕ) (cut : Cut) (found : List ℕ × List ℕ) → onto_cut byte cut ≡ Some found
    → (inner : List ℕ × List ℕ) × (cut ≡ Some inner)
onto_cut-some byte None found is = cc
onto_cut-some byte (Some cut) found is = (cut, refl)

-- what stands behind a front that has the byte
pub cut_at-within : (mark : ℕ) (front rest : List ℕ) (cut : List ℕ × List ℕ) → cut_at mark front ≡ Some cut
    → cut_at mark (front ++ rest) ≡ with_rest rest (cut_at mark front)
cut_at-within mark [] rest cut is = cc
cut_at-within mark (byte ∷ bytes) rest cut is = by_byte (λ inner found. cut_at-within mark bytes rest inner found) (byte == mark) is where
  by_byte : ((inner : List ℕ × List ℕ) → cut_at mark bytes ≡ Some inner → cut_at mark (bytes ++ rest) ≡ with_rest rest
      (cut_at mark bytes))
      → (same : Bool) → cond {A = Cut} same (Some ([], bytes)) (onto_cut byte (cut_at mark bytes)) ≡ Some cut
      → cond {A = Cut} same (Some ([], bytes ++ rest)) (onto_cut byte (cut_at mark (bytes ++ rest)))
      ≡ with_rest rest (cond {A = Cut} same (Some ([], bytes)) (onto_cut byte (cut_at mark bytes)))
  by_byte later true is = refl
  by_byte later false is =
      let inner = onto_cut-some byte (cut_at mark bytes) cut is in
      ap (onto_cut byte) (later inner.0 inner.1) ∙ onto_cut-with_rest byte rest (cut_at mark bytes)

-- what stands behind a front that has not
pub cut_at-past : (mark : ℕ) (front rest : List ℕ) → cut_at mark front ≡ None
    → cut_at mark (front ++ rest) ≡ onto_front front (cut_at mark rest)
cut_at-past mark [] rest is = empty (cut_at mark rest) where
  empty : (cut : Cut) → cut ≡ onto_front [] cut
  empty None = refl
  empty (Some cut) = refl
cut_at-past mark (byte ∷ bytes) rest is = by_byte (λ none. cut_at-past mark bytes rest none) (byte == mark) is where
  by_byte : (cut_at mark bytes ≡ None → cut_at mark (bytes ++ rest) ≡ onto_front bytes (cut_at mark rest))
      → (same : Bool) → cond {A = Cut} same (Some ([], bytes)) (onto_cut byte (cut_at mark bytes)) ≡ None
      → cond {A = Cut} same (Some ([], bytes ++ rest)) (onto_cut byte (cut_at mark (bytes ++ rest)))
      ≡ onto_front (byte ∷ bytes) (cut_at mark rest)
  by_byte later true is = cc
  by_byte later false is =
      ap (onto_cut byte) (later (onto_cut-none byte (cut_at mark bytes) is))
      ∙ onto_cut-onto_front byte bytes (cut_at mark rest)

-- where no byte is that one
pub cut_at-none : (mark : ℕ) (text : List ℕ) → list_all (λ byte. not (byte == mark)) text ≡ true
    → cut_at mark text ≡ None
cut_at-none mark [] is = refl
cut_at-none mark (byte ∷ bytes) is =
    let both = and_parts (not (byte == mark)) (list_all (λ byte. not (byte == mark)) bytes) is in
    ap (λ same. cond {A = Cut} same (Some ([], bytes)) (onto_cut byte (cut_at mark bytes)))
    (not-true (byte == mark) both.0)
    ∙ ap (onto_cut byte) (cut_at-none mark bytes both.1)

pub cut_at-first : (mark : ℕ) (text rest : List ℕ) → list_all (λ byte. not (byte == mark)) text ≡ true → (byte : ℕ)
    → (byte == mark) ≡ true
    → cut_at mark (text ++ byte ∷ rest) ≡ Some (text, rest)
cut_at-first mark text rest is byte same =
    cut_at-past mark text (byte ∷ rest) (cut_at-none mark text is)
    ∙ ap (λ same. onto_front text (cond {A = Cut} same (Some ([], rest)) (onto_cut byte (cut_at mark rest)))) same
    ∙ ap (λ first. Some (first, rest)) (append-nil text)

-- the parts of a text that every such byte cuts
abbrev pub parts_of_cut : (List ℕ → List (List ℕ)) → List ℕ → Cut → List (List ℕ)
parts_of_cut split text None = text ∷ []
parts_of_cut split text (Some cut) = cut.0 ∷ split cut.1

pub slice_split-cut : (mark : ℕ) (text : List ℕ)
    → slice_split (λ byte. byte == mark) text
    ≡ parts_of_cut (slice_split (λ byte. byte == mark)) text (cut_at mark text)
slice_split-cut mark [] = refl
slice_split-cut mark (byte ∷ bytes) = by_byte (slice_split-cut mark bytes) (byte == mark) where
  split : List ℕ → List (List ℕ)
  split = slice_split (λ byte. byte == mark)

  onto : (cut : Cut) → onto_first byte (parts_of_cut (slice_split (λ byte. byte == mark)) bytes cut)
      ≡ parts_of_cut (slice_split (λ byte. byte == mark)) (byte ∷ bytes) (onto_cut byte cut)
  onto None = refl
  onto (Some cut) = refl

  by_byte : slice_split (λ byte. byte == mark) bytes
      ≡ parts_of_cut (slice_split (λ byte. byte == mark)) bytes (cut_at mark bytes)
      → (same : Bool) → cond same ([] ∷ slice_split (λ byte. byte == mark) bytes)
      (onto_first byte (slice_split (λ byte. byte == mark) bytes))
      ≡ parts_of_cut (slice_split (λ byte. byte == mark)) (byte ∷ bytes)
      (cond {A = Cut} same (Some ([], bytes)) (onto_cut byte (cut_at mark bytes)))
  by_byte later true = refl
  by_byte later false = ap (onto_first byte) later ∙ onto (cut_at mark bytes)

-- the first place of the byte
abbrev pub cut_of_place : List ℕ → Option ℕ → Cut
cut_of_place text None = None
cut_of_place text (Some place) = Some (take place text, drop (place + 1) text)

past_one : (n m : ℕ) (below : Bool) → ltb n m ≡ below → ltb (1 + n) (suc m) ≡ below
past_one n m true is = lt-ltb (1 + n) (suc m) (omega (arith, ltb-true n m is))
past_one n m false is = le-ltb (1 + n) (suc m) (omega (arith, ltb-false n m is))

place_later : (byte n : ℕ) (bytes : List ℕ) (below : Bool)
    → onto_cut byte (cut_of_place bytes (cond below (Some n) None))
    ≡ cut_of_place (byte ∷ bytes) (cond below (Some (1 + n)) None)
place_later byte n bytes true =
    let e : 1 + n ≡ suc n = omega arith in
    let f : n + 1 ≡ suc n = omega arith in
    let g : suc n + 1 ≡ suc (suc n) = omega arith in
    rw (e, f, g) refl
place_later byte n bytes false = refl

pub position-cut : (mark : ℕ) (text : List ℕ)
    → cut_at mark text ≡ cut_of_place text (position (λ byte. byte == mark) text)
position-cut mark [] = refl
position-cut mark (byte ∷ bytes) = by_byte (position-cut mark bytes) (byte == mark) where
  by_byte : cut_at mark bytes ≡ cut_of_place bytes (position (λ byte. byte == mark) bytes) → (same : Bool)
      → cond {A = Cut} same (Some ([], bytes)) (onto_cut byte (cut_at mark bytes))
      ≡ (let n = cond (not same) (1 + position_or_len (λ byte. byte == mark) bytes) 0 in
      cut_of_place (byte ∷ bytes) (cond (ltb n (suc (length bytes))) (Some n) None))
  by_byte later true =
      ap (λ below. cut_of_place (byte ∷ bytes) (cond below (Some 0) None))
      (sym (lt-ltb 0 (suc (length bytes)) (omega arith)))
  by_byte later false =
      let n = position_or_len (λ byte. byte == mark) bytes in
      ap (onto_cut byte) later
      ∙ place_later byte n bytes (ltb n (length bytes))
      ∙ ap (λ below. cut_of_place (byte ∷ bytes) (cond below (Some (1 + n)) None))
      (sym (past_one n (length bytes) (ltb n (length bytes)) refl))

-- the two sides, and the byte between them
pub cut_at-parts : (mark : ℕ) (text : List ℕ) (cut : List ℕ × List ℕ) → cut_at mark text ≡ Some cut
    → text ≡ cut.0 ++ mark ∷ cut.1
cut_at-parts mark [] cut is = cc
cut_at-parts mark (byte ∷ bytes) cut is = by_byte (λ inner found. cut_at-parts mark bytes inner found) (byte == mark) refl is where
  by_byte : ((inner : List ℕ × List ℕ) → cut_at mark bytes ≡ Some inner → bytes ≡ inner.0 ++ mark ∷ inner.1)
      → (same : Bool) → (byte == mark) ≡ same
      → cond {A = Cut} same (Some ([], bytes)) (onto_cut byte (cut_at mark bytes)) ≡ Some cut
      → byte ∷ bytes ≡ cut.0 ++ mark ∷ cut.1
  by_byte later true same is =
      let pair : List ℕ × List ℕ = ([], bytes) in
      let found : pair ≡ cut = same_Some pair cut is in
      let Parts : List ℕ × List ℕ → Type 0 = λ cut. byte ∷ bytes ≡ cut.0 ++ mark ∷ cut.1 in
      subst Parts found (ap (λ byte. byte ∷ bytes) (eqb-true byte mark same))
  by_byte later false same is =
      let inner = onto_cut-some byte (cut_at mark bytes) cut is in
      let pair : List ℕ × List ℕ = (byte ∷ inner.0.0, inner.0.1) in
      let found : pair ≡ cut = same_Some pair cut (ap (onto_cut byte) (sym inner.1) ∙ is) in
      let Parts : List ℕ × List ℕ → Type 0 = λ cut. byte ∷ bytes ≡ cut.0 ++ mark ∷ cut.1 in
      subst Parts found (ap (λ bytes. byte ∷ bytes) (later inner.0 inner.1))

-- ---- what a text with such a byte, and one without, can begin with

module _ (mark : ℕ) (whole begun : List ℕ → Bool) (parted going : List ℕ → List ℕ → Bool)
    (behind : (first : List ℕ) → Fronts (parted first) (going first))
    (from_whole : (front rest : List ℕ) → whole (front ++ rest) ≡ true → begun front ≡ true)
    (from_parted : (front more rest : List ℕ) → parted (front ++ more) rest ≡ true → begun front ≡ true)
    (on : (front : List ℕ) → cut_at mark front ≡ None → begun front ≡ true
    → (rest : List ℕ) × (by_cut whole parted (front ++ rest) (cut_at mark (front ++ rest)) ≡ true))
  where
    back_past : (front rest : List ℕ) (cut : Cut) → by_cut whole parted (front ++ rest) (onto_front front cut) ≡ true
        → begun front ≡ true
    back_past front rest None is = from_whole front rest is
    back_past front rest (Some cut) is = from_parted front cut.0 cut.1 is

    back : (front rest : List ℕ) (cut : Cut) → cut_at mark front ≡ cut
        → by_cut whole parted (front ++ rest) (cut_at mark (front ++ rest)) ≡ true → by_cut begun going front cut ≡ true
    back front rest None found is =
        back_past front rest (cut_at mark rest)
        (ap (by_cut whole parted (front ++ rest)) (sym (cut_at-past mark front rest found)) ∙ is)
    back front rest (Some cut) found is =
        (behind cut.0).is_front cut.1 rest
        (ap (λ cut. by_cut whole parted (front ++ rest) (with_rest rest cut)) (sym found)
        ∙ ap (by_cut whole parted (front ++ rest)) (sym (cut_at-within mark front rest cut found)) ∙ is)

    forth : (front : List ℕ) (cut : Cut) → cut_at mark front ≡ cut → by_cut begun going front cut ≡ true
        → (rest : List ℕ) × (by_cut whole parted (front ++ rest) (cut_at mark (front ++ rest)) ≡ true)
    forth front None found is = on front found is
    forth front (Some cut) found is =
        let more = (behind cut.0).rest_of cut.1 is in (
          more.0,
          ap (by_cut whole parted (front ++ more.0)) (cut_at-within mark front more.0 cut found
              ∙ ap (with_rest more.0) found) ∙ more.1,
        )

    pub Fronts-cut : Fronts (λ text. by_cut whole parted text (cut_at mark text))
        (λ front. by_cut begun going front (cut_at mark front))
    Fronts-cut = record {
      rest_of = λ front is. forth front (cut_at mark front) refl is;
      is_front = λ front rest is. back front rest (cut_at mark front) refl is;
    }
