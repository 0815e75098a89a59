-- What holds of the values of a text, where each line keeps it.
use Rattle.std.proofs.Common.{◌≡◌, ℕ, ◌+◌, Bool, true, false, cond, List, [], ◌∷◌, ◌++◌, length, Option, Some, None}
use Rattle.std.proofs.Common.{Result, Ok, Err, refl, sym, ap, ◌∙◌, subst}
use Rattle.std.specs.Option.{option_and_then}
use Rattle.set_text.specs.Lines.{whole_lines, values_behind, values_of, kept, at_least_one}

-- a value that is kept keeps the rules, and is what was read
pub kept-some : {X : Type 0} (rules : X → Bool) (read : Option X) (value : X) → kept rules read ≡ Some value
    → (read ≡ Some value) × (rules value ≡ true)
kept-some {X} rules None value h = cc
kept-some {X} rules (Some found) value h = by (rules found) refl h
  where
    by : (b : Bool) → rules found ≡ b → cond b (Some found) None ≡ Some value
        → (Some found ≡ Some value) × (rules value ≡ true)
    by true is h = let same : found ≡ value = cc in (ap (λ x. Some x) same, ap rules (sym same) ∙ is)
    by false is h = cc

-- a value that keeps the rules is kept, and one that breaks them is not
pub kept-right : {X : Type 0} (rules : X → Bool) (value : X) → rules value ≡ true → kept rules (Some value) ≡ Some value
kept-right rules value right = ap (λ b. cond b (Some value) None) right

pub kept-wrong : {X : Type 0} (rules : X → Bool) (value : X) → rules value ≡ false → kept rules (Some value) ≡ None
kept-wrong rules value wrong = ap (λ b. cond b (Some value) None) wrong

module _ {X : Type 0} (read : List X → List ℕ → Option X) (P : List X → Type 0)
    (more : (before : List X) (line : List ℕ) (value : X) → P before → read before line ≡ Some value
    → P (before ++ value ∷ [])) where
  by-line : (before values : List X) (lines : List (Option (List ℕ)))
      → ((next values : List X) → P next → values_behind read next lines ≡ Ok values → P values)
      → (line : Option (List ℕ)) (found : Option X) → option_and_then (read before) line ≡ found
      → P before → elim found as (λ found. Result (List X) ℕ) [
        | Some value ↦ values_behind read (before ++ value ∷ []) lines
        | None ↦ Err (length before + 1)
      ] ≡ Ok values → P values
  by-line before values lines rest None found is holds h = absurd-none found (sym is) h
    where
      absurd-none : (found : Option X) → found ≡ None → elim found as (λ found. Result (List X) ℕ) [
        | Some value ↦ values_behind read (before ++ value ∷ []) lines
        | None ↦ Err (length before + 1)
      ] ≡ Ok values → P values
      absurd-none None is h = cc
      absurd-none (Some value) is h = cc
  by-line before values lines rest (Some line) None is holds h = cc
  by-line before values lines rest (Some line) (Some value) is holds h =
      rest (before ++ value ∷ []) values (more before line value holds is) h

  -- what each line keeps holds of all values
  pub values-keep : (before values : List X) (lines : List (Option (List ℕ))) → P before
      → values_behind read before lines ≡ Ok values → P values
  values-keep before values [] holds h = let same : before ≡ values = cc in subst P same holds
  values-keep before values (line ∷ lines) holds h =
      by-line before values lines (λ next values holds h. values-keep next values lines holds h) line
      (option_and_then (read before) line) refl holds h

  pub values_of-keep : (text : List ℕ) (values : List X) → P [] → values_of read text ≡ Ok values → P values
  values_of-keep text values holds h = values-keep [] values (whole_lines text) holds h

pub at_least_one-some : {X : Type 0} (read : Result (List X) ℕ) (values : List X) → at_least_one read ≡ Ok values
    → read ≡ Ok values
at_least_one-some (Ok []) values h = cc
at_least_one-some (Ok (value ∷ others)) values h = h
at_least_one-some (Err line) values h = cc
