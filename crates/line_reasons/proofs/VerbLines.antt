-- Lines with a first word of their own.
use Rattle.std.proofs.Common.{◌≡◌, ℕ, Bool, true, false, not, cond, ◌&&◌, ◌||◌, List, [], ◌∷◌, ◌++◌, ◌⊎◌, inl, inr}
use Rattle.std.proofs.Common.{length, drop, Option, Some, None, refl, sym, ap, subst, ◌∙◌, append_assoc}
use Rattle.std.specs.Prelude.{◌==◌, is_some, option_map, find}
use Rattle.std.specs.List.{list_all, list_any, slice_split}
use Rattle.std.proofs.lemmas.Bool.{and_parts, and_from, or_cases, or_left, or_right}
use Rattle.cynara_keys.specs.Text.{same_text}
use Rattle.cynara_keys.proofs.Order.{same_text-≡}
use Rattle.script_words.specs.Words.{words_of, word, ◌>>=◌}
use Rattle.line_script.specs.Grammar.{change_at, line_at, lone_change, lone_step}
use Rattle.script_words.specs.Verbs.{verb_text, verbs, verb_at, is_known_in}
use Rattle.script_words.specs.declared.places.Place.{Place}
use Rattle.line_script.specs.declared.steps.Step.{Step}
use Rattle.script_words.specs.declared.verbs.Verb.{Verb}
use Rattle.script_words.specs.declared.verbs.Verb.TheVariants as verb
use Rattle.line_reasons.specs.declared.forms.Form.{Form}
use Rattle.line_reasons.specs.parts.Texts.{begins, cut_at, by_cut}
use Rattle.line_reasons.specs.parts.Runs.{may_end, may_end_with, is_line_of, begins_line_of}
use Rattle.line_reasons.specs.parts.Grounds.{verb_forms, changes_policies, is_verb_in, forms_if, forms_of, is_line_with}
use Rattle.line_reasons.specs.parts.Grounds.{begins_line_with, is_verb_alone, is_verb_with, is_verb_line, begins_verb}
use Rattle.line_reasons.specs.parts.Grounds.{begins_verb_with, begins_verb_line}
use Rattle.line_reasons.proofs.Fronts.{Fronts}
use Rattle.line_reasons.proofs.TextFronts.{begins-parts, begins-from}
use Rattle.line_reasons.proofs.Cuts.{Cut, Fronts-cut, cut_at-none, cut_at-first, parts_of_cut, slice_split-cut}
use Rattle.line_reasons.proofs.WordRuns.{line_fronts}
use Rattle.line_reasons.proofs.Words.{holds_left, fits, script_words}
use Rattle.line_reasons.proofs.Lines.{line_fits, change_fits}

-- ---- the first word

module _ {X : Type 0} (p q : X → Bool) where
  pub find_any : (xs : List X) (x : X) → find p xs ≡ Some x → (p x ≡ true → q x ≡ true) → list_any q xs ≡ true
  find_any [] x is passes = cc
  find_any (y ∷ xs) x is passes = by_case (λ later. find_any xs x later passes) (p y) refl is where
    by_case : (find p xs ≡ Some x → list_any q xs ≡ true) → (b : Bool) → p y ≡ b → cond b (Some y) (find p xs) ≡ Some x
        → q y || list_any q xs ≡ true
    by_case later true same is =
        let here : y ≡ x = cc in
        let Passes : X → Type 0 = λ y. p y ≡ true in
        let Goes : X → Type 0 = λ x. q x ≡ true in
        or_left (q y) (list_any q xs) (subst Goes (sym here) (passes (subst Passes here same)))
    by_case later false same is = or_right (q y) (list_any q xs) (later is)

  pub any_found : (xs : List X) → list_any q xs ≡ true → (x : X) × (q x ≡ true)
  any_found [] is = cc
  any_found (y ∷ xs) is = elim (or_cases (q y) (list_any q xs) is) as (λ _. (x : X) × (q x ≡ true)) [
    | inl here ↦ (y, here)
    | inr later ↦ any_found xs later
  ]

own_text : (verb : Verb) → verb_at (verb_text verb) ≡ Some verb
unfolding verb_at
own_text verb.Set = refl
own_text verb.Check = refl
own_text verb.Unset = refl
own_text verb.Bucket = refl
own_text verb.Drop = refl
own_text verb.Erase = refl
own_text verb.List = refl
own_text verb.From = refl
own_text verb.Layout = refl
own_text verb.User = refl
own_text verb.NoUser = refl
own_text verb.Install = refl
own_text verb.Hybrid = refl
own_text verb.Convert = refl
own_text verb.Remove = refl
own_text verb.Access = refl
own_text verb.Level = refl
own_text verb.Levels = refl
own_text verb.Audit = refl
own_text verb.Share = refl
own_text verb.Unshare = refl
own_text verb.Shares = refl
own_text verb.Status = refl
own_text verb.Stop = refl

no_space : (verb : Verb) → list_all (λ byte. not (byte == 32)) (verb_text verb) ≡ true
no_space verb.Set = refl
no_space verb.Check = refl
no_space verb.Unset = refl
no_space verb.Bucket = refl
no_space verb.Drop = refl
no_space verb.Erase = refl
no_space verb.List = refl
no_space verb.From = refl
no_space verb.Layout = refl
no_space verb.User = refl
no_space verb.NoUser = refl
no_space verb.Install = refl
no_space verb.Hybrid = refl
no_space verb.Convert = refl
no_space verb.Remove = refl
no_space verb.Access = refl
no_space verb.Level = refl
no_space verb.Levels = refl
no_space verb.Audit = refl
no_space verb.Share = refl
no_space verb.Unshare = refl
no_space verb.Shares = refl
no_space verb.Status = refl
no_space verb.Stop = refl

-- a first word stands alone, or has words behind it
goes_on : (verb : Verb) → (may_end (verb_forms verb) ≡ true) ⊎ (begins_line_of false (verb_forms verb) [] ≡ true)
goes_on verb.Set = inr refl
goes_on verb.Check = inr refl
goes_on verb.Unset = inr refl
goes_on verb.Bucket = inr refl
goes_on verb.Drop = inr refl
goes_on verb.Erase = inr refl
goes_on verb.List = inr refl
goes_on verb.From = inr refl
goes_on verb.Layout = inl refl
goes_on verb.User = inr refl
goes_on verb.NoUser = inr refl
goes_on verb.Install = inr refl
goes_on verb.Hybrid = inr refl
goes_on verb.Convert = inr refl
goes_on verb.Remove = inr refl
goes_on verb.Access = inr refl
goes_on verb.Level = inr refl
goes_on verb.Levels = inr refl
goes_on verb.Audit = inr refl
goes_on verb.Share = inr refl
goes_on verb.Unshare = inr refl
goes_on verb.Shares = inl refl
goes_on verb.Status = inl refl
goes_on verb.Stop = inl refl

module _ (outside : Option Place) where
  known_in : (verb : Verb) (known : Bool) → is_verb_in outside verb ≡ known → (test : List Form → Bool)
      → holds_left test (forms_if known (verb_forms verb)) ≡ true → is_verb_in outside verb ≡ true
  known_in verb true is test passes = is
  known_in verb false is test passes = cc

  begun_by : (front more : List ℕ) (found : Option Verb) → verb_at (front ++ more) ≡ found → (test : List Form → Bool)
      → holds_left test (forms_of outside found) ≡ true → begins_verb outside front ≡ true
  unfolding verb_at
  begun_by front more None is test passes = cc
  begun_by front more (Some verb) is test passes =
      find_any (λ verb. same_text (front ++ more) (verb_text verb))
      (λ verb. is_verb_in outside verb && begins front (verb_text verb)) verbs verb is
      (λ same. and_from (is_verb_in outside verb) (begins front (verb_text verb))
      (known_in verb (is_verb_in outside verb) refl test passes)
      (begins-from front (verb_text verb) more (sym (same_text-≡ (front ++ more) (verb_text verb) same))))

  as_left : (forms : Option (List Form)) → may_end_with forms ≡ holds_left may_end forms
  as_left None = refl
  as_left (Some forms) = refl

  as_line : (forms : Option (List Form)) (rest : List ℕ)
      → is_line_with forms rest ≡ holds_left (λ forms. is_line_of false forms rest) forms
  as_line None rest = refl
  as_line (Some forms) rest = refl

  with_fronts : (forms : Option (List Form)) → Fronts (is_line_with forms) (begins_line_with forms)
  with_fronts None = record { rest_of = λ front is. cc; is_front = λ front rest is. cc }
  with_fronts (Some forms) = line_fronts false forms

  whole_verb : (verb : Verb) → is_verb_in outside verb ≡ true
      → forms_of outside (verb_at (verb_text verb)) ≡ Some (verb_forms verb)
  whole_verb verb is =
      ap (forms_of outside) (own_text verb) ∙ ap (λ known. forms_if known (verb_forms verb)) is

  Goes : List ℕ → Type 0
  Goes front = (rest : List ℕ) × (by_cut (is_verb_alone outside) (is_verb_with outside) (front ++ rest)
      (cut_at 32 (front ++ rest)) ≡ true)

  on_verb : (front : List ℕ) (verb : Verb) → is_verb_in outside verb ≡ true → begins front (verb_text verb) ≡ true
      → Goes front
  unfolding Goes
  on_verb front verb known begun =
      let left = drop (length front) (verb_text verb) in
      let whole : front ++ left ≡ verb_text verb = sym (begins-parts front (verb_text verb) begun) in
      elim (goes_on verb) as (λ _. Goes front) [
        | inl ends ↦ (
          left,
          ap (λ line. by_cut (is_verb_alone outside) (is_verb_with outside) line (cut_at 32 line)) whole
              ∙ ap (by_cut (is_verb_alone outside) (is_verb_with outside) (verb_text verb))
              (cut_at-none 32 (verb_text verb) (no_space verb))
              ∙ ap may_end_with (whole_verb verb known) ∙ ends,
        )
        | inr more ↦ (let found = (line_fronts false (verb_forms verb)).rest_of [] more in (
          left ++ 32 ∷ found.0,
          ap (λ line. by_cut (is_verb_alone outside) (is_verb_with outside) line (cut_at 32 line))
              (sym (append_assoc front left (32 ∷ found.0)) ∙ ap (λ text. text ++ 32 ∷ found.0) whole)
              ∙ ap (by_cut (is_verb_alone outside) (is_verb_with outside) (verb_text verb ++ 32 ∷ found.0))
              (cut_at-first 32 (verb_text verb) found.0 (no_space verb) 32 refl)
              ∙ ap (λ forms. is_line_with forms found.0) (whole_verb verb known) ∙ found.1,
        ))
      ]

  pub verb_fronts : Fronts (is_verb_line outside) (begins_verb_line outside)
  unfolding Goes
  verb_fronts =
      Fronts-cut 32 (is_verb_alone outside) (begins_verb outside) (is_verb_with outside) (begins_verb_with outside)
      (λ first. with_fronts (forms_of outside (verb_at first)))
      (λ front rest is. begun_by front rest (verb_at (front ++ rest)) refl may_end
      (sym (as_left (forms_of outside (verb_at (front ++ rest)))) ∙ is))
      (λ front more rest is. begun_by front more (verb_at (front ++ more)) refl (λ forms. is_line_of false forms rest)
      (sym (as_line (forms_of outside (verb_at (front ++ more))) rest) ∙ is))
      (λ front none is.
      let found = any_found (λ verb. true)
      (λ verb. is_verb_in outside verb && begins front (verb_text verb)) verbs is in
      let both = and_parts (is_verb_in outside found.0) (begins front (verb_text found.0)) found.1 in
      on_verb front found.0 both.0 both.1)

-- ---- as line_script reads them

-- a first word, and the words behind it
abbrev with_words : Option Verb → List (List ℕ) → Option (Verb × List (List ℕ))
with_words found rest = option_map (λ verb. (verb, rest)) found

-- the line with its words, if its first word is known
with_known : (known : Bool) (verb : Verb) (words : List (List ℕ))
    → is_some (cond known (line_at verb words) None)
    ≡ holds_left (λ forms. fits forms words) (forms_if known (verb_forms verb))
with_known true verb words = line_fits verb words
with_known false verb words = refl

by_forms : (rest : List ℕ) (forms : Option (List Form))
    → holds_left (λ forms. fits forms (words_of rest)) forms ≡ is_line_with forms rest
by_forms rest None = refl
by_forms rest (Some forms) = sym (script_words forms rest)

module _ (place : Place) where
  -- the step behind a first word
  abbrev step_behind : Verb × List (List ℕ) → Option Step
  step_behind first = cond (is_known_in place first.0) (line_at first.0 first.1) None

  step_cut : (line : List ℕ) (cut : Cut)
      → is_some (word verb_at (parts_of_cut (slice_split (λ byte. byte == 32)) line cut) >>= step_behind)
      ≡ by_cut (is_verb_alone (Some place)) (is_verb_with (Some place)) line cut
  step_cut line None = by_verb (verb_at line) where
    by_verb : (found : Option Verb)
        → is_some (with_words found [] >>= step_behind) ≡ may_end_with (forms_of (Some place) found)
    by_verb None = refl
    by_verb (Some verb) =
        with_known (is_known_in place verb) verb []
        ∙ sym (as_left (Some place) (forms_if (is_known_in place verb) (verb_forms verb)))
  step_cut line (Some cut) = by_verb (verb_at cut.0) where
    by_verb : (found : Option Verb)
        → is_some (with_words found (words_of cut.1) >>= step_behind) ≡ is_line_with (forms_of (Some place) found) cut.1
    by_verb None = refl
    by_verb (Some verb) =
        with_known (is_known_in place verb) verb (words_of cut.1)
        ∙ by_forms cut.1 (forms_if (is_known_in place verb) (verb_forms verb))

  pub step_is : (line : List ℕ) → is_some (lone_step place line) ≡ is_verb_line (Some place) line
  unfolding lone_step
  step_is line =
      ap (λ words. is_some (word verb_at words >>= step_behind)) (slice_split-cut 32 line)
      ∙ step_cut line (cut_at 32 line)

change_cut : (line : List ℕ) (cut : Cut)
    → is_some (word verb_at (parts_of_cut (slice_split (λ byte. byte == 32)) line cut) >>=
    (λ first. change_at first.0 first.1))
    ≡ by_cut (is_verb_alone None) (is_verb_with None) line cut
change_cut line None = by_verb (verb_at line) where
  by_verb : (found : Option Verb)
      → is_some (with_words found [] >>= (λ first. change_at first.0 first.1)) ≡ may_end_with (forms_of None found)
  by_verb None = refl
  by_verb (Some verb) = change_fits verb [] ∙ sym (as_left None (forms_if (changes_policies verb) (verb_forms verb)))
change_cut line (Some cut) = by_verb (verb_at cut.0) where
  by_verb : (found : Option Verb)
      → is_some (with_words found (words_of cut.1) >>= (λ first. change_at first.0 first.1))
      ≡ is_line_with (forms_of None found) cut.1
  by_verb None = refl
  by_verb (Some verb) =
      change_fits verb (words_of cut.1)
      ∙ by_forms cut.1 (forms_if (changes_policies verb) (verb_forms verb))

pub change_is : (line : List ℕ) → is_some (lone_change line) ≡ is_verb_line None line
unfolding lone_change
change_is line =
    ap (λ words. is_some (word verb_at words >>= (λ first. change_at first.0 first.1))) (slice_split-cut 32 line)
    ∙ change_cut line (cut_at 32 line)
