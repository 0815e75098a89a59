-- Lines that are `check`.
use Rattle.std.proofs.Common.{◌≡◌, ◌≤◌, ℕ, true, cond, List, [], ◌∷◌, length, Option, Some, None, IfSome, refl, sym, ap}
use Rattle.std.proofs.Common.{subst, ◌∙◌}
use Rattle.std.specs.Prelude.{option_map, codes}
use Rattle.std.proofs.lemmas.Bool.{eqb-true, le-leb}
use Rattle.cynara_keys.specs.Key.{Question}
use Rattle.line_script.specs.Block.{outside}
use Rattle.line_script.specs.Grammar.{outside_at, lone_step, line_at, check_at, any_length_step_at, step_at}
use Rattle.script_words.specs.Verbs.{verb_at, is_known_in}
use Rattle.script_words.specs.Words.{words_of, word, ◌>>=◌}
use Rattle.script_words.specs.declared.places.Place.{Place}
use Rattle.script_words.specs.declared.places.Place.TheVariants.{Local, Admin}
use Rattle.line_script.specs.declared.steps.Step.TheVariants as step
use Rattle.script_words.specs.declared.verbs.Verb.TheVariants as verb
use Rattle.line_script.specs.parts.Beginnings.{begins_as_check}

stands_alone : (place : Place) (line : List ℕ) → begins_as_check line ≡ true
    → outside_at place line ≡ option_map (λ read. (outside place, read)) (lone_step place line)
unfolding outside_at
stands_alone place [] begins = cc
stands_alone place (byte ∷ bytes) begins =
    subst (λ first. outside_at place (first ∷ bytes) ≡ option_map (λ read. (outside place, read))
    (lone_step place (first ∷ bytes)))
    (sym (eqb-true byte 99 begins)) refl

-- `check` is known in every script
known_check : (place : Place) → is_known_in place verb.Check ≡ true
known_check Local = refl
known_check Admin = refl

asks : (place : Place) (line first : List ℕ) (rest : List (List ℕ)) (question : Question) → words_of line ≡ first ∷ rest
    → first ≡ codes "check" → check_at rest ≡ Some (step.Check question)
    → lone_step place line ≡ Some (step.Check question)
unfolding lone_step line_at verb_at
asks place line first rest question words is asked =
    ap (λ reading. reading >>= (λ read. cond (is_known_in place read.0) (line_at read.0 read.1) None))
    (ap (word verb_at) (words ∙ ap (λ text. text ∷ rest) is))
    ∙ ap (λ known. cond known (check_at rest) None) (known_check place) ∙ asked

-- What is read of a line whose first word is `check`, where it stands outside a block.
pub read_as_check : (place : Place) (line first : List ℕ) (rest : List (List ℕ)) (question : Question)
    → begins_as_check line ≡ true
    → words_of line ≡ first ∷ rest → first ≡ codes "check" → check_at rest ≡ Some (step.Check question)
    → outside_at place line ≡ Some (outside place, step.Check question)
read_as_check place line first rest question begins words is asked =
    stands_alone place line begins
    ∙ ap (option_map (λ read. (outside place, read))) (asks place line first rest question words is asked)

-- the same of a line that is not too long, as the step of a reader
pub step_as_check : (place : Place) (line : List ℕ) (result : Option Question) → length line ≤ 65535
    → IfSome result (λ question. (place : Place) → outside_at place line ≡ Some (outside place, step.Check question))
    → IfSome result (λ question. step_at (outside place) line ≡ Some (outside place, step.Check question))
unfolding step_at any_length_step_at
step_as_check place line None short is = tt
step_as_check place line (Some question) short is =
    ap (λ fits. cond fits (outside_at place line) None) (le-leb (length line) 65535 short) ∙ is place
