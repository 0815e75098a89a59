-- The fronts of the lines that are known where a line stands.
use Rattle.std.proofs.Common.{◌≡◌, ℕ, ◌+◌, ◌≤◌, ◌<◌, Bool, true, false, not, cond, ◌&&◌, ◌||◌, List, [], ◌∷◌, ◌++◌}
use Rattle.std.proofs.Common.{length, take, Option, Some, None, IsSome, inl, inr, Result, Ok, Err, refl, sym, ap, ◌∙◌}
use Rattle.std.proofs.Common.{append-nil}
use Rattle.std.specs.Prelude.{is_some, option_map, option_and_then, codes}
use Rattle.std.specs.List.{list_all}
use Rattle.std.specs.Result.{result_ok}
use Rattle.std.proofs.lemmas.Bool.{and_parts, or_cases, or_right, false_from_ne_true}
use Rattle.std.proofs.lemmas.List.Folds.{list_all-append}
use Rattle.cynara_keys.specs.Text.{same_text}
use Rattle.bucket_store.specs.declared.policy_changes.Change.{Change}
use Rattle.smack_rules.specs.Words.{is_blank}
use Rattle.smack_rules.specs.Rule.{line_rule}
use Rattle.rule_templates.specs.declared.lines.TemplateLine.{TemplateLine}
use Rattle.rule_templates.specs.Template.{is_full, with_one_more}
use Rattle.line_script.specs.Block.{Block, outside, batch, template, failed}
use Rattle.line_script.specs.Spots.{spot_of}
use Rattle.line_script.specs.Grammar.{is_skipped, lone_change, lone_step, outside_at, batch_at, template_at}
use Rattle.line_script.specs.Grammar.{any_length_step_at}
use Rattle.script_words.specs.declared.places.Place.{Place}
use Rattle.line_script.specs.declared.spots.Spot.{Spot}
use Rattle.line_script.specs.declared.spots.Spot.TheVariants as spot
use Rattle.line_reasons.specs.declared.forms.Form.{Form}
use Rattle.line_reasons.specs.declared.grounds.Ground.{Ground}
use Rattle.line_reasons.specs.declared.grounds.Ground.TheVariants.{Outside, Batch, Template, Rules}
use Rattle.line_reasons.specs.FirstFault.{IsFirstFault}
use Rattle.line_reasons.specs.parts.Texts.{begins}
use Rattle.line_reasons.specs.parts.Runs.{stand, run, goes_on_at, holds_at, is_line_of, begins_line_of}
use Rattle.line_reasons.specs.parts.Grounds.{is_verb_line, begins_verb_line, template_forms, rule_forms, is_line}
use Rattle.line_reasons.specs.parts.Grounds.{begins_line, ground_of}
use Rattle.line_reasons.proofs.Fronts.{Fronts, Fronts-or}
use Rattle.line_reasons.proofs.TextFronts.{Fronts-text}
use Rattle.line_reasons.proofs.WordRuns.{line_fronts}
use Rattle.line_reasons.proofs.VerbLines.{verb_fronts, step_is, change_is}
use Rattle.line_reasons.proofs.RuleLines.{is_right, rule_is, template_is}

-- ---- fronts

skipped_fronts : Fronts is_skipped is_skipped
skipped_fronts = record {
  rest_of = λ front is. ([], ap is_skipped (append-nil front) ∙ is);
  is_front = back;
} where
  back : (front rest : List ℕ) → is_skipped (front ++ rest) ≡ true → is_skipped front ≡ true
  back [] rest is = refl
  back (byte ∷ front) rest is = is

-- lines that are known only where a test passes
guarded : (open_ : Bool) (known fronts : List ℕ → Bool) → Fronts known fronts
    → Fronts (λ line. open_ && known line) (λ front. open_ && fronts front)
guarded true known fronts parts = parts
guarded false known fronts parts = record { rest_of = λ front is. cc; is_front = λ front rest is. cc }

-- blanks lead nowhere
blanks_stay : (forms : List Form) (blanks : List ℕ) → list_all is_blank blanks ≡ true
    → run true (stand forms []) blanks ≡ Some (stand forms [])
blanks_stay forms [] is = refl
blanks_stay forms (byte ∷ bytes) is =
    let both = and_parts (is_blank byte) (list_all is_blank bytes) is in
    ap (λ blank. option_and_then (λ next. run true next bytes)
    (cond blank (Some (stand forms [])) (Some (stand forms (byte ∷ []))))) both.0
    ∙ blanks_stay forms bytes both.1

rule_fronts : Fronts (λ line. list_all is_blank line || is_line_of true rule_forms line)
    (begins_line_of true rule_forms)
rule_fronts = record {
  rest_of = λ front is.
      let found = (line_fronts true rule_forms).rest_of front is in (
        found.0,
        or_right (list_all is_blank (front ++ found.0))
            (is_line_of true rule_forms (front ++ found.0)) found.1,
      );
  is_front = λ front rest is. elim (or_cases (list_all is_blank (front ++ rest)) (is_line_of true rule_forms (front ++ rest)) is) as (λ _. begins_line_of true rule_forms front ≡ true) [
    | inl blank ↦ (let all = and_parts (list_all is_blank front) (list_all is_blank rest) (sym (list_all-append is_blank front rest) ∙ blank) in
        ap (holds_at (goes_on_at true)) (blanks_stay rule_forms front all.0))
    | inr h ↦ (line_fronts true rule_forms).is_front front rest h
  ];
}

pub ground_fronts : (ground : Ground) → Fronts (is_line ground) (begins_line ground)
ground_fronts (Outside place) =
    Fronts-or is_skipped (λ line. same_text line (codes "batch") ||
    (same_text line (codes "template") || is_verb_line (Some place) line))
    is_skipped (λ front. begins front (codes "batch") ||
    (begins front (codes "template") || begins_verb_line (Some place) front)) skipped_fronts
    (Fronts-or (λ line. same_text line (codes "batch"))
    (λ line. same_text line (codes "template") || is_verb_line (Some place) line)
    (λ front. begins front (codes "batch"))
    (λ front. begins front (codes "template") || begins_verb_line (Some place) front) (Fronts-text (codes "batch"))
    (Fronts-or (λ line. same_text line (codes "template")) (is_verb_line (Some place))
    (λ front. begins front (codes "template")) (begins_verb_line (Some place))
    (Fronts-text (codes "template")) (verb_fronts (Some place))))
ground_fronts Batch =
    Fronts-or is_skipped (λ line. same_text line (codes "end") || is_verb_line None line)
    is_skipped (λ front. begins front (codes "end") || begins_verb_line None front) skipped_fronts
    (Fronts-or (λ line. same_text line (codes "end")) (is_verb_line None) (λ front. begins front (codes "end"))
    (begins_verb_line None)
    (Fronts-text (codes "end")) (verb_fronts None))
ground_fronts (Template is_full) =
    Fronts-or (λ line. same_text line (codes "end")) (λ line. not is_full && is_line_of true template_forms line)
    (λ front. begins front (codes "end")) (λ front. not is_full && begins_line_of true template_forms front)
    (Fronts-text (codes "end"))
    (guarded (not is_full) (is_line_of true template_forms) (begins_line_of true template_forms)
    (line_fronts true template_forms))
ground_fronts Rules = rule_fronts

-- ---- as line_script and smack_rules read them

chosen : {A : Type 0} (b : Bool) (value : A) (other : Option A)
    → is_some (cond b (Some value) other) ≡ b || is_some other
chosen true value other = refl
chosen false value other = refl

mapped : {A B : Type 0} (f : A → B) (o : Option A) → is_some (option_map f o) ≡ is_some o
mapped f None = refl
mapped f (Some x) = refl

right_some : {A E : Type 0} (r : Result A E) → is_some (result_ok r) ≡ is_right r
right_some (Ok x) = refl
right_some (Err e) = refl

pub rules_are : (line : List ℕ) → is_some (result_ok (line_rule line)) ≡ is_line Rules line
rules_are line = right_some (line_rule line) ∙ rule_is line

outside_is : (place : Place) (line : List ℕ) → is_some (outside_at place line) ≡ is_line (Outside place) line
unfolding outside_at
outside_is place line =
    chosen (is_skipped line) _ _
    ∙ ap (λ b. is_skipped line || b)
    (chosen (same_text line (codes "batch")) _ _
    ∙ ap (λ b. same_text line (codes "batch") || b)
    (chosen (same_text line (codes "template")) _ _
    ∙ ap (λ b. same_text line (codes "template") || b) (mapped _ (lone_step place line) ∙ step_is place line)))

batch_is : (place : Place) (changes : List Change) (line : List ℕ)
    → is_some (batch_at place changes line) ≡ is_line Batch line
unfolding batch_at
batch_is place changes line =
    chosen (is_skipped line) _ _
    ∙ ap (λ b. is_skipped line || b)
    (chosen (same_text line (codes "end")) _ _
    ∙ ap (λ b. same_text line (codes "end") || b) (mapped _ (lone_change line) ∙ change_is line))

template_lines_are : (place : Place) (lines : List TemplateLine) (line : List ℕ)
    → is_some (template_at place lines line) ≡ is_line (Template (is_full lines)) line
unfolding template_at
template_lines_are place lines line =
    chosen (same_text line (codes "end")) _ _
    ∙ ap (λ b. same_text line (codes "end") || b)
    (mapped _ (result_ok (with_one_more lines line)) ∙ template_is lines line)

pub steps_are : (block : Block) (spot : Spot) → spot_of block ≡ Some spot → (line : List ℕ)
    → is_some (any_length_step_at block line) ≡ is_line (ground_of spot) line
unfolding any_length_step_at
steps_are (outside place) (spot.Outside at_place) at line =
    let same : place ≡ at_place = cc in
    outside_is place line ∙ ap (λ place. is_line (Outside place) line) same
steps_are (outside place) spot.Batch at line = cc
steps_are (outside place) (spot.Template full) at line = cc
steps_are (batch place changes) (spot.Outside at_place) at line = cc
steps_are (batch place changes) spot.Batch at line = batch_is place changes line
steps_are (batch place changes) (spot.Template full) at line = cc
steps_are (template place lines) (spot.Outside at_place) at line = cc
steps_are (template place lines) spot.Batch at line = cc
steps_are (template place lines) (spot.Template full) at line =
    let same : is_full lines ≡ full = cc in
    template_lines_are place lines line ∙ ap (λ full. is_line (Template full) line) same
steps_are failed spot at line = cc

-- ---- the first fault

none_of : {A : Type 0} (o : Option A) → is_some o ≡ false → o ≡ None
none_of None is = refl
none_of (Some x) is = cc

some_of : {A : Type 0} (o : Option A) → is_some o ≡ true → IsSome o
some_of None is = cc
some_of (Some x) is = refl

module _ {A : Type 0} (reading : List ℕ → Option A) (ground : Ground) (reads : (line : List ℕ) → is_some (reading line) ≡ is_line ground line) where
  pub known_line : (line : List ℕ) → is_line ground line ≡ true → IsSome (reading line)
  known_line line is = some_of (reading line) (reads line ∙ is)

  pub no_line : (line : List ℕ) → is_line ground line ≡ false → reading line ≡ None
  no_line line wrong = none_of (reading line) (reads line ∙ wrong)

  pub first_fault : (line : List ℕ) (place : ℕ) → is_line ground line ≡ false → place ≤ length line
      → begins_line ground (take place line) ≡ true
      → (place < length line → begins_line ground (take (place + 1) line) ≡ false) → IsFirstFault reading line place
  first_fault line place wrong within begun parts = record {
    wrong = no_line line wrong;
    within = within;
    begun = (let found = (ground_fronts ground).rest_of
        (take place line) begun in (found.0, known_line (take place line ++ found.0) found.1));
    parts = λ below rest. none_of (reading (take (place + 1) line ++ rest))
        (reads (take (place + 1) line ++ rest) ∙ false_from_ne_true (is_line ground (take (place + 1) line ++ rest))
        (λ known.
        let begun = (ground_fronts ground).is_front (take (place + 1) line) rest known in
        let none : true ≡ false = sym begun ∙ parts below in
        cc));
  }
