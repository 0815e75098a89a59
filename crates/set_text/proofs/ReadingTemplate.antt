-- A template, read one line behind the other.
use Rattle.std.proofs.Common.{◌≡◌, ℕ, ◌+◌, ◌<◌, ◌≤◌, Bool, true, false, cond, ◌&&◌, nat_lt, List, [], ◌∷◌, ◌++◌}
use Rattle.std.proofs.Common.{length, Some, None, is_some, Result, Ok, Err, refl, sym, ap, ◌∙◌}
use Rattle.std.proofs.Common.{arith, append-nil}
use Rattle.std.proofs.lemmas.Bool.{ltb-false, ltb-true, lt-ltb, le-ltb}
use Rattle.cynara_keys.specs.Text.{same_text}
use Rattle.rule_templates.specs.declared.lines.TemplateLine.{TemplateLine}
use Rattle.rule_templates.specs.declared.templates.TemplateRefusal.{TemplateRefusal}
use Rattle.rule_templates.specs.declared.templates.TemplateRefusal.TheVariants.{BadLine, BadPlaceholder, TooMany}
use Rattle.rule_templates.specs.declared.templates.TemplateRefusal.TheVariants.{Memory}
use Rattle.rule_templates.specs.TemplateLine.{line_text, line_of}
use Rattle.rule_templates.specs.Template.{with_front, with_line, with_one_more, template_text}
use Rattle.set_text.specs.Lines.{kept}
use Rattle.set_text.specs.Template.{spelt_line, template_line_of, template_line_fits, read_template_line}
use Rattle.rule_templates.specs.TemplateRead.{RefusesAs}
use Rattle.set_text.specs.parts.Puts.{IsWrongLine, PutsLine}
use Rattle.set_text.proofs.Numbering.{same_text-last}
use Rattle.set_text.proofs.ReadingValues.{kept-some}

-- ---- one line more

-- no wrong line gives lines
never : (number : ℕ) (fault : _) (later : Result (List TemplateLine) TemplateRefusal) (after : List TemplateLine)
    → with_line number (Err fault) later ≡ Ok after → ⊥
never number fault later after h = grind arith

front-never : (before after : List TemplateLine) (lines : Result (List TemplateLine) TemplateRefusal)
    → ((after : List TemplateLine) → lines ≡ Ok after → ⊥) → with_front before lines ≡ Ok after → ⊥
front-never before after (Ok lines) none h = none lines refl
front-never before after (Err refusal) none h = cc

-- a line that was put behind others is right, and there was room for it
record IsPut (before : List TemplateLine) (text : List ℕ) (number : ℕ) (after : List TemplateLine) : Type 0 where
  line : TemplateLine
  line_is : line_of text ≡ Ok line
  room : nat_lt 64 number ≡ false
  put : after ≡ before ++ line ∷ []

put-at : (text : List ℕ) (before after : List TemplateLine) (number : ℕ) (line : TemplateLine) → line_of text
    ≡ Ok line → (b : Bool)
    → nat_lt 64 number ≡ b → with_front before (cond b (Err (TooMany number)) (with_front (line ∷ []) (Ok [])))
    ≡ Ok after
    → IsPut before text number after
put-at text before after number line is true past h = cc
put-at text before after number line is false past h =
    let same : before ++ line ∷ [] ≡ after = cc in
    record { line = line; line_is = is; room = past; put = sym same }

put-by : (text : List ℕ) (before after : List TemplateLine) (number : ℕ) (read : Result TemplateLine _)
    → line_of text ≡ read
    → with_front before (with_line number read (Ok [])) ≡ Ok after → IsPut before text number after
put-by text before after number (Err fault) is h =
    absurd (front-never before after (with_line number (Err fault) (Ok [])) (never number fault (Ok [])) h)
put-by text before after number (Ok line) is h = put-at text before after number line is (nat_lt 64 number) refl h

is-put : (text : List ℕ) (before after : List TemplateLine) (number : ℕ)
    → with_front before (with_line number (line_of text) (Ok [])) ≡ Ok after → IsPut before text number after
is-put text before after number h = put-by text before after number (line_of text) refl h

-- a line that was refused is wrong, or one too many
full : (before : List TemplateLine) (line : TemplateLine) (b : Bool) → nat_lt (length before) 64 ≡ false
    → kept (template_line_fits before) (cond b (Some line) None) ≡ None
full before line true past = ap (λ b. cond b (Some line) None) past
full before line false past = refl

not-put-at : (text : List ℕ) (before : List TemplateLine) (refusal : TemplateRefusal) (line : TemplateLine) (b : Bool)
    → nat_lt 64 (length before + 1) ≡ b
    → with_front before (cond b (Err (TooMany (length before + 1))) (with_front (line ∷ []) (Ok []))) ≡ Err refusal
    → kept (template_line_fits before) (cond (same_text (line_text line) text) (Some line) None) ≡ None
not-put-at text before refusal line true past h =
    let more : 64 < length before + 1 = ltb-true 64 (length before + 1) past in
    full before line (same_text (line_text line) text) (le-ltb (length before) 64 (omega (arith, more)))
not-put-at text before refusal line false past h = cc

not-put : (text : List ℕ) (before : List TemplateLine) (refusal : TemplateRefusal) (read : Result TemplateLine _)
    → with_front before (with_line (length before + 1) read (Ok [])) ≡ Err refusal
    → kept (template_line_fits before) (spelt_line text read) ≡ None
not-put text before refusal (Err fault) h = refl
not-put text before refusal (Ok line) h = not-put-at text before refusal line (nat_lt 64 (length before + 1)) refl h

is_some-cond : {X : Type 0} (b : Bool) (x : X) → is_some (cond b (Some x) None) ≡ b
is_some-cond true x = refl
is_some-cond false x = refl

and-true : (b : Bool) → (b && true) ≡ b
and-true true = refl
and-true false = refl

-- the spelling of the one line tells whether it is in it
pub spelt-is : (text line : List ℕ) (one : List TemplateLine) → with_one_more [] line ≡ Ok one → text
    ≡ template_text one
    → same_text text (line ++ 10 ∷ []) ≡ is_some (template_line_of line)
spelt-is text line one h is =
    let put = is-put line [] one 1 h in
    ap (λ text. same_text text (line ++ 10 ∷ []))
    (is ∙ ap template_text put.put ∙ append-nil (line_text put.line ++ 10 ∷ []))
    ∙ same_text-last (line_text put.line) line 10 10
    ∙ and-true (same_text (line_text put.line) line)
    ∙ sym (ap (λ read. is_some (spelt_line line read)) put.line_is
    ∙ is_some-cond (same_text (line_text put.line) line) put.line)

spelt-not-by : (line : List ℕ) (refusal : TemplateRefusal) (read : Result TemplateLine _)
    → with_front [] (with_line 1 read (Ok [])) ≡ Err refusal → is_some (spelt_line line read) ≡ false
spelt-not-by line refusal (Err fault) h = refl
spelt-not-by line refusal (Ok found) h = cc

pub spelt-not : (line : List ℕ) (refusal : TemplateRefusal) → with_one_more [] line ≡ Err refusal
    → is_some (template_line_of line) ≡ false
spelt-not line refusal h = spelt-not-by line refusal (line_of line) h

pub line-refused : (before : List TemplateLine) (line : List ℕ) (refusal : TemplateRefusal)
    → with_one_more before line ≡ Err refusal → read_template_line before line ≡ None
line-refused before line refusal h = not-put line before refusal (line_of line) h

pub line-put : (before after : List TemplateLine) (line : List ℕ) → is_some (template_line_of line) ≡ true
    → with_one_more before line ≡ Ok after → PutsLine before line after
line-put before after line spelt h =
    let put = is-put line before after (length before + 1) h in
    let few : length before + 1 ≤ 64 = ltb-false 64 (length before + 1) put.room in
    let same : same_text (line_text put.line) line ≡ true =
    sym (ap (λ read. is_some (spelt_line line read)) put.line_is
    ∙ is_some-cond (same_text (line_text put.line) line) put.line) ∙ spelt in
    record {
      line = put.line;
      reads =
          ap (λ read. kept (template_line_fits before) (spelt_line line read)) put.line_is
          ∙ ap (λ b. kept (template_line_fits before) (cond b (Some put.line) None)) same
          ∙ ap (λ b. cond b (Some put.line) None) (lt-ltb (length before) 64 (omega (arith, few)));
      put = put.put;
    }

-- there was room for a line that was read
pub line-room : (before : List TemplateLine) (text : List ℕ) (line : TemplateLine) → read_template_line before text
    ≡ Some line
    → length before < 64
line-room before text line reads =
    ltb-true (length before) 64 (kept-some (template_line_fits before) (template_line_of text) line reads).1

-- the refusal of a wrong line is what the lines say
pub wrong-line : (refusal : TemplateRefusal) (lines : Result (List TemplateLine) TemplateRefusal) → IsWrongLine refusal
    → RefusesAs refusal lines → lines ≡ Err refusal
wrong-line (BadLine number) lines wrong is = is
wrong-line (BadPlaceholder number) lines wrong is = is
wrong-line (TooMany number) lines wrong is = is
wrong-line (Memory error) lines wrong is = absurd wrong
