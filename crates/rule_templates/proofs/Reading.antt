-- How the lines that were read go before those that are left.
use Rattle.std.proofs.Common.{◌≡◌, ℕ, ◌+◌, ◌<◌, ◌≤◌, nat_lt, cond, Bool, true, false, List, [], ◌∷◌, ◌++◌, Option, Some, None, is_some, Result, Ok, Err, refl, sym, ap, ◌∙◌, append_assoc}
use Rattle.std.specs.declared.alloc.AllocError.{AllocError}
use Rattle.std.proofs.lemmas.Bool.{lt-ltb, le-ltb}
use Rattle.rule_templates.specs.declared.lines.Word.{Word}
use Rattle.rule_templates.specs.declared.lines.Change.{Change}
use Rattle.rule_templates.specs.declared.lines.TemplateLine.{TemplateLine}
use Rattle.rule_templates.specs.declared.lines.LineFault.{LineFault}
use Rattle.rule_templates.specs.declared.lines.LineFault.TheVariants.{Form, UnknownPlaceholder}
use Rattle.rule_templates.specs.declared.templates.TemplateRefusal.{TemplateRefusal}
use Rattle.rule_templates.specs.declared.templates.TemplateRefusal.TheVariants.{BadLine, BadPlaceholder, TooMany, Memory}
use Rattle.rule_templates.specs.TemplateLine.{line_with, line_of}
use Rattle.rule_templates.specs.Template.{with_front, with_line, template_from}
use Rattle.rule_templates.specs.TemplateRead.{RefusesAs}

-- what a text, or the lines that are left, may mean
abbrev pub Meaning : Type 0
Meaning = Result (List TemplateLine) TemplateRefusal

-- two known words and a change are a line
pub line_with-known : (subject object : Option Word) (change : Change) → is_some subject ≡ true → is_some object ≡ true
    → (line : TemplateLine) × (line_with subject object (Some change) ≡ Ok line)
line_with-known (Some subject) (Some object) change s o = (_, refl)
line_with-known (Some subject) None change s o = cc
line_with-known None object change s o = cc

pub with_line-right : (number : ℕ) (line : Result TemplateLine LineFault) (kept : TemplateLine) (later : Meaning)
    → line ≡ Ok kept → number ≤ 64 → with_line number line later ≡ with_front (kept ∷ []) later
with_line-right number line kept later is within =
    ap (λ line. with_line number line later) is
    ∙ ap (λ b. cond b (Err (TooMany number)) (with_front (kept ∷ []) later)) (le-ltb 64 number within)

pub with_line-too_many : (number : ℕ) (line : Result TemplateLine LineFault) (kept : TemplateLine) (later : Meaning)
    → line ≡ Ok kept → 64 < number → with_line number line later ≡ Err (TooMany number)
with_line-too_many number line kept later is past =
    ap (λ line. with_line number line later) is
    ∙ ap (λ b. cond b (Err (TooMany number)) (with_front (kept ∷ []) later)) (lt-ltb 64 number past)

with_front-append : (front more : List TemplateLine) (later : Meaning)
    → with_front front (with_front more later) ≡ with_front (front ++ more) later
with_front-append front more (Ok lines) = ap Ok (sym (append_assoc front more lines))
with_front-append front more (Err refusal) = refl

-- one more line, which is right
pub with_front-line : (front : List TemplateLine) (number : ℕ) (line : Result TemplateLine LineFault) (kept : TemplateLine)
    (later : Meaning) → line ≡ Ok kept → number ≤ 64
    → with_front front (with_line number line later) ≡ with_front (front ++ kept ∷ []) later
with_front-line front number line kept later is within =
    ap (with_front front) (with_line-right number line kept later is within) ∙ with_front-append front (kept ∷ []) later

-- No text means want of memory.

with_front-memory : (front : List TemplateLine) (later : Meaning) (error : AllocError)
    → with_front front later ≡ Err (Memory error) → later ≡ Err (Memory error)
with_front-memory front (Ok lines) error h = cc
with_front-memory front (Err refusal) error h = h

too_many_or : (past : Bool) (number : ℕ) (later : Meaning) (error : AllocError) → (later ≡ Err (Memory error) → ⊥)
    → cond past (Err (TooMany number)) later ≡ Err (Memory error) → ⊥
too_many_or true number later error none h = cc
too_many_or false number later error none h = none h

no_memory_line : (number : ℕ) (line : Result TemplateLine LineFault) (later : Meaning) (error : AllocError)
    → (later ≡ Err (Memory error) → ⊥) → with_line number line later ≡ Err (Memory error) → ⊥
no_memory_line number (Err Form) later error none h = cc
no_memory_line number (Err UnknownPlaceholder) later error none h = cc
no_memory_line number (Ok line) later error none h =
    too_many_or (nat_lt 64 number) number (with_front (line ∷ []) later) error
    (λ front. none (with_front-memory (line ∷ []) later error front)) h

pub no_memory : (number : ℕ) (lines : List (List ℕ)) (error : AllocError) → template_from number lines ≡ Err (Memory error) → ⊥
no_memory number [] error h = cc
no_memory number (line ∷ lines) error h =
    no_memory_line number (line_of line) (template_from (number + 1) lines) error (no_memory (number + 1) lines error) h

pub refuses_as : (number : ℕ) (lines : List (List ℕ)) (refusal : TemplateRefusal) → template_from number lines ≡ Err refusal
    → RefusesAs refusal (template_from number lines)
refuses_as number lines (BadLine at) h = h
refuses_as number lines (BadPlaceholder at) h = h
refuses_as number lines (TooMany at) h = h
refuses_as number lines (Memory error) h = absurd (no_memory number lines error h)
