-- A field and its one text give each other back, and so keys of names that compare as equal are one key.
use Rattle.std.proofs.Common.{◌≡◌, Bool, true, false, List, ℕ, None, cond, refl, sym, ap, ◌∙◌}
use Rattle.cynara_keys.specs.Text.{same_text}
use Rattle.cynara_keys.specs.Name.{name_fault}
use Rattle.cynara_keys.specs.Field.{wildcard, field_text, field_of, field_fault}
use Rattle.cynara_keys.specs.declared.fields.Field.{Field}
use Rattle.cynara_keys.specs.declared.fields.Field.TheVariants.{Any, Exact}
use Rattle.cynara_keys.proofs.Order.{same_text-≡}

-- what each field of the program is: the wildcard, or a name without a fault
abbrev pub IsSound : Field → Type 0
IsSound Any = Unit {0}
IsSound (Exact name) = name_fault name ≡ None

no_wildcard : (name : List ℕ) (same : Bool) → same_text name wildcard ≡ same → name_fault name ≡ None → same ≡ false
no_wildcard name true is sound =
    let other : name_fault wildcard ≡ None = ap name_fault (sym (same_text-≡ name wildcard is)) ∙ sound in cc
no_wildcard name false is sound = refl

pub field_of-name : (name : List ℕ) → name_fault name ≡ None → field_of name ≡ Exact name
field_of-name name sound = ap (λ same. cond same Any (Exact name)) (no_wildcard name (same_text name wildcard) refl sound)

pub field_fault-name : (name : List ℕ) → name_fault name ≡ None → field_fault name ≡ None
field_fault-name name sound =
    ap (λ same. cond same None (name_fault name)) (no_wildcard name (same_text name wildcard) refl sound) ∙ sound

-- the field that a text is read as has this text
spelled_as : (text : List ℕ) (same : Bool) → same_text text wildcard ≡ same → field_text (cond same Any (Exact text)) ≡ text
spelled_as text true is = sym (same_text-≡ text wildcard is)
spelled_as text false is = refl

pub field_text-field_of : (text : List ℕ) → field_text (field_of text) ≡ text
field_text-field_of text = spelled_as text (same_text text wildcard) refl

sound_at : (text : List ℕ) (same : Bool) → cond same None (name_fault text) ≡ None → IsSound (cond same Any (Exact text))
sound_at text true fits = tt
sound_at text false fits = fits

pub field_of-sound : (text : List ℕ) → field_fault text ≡ None → IsSound (field_of text)
field_of-sound text fits = sound_at text (same_text text wildcard) fits
