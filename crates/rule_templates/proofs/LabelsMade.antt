-- The labels that are made of idents have no fault.
use Rattle.std.proofs.Common.{◌≡◌, ℕ, ◌+◌, ◌≤◌, ◌==◌, nat_lt, cond, not, ◌&&◌, Bool, true, false, List, [], ◌∷◌, length, length-append, position, Option, Some, None, codes, refl, ap, ◌∙◌, arith}
use Rattle.std.specs.List.{list_all}
use Rattle.std.proofs.lemmas.Bool.{le-ltb}
use Rattle.std.proofs.lemmas.Bool.Decides.{nat_tests}
use Rattle.std.proofs.lemmas.List.Folds.{list_all-append}
use Rattle.smack_rules.specs.declared.label.LabelRefusal.{LabelRefusal}
use Rattle.smack_rules.specs.declared.label.LabelRefusal.TheVariants.{Empty, TooLong}
use Rattle.smack_rules.specs.Label.{is_label_byte, label_fault, form_fault, byte_fault}
use Rattle.smack_rules.proofs.Spelled.{position-from_label_bytes}
use Rattle.app_registry.specs.Ident.{is_ident_byte, ident_fault}
use Rattle.app_registry.specs.Label.{package_label}
use Rattle.app_registry.proofs.Texts.{NonePass, sound_ident}
use Rattle.rule_templates.specs.PackageLabels.{read_only_label, author_label}

-- A text of a label's bytes is a label, where it has a byte and at most 255, and its form is right.
made_label : (text : List ℕ) → (length text == 0) ≡ false → length text ≤ 255 → list_all is_label_byte text ≡ true
    → form_fault text ≡ None → label_fault text ≡ None
made_label text some short bytes form =
    let bad : ℕ → Bool = λ byte. not (is_label_byte byte) in
    let rest : Option LabelRefusal = byte_fault text (position bad text) in
    ap (λ b. cond b (Some Empty) (cond (nat_lt 255 (length text)) (Some TooLong) rest)) some
    ∙ ap (λ b. cond b (Some TooLong) rest) (le-ltb 255 (length text) short)
    ∙ ap (byte_fault text) (position-from_label_bytes text bytes)
    ∙ form

-- what may stand in an ident may stand in a label
is_label_byte-ident : (byte : ℕ) → not (is_ident_byte byte) ≡ false → is_label_byte byte ≡ true
is_label_byte-ident byte h = grind (arith, nat_tests)

label_bytes-ident : (name : List ℕ) → NonePass (λ byte. not (is_ident_byte byte)) name → list_all is_label_byte name ≡ true
label_bytes-ident [] h = refl
label_bytes-ident (byte ∷ name) h =
    ap (λ b. b && list_all is_label_byte name) (is_label_byte-ident byte h.0) ∙ label_bytes-ident name h.1

pub label_fault-author_label : (name : List ℕ) → ident_fault name ≡ None → label_fault (author_label name) ≡ None
label_fault-author_label name sound =
    let ident = sound_ident name sound in
    let short : length (author_label name) ≤ 255 = omega (arith, length-append (codes "User::Author::") name, ident.short) in
    let some : (length (author_label name) == 0) ≡ false = grind (arith, nat_tests) in
    made_label (author_label name) some short (label_bytes-ident name ident.none_wrong) refl

pub label_fault-read_only_label : (name : List ℕ) → ident_fault name ≡ None → label_fault (read_only_label name) ≡ None
label_fault-read_only_label name sound =
    let ident = sound_ident name sound in
    let text = read_only_label name in
    let long : length text ≡ length (package_label name) + 4 = length-append (package_label name) (codes "::RO") in
    let own : length (package_label name) ≡ 11 + length name = length-append (codes "User::Pkg::") name in
    let short : length text ≤ 255 = omega (arith, long, own, ident.short) in
    let some : (length text == 0) ≡ false = grind (arith, nat_tests) in
    made_label text some short
    (list_all-append is_label_byte (package_label name) (codes "::RO")
    ∙ ap (λ b. b && true) (label_bytes-ident name ident.none_wrong)) refl
