-- The label of what is shared has no fault.
use Rattle.std.proofs.Common.{◌≡◌, ℕ, ◌≤◌, Bool, false, not, cond, ltb, eqb, List, [], ◌∷◌, ◌++◌, codes, length, None, Some, position, refl, ap, ◌∙◌, arith}
use Rattle.std.proofs.lemmas.Bool.Decides.{nat_tests}
use Rattle.std.proofs.lemmas.List.{length-append}
use Rattle.smack_rules.specs.Label.{is_label_byte, label_fault, byte_fault}
use Rattle.smack_rules.specs.declared.label.LabelRefusal.TheVariants.{Empty, TooLong}
use Rattle.app_registry.specs.Ident.{is_ident_byte, ident_fault}
use Rattle.app_registry.proofs.Texts.{NonePass, NonePass-weaker, position-none, IsSoundIdent, sound_ident}
use Rattle.app_registry.proofs.Rising.{AllByRecursion-append}
use Rattle.private_sharing.specs.Rules.{share_label}

abbrev Right : List ℕ → Type 0
Right = NonePass (λ byte. not (is_label_byte byte))

-- what may stand in an ident may stand in a label
ident_byte : (byte : ℕ) → not (is_ident_byte byte) ≡ false → not (is_label_byte byte) ≡ false
ident_byte byte h = grind (arith, nat_tests)

ident_right : (name : List ℕ) → ident_fault name ≡ None → Right name
ident_right name sound = NonePass-weaker _ (λ byte. not (is_label_byte byte)) ident_byte name (sound_ident name sound).none_wrong

joined : (xs ys : List ℕ) → Right xs → Right ys → Right (xs ++ ys)
joined xs ys front back = AllByRecursion-append (λ byte. not (is_label_byte byte) ≡ false) xs ys front back

module _ («package» name : List ℕ) (sound : ident_fault «package» ≡ None) (own : ident_fault name ≡ None) where
  right : Right (share_label «package» name)
  right =
      joined (codes "User::Pkg::" ++ «package») (codes "::Share::" ++ name)
      (joined (codes "User::Pkg::") «package»
      (refl, (refl, (refl, (refl, (refl, (refl, (refl, (refl, (refl, (refl, (refl, tt))))))))))) (ident_right «package» sound))
      (joined (codes "::Share::") name
      (refl, (refl, (refl, (refl, (refl, (refl, (refl, (refl, (refl, tt))))))))) (ident_right name own))

  some : eqb (length (share_label «package» name)) 0 ≡ false
  some = grind (arith, nat_tests)

  short : ltb 255 (length (share_label «package» name)) ≡ false
  short =
      let first = sound_ident «package» sound in
      let second = sound_ident name own in
      let both = length-append «package» (codes "::Share::" ++ name) in
      grind (arith, nat_tests, first.short, second.short, both)

  pub label_fault-share_label : label_fault (share_label «package» name) ≡ None
  label_fault-share_label =
      let text = share_label «package» name in
      let bad = position (λ byte. not (is_label_byte byte)) text in
      let rest = λ (long : Bool). cond long (Some TooLong) (byte_fault text bad) in
      ap (λ empty. cond empty (Some Empty) (rest (ltb 255 (length text)))) some
      ∙ ap rest short
      ∙ ap (byte_fault text) (position-none (λ byte. not (is_label_byte byte)) text right)
