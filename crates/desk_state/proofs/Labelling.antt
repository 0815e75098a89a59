-- The package that a label of an install is of: names of packages have no colon, so the label tells it.
use Rattle.std.proofs.Common.{◌≡◌, ℕ, ◌==◌, Bool, true, false, not, cond, List, [], ◌∷◌, ◌++◌, codes, drop, None, refl, ap, ◌∙◌, arith}
use Rattle.std.proofs.lemmas.Bool.Decides.{nat_tests}
use Rattle.app_registry.specs.Ident.{is_ident_byte, ident_fault}
use Rattle.app_registry.specs.Label.{package_label, app_label, install_label}
use Rattle.app_registry.specs.declared.installs.Install.{Install}
use Rattle.app_registry.proofs.Texts.{NonePass, sound_ident}

-- what stands before the first colon
abbrev pub before_colon : List ℕ → List ℕ
before_colon [] = []
before_colon (byte ∷ bytes) = cond (byte == 58) [] (byte ∷ before_colon bytes)

-- the name behind `User::Pkg::`
abbrev pub package_in : List ℕ → List ℕ
package_in label = before_colon (drop 11 label)

no_colon : (byte : ℕ) → not (is_ident_byte byte) ≡ false → (byte == 58) ≡ false
no_colon byte h = grind (arith, nat_tests)

before-end : (name : List ℕ) → NonePass (λ byte. not (is_ident_byte byte)) name → before_colon name ≡ name
before-end [] none = refl
before-end (byte ∷ name) none =
    ap (λ b. cond b [] (byte ∷ before_colon name)) (no_colon byte none.0) ∙ ap (λ rest. byte ∷ rest) (before-end name none.1)

before-part : (name behind : List ℕ) → NonePass (λ byte. not (is_ident_byte byte)) name → before_colon (name ++ 58 ∷ behind) ≡ name
before-part [] behind none = refl
before-part (byte ∷ name) behind none =
    ap (λ b. cond b [] (byte ∷ before_colon (name ++ 58 ∷ behind))) (no_colon byte none.0)
    ∙ ap (λ rest. byte ∷ rest) (before-part name behind none.1)

pub package_in-label : (install : Install) → ident_fault install.package ≡ None → package_in (install_label install) ≡ install.package
package_in-label install sound = at install.hybrid
  where
    at : (b : Bool) → package_in (cond b (app_label install.package install.app) (package_label install.package)) ≡ install.package
    at true = before-part install.package (codes ":App::" ++ install.app) (sound_ident install.package sound).none_wrong
    at false = before-end install.package (sound_ident install.package sound).none_wrong
