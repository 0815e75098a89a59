-- The line of an install, from its parts.
use Rattle.std.proofs.Common.{◌≡◌, ℕ, Bool, true, false, cond, ◌&&◌, List, ◌∷◌, Option, Some, None, option_map, refl}
use Rattle.std.proofs.Common.{sym, ap, ◌∙◌}
use Rattle.app_registry.specs.declared.installs.Install.{Install}
use Rattle.app_registry.specs.declared.installs.Scope.{Scope}
use Rattle.set_text.specs.declared.installs.Rights.{Rights}
use Rattle.set_text.specs.declared.lines.LineFault.{LineFault}
use Rattle.set_text.specs.declared.lines.LineFault.TheVariants.{Wrong, Memory}
use Rattle.set_text.specs.Lines.{fields_of}
use Rattle.set_text.specs.Registry.{is_ident, is_marked, name_in, is_author, author_of, are_privileges, scope_of, install_of_fields}
use Rattle.set_text.specs.parts.Reads.{RefusesLine}
use Rattle.set_text.specs.parts.Rights.{rights_of, rights_with}
use Rattle.set_text.proofs.TextLines.{fields_of-some}

abbrev pub install_with : List ℕ → List ℕ → List ℕ → Rights → Install
install_with «package» author app rights = record {
  «package» = name_in «package»;
  author = author_of author;
  app = app;
  scope = rights.scope;
  privileges = rights.privileges;
  hybrid = is_marked «package»;
}

either-way : (b : Bool) (install : Option Install) → cond b install install ≡ install
either-way true install = refl
either-way false install = refl

-- the install of these fields and of those behind them
abbrev pub install_from : List ℕ → List ℕ → List ℕ → Option Rights → Option Install
install_from «package» author app rights =
    cond (is_ident (name_in «package») && (is_author author && is_ident app))
    (option_map (install_with «package» author app) rights) None

module _ («package» author app : List ℕ) where
  parts-at : (names : List (List ℕ)) (a b c d : Bool) (scope : Option Scope)
      → cond (a && (b && (c && d))) (option_map (λ scope. let install : Install = record {
        «package» = name_in «package»;
        author = author_of author;
        app = app;
        scope = scope;
        privileges = names;
        hybrid = is_marked «package»;
      } in install) scope) None
      ≡ cond (a && (b && c)) (option_map (install_with «package» author app)
      (cond d (rights_with names scope) None)) None
  parts-at names false b c d scope = refl
  parts-at names true false c d scope = refl
  parts-at names true true false d scope = refl
  parts-at names true true true false scope = refl
  parts-at names true true true true None = refl
  parts-at names true true true true (Some scope) = refl

  pub install-parts : (rest : List ℕ)
      → install_of_fields («package» ∷ author ∷ app ∷ fields_of rest)
      ≡ install_from «package» author app (rights_of (fields_of rest))
  install-parts rest =
      let some = fields_of-some rest in
      ap (λ fields. install_of_fields («package» ∷ author ∷ app ∷ fields)) some.2
      ∙ parts-at some.1 (is_ident (name_in «package»)) (is_author author) (is_ident app) (are_privileges some.1) (scope_of some.0)
      ∙ ap (λ fields. install_from «package» author app (rights_of fields)) (sym some.2)

  pub from-no_author : (rights : Option Rights) → is_author author ≡ false → install_from «package» author app rights
      ≡ None
  from-no_author rights wrong =
      ap (λ b. cond (is_ident (name_in «package») && (b && is_ident app))
      (option_map (install_with «package» author app) rights) None) wrong
      ∙ by (is_ident (name_in «package»))
    where
      by : (b : Bool) → cond (b && false) (option_map (install_with «package» author app) rights) None ≡ None
      by true = refl
      by false = refl

  pub from-no_app : (rights : Option Rights) → is_ident app ≡ false → install_from «package» author app rights ≡ None
  from-no_app rights wrong =
      ap (λ b. cond (is_ident (name_in «package») && (is_author author && b))
      (option_map (install_with «package» author app) rights) None) wrong
      ∙ by (is_ident (name_in «package»)) (is_author author)
    where
      by : (a b : Bool) → cond (a && (b && false)) (option_map (install_with «package» author app) rights) None ≡ None
      by true true = refl
      by true false = refl
      by false b = refl

  pub from-no_rights : (rights : Option Rights) → rights ≡ None → install_from «package» author app rights ≡ None
  from-no_rights rights none =
      ap (install_from «package» author app) none
      ∙ either-way (is_ident (name_in «package») && (is_author author && is_ident app)) None

  pub from-right : (rights : Rights) → is_ident (name_in «package») ≡ true → is_author author ≡ true → is_ident app ≡ true
      → install_from «package» author app (Some rights) ≡ Some (install_with «package» author app rights)
  from-right rights first second third =
      ap (λ b. cond (b && (is_author author && is_ident app))
      (Some (install_with «package» author app rights)) None) first
      ∙ ap (λ b. cond (b && is_ident app) (Some (install_with «package» author app rights)) None) second
      ∙ ap (λ b. cond b (Some (install_with «package» author app rights)) None) third

-- a part that is wrong makes the line wrong
pub refuses-part : {X Y : Type 0} (fault : LineFault) (part : Option X) (line : Option Y) → RefusesLine fault part
    → (part ≡ None → line ≡ None) → RefusesLine fault line
refuses-part Wrong part line refuses wrong = wrong refuses
refuses-part (Memory error) part line refuses wrong = tt
