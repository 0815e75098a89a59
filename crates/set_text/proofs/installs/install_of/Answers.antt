use Rattle.std.proofs.Common.{◌≡◌, ◌∷◌, Some, ℕ, List, sym, ap, ◌∙◌}
use Rattle.set_text.specs.Lines.{fields_of}
use Rattle.set_text.specs.Registry.{is_ident, name_in, is_author, author_of, install_of, install_of_fields}
use Rattle.set_text.specs.parts.Rights.{rights_of}
use Rattle.set_text.proofs.ReadingLine.{install_from, install-parts, from-no_author, from-no_app, from-no_rights, from-right}
use Rattle.set_text.proofs.ReadingLine.{refuses-part}
use Rattle.set_text.proofs.Refusing.{some-if, refuses-if}
use Rattle.set_text.proofs.installs.install_of.Goals as goal

cut : (fields rest more last : List (List ℕ)) («package» author app : List ℕ) → fields ≡ «package» ∷ rest → rest
    ≡ author ∷ more
    → more ≡ app ∷ last → fields ≡ «package» ∷ author ∷ app ∷ last
cut fields rest more last «package» author app first second third =
    first ∙ ap (λ rest. «package» ∷ rest) second ∙ ap (λ more. «package» ∷ author ∷ more) third

pub returns-in-Err-author_of : goal.returns-in-Err-author_of
returns-in-Err-author_of c =
    let name = c.in-Some.package.now in
    let author = c.in-Some-cut_field.author.now in
    let app = c.in-Some-cut_field-2.app.now in
    let rest = c.in-Some-cut_field-2.rest.now in
    refuses-if c.in-Err-author_of.fault (is_author author) (author_of author) (install_of c.args.line.now)
    c.in-Err-author_of.ensures
    (λ wrong.
    ap install_of_fields (cut _ _ _
    (fields_of rest) name author app c.in-Some.ensures.fields c.in-Some-cut_field.ensures.fields
    c.in-Some-cut_field-2.ensures.fields)
    ∙ install-parts name author app rest ∙ from-no_author name author app (rights_of (fields_of rest)) wrong)

pub returns-in-Err-ident_of : goal.returns-in-Err-ident_of
returns-in-Err-ident_of c =
    let name = c.in-Some.package.now in
    let author = c.in-Some-cut_field.author.now in
    let app = c.in-Some-cut_field-2.app.now in
    let rest = c.in-Some-cut_field-2.rest.now in
    refuses-if c.in-Err-ident_of.fault (is_ident app) app (install_of c.args.line.now) c.in-Err-ident_of.ensures
    (λ wrong.
    ap install_of_fields (cut _ _ _
    (fields_of rest) name author app c.in-Some.ensures.fields c.in-Some-cut_field.ensures.fields
    c.in-Some-cut_field-2.ensures.fields)
    ∙ install-parts name author app rest ∙ from-no_app name author app (rights_of (fields_of rest)) wrong)

pub returns-in-Err-rights_of : goal.returns-in-Err-rights_of
returns-in-Err-rights_of c =
    let name = c.in-Some.package.now in
    let author = c.in-Some-cut_field.author.now in
    let app = c.in-Some-cut_field-2.app.now in
    let rest = c.in-Some-cut_field-2.rest.now in
    refuses-part c.in-Err-rights_of.fault (rights_of (fields_of rest))
    (install_of c.args.line.now) c.in-Err-rights_of.ensures (λ wrong.
    ap install_of_fields (cut _ _ _
    (fields_of rest) name author app c.in-Some.ensures.fields c.in-Some-cut_field.ensures.fields
    c.in-Some-cut_field-2.ensures.fields)
    ∙ install-parts name author app rest ∙ from-no_rights name author app (rights_of (fields_of rest)) wrong)

pub returns : goal.returns
returns c =
    let name = c.in-Some.package.now in
    let author = c.in-Some-cut_field.author.now in
    let app = c.in-Some-cut_field-2.app.now in
    let rest = c.in-Some-cut_field-2.rest.now in
    let rights = c.in-Ok-rights_of.rights in
    let named : c.name_in.result.now ≡ name_in name = c.name_in.ensures in
    let first = some-if (is_ident c.name_in.result.now) c.name_in.result.now c.in-Ok.package c.in-Ok.ensures in
    let second = some-if (is_author author) (author_of author) c.in-Ok-author_of.author c.in-Ok-author_of.ensures in
    let third = some-if (is_ident app) app c.in-Ok-ident_of.app c.in-Ok-ident_of.ensures in
    ap install_of_fields (cut _ _ _
    (fields_of rest) name author app c.in-Some.ensures.fields c.in-Some-cut_field.ensures.fields
    c.in-Some-cut_field-2.ensures.fields)
    ∙ install-parts name author app rest
    ∙ ap (install_from name author app) c.in-Ok-rights_of.ensures
    ∙ from-right name author app rights (sym (ap is_ident named) ∙ first.0) second.0 third.0
    ∙ (λ i. Some (record {
      «package» = (sym named ∙ first.1) i;
      author = second.1 i;
      app = third.1 i;
      scope = rights.scope;
      privileges = rights.privileges;
      hybrid = sym c.is_marked-hybrid.ensures i;
    }))
