use Rattle.std.proofs.Common.{◌≡◌, ◌++◌, ◌∷◌, [], Some, true, subst, sym, ap, ◌∙◌, append_assoc}
use Rattle.set_text.specs.Lines.{fields_of}
use Rattle.set_text.specs.Registry.{are_privileges}
use Rattle.set_text.specs.parts.Rights.{privilege_fits, privileges_of}
use Rattle.set_text.proofs.ReadingPrivileges.{are_privileges-more, are_privileges-wrong, privileges_of-right}
use Rattle.set_text.proofs.ReadingPrivileges.{privileges_of-wrong}
use Rattle.set_text.proofs.Refusing.{refuses-if}
use Rattle.set_text.proofs.installs.names_of.Goals as goal

pub loop-field-preserved : goal.loop-field-preserved
loop-field-preserved c =
    let names = c.loop-field.names.items in
    let field = c.in-Some.field.now in
    let pushed = c.in-Ok.ensures.pushed in
    record {
      known = subst (λ list. are_privileges list ≡ true) (sym pushed)
          (are_privileges-more names field c.loop-field.invariant.known c.in-Ok.ensures.fits);
      taken = ap (λ list. list ++ fields_of c.in-Some.after.now) pushed
          ∙ append_assoc names (field ∷ []) (fields_of c.in-Some.after.now)
          ∙ sym (ap (λ fields. names ++ fields) c.in-Some.ensures.fields) ∙ c.loop-field.invariant.taken;
    }

pub returns-in-Err : goal.returns-in-Err
returns-in-Err c =
    let names = c.loop-field.names.items in
    let field = c.in-Some.field.now in
    let more = fields_of c.in-Some.after.now in
    refuses-if c.in-Err.fault (privilege_fits names field) field
    (privileges_of (fields_of c.args.text.now)) c.in-Err.ensures.wrong (λ no.
    ap privileges_of (sym c.loop-field.invariant.taken ∙ ap (λ fields. names ++ fields) c.in-Some.ensures.fields)
    ∙ privileges_of-wrong (names ++ field ∷ more) (are_privileges-wrong names field more no))

pub returns-in-Err-push_name : goal.returns-in-Err-push_name
returns-in-Err-push_name c =
    let names = c.loop-field.names.items in
    let field = c.loop-field.rest.now in
    refuses-if c.in-Err-push_name.fault (privilege_fits names field) field (privileges_of (fields_of c.args.text.now))
    c.in-Err-push_name.ensures.wrong (λ no.
    ap privileges_of (sym c.loop-field.invariant.taken ∙ ap (λ fields. names ++ fields) c.in_default.ensures.fields)
    ∙ privileges_of-wrong (names ++ field ∷ []) (are_privileges-wrong names field [] no))

pub returns-in-Ok-push_name : goal.returns-in-Ok-push_name
returns-in-Ok-push_name c =
    let names = c.loop-field.names.items in
    let field = c.loop-field.rest.now in
    ap privileges_of (sym c.loop-field.invariant.taken ∙ ap (λ fields. names ++ fields) c.in_default.ensures.fields)
    ∙ privileges_of-right (names ++ field ∷ [])
    (are_privileges-more names field c.loop-field.invariant.known c.in-Ok-push_name.ensures.fits)
    ∙ ap (λ list. Some list) (sym c.in-Ok-push_name.ensures.pushed)
