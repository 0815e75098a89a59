use Rattle.std.proofs.Common.{◌≡◌, ◌++◌, ◌∙◌, append_assoc, codes, None, sym, subst, rules}
use Rattle.cynara_keys.specs.Name.{name_fault}
use Rattle.smack_rules.specs.Label.{label_fault}
use Rattle.app_registry.specs.Label.{package_label}
use Rattle.app_registry.proofs.Texts.{label_fault-app_label, name_fault-app_label}
use Rattle.app_registry.proofs.labels.app_text.Goals as goal

pub returns : goal.returns
returns c =
    let joined : c.extend_from_slice-4.new.self.items
    ≡ (package_label c.args.package.now ++ codes "::App::") ++ c.args.app.now =
    search rules in
    let is = joined ∙ append_assoc (package_label c.args.package.now) (codes "::App::") c.args.app.now in
    let sound = c.as_slice-name.ensures.ident in
    let own = c.as_slice-own.ensures.ident in
    record {
      text = is;
      label = subst (λ text. label_fault text ≡ None) (sym is) (label_fault-app_label c.args.package.now c.args.app.now sound own);
      name = subst (λ text. name_fault text ≡ None) (sym is) (name_fault-app_label c.args.package.now c.args.app.now sound own);
    }
