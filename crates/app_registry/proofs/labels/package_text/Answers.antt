use Rattle.std.proofs.Common.{◌≡◌, None, sym, subst, rules}
use Rattle.cynara_keys.specs.Name.{name_fault}
use Rattle.smack_rules.specs.Label.{label_fault}
use Rattle.app_registry.specs.Label.{package_label}
use Rattle.app_registry.proofs.Texts.{label_fault-package_label, name_fault-package_label}
use Rattle.app_registry.proofs.labels.package_text.Goals as goal

pub returns : goal.returns
returns c =
    let is : c.extend_from_slice-2.new.self.items ≡ package_label c.args.package.now = search rules in
    let sound = c.as_slice-name.ensures.ident in
    record {
      text = is;
      label = subst (λ text. label_fault text ≡ None) (sym is) (label_fault-package_label c.args.package.now sound);
      name = subst (λ text. name_fault text ≡ None) (sym is) (name_fault-package_label c.args.package.now sound);
    }
