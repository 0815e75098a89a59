use Rattle.std.proofs.Common.{◌≡◌, ◌++◌, ◌∙◌, append_assoc, codes, None, sym, subst, rules}
use Rattle.smack_rules.specs.Label.{label_fault}
use Rattle.app_registry.specs.Label.{package_label}
use Rattle.private_sharing.specs.Rules.{share_label}
use Rattle.private_sharing.proofs.Labelled.{label_fault-share_label}
use Rattle.private_sharing.proofs.labels.share_text.Goals as goal

pub returns : goal.returns
returns c =
    let joined : c.extend_from_slice-4.new.self.items ≡ (package_label c.args.package.now ++ codes "::Share::") ++ c.args.name.now =
    search rules in
    let is = joined ∙ append_assoc (package_label c.args.package.now) (codes "::Share::") c.args.name.now in
    let sound = c.as_slice-front.ensures.ident in
    let own = c.as_slice-own.ensures.ident in
    record {
      text = is;
      label = subst (λ text. label_fault text ≡ None) (sym is) (label_fault-share_label c.args.package.now c.args.name.now sound own);
    }
