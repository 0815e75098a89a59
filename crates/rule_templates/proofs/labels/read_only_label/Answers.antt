use Rattle.std.proofs.Common.{◌≡◌, None, sym, subst, arith}
use Rattle.std.proofs.lemmas.Grind.{common_steps}
use Rattle.smack_rules.specs.Label.{label_fault}
use Rattle.rule_templates.specs.PackageLabels.{read_only_label}
use Rattle.rule_templates.proofs.LabelsMade.{label_fault-read_only_label}
use Rattle.rule_templates.proofs.labels.read_only_label.Goals as goal

pub of-requires : goal.of-requires
of-requires c =
    let is : c.deref.result.now ≡ read_only_label c.args.package.now = grind (arith, common_steps) in
    subst (λ text. label_fault text ≡ None) (sym is) (label_fault-read_only_label c.args.package.now c.as_slice-name.ensures.ident)
