use Rattle.std.proofs.Common.{◌≡◌, None, sym, subst, rules}
use Rattle.smack_rules.specs.Label.{label_fault}
use Rattle.rule_templates.specs.PackageLabels.{author_label}
use Rattle.rule_templates.proofs.LabelsMade.{label_fault-author_label}
use Rattle.rule_templates.proofs.labels.author_label.Goals as goal

pub of-requires : goal.of-requires
of-requires c =
    let is : c.deref.result.now ≡ author_label c.args.author.now = search rules in
    subst (λ text. label_fault text ≡ None) (sym is) (label_fault-author_label c.args.author.now c.as_slice-name.ensures.ident)
