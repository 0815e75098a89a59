-- The labels of a package, made once for all lines.
use Rattle.std.specs.Prelude.{ℕ, if◌then◌else◌, List, Option, Some}
use Rattle.std.specs.List.{flat_map}
use Rattle.std.specs.Option.{option_map}
use Rattle.smack_rules.specs.declared.rule.Rule.{Rule}
use Rattle.app_registry.specs.Label.{package_label}
use Rattle.rule_templates.specs.declared.labels.PackageLabels.{PackageLabels}
use Rattle.rule_templates.specs.declared.lines.Word.{Word}
use Rattle.rule_templates.specs.declared.lines.Word.TheVariants.{Fixed, OfPackage}
use Rattle.rule_templates.specs.declared.lines.TemplateLine.{TemplateLine}
use Rattle.rule_templates.specs.declared.placeholders.Placeholder.{Placeholder}
use Rattle.rule_templates.specs.declared.placeholders.Placeholder.TheVariants.{Process, PathRw, PathRo, Author}
use Rattle.rule_templates.specs.PackageLabels.{read_only_label, author_label}
use Rattle.rule_templates.specs.Expansion.{rules_with, has_process}

abbrev pub labels_of : List ℕ → Option (List ℕ) → PackageLabels
labels_of name author =
    record { own = package_label name; read_only = read_only_label name; author = option_map author_label author }

abbrev pub placeholder_label_in : PackageLabels → List ℕ → Placeholder → Option (List ℕ)
placeholder_label_in labels process Process = Some process
placeholder_label_in labels process PathRw = Some labels.own
placeholder_label_in labels process PathRo = Some labels.read_only
placeholder_label_in labels process Author = labels.author

abbrev pub word_label_in : PackageLabels → List ℕ → Word → Option (List ℕ)
word_label_in labels process (Fixed label) = Some label
word_label_in labels process (OfPackage placeholder) = placeholder_label_in labels process placeholder

-- the rule of a line for the process of a label
abbrev pub line_rules_in : PackageLabels → TemplateLine → List ℕ → List Rule
line_rules_in labels line process =
    rules_with line.change (word_label_in labels process line.subject) (word_label_in labels process line.object)

-- its rules for processes of these labels, one after the other
abbrev pub each_rules_in : PackageLabels → TemplateLine → List (List ℕ) → List Rule
each_rules_in labels line processes = flat_map (line_rules_in labels line) processes

-- the rules of a line for a package that has processes of these labels
abbrev pub package_line_rules_in : PackageLabels → List (List ℕ) → TemplateLine → List Rule
package_line_rules_in labels processes line =
    if has_process line then each_rules_in labels line processes else line_rules_in labels line labels.own
