-- What a template gives for a package.
use Rattle.std.specs.Prelude.{ℕ, Bool, true, false, ◌||◌, if◌then◌else◌, List, [], ◌∷◌, Option, Some, None}
use Rattle.std.specs.Option.{option_map}
use Rattle.std.specs.List.{flat_map}
use Rattle.smack_rules.specs.declared.rule.Rule.{Rule}
use Rattle.smack_rules.specs.declared.rule.Rule.TheVariants.{Set as SetRule, Adjust as AdjustRule}
use Rattle.app_registry.specs.Label.{package_label}
use Rattle.app_registry.specs.Registry.{RegistryLists, author_of}
use Rattle.rule_templates.specs.declared.lines.Word.{Word}
use Rattle.rule_templates.specs.declared.lines.Word.TheVariants.{Fixed, OfPackage}
use Rattle.rule_templates.specs.declared.lines.Change.{Change}
use Rattle.rule_templates.specs.declared.lines.Change.TheVariants.{Set, Adjust}
use Rattle.rule_templates.specs.declared.lines.TemplateLine.{TemplateLine}
use Rattle.rule_templates.specs.declared.placeholders.Placeholder.{Placeholder}
use Rattle.rule_templates.specs.declared.placeholders.Placeholder.TheVariants.{Process, PathRw, PathRo, Author}
use Rattle.rule_templates.specs.PackageLabels.{read_only_label, author_label}
use Rattle.rule_templates.specs.Processes.{process_labels}

-- what the placeholders stand for: a package by its name, its author, if it has one, and the label of one of its
-- processes
pub record Expanded : Type 0 where
  pub name : List ℕ
  pub author : Option (List ℕ)
  pub process : List ℕ

-- the label that a placeholder stands for; none for an author that is not there
abbrev pub placeholder_label : Expanded → Placeholder → Option (List ℕ)
placeholder_label for Process = Some for.process
placeholder_label for PathRw = Some (package_label for.name)
placeholder_label for PathRo = Some (read_only_label for.name)
placeholder_label for Author = option_map author_label for.author

-- the label that a word stands for
abbrev pub word_label : Expanded → Word → Option (List ℕ)
word_label for (Fixed label) = Some label
word_label for (OfPackage placeholder) = placeholder_label for placeholder

-- the rule that changes a pair
abbrev pub rule_of : Change → List ℕ → List ℕ → Rule
rule_of (Set modes) subject object = SetRule subject object modes
rule_of (Adjust allow deny) subject object = AdjustRule subject object allow deny

-- the rule for two labels, and none where one of them is not there
abbrev pub rules_with : Change → Option (List ℕ) → Option (List ℕ) → List Rule
rules_with change (Some subject) (Some object) = rule_of change subject object ∷ []
rules_with change (Some subject) None = []
rules_with change None object = []

-- the rule that a line gives for one process
abbrev pub line_rules : Expanded → TemplateLine → List Rule
line_rules for line = rules_with line.change (word_label for line.subject) (word_label for line.object)

abbrev pub is_process : Placeholder → Bool
is_process Process = true
is_process PathRw = false
is_process PathRo = false
is_process Author = false

abbrev pub is_process_word : Word → Bool
is_process_word (Fixed label) = false
is_process_word (OfPackage placeholder) = is_process placeholder

-- the line has `~PROCESS~`
abbrev pub has_process : TemplateLine → Bool
has_process line = is_process_word line.subject || is_process_word line.object

-- The processes for which a line gives a rule: each of the package's where it has `~PROCESS~`. Any other line gives one
-- rule, whatever the label of the process.
abbrev pub processes_for : List ℕ → List (List ℕ) → TemplateLine → List (List ℕ)
processes_for name processes line = if has_process line then processes else package_label name ∷ []

-- the rules that a line gives for a package with an author, or with none, and with processes of these labels
abbrev pub package_line_rules : List ℕ → Option (List ℕ) → List (List ℕ) → TemplateLine → List Rule
package_line_rules name author processes line =
    flat_map (λ process. line_rules (record { name = name; author = author; process = process }) line)
    (processes_for name processes line)

-- The rules of the package of a name, as a registry has it: those of the lines, in order.
abbrev pub expansion : List TemplateLine → RegistryLists → List ℕ → List Rule
expansion lines registry name =
    flat_map (package_line_rules name (author_of registry name) (process_labels registry name)) lines
