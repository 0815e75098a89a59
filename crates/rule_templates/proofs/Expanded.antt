-- The labels of a package, made once, give each line the rules that it has by itself.
use Rattle.std.proofs.Common.{◌≡◌, ℕ, Bool, true, false, cond, List, [], ◌∷◌, ◌++◌, append-nil, Option, refl, sym, ap, ◌∙◌}
use Rattle.std.specs.List.{flat_map}
use Rattle.app_registry.specs.Label.{package_label}
use Rattle.rule_templates.specs.declared.lines.Word.{Word}
use Rattle.rule_templates.specs.declared.lines.Word.TheVariants.{Fixed, OfPackage}
use Rattle.rule_templates.specs.declared.lines.TemplateLine.{TemplateLine}
use Rattle.rule_templates.specs.declared.placeholders.Placeholder.{Placeholder}
use Rattle.rule_templates.specs.declared.placeholders.Placeholder.TheVariants.{Process, PathRw, PathRo, Author}
use Rattle.rule_templates.specs.Expansion.{Expanded, placeholder_label, word_label, rules_with, line_rules, has_process, package_line_rules}
use Rattle.rule_templates.specs.parts.Labels.{labels_of, placeholder_label_in, word_label_in, line_rules_in, each_rules_in, package_line_rules_in}

module _ (name : List ℕ) (author : Option (List ℕ)) where
  abbrev for : List ℕ → Expanded
  for process = record { name = name; author = author; process = process }

  placeholder_in : (process : List ℕ) (placeholder : Placeholder)
      → placeholder_label_in (labels_of name author) process placeholder ≡ placeholder_label (for process) placeholder
  placeholder_in process Process = refl
  placeholder_in process PathRw = refl
  placeholder_in process PathRo = refl
  placeholder_in process Author = refl

  word_in : (process : List ℕ) (word : Word)
      → word_label_in (labels_of name author) process word ≡ word_label (for process) word
  word_in process (Fixed label) = refl
  word_in process (OfPackage placeholder) = placeholder_in process placeholder

  line_in : (line : TemplateLine) (process : List ℕ)
      → line_rules_in (labels_of name author) line process ≡ line_rules (for process) line
  line_in line process =
      ap (λ subject. rules_with line.change subject (word_label_in (labels_of name author) process line.object))
      (word_in process line.subject)
      ∙ ap (rules_with line.change (word_label (for process) line.subject)) (word_in process line.object)

  each_in : (line : TemplateLine) (processes : List (List ℕ))
      → each_rules_in (labels_of name author) line processes ≡ flat_map (λ process. line_rules (for process) line) processes
  each_in line [] = refl
  each_in line (process ∷ processes) =
      (λ i. line_in line process i ++ each_in line processes i)

  -- what a line gives, by whether it has `~PROCESS~`
  package_line_in : (processes : List (List ℕ)) (line : TemplateLine)
      → package_line_rules_in (labels_of name author) processes line ≡ package_line_rules name author processes line
  package_line_in processes line = at (has_process line)
    where
      at : (b : Bool)
          → cond b (each_rules_in (labels_of name author) line processes) (line_rules_in (labels_of name author) line (package_label name))
          ≡ flat_map (λ process. line_rules (for process) line) (cond b processes (package_label name ∷ []))
      at true = each_in line processes
      at false =
          sym (append-nil (line_rules_in (labels_of name author) line (package_label name)))
          ∙ each_in line (package_label name ∷ [])

  pub lines_in : (processes : List (List ℕ)) (lines : List TemplateLine)
      → flat_map (package_line_rules_in (labels_of name author) processes) lines
      ≡ flat_map (package_line_rules name author processes) lines
  lines_in processes [] = refl
  lines_in processes (line ∷ lines) = λ i. package_line_in processes line i ++ lines_in processes lines i
