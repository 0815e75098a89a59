-- Where a script is.
use Rattle.std.specs.Prelude.{List}
use Rattle.bucket_store.specs.declared.policy_changes.Change.{Change}
use Rattle.rule_templates.specs.declared.lines.TemplateLine.{TemplateLine}
use Rattle.script_words.specs.declared.places.Place.{Place}

-- In a script for this place: outside a block, behind these changes of a batch, or behind these lines of a template; or
-- behind a line that was not read.
pub data Block : Type 0 where
  outside : Place → Block
  batch : Place → List Change → Block
  template : Place → List TemplateLine → Block
  failed : Block
