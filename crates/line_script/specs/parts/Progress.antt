-- What a reader keeps.
use Rattle.line_script.specs.Block.{Block, outside, batch, template, failed}
use Rattle.script_words.specs.declared.places.Place.{Place}
use Rattle.line_script.specs.declared.progress.Progress.{Progress}
use Rattle.line_script.specs.declared.progress.Progress.TheVariants.{Outside, Batch, Template, Failed}

abbrev pub block_of : Place → Progress → Block
block_of place Outside = outside place
block_of place (Batch changes) = batch place changes.items
block_of place (Template lines) = template place lines
block_of place Failed = failed
