-- Where the next line of a script stands, without what a block has gathered.
use Rattle.std.specs.Prelude.{Option, Some, None}
use Rattle.rule_templates.specs.Template.{is_full}
use Rattle.line_script.specs.Block.{Block, outside, batch, template, failed}
use Rattle.line_script.specs.declared.spots.Spot.{Spot}
use Rattle.line_script.specs.declared.spots.Spot.TheVariants.{Outside, Batch, Template}

-- None behind a line that was not read.
abbrev pub spot_of : Block → Option Spot
spot_of (outside place) = Some (Outside place)
spot_of (batch place changes) = Some Batch
spot_of (template place lines) = Some (Template (is_full lines))
spot_of failed = None
