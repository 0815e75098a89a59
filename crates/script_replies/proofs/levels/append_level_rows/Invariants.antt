use Rattle.std.proofs.Common.{◌≡◌, ◌++◌, take}
use Rattle.std.specs.List.{flat_map}
use Rattle.script_replies.specs.Levels.{level_row_text}
use Rattle.script_replies.proofs.levels.append_level_rows.Given as goal

-- the rows so far stand behind what stood there
abbrev pub invariant-loop-row : goal.invariant-loop-row
invariant-loop-row l = l.out ≡ l.fn.out ++ flat_map level_row_text (take l.row-index l.rows)
