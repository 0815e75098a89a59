use Rattle.std.proofs.Common.{take, drop, arith}
use Rattle.std.proofs.lemmas.Simd.{length-chunk}
use Rattle.lane_scan.proofs.Masks.{mask-either}
use Rattle.lane_scan.proofs.columns.lanes.wildcard_or_equal_marks.Goals as goal

pub returns : goal.returns
returns c =
    mask-either 0 c.args.wanted 32 (take 32 (drop c.args.at c.args.column.now))
    (length-chunk c.args.at 32 c.args.column.now c.requires) (omega arith)
