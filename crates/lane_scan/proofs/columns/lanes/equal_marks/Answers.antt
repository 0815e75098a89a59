use Rattle.std.proofs.Common.{eqb, take, drop, arith, w32}
use Rattle.std.proofs.lemmas.Simd.{bitmask_splat, length-chunk}
use Rattle.lane_scan.proofs.columns.lanes.equal_marks.Goals as goal

pub returns : goal.returns
returns c =
    bitmask_splat w32 eqb (take 32 (drop c.args.at c.args.column.now)) 32 c.args.wanted
    (length-chunk c.args.at 32 c.args.column.now c.requires) (omega arith)
