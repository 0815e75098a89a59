use Rattle.std.proofs.Common.{◌≡◌, ◌+◌, ◌^◌, length, take, drop, map, true, ap, ◌∙◌, arith}
use Rattle.std.specs.Simd.Lanes.{mask_l}
use Rattle.std.proofs.lemmas.Simd.{length-chunk}
use Rattle.lane_scan.proofs.Masks.{mask-all}
use Rattle.lane_scan.proofs.columns.lanes.place_marks.Goals as goal

pub returns-in-Any : goal.returns-in-Any
returns-in-Any c =
    let chunk = take 32 (drop c.args.at c.args.column.now) in
    let long : length chunk ≡ 32 = length-chunk c.args.at 32 c.args.column.now c.requires in
    let all : mask_l (map (λ _. true) chunk) + 1 ≡ 2 ^ 32 = mask-all chunk ∙ ap (λ n. 2 ^ n) long in
    rw c.in-Any.is (omega (arith, all))

pub returns-in-Is : goal.returns-in-Is
returns-in-Is c = rw c.in-Is.is c.equal_marks.ensures

pub returns-in-IsOrWildcard : goal.returns-in-IsOrWildcard
returns-in-IsOrWildcard c = rw c.in-IsOrWildcard.is c.wildcard_or_equal_marks.ensures
