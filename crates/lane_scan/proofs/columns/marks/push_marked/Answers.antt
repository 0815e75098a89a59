use Rattle.std.proofs.Common.{◌+◌, ◌++◌, ◌∷◌, [], ◌-◌, bit_and, subst, sym, arith}
use lib.Count.{count_trailing_zeros}
use Rattle.lane_scan.specs.Rows.{numbers_from}
use Rattle.lane_scan.proofs.Marking.{IsLeft, IsLeft-next, IsLeft-end}
use Rattle.lane_scan.proofs.Scanning.{longer-then}
use Rattle.lane_scan.proofs.columns.marks.push_marked.Goals as goal

pub loop-left-preserved : goal.loop-left-preserved
loop-left-preserved c =
    let items = c.in_ok-push.ensures.items in
    record {
      longer = longer-then c.loop-left.invariant.longer (record { more = (c.args.first + count_trailing_zeros 64 c.loop-left.left) ∷ []; is = items });
      found = λ tests is short.
          subst
          (λ now. IsLeft (bit_and c.loop-left.left (c.loop-left.left - 1)) c.args.first now
          (c.args.out.now.items ++ numbers_from c.args.first (λ test. test) tests)) (sym items)
          (IsLeft-next (c.loop-left.invariant.found tests is short) (omega (arith, c.loop-left-test.true)));
    }

pub returns-clause-pushed : goal.returns-clause-pushed
returns-clause-pushed c tests is short = IsLeft-end (c.loop-left.invariant.found tests is short) c.loop-left-test.false
