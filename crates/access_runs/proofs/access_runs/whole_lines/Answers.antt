use Rattle.std.proofs.Common.{◌∷◌, length, ap, arith, length-append}
use Rattle.access_runs.proofs.RuleTexts.{LinesSoFar-more}
use Rattle.access_runs.proofs.access_runs.whole_lines.Goals as goal

pub loop-after-preserved : goal.loop-after-preserved
loop-after-preserved c =
    let line = c.in-Some.field-0-0.now in
    record {
      so_far =
          LinesSoFar-more _ _ line _ c.loop-after.count c.loop-after.invariant.so_far c.in-Some.ensures.cut
          c.in-Some.ensures.first;
      within =
          omega (
            arith,
            c.loop-after.invariant.within,
            ap length c.in-Some.ensures.cut,
            length-append line
                (10 ∷ c.in-Some.after.now),
          );
    }
