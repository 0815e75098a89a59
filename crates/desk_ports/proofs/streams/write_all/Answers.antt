use Rattle.std.proofs.Common.{arith, ◌∙◌}
use Rattle.std.proofs.lemmas.List.{take_rest, length-drop}
use Rattle.desk_ports.proofs.Appends.{Appended-part}
use Rattle.desk_ports.proofs.streams.write_all.Goals as goal

pub loop-done-preserved : goal.loop-done-preserved
loop-done-preserved g c =
    record {
      within = omega (arith, simp (take_rest, length-drop) at c.in_ok-done.ensures.within);
      taken = Appended-part _ _ _ _ _ _ c.loop-done.invariant.taken c.in_ok-done.ensures.taken;
      count = c.in_ok-done.ensures.count ∙ c.loop-done.invariant.count;
    }
