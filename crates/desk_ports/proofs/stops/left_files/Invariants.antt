use Rattle.std.proofs.Common.{◌≡◌, ℕ, List, take, fold}
use Rattle.std.specs.BTreeMap.{get}
use Rattle.std.specs.Ordering.{nat_cmp}
use Rattle.std.specs.Cmp.Lexicographic.{slice_cmp}
use Rattle.desk_ports.specs.DiskCalls.{after_calls}
use Rattle.desk_ports.specs.Stopping.{meant_bytes, pick_next, Picking}
use Rattle.desk_ports.proofs.stops.left_files.Given as goal

abbrev pub invariant-loop-name : goal.invariant-loop-name
invariant-loop-name l =
    let durable = (after_calls l.files l.calls).durable in
    let first : Picking = record { digits = l.fn.pick; left = durable } in
    let picking = fold (pick_next (meant_bytes l.calls durable)) first (take l.name-index l.touched) in
    record {
      digits : l.digits ≡ picking.digits;
      left : (name : List ℕ) → get (slice_cmp nat_cmp) l.left name ≡ picking.left name;
    }
