use Rattle.std.proofs.Common.{rules, ◌≡◌, ◌++◌, ◌∷◌, []}
use Rattle.std.proofs.lemmas.Result.{err_from_is_err_and}
use Rattle.wire_fields.specs.Format.{each}
use Rattle.wire_fields.specs.Field.{change}
use Rattle.wire_reading.proofs.Loops.{goes_on, ends, is_done}
use Rattle.wire_reading.proofs.list_readers.changes.Goals as goal

pub returns-in_err-change : goal.returns-in_err-change
returns-in_err-change c =
    let exit = err_from_is_err_and c.from_residual.result c.from_residual.ensures.1 in
    rw (exit.1, exit.2) (ends change c.in_err-change.field-0.0 c.loop.list.items c.args.count c.loop.counter
    c.loop.fields
    (each change c.args.count c.args.fields.now) c.loop-test.true c.in_err-change.ensures c.loop.invariant)

pub loop-preserved : goal.loop-preserved
loop-preserved c =
    let pushed : c.push.new.self.items ≡ c.loop.list.items ++ c.in_ok-change.field-0 ∷ [] = search rules in
    rw pushed (goes_on change c.loop.list.items c.args.count c.loop.counter c.loop.fields c.in_ok-change.field-0
    c.change.new.fields (each change c.args.count c.args.fields.now) c.loop-test.true c.in_ok-change.ensures
    c.loop.invariant)

pub returns : goal.returns
returns c =
    rw c.of.ensures (is_done change c.loop.list.items c.args.count c.loop.counter c.loop.fields
    (each change c.args.count c.args.fields.now) c.loop-test.false c.loop.invariant)
