use Rattle.std.proofs.Common.{rules, ◌≡◌, ◌++◌, ◌∷◌, [], None, Ok}
use Rattle.std.specs.Option.{option_copied}
use Rattle.std.proofs.lemmas.Result.{err_from_is_err_and}
use Rattle.cynara_keys.specs.Text.{text_cmp}
use Rattle.app_registry.specs.Rising.{rising}
use Rattle.wire_fields.specs.Format.{tested}
use Rattle.wire_fields.specs.Field.{rising_names, comes_after, name}
use Rattle.wire_fields.specs.Left.{Refuses}
use Rattle.wire_reading.proofs.Loops.{rising_goes_on, rising_ends, rising_done, last_of}
use Rattle.wire_reading.proofs.Rises.{names_rise, sorted_from_rising, rising_same}
use Rattle.wire_reading.proofs.list_readers.rising_names.Goals as goal

pub returns-in_err-name : goal.returns-in_err-name
returns-in_err-name c =
    let exit = err_from_is_err_and c.from_residual.result c.from_residual.ensures.1 in
    let last : option_copied c.last.result ≡ last_of c.loop.names.items = search rules in
    let refused : Refuses c.in_err-name.field-0.0
    ((tested (comes_after (last_of c.loop.names.items)) name).read c.loop.fields) =
    rw last at c.in_err-name.ensures in
    rw (exit.1, exit.2) (rising_ends c.in_err-name.field-0.0 c.loop.names.items c.args.count c.loop.counter
    c.loop.fields
    (rising_names None c.args.count c.args.fields.now) c.loop-test.true refused c.loop.invariant)

pub loop-preserved : goal.loop-preserved
loop-preserved c =
    let last : option_copied c.last.result ≡ last_of c.loop.names.items = search rules in
    let read : (tested (comes_after (last_of c.loop.names.items)) name).read c.loop.fields
    ≡ Ok (c.in_ok-name.name, c.name_behind.new.fields) =
    rw last at c.in_ok-name.ensures in
    let pushed : c.push.new.self.items ≡ c.loop.names.items ++ c.in_ok-name.name ∷ [] = search rules in
    rw pushed (rising_goes_on c.loop.names.items c.args.count c.loop.counter c.loop.fields c.in_ok-name.name
    c.name_behind.new.fields (rising_names None c.args.count c.args.fields.now) c.loop-test.true read c.loop.invariant)

pub returns : goal.returns
returns c =
    let read : rising_names None c.args.count c.args.fields.now ≡ Ok (c.loop.names.items, c.loop.fields) =
    rising_done c.loop.names.items c.args.count c.loop.counter c.loop.fields
    (rising_names None c.args.count c.args.fields.now)
    c.loop-test.false c.loop.invariant in
    let rises = names_rise None c.args.count c.args.fields.now (c.loop.names.items, c.loop.fields) read in
    let same : rising text_cmp c.loop.names.items ≡ c.loop.names.items =
    rising_same c.loop.names.items (sorted_from_rising None c.loop.names.items rises) in
    let made : c.in_ok-of.field-0 ≡ rising text_cmp c.loop.names.items = search rules in
    rw (made, same) read
