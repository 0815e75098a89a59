use Rattle.std.proofs.Common.{◌≡◌, ◌==◌, true, false, length, rules, arith}
use Rattle.admin_door.proofs.Parting.{none-told, part-told, all-told, cut-back, some-left, none-left}
use Rattle.admin_door.proofs.states.with_some.Goals as goal

pub parts-init : goal.parts-init
parts-init c = none-told c.args.name.now c.args.bytes.now c.args.before.items

pub parts-preserved : goal.parts-preserved
parts-preserved c =
    let rest = c.parts.rest.now in
    let part = c.split_at.result.0.now in
    let behind = c.split_at.result.1.now in
    let some : (length rest == 0) ≡ false = search rules in
    part-told c.args.name.now c.args.bytes.now c.args.before.items c.parts.replies.items c.in-Ok.more.items rest part behind
    c.parts.invariant (cut-back rest part behind _ c.split_at.ensures.front c.split_at.ensures.back)
    (omega (arith, c.split_at.ensures.front_len, c.min-count.ensures, some-left rest some), omega (arith, c.split_at.ensures.front_len, c.min-count.ensures))
    c.in-Ok.ensures

pub returns : goal.returns
returns c =
    let done : (length c.parts.rest.now == 0) ≡ true = search rules in
    all-told c.args.name.now c.args.bytes.now c.args.before.items c.parts.replies.items c.parts.rest.now c.parts.invariant
    (none-left c.parts.rest.now done)
