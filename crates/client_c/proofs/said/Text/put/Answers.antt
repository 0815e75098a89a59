use Rattle.std.proofs.Common.{◌≡◌, ◌∙◌, sym, arith, length-take}
use Rattle.std.proofs.lemmas.List.{take_all}
use Rattle.client_c.proofs.said.Text.put.Goals as goal

pub slice_bounds-put_short-end : goal.slice_bounds-put_short-end
slice_bounds-put_short-end c = omega (arith, length-take 255 c.args.bytes.now, c.if-bytes-gt255.true)

pub put_short-requires : goal.put_short-requires
put_short-requires c = omega (arith, length-take 255 c.args.bytes.now, c.if-bytes-gt255.true)

pub returns : goal.returns
returns c = c.put_short-2.ensures ∙ sym (take_all 255 c.args.bytes.now c.if-bytes-gt255.false)
