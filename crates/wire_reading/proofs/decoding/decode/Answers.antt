use Rattle.std.proofs.Common.{arith}
use Rattle.wire_reading.proofs.FrameLaws.{is_found, is_read}
use Rattle.wire_reading.proofs.decoding.decode.Goals as goal

pub returns-clause-found : goal.returns-clause-found
returns-clause-found c =
    is_found c.args.heard c.args.frame.now c.read.result (λ i. omega (arith, c.type_inv.frame i)) c.requires
    c.read.ensures.answer

pub returns-clause-only : goal.returns-clause-only
returns-clause-only c framed heard is =
    is_read c.args.heard c.args.frame.now c.read.result framed heard is c.read.ensures.answer
