use Rattle.std.proofs.Common.{◌++◌}
use Rattle.wire_reading.proofs.Streams.{hears_more, hears_then}
use Rattle.wire_messages.proofs.laws.pieces_do_not_matter.Goals as goal

pub returns : goal.returns
returns c = λ heard bytes more ms ns x y first second.
    hears_then heard (bytes ++ more) ms (x ++ more) ns y (hears_more heard bytes more ms x first) second
