use Rattle.std.proofs.Common.{◌≡◌, take, string_bytes}
use Rattle.desk_ports.specs.Shown.{shown_bytes, IsPrintable}
use Rattle.desk_ports.proofs.shown.shown_bytes.Given as goal

abbrev pub invariant-loop-byte : goal.invariant-loop-byte
invariant-loop-byte l =
    (string_bytes l.text ≡ shown_bytes l.most (take l.byte-index l.bytes)) × IsPrintable (string_bytes l.text)
