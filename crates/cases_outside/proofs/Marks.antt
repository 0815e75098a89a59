-- What a receiving call marks hangs on whether there is room, and not on how much.
use Rattle.std.proofs.Common.{◌≡◌, ◌<◌, ℕ, Result, Ok, Err, refl}
use Rattle.std.proofs.lemmas.Bool.{lt-ltb}
use Rattle.desk_ports.specs.declared.streams.Failed.{Failed}
use Rattle.link_ports.specs.LinkMarks.{LinkMarks, marks_after_receive}

pub some_room : (result : Result ℕ Failed) (room other : ℕ) (marks : LinkMarks) → 0 < room → 0 < other
    → marks_after_receive result room marks ≡ marks_after_receive result other marks
some_room (Ok count) room other marks some more = rw (lt-ltb 0 room some) (rw (lt-ltb 0 other more) refl)
some_room (Err failed) room other marks some more = refl
