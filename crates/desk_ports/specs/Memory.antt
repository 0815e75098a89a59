-- Sources and sinks in memory, as contracts see them.
use Rattle.std.specs.Prelude.{ℕ, List}
use Rattle.desk_ports.specs.Faults.{next_count}

-- The bytes left to read, or those taken; how many calls of `read` or `write` were made; the numbers of the calls that
-- are to fail, the first call being 1; and how many calls have failed.
pub record Stream : Type 0 where
  pub bytes : List ℕ
  pub calls : ℕ
  pub fails : List ℕ
  pub faults : ℕ

-- the number of the next call; past the last value of a count every call has that number
abbrev pub next_call : Stream → ℕ
next_call stream = next_count stream.calls
