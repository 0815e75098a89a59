-- How a window lies in its buffer.
use Rattle.std.specs.Prelude.{ℕ, List, ◌<◌, ◌≤◌, take, drop, vec_len}
use Rattle.text_lines.specs.declared.window.Window.TheInside.{Inside}

abbrev pub bytes_in : Inside → List ℕ
bytes_in window = drop window.start (take window.end window.buffer.items)

pub record IsWithin (window : Inside) : Type 0 where
  pub some : 0 < vec_len window.buffer
  pub order : window.start ≤ window.end
  pub within : window.end ≤ vec_len window.buffer
