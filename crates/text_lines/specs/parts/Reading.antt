-- How the reading of a text lies in a window.
use Rattle.std.specs.Prelude.{◌+◌, ◌≤◌, length, take, drop}
use Rattle.text_lines.specs.Lines.{HasNoNewline}
use Rattle.text_lines.specs.LineReader.{LineReading}
use Rattle.text_lines.specs.declared.line_reader.LineReader.TheInside.{Inside}

abbrev pub reading_of : Inside → LineReading
reading_of reader =
    record {
      line = take reader.line reader.window;
      number = reader.number;
      waiting = drop reader.taken reader.window;
      room = reader.room;
      longest = reader.longest;
      is_ended = reader.is_ended;
    }

pub record IsScanned (reader : Inside) : Type 0 where
  pub line : reader.line ≤ reader.taken
  pub within : reader.taken + reader.scanned ≤ length reader.window
  pub no_newline : HasNoNewline (take reader.scanned (drop reader.taken reader.window))
  pub numbered : reader.number + reader.room ≤ 4294967294
