-- The next line of a script, from what the reader of lines says of it.
use Rattle.std.proofs.Common.{ℕ, List, Option, Bool, true, false, Ok, Err}
use Rattle.text_lines.specs.LineReader.{LineReading, HandsOutNext}
use Rattle.text_lines.specs.declared.refusal.ReadRefusal.{ReadRefusal}
use Rattle.text_lines.specs.declared.refusal.ReadRefusal.TheVariants.{PastLimit, Source as SourceFailed}
use Rattle.text_lines.specs.declared.refusal.ReadRefusal.TheVariants.{Memory as NoMemory}
use Rattle.run_endings.specs.Reading.{reading_ending}
use Rattle.script_replies.specs.NextLine.{ReadsNext}

module _ (left left_after : Option (List ℕ)) (reading reading_after : LineReading) where
  pub next_refused : (refusal : ReadRefusal) → HandsOutNext left left_after reading reading_after (Err refusal)
      → ReadsNext left left_after reading reading_after (Err (reading_ending refusal))
  next_refused (PastLimit number) next = next
  next_refused SourceFailed next = next
  next_refused (NoMemory error) next = next

  pub next_found : (found : Bool) → HandsOutNext left left_after reading reading_after (Ok found)
      → ReadsNext left left_after reading reading_after (Ok found)
  next_found true next = next
  next_found false next = next
