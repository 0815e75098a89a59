-- A list that was opened, and has no name yet.
use Rattle.logbook.specs.Pages.{Book}
use Rattle.state_list.specs.declared.words.Opened.{Opened}

-- which one it is
abbrev pub book_of : {S : Type 0} → Opened S → Book
book_of opened = opened.seen.book
