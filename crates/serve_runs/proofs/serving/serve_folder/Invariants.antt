use Rattle.state_list.specs.Opening.{book_of}
use Rattle.serve_runs.proofs.serving.serve_folder.Given as goal

-- the lists that were just opened
abbrev pub ghosts-serve_named : goal.ghosts-serve_named
ghosts-serve_named g a = record { book = book_of a.opened; events = book_of a.happened }
