use Rattle.guard_files.proofs.Versions.{listing-text, text-listing}
use Rattle.guard_files.proofs.laws.list_reads_back.Goals as goal

pub returns : goal.returns
returns c = record { back = listing-text; spelling = text-listing }
