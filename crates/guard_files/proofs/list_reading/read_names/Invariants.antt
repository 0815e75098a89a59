use Rattle.std.proofs.Common.{◌≡◌, ◌++◌, true, length}
use Rattle.guard_files.specs.ListFile.{list_text, are_listable}
use Rattle.guard_files.specs.parts.Last.{last_name}
use Rattle.guard_files.proofs.list_reading.read_names.Given as goal

abbrev pub invariant-loop-last : goal.invariant-loop-last
invariant-loop-last l =
    record {
      read : list_text l.names.items ++ l.rest ≡ l.bytes;
      listable : are_listable l.names.items ≡ true;
      last : l.last ≡ last_name l.names.items;
    }

abbrev pub decreases-loop-last : goal.decreases-loop-last
decreases-loop-last l = length l.rest
