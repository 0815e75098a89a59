use Rattle.std.proofs.Common.{◌≡◌, filter, drop}
use Rattle.desk_ports.specs.FileMap.{names_of}
use Rattle.set_text.specs.Fault.{odd_name}
use Rattle.set_text.specs.parts.Sorts.{is_of}
use Rattle.set_text.proofs.sets.odd_name.Given as goal

-- what is left tells the least name
abbrev pub invariant-loop-file : goal.invariant-loop-file
invariant-loop-file l =
    odd_name l.rest (filter (is_of l.sort) (names_of (drop l.file-index l.files)))
    ≡ odd_name l.wanted (filter (is_of l.sort) (names_of l.files))
