use Rattle.std.proofs.Common.{ap, ◌∙◌}
use Rattle.desk_ports.specs.FileMap.{map_of}
use Rattle.desk_ports.proofs.Listing.{rising-entries, map_of-entries}
use Rattle.ctl_door.proofs.files.set_of.Goals as goal

pub of-requires : goal.of-requires
of-requires c =
    rising-entries c.in_ok-held.held.entries _ c.in_ok-files.ensures.items c.in_ok-files.ensures.ordered

pub returns : goal.returns
returns c = λ name.
    ap (λ files. map_of files name) (c.of.ensures ∙ c.in_ok-files.ensures.items)
    ∙ (map_of-entries c.in_ok-held.held.entries name ∙ c.in_ok-held.ensures name)
