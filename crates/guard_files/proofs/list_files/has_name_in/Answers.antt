use Rattle.std.proofs.Common.{rules}
use Rattle.std.specs.Ordering.{nat_cmp}
use Rattle.std.specs.Cmp.Lexicographic.{slice_cmp}
use Rattle.std.proofs.lemmas.Fn.{always_returns_same}
use Rattle.desk_ports.specs.declared.file_sets.SetFile.{SetFile}
use Rattle.guard_files.proofs.Searching.{searched}
use Rattle.guard_files.proofs.list_files.has_name_in.Goals as goal

-- the closure compares a file's name with the name
pub returns : goal.returns
returns c =
    let facts = c.binary_search_by.ensures in
    let by_name =
    facts.position (λ (file : SetFile). slice_cmp nat_cmp file.name c.args.name.now)
    (always_returns_same _ _ _ (λ a r f called. search rules)) in
    rw c.is_ok.ensures.value
    (searched c.args.name.now c.args.files.now c.binary_search_by.result c.requires facts.bound by_name)
