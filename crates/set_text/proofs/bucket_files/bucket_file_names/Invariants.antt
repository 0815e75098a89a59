use Rattle.std.proofs.Common.{◌≡◌, map, take}
use Rattle.bucket_store.specs.Database.{Heading}
use Rattle.set_text.specs.FileNames.{bucket_file}
use Rattle.set_text.proofs.bucket_files.bucket_file_names.Given as goal

-- the names so far
abbrev pub invariant-loop-heading : goal.invariant-loop-heading
invariant-loop-heading l =
    l.names.items ≡ map (λ (heading : Heading). bucket_file heading.name) (take l.heading-index l.headings)
