-- What is left to read of a set of files, after some of its parts.
use Rattle.std.specs.Prelude.{ℕ, List, [], map, Option, Result, Ok}
use Rattle.std.specs.Option.{option_or}
use Rattle.bucket_store.specs.Bucket.{Bucket}
use Rattle.bucket_store.specs.Database.{Heading, database_of}
use Rattle.app_registry.specs.Registry.{RegistryLists, packages}
use Rattle.desk_ports.specs.declared.file_sets.SetFile.{SetFile}
use Rattle.desk_state.specs.DeskState.{DeskState}
use Rattle.rule_templates.specs.declared.lines.TemplateLine.{TemplateLine}
use Rattle.set_text.specs.Fault.{Fault, unless, with_value}
use Rattle.set_text.specs.FileNames.{bucket_file, load_file, is_bucket_file, is_load_file}
use Rattle.set_text.specs.Reading.{odd_file, buckets_behind, layout_fault, managed_fault, fallback_fault, load_fault}
use Rattle.set_text.specs.parts.Parts.{registry_part, template_part}

abbrev pub desk_of : ℕ → List Bucket → RegistryLists → List TemplateLine → DeskState
desk_of commit buckets registry template =
    record { commit = commit; database = database_of buckets; registry = registry; template = template }

-- what the parts of a state say together against it
abbrev pub joint_fault : List SetFile → DeskState → Option Fault
joint_fault set desk =
    option_or (layout_fault desk)
    (option_or (managed_fault set desk)
    (option_or (fallback_fault desk) (load_fault set desk (packages desk.registry.installs))))

-- the state of these parts and of the template
abbrev pub with_template : List SetFile → ℕ → List Bucket → RegistryLists → Result DeskState Fault
with_template set commit buckets registry =
    unless (odd_file is_load_file (map load_file (packages registry.installs)) set) (
    with_value (template_part set) (λ template.
    let desk = desk_of commit buckets registry template in
    unless (joint_fault set desk) (Ok desk)))

-- the state of the buckets of these headings, of the registry, and of what is behind them
abbrev pub with_buckets : List SetFile → ℕ → List Heading → Result DeskState Fault
with_buckets set commit headings =
    unless (odd_file is_bucket_file (map (λ (heading : Heading). bucket_file heading.name) headings) set) (
    with_value (buckets_behind set headings [] headings) (λ buckets.
    with_value (registry_part set) (λ registry. with_template set commit buckets registry)))
