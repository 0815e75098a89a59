-- What the files of a set say, as the functions that read them give it.
use Rattle.std.specs.Prelude.{ℕ, Bool, not, ◌&&◌, ◌||◌, ◌==◌, if◌then◌else◌, List}
use Rattle.std.specs.Prelude.{length, Option, Some, None, is_some, Result, Ok}
use Rattle.std.specs.Option.{option_or}
use Rattle.std.specs.List.{list_any, list_all}
use Rattle.cynara_keys.specs.Text.{same_text}
use Rattle.cynara_keys.specs.PolicyResult.{deny}
use Rattle.bucket_store.specs.Bucket.{Bucket}
use Rattle.bucket_store.specs.Database.{Heading, fresh, database_of}
use Rattle.bucket_store.specs.Refusal.{cycle}
use Rattle.app_registry.specs.Registry.{RegistryLists}
use Rattle.desk_ports.specs.declared.file_sets.SetFile.{SetFile}
use Rattle.desk_state.specs.DeskState.{DeskState}
use Rattle.desk_state.specs.Layout.{main, manifests, built_in, is_managed, main_policies, manifest_policies}
use Rattle.rule_templates.specs.declared.lines.TemplateLine.{TemplateLine}
use Rattle.set_text.specs.Fault.{Fault, whole, with_value, in_file, bytes_in, unlike}
use Rattle.set_text.specs.FileNames as name
use Rattle.set_text.specs.FileNames.{bucket_file}
use Rattle.set_text.specs.Stamp.{commits_of}
use Rattle.set_text.specs.Buckets.{headings_of, bucket_text}
use Rattle.set_text.specs.Registry.{users_of, installs_of}
use Rattle.set_text.specs.Template.{template_lines_of}

-- ---- the files that every set has

abbrev pub stamp_part : List SetFile → Result (List ℕ) Fault
stamp_part set = in_file name.stamp (commits_of (bytes_in set name.stamp))

abbrev pub headings_part : List SetFile → Result (List Heading) Fault
headings_part set = in_file name.buckets (headings_of (bytes_in set name.buckets))

abbrev pub registry_part : List SetFile → Result RegistryLists Fault
registry_part set =
    with_value (in_file name.users (users_of (bytes_in set name.users))) (λ users.
    with_value (in_file name.apps (installs_of users (bytes_in set name.apps))) (λ installs.
    Ok (record { users = users; installs = installs })))

abbrev pub template_part : List SetFile → Result (List TemplateLine) Fault
template_part set = in_file name.template (template_lines_of (bytes_in set name.template))

-- ---- what the parts say together

abbrev pub has_name : List Heading → List ℕ → Bool
has_name headings name = list_any (λ heading. same_text heading.name name) headings

abbrev pub has_all : List Heading → Bool
has_all headings = list_all (has_name headings) built_in

abbrev pub has_some : List Heading → Bool
has_some headings = list_any (has_name headings) built_in

abbrev pub is_empty : RegistryLists → Bool
is_empty registry = length registry.users == 0 && length registry.installs == 0

-- a bucket reaches itself, or the layout is neither there nor away
abbrev pub layout_fault_of : List Heading → List Bucket → RegistryLists → Option Fault
layout_fault_of headings buckets registry =
    if is_some (cycle (database_of buckets)) || not (has_all headings || (not (has_some headings) && is_empty registry))
    then Some (whole name.buckets) else None

abbrev pub managed_fault_of : List SetFile → List Heading → RegistryLists → Option Fault
managed_fault_of set headings registry =
    if has_name headings main
    then option_or (unlike set (bucket_file main) (bucket_text (main_policies registry)))
    (unlike set (bucket_file manifests) (bucket_text (manifest_policies registry)))
    else None

abbrev pub fallback_fault_of : List Heading → Option Fault
fallback_fault_of headings =
    if list_any (λ (heading : Heading). is_managed heading.name && not (heading.fallback.kind == deny)) headings
    then Some (whole name.buckets) else None

-- a state with this registry and this template, by which the rules of packages go
abbrev pub beside : RegistryLists → List TemplateLine → DeskState
beside registry template = record { commit = 0; database = fresh; registry = registry; template = template }
