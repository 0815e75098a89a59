-- Reading a set of files: the policy state that has these files, or the first fault.
use Rattle.std.specs.Prelude.{ℕ, Bool, not, ◌&&◌, ◌||◌, ◌==◌, if◌then◌else◌, List, [], ◌∷◌, ◌++◌}
use Rattle.std.specs.Prelude.{length, map, filter, Option, Some, None, is_some, Result, Ok, Err}
use Rattle.std.specs.Option.{option_map, option_or}
use Rattle.std.specs.List.{list_any, list_all, sum_by}
use Rattle.cynara_keys.specs.PolicyResult.{deny}
use Rattle.cynara_keys.specs.declared.keys.Policy.{Policy}
use Rattle.bucket_store.specs.Bucket.{Bucket}
use Rattle.bucket_store.specs.Database.{Database, Heading, has_bucket, database_of}
use Rattle.bucket_store.specs.Refusal.{cycle}
use Rattle.app_registry.specs.Registry.{packages}
use Rattle.desk_ports.specs.FileMap.{names_of}
use Rattle.desk_ports.specs.declared.file_sets.SetFile.{SetFile}
use Rattle.desk_state.specs.DeskState.{DeskState, package_rules}
use Rattle.desk_state.specs.Layout.{main, manifests, built_in, is_managed, has_layout, main_policies, manifest_policies}
use Rattle.set_text.specs.Fault.{Fault, whole, unless, with_value, in_file, odd_name, bytes_in, unlike}
use Rattle.set_text.specs.FileNames as name
use Rattle.set_text.specs.FileNames.{bucket_file, load_file, is_bucket_file, is_load_file, is_other_file, fixed_files}
use Rattle.set_text.specs.Stamp.{commits_of}
use Rattle.set_text.specs.Buckets.{headings_of, policies_of, bucket_text}
use Rattle.set_text.specs.Registry.{users_of, installs_of}
use Rattle.set_text.specs.Template.{template_lines_of, load_text}

-- ---- the names

-- the files of a sort are these: the least name that is absent or without a use
abbrev pub odd_file : (List ℕ → Bool) → List (List ℕ) → List SetFile → Option Fault
odd_file is_of_sort wanted set = option_map whole (odd_name wanted (filter is_of_sort (names_of set)))

-- ---- the buckets

-- how many policies are in buckets
abbrev pub policy_count : List Bucket → ℕ
policy_count buckets = sum_by (λ bucket. length bucket.policies) buckets

abbrev pub with_policies : Heading → List Policy → Bucket
with_policies heading policies = record { name = heading.name; fallback = heading.fallback; policies = policies }

-- the buckets of the headings, each with the policies in its file, behind those before them
abbrev pub buckets_behind : List SetFile → List Heading → List Bucket → List Heading → Result (List Bucket) Fault
buckets_behind set headings before [] = Ok before
buckets_behind set headings before (heading ∷ later) =
    with_value
    (in_file (bucket_file heading.name)
    (policies_of headings (policy_count before) (bytes_in set (bucket_file heading.name))))
    (λ policies. buckets_behind set headings (before ++ with_policies heading policies ∷ []) later)

-- ---- the whole state

-- all buckets of the layout are there
abbrev pub is_laid_out : Database → Bool
is_laid_out database = list_all (λ name. has_bucket name database) built_in

-- none of them is there, and there are no users and no installs
abbrev pub is_bare : DeskState → Bool
is_bare desk =
    not (list_any (λ name. has_bucket name desk.database) built_in)
    && (length desk.registry.users == 0 && length desk.registry.installs == 0)

-- a bucket reaches itself, or the layout is neither there nor away
abbrev pub layout_fault : DeskState → Option Fault
layout_fault desk =
    if is_some (cycle desk.database) || not (is_laid_out desk.database || is_bare desk) then Some (whole name.buckets)
    else None

-- with the layout, one of its two files that the registry decides has another text, `_MAIN` before `_MANIFESTS`
abbrev pub managed_fault : List SetFile → DeskState → Option Fault
managed_fault set desk =
    if has_layout desk.database
    then option_or (unlike set (bucket_file main) (bucket_text (main_policies desk.registry)))
    (unlike set (bucket_file manifests) (bucket_text (manifest_policies desk.registry)))
    else None

-- one of these two does not deny where no policy decides
abbrev pub fallback_fault : DeskState → Option Fault
fallback_fault desk =
    if list_any (λ (heading : Heading).
    is_managed heading.name && not (heading.fallback.kind == deny)) desk.database.buckets
    then Some (whole name.buckets) else None

-- a load file is not the rules of its package
abbrev pub load_fault : List SetFile → DeskState → List (List ℕ) → Option Fault
load_fault set desk [] = None
load_fault set desk (name ∷ names) =
    option_or (unlike set (load_file name) (load_text (package_rules desk name))) (load_fault set desk names)

-- the commit in a `stamp` that has one line
abbrev pub only : List ℕ → ℕ
only [] = 0
only (commit ∷ commits) = commit

-- ---- the order

-- What a set of files says, with its faults in their order.
abbrev pub read_of : List SetFile → Result DeskState Fault
read_of set =
    -- the files that every set has, and no others beside those of buckets and packages
    unless (odd_file is_other_file fixed_files set) (
    -- the number of the last command, and the buckets
    with_value (in_file name.stamp (commits_of (bytes_in set name.stamp))) (λ commits.
    with_value (in_file name.buckets (headings_of (bytes_in set name.buckets))) (λ headings.
    -- a file for each bucket, and no others of that sort
    unless (odd_file is_bucket_file (map (λ (heading : Heading). bucket_file heading.name) headings) set) (
    -- the policies, the users and the installs
    with_value (buckets_behind set headings [] headings) (λ buckets.
    with_value (in_file name.users (users_of (bytes_in set name.users))) (λ users.
    with_value (in_file name.apps (installs_of users (bytes_in set name.apps))) (λ installs.
    -- a file for each package, and no others of that sort
    unless (odd_file is_load_file (map load_file (packages installs)) set) (
    -- the template
    with_value (in_file name.template (template_lines_of (bytes_in set name.template))) (λ template.
    let desk : DeskState = record {
      commit = only commits;
      database = database_of buckets;
      registry = record { users = users; installs = installs };
      template = template;
    } in
    -- what the parts say together
    unless (layout_fault desk) (
    unless (managed_fault set desk) (
    unless (fallback_fault desk) (
    unless (load_fault set desk (packages installs)) (
    Ok desk)))))))))))))

abbrev pub fault_in : Result DeskState Fault → Option Fault
fault_in (Ok desk) = None
fault_in (Err fault) = Some fault

-- the first fault of a set of files; none where it is that of a policy state
abbrev pub first_fault : List SetFile → Option Fault
first_fault set = fault_in (read_of set)
