-- A policy state as files. Each state has one set of files.
use Rattle.std.specs.Prelude.{ℕ, List, [], ◌∷◌, ◌++◌, map, filter}
use Rattle.cynara_keys.specs.Text.{same_text}
use Rattle.cynara_keys.specs.declared.keys.Policy.{Policy}
use Rattle.bucket_store.specs.Bucket.{Bucket}
use Rattle.bucket_store.specs.Database.{Database, Heading}
use Rattle.app_registry.specs.Registry.{packages}
use Rattle.rule_templates.specs.Template.{template_text}
use Rattle.desk_ports.specs.declared.file_sets.SetFile.{SetFile}
use Rattle.desk_state.specs.DeskState.{DeskState, package_rules}
use Rattle.set_text.specs.FileNames as name
use Rattle.set_text.specs.FileNames.{bucket_file, load_file}
use Rattle.set_text.specs.Stamp.{stamp_text}
use Rattle.set_text.specs.Buckets.{buckets_text, bucket_text}
use Rattle.set_text.specs.Registry.{users_text, apps_text}
use Rattle.set_text.specs.Template.{load_text}

abbrev pub file : List ℕ → List ℕ → SetFile
file name bytes = record { name = name; bytes = bytes }

-- the policies in a bucket of a database
abbrev pub policies_in : Database → List ℕ → List Policy
policies_in database name =
    map (λ placed. placed.policy) (filter (λ placed. same_text placed.bucket name) database.policies)

-- the file of a bucket with its policies
abbrev pub file_of : Bucket → SetFile
file_of bucket = file (bucket_file bucket.name) (bucket_text bucket.policies)

-- a file for each bucket
abbrev pub bucket_files : DeskState → List SetFile
bucket_files desk =
    map (λ (heading : Heading). file (bucket_file heading.name) (bucket_text (policies_in desk.database heading.name)))
    desk.database.buckets

-- the load file of a package
abbrev pub load_of : DeskState → List ℕ → SetFile
load_of desk name = file (load_file name) (load_text (package_rules desk name))

-- a file for each package
abbrev pub load_files : DeskState → List SetFile
load_files desk = map (load_of desk) (packages desk.registry.installs)

-- all files, in the order of their names
abbrev pub files : DeskState → List SetFile
files desk =
    bucket_files desk
    ++ (file name.apps (apps_text desk.registry.installs)
    ∷ file name.buckets (buckets_text desk.database.buckets)
    ∷ (load_files desk
    ++ (file name.stamp (stamp_text desk.commit)
    ∷ file name.template (template_text desk.template) ∷ file name.users (users_text desk.registry.users) ∷ [])))
