-- The steps by which a layout is made.
use Rattle.std.specs.Prelude.{ℕ, List, [], ◌∷◌}
use Rattle.std.specs.List.{fold}
use Rattle.cynara_keys.specs.PolicyResult.{bucket}
use Rattle.cynara_keys.specs.declared.fields.Field.TheVariants.{Any}
use Rattle.cynara_keys.specs.Key.{Key}
use Rattle.bucket_store.specs.Database.{Database, root}
use Rattle.bucket_store.specs.Order.{heading_cmp, put}
use Rattle.bucket_store.specs.declared.policy_changes.Change.{Change}
use Rattle.bucket_store.specs.declared.policy_changes.Change.TheVariants.{Set}
use Rattle.bucket_store.specs.declared.refusals.StoreRefusal.{StoreRefusal}
use Rattle.bucket_store.specs.declared.refusals.StoreRefusal.TheVariants.{Memory}
use Rattle.app_registry.specs.declared.users.UserType.TheVariants.{System, Admin, Normal, Guest}
use Rattle.desk_state.specs.Layout.{headings, main, manifests, admin, type_bucket}

-- the database with the seven buckets
abbrev pub with_headings : Database → Database
with_headings database =
    record {
      buckets = fold (λ buckets heading. put heading_cmp heading buckets) database.buckets headings;
      policies = database.policies;
    }

-- the key of all questions
abbrev pub all_key : Key
all_key = record { client = Any; user = Any; privilege = Any }

-- the policy that sends all questions of a bucket to another one is set
abbrev pub set_link : List ℕ → List ℕ → Change
set_link from target = Set from all_key (record { kind = bucket; metadata = target })

abbrev pub link_changes : List Change
link_changes =
    set_link root main ∷ set_link main manifests ∷ set_link (type_bucket System) admin
    ∷ set_link (type_bucket Admin) admin
    ∷ set_link (type_bucket Normal) admin ∷ set_link (type_bucket Guest) admin ∷ []

-- nothing but want of memory
abbrev pub IsMemory : StoreRefusal → Type 0
IsMemory (Memory error) = Unit {0}
IsMemory refusal = ⊥
