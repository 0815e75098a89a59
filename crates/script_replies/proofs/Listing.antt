-- What a list of a bucket that is there can be refused for, and how many rows it has.
use Rattle.std.proofs.Common.{◌≡◌, ◌≤◌, ℕ, true, List, length, sym, ◌∙◌, arith}
use Rattle.std.specs.List.{filter}
use Rattle.std.proofs.lemmas.List.{length-map}
use Rattle.bucket_store.proofs.Lists.{length-filter-≤}
use Rattle.cynara_keys.specs.declared.keys.Filter.{Filter}
use Rattle.bucket_store.specs.Database.{Database, Placed, has_bucket}
use Rattle.bucket_store.specs.Change.{listed, is_admitted}
use Rattle.bucket_store.specs.Refusal.{Refuses, list, most_policies}
use Rattle.bucket_store.specs.WellFormed.{IsSound}
use Rattle.bucket_store.specs.declared.refusals.StoreRefusal.{StoreRefusal}
use Rattle.bucket_store.specs.declared.refusals.StoreRefusal.TheVariants.{NoBucket, RootBucket, BadKind, Limit, Cycle}
use Rattle.bucket_store.specs.declared.refusals.StoreRefusal.TheVariants.{Memory}
use Rattle.bucket_store.proofs.Sound.{fault-found}
use Rattle.script_replies.specs.parts.Questions.{WantsMemory}

-- memory alone
pub only-memory : (name : List ℕ) (database : Database) → IsSound database → has_bucket name database ≡ true
    → (refusal : StoreRefusal) → Refuses database (list name database) refusal → WantsMemory refusal
only-memory name database sound there (Memory error) refused = tt
only-memory name database sound there (NoBucket bucket) refused = let none = sym refused
    ∙ fault-found name database database there sound in cc
only-memory name database sound there RootBucket refused = let none = sym refused
    ∙ fault-found name database database there sound in cc
only-memory name database sound there (BadKind kind) refused = let none = sym refused
    ∙ fault-found name database database there sound in cc
only-memory name database sound there (Limit counted most) refused = let none = sym refused
    ∙ fault-found name database database there sound in cc
only-memory name database sound there (Cycle bucket) refused = let none = sym refused
    ∙ fault-found name database database there sound in cc

-- no more than a database has policies
pub listed-within : (name : List ℕ) (admitted : Filter) (database : Database) → IsSound database
    → length (listed name admitted database) ≤ most_policies
listed-within name admitted database sound =
    omega (
      arith,
      length-map (filter (is_admitted name admitted) database.policies) (λ (placed : Placed). placed.policy),
      length-filter-≤ (is_admitted name admitted) database.policies,
      sound.policies,
    )
