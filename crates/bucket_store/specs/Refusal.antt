-- Why a change is refused: the first rule that it breaks, each tested over the whole request before the next.
use Rattle.std.specs.Prelude.{◌≡◌, ℕ, Bool, ◌&&◌, ◌||◌, not, nat_lt, ◌==◌, if◌then◌else◌, List, [], ◌∷◌, length, map}
use Rattle.std.specs.Prelude.{Option, Some, None, find}
use Rattle.std.specs.Option.{option_map}
use Rattle.std.specs.List.{list_any, flat_map}
use Rattle.cynara_keys.specs.Text.{same_text}
use Rattle.cynara_keys.specs.PolicyResult.{Ruling, bucket, none}
use Rattle.cynara_keys.specs.declared.keys.Filter.{Filter}
use Rattle.cynara_keys.specs.declared.limits.Counted.TheVariants.{Buckets, Policies}
use Rattle.bucket_store.specs.Database.{Database, Heading, root, has_bucket}
use Rattle.bucket_store.specs.Walk.{is_on_cycle}
use Rattle.bucket_store.specs.Change.{with_bucket, without_bucket, with_changes, erased}
use Rattle.bucket_store.specs.declared.policy_changes.Change.{Change}
use Rattle.bucket_store.specs.declared.policy_changes.Change.TheVariants.{Set, Delete}
use Rattle.bucket_store.specs.declared.refusals.StoreRefusal.{StoreRefusal}
use Rattle.bucket_store.specs.declared.refusals.StoreRefusal.TheVariants.{NoBucket, RootBucket, BadKind, Limit, Cycle}
use Rattle.bucket_store.specs.declared.refusals.StoreRefusal.TheVariants.{Memory}

abbrev pub most_buckets : ℕ
most_buckets = 1024

abbrev pub most_policies : ℕ
most_policies = 65536

-- what a call asks for
pub record Request : Type 0 where
  -- the buckets that it names, in their order, which have to be there
  pub named : List (List ℕ)
  -- the buckets that it removes
  pub removed : List (List ℕ)
  -- the buckets that it makes or gives another fallback
  pub headed : List Heading
  -- the database that it leads to
  pub next : Database

-- ---- the rules

abbrev pub no_bucket : List (List ℕ) → Database → Option StoreRefusal
no_bucket names database = option_map (λ name. NoBucket name) (find (λ name. not (has_bucket name database)) names)

abbrev pub root_bucket : List (List ℕ) → Option StoreRefusal
root_bucket names = if list_any (same_text root) names then Some RootBucket else None

-- no fallback is BUCKET, and the root bucket's isn't NONE
abbrev pub is_bad : Heading → Bool
is_bad heading = heading.fallback.kind == bucket || (same_text heading.name root && heading.fallback.kind == none)

abbrev pub bad_kind : List Heading → Option StoreRefusal
bad_kind headings = option_map (λ heading. BadKind (record { 0 = heading.fallback.kind })) (find is_bad headings)

abbrev pub limit : Database → Option StoreRefusal
limit database =
    if nat_lt most_buckets (length database.buckets) then Some (Limit Buckets most_buckets)
    else (if nat_lt most_policies (length database.policies) then Some (Limit Policies most_policies) else None)

-- the least bucket that is on a cycle
abbrev pub cycle : Database → Option StoreRefusal
cycle database =
    option_map (λ name. Cycle name)
    (find (is_on_cycle database) (map (λ (heading : Heading). heading.name) database.buckets))

abbrev pub first_of : List (Option StoreRefusal) → Option StoreRefusal
first_of [] = None
first_of (None ∷ rules) = first_of rules
first_of (Some refusal ∷ rules) = Some refusal

-- the first rule that a request breaks at a database
abbrev pub fault : Database → Request → Option StoreRefusal
fault database request =
    first_of (no_bucket request.named database
    ∷ root_bucket request.removed ∷ bad_kind request.headed ∷ limit request.next ∷ cycle request.next ∷ [])

-- The refusal names the fault. Want of memory says nothing of the database.
abbrev pub Refuses : Database → Request → StoreRefusal → Type 0
Refuses database request (Memory error) = (root_bucket request.removed ≡ None) × (bad_kind request.headed ≡ None)
Refuses database request refusal = fault database request ≡ Some refusal

-- ---- the requests

abbrev pub set_bucket : List ℕ → Ruling → Database → Request
set_bucket name fallback database =
    let heading : Heading = record { name = name; fallback = fallback } in
    record { named = []; removed = []; headed = heading ∷ []; next = with_bucket heading database }

abbrev pub remove_bucket : List ℕ → Database → Request
remove_bucket name database =
    record { named = name ∷ []; removed = name ∷ []; headed = []; next = without_bucket name database }

-- a change names its bucket, and then the one that its result points to
abbrev pub named_by : Change → List (List ℕ)
named_by (Set name key result) = if result.kind == bucket then name ∷ result.metadata ∷ [] else name ∷ []
named_by (Delete name key) = name ∷ []

abbrev pub set_policies : List Change → Database → Request
set_policies changes database =
    record { named = flat_map named_by changes; removed = []; headed = []; next = with_changes changes database }

abbrev pub erase : List ℕ → Filter → Database → Request
erase name filter database = record { named = name ∷ []; removed = []; headed = []; next = erased name filter database }

abbrev pub list : List ℕ → Database → Request
list name database = record { named = name ∷ []; removed = []; headed = []; next = database }
