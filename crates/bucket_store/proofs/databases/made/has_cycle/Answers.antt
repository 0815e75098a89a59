use Rattle.std.proofs.Common.{◌≡◌, ℕ, Bool, false, List, [], ◌∷◌, map, None, refl, sym, ap}
use Rattle.std.specs.Option.{is_some, option_map}
use Rattle.std.specs.List.{find}
use Rattle.bucket_store.specs.Database.{Heading, database_of}
use Rattle.bucket_store.specs.Walk.{is_on_cycle}
use Rattle.bucket_store.specs.declared.refusals.StoreRefusal.TheVariants.{Cycle}
use Rattle.bucket_store.proofs.LeastCycle.{least-named}
use Rattle.bucket_store.proofs.Walks.{tested-NoCycle}
use Rattle.bucket_store.proofs.databases.made.has_cycle.Goals as goal

find-none : (test : List ℕ → Bool) (names : List (List ℕ)) → ((name : List ℕ) → test name ≡ false) → find test names ≡ None
find-none test [] none = refl
find-none test (name ∷ names) none = rw (none name) (find-none test names none)

pub returns-in-Ok-None : goal.returns-in-Ok-None
returns-in-Ok-None c =
    let buckets = c.args.buckets.now in
    let free = rw c.in-Ok-None.field-0-is at c.in-Ok-None.ensures in
    sym (ap (λ found. is_some (option_map (λ name. Cycle name) found))
    (find-none (is_on_cycle (database_of buckets)) (map (λ (heading : Heading). heading.name) (database_of buckets).buckets)
    (tested-NoCycle (database_of buckets) free)))

pub returns-in-Ok-Some : goal.returns-in-Ok-Some
returns-in-Ok-Some c =
    let least = rw c.in-Ok-Some.field-0-is at c.in-Ok-Some.ensures in
    sym (ap is_some (least-named c.args.buckets.now c.requires.rooted c.in-Ok-Some.field-0-0 least))
