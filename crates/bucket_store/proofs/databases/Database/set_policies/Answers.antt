use Rattle.std.proofs.Common.{◌≡◌, ◌∙◌, Bool, false, ap, sym, subst, List, [], map, length, nat_lt, Some, None}
use Rattle.std.proofs.Common.{get_or}
use Rattle.std.specs.List.{AllByRecursion, flat_map}
use Rattle.std.specs.List.Sorted.{IsStrictlySortedBy}
use Rattle.std.proofs.lemmas.Bool.{ltb-false}
use Rattle.std.proofs.lemmas.List.{get_or_default}
use Rattle.cynara_keys.specs.declared.limits.Counted.TheVariants.{Policies}
use Rattle.bucket_store.specs.Bucket.{Bucket}
use Rattle.bucket_store.specs.Database.{Database, database_of, placed_of}
use Rattle.bucket_store.specs.Order.{bucket_cmp}
use Rattle.bucket_store.specs.Change.{with_changes}
use Rattle.bucket_store.specs.Refusal.{no_bucket, named_by, fault, set_policies, most_policies}
use Rattle.bucket_store.specs.WellFormed.{IsKept}
use Rattle.bucket_store.specs.declared.policy_changes.Change.{Change}
use Rattle.bucket_store.specs.parts.Batch.{changed}
use Rattle.bucket_store.specs.parts.Edit.{bucket_of}
use Rattle.bucket_store.specs.parts.Ending.{ChangeEnds, IsLeastAt}
use Rattle.bucket_store.specs.declared.refusals.StoreRefusal.TheVariants.{Limit, Cycle}
use Rattle.bucket_store.proofs.LeastCycle.{least-named}
use Rattle.bucket_store.proofs.Walks.{NoCycle}
use Rattle.bucket_store.proofs.Accepting.{view-after, names-after, rooted-after, kept-after, free-after, accepted-after, free-linked}
use Rattle.bucket_store.proofs.Accepting.{limited-after, cycle-after, refuses-cycle}
use Rattle.bucket_store.proofs.databases.Database.set_policies.Goals as goal
use Rattle.bucket_store.proofs.databases.Database.set_policies.Goals.{In-Ok, After-is_over, Then-not-adds_link}

-- the buckets after the changes
abbrev after : List Change → List Bucket → List Bucket
after changes buckets = map (changed changes) buckets

-- all that the changes name is there
abbrev AreNamed : List Change → List Bucket → Type 0
AreNamed changes buckets = no_bucket (flat_map named_by changes) (database_of buckets) ≡ None

-- whether there are too many policies after them
abbrev too_many : List Change → List Bucket → Bool
too_many changes buckets = nat_lt most_policies (length (flat_map placed_of (after changes buckets)))

-- ---- what is known on each way

named : (c : In-Ok) → AreNamed c.args.changes.now c.self.inside.buckets.items
named c =
    let told = rw c.in_default.is at c.all_named.ensures in
    ap (λ (list : List Bucket). no_bucket (flat_map named_by c.args.changes.now) (database_of list))
    (sym c.deref.ensures.value) ∙ told

made : (c : In-Ok) → c.in-Ok.buckets.items ≡ after c.args.changes.now c.self.inside.buckets.items
made c = c.in-Ok.ensures ∙ ap (after c.args.changes.now) c.deref-2.ensures.value

view : (c : In-Ok) → database_of c.in-Ok.buckets.items ≡ with_changes c.args.changes.now c.args.self.now
view c =
    ap database_of (made c)
    ∙ view-after c.args.changes.now c.self.inside.buckets.items c.self.invariant (named c)
    ∙ ap (with_changes c.args.changes.now) c.self.view_is

counted : (c : After-is_over) → c.in-Ok.buckets.items ≡ after c.args.changes.now c.self.inside.buckets.items
    → too_many c.args.changes.now c.self.inside.buckets.items ≡ c.is_over.result
counted c made =
    ap (λ (list : List Bucket). nat_lt most_policies (length (flat_map placed_of list)))
    (sym (c.deref-3.ensures.value ∙ made)) ∙ sym c.is_over.ensures

-- no policy that points to a bucket is put
kept-unlinked : (c : Then-not-adds_link) → AreNamed c.args.changes.now c.self.inside.buckets.items
    → too_many c.args.changes.now c.self.inside.buckets.items ≡ c.is_over.result
    → IsKept (after c.args.changes.now c.self.inside.buckets.items)
kept-unlinked c named over =
    let changes = c.args.changes.now in
    let buckets = c.self.inside.buckets.items in
    kept-after changes buckets c.self.invariant named (ltb-false most_policies _ (over ∙ c.if-is_over.false))
    (free-after changes buckets c.self.invariant named (sym c.adds_link.ensures ∙ c.if-not-adds_link.true))

-- ---- the answers

pub returns-then-is_over-clause-refused : goal.returns-then-is_over-clause-refused
returns-then-is_over-clause-refused c =
    let way = goal.at.returns-then-is_over-clause-refused c in
    subst (λ (database : Database). fault database (set_policies c.args.changes.now database) ≡ Some
    (Limit Policies most_policies))
    c.self.view_is
    (limited-after c.args.changes.now c.self.inside.buckets.items c.self.invariant (named way.In-Ok)
    (counted way.After-is_over (made way.In-Ok) ∙ c.if-is_over.true))

pub invariant_of-result : goal.invariant_of-result
invariant_of-result c =
    let way = goal.at.invariant_of-result c in
    subst IsKept (sym (made way.In-Ok))
    (kept-unlinked way.Then-not-adds_link (named way.In-Ok) (counted way.After-is_over (made way.In-Ok)))

pub returns-then-not-adds_link-clause-next : goal.returns-then-not-adds_link-clause-next
returns-then-not-adds_link-clause-next c = view (goal.at.returns-then-not-adds_link-clause-next c).In-Ok

pub returns-then-not-adds_link-clause-accepted : goal.returns-then-not-adds_link-clause-accepted
returns-then-not-adds_link-clause-accepted c =
    let way = goal.at.returns-then-not-adds_link-clause-accepted c in
    subst (λ (database : Database). fault database (set_policies c.args.changes.now database) ≡ None) c.self.view_is
    (accepted-after c.args.changes.now c.self.inside.buckets.items c.self.invariant (named way.In-Ok)
    (kept-unlinked way.Then-not-adds_link (named way.In-Ok) (counted way.After-is_over (made way.In-Ok))))

-- no change's policy sends on to where a walk leads to a cycle
kept-ended : (changes : List Change) (buckets : List Bucket) → IsKept buckets → AreNamed changes buckets
    → too_many changes buckets ≡ false
    → AllByRecursion (ChangeEnds (after changes buckets)) changes
    → IsKept (after changes buckets)
kept-ended changes buckets kept named over ends =
    kept-after changes buckets kept named (ltb-false most_policies _ over)
    (free-linked changes buckets kept named ends)

-- no bucket is on a cycle
kept-free : (changes : List Change) (buckets : List Bucket) → IsKept buckets → AreNamed changes buckets
    → too_many changes buckets ≡ false
    → NoCycle (flat_map placed_of (after changes buckets))
    → IsKept (after changes buckets)
kept-free changes buckets kept named over free =
    kept-after changes buckets kept named (ltb-false most_policies _ over) free

pub changes_end-requires : goal.changes_end-requires
changes_end-requires c =
    let way = goal.at.changes_end-requires c in
    subst (IsStrictlySortedBy bucket_cmp) (sym (c.deref-4.ensures.value ∙ made way.In-Ok))
    (names-after c.args.changes.now c.self.inside.buckets.items c.self.invariant (named way.In-Ok))

pub invariant_of-result-in-Ok-true : goal.invariant_of-result-in-Ok-true
invariant_of-result-in-Ok-true c =
    let way = goal.at.invariant_of-result-in-Ok-true c in
    let changes = c.args.changes.now in
    subst IsKept (sym (made way.In-Ok))
    (kept-ended changes c.self.inside.buckets.items c.self.invariant (named way.In-Ok)
    (counted way.After-is_over (made way.In-Ok) ∙ c.if-is_over.false)
    (subst (λ (list : List Bucket). AllByRecursion (ChangeEnds list) changes) (c.deref-4.ensures.value ∙ made way.In-Ok)
    (c.in-Ok-true.ensures c.in-Ok-true.field-0-test)))

pub returns-in-Ok-true-clause-next : goal.returns-in-Ok-true-clause-next
returns-in-Ok-true-clause-next c = view (goal.at.returns-in-Ok-true-clause-next c).In-Ok

pub returns-in-Ok-true-clause-accepted : goal.returns-in-Ok-true-clause-accepted
returns-in-Ok-true-clause-accepted c =
    let way = goal.at.returns-in-Ok-true-clause-accepted c in
    let changes = c.args.changes.now in
    subst (λ (database : Database). fault database (set_policies changes database) ≡ None) c.self.view_is
    (accepted-after changes c.self.inside.buckets.items c.self.invariant (named way.In-Ok)
    (kept-ended changes c.self.inside.buckets.items c.self.invariant (named way.In-Ok)
    (counted way.After-is_over (made way.In-Ok) ∙ c.if-is_over.false)
    (subst (λ (list : List Bucket). AllByRecursion (ChangeEnds list) changes) (c.deref-4.ensures.value ∙ made way.In-Ok)
    (c.in-Ok-true.ensures c.in-Ok-true.field-0-test))))

pub least_on_cycle-requires : goal.least_on_cycle-requires
least_on_cycle-requires c =
    let way = goal.at.least_on_cycle-requires c in
    subst (IsStrictlySortedBy bucket_cmp) (sym (c.deref-5.ensures.value ∙ made way.In-Ok))
    (names-after c.args.changes.now c.self.inside.buckets.items c.self.invariant (named way.In-Ok))

pub invariant_of-result-in-Ok-None : goal.invariant_of-result-in-Ok-None
invariant_of-result-in-Ok-None c =
    let way = goal.at.invariant_of-result-in-Ok-None c in
    let told = rw c.in-Ok-None.field-0-is at c.in-Ok-None.ensures in
    subst IsKept (sym (made way.In-Ok))
    (kept-free c.args.changes.now c.self.inside.buckets.items c.self.invariant (named way.In-Ok)
    (counted way.After-is_over (made way.In-Ok) ∙ c.if-is_over.false)
    (subst (λ (list : List Bucket). NoCycle (flat_map placed_of list)) (c.deref-5.ensures.value ∙ made way.In-Ok) told))

pub returns-in-Ok-None-clause-next : goal.returns-in-Ok-None-clause-next
returns-in-Ok-None-clause-next c = view (goal.at.returns-in-Ok-None-clause-next c).In-Ok

pub returns-in-Ok-None-clause-accepted : goal.returns-in-Ok-None-clause-accepted
returns-in-Ok-None-clause-accepted c =
    let way = goal.at.returns-in-Ok-None-clause-accepted c in
    let told = rw c.in-Ok-None.field-0-is at c.in-Ok-None.ensures in
    subst (λ (database : Database). fault database (set_policies c.args.changes.now database) ≡ None) c.self.view_is
    (accepted-after c.args.changes.now c.self.inside.buckets.items c.self.invariant (named way.In-Ok)
    (kept-free c.args.changes.now c.self.inside.buckets.items c.self.invariant (named way.In-Ok)
    (counted way.After-is_over (made way.In-Ok) ∙ c.if-is_over.false)
    (subst (λ (list : List Bucket). NoCycle (flat_map placed_of list)) (c.deref-5.ensures.value ∙ made way.In-Ok)
    told)))

pub returns-in-Ok-Some-clause-refused : goal.returns-in-Ok-Some-clause-refused
returns-in-Ok-Some-clause-refused c =
    let way = goal.at.returns-in-Ok-Some-clause-refused c in
    let changes = c.args.changes.now in
    let buckets = c.self.inside.buckets.items in
    let kept = c.self.invariant in
    let next = after changes buckets in
    let at = c.in-Ok-Some.at in
    let told = rw c.in-Ok-Some.field-0-is at c.in-Ok-Some.ensures in
    let least : IsLeastAt next at =
    subst (λ (list : List Bucket). IsLeastAt list at) (c.deref-5.ensures.value ∙ made way.In-Ok) told in
    let blank : Bucket = bucket_of [] (record { kind = 0; metadata = [] }) [] in
    let bucket = c.index.result.now in
    let is : bucket.name ≡ (get_or next at blank).name =
    ap (λ (own : Bucket). own.name)
    (c.index.ensures ∙ ap (λ (list : List Bucket). get_or list at bucket) (made way.In-Ok)
    ∙ get_or_default next at bucket blank least.in_range) in
    let first = least-named next (rooted-after changes buckets kept (named way.In-Ok)) at least in
    let over = counted way.After-is_over (made way.In-Ok) ∙ c.if-is_over.false in
    let on =
    cycle-after changes buckets kept (named way.In-Ok) over bucket.name
    (first ∙ ap (λ name. Some (Cycle name)) (sym is)) in
    refuses-cycle c.args.self.now changes bucket.name c.on_cycle.result
    (subst (λ (database : Database). fault database (set_policies changes database) ≡ Some (Cycle bucket.name))
    c.self.view_is on)
    c.on_cycle.ensures
