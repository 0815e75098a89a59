use Rattle.std.proofs.Common.{◌≡◌, ◌≤◌, ◌∙◌, ◌||◌, ap, sym, subst, List, length, nat_lt, is_ok, Some, None, true, false}
use Rattle.bucket_store.specs.Bucket.{Bucket}
use Rattle.bucket_store.specs.Database.{database_of}
use Rattle.bucket_store.specs.Change.{with_bucket}
use Rattle.cynara_keys.specs.declared.limits.Counted.TheVariants.{Buckets}
use Rattle.bucket_store.specs.Refusal.{most_buckets, is_bad, fault, set_bucket}
use Rattle.bucket_store.specs.parts.Edit.{headed}
use Rattle.bucket_store.specs.declared.refusals.StoreRefusal.TheVariants.{Limit}
use Rattle.bucket_store.proofs.Heading.{IsPlace, headed-view, Kept-headed, has-room, heading-accepted, heading-limited}
use Rattle.bucket_store.proofs.databases.Database.set_bucket.Goals as goal
use Rattle.bucket_store.proofs.databases.Database.set_bucket.Goals.{After-has_room}

placed : (c : After-has_room) → IsPlace c.args.name.now c.self.inside.buckets.items c.place_of_bucket-place.result
placed c =
    let is : IsPlace c.args.name.now c.deref.result.now c.place_of_bucket-place.result = record {
      found = c.place_of_bucket-place.ensures.found;
      absent = c.place_of_bucket-place.ensures.absent;
    } in
    subst (λ list. IsPlace c.args.name.now list c.place_of_bucket-place.result) c.deref.ensures.value is

good : (c : After-has_room) → is_bad (record { name = c.args.name.now; fallback = c.args.fallback.now }) ≡ false
good c = sym c.is_bad.ensures ∙ c.if-is_bad.false

room : (c : After-has_room)
    → (is_ok c.place_of_bucket-place.result || nat_lt (length c.self.inside.buckets.items) most_buckets)
    ≡ c.has_room.result
room c =
    ap (λ (list : List Bucket). is_ok c.place_of_bucket-place.result || nat_lt (length list) most_buckets)
    (sym c.deref-2.ensures.value) ∙ sym c.has_room.ensures

-- there are no more buckets than there may be
short : (c : After-has_room) → c.has_room.result ≡ true
    → length (with_bucket (record { name = c.args.name.now; fallback = c.args.fallback.now })
    (database_of c.self.inside.buckets.items)).buckets
    ≤ most_buckets
short c is =
    has-room c.args.name.now c.args.fallback.now c.self.inside.buckets.items c.place_of_bucket-place.result (placed c)
    c.self.invariant (room c ∙ is)

pub returns-then-not-has_room-clause-refused : goal.returns-then-not-has_room-clause-refused
returns-then-not-has_room-clause-refused c =
    let way = (goal.at.returns-then-not-has_room-clause-refused c).After-has_room in
    subst (λ database. fault database (set_bucket c.args.name.now c.args.fallback.now database) ≡ Some
    (Limit Buckets most_buckets))
    c.self.view_is
    (heading-limited c.args.name.now c.args.fallback.now c.self.inside.buckets.items c.place_of_bucket-place.result
    (placed way)
    (room way ∙ c.if-not-has_room.true) (good way))

pub invariant_of-result : goal.invariant_of-result
invariant_of-result c =
    let way = (goal.at.invariant_of-result c).After-has_room in
    let name = c.args.name.now in
    let fallback = c.args.fallback.now in
    let made = c.in-Ok.ensures ∙ ap (headed c.place_of_bucket-place.result name fallback) c.deref-3.ensures.value in
    Kept-headed name fallback c.self.inside.buckets.items c.place_of_bucket-place.result (placed way)
    c.in-Ok.buckets.items made
    (good way) (short way c.if-not-has_room.false) c.self.invariant

pub returns-in-Ok-clause-next : goal.returns-in-Ok-clause-next
returns-in-Ok-clause-next c =
    let way = (goal.at.returns-in-Ok-clause-next c).After-has_room in
    let name = c.args.name.now in
    let fallback = c.args.fallback.now in
    let made = c.in-Ok.ensures ∙ ap (headed c.place_of_bucket-place.result name fallback) c.deref-3.ensures.value in
    headed-view name fallback c.self.inside.buckets.items c.place_of_bucket-place.result (placed way)
    c.in-Ok.buckets.items made
    ∙ ap (with_bucket (record { name = name; fallback = fallback })) c.self.view_is

pub returns-in-Ok-clause-accepted : goal.returns-in-Ok-clause-accepted
returns-in-Ok-clause-accepted c =
    let way = (goal.at.returns-in-Ok-clause-accepted c).After-has_room in
    subst (λ database. fault database (set_bucket c.args.name.now c.args.fallback.now database) ≡ None) c.self.view_is
    (heading-accepted c.args.name.now c.args.fallback.now (database_of c.self.inside.buckets.items) (good way)
    (short way c.if-not-has_room.false) c.self.invariant.sound)
