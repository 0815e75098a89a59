use Rattle.std.proofs.Common.{◌≡◌, subst, refl, List, [], true, false}
use Rattle.cynara_keys.specs.Text.{text_cmp}
use Rattle.bucket_store.specs.Bucket.{Bucket}
use Rattle.bucket_store.specs.Database.{Database, database_of, has_bucket}
use Rattle.bucket_store.specs.WellFormed.{IsSound}
use Rattle.bucket_store.specs.parts.Search.{StandsAt}
use Rattle.bucket_store.proofs.Sound.{listed-read, fault-found, refuses-absent, has-found, has-absent}
use Rattle.bucket_store.proofs.databases.Database.list.Goals as goal

pub returns-in-Ok-admitted-clause-list : goal.returns-in-Ok-admitted-clause-list
returns-in-Ok-admitted-clause-list c =
    let stands =
    subst (λ (list : List Bucket). StandsAt (λ (bucket : Bucket). text_cmp bucket.name c.args.name.now)
    list c.in-Ok.place)
    c.deref.ensures.value c.in-Ok.ensures.found in
    rw c.in-Ok-admitted.ensures (rw c.policies.ensures
    (listed-read c.args.name.now c.args.filter.now c.args.self.now c.self.inside.buckets.items c.self.view_is
    c.in-Ok.place
    stands c.index-bucket.result.now c.index-bucket.ensures))

pub returns-in-Ok-admitted-clause-accepted : goal.returns-in-Ok-admitted-clause-accepted
returns-in-Ok-admitted-clause-accepted c =
    let has : has_bucket c.args.name.now c.args.self.now ≡ true =
    subst (λ (database : Database). has_bucket c.args.name.now database ≡ true) c.self.view_is
    (subst (λ (list : List Bucket). has_bucket c.args.name.now (database_of list) ≡ true) c.deref.ensures.value
    (has-found c.args.name.now c.deref.result.now c.in-Ok.place c.in-Ok.ensures.found)) in
    fault-found c.args.name.now c.args.self.now c.args.self.now has
    (subst IsSound c.self.view_is c.self.invariant.sound)

pub returns-in_default-clause-refused : goal.returns-in_default-clause-refused
returns-in_default-clause-refused c =
    let absent = rw c.in_default.is at c.place_of_bucket.ensures.absent in
    let gone : has_bucket c.args.name.now c.args.self.now ≡ false =
    subst (λ (database : Database). has_bucket c.args.name.now database ≡ false) c.self.view_is
    (subst (λ (list : List Bucket). has_bucket c.args.name.now (database_of list) ≡ false) c.deref.ensures.value
    (has-absent c.args.name.now c.deref.result.now c.in_default.field-0 absent)) in
    refuses-absent c.args.name.now [] c.args.self.now c.args.self.now refl gone c.no_bucket.result c.no_bucket.ensures
