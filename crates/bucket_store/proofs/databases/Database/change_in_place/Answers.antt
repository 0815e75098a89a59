use Rattle.std.proofs.Common.{◌≡◌, List, None, refl, ap, ◌∙◌, subst}
use Rattle.bucket_store.specs.Bucket.{Bucket}
use Rattle.bucket_store.specs.Change.{with_changes}
use Rattle.bucket_store.specs.Database.{Database}
use Rattle.bucket_store.specs.Refusal.{fault, set_policies}
use Rattle.bucket_store.specs.parts.OneBucket.{ChangesOne}
use Rattle.bucket_store.proofs.OneBucket.{kept-edited, view-edited, accepted-edited}
use Rattle.bucket_store.proofs.databases.Database.change_in_place.Goals as goal
use Rattle.bucket_store.proofs.databases.Database.change_in_place.Goals.{In-Some}

one : (c : In-Some) → ChangesOne c.self.inside.buckets.items c.args.changes.now c.in-Some.at
one c =
    subst (λ (buckets : List Bucket). ChangesOne buckets c.args.changes.now c.in-Some.at) c.deref.ensures.value
    c.in-Some.ensures

pub invariant_of-self-2 : goal.invariant_of-self-2
invariant_of-self-2 c =
    kept-edited c.self.inside.buckets.items c.args.changes.now c.in-Some.at c.self.invariant
    (one (goal.at.invariant_of-self-2 c).In-Some) c.index_mut.result.now c.edit.new.self c.index_mut.ensures.value
    (c.if-not-edit.ensures.done refl)

pub returns-clause-next : goal.returns-clause-next
returns-clause-next c _ =
    view-edited c.self.inside.buckets.items c.args.changes.now c.in-Some.at c.self.invariant
    (one (goal.at.returns-clause-next c).In-Some) c.index_mut.result.now c.edit.new.self c.index_mut.ensures.value
    (c.if-not-edit.ensures.done refl)
    ∙ ap (with_changes c.args.changes.now) c.self.view_is

pub returns-clause-accepted : goal.returns-clause-accepted
returns-clause-accepted c _ =
    subst (λ (database : Database). fault database (set_policies c.args.changes.now database) ≡ None) c.self.view_is
    (accepted-edited c.self.inside.buckets.items c.args.changes.now c.in-Some.at c.self.invariant
    (one (goal.at.returns-clause-accepted c).In-Some))
