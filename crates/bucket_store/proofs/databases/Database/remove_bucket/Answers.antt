use Rattle.std.proofs.Common.{◌≡◌, ◌∙◌, ap, sym, subst, refl, List, [], ◌∷◌, ℕ, true, false, eqb, length}
use Rattle.cynara_keys.specs.Text.{same_text}
use Rattle.bucket_store.specs.Bucket.{Bucket}
use Rattle.bucket_store.specs.Database.{Database, database_of, has_bucket, root}
use Rattle.bucket_store.specs.Change.{without_bucket}
use Rattle.bucket_store.specs.WellFormed.{IsSound, IsKept}
use Rattle.bucket_store.proofs.Sound.{refuses-absent, has-found, has-absent}
use Rattle.bucket_store.proofs.Removing.{removed-view, Kept-removed, removal-accepted, absent-apart}
use Rattle.bucket_store.proofs.databases.Database.remove_bucket.Goals as goal

-- a name that is not empty is not the root bucket's
not_root : (name : List ℕ) → eqb (length name) 0 ≡ false → same_text root name ≡ false
not_root [] h = cc
not_root (byte ∷ bytes) h = refl

pub returns-in_default-clause-refused : goal.returns-in_default-clause-refused
returns-in_default-clause-refused c =
    let absent = rw c.in_default.is at c.place_of_bucket.ensures.absent in
    let name = c.args.name.now in
    let gone : has_bucket name c.args.self.now ≡ false =
    subst (λ (database : Database). has_bucket name database ≡ false) c.self.view_is
    (subst (λ (list : List Bucket). has_bucket name (database_of list) ≡ false) c.deref.ensures.value
    (has-absent name c.deref.result.now c.in_default.field-0 absent)) in
    refuses-absent name (name ∷ []) c.args.self.now (without_bucket name c.args.self.now)
    (absent-apart name c.args.self.now (subst IsSound c.self.view_is c.self.invariant.sound) gone)
    gone c.no_bucket.result
    c.no_bucket.ensures

pub invariant_of-result : goal.invariant_of-result
invariant_of-result c =
    let apart = not_root c.args.name.now
    (ap (λ text. eqb (length text) 0) (sym c.as_slice.ensures.bytes) ∙ sym c.is_empty.ensures ∙ c.if-is_empty.false) in
    Kept-removed c.args.name.now c.deref-2.result.now c.in-Ok-without_bucket.buckets.items
    c.in-Ok-without_bucket.ensures apart
    (subst IsKept (sym c.deref-2.ensures.value) c.self.invariant)

pub returns-in-Ok-without_bucket-clause-next : goal.returns-in-Ok-without_bucket-clause-next
returns-in-Ok-without_bucket-clause-next c =
    removed-view c.args.name.now c.deref-2.result.now c.in-Ok-without_bucket.buckets.items
    c.in-Ok-without_bucket.ensures
    ∙ ap (λ list. without_bucket c.args.name.now (database_of list)) c.deref-2.ensures.value
    ∙ ap (without_bucket c.args.name.now) c.self.view_is

pub returns-in-Ok-without_bucket-clause-accepted : goal.returns-in-Ok-without_bucket-clause-accepted
returns-in-Ok-without_bucket-clause-accepted c =
    let name = c.args.name.now in
    let found = rw c.in-Ok.is at c.place_of_bucket.ensures.found in
    let apart = not_root name
    (ap (λ text. eqb (length text) 0) (sym c.as_slice.ensures.bytes) ∙ sym c.is_empty.ensures ∙ c.if-is_empty.false) in
    let has : has_bucket name c.args.self.now ≡ true =
    subst (λ (database : Database). has_bucket name database ≡ true) c.self.view_is
    (subst (λ (list : List Bucket). has_bucket name (database_of list) ≡ true) c.deref.ensures.value
    (has-found name c.deref.result.now c.in-Ok.field-0 found)) in
    removal-accepted name c.args.self.now apart has (subst IsSound c.self.view_is c.self.invariant.sound)
