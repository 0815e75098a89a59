use Rattle.std.proofs.Common.{◌≡◌, ℕ, List, [], ◌∷◌, Bool, false, not, cond, refl, sym, ap, ◌∙◌, IfOk, Result, Ok, Err}
use Rattle.std.proofs.lemmas.Bool.{or_parts}
use Rattle.std.specs.List.{filter, list_any}
use Rattle.cynara_keys.specs.declared.keys.Policy.{Policy}
use Rattle.bucket_store.specs.Bucket.{Bucket}
use Rattle.bucket_store.specs.Walk.{points_to}
use Rattle.bucket_store.specs.parts.Edit.{without_links, bucket_of}
use Rattle.bucket_store.proofs.edits.unlinked.Goals as goal

nothing_left_out : (test : Policy → Bool) (policies : List Policy) → list_any test policies ≡ false
    → filter (λ policy. not (test policy)) policies ≡ policies
nothing_left_out test [] none = refl
nothing_left_out test (policy ∷ policies) none =
    let parts = or_parts (test policy) (list_any test policies) none in
    ap (λ b. cond (not b) (policy ∷ filter (λ policy. not (test policy)) policies)
    (filter (λ policy. not (test policy)) policies)) parts.0
    ∙ ap (λ rest. policy ∷ rest) (nothing_left_out test policies parts.1)

shared : {E : Type 0} (r : Result Bucket E) (name : List ℕ) (bucket : Bucket) → IfOk r (λ copy. copy ≡ bucket)
    → list_any (points_to name) bucket.policies ≡ false → IfOk r (λ copy. copy ≡ without_links name bucket)
shared (Ok copy) name bucket is none =
    is ∙ ap (bucket_of bucket.name bucket.fallback) (sym (nothing_left_out (points_to name) bucket.policies none))
shared (Err error) name bucket is none = tt

pub returns-then-not-links : goal.returns-then-not-links
returns-then-not-links c =
    let none = sym c.links.ensures ∙ c.if-not-links.true in
    shared c.share.result c.args.name.now c.args.bucket.now c.share.ensures
    (ap (list_any (points_to c.args.name.now)) (sym c.policies.ensures) ∙ none)
