use Rattle.std.proofs.Common.{◌∙◌, rules}
use Rattle.std.proofs.lemmas.Fn.{always_returns_same}
use Rattle.cynara_keys.specs.Text.{text_cmp}
use Rattle.cynara_keys.proofs.Order.{text_total}
use Rattle.bucket_store.specs.Bucket.{Bucket}
use Rattle.bucket_store.proofs.Searching.{searched}
use Rattle.bucket_store.proofs.Sound.{bucket-place}
use Rattle.bucket_eval.proofs.nested.place_of_bucket.Goals as goal

-- the closure compares a bucket's name with the name
pub returns : goal.returns
returns c =
    let facts = c.binary_search_by.ensures in
    let by_name =
    facts.position (λ bucket. text_cmp bucket.name c.args.name.now)
    (always_returns_same _ _ _ (λ a r f called. search rules)) in
    let ends =
    searched text_total (λ (bucket : Bucket). bucket.name) c.args.name.now c.args.buckets.now c.requires
    c.binary_search_by.result facts.bound by_name in
    c.ok.ensures.value ∙ bucket-place c.args.name.now c.args.buckets.now c.binary_search_by.result ends.0 ends.1
