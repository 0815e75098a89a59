use Rattle.std.proofs.Common.{◌++◌, get_or, slice_get, ap, sym, ◌∙◌}
use Rattle.std.specs.Option.{option_to_list}
use Rattle.bucket_store.proofs.RowChoice.{places-more}
use Rattle.effective_audit.proofs.choosing.policies_at.Goals as goal

pub loop-place-preserved : goal.loop-place-preserved
loop-place-preserved c =
    c.in_ok-push_at.ensures
    ∙ ap (λ l. l ++ option_to_list (slice_get c.args.policies.now (get_or c.args.places.now c.loop-place.place-index 0)))
    c.loop-place.invariant
    ∙ sym (places-more c.args.policies.now c.args.places.now c.loop-place.place-index c.loop-place-test.true)
