use Rattle.std.proofs.Common.{ap, ◌∙◌}
use Rattle.cynara_keys.specs.PolicyResult.{deny, allow}
use Rattle.bucket_store.specs.Change.{with_bucket}
use Rattle.app_registry.specs.declared.users.UserType.TheVariants.{System, Admin, Normal, Guest}
use Rattle.desk_state.specs.Layout.{manifests, admin, type_bucket, heading}
use Rattle.desk_state.proofs.layouts.with_buckets.Goals as goal

pub returns : goal.returns
returns c = record {
  next =
      c.in_ok-next-7.ensures.next
      ∙ ap (with_bucket (heading (type_bucket Guest) allow)) (c.in_ok-next-6.ensures.next
      ∙ ap (with_bucket (heading (type_bucket Normal) allow)) (c.in_ok-next-5.ensures.next
      ∙ ap (with_bucket (heading (type_bucket Admin) allow)) (c.in_ok-next-4.ensures.next
      ∙ ap (with_bucket (heading (type_bucket System) allow)) (c.in_ok-next-3.ensures.next
      ∙ ap (with_bucket (heading admin allow)) (c.in_ok-next-2.ensures.next
      ∙ ap (with_bucket (heading manifests deny)) c.in_ok-next.ensures.next)))));
  refused = tt;
}
