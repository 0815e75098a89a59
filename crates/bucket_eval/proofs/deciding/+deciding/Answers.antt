use Rattle.std.proofs.Common.{◌≡◌, ◌+◌, ◌-◌, suc, [], None, false, refl, sym, ap, ◌∙◌, subst, arith}
use Rattle.std.proofs.lemmas.Option.{get_or_from_slice_get, same_Some, slice_get_within}
use Rattle.cynara_keys.specs.declared.keys.Policy.{Policy}
use Rattle.bucket_store.specs.Bucket.{Bucket}
use Rattle.bucket_store.specs.Database.{Placed, database_of}
use Rattle.bucket_store.specs.Walk.{points}
use Rattle.bucket_eval.specs.parts.Deciding.{Fits, IsKnown, IsLeast, answer_of, outcome_followed}
use Rattle.bucket_eval.specs.parts.Ends.{EndsWithin}
use Rattle.bucket_eval.specs.parts.Sheets.{TargetsAt}
use Rattle.bucket_eval.proofs.Depth.{ends-below, step-of}
use Rattle.bucket_eval.proofs.Filing.{gap-at, points-at}
use Rattle.bucket_eval.proofs.Kept.{rising-at}
use Rattle.bucket_eval.proofs.Known.{element-at}
use Rattle.bucket_eval.proofs.Weighing.{answers-fallback, answers-weighed, best-of, least-first, least-last, least-met, least-silent, least-skip, least_below, own-known, target-known}
use Rattle.bucket_eval.proofs.deciding.+deciding.Goals as goal

-- ---- what a policy answers

-- its own result
pub followed-returns-in_default-clause-follows : goal.followed-returns-in_default-clause-follows
followed-returns-in_default-clause-follows t c = λ bucket policy there policy_there.
    let asking = c.args.asking.now in
    let is = c.requires.filed bucket there in
    let same : is.policy ≡ policy = same_Some _ _ (sym is.there ∙ policy_there) in
    own-known asking c.args.at bucket c.requires.ready.right.kept there c.args.filed.place policy c.own_at.result
    (subst (λ (p : Policy). points p ≡ false) same
    (subst (TargetsAt asking.buckets.now is.policy) (sym c.target.ensures ∙ c.in_default.is) is.target))
    policy_there c.own_at.ensures.spot (c.own_at.ensures.kind ∙ is.kind ∙ ap (λ (p : Policy). p.result.kind) same)

-- the bucket that it points to is there
pub followed-known_at-known-requires : goal.followed-known_at-known-requires
followed-known_at-known-requires t c =
    let asking = c.args.asking.now in
    let here = element-at asking.buckets.now c.args.at c.requires.there in
    let to = points-at asking c.args.at here.0 c.args.filed c.in-Some.target here.1 c.requires.filed
    (sym c.target.ensures ∙ c.in-Some.is) in
    let within = slice_get_within asking.buckets.now c.in-Some.target to.bucket to.there in
    let room = c.requires.ready.room in
    omega (arith, within, room)

pub followed-returns-then-is_there-clause-follows : goal.followed-returns-then-is_there-clause-follows
followed-returns-then-is_there-clause-follows t c = λ bucket policy there policy_there.
    let asking = c.args.asking.now in
    let to = points-at asking c.args.at bucket c.args.filed c.in-Some.target there c.requires.filed
    (sym c.target.ensures ∙ c.in-Some.is) in
    let is = c.requires.filed bucket there in
    let same : is.policy ≡ policy = same_Some _ _ (sym is.there ∙ policy_there) in
    subst (λ (p : Policy). IsKnown asking.buckets.now (outcome_followed asking bucket.name p) c.known_at-known.result) same
    (target-known asking c.args.at bucket c.requires.ready.right.kept there is.policy to.bucket c.known_at-known.result
    to.points to.name
    (c.requires.ready.answers c.in-Some.target to.bucket c.known_at-known.result to.there c.known_at-known.ensures
    (sym c.is_there.ensures ∙ c.if-is_there.true)))

-- a walk of no policy has fewer than are left
pub followed-overflow_sub-left : goal.followed-overflow_sub-left
followed-overflow_sub-left t c =
    let asking = c.args.asking.now in
    let here = element-at asking.buckets.now c.args.at c.requires.there in
    let some = c.requires.ends here.0 here.1 [] tt in
    omega (arith, some)

pub followed-settle-requires : goal.followed-settle-requires
followed-settle-requires t c =
    let asking = c.args.asking.now in
    let buckets = asking.buckets.now in
    let here = element-at buckets c.args.at c.requires.there in
    let is = c.requires.filed here.0 here.1 in
    let to = points-at asking c.args.at here.0 c.args.filed c.in-Some.target here.1 c.requires.filed
    (sym c.target.ensures ∙ c.in-Some.is) in
    let ends = c.requires.ends here.0 here.1 in
    let some = ends [] tt in
    let above : c.args.left ≡ suc (c.args.left - 1) = omega (arith, some) in
    let step : Placed = record { bucket = here.0.name; policy = is.policy } in
    let below : EndsWithin (database_of buckets).policies (c.args.left - 1) to.bucket.name =
    subst (λ name. EndsWithin (database_of buckets).policies (c.args.left - 1) name) (sym to.name)
    (ends-below (database_of buckets).policies (c.args.left - 1) here.0.name step
    (subst (λ n. EndsWithin (database_of buckets).policies n here.0.name) above ends)
    (step-of buckets c.args.at here.0 c.args.filed.place is.policy here.1 is.there to.points)) in (
      omega (arith, some),
      (
        c.requires.ready,
        (
          slice_get_within buckets c.in-Some.target to.bucket to.there,
          λ bucket there.
              subst (λ (b : Bucket). EndsWithin (database_of buckets).policies (c.args.left - 1) b.name)
              (same_Some _ _ (sym to.there ∙ there)) below,
        ),
      ),
    )

pub followed-returns-clause-follows : goal.followed-returns-clause-follows
followed-returns-clause-follows t c = λ bucket policy there policy_there.
    let asking = c.args.asking.now in
    let to = points-at asking c.args.at bucket c.args.filed c.in-Some.target there c.requires.filed
    (sym c.target.ensures ∙ c.in-Some.is) in
    let is = c.requires.filed bucket there in
    let same : is.policy ≡ policy = same_Some _ _ (sym is.there ∙ policy_there) in
    subst (λ (p : Policy). IsKnown asking.buckets.now (outcome_followed asking bucket.name p) c.settle.result) same
    (target-known asking c.args.at bucket c.requires.ready.right.kept there is.policy to.bucket c.settle.result to.points
    to.name (c.settle.ensures.answers to.bucket to.there))

-- ---- the least contribution

pub least-loop-shape-init : goal.least-loop-shape-init
least-loop-shape-init t c = record {
  ready = c.requires.ready;
  room = refl;
  best = λ bucket there.
      let asking = c.args.asking.now in
      subst (λ made. IsLeast asking.buckets.now bucket.policies made None)
      (sym (least-skip asking bucket.name bucket.policies 0 c.next-shape.result
      (gap-at asking c.args.at bucket c.requires.ready.right there c.sheet_at-sheet.result.now c.sheet_at-sheet.ensures 0
      c.next-shape.result c.next-shape.ensures)
      ∙ least-first asking bucket.name bucket.policies))
      tt;
}

pub least-loop-shape-smaller : goal.least-loop-shape-smaller
least-loop-shape-smaller t c =
    let asking = c.args.asking.now in
    let here = element-at asking.buckets.now c.args.at c.requires.there in
    let gap = gap-at asking c.args.at here.0 c.requires.ready.right here.1 c.sheet_at-sheet.result.now c.sheet_at-sheet.ensures
    (c.loop-shape.shape + 1) c.next-shape-in-loop-shape.result c.next-shape-in-loop-shape.ensures in
    let order = gap.order in
    omega (arith, order)

pub least-loop-shape-preserved : goal.least-loop-shape-preserved
least-loop-shape-preserved t c = record {
  ready = c.lesser_in_shape-best.ensures.ready;
  room = c.lesser_in_shape-best.ensures.room ∙ c.loop-shape.invariant.room;
  best = λ bucket there.
      let asking = c.args.asking.now in
      subst (λ made. IsLeast asking.buckets.now bucket.policies made c.lesser_in_shape-best.result)
      (sym (least-skip asking bucket.name bucket.policies (c.loop-shape.shape + 1) c.next-shape-in-loop-shape.result
      (gap-at asking c.args.at bucket c.requires.ready.right there c.sheet_at-sheet.result.now c.sheet_at-sheet.ensures
      (c.loop-shape.shape + 1) c.next-shape-in-loop-shape.result c.next-shape-in-loop-shape.ensures)))
      (c.lesser_in_shape-best.ensures.best bucket there);
}

pub least-returns-clause-least : goal.least-returns-clause-least
least-returns-clause-least t c = λ bucket there.
    let asking = c.args.asking.now in
    subst (λ made. IsLeast asking.buckets.now bucket.policies made c.loop-shape.best)
    (least-last asking bucket.name bucket.policies c.loop-shape.shape (omega arith))
    (c.loop-shape.invariant.best bucket there)

-- ---- one shape more

pub lesser_in_shape-returns-in_default-clause-best : goal.lesser_in_shape-returns-in_default-clause-best
lesser_in_shape-returns-in_default-clause-best t c = λ bucket there.
    let asking = c.args.asking.now in
    subst (λ made. IsLeast asking.buckets.now bucket.policies made c.args.best)
    (sym (least-silent asking bucket.name bucket.policies c.args.shape
    (rising-at asking.buckets.now c.args.at bucket c.requires.ready.right.kept.keys_rise there)
    (subst (Fits asking c.args.shape bucket.policies) c.in_default.is (c.filed_in_shape.ensures bucket there))))
    (c.requires.best bucket there)

pub lesser_in_shape-lesser-requires-clause-offer : goal.lesser_in_shape-lesser-requires-clause-offer
lesser_in_shape-lesser-requires-clause-offer t c = λ bucket there.
    let asking = c.args.asking.now in
    let fits = subst (Fits asking c.args.shape bucket.policies) c.in-Some.is (c.filed_in_shape.ensures bucket there) in
    let policy = fits.1.policy in
    record {
      made = record { outcome = outcome_followed asking bucket.name policy; key = policy.key };
      is = record {
        known = c.followed-known.ensures.follows bucket policy there fits.1.there;
        policy = policy;
        there = fits.1.there;
        key = refl;
      };
    }

pub lesser_in_shape-lesser-requires-clause-best : goal.lesser_in_shape-lesser-requires-clause-best
lesser_in_shape-lesser-requires-clause-best t c = λ bucket there.
    best-of c.args.asking.now.buckets.now bucket.policies _ c.args.best (c.requires.best bucket there)

pub lesser_in_shape-returns-clause-best : goal.lesser_in_shape-returns-clause-best
lesser_in_shape-returns-clause-best t c = λ bucket there.
    let asking = c.args.asking.now in
    let fits = subst (Fits asking c.args.shape bucket.policies) c.in-Some.is (c.filed_in_shape.ensures bucket there) in
    let policy = fits.1.policy in
    subst (λ made. IsLeast asking.buckets.now bucket.policies made c.lesser.result)
    (sym (least-met asking bucket.name bucket.policies c.args.shape c.in-Some.filed.place policy
    (rising-at asking.buckets.now c.args.at bucket c.requires.ready.right.kept.keys_rise there) fits.0
    (sym (get_or_from_slice_get bucket.policies c.in-Some.filed.place policy policy fits.1.there))))
    (c.lesser.ensures bucket policy (outcome_followed asking bucket.name policy)
    (least_below asking bucket.name bucket.policies c.args.shape) there fits.1.there
    (c.followed-known.ensures.follows bucket policy there fits.1.there) (c.requires.best bucket there))

-- ---- what a bucket answers

pub settle-keep-requires-clause-answers : goal.settle-keep-requires-clause-answers
settle-keep-requires-clause-answers t c = λ bucket there.
    let asking = c.args.asking.now in
    answers-weighed asking c.args.at bucket c.requires.ready.right.kept there c.in-Some.weighed
    (subst (IsLeast asking.buckets.now bucket.policies _) c.in-Some.is (c.least.ensures.least bucket there))

pub settle-keep-requires-in-None-clause-answers : goal.settle-keep-requires-in-None-clause-answers
settle-keep-requires-in-None-clause-answers t c = λ bucket there.
    let asking = c.args.asking.now in
    answers-fallback asking c.args.at bucket c.requires.ready.right.kept there c.fallback_at.result
    (subst (IsLeast asking.buckets.now bucket.policies _) c.in-None.is (c.least.ensures.least bucket there))
    c.fallback_at.ensures.spot (c.fallback_at.ensures.kind bucket there)

pub settle-returns-in-Some-clause-answers : goal.settle-returns-in-Some-clause-answers
settle-returns-in-Some-clause-answers t c = λ bucket there.
    let asking = c.args.asking.now in
    subst (IsKnown asking.buckets.now (answer_of asking bucket.name)) (sym c.keep.ensures.same)
    (answers-weighed asking c.args.at bucket c.requires.ready.right.kept there c.in-Some.weighed
    (subst (IsLeast asking.buckets.now bucket.policies _) c.in-Some.is (c.least.ensures.least bucket there)))

pub settle-returns-in-None-clause-answers : goal.settle-returns-in-None-clause-answers
settle-returns-in-None-clause-answers t c = λ bucket there.
    let asking = c.args.asking.now in
    subst (IsKnown asking.buckets.now (answer_of asking bucket.name)) (sym c.keep-in-None.ensures.same)
    (answers-fallback asking c.args.at bucket c.requires.ready.right.kept there c.fallback_at.result
    (subst (IsLeast asking.buckets.now bucket.policies _) c.in-None.is (c.least.ensures.least bucket there))
    c.fallback_at.ensures.spot (c.fallback_at.ensures.kind bucket there))
