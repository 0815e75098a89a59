use Rattle.std.proofs.Common.{◌≡◌, ◌-◌, suc, true, [], slice_index_or, sym, subst, arith}
use Rattle.std.proofs.lemmas.Option.{slice_get-get_or, slice_get_within}
use Rattle.bucket_store.specs.Bucket.{Bucket}
use Rattle.bucket_store.specs.Database.{database_of}
use Rattle.bucket_eval.specs.parts.Buckets.{IsHeld}
use Rattle.bucket_eval.specs.parts.Ends.{EndsWithin}
use Rattle.bucket_eval.specs.parts.Slots.{AreSound, Grows, Spot, answer_to, is_known}
use Rattle.bucket_eval.proofs.Depth.{ends-below}
use Rattle.bucket_eval.proofs.Kept.{if-at, of-at}
use Rattle.bucket_eval.proofs.Known.{fewer-unknown, grows-more, grows-set, held-policy, known-set, sound-set}
use Rattle.bucket_eval.proofs.settling.+settle.Goals as goal

pub of-requires-clause-policy : goal.of-requires-clause-policy
of-requires-clause-policy t c =
    held-policy c.args.asked.now.buckets.now _ c.in-Ok.held c.requires.kept c.in-Ok.ensures.held

pub returns-in-Ok-clause-held : goal.returns-in-Ok-clause-held
returns-in-Ok-clause-held t c =
    let buckets = c.args.asked.now.buckets.now in
    if-at (λ (bucket : Bucket). IsHeld buckets (answer_to c.args.asked.now bucket.name) c.in-Ok.held) buckets c.args.at
    (slice_index_or buckets c.args.at c.index-asked-at.result)
    (slice_get-get_or buckets c.args.at c.index-asked-at.result c.requires.there) c.in-Ok.ensures.held

pub returns-in-Ok-clause-sound : goal.returns-in-Ok-clause-sound
returns-in-Ok-clause-sound t c =
    let buckets = c.args.asked.now.buckets.now in
    let spot : Spot = record { bucket = c.in-Ok.held.found.bucket; policy = c.in-Ok.held.found.policy } in
    let room = c.loop-held.invariant.1.room in
    subst (AreSound c.args.asked.now) (sym c.keep.ensures)
    (sound-set c.args.asked.now c.loop-held.slots c.args.at
    (slice_index_or buckets c.args.at c.index-asked-at.result) c.of.result spot c.loop-held.invariant.0 (omega (arith, room))
    (slice_get-get_or buckets c.args.at c.index-asked-at.result c.requires.there) c.of.ensures
    c.in-Ok.ensures.held.there)

pub returns-in-Ok-clause-known : goal.returns-in-Ok-clause-known
returns-in-Ok-clause-known t c =
    let spot : Spot = record { bucket = c.in-Ok.held.found.bucket; policy = c.in-Ok.held.found.policy } in
    let room = c.loop-held.invariant.1.room in
    subst (λ slots. is_known slots c.args.at ≡ true) (sym c.keep.ensures)
    (known-set c.loop-held.slots c.args.at c.of.result spot (omega (arith, room)) c.of.ensures)

pub returns-in-Ok-clause-grows : goal.returns-in-Ok-clause-grows
returns-in-Ok-clause-grows t c =
    let spot : Spot = record { bucket = c.in-Ok.held.found.bucket; policy = c.in-Ok.held.found.policy } in
    let room = c.loop-held.invariant.1.room in
    subst (Grows c.args.slots.now) (sym c.keep.ensures)
    (grows-more c.args.slots.now c.loop-held.slots _ c.loop-held.invariant.1
    (grows-set c.loop-held.slots c.args.at c.of.result spot (omega (arith, room)) c.of.ensures))

-- a walk of no policy has fewer than are left
pub overflow_sub-left : goal.overflow_sub-left
overflow_sub-left t c =
    let buckets = c.args.asked.now.buckets.now in
    let some = of-at (λ (bucket : Bucket). EndsWithin (database_of buckets).policies c.args.left bucket.name) buckets c.args.at
    (slice_index_or buckets c.args.at c.index-asked-at.result)
    (slice_get-get_or buckets c.args.at c.index-asked-at.result c.requires.there) c.requires.ends [] tt in
    omega (arith, some)

pub settle-requires : goal.settle-requires
settle-requires t c =
    let buckets = c.args.asked.now.buckets.now in
    let bucket = slice_index_or buckets c.args.at c.index-asked-at.result in
    let ends = of-at (λ (b : Bucket). EndsWithin (database_of buckets).policies c.args.left b.name) buckets c.args.at bucket
    (slice_get-get_or buckets c.args.at c.index-asked-at.result c.requires.there) c.requires.ends in
    let some = ends [] tt in
    let room = c.loop-held.invariant.1.room in
    let waits = c.in-Err.ensures.waits in
    let above : c.args.left ≡ suc (c.args.left - 1) = omega (arith, some) in (
      omega (arith, some),
      (
        c.requires.kept,
        (
          slice_get_within buckets c.in-Err.below waits.bucket waits.there,
          (
            omega (arith, room),
            (
              c.loop-held.invariant.0,
              if-at (λ (b : Bucket). EndsWithin (database_of buckets).policies (c.args.left - 1) b.name) buckets
                  c.in-Err.below waits.bucket waits.there
                  (subst (λ name. EndsWithin (database_of buckets).policies (c.args.left - 1) name) waits.target
                  (ends-below (database_of buckets).policies (c.args.left - 1) bucket.name waits.step
                  (subst (λ n. EndsWithin (database_of buckets).policies n bucket.name) above ends) waits.is)),
            ),
          ),
        ),
      ),
    )

-- one bucket more is known
pub loop-held-smaller : goal.loop-held-smaller
loop-held-smaller t c =
    fewer-unknown c.loop-held.slots c.settle.new.slots c.in-Err.below c.settle.ensures.grows c.in-Err.ensures.waits.unknown
    c.settle.ensures.known
