use Rattle.std.proofs.Common.{◌≡◌, ℕ, ◌+◌, ◌<◌, ◌≤◌, List, [], length, replicate, get_or, false, Bool, sym, ap, ◌∙◌, subst, arith}
use Rattle.std.proofs.lemmas.List.{get_or_default}
use Rattle.cynara_keys.specs.declared.keys.Policy.{Policy}
use Rattle.bucket_store.specs.Bucket.{Bucket}
use Rattle.bucket_store.specs.parts.Edit.{bucket_of}
use Rattle.bucket_store.specs.parts.Ending.{bucket_at, flag}
use Rattle.bucket_store.specs.parts.Reaching.{IsFlagged, has_place, with_links}
use Rattle.bucket_store.proofs.Reaching.{Follows, Follows-start, Follows-more, Follows-on, Follows-off, Follows-in_range}
use Rattle.bucket_store.proofs.Reaching.{flagged-start}
use Rattle.bucket_store.proofs.cycles.leads_back.Goals as goal

pub add_links-requires-clause-flagged : goal.add_links-requires-clause-flagged
add_links-requires-clause-flagged c =
    subst (λ flags. IsFlagged flags c.args.places.now.items) (sym c.requires.flags)
    (subst (IsFlagged (replicate (length c.args.buckets.now) false)) (sym c.requires.places)
    (flagged-start (length c.args.buckets.now)))

-- the policies of the bucket at a place
policies-at : (buckets : List Bucket) (at : ℕ) (bucket : Bucket) (policies : List Policy) → at < length buckets
    → bucket ≡ get_or buckets at bucket → policies ≡ bucket.policies → policies ≡ (bucket_at buckets at).policies
policies-at buckets at bucket policies lt is own =
    own
    ∙ ap (λ (bucket : Bucket). bucket.policies)
    (is ∙ get_or_default buckets at bucket (bucket_of [] (record { kind = 0; metadata = [] }) []) lt)

pub loop-next-init : goal.loop-next-init
loop-next-init c =
    let buckets = c.args.buckets.now in
    let own =
    policies-at buckets c.args.at c.index-buckets-at.result c.policies.result.now c.requires.there c.index-buckets-at.is
    c.policies.ensures in
    let is : c.add_links.new.places.items ≡ with_links buckets [] (bucket_at buckets c.args.at).policies =
    c.in_ok-add_links.ensures.places
    ∙ ap (λ list. with_links buckets list c.policies.result.now) c.requires.places
    ∙ ap (with_links buckets []) own in (
      c.in_ok-add_links.ensures.long,
      c.in_ok-add_links.ensures.flagged,
      subst (λ list. Follows buckets c.args.at list 0) (sym is) (Follows-start buckets c.args.at c.requires.there),
    )

pub loop-next-preserved : goal.loop-next-preserved
loop-next-preserved c =
    let buckets = c.args.buckets.now in
    let places = c.loop-next.places.items in
    let next = c.loop-next.next in
    let follows = c.loop-next.invariant.2 in
    let lt : next < length places = omega (arith, c.loop-next-test.true, c.len.ensures) in
    let place : c.index.result.now ≡ get_or places next 0 =
    c.index.ensures ∙ get_or_default places next c.index.result.now 0 lt in
    let there : c.index.result.now < length buckets =
    subst (λ at. at < length buckets) (sym place) (Follows-in_range buckets c.args.at places next follows lt) in
    let own : c.policies-in-loop-next.result.now ≡ (bucket_at buckets (get_or places next 0)).policies =
    policies-at buckets c.index.result.now c.index-buckets-index.result c.policies-in-loop-next.result.now there
    c.index-buckets-index.is c.policies-in-loop-next.ensures
    ∙ ap (λ at. (bucket_at buckets at).policies) place in
    let is : c.add_links-in-loop-next.new.places.items
    ≡ with_links buckets places (bucket_at buckets (get_or places next 0)).policies =
    c.in_ok-add_links-2.ensures.places ∙ ap (with_links buckets places) own in (
      c.in_ok-add_links-2.ensures.long,
      c.in_ok-add_links-2.ensures.flagged,
      subst (λ list. Follows buckets c.args.at list (next + 1)) (sym is)
          (Follows-more buckets c.args.at places next follows lt),
    )

-- what the bucket's flag says in the end
told : (flags : List Bool) (places : List ℕ) (at n : ℕ) (b : Bool) → length flags ≡ n → at < n
    → IsFlagged flags places
    → b ≡ flag flags at → has_place places at ≡ b
told flags places at n b long lt flagged is = sym (is ∙ flagged.tells at (omega (arith, long, lt)))

pub returns-clause-on : goal.returns-clause-on
returns-clause-on c = λ yes.
    let places = c.loop-next.places.items in
    let all : length places ≤ c.loop-next.next = omega (arith, c.loop-next-test.false, c.len.ensures) in
    Follows-on c.args.buckets.now c.requires.rise c.args.at c.requires.there places c.loop-next.next
    c.loop-next.invariant.2 all
    (told c.loop-next.flags places c.args.at (length c.args.buckets.now) c.is_set.result c.loop-next.invariant.0
    c.requires.there c.loop-next.invariant.1 c.is_set.ensures
    ∙ yes)

pub returns-clause-off : goal.returns-clause-off
returns-clause-off c = λ no.
    let places = c.loop-next.places.items in
    let all : length places ≤ c.loop-next.next = omega (arith, c.loop-next-test.false, c.len.ensures) in
    Follows-off c.args.buckets.now c.requires.rise c.args.at c.requires.there places c.loop-next.next
    c.loop-next.invariant.2 all
    (told c.loop-next.flags places c.args.at (length c.args.buckets.now) c.is_set.result c.loop-next.invariant.0
    c.requires.there c.loop-next.invariant.1 c.is_set.ensures
    ∙ no)
