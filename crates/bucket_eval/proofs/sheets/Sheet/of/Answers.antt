use Rattle.std.proofs.Common.{◌+◌, ◌≤◌, ℕ, List, length, Bool, true, Option, Some, IfSome, ◌≡◌, sym, ap, ◌∙◌, subst, arith}
use Rattle.std.proofs.Math.ListN.{set}
use Rattle.cynara_keys.specs.PolicyResult.{Ruling}
use Rattle.cynara_keys.specs.declared.keys.Policy.{Policy}
use Rattle.bucket_eval.specs.parts.Numbers.{mark_of}
use Rattle.bucket_eval.specs.parts.Sheets.{IsShapedTo, drafted_in, places_by}
use Rattle.bucket_eval.proofs.Known.{length-policies}
use Rattle.bucket_eval.proofs.Tabling.{filed-none, filed-put, gaps-of, places-put, shaped-all, shaped-more, table-all, table-kept, table-more, table-none, numbers-more}
use Rattle.bucket_eval.proofs.sheets.Sheet.of.Goals as goal

if-made : (P : ℕ → Type 0) (o : Option ℕ) (x : ℕ) → IfSome o P → o ≡ Some x → P x
if-made P o x holds is = subst (λ o. IfSome o P) is holds

-- one policy more
pub loop-place-preserved : goal.loop-place-preserved
loop-place-preserved c =
    let policies = c.args.bucket.now.policies in
    let old : ℕ → Option _ = drafted_in c.loop-place.draft in
    let new : ℕ → Option _ = drafted_in c.put.new.self in
    let names = c.mark_of.new.names in
    record {
      kept = numbers-more c.args.names.now c.loop-place.names names c.loop-place.invariant.kept c.in_ok-made.ensures.kept;
      marked = table-more names policies (places_by old) (places_by new) c.in-Some.mark c.loop-place.place
          c.policy_at-policy.result.now c.policy_at-policy.ensures
          (if-made (λ one. mark_of names c.policy_at-policy.result.now.key ≡ Some one) c.in_ok-made.made c.in-Some.mark
          c.in_ok-made.ensures.is c.in-Some.is)
          (places-put old new c.in-Some.mark c.of-filed.result c.in_ok-put.ensures.filed c.loop-place.place
          c.of-filed.ensures.place)
          (table-kept c.loop-place.names names c.in_ok-made.ensures.kept policies (places_by old) c.loop-place.place
          c.loop-place.invariant.marked);
      filed = filed-put old new c.in-Some.mark c.of-filed.result c.in_ok-put.ensures.filed c.args.buckets.now policies
          c.loop-place.invariant.filed c.of-filed.ensures.filed;
      shaped = subst (λ (shapes : List Bool). IsShapedTo policies shapes (c.loop-place.place + 1))
          (sym (c.in_ok-put.ensures.shaped
          ∙ ap (λ shape. set c.loop-place.draft.shapes shape true) c.shape_of.ensures.shape))
          (shaped-more policies c.loop-place.draft.shapes c.loop-place.place c.policy_at-policy.result.now
          c.policy_at-policy.ensures c.loop-place.invariant.shaped);
    }

pub of-filed-requires-clause-few : goal.of-filed-requires-clause-few
of-filed-requires-clause-few c =
    let few = c.requires.kept.sound.policies in
    let some = length-policies c.args.buckets.now c.args.at c.args.bucket.now c.requires.bucket in
    let count = ap (λ (list : List Policy). length list) c.policies-place-end.ensures in
    omega (arith, few, some, count)

-- none yet
pub loop-place-init : goal.loop-place-init
loop-place-init c =
    let none = c.in_ok-draft.ensures in
    record {
      kept = λ text number is. is;
      marked = table-none _ c.args.bucket.now.policies (drafted_in c.in_ok-draft.draft) none;
      filed = filed-none c.args.buckets.now c.args.bucket.now.policies (drafted_in c.in_ok-draft.draft) none;
      shaped = λ place policy less. absurd (omega arith);
    }

-- all
pub returns-clause-sheet : goal.returns-clause-sheet
returns-clause-sheet c =
    let policies = c.args.bucket.now.policies in
    let count = ap (λ (list : List Policy). length list) c.policies-place-end.ensures in
    let last : length policies ≤ c.loop-place.place = omega (arith, count) in
    record {
      marked = table-all c.loop-place.names policies (places_by (drafted_in c.loop-place.draft)) c.loop-place.place last
          c.loop-place.invariant.marked;
      filed = c.loop-place.invariant.filed;
      gaps = gaps-of policies c.loop-place.draft.shapes c.next_of.result
          (shaped-all policies c.loop-place.draft.shapes c.loop-place.place last c.loop-place.invariant.shaped)
          c.next_of.ensures;
      fallback = c.kind.ensures ∙ ap (λ (ruling : Ruling). ruling.kind) c.fallback.ensures;
    }
