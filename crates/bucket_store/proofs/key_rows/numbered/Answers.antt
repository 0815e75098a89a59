use Rattle.std.proofs.Common.{◌≡◌, ◌+◌, ◌++◌, ◌∷◌, [], take, length, ap, sym, ◌∙◌, arith, length-append}
use Rattle.std.proofs.lemmas.List.{take_more}
use Rattle.bucket_store.proofs.AskedNumbers.{rows-pushed}
use Rattle.bucket_store.proofs.key_rows.numbered.Goals as goal

pub loop-policy-preserved : goal.loop-policy-preserved
loop-policy-preserved c =
    let i = c.loop-policy.policy-index in
    let policies = c.args.policies.now in
    let policy = c.policy-item.result in
    let pushed = c.in_ok-push_row.ensures in
    let next : take (i + 1) policies ≡ take i policies ++ policy ∷ [] =
    take_more policies i policy c.loop-policy-test.true ∙ ap (λ p. take i policies ++ p ∷ []) (sym c.policy-item.is) in
    record {
      rows =
          rows-pushed c.loop-policy.names c.push_row.new.names c.args.filter.now (take i policies) (take (i + 1) policies)
          policy c.loop-policy.columns c.push_row.new.columns next pushed c.loop-policy.invariant.rows;
      count = omega (
        arith,
        ap length pushed.pushed,
        length-append c.loop-policy.columns (pushed.row ∷ []),
        c.loop-policy.invariant.count,
      );
      few = omega (
        arith,
        ap length pushed.names,
        length-append c.loop-policy.names pushed.more,
        pushed.at_most_three,
        c.loop-policy.invariant.few,
      );
    }
