use Rattle.std.proofs.Common.{◌≡◌, ◌++◌, ap, sym, ◌∙◌, rules}
use Rattle.std.specs.Option.{option_to_list}
use Rattle.policy_levels.specs.Levels.{row_in}
use Rattle.policy_levels.proofs.Listing.{levels-more}
use Rattle.policy_levels.proofs.rows.levels_among.Goals as goal

pub loop-policy-preserved : goal.loop-policy-preserved
loop-policy-preserved c =
    let policy = c.policy-item.result in
    let pushed : c.push_row.new.rows.items ≡ c.loop-policy.rows.items ++ option_to_list (row_in policy) = search rules in
    pushed
    ∙ ap (λ rows. rows ++ option_to_list (row_in policy)) c.loop-policy.invariant
    ∙ sym (levels-more c.args.policies.now c.loop-policy.policy-index policy c.loop-policy-test.true c.policy-item.is)
