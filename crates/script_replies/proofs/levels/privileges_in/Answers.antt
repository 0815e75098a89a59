use Rattle.std.proofs.Common.{◌≡◌, ◌++◌, ap, sym, ◌∙◌, rules}
use Rattle.std.specs.Option.{option_to_list}
use Rattle.cynara_keys.specs.Key.{Key}
use Rattle.policy_levels.specs.Levels.{exact_name}
use Rattle.script_replies.proofs.Naming.{names-more}
use Rattle.script_replies.proofs.levels.privileges_in.Goals as goal

pub loop-key-preserved : goal.loop-key-preserved
loop-key-preserved c =
    let key = c.key-item.result in
    let pushed : c.push_name.new.names.items
    ≡ c.loop-key.names.items ++ option_to_list (exact_name key.privilege) = search rules in
    pushed
    ∙ ap (λ names. names ++ option_to_list (exact_name key.privilege)) c.loop-key.invariant
    ∙ sym (names-more (λ (key : Key). exact_name key.privilege) c.args.keys.now c.loop-key.key-index key c.loop-key-test.true c.key-item.is)
