use Rattle.std.proofs.Common.{get_or}
use Rattle.std.proofs.lemmas.List.Folds.{list_any_at}
use Rattle.cynara_keys.specs.Text.{same_text}
use Rattle.cynara_keys.proofs.Order.{≡-same_text}
use Rattle.effective_audit.proofs.audits.append_allowed.Goals as goal

-- each of the privileges is one of them
pub is_allowed-requires-clause-known : goal.is_allowed-requires-clause-known
is_allowed-requires-clause-known c =
    let privilege = c.privilege-item.result in
    let at = c.loop-privilege.privilege-index in
    list_any_at (same_text privilege) c.args.privileges.now at privilege c.loop-privilege-test.true
    (≡-same_text privilege (get_or c.args.privileges.now at privilege) c.privilege-item.is)
