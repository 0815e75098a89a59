use Rattle.bucket_store.proofs.AskedNumbers.{row-pushed}
use Rattle.bucket_store.proofs.key_rows.push_row.Goals as goal

pub returns : goal.returns
returns c =
    let policy = c.args.policy.now in
    row-pushed c.args.names.now c.asked_number.new.names c.asked_number-2.new.names c.asked_number-3.new.names
    c.args.filter.now policy c.args.columns.now c.push.new.self
    c.in_ok-client.client c.in_ok-user.user c.in_ok-privilege.privilege
    c.in_ok-client.ensures.next c.in_ok-user.ensures.next c.in_ok-privilege.ensures.next
    (c.in_ok-client.ensures.number policy.key.client c.client.ensures.reads_back)
    (c.in_ok-user.ensures.number policy.key.user c.user.ensures.reads_back)
    (c.in_ok-privilege.ensures.number policy.key.privilege c.privilege.ensures.reads_back)
    c.in_ok-push.ensures.pushed
