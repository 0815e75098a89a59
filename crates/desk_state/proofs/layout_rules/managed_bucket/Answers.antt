use Rattle.std.proofs.Common.{◌≡◌, Some, None, find, sym, ap, ◌∙◌}
use Rattle.std.specs.Option.{option_map}
use Rattle.bucket_store.specs.declared.policy_changes.Change.{Change}
use Rattle.desk_state.specs.Layout.{is_managed}
use Rattle.desk_state.specs.Rules.{changed_bucket}
use Rattle.desk_state.proofs.Finding.{find-map}
use Rattle.desk_state.proofs.layout_rules.managed_bucket.Goals as goal

pub returns-in-Some : goal.returns-in-Some
returns-in-Some c =
    let found : Some c.in-Some.change.now ≡ find (λ (change : Change). is_managed (changed_bucket change)) c.args.changes.now =
    c.in-Some.ensures in
    ap Some c.changed_bucket.ensures ∙ ap (option_map changed_bucket) found
    ∙ sym (find-map is_managed changed_bucket c.args.changes.now)

pub returns-in-None : goal.returns-in-None
returns-in-None c =
    let found : None ≡ find (λ (change : Change). is_managed (changed_bucket change)) c.args.changes.now = c.in-None.ensures in
    ap (option_map changed_bucket) found ∙ sym (find-map is_managed changed_bucket c.args.changes.now)
