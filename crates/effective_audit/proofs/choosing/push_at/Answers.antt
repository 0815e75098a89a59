use Rattle.std.proofs.Common.{◌≤◌, ◌++◌, length, ap, sym, ◌∙◌, arith, append-nil}
use Rattle.std.specs.Option.{option_to_list}
use Rattle.std.proofs.lemmas.Option.{slice_get_past}
use Rattle.effective_audit.proofs.choosing.push_at.Goals as goal

pub returns-then-at-policies : goal.returns-then-at-policies
returns-then-at-policies c =
    let items = c.args.copies.now.items in
    let past : length c.args.policies.now ≤ c.args.at = omega arith in
    sym (append-nil items)
    ∙ ap (λ found. items ++ option_to_list found) (sym (slice_get_past c.args.policies.now c.args.at past))
