use Rattle.std.proofs.Common.{sym, ◌∙◌}
use Rattle.std.proofs.lemmas.List.{take_rest}
use Rattle.bucket_eval.proofs.Outside.{outside-some, outside-none}
use Rattle.bucket_eval.proofs.windows.window_of_client.Goals as goal

pub returns-in-Some-clause-outside : goal.returns-in-Some-clause-outside
returns-in-Some-clause-outside c =
    let policies = c.args.policies.now in
    let start = c.count_before-start.result in
    let found = sym c.first_of_another.ensures ∙ c.in-Some.is in
    outside-some c.args.client.now policies c.requires start c.count_before-start.ensures.parted c.min.result c.in-Some.count
    (rw (take_rest policies start) at found)

pub returns-in-None-clause-outside : goal.returns-in-None-clause-outside
returns-in-None-clause-outside c =
    outside-none c.args.client.now c.args.policies.now c.requires c.count_before-start.result
    c.count_before-start.ensures.parted
