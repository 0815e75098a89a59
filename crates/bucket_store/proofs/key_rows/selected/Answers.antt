use Rattle.std.proofs.Common.{◌∷◌, ◌++◌, [], ap, sym, ◌∙◌}
use Rattle.lane_scan.specs.Rows.{numbers_from}
use Rattle.lane_scan.specs.Asked.{selects}
use Rattle.bucket_store.proofs.AskedNumbers.{selected-numbers, no-client, no-user, no-privilege}
use Rattle.bucket_store.proofs.key_rows.selected.Goals as goal

pub returns-in_default : goal.returns-in_default
returns-in_default c policies all =
    c.new-rows.ensures.items
    ∙ no-client c.args.names.now c.args.filter.now policies c.args.columns.now all (sym c.wanted.ensures ∙ c.in_default.is)

pub returns-in_default-wanted : goal.returns-in_default-wanted
returns-in_default-wanted c policies all =
    c.new-rows.ensures.items
    ∙ no-user c.args.names.now c.args.filter.now policies c.args.columns.now all
    (sym c.wanted-2.ensures ∙ c.in_default-wanted.is)

pub returns-in_default-wanted-2 : goal.returns-in_default-wanted-2
returns-in_default-wanted-2 c policies all =
    c.new-rows.ensures.items
    ∙ no-privilege c.args.names.now c.args.filter.now policies c.args.columns.now all
    (sym c.wanted-3.ensures ∙ c.in_default-wanted-2.is)

pub returns : goal.returns
returns c policies all =
    let client = c.in-Some.client in
    let user = c.in-Some-wanted.user in
    let privilege = c.in-Some-wanted-2.privilege in
    c.in_ok-select.ensures.selected
    ∙ ap (λ found. found ++ numbers_from 0 (selects (client ∷ user ∷ privilege ∷ [])) c.args.columns.now) c.new-rows.ensures.items
    ∙ selected-numbers c.args.names.now c.args.filter.now client user privilege
    (sym c.wanted.ensures ∙ c.in-Some.is) (sym c.wanted-2.ensures ∙ c.in-Some-wanted.is)
    (sym c.wanted-3.ensures ∙ c.in-Some-wanted-2.is) 0 policies c.args.columns.now all
