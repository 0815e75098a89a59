use Rattle.std.proofs.Common.{Ok, Err, sym, ap, ◌∙◌, rules}
use Rattle.std.proofs.lemmas.Fn.{always_returns_same}
use Rattle.smack_rules.specs.Table.{granted}
use Rattle.smack_rules.specs.parts.Order.{pair_cmp}
use Rattle.smack_rules.specs.parts.Pairs.{pair_of}
use Rattle.smack_rules.proofs.SortedPairs.{searched}
use Rattle.smack_rules.proofs.table.modes_at.Goals as goal

pub returns-in-Ok : goal.returns-in-Ok
returns-in-Ok c =
    let pairs = c.args.pairs.now in
    let asked = c.of-asked.result in
    let subject = c.of-asked.ensures.subject ∙ c.as_slice.ensures.value in
    let object = c.of-asked.ensures.object ∙ c.as_slice-2.ensures.value in
    let found =
    searched asked pairs (Ok c.in-Ok.place) c.requires c.in-Ok.ensures.bound
    (c.in-Ok.ensures.position (λ pair. pair_cmp (pair_of pair) asked)
    (always_returns_same _ _ _ (λ a r f called. search rules))) in
    sym (found c.index-pairs-place.result) ∙ ap (λ l. granted pairs l asked.object) subject
    ∙ ap (λ l. granted pairs c.args.subject.now l) object

pub returns-in-Err : goal.returns-in-Err
returns-in-Err c =
    let pairs = c.args.pairs.now in
    let asked = c.of-asked.result in
    let subject = c.of-asked.ensures.subject ∙ c.as_slice.ensures.value in
    let object = c.of-asked.ensures.object ∙ c.as_slice-2.ensures.value in
    let found =
    searched asked pairs (Err c.in-Err.field-0) c.requires c.in-Err.ensures.bound
    (c.in-Err.ensures.position (λ pair. pair_cmp (pair_of pair) asked)
    (always_returns_same _ _ _ (λ a r f called. search rules))) in
    sym found ∙ ap (λ l. granted pairs l asked.object) subject ∙ ap (λ l. granted pairs c.args.subject.now l) object
