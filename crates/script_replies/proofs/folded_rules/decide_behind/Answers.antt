use Rattle.std.proofs.Common.{ap, sym, ◌∙◌}
use Rattle.smack_rules.specs.Modes.{union, no_access}
use Rattle.smack_rules.specs.Effective.{effective}
use Rattle.smack_rules.specs.Decision.{decision}
use Rattle.smack_rules.proofs.RuleLists.{effective_from-append}
use Rattle.script_replies.proofs.Plain.{effective-plain, hat-plain, floor-plain}
use Rattle.script_replies.proofs.folded_rules.decide_behind.Goals as goal

pub decide_with-requires-clause-hat : goal.decide_with-requires-clause-hat
decide_with-requires-clause-hat c = λ hat.
    c.effective_of-more.ensures
    ∙ hat-plain c.args.subject.now c.args.object.now c.args.given.now c.requires.plain hat

pub decide_with-requires-clause-floor : goal.decide_with-requires-clause-floor
decide_with-requires-clause-floor c = λ floor.
    c.effective_of-more.ensures
    ∙ floor-plain c.args.subject.now c.args.object.now c.args.given.now c.requires.plain floor

pub returns : goal.returns
returns c = λ rules grants.
    let s = c.args.subject.now in
    let o = c.args.object.now in
    c.decide_with.ensures
    ∙ ap (decision s o c.args.asked)
    ((λ i. union (grants s o i) (c.effective_of-more.ensures i))
    ∙ sym (effective_from-append no_access rules c.args.given.now s o
    ∙ effective-plain (effective rules s o) c.args.given.now s o c.requires.plain))
