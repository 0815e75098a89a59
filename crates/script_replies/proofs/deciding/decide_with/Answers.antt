use Rattle.std.proofs.Common.{◌≡◌, IsTrue, sym, ap, subst, ◌∙◌}
use Rattle.smack_rules.specs.declared.modes.Modes.{Modes}
use Rattle.smack_rules.specs.declared.decision.Decision.{Decision}
use Rattle.smack_rules.specs.Decision.{decision, with_lock}
use Rattle.smack_rules.specs.Modes.{without, is_empty, is_request}
use Rattle.smack_rules.specs.Table.{granted}
use Rattle.script_replies.proofs.Behind.{decided-kept, decided-all, decided-left, request-left}
use Rattle.script_replies.proofs.deciding.decide_with.Goals as goal

pub returns-then-decision-ne7 : goal.returns-then-decision-ne7
returns-then-decision-ne7 c =
    let s = c.args.subject.now in
    let o = c.args.object.now in
    let b = granted c.args.table.now s o in
    c.decide-decision.ensures.decided
    ∙ decided-kept s o c.args.asked b c.args.more
    (λ is. c.if-decision-ne7.true (ap (λ (decided : Decision). decided.rule) c.decide-decision.ensures.decided ∙ is))

pub returns-then-is_empty : goal.returns-then-is_empty
returns-then-is_empty c =
    let s = c.args.subject.now in
    let o = c.args.object.now in
    let b = granted c.args.table.now s o in
    let last = ap (λ (decided : Decision). decided.rule) (sym c.decide-decision.ensures.decided)
    ∙ c.if-decision-ne7.false in
    let missing : c.without-missing.result ≡ without c.args.asked (with_lock c.args.more) =
    c.without-missing.ensures ∙ ap (without c.args.asked) c.with_lock.ensures in
    sym (decided-all s o c.args.asked b c.args.more last
    (ap is_empty (sym missing) ∙ (sym c.is_empty.ensures ∙ c.if-is_empty.true)))

-- what is left is a request
pub decide-requires : goal.decide-requires
decide-requires c =
    let missing : c.without-missing.result ≡ without c.args.asked (with_lock c.args.more) =
    c.without-missing.ensures ∙ ap (without c.args.asked) c.with_lock.ensures in
    subst (λ (missing : Modes). IsTrue (is_request missing)) (sym missing)
    (request-left c.args.asked (with_lock c.args.more) c.requires.request
    (ap is_empty (sym missing) ∙ (sym c.is_empty.ensures ∙ c.if-is_empty.false)))

pub returns : goal.returns
returns c =
    let s = c.args.subject.now in
    let o = c.args.object.now in
    let b = granted c.args.table.now s o in
    let last = ap (λ (decided : Decision). decided.rule) (sym c.decide-decision.ensures.decided)
    ∙ c.if-decision-ne7.false in
    let missing : c.without-missing.result ≡ without c.args.asked (with_lock c.args.more) =
    c.without-missing.ensures ∙ ap (without c.args.asked) c.with_lock.ensures in
    c.decide.ensures.decided
    ∙ ap (λ (missing : Modes). decision s o missing b) missing
    ∙ decided-left s o c.args.asked b c.args.more last c.requires.hat c.requires.floor
