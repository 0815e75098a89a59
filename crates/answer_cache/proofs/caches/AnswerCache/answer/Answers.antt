use Rattle.std.proofs.Common.{◌≡◌, ◌<◌, ◌≤◌, ◌∙◌, Some, None, sym, ap, subst}
use Rattle.bucket_eval.specs.declared.answers.Verdict.{Verdict}
use Rattle.std.specs.Option.{option_copied}
use Rattle.answer_cache.specs.Cache.{Cache, asked_in, answer_in, if_not_older, used}
use Rattle.answer_cache.specs.parts.Keys.{entries_of}
use Rattle.answer_cache.proofs.Recalling.{at, promoted_kept}
use Rattle.answer_cache.proofs.Held.{older, not_older, lookup-held, promoted-held}
use Rattle.answer_cache.proofs.caches.AnswerCache.answer.Goals as goal

pub returns-in_default-clause-answer : goal.returns-in_default-clause-answer
returns-in_default-clause-answer c =
    let asked = asked_in c.args.session.now c.args.question.now in
    let held = c.self.inside.held.entries in
    let named = c.key_of-key.ensures in
    let seen = lookup-held (λ key. key.items) asked named.session named.names c.as_slice.result.now (c.as_slice.ensures.value ∙ named.text) held in
    subst (λ (cache : Cache). None ≡ answer_in asked cache) c.self.view_is
    (sym (ap (if_not_older c.self.inside.told) (sym seen ∙ (sym c.peek.ensures ∙ ap option_copied c.in_default.is))))

pub returns-then-verdict-self-clause-answer : goal.returns-then-verdict-self-clause-answer
returns-then-verdict-self-clause-answer c =
    let asked = asked_in c.args.session.now c.args.question.now in
    let held = c.self.inside.held.entries in
    let named = c.key_of-key.ensures in
    let seen = lookup-held (λ key. key.items) asked named.session named.names c.as_slice.result.now (c.as_slice.ensures.value ∙ named.text) held in
    subst (λ (cache : Cache). None ≡ answer_in asked cache) c.self.view_is
    (sym (ap (if_not_older c.self.inside.told) (sym seen ∙ (sym c.peek.ensures ∙ ap option_copied c.in-Some.is))
    ∙ older c.self.inside.told c.in-Some.held.now
    (subst (λ (v : Verdict). v.commit < c.self.inside.told) c.verdict-verdict.ensures c.if-verdict-self.true)))

pub returns-clause-answer : goal.returns-clause-answer
returns-clause-answer c =
    let asked = asked_in c.args.session.now c.args.question.now in
    let held = c.self.inside.held.entries in
    let named = c.key_of-key.ensures in
    let seen = lookup-held (λ key. key.items) asked named.session named.names c.as_slice.result.now (c.as_slice.ensures.value ∙ named.text) held in
    let up = subst (λ (v : Verdict). c.self.inside.told ≤ v.commit) c.verdict-verdict.ensures c.if-verdict-self.false in
    ap (λ (v : Verdict). Some v) c.verdict-verdict.ensures
    ∙ subst (λ (cache : Cache). Some c.in-Some.held.now ≡ answer_in asked cache) c.self.view_is
    (sym (ap (if_not_older c.self.inside.told) (sym seen ∙ (sym c.peek.ensures ∙ ap option_copied c.in-Some.is))
    ∙ not_older c.self.inside.told c.in-Some.held.now up))

pub returns-clause-first : goal.returns-clause-first
returns-clause-first c =
    let asked = asked_in c.args.session.now c.args.question.now in
    let inside = c.self.inside in
    let named = c.key_of-key.ensures in
    let after = c.promote.ensures.entries in
    let entries = ap (λ held. entries_of (λ key. key.items) held.entries) after
    ∙ promoted-held (λ key. key.items) asked named.session named.names c.as_slice-2.result.now (c.as_slice-2.ensures.value ∙ named.text) inside.held.entries in
    (λ i. record { entries = entries i; most = (after i).cap; told = inside.told }) ∙ ap (used asked) c.self.view_is

pub invariant_of-self : goal.invariant_of-self
invariant_of-self c =
    let inside = c.self.inside in
    promoted_kept (λ key. key.items) (at (λ key. key.items) c.as_slice-2.result.now inside.told inside.held c.promote.new.self) inside.least
    inside.held.entries c.promote.new.self.entries c.self.invariant (ap (λ held. held.entries) c.promote.ensures.entries)
