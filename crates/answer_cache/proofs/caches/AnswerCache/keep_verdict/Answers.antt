use Rattle.std.proofs.Common.{◌≤◌, ℕ, ◌∙◌, sym, ap, subst}
use Rattle.bucket_eval.specs.declared.answers.Verdict.{Verdict}
use Rattle.answer_cache.specs.Cache.{asked_in, kept, without}
use Rattle.answer_cache.specs.parts.Keys.{entries_of}
use Rattle.answer_cache.proofs.Held.{removed-held, kept-held, same_keys}
use Rattle.answer_cache.proofs.Recalling.{at, removed_kept, lower_kept, put_kept}
use Rattle.answer_cache.proofs.caches.AnswerCache.keep_verdict.Goals as goal

pub returns-in_default-clause-unkept : goal.returns-in_default-clause-unkept
returns-in_default-clause-unkept c =
    let asked = asked_in c.args.session.now c.args.question.now in
    let inside = c.self.inside in
    let named = c.key_of-key.ensures in
    let after = c.pop.ensures.entries in
    let entries = ap (λ held. entries_of (λ key. key.items) held.entries) after
    ∙ removed-held (λ key. key.items) asked named.session named.names c.as_slice.result.now (c.as_slice.ensures.value ∙ named.text) inside.held.entries in
    (λ i. record { entries = entries i; most = (after i).cap; told = inside.told }) ∙ ap (without asked) c.self.view_is

pub returns-in_default-pack-clause-unkept : goal.returns-in_default-pack-clause-unkept
returns-in_default-pack-clause-unkept c =
    let asked = asked_in c.args.session.now c.args.question.now in
    let inside = c.self.inside in
    let named = c.key_of-key.ensures in
    let after = c.pop.ensures.entries in
    let entries = ap (λ held. entries_of (λ key. key.items) held.entries) after
    ∙ removed-held (λ key. key.items) asked named.session named.names c.as_slice.result.now (c.as_slice.ensures.value ∙ named.text) inside.held.entries in
    (λ i. record { entries = entries i; most = (after i).cap; told = inside.told }) ∙ ap (without asked) c.self.view_is

pub returns-in_default-put-clause-unkept : goal.returns-in_default-put-clause-unkept
returns-in_default-put-clause-unkept c =
    let asked = asked_in c.args.session.now c.args.question.now in
    let inside = c.self.inside in
    let named = c.key_of-key.ensures in
    let after = c.in_default-put.ensures.err ∙ c.pop.ensures.entries in
    let entries = ap (λ held. entries_of (λ key. key.items) held.entries) after
    ∙ removed-held (λ key. key.items) asked named.session named.names c.as_slice.result.now (c.as_slice.ensures.value ∙ named.text) inside.held.entries in
    (λ i. record { entries = entries i; most = (after i).cap; told = inside.told }) ∙ ap (without asked) c.self.view_is

pub returns-clause-kept : goal.returns-clause-kept
returns-clause-kept c =
    let asked = asked_in c.args.session.now c.args.question.now in
    let inside = c.self.inside in
    let named = c.key_of-key.ensures in
    let after = kept-held (λ key. key.items) asked named.session named.names c.as_slice.result.now (c.as_slice.ensures.value ∙ named.text)
    inside.held c.pop.new.self c.put.new.self c.in-Ok.key c.in-Ok-pack.packed
    (c.in-Ok.ensures.items ∙ (c.as_slice-2.ensures.value ∙ sym c.as_slice.ensures.value))
    c.len-count.ensures.valid.0 c.pop.ensures.entries c.in-Ok-put.ensures.entries in
    (λ i. record { entries = after.0 i; most = after.1 i; told = inside.told })
    ∙ (ap (kept asked c.in-Ok-pack.packed) c.self.view_is ∙ ap (λ (v : Verdict). kept asked v c.args.self.now) c.in-Ok-pack.ensures)

pub invariant_of-self : goal.invariant_of-self
invariant_of-self c =
    let inside = c.self.inside in
    removed_kept (λ key. key.items) (at (λ key. key.items) c.as_slice.result.now inside.told inside.held c.pop.new.self) inside.least
    inside.held.entries c.pop.new.self.entries c.self.invariant (ap (λ held. held.entries) c.pop.ensures.entries)

pub invariant_of-self-in_default-pack : goal.invariant_of-self-in_default-pack
invariant_of-self-in_default-pack c =
    let inside = c.self.inside in
    removed_kept (λ key. key.items) (at (λ key. key.items) c.as_slice.result.now inside.told inside.held c.pop.new.self) inside.least
    inside.held.entries c.pop.new.self.entries c.self.invariant (ap (λ held. held.entries) c.pop.ensures.entries)

pub invariant_of-self-in_default-put : goal.invariant_of-self-in_default-put
invariant_of-self-in_default-put c =
    let inside = c.self.inside in
    lower_kept (λ key. key.items) inside.least c.lower-self-inside.result c.put.new.self.entries c.lower-self-inside.ensures.first
    (removed_kept (λ key. key.items) (at (λ key. key.items) c.as_slice.result.now inside.told inside.held c.put.new.self) inside.least
    inside.held.entries c.put.new.self.entries c.self.invariant
    (ap (λ held. held.entries) (c.in_default-put.ensures.err ∙ c.pop.ensures.entries)))

pub invariant_of-self-2 : goal.invariant_of-self-2
invariant_of-self-2 c =
    let inside = c.self.inside in
    let named = c.key_of-key.ensures in
    let popped = removed_kept (λ key. key.items) (at (λ key. key.items) c.as_slice.result.now inside.told inside.held c.pop.new.self) inside.least
    inside.held.entries c.pop.new.self.entries c.self.invariant (ap (λ held. held.entries) c.pop.ensures.entries) in
    put_kept (λ key. key.items) (same_keys (λ key. key.items)) c.pop.new.self c.in-Ok.key c.in-Ok-pack.packed c.lower-self-inside.result
    c.put.new.self.entries
    (lower_kept (λ key. key.items) inside.least c.lower-self-inside.result c.pop.new.self.entries c.lower-self-inside.ensures.first popped) (
      asked_in c.args.session.now c.args.question.now,
      record { session = named.session; question = named.names },
      c.in-Ok.ensures.items ∙ (c.as_slice-2.ensures.value ∙ named.text),
    )
    (subst (λ (v : Verdict). c.lower-self-inside.result ≤ v.commit) (sym c.in-Ok-pack.ensures) c.lower-self-inside.ensures.second)
    (ap (λ held. held.entries) c.in-Ok-put.ensures.entries)
