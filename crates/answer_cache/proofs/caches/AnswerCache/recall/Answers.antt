use Rattle.std.proofs.Common.{ap, subst}
use Rattle.answer_cache.specs.Cache.{Cache, Recalls}
use Rattle.answer_cache.proofs.Recalling.{at, seen, promoted_kept, recalls, fresh_all}
use Rattle.answer_cache.proofs.caches.AnswerCache.recall.Goals as goal

pub invariant_of-self : goal.invariant_of-self
invariant_of-self c =
    let inside = c.self.inside in
    promoted_kept (λ key. key.items) (at (λ key. key.items) c.args.text.now inside.told inside.held c.promote.new.self) inside.least
    inside.held.entries c.promote.new.self.entries c.self.invariant (ap (λ held. held.entries) c.promote.ensures.entries)

pub returns : goal.returns
returns c =
    let inside = c.self.inside in
    let key = c.args.text.now in
    let new = c.promote.new.self in
    subst (λ (cache : Cache). Recalls c.promote.result key cache (seen (λ key. key.items) key inside.told inside.held new new)) c.self.view_is
    (recalls (λ key. key.items) key inside.told inside.held new inside.least c.self.invariant c.promote.ensures.entries
    c.promote.result c.promote.ensures.value
    (fresh_all (λ key. key.items) key inside.told inside.held new inside.least c.self.invariant c.promote.ensures.entries c.if-self.false))
