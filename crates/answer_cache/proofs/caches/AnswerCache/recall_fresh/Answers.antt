use Rattle.std.proofs.Common.{◌≡◌, ◌<◌, ◌≤◌, ℕ, Some, None, refl, sym, ap, ◌∙◌, subst}
use Rattle.std.specs.Option.{option_copied}
use Rattle.answer_cache.specs.Cache.{Asked, IsOfNames, key_text, Cache, answer_in, Recalls}
use Rattle.answer_cache.proofs.Held.{older}
use Rattle.answer_cache.proofs.Recalling.{at, seen, promoted_kept, not_found, recalls, fresh_one}
use Rattle.answer_cache.proofs.caches.AnswerCache.recall_fresh.Goals as goal

pub returns-in_default : goal.returns-in_default
returns-in_default c =
    let inside = c.self.inside in
    let key = c.args.text.now in (
      refl,
      subst (λ (cache : Cache). (asked : Asked) → IsOfNames asked → key ≡ key_text asked → answer_in asked cache ≡ None) c.self.view_is
          (not_found (λ key. key.items) key inside.told inside.held inside.held None (sym c.peek.ensures ∙ ap option_copied c.in_default.is) refl),
    )

pub returns-then-commit-self : goal.returns-then-commit-self
returns-then-commit-self c =
    let inside = c.self.inside in
    let key = c.args.text.now in
    let below : c.in-Some.verdict.now.commit < inside.told = subst (λ (n : ℕ). n < inside.told) c.commit.ensures c.if-commit-self.true in (
      refl,
      subst (λ (cache : Cache). (asked : Asked) → IsOfNames asked → key ≡ key_text asked → answer_in asked cache ≡ None) c.self.view_is
          (not_found (λ key. key.items) key inside.told inside.held inside.held (Some c.in-Some.verdict.now)
          (sym c.peek.ensures ∙ ap option_copied c.in-Some.is) (older inside.told c.in-Some.verdict.now below)),
    )

pub invariant_of-self : goal.invariant_of-self
invariant_of-self c =
    let inside = c.self.inside in
    promoted_kept (λ key. key.items) (at (λ key. key.items) c.args.text.now inside.told inside.held c.promote.new.self) inside.least
    inside.held.entries c.promote.new.self.entries c.self.invariant (ap (λ held. held.entries) c.promote.ensures.entries)

pub returns : goal.returns
returns c =
    let inside = c.self.inside in
    let key = c.args.text.now in
    let new = c.promote.new.self in
    let up : inside.told ≤ c.in-Some.verdict.now.commit = subst (λ (n : ℕ). inside.told ≤ n) c.commit.ensures c.if-commit-self.false in
    subst (λ (cache : Cache). Recalls c.promote.result key cache (seen (λ key. key.items) key inside.told inside.held new new)) c.self.view_is
    (recalls (λ key. key.items) key inside.told inside.held new inside.least c.self.invariant c.promote.ensures.entries
    c.promote.result c.promote.ensures.value
    (fresh_one (λ key. key.items) key inside.told inside.held new inside.least c.self.invariant c.promote.ensures.entries
    c.in-Some.verdict.now (sym c.peek.ensures ∙ ap option_copied c.in-Some.is) up))
