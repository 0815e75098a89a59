use Rattle.std.proofs.Common.{◌≡◌, Some, sym, ap, ◌∙◌, subst}
use Rattle.std.specs.Option.{option_map}
use Rattle.std.specs.Map.Iter.{deref_pair}
use Rattle.answer_cache.specs.Cache.{Cache, newest}
use Rattle.answer_cache.proofs.Recalling.{first_seen}
use Rattle.answer_cache.proofs.caches.AnswerCache.newest.Goals as goal

pub returns : goal.returns
returns c =
    let first = first_seen (λ key. key.items) c.self.inside.held.entries _ (sym c.peek_mru.ensures ∙ ap (option_map deref_pair) c.in-Some.is) in
    subst (λ (cache : Cache). Some c.in-Some.verdict.now ≡ newest cache) c.self.view_is (sym first)
