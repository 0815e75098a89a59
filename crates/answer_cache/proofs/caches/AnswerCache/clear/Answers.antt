use Rattle.std.proofs.Common.{ap}
use Rattle.answer_cache.proofs.Recalling.{none_kept}
use Rattle.answer_cache.proofs.caches.AnswerCache.clear.Goals as goal

pub invariant_of-self : goal.invariant_of-self
invariant_of-self c = none_kept (λ key. key.items) 18446744073709551615 c.clear.new.self.entries (ap (λ held. held.entries) c.clear.ensures)
