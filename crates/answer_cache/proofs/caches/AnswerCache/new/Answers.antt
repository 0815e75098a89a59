use Rattle.std.proofs.Common.{ap}
use Rattle.answer_cache.proofs.Recalling.{none_kept}
use Rattle.answer_cache.proofs.caches.AnswerCache.new.Goals as goal

pub invariant_of-result : goal.invariant_of-result
invariant_of-result c = none_kept (λ key. key.items) 18446744073709551615 c.in_ok-with_hasher.field-0.entries (ap (λ held. held.entries) c.in_ok-with_hasher.ensures)
