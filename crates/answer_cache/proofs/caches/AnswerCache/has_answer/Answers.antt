use Rattle.std.proofs.Common.{◌∙◌}
use Rattle.answer_cache.specs.Cache.{asked_in}
use Rattle.answer_cache.proofs.Recalling.{recalled, moved, unmoved}
use Rattle.answer_cache.proofs.caches.AnswerCache.has_answer.Goals as goal

pub returns-clause-answer : goal.returns-clause-answer
returns-clause-answer c =
    let named = c.key_of-key.ensures in
    recalled c.as_slice.result.now c.args.self.now c.recall.new.self (asked_in c.args.session.now c.args.question.now)
    (record { session = named.session; question = named.names }) (c.as_slice.ensures.value ∙ named.text) c.recall.result c.recall.ensures

pub returns-clause-first : goal.returns-clause-first
returns-clause-first c =
    let named = c.key_of-key.ensures in
    moved c.as_slice.result.now c.args.self.now c.recall.new.self (asked_in c.args.session.now c.args.question.now)
    (record { session = named.session; question = named.names }) (c.as_slice.ensures.value ∙ named.text) c.recall.result c.recall.ensures

pub returns-clause-same : goal.returns-clause-same
returns-clause-same c = unmoved c.as_slice.result.now c.args.self.now c.recall.new.self c.recall.result c.recall.ensures
