use Rattle.std.proofs.Common.{rules}
use Rattle.std.proofs.lemmas.Iterator.{items_from_collect, YieldsList-from_map}
use Rattle.std.proofs.lemmas.Iterator.Consumers.{YieldsList-from_rest}
use Rattle.std.specs.BTreeMap.{keys}
use Rattle.agent_table.proofs.AgentKinds.{kinds_rise}
use Rattle.agent_table.proofs.waiting_numbers.kinds_of.Goals as goal

pub returns-clause-kinds : goal.returns-clause-kinds
returns-clause-kinds c =
    items_from_collect _ c.collect.ensures.ran
    (YieldsList-from_map _ _ (YieldsList-from_rest (keys c.args.queues.now) cc) c.map.ensures.closure
    (λ x r q k. search rules))

pub returns-clause-rising : goal.returns-clause-rising
returns-clause-rising c =
    kinds_rise c.collect.result (keys c.args.queues.now)
    (items_from_collect _ c.collect.ensures.ran
    (YieldsList-from_map _ _ (YieldsList-from_rest (keys c.args.queues.now) cc) c.map.ensures.closure
    (λ x r q k. search rules))) c.keys.ensures.ordered
