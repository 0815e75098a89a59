-- What a service tells of itself: the agents that are there, and the workers of clients.
use Rattle.std.specs.Prelude.{ℕ, List}
use Rattle.cynara_keys.specs.declared.results.Kind.{Kind}
use Rattle.agent_table.specs.Table.{Table, kinds_of}
use Rattle.live_roll.specs.Roll.{RollState}
use Rattle.live_roll.specs.Places.{count_served}
use Rattle.server_hall.specs.declared.views.ServiceView.{ServiceView}

-- the kinds that have an agent, how many workers serve clients, and how many of them serve one now
pub record ServiceTold : Type 0 where
  pub kinds : List Kind
  pub workers : ℕ
  pub served : ℕ

-- what a view tells
abbrev pub told_by : ServiceView → ServiceTold
told_by view = record { kinds = view.kinds.items; workers = view.workers; served = view.served }

-- what there is to tell of a table and a roll
abbrev pub service_of : {H : Type 0} → Table → RollState H → ServiceTold
service_of table roll =
    record { kinds = kinds_of table.agents; workers = roll.workers; served = count_served roll.places }
