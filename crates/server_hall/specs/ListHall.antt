-- A hall in memory, as contracts see it.
use Rattle.std.specs.Prelude.{◌≡◌, List, [], Option, Some}
use Rattle.live_roll.specs.Roll.{RollState}
use Rattle.agent_table.specs.Table.{Table, fresh}
use Rattle.server_hall.specs.Tally.{Tally, no_calls}
use Rattle.server_hall.specs.declared.calls.HallCall.{HallCall}
use Rattle.server_hall.specs.declared.list_answers.HallAnswer.{HallAnswer}

-- the answers that are left, the last one to come first; its table, of which `service` tells; its roll; what it counts;
-- and its calls, until its answers are used up
pub record HeldHall (H : Type 0) : Type 0 where
  pub left : List HallAnswer
  pub table : Table
  pub roll : RollState H
  pub tally : Tally
  pub calls : Option (List HallCall)

-- a hall with this roll and a table with no agent, on which no call was made
pub record IsNewHall {H : Type 0} (roll : RollState H) (hall : HeldHall H) : Type 0 where
  pub table_is : hall.table ≡ fresh
  pub roll_is : hall.roll ≡ roll
  pub tally_is : hall.tally ≡ no_calls
  pub calls_is : hall.calls ≡ Some []
