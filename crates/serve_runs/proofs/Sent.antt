-- A worker of the pool may go to another thread, with its seat, what it does beside, and its door.
use denote.RattleType.{RattleType}
use denote.Param.Send.{IsSend, IsSync, sendable}
use denote.Param.SendFields.{as_row_send, as_row_sync}
use mir.Syntax.{given}
use Rattle.core.proofs.sync.Sent.{Mutex-sync}
use Rattle.core.specs.contracts.sync.Mutex as Mutex
use Rattle.std.proofs.Crossing.{crosses}
use Rattle.std.proofs.MapsCrossing as maps
use Rattle.state_list.specs.declared.rules.Naming.{Ghosts}
use Rattle.state_list.specs.contracts.rules.Events as Events
use Rattle.link_ports.specs.declared.links.HangEnd.{Ghosts as Ends}
use Rattle.live_roll.specs.contracts.rolls.Roll as Roll
use Rattle.live_roll.proofs.Sent.{roll_row_send}
use Rattle.live_desk.specs.contracts.seats.Seat as Seat
use Rattle.live_desk.proofs.Sent as live
use Rattle.check_monitor.specs.contracts.alarms.Alarm as Alarm
use Rattle.server_hall.specs.contracts.locked.QuestionDesk as QuestionDesk
use Rattle.serve_runs.specs.contracts.musters.Muster as Muster
use Rattle.serve_runs.specs.contracts.pools.Station as Station
use Rattle.serve_runs.specs.contracts.pools.Worker as Worker

module _ (J : RattleType) (naming : Ghosts J.Denot) where
  seat_send : (events : Ghosts (Events.the_row J).Denot) → IsSend J → IsSync J
      → IsSend (Seat.the_field J naming events).row
  seat_send events send sync = live.seat_send J naming (given 0) events send sync

module _ (J X : RattleType) (naming : Ghosts J.Denot) where
  station_send : IsSend J → IsSync J → IsSend X → IsSend (Station.the_field J X naming).row
  station_send send sync handler = search (sendable, crosses, seat_send) depth 40

module _ (J D X : RattleType) (naming : Ghosts J.Denot) where
  worker_send : IsSend J → IsSync J → IsSend D → IsSend X → IsSend (Worker.the_field J D X naming).row
  worker_send send sync door handler = search (sendable, crosses, station_send) depth 40

  -- where its door may, and what it does beside
  pub worker_row_send : IsSend J → IsSync J → IsSend D → IsSend X → IsSend (Worker.the_row J D X naming)
  worker_row_send send sync door handler =
      as_row_send (Worker.the_field J D X naming) (worker_send send sync door handler)

-- What each worker is lent: the lock of the registry, where its ends and the name of its log may go to another thread; and the rest.
module _ (H J : RattleType) (end : Ends H.Denot) (naming : Ghosts J.Denot) (events : Ghosts (Events.the_row J).Denot) where
  pub roll_lock_sync : IsSend H → IsSend J → IsSync (Mutex.the_row (Roll.the_row H J events end naming))
  roll_lock_sync held send = Mutex-sync (Roll.the_row H J events end naming) (roll_row_send H J end naming events held send)

pub questions_sync : IsSync QuestionDesk.the_row
questions_sync = search (sendable, crosses, maps.crosses) depth 40

pub muster_sync : IsSync Muster.the_row
muster_sync = search (sendable, crosses) depth 40

pub alarm_sync : IsSync Alarm.the_row
alarm_sync = search (sendable, crosses) depth 40
