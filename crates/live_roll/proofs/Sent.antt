-- A roll may go to another thread where its ends may, and the name of its log.
use denote.RattleType.{RattleType}
use denote.Param.Send.{IsSend, sendable}
use denote.Param.SendFields.{as_row_send}
use Rattle.std.proofs.Crossing.{crosses}
use Rattle.link_ports.specs.declared.links.HangEnd.{Ghosts as Ends}
use Rattle.state_list.specs.declared.rules.Naming.{Ghosts}
use Rattle.state_list.specs.contracts.rules.Events as Events
use Rattle.state_list.specs.contracts.fronts.Front as Front
use Rattle.state_list.specs.contracts.words.Book as Book
use Rattle.state_list.proofs.Sent.{front_send, book_send, events_send}
use Rattle.live_roll.specs.contracts.events.Event as Event
use Rattle.live_roll.specs.contracts.rolls.Roll as Roll

module _ (J : RattleType) (events : Ghosts (Events.the_row J).Denot) where
  -- what a thread knows of the log
  pub log_send : IsSend J → IsSend (Front.the_field Event.the_row (Events.the_row J) events).row
  log_send send = front_send Event.the_row (Events.the_row J) events (events_send J send)

  log_book_send : IsSend J → IsSend (Book.the_field Event.the_row (Events.the_row J) events).row
  log_book_send send = book_send Event.the_row (Events.the_row J) events (events_send J send)

module _ (H J : RattleType) (end : Ends H.Denot) (naming : Ghosts J.Denot) (events : Ghosts (Events.the_row J).Denot) where
  pub roll_send : IsSend H → IsSend J → IsSend (Roll.the_field H J events end naming).row
  roll_send held send = search (sendable, crosses, log_send, log_book_send) depth 40

  pub roll_row_send : IsSend H → IsSend J → IsSend (Roll.the_row H J events end naming)
  roll_row_send held send = as_row_send (Roll.the_field H J events end naming) (roll_send held send)
