-- What the list is kept by, and a front of it, may go to another thread where their name may.
use denote.RattleType.{RattleType}
use denote.Param.Send.{IsSend, IsSync, sendable}
use denote.Param.SendFields.{as_row_send}
use Rattle.std.proofs.Crossing.{crosses}
use Rattle.logbook.proofs.tokens.Seen.TheSendSync as seen
use Rattle.logbook.proofs.word.Word.TheSendSync as word
use Rattle.state_list.specs.declared.rules.Naming.{Ghosts}
use Rattle.state_list.specs.contracts.rules.Events as Events
use Rattle.state_list.specs.contracts.fronts.Front as Front
use Rattle.state_list.specs.contracts.words.Book as Book

module _ (S J : RattleType) (naming : Ghosts J.Denot) where
  pub front_send : IsSend J → IsSend (Front.the_field S J naming).row
  front_send send = search (sendable, crosses, seen.the_send) depth 40

  pub front_sync : IsSync J → IsSync (Front.the_field S J naming).row
  front_sync sync = search (sendable, crosses, seen.the_sync) depth 40

  pub book_send : IsSend J → IsSend (Book.the_field S J naming).row
  book_send send = search (sendable, crosses, word.the_send) depth 40

-- The name of its list of events goes where it does.
module _ (J : RattleType) where
  pub events_send : IsSend J → IsSend (Events.the_row J)
  events_send send = as_row_send (Events.the_field J) (search (sendable, crosses) depth 40)
