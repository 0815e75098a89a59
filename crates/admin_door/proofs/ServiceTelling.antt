-- What is told of the service, by what the hall told.
use Rattle.std.proofs.Common.{◌≡◌, ◌∙◌, List, Option, Some, Result, Ok, Err, MatchResult}
use Rattle.std.specs.Prelude.{IfOk}
use Rattle.agent_table.specs.Table.{KindsRise}
use Rattle.desk_state.specs.declared.commands.Command.{Command}
use Rattle.server_hall.specs.Service.{ServiceTold}
use Rattle.wire_messages.specs.Commands.{command_of}
use Rattle.wire_fields.specs.declared.messages.Message.{Message}
use Rattle.wire_fields.specs.declared.messages.Message.TheVariants.{ReadService}
use Rattle.door_frames.specs.declared.endings.Ended.{Ended}
use Rattle.door_frames.specs.declared.endings.Ended.TheVariants.{Memory}
use Rattle.admin_door.specs.Service.{service_replies, IsService, TellsService}

module _ {V : Type 0} (items : V → List Message) where
  -- the replies tell what the hall told
  pub is_service : (view : ServiceTold) (result : Result V Ended) → KindsRise view.kinds
      → MatchResult result (λ replies. items replies ≡ service_replies view) (λ ended. ended ≡ Memory)
      → MatchResult result (λ replies. IsService (items replies)) (λ ended. ended ≡ Memory)
  is_service view (Ok replies) rise is = (view, rise, is)
  is_service view (Err ended) rise is = is

  no_service : (message : Message) (told : Option ServiceTold) (replies : List Message) (command : Command)
      → command_of message ≡ Some command → TellsService message told replies
  no_service ReadService told replies command is = cc
  no_service other told replies command is = tt

  -- who sends a command asks nothing of the service
  pub asks_nothing : (message : Message) (told : Option ServiceTold) (command : Command) (result : Result V Ended)
      → command_of message ≡ Some command → IfOk result (λ replies. TellsService message told (items replies))
  asks_nothing message told command (Ok replies) is = no_service message told (items replies) command is
  asks_nothing message told command (Err ended) is = tt
