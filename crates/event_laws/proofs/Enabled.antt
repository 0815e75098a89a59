-- How an event is seen to be enabled, and a state to stand for the world behind it.
use Rattle.std.proofs.Common.{◌≡◌, Bool, true, Option, Some, None, ap, ◌∙◌}
use Rattle.std.specs.Prelude.{is_none}
use Rattle.desk_world.specs.World.{World}
use Rattle.desk_world.specs.Clients.{when, with_some}
use Rattle.desk_world.specs.Events.{after}
use Rattle.desk_world.specs.Kept.{IsKept}
use Rattle.desk_world.specs.declared.events.Event.{Event}
use Rattle.desk_world.proofs.Runs.{event-steps}
use Rattle.desk_world.proofs.Keeping.{Step}
use Rattle.event_laws.specs.Happens.{Happens}

pub some_enabled : {X : Type 0} (o : Option X) (x : X) (event : X → Option World) (next : World) → o ≡ Some x → event x ≡ Some next
    → with_some o event ≡ Some next
some_enabled o x event next is then = ap (λ found. with_some found event) is ∙ then

pub when_enabled : (test : Bool) (next : World) → test ≡ true → when test next ≡ Some next
when_enabled test next is = ap (λ b. when b next) is

-- an enabled event keeps what each world keeps
pub kept_behind : (event : Event) (world next : World) → IsKept world → after event world ≡ Some next → IsKept next
kept_behind event world next kept enabled = let step : Step world next = event-steps world next kept event enabled in step.kept

pub happens : (event : Event) (world next : World) (Then : World → Type 0) → IsKept world → after event world ≡ Some next
    → (IsKept next → Then next) → Happens event world Then
happens event world next Then kept enabled then =
    record { next = next; enabled = enabled; behind = then (kept_behind event world next kept enabled) }

pub no_some : {X : Type 0} (o : Option X) → o ≡ None → is_none o ≡ true
no_some o is = ap is_none is
