-- One event more of a list that is being run.
use Rattle.std.proofs.Common.{◌≡◌, ℕ, ◌<◌, ◌+◌, Bool, true, List, ◌∷◌, length, get_or, drop, Option, Some, None, Result, sym, ap, subst, ◌∙◌, arith}
use Rattle.std.proofs.lemmas.Bool.{false≢true}
use Rattle.std.proofs.lemmas.List.{drop_more, length-drop}
use Rattle.desk_world.specs.World.{World}
use Rattle.desk_world.specs.Events.{after, next_of, run_from, HasRoom}
use Rattle.desk_world.specs.parts.Parts.{Becomes}
use Rattle.desk_world.specs.declared.events.Event.{Event}
use Rattle.desk_world.proofs.Adding.{Adds, AddsIf, event-adds}

-- what is left of the events leads to the outcome, and each has room for a number
pub record IsTurning (world : World) (events : List Event) (at : ℕ) (outcome : Result World ℕ) : Type 0 where
  pub run : run_from at (drop at events) world ≡ outcome
  pub room : HasRoom (length (drop at events)) world

pub became : (o : Option World) (enabled : Bool) (world : World) → Becomes o enabled world → enabled ≡ true
    → o ≡ Some world
became None enabled world becomes is = absurd (false≢true (sym becomes ∙ is))
became (Some next) enabled world becomes is = ap Some (sym becomes.1)

room_after : (w next : World) (left now : ℕ) → left + 1 ≡ now → HasRoom now w → Adds w next → HasRoom left next
room_after w next left now more room adds = record {
  links = omega (arith, more, room.links, adds.links);
  asks = omega (arith, more, room.asks, adds.asks);
  run = omega (arith, more, room.run, adds.run);
}

-- the events from this place on
here : (events : List Event) (at : ℕ) (event : Event) → at < length events → get_or events at event ≡ event
    → drop at events ≡ event ∷ drop (at + 1) events
here events at event low is = drop_more events at event low ∙ ap (λ event. event ∷ drop (at + 1) events) is

pub turn_done : (w next : World) (events : List Event) (at : ℕ) (outcome : Result World ℕ) (event : Event)
    → at < length events → get_or events at event ≡ event → IsTurning w events at outcome → after event w ≡ Some next
    → IsTurning next events (at + 1) outcome
turn_done w next events at outcome event low is turning some = record {
  run =
      sym (ap (next_of at (run_from (at + 1) (drop (at + 1) events))) some)
      ∙ (sym (ap (λ events. run_from at events w) (here events at event low is)) ∙ turning.run);
  room =
      let now = length-drop at events in
      let left = length-drop (at + 1) events in
      room_after w next (length (drop (at + 1) events)) (length (drop at events)) (omega (arith, now, left, low)) turning.room
      (subst (AddsIf w) some (event-adds w event));
}
