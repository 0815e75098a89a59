-- An event of the world that comes about.
use Rattle.std.specs.Prelude.{◌≡◌, ◌⊎◌, ℕ, List, [], ◌∷◌, Some}
use Rattle.desk_world.specs.World.{World}
use Rattle.desk_world.specs.Events.{after}
use Rattle.desk_world.specs.declared.events.Event.{Event}
use Rattle.desk_world.specs.declared.events.Event.TheVariants.{Lose}

-- the event is enabled in this world, and of the world behind it this holds
pub record Happens (event : Event) (world : World) (Then : World → Type 0) : Type 0 where
  pub next : World
  pub enabled : after event world ≡ Some next
  pub behind : Then next

-- these connections are lost in turn, and of the world behind it this holds
abbrev pub AreLost : List ℕ → World → (World → Type 0) → Type 0
AreLost [] world Then = Then world
AreLost (link ∷ links) world Then = Happens (Lose link) world (λ next. AreLost links next Then)

-- it is so already, or the event comes about, and then it is so
abbrev pub HoldsOrHappens : Event → World → (World → Type 0) → Type 0
HoldsOrHappens event world Then = Then world ⊎ Happens event world Then
