-- Where the client of a number stands among the slots.
use Rattle.std.specs.Prelude.{◌≡◌, ◌<◌, ℕ, List, [], ◌∷◌, ◌++◌, length, slice_index_or, slice_set}
use Rattle.desk_world.specs.Client.{Client, unnamed}
use Rattle.desk_world.specs.World.{client_in, put_client}
use Rattle.desk_world.specs.declared.clients.Slot.{Slot}

pub record IsPlace (slots : List Slot) (number at : ℕ) : Type 0 where
  pub in_range : at < length slots
  pub same : (other : Slot) → (slice_index_or slots at other).number ≡ number
  pub client : (other : Slot) → (slice_index_or slots at other).client ≡ client_in number slots
  pub put : (client : Client)
      → put_client number client slots ≡ slice_set slots at (record { number = number; client = client })

pub record IsAbsent (slots : List Slot) (number : ℕ) : Type 0 where
  pub client : client_in number slots ≡ unnamed
  pub put : (client : Client)
      → put_client number client slots ≡ slots ++ record { number = number; client = client } ∷ []
