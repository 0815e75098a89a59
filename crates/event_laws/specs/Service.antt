-- How a running service stands for a world of events: which value of its registry of connections, its publisher and its
-- keeper is which field of the world. What only clients hold is in `Caching`.
use Rattle.std.specs.Prelude.{◌≡◌, ℕ, ◌==◌, nat_lt, Bool, true, false, if◌then◌else◌, List, [], ◌∷◌, ◌++◌, Option, Some}
use Rattle.std.specs.Prelude.{is_none, slice_get}
use Rattle.desk_state.specs.DeskState.{DeskState}
use Rattle.live_roll.specs.Roll.{RollState}
use Rattle.live_roll.specs.declared.entries.Entry.{Entry}
use Rattle.live_desk.specs.History.{Rises, last_commit}
use Rattle.admin_door.specs.Side.{AdminSide}
use Rattle.desk_world.specs.World.{World, history, latest}
use Rattle.desk_world.specs.Kept.{IsKept}
use Rattle.desk_world.specs.declared.links.Link.{Link}

-- ---- the registry of connections

-- An end in the registry is that of this connection: it entered at the commit of the end, in this run of the service,
-- and is closed where the end was used.
pub record IsEndOf {H : Type 0} (used : H → Bool) (current : ℕ) (entry : Entry H) (link : Link) : Type 0 where
  pub run : link.run ≡ current
  pub entered : link.entered ≡ Some entry.entered
  pub hung : used entry.end ≡ true → link.up ≡ false

-- Each end that stands in a place is that of the connection that entered there last.
abbrev pub EndsStand : {H : Type 0} → (H → Bool) → (ℕ → ℕ) → ℕ → List (Option (Entry H)) → List Link → Type 0
EndsStand {H} used link_of run places links = (place : ℕ) (entry : Entry H) → slice_get places place ≡ Some (Some entry)
    → (link : Link) × (slice_get links (link_of place) ≡ Some link) × IsEndOf used run entry link

-- the connections of the places, once one entered in this place
abbrev pub entered_in : ℕ → ℕ → (ℕ → ℕ) → ℕ → ℕ
entered_in seat link link_of place = if place == seat then link else link_of place

-- ---- the store, and what was published

-- what is kept and not published yet
abbrev pub unpublished : DeskState → List DeskState → List DeskState
unpublished desk published = if nat_lt (last_commit 0 published) desk.commit then desk ∷ [] else []

-- The committed states are those of earlier runs, those that were published, and one at most that is kept and not
-- published yet.
pub record IsHistory (side : AdminSide) (world : World) : Type 0 where
  pub earlier : List DeskState
  pub all : history world ≡ earlier ++ (side.published ++ unpublished side.desk side.published)

-- ---- both

-- `link_of` tells of each place of the registry which connection entered there last.
pub record StandsFor {H : Type 0} (used : H → Bool) (link_of : ℕ → ℕ) (roll : RollState H) (side : AdminSide)
    (world : World)
    : Type 0 where
  -- what each world keeps that events lead to
  pub kept : IsKept world
  -- the note of the registry
  pub note : world.note ≡ roll.note
  pub ends : EndsStand used link_of world.run roll.places world.links
  -- the last of the published states
  pub published : world.published ≡ last_commit 0 side.published
  pub rising : Rises side.published
  pub committed : IsHistory side world
  -- the state that is known to be kept last; and where that is known, none waits for a decision
  pub last : latest world ≡ side.desk
  pub decided : is_none world.candidate ≡ side.decided
