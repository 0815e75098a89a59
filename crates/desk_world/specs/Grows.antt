-- What no event takes back.
use Rattle.std.specs.Prelude.{◌≡◌, ◌≤◌, ℕ, false, List, ◌++◌, Some, slice_get}
use Rattle.desk_world.specs.World.{World, last, entry_at, client_of}
use Rattle.desk_world.specs.Agents.{is_open}
use Rattle.desk_world.specs.declared.agent_entries.AgentEntry.{AgentEntry}
use Rattle.desk_world.specs.declared.links.Link.{Link}

abbrev pub BeginsWith : {X : Type 0} → List X → List X → Type 0
BeginsWith {X} longer shorter = (rest : List X) × (longer ≡ shorter ++ rest)

-- a link keeps its client and its run; it enters once, and what its worker has seen doesn't fall from then on; closed,
-- it stays closed
pub record LinkGrows (before after : Link) : Type 0 where
  pub client : after.client ≡ before.client
  pub run : after.run ≡ before.run
  pub entered : (commit : ℕ) → before.entered ≡ Some commit → after.entered ≡ Some commit
  pub seen : (commit : ℕ) → before.entered ≡ Some commit → before.seen ≤ after.seen
  pub closed : before.up ≡ false → after.up ≡ false

-- an entry keeps what it was put for; answered or gone, it stays so
pub record EntryGrows (before after : AgentEntry) : Type 0 where
  pub ask : after.ask ≡ before.ask
  pub question : after.question ≡ before.question
  pub kind : after.kind ≡ before.kind
  pub commit : after.commit ≡ before.commit
  pub settled : is_open before.state ≡ false → after.state ≡ before.state

-- no link is taken away
abbrev pub LinksGrow : List Link → List Link → Type 0
LinksGrow before after =
    (place : ℕ) (link : Link) → slice_get before place ≡ Some link
    → (grown : Link) × (slice_get after place ≡ Some grown) × LinkGrows link grown

-- no entry is taken away
abbrev pub EntriesGrow : List AgentEntry → List AgentEntry → Type 0
EntriesGrow before after =
    (run number : ℕ) (entry : AgentEntry) → entry_at run number before ≡ Some entry
    → (grown : AgentEntry) × (entry_at run number after ≡ Some grown) × EntryGrows entry grown

pub record Grows (before after : World) : Type 0 where
  pub first : after.first ≡ before.first
  pub later : BeginsWith after.later before.later
  pub asks : BeginsWith after.asks before.asks
  pub given : BeginsWith after.given before.given
  pub acknowledged : before.acknowledged ≤ after.acknowledged
  pub note : before.note ≤ after.note
  pub published : before.published ≤ after.published
  pub last : last before ≤ last after
  pub run : before.run ≤ after.run
  pub told : (client : ℕ) → (client_of before client).told ≤ (client_of after client).told
  pub links : LinksGrow before.links after.links
  pub entries : EntriesGrow before.entries after.entries
