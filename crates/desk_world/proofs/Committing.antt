-- How an event shows its step that changes the commits, and no client, ask or given reply.
use Rattle.std.proofs.Common.{◌≡◌, ℕ, ◌<◌, ◌≤◌, List, [], ◌∷◌, ◌++◌, Option, Some, refl, ap, ◌∙◌, arith}
use Rattle.std.specs.Prelude.{All}
use Rattle.std.proofs.lemmas.List.Elements.{All-weaker}
use Rattle.std.proofs.lemmas.List.{append_assoc}
use Rattle.desk_state.specs.DeskState.{DeskState}
use Rattle.desk_world.specs.World.{World, latest_of, last, client_of}
use Rattle.desk_world.specs.Agents.{count_of, is_open}
use Rattle.desk_world.specs.Grows.{BeginsWith, LinkGrows, LinksGrow, EntryGrows, EntriesGrow, Grows}
use Rattle.desk_world.specs.Kept.{IsOrdered, IsChain, Follows, IsCurrent, IsLink, IsKept}
use Rattle.desk_world.specs.declared.agent_entries.AgentEntry.{AgentEntry}
use Rattle.desk_world.specs.declared.links.Asked.{Asked}
use Rattle.desk_world.specs.declared.links.Link.{Link}
use Rattle.desk_world.proofs.Lists.{begins_same}
use Rattle.desk_world.proofs.Monotone.{client_still, given_still}
use Rattle.desk_world.proofs.Keeping.{Step}

-- ---- the history

pub latest-push : (desk : DeskState) (later : List DeskState) (new : DeskState)
    → latest_of desk (later ++ new ∷ []) ≡ new
latest-push desk [] new = refl
latest-push desk (next ∷ later) new = latest-push next later new

pub chain_push : (desk : DeskState) (later : List DeskState) (new : DeskState) → IsChain desk later
    → Follows (latest_of desk later) new → IsChain desk (later ++ new ∷ [])
chain_push desk [] new chain follows = (follows, tt)
chain_push desk (next ∷ later) new chain follows = (chain.0, chain_push next later new chain.1 follows)

-- ---- growth in turn

pub begins_trans : {X : Type 0} (xs ys zs : List X) → BeginsWith ys xs → BeginsWith zs ys → BeginsWith zs xs
begins_trans xs ys zs first second = (
  first.0 ++ second.0,
  second.1 ∙ (ap (λ list. list ++ second.0) first.1 ∙ append_assoc xs first.0 second.0),
)

link_trans : (a b c : Link) → LinkGrows a b → LinkGrows b c → LinkGrows a c
link_trans a b c first second = record {
  client = second.client ∙ first.client;
  run = second.run ∙ first.run;
  entered = λ commit e. second.entered commit (first.entered commit e);
  seen = λ commit e. omega (arith, first.seen commit e, second.seen commit (first.entered commit e));
  closed = λ e. second.closed (first.closed e);
}

entry_trans : (a b c : AgentEntry) → EntryGrows a b → EntryGrows b c → EntryGrows a c
entry_trans a b c first second = record {
  ask = second.ask ∙ first.ask;
  question = second.question ∙ first.question;
  kind = second.kind ∙ first.kind;
  commit = second.commit ∙ first.commit;
  settled = λ e. second.settled (ap is_open (first.settled e) ∙ e) ∙ first.settled e;
}

pub grows_trans : (a b c : World) → Grows a b → Grows b c → Grows a c
grows_trans a b c first second = record {
  first = second.first ∙ first.first;
  later = begins_trans a.later b.later c.later first.later second.later;
  asks = begins_trans a.asks b.asks c.asks first.asks second.asks;
  given = begins_trans a.given b.given c.given first.given second.given;
  acknowledged = omega (arith, first.acknowledged, second.acknowledged);
  note = omega (arith, first.note, second.note);
  published = omega (arith, first.published, second.published);
  last = omega (arith, first.last, second.last);
  run = omega (arith, first.run, second.run);
  told = λ client. omega (arith, first.told client, second.told client);
  links = λ place link e.
      let one = first.links place link e in
      let two = second.links place one.0 one.1 in (two.0, two.1, link_trans link one.0 two.0 one.2 two.2);
  entries = λ run number entry e.
      let one = first.entries run number entry e in
      let two = second.entries run number one.0 one.1 in (two.0, two.1, entry_trans entry one.0 two.0 one.2 two.2);
}

pub step_trans : (a b c : World) → Step a b → Step b c → Step a c
step_trans a b c first second = record { grows = grows_trans a b c first.grows second.grows; kept = second.kept }

-- ---- a world whose clients, asks and given replies stay

abbrev pub moved : World → List DeskState → ℕ → Option DeskState → ℕ → ℕ → ℕ → List Link → List ℕ → List AgentEntry
    → World
moved w later acknowledged candidate published note run links agents entries = record w {
  later = later;
  acknowledged = acknowledged;
  candidate = candidate;
  published = published;
  note = note;
  run = run;
  links = links;
  agents = agents;
  entries = entries;
}

module _ (w : World) (later : List DeskState) (acknowledged : ℕ) (candidate : Option DeskState)
    (published note run : ℕ) (links : List Link) (agents : List ℕ) (entries : List AgentEntry) where
  pub moved_grows : BeginsWith later w.later → w.acknowledged ≤ acknowledged → w.note ≤ note → w.published ≤ published
      → last w ≤ (latest_of w.first later).commit → w.run ≤ run → LinksGrow w.links links → EntriesGrow w.entries entries
      → Grows w (moved w later acknowledged candidate published note run links agents entries)
  moved_grows begins low_acknowledged low_note low_published low_last low_run links_grow entries_grow = record {
    first = refl;
    later = begins;
    asks = begins_same w.asks;
    given = begins_same w.given;
    acknowledged = low_acknowledged;
    note = low_note;
    published = low_published;
    last = low_last;
    run = low_run;
    told = λ client. omega arith;
    links = links_grow;
    entries = entries_grow;
  }

module _ (w : World) (kept : IsKept w) (later : List DeskState) (acknowledged : ℕ) (candidate : Option DeskState)
    (published note run : ℕ) (links : List Link) (agents : List ℕ) (entries : List AgentEntry) where
  abbrev after : World
  after = moved w later acknowledged candidate published note run links agents entries

  pub moving : BeginsWith later w.later → w.acknowledged ≤ acknowledged → w.note ≤ note → w.published ≤ published
      → last w ≤ last after → w.run ≤ run → LinksGrow w.links links → EntriesGrow w.entries entries → Grows w after
  moving = moved_grows w later acknowledged candidate published note run links agents entries

  pub moves : Grows w after → IsOrdered after → IsChain w.first later
      → ((desk : DeskState) → candidate ≡ Some desk → Follows (latest_of w.first later) desk)
      → All (IsCurrent note) links
      → All (IsLink after) links → All (λ (entry : AgentEntry). entry.number < count_of entry.run entries) entries
      → Step w after
  moves grows ordered chain candidate_follows current all_links numbered = record {
    grows = grows;
    kept = record {
      ordered = ordered;
      chain = chain;
      candidate = candidate_follows;
      current = current;
      links = all_links;
      clients = λ client. client_still w after grows (client_of w client) (kept.clients client);
      asks =
          All-weaker (λ (asked : Asked). asked.floor ≤ w.acknowledged) (λ (asked : Asked). asked.floor ≤ acknowledged)
          (λ asked low. omega (arith, low, grows.acknowledged)) w.asks kept.asks;
      numbered = numbered;
      given = given_still w after grows w.given kept.given;
    };
  }
