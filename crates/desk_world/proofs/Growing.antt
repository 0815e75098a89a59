-- Growth of links and entries under each kind of change, and of a world whose commits stay.
use Rattle.std.proofs.Common.{◌≡◌, ℕ, ◌≤◌, ◌==◌, ◌&&◌, List, [], ◌∷◌, ◌++◌, set, Some, refl, sym, subst, ◌∙◌, arith, map, inl, inr}
use Rattle.std.specs.Prelude.{slice_get}
use Rattle.std.proofs.lemmas.Bool.{cases_eq}
use Rattle.desk_world.specs.World.{World, entry_at, client_of, client_in}
use Rattle.desk_world.specs.Grows.{BeginsWith, LinkGrows, LinksGrow, EntryGrows, EntriesGrow, Grows}
use Rattle.desk_world.specs.declared.agent_entries.AgentEntry.{AgentEntry}
use Rattle.desk_world.specs.declared.clients.Slot.{Slot}
use Rattle.desk_world.specs.declared.links.Asked.{Asked}
use Rattle.desk_world.specs.declared.links.Link.{Link}
use Rattle.desk_world.specs.declared.replies.Given.{Given}
use Rattle.desk_world.proofs.Lists.{begins_same, get-append, get-set_same, get-set_other, get-map, find-begins, find-map}

-- ---- links

pub link_same : (link : Link) → LinkGrows link link
link_same link = record {
  client = refl;
  run = refl;
  entered = λ commit e. e;
  seen = λ commit e. omega arith;
  closed = λ e. e;
}

pub links_same : (links : List Link) → LinksGrow links links
links_same links place link e = (link, e, link_same link)

pub links_push : (links : List Link) (new : Link) → LinksGrow links (links ++ new ∷ [])
links_push links new place link e = (link, get-append links (new ∷ []) place link e, link_same link)

pub links_set : (links : List Link) (at : ℕ) (old new : Link) → slice_get links at ≡ Some old → LinkGrows old new
    → LinksGrow links (set links at new)
links_set links at old new there grows place link e =
    elim (cases_eq place at) [
      | inl same ↦
          let here : slice_get links at ≡ Some link = subst (λ k. slice_get links k ≡ Some link) same e in
          let is : Some old ≡ Some link = sym there ∙ here in
          let is_old : old ≡ link = cc in (
            new,
            subst (λ k. slice_get (set links at new) k ≡ Some new) (sym same) (get-set_same links at old new there),
            subst (λ before. LinkGrows before new) is_old grows,
          )
      | inr other ↦ (link, get-set_other links at place new other ∙ e, link_same link)
    ]

pub links_map : (f : Link → Link) (links : List Link) → ((link : Link) → LinkGrows link (f link))
    → LinksGrow links (map f links)
links_map f links each place link e = (f link, get-map f links place link e, each link)

-- ---- entries

pub entry_same : (entry : AgentEntry) → EntryGrows entry entry
entry_same entry =
    record { ask = refl; question = refl; kind = refl; commit = refl; settled = λ e. refl }

pub entries_same : (entries : List AgentEntry) → EntriesGrow entries entries
entries_same entries run number entry e = (entry, e, entry_same entry)

pub entries_push : (entries : List AgentEntry) (new : AgentEntry) → EntriesGrow entries (entries ++ new ∷ [])
entries_push entries new run number entry e = (
  entry,
  find-begins (λ (other : AgentEntry). other.run == run && other.number == number) entries (entries ++ new ∷ []) entry
      (new ∷ [], refl) e,
  entry_same entry,
)

-- a change of every entry that keeps run and number
pub entry_at-map : (f : AgentEntry → AgentEntry) → ((entry : AgentEntry) → (f entry).run ≡ entry.run)
    → ((entry : AgentEntry) → (f entry).number ≡ entry.number)
    → (run number : ℕ) (entries : List AgentEntry) (entry : AgentEntry) → entry_at run number entries ≡ Some entry
    → entry_at run number (map f entries) ≡ Some (f entry)
entry_at-map f runs numbers run number entries entry e =
    find-map (λ (other : AgentEntry). other.run == run && other.number == number) f
    (λ other i. (runs other i == run) && (numbers other i == number)) entries entry e

pub entries_map : (f : AgentEntry → AgentEntry) (entries : List AgentEntry)
    → ((entry : AgentEntry) → (f entry).run ≡ entry.run)
    → ((entry : AgentEntry) → (f entry).number ≡ entry.number)
    → ((run number : ℕ) (entry : AgentEntry) → entry_at run number entries ≡ Some entry → EntryGrows entry (f entry))
    → EntriesGrow entries (map f entries)
entries_map f entries runs numbers each run number entry e =
    (f entry, entry_at-map f runs numbers run number entries entry e, each run number entry e)

-- ---- a world whose commits stay

pub serving : (w : World) (links : List Link) (clients : List Slot) (asks : List Asked) (given : List Given)
    (agents : List ℕ) (entries : List AgentEntry) → BeginsWith asks w.asks → BeginsWith given w.given
    → ((client : ℕ) → (client_of w client).told ≤ (client_in client clients).told) → LinksGrow w.links links
    → EntriesGrow w.entries entries
    → Grows w (record w {
      links = links;
      clients = clients;
      asks = asks;
      given = given;
      agents = agents;
      entries = entries;
    })
serving w links clients asks given agents entries asks_begin given_begin told links_grow entries_grow = record {
  first = refl;
  later = begins_same w.later;
  asks = asks_begin;
  given = given_begin;
  acknowledged = omega arith;
  note = omega arith;
  published = omega arith;
  last = omega arith;
  run = omega arith;
  told = told;
  links = links_grow;
  entries = entries_grow;
}
