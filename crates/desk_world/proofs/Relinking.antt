-- How an event shows its step that changes one link alone.
use Rattle.std.proofs.Common.{◌≡◌, ℕ, Some}
use Rattle.std.specs.Prelude.{slice_get}
use Rattle.std.proofs.lemmas.List.Elements.{All-set}
use Rattle.desk_world.specs.World.{World, with_link, client_of}
use Rattle.desk_world.specs.Grows.{LinkGrows, Grows}
use Rattle.desk_world.specs.Kept.{IsCurrent, IsLink, IsKept}
use Rattle.desk_world.specs.declared.links.Link.{Link}
use Rattle.desk_world.proofs.Lists.{begins_same, all-at}
use Rattle.desk_world.proofs.Growing.{links_set, entries_same, serving}
use Rattle.desk_world.proofs.Monotone.{link_still, links_still, client_still, given_still}
use Rattle.desk_world.proofs.Keeping.{Step, told_same, serves}

module _ (w : World) (link : ℕ) (found changed : Link) (there : slice_get w.links link ≡ Some found)
    (grown : LinkGrows found changed) where
  abbrev after : World
  after = with_link link changed w

  pub relink_grows : Grows w after
  relink_grows =
      serving w after.links w.clients w.asks w.given w.agents w.entries (begins_same w.asks) (begins_same w.given)
      (told_same w.clients) (links_set w.links link found changed there grown) (entries_same w.entries)

  -- what held of the link as it was holds of it in the world after
  pub link_was : IsKept w → IsLink after found
  link_was kept = link_still w after relink_grows found (all-at (IsLink w) w.links link found kept.links there)

  pub relink-step : IsKept w → (IsCurrent w.note found → IsCurrent w.note changed) → IsLink after changed → Step w after
  relink-step kept current is =
      serves w kept after.links w.clients w.asks w.given w.agents w.entries relink_grows
      (All-set (IsCurrent w.note) w.links link changed
      (current (all-at (IsCurrent w.note) w.links link found kept.current there)) kept.current)
      (All-set (IsLink after) w.links link changed is (links_still w after relink_grows w.links kept.links))
      (λ other. client_still w after relink_grows (client_of w other) (kept.clients other))
      kept.asks kept.numbered (given_still w after relink_grows w.given kept.given)
