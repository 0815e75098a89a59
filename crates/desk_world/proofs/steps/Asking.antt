-- A client asks, and is told of a commit.
use Rattle.std.proofs.Common.{◌≡◌, ℕ, ◌≤◌, Bool, length, Some, subst, arith}
use Rattle.std.specs.Prelude.{slice_get, nat_le, max}
use Rattle.std.proofs.lemmas.Bool.{leb-true}
use Rattle.std.proofs.lemmas.List.Elements.{All-push}
use Rattle.std.proofs.Math.Nat.{le-max_left, max-le}
use Rattle.cynara_keys.specs.Key.{Question}
use Rattle.desk_world.specs.Client.{Client}
use Rattle.desk_world.specs.World.{World, with_client, client_of}
use Rattle.desk_world.specs.Clients.{new_ask, asked, kept, tell}
use Rattle.desk_world.specs.Grows.{Grows}
use Rattle.desk_world.specs.Kept.{IsClient, IsKept}
use Rattle.desk_world.specs.declared.links.Asked.{Asked}
use Rattle.desk_world.proofs.Options.{when-tells, some-tells}
use Rattle.desk_world.proofs.Lists.{begins_same, begins_push, get-end}
use Rattle.desk_world.proofs.Growing.{links_same, entries_same, serving}
use Rattle.desk_world.proofs.Monotone.{links_still, client_still, given_still}
use Rattle.desk_world.proofs.Keeping.{Step, clients_with, told_with, told_same, serves}

module _ (w : World) (kept : IsKept w) (client : ℕ) (question : Question) (simple : Bool) where
  abbrev new : Asked
  new = new_ask client question simple w

  abbrev changed : Client
  changed = record (client_of w client) { asking = Some (length w.asks) }

  abbrev after : World
  after = asked client question simple w

  grows : Grows w after
  grows =
      serving w w.links after.clients after.asks w.given w.agents w.entries (begins_push w.asks new) (begins_same w.given)
      (told_with w.clients client changed (told_same w.clients client)) (links_same w.links) (entries_same w.entries)

  there : (asked : Asked) × (slice_get after.asks (length w.asks) ≡ Some asked)
  there = (new, get-end w.asks new)

  abbrev still : IsClient after (client_of w client)
  still = client_still w after grows (client_of w client) (kept.clients client)

  changed_is : IsClient after changed
  changed_is = record {
    told = (kept.clients client).told;
    asking = λ ask e.
        let same : length w.asks ≡ ask = cc in
        subst (λ ask. (asked : Asked) × (slice_get after.asks ask ≡ Some asked)) same there;
    link = still.link;
    no_link = (kept.clients client).no_link;
  }

  pub ask-step : Step w after
  ask-step =
      serves w kept w.links after.clients after.asks w.given w.agents w.entries grows kept.current
      (links_still w after grows w.links kept.links)
      (clients_with (IsClient after) w.clients client changed changed_is
      (λ other. client_still w after grows (client_of w other) (kept.clients other)))
      (All-push (λ (asked : Asked). asked.floor ≤ w.acknowledged) w.asks new kept.asks
      (max-le (omega arith) (kept.clients client).told))
      kept.numbered (given_still w after grows w.given kept.given)

module _ (w : World) (kept : IsKept w) (client commit : ℕ) (low : commit ≤ w.acknowledged) where
  abbrev told_client : Client
  told_client = record (client_of w client) { told = max (client_of w client).told commit }

  abbrev told_world : World
  told_world = with_client client told_client w

  tell_grows : Grows w told_world
  tell_grows =
      serving w w.links told_world.clients w.asks w.given w.agents w.entries (begins_same w.asks) (begins_same w.given)
      (told_with w.clients client told_client (le-max_left (client_of w client).told commit)) (links_same w.links)
      (entries_same w.entries)

  abbrev tell_still : IsClient told_world (client_of w client)
  tell_still = client_still w told_world tell_grows (client_of w client) (kept.clients client)

  told_is : IsClient told_world told_client
  told_is = record {
    told = max-le (kept.clients client).told low;
    asking = (kept.clients client).asking;
    link = tell_still.link;
    no_link = (kept.clients client).no_link;
  }

  pub tell-step : Step w told_world
  tell-step =
      serves w kept w.links told_world.clients w.asks w.given w.agents w.entries tell_grows kept.current
      (links_still w told_world tell_grows w.links kept.links)
      (clients_with (IsClient told_world) w.clients client told_client told_is
      (λ other. client_still w told_world tell_grows (client_of w other) (kept.clients other)))
      kept.asks kept.numbered (given_still w told_world tell_grows w.given kept.given)

pub ask-steps : (w next : World) → IsKept w → (client : ℕ) (question : Question) (simple : Bool)
    → Some (asked client question simple w) ≡ Some next → Step w next
ask-steps w next kept client question simple e =
    some-tells (Step w) (asked client question simple w) next e (ask-step w kept client question simple)

pub tell-steps : (w next : World) → IsKept w → (client commit : ℕ) → tell client commit w ≡ Some next → Step w next
tell-steps w next kept client commit e =
    when-tells (Step w) (nat_le commit w.acknowledged)
    (with_client client (record (client_of w client) { told = max (client_of w client).told commit }) w) next e
    (λ low. tell-step w kept client commit (leb-true commit w.acknowledged low))
