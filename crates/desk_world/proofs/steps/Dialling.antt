-- A client dials.
use Rattle.std.proofs.Common.{◌≡◌, ℕ, [], length, Some, None, refl, subst}
use Rattle.std.specs.Prelude.{is_none}
use Rattle.std.proofs.lemmas.List.Elements.{All-nil, All-push}
use Rattle.std.proofs.lemmas.Option.{none-some}
use Rattle.desk_world.specs.Client.{Client}
use Rattle.desk_world.specs.World.{World, client_of}
use Rattle.desk_world.specs.Clients.{new_link, dialled, dial, kept}
use Rattle.desk_world.specs.Grows.{Grows}
use Rattle.desk_world.specs.Kept.{IsCurrent, IsLink, IsKnown, HasLink, IsClient, IsKept}
use Rattle.desk_world.specs.declared.links.Link.{Link}
use Rattle.desk_world.proofs.Options.{when-tells}
use Rattle.desk_world.proofs.Lists.{begins_same, get-end}
use Rattle.desk_world.proofs.Growing.{links_push, entries_same, serving}
use Rattle.desk_world.proofs.Monotone.{links_still, client_still, given_still}
use Rattle.desk_world.proofs.Keeping.{Step, clients_with, told_with, told_same, serves}

module _ (w : World) (kept : IsKept w) (client : ℕ) where
  abbrev new : Link
  new = new_link client w.run

  abbrev changed : Client
  changed = record (client_of w client) { link = Some (length w.links); log = [] }

  abbrev after : World
  after = dialled client w

  grows : Grows w after
  grows =
      serving w after.links after.clients w.asks w.given w.agents w.entries (begins_same w.asks) (begins_same w.given)
      (told_with w.clients client changed (told_same w.clients client)) (links_push w.links new) (entries_same w.entries)

  new_is : IsLink after new
  new_is = record {
    first = λ commit e. absurd (none-some commit e);
    seen = λ commit e. absurd (none-some commit e);
    question = λ ask e. absurd (none-some ask e);
    reading = λ ask e. absurd (none-some ask e);
    reply = λ transit e. absurd (none-some transit e);
    unasked = λ e. refl;
    not_entered = λ e. (refl, refl);
  }

  has_link : HasLink after [] (length w.links)
  has_link = record {
    link = new;
    there = get-end w.links new;
    known = All-nil (IsKnown after None);
    not_entered = λ e. refl;
  }

  changed_is : IsClient after changed
  changed_is = record {
    told = (kept.clients client).told;
    asking = (kept.clients client).asking;
    link = λ place e.
        let same : length w.links ≡ place = cc in subst (λ place. HasLink after [] place) same has_link;
    no_link = λ e. refl;
  }

  pub dial-step : Step w after
  dial-step =
      serves w kept after.links after.clients w.asks w.given w.agents w.entries grows
      (All-push (IsCurrent w.note) w.links new kept.current (λ up entered e. absurd (none-some entered e)))
      (All-push (IsLink after) w.links new (links_still w after grows w.links kept.links) new_is)
      (clients_with (IsClient after) w.clients client changed changed_is
      (λ other. client_still w after grows (client_of w other) (kept.clients other)))
      kept.asks kept.numbered (given_still w after grows w.given kept.given)

pub dial-steps : (w next : World) → IsKept w → (client : ℕ) → dial client w ≡ Some next → Step w next
dial-steps w next kept client e =
    when-tells (Step w) (is_none (client_of w client).link) (dialled client w) next e (λ free. dial-step w kept client)
