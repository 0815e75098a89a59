-- One step: the world grows and keeps its facts. How an event shows it that leaves the commits as they are.
use Rattle.std.proofs.Common.{◌≡◌, ℕ, ◌<◌, ◌≤◌, ◌==◌, Bool, true, false, cond, List, [], ◌∷◌, refl, sym, ap, subst, ◌∙◌, arith}
use Rattle.std.specs.Prelude.{All}
use Rattle.std.proofs.lemmas.Bool.{eqb-true, eqb-false, cond_both}
use Rattle.desk_world.specs.Client.{Client}
use Rattle.desk_world.specs.World.{World, client_in, put_client}
use Rattle.desk_world.specs.Agents.{count_of}
use Rattle.desk_world.specs.Sound.{AllSound}
use Rattle.desk_world.specs.Grows.{Grows}
use Rattle.desk_world.specs.Kept.{IsCurrent, IsLink, IsClient, IsKept}
use Rattle.desk_world.specs.declared.agent_entries.AgentEntry.{AgentEntry}
use Rattle.desk_world.specs.declared.clients.Slot.{Slot}
use Rattle.desk_world.specs.declared.links.Asked.{Asked}
use Rattle.desk_world.specs.declared.links.Link.{Link}
use Rattle.desk_world.specs.declared.replies.Given.{Given}

pub record Step (before after : World) : Type 0 where
  pub grows : Grows before after
  pub kept : IsKept after

-- ---- clients by number

pub cond_each : {X : Type 0} (P : X → Type 0) (test : Bool) (x y : X) → P x → P y → P (cond test x y)
cond_each P true x y at_x at_y = at_x
cond_each P false x y at_x at_y = at_y

swap_cond : {X : Type 0} (s n : Bool) → (s ≡ true → n ≡ true → ⊥) → (x y z : X)
    → cond s x (cond n y z) ≡ cond n y (cond s x z)
swap_cond true true never x y z = absurd (never refl refl)
swap_cond true false never x y z = refl
swap_cond false n never x y z = refl

cond_twice : {X : Type 0} (n : Bool) (x y z : X) → cond n x z ≡ cond n x (cond n y z)
cond_twice true x y z = refl
cond_twice false x y z = refl

client-put_step : (number other : ℕ) (changed : Client) (slot : Slot) (slots put : List Slot) (test : Bool)
    → (slot.number == number) ≡ test → client_in other put ≡ cond (number == other) changed (client_in other slots)
    → client_in other (cond test (record { number = number; client = changed } ∷ slots) (slot ∷ put))
    ≡ cond (number == other) changed (cond (slot.number == other) slot.client (client_in other slots))
client-put_step number other changed slot slots put true is rest =
    cond_twice (number == other) changed slot.client (client_in other slots)
    ∙ ap (λ own. cond (number == other) changed (cond (own == other) slot.client (client_in other slots)))
    (sym (eqb-true slot.number number is))
client-put_step number other changed slot slots put false is rest =
    ap (λ client. cond (slot.number == other) slot.client client) rest
    ∙ swap_cond (slot.number == other) (number == other)
    (λ own this. eqb-false slot.number number is (eqb-true slot.number other own ∙ sym (eqb-true number other this)))
    slot.client changed (client_in other slots)

-- the client of this number is the changed one, and the others are as they were
pub client-put : (number other : ℕ) (changed : Client) (slots : List Slot)
    → client_in other (put_client number changed slots) ≡ cond (number == other) changed (client_in other slots)
client-put number other changed [] = refl
client-put number other changed (slot ∷ slots) =
    client-put_step number other changed slot slots (put_client number changed slots) (slot.number == number) refl
    (client-put number other changed slots)

-- one client has changed
pub clients_with : (P : Client → Type 0) (clients : List Slot) (client : ℕ) (changed : Client) → P changed
    → ((other : ℕ) → P (client_in other clients)) → (other : ℕ)
    → P (client_in other (put_client client changed clients))
clients_with P clients client changed is all other =
    subst P (sym (client-put client other changed clients))
    (cond_each P (client == other) changed (client_in other clients) is (all other))

pub told_with : (clients : List Slot) (client : ℕ) (changed : Client) → (client_in client clients).told ≤ changed.told
    → (other : ℕ) → (client_in other clients).told ≤ (client_in other (put_client client changed clients)).told
told_with clients client changed low other =
    subst (λ (now : Client). (client_in other clients).told ≤ now.told) (sym (client-put client other changed clients))
    (cond_both (client == other) changed (client_in other clients) (λ (now : Client). (client_in other clients).told ≤ now.told)
    (λ e. subst (λ other. (client_in other clients).told ≤ changed.told) (eqb-true client other e) low)
    (λ e. omega arith))

pub told_same : (clients : List Slot) (client : ℕ) → (client_in client clients).told ≤ (client_in client clients).told
told_same clients client = omega arith

-- ---- a world whose commits stay

abbrev pub served : World → List Link → List Slot → List Asked → List Given → List ℕ → List AgentEntry → World
served w links clients asks given agents entries =
    record w { links = links; clients = clients; asks = asks; given = given; agents = agents; entries = entries }

pub serves : (w : World) → IsKept w → (links : List Link) (clients : List Slot) (asks : List Asked) (given : List Given)
    (agents : List ℕ) (entries : List AgentEntry) → Grows w (served w links clients asks given agents entries)
    → All (IsCurrent w.note) links → All (IsLink (served w links clients asks given agents entries)) links
    → ((client : ℕ) → IsClient (served w links clients asks given agents entries) (client_in client clients))
    → All (λ (asked : Asked). asked.floor ≤ w.acknowledged) asks
    → All (λ (entry : AgentEntry). entry.number < count_of entry.run entries) entries
    → AllSound (served w links clients asks given agents entries)
    → Step w (served w links clients asks given agents entries)
serves w kept links clients asks given agents entries grows current all_links all_clients floors numbered sound = record {
  grows = grows;
  kept = record {
    ordered = record {
      first = kept.ordered.first;
      acknowledged = kept.ordered.acknowledged;
      note = kept.ordered.note;
      published = kept.ordered.published;
      under_way = kept.ordered.under_way;
      candidate = kept.ordered.candidate;
    };
    chain = kept.chain;
    candidate = kept.candidate;
    current = current;
    links = all_links;
    clients = all_clients;
    asks = floors;
    numbered = numbered;
    given = sound;
  };
}
