-- A registry that is stopped is what it is once each of its connections is lost.
use Rattle.std.proofs.Common.{◌≡◌, ◌∙◌, ◌<◌, ◌+◌, ◌==◌, ℕ, zero, suc, Bool, true, false, List, [], ◌∷◌, length, set, Option, Some, None, refl, sym, ap, subst, arith}
use Rattle.std.specs.Prelude.{slice_get}
use Rattle.std.proofs.lemmas.Bool.{eqb-true, eqb-false}
use Rattle.std.proofs.lemmas.Option.{none-some, same_Some, slice_get_within}
use Rattle.live_roll.specs.declared.entries.Entry.{Entry}
use Rattle.live_roll.specs.Places.{IsHungUp, AreHungUp}
use Rattle.live_roll.specs.Roll.{RollState, StopsAll}
use Rattle.admin_door.specs.Side.{AdminSide}
use Rattle.desk_world.specs.World.{World, with_link}
use Rattle.desk_world.specs.Events.{after}
use Rattle.desk_world.specs.declared.events.Event.TheVariants.{Lose}
use Rattle.desk_world.specs.declared.links.Link.{Link}
use Rattle.desk_world.proofs.Lists.{get-set_same, get-set_other}
use Rattle.event_laws.specs.Happens.{AreLost}
use Rattle.event_laws.specs.Service.{StandsFor}
use Rattle.event_laws.proofs.Enabled.{some_enabled, when_enabled, kept_behind}
use Rattle.event_laws.proofs.Ends.{ends_relinked}

below_it : (place count : ℕ) → place < suc count → (place ≡ count → ⊥) → place < count
below_it place count low other = omega (arith, low, other)

module _ {H : Type 0} (used : H → Bool) where
  -- the end that stood in a place before all were hung up
  stood : (places now : List (Option (Entry H))) (k : ℕ) (entry : Entry H) → AreHungUp used places now
      → slice_get now k ≡ Some (Some entry)
      → (old : Entry H) × (slice_get places k ≡ Some (Some old)) × (entry.entered ≡ old.entered)
  stood [] now k entry hung is =
      absurd (none-some (Some entry) (ap (λ (list : List (Option (Entry H))). slice_get list k) (sym hung) ∙ is))
  stood (place ∷ places) [] k entry hung is = absurd hung
  stood (None ∷ places) (one ∷ now) zero entry hung is = absurd (none-some entry (sym hung.0 ∙ same_Some one (Some entry) is))
  stood (Some old ∷ places) (one ∷ now) zero entry hung is =
      let same = subst (IsHungUp used (Some old)) (same_Some one (Some entry) is) hung.0 in (old, refl, same.0)
  stood (place ∷ places) (one ∷ now) (suc k) entry hung is = stood places now k entry hung.1 is

  module _ (link_of : ℕ → ℕ) (roll : RollState H) (side : AdminSide) where
    -- the connections of the first places are closed
    abbrev AreShut : ℕ → World → Type 0
    AreShut count world = (place : ℕ) (entry : Entry H) (link : Link) → place < count → slice_get roll.places place ≡ Some (Some entry)
        → slice_get world.links (link_of place) ≡ Some link → link.up ≡ false

    abbrev shut : Link → Link
    shut link = record link { up = false }

    -- one connection is lost
    lost : (world : World) (at : ℕ) (link : Link) → StandsFor used link_of roll side world → slice_get world.links at ≡ Some link
        → link.up ≡ true
        → (after (Lose at) world ≡ Some (with_link at (shut link) world))
        × StandsFor used link_of roll side (with_link at (shut link) world)
    lost world at link stands there up =
        let next = with_link at (shut link) world in
        let enabled : after (Lose at) world ≡ Some next =
        some_enabled (slice_get world.links at) link _ next there (when_enabled link.up next up) in (
          enabled,
          record {
            kept = kept_behind (Lose at) world next stands.kept enabled;
            note = stands.note;
            ends = ends_relinked used link_of world.run roll.places world.links at link (shut link) there refl refl (λ down. refl)
                stands.ends;
            published = stands.published;
            rising = stands.rising;
            committed = record { earlier = stands.committed.earlier; all = stands.committed.all };
            last = stands.last;
            decided = stands.decided;
          },
        )

    -- the connection of one more place is closed, by its loss
    shut_more : (world : World) (at : ℕ) (link : Link) (count : ℕ) → slice_get world.links at ≡ Some link → link_of count ≡ at
        → AreShut count world → AreShut (suc count) (with_link at (shut link) world)
    shut_more world at link count there here before place entry one below is got = by_case (link_of place == at) refl where
      by_case : (b : Bool) → (link_of place == at) ≡ b → one.up ≡ false
      by_case true same =
          let here_now : slice_get (set world.links at (shut link)) at ≡ Some one =
          ap (slice_get (set world.links at (shut link))) (sym (eqb-true (link_of place) at same)) ∙ got in
          let is_shut : shut link ≡ one =
          same_Some (shut link) one (sym (get-set_same world.links at link (shut link) there) ∙ here_now) in
          sym (ap (λ (l : Link). l.up) is_shut)
      by_case false other =
          let apart : link_of place ≡ at → ⊥ = eqb-false (link_of place) at other in
          let elsewhere : place ≡ count → ⊥ = λ same. apart (ap link_of same ∙ here) in
          before place entry one (below_it place count below elsewhere) is
          (sym (get-set_other world.links at (link_of place) (shut link) apart) ∙ got)

    -- the connection of one more place is closed, as it was, or none stands there
    shut_still : (world : World) (count : ℕ) → AreShut count world
        → ((entry : Entry H) (link : Link) → slice_get roll.places count ≡ Some (Some entry)
        → slice_get world.links (link_of count) ≡ Some link → link.up ≡ false)
        → AreShut (suc count) world
    shut_still world count before now place entry link below is got = by_case (place == count) refl where
      by_case : (b : Bool) → (place == count) ≡ b → link.up ≡ false
      by_case true same =
          let here = eqb-true place count same in
          now entry link (ap (slice_get roll.places) (sym here) ∙ is) (ap (λ p. slice_get world.links (link_of p)) (sym here) ∙ got)
      by_case false apart =
          let ne = eqb-false place count apart in before place entry link (omega (arith, below, ne)) is got

    -- that of one more place is lost, and then the others are
    one_more : (count : ℕ) (Then : World → Type 0)
        → ((next : World) → StandsFor used link_of roll side next → AreShut (suc count) next
        → (links : List ℕ) × AreLost links next Then)
        → (world : World) → StandsFor used link_of roll side world → AreShut count world
        → (links : List ℕ) × AreLost links world Then
    one_more count Then rest world stands before = by_place (slice_get roll.places count) refl where
      by_link : (link : Link) → slice_get world.links (link_of count) ≡ Some link → (up : Bool) → link.up ≡ up
          → (links : List ℕ) × AreLost links world Then
      by_link link got true up =
          let next = with_link (link_of count) (shut link) world in
          let loses = lost world (link_of count) link stands got up in
          let more = rest next loses.1 (shut_more world (link_of count) link count got refl before) in
          (link_of count ∷ more.0, record { next = next; enabled = loses.0; behind = more.1 })
      by_link link got false down =
          rest world stands (shut_still world count before (λ entry one there is_one.
          ap (λ (l : Link). l.up) (same_Some one link (sym is_one ∙ got)) ∙ down))

      by_place : (found : Option (Option (Entry H))) → slice_get roll.places count ≡ found
          → (links : List ℕ) × AreLost links world Then
      by_place None is =
          rest world stands (shut_still world count before
          (λ entry link there got. absurd (none-some (Some entry) (sym is ∙ there))))
      by_place (Some None) is =
          rest world stands (shut_still world count before (λ entry link there got.
          absurd (none-some entry (same_Some None (Some entry) (sym is ∙ there)))))
      by_place (Some (Some entry)) is = let own = stands.ends count entry is in by_link own.0 own.1 own.0.up refl

    -- those of all places are lost, from this place on
    all_lost : (total : ℕ) (Then : World → Type 0)
        → ((world : World) → StandsFor used link_of roll side world → AreShut total world → Then world)
        → (left count : ℕ) → left + count ≡ total → (world : World) → StandsFor used link_of roll side world → AreShut count world
        → (links : List ℕ) × AreLost links world Then
    all_lost total Then then zero count even world stands before =
        let same : count ≡ total = omega (arith, even) in
        ([], then world stands (subst (λ (n : ℕ). AreShut n world) same before))
    all_lost total Then then (suc left) count even world stands before =
        one_more count Then (all_lost total Then then left (suc count) (omega (arith, even))) world stands before

    -- where all are closed, all ends may be hung up
    stopped : (roll_now : RollState H) (world : World) → StopsAll used roll roll_now → StandsFor used link_of roll side world
        → AreShut (length roll.places) world → StandsFor used link_of roll_now side world
    stopped roll_now world stops stands all_shut = record {
      kept = stands.kept;
      note = stands.note ∙ sym stops.note;
      ends = λ place entry is.
          let was = stood roll.places roll_now.places place entry stops.hung is in
          let own = stands.ends place was.0 was.1 in (
            own.0,
            own.1,
            record {
              run = own.2.run;
              entered = own.2.entered ∙ ap (λ (at : ℕ). Some at) (sym was.2);
              hung = λ was_used. all_shut place was.0 own.0 (slice_get_within roll.places place (Some was.0) was.1) was.1 own.1;
            },
          );
      published = stands.published;
      rising = stands.rising;
      committed = record { earlier = stands.committed.earlier; all = stands.committed.all };
      last = stands.last;
      decided = stands.decided;
    }

  pub stops_all : (link_of : ℕ → ℕ) (roll roll_now : RollState H) (side : AdminSide) (world : World)
      → StandsFor used link_of roll side world → StopsAll used roll roll_now
      → (links : List ℕ) × AreLost links world (StandsFor used link_of roll_now side)
  stops_all link_of roll roll_now side world stands stops =
      all_lost link_of roll side (length roll.places) (StandsFor used link_of roll_now side)
      (λ next still all_shut. stopped link_of roll side roll_now next stops still all_shut)
      (length roll.places) 0 (omega arith) world stands (λ place entry link below. absurd (omega (arith, below)))
