-- What happens in the registry of connections is an event.
use Rattle.std.proofs.Common.{◌≡◌, inl, inr, ◌≤◌, ℕ, Bool, true, false, ◌&&◌, ◌==◌, Some, None, refl, sym, ap, subst, ◌∙◌, arith}
use Rattle.std.specs.Prelude.{slice_get, is_none}
use Rattle.std.proofs.lemmas.Bool.{and_from, eq-eqb}
use Rattle.live_roll.specs.Roll.{RollState, with_entry, LeavesPlace, HangsTo}
use Rattle.live_desk.specs.History.{last_commit}
use Rattle.live_desk.specs.Seat.{SeatState, EntersAt}
use Rattle.admin_door.specs.Side.{AdminSide}
use Rattle.desk_world.specs.World.{World, with_link}
use Rattle.desk_world.specs.Commits.{hang}
use Rattle.desk_world.specs.Links.{enter_at}
use Rattle.desk_world.specs.declared.events.Event.TheVariants.{Connect, Hang, Lose}
use Rattle.desk_world.specs.declared.events.Half.TheVariants.{Enter}
use Rattle.desk_world.specs.declared.links.Link.{Link}
use Rattle.desk_world.proofs.Lists.{get-set_same}
use Rattle.event_laws.specs.Happens.{Happens, HoldsOrHappens}
use Rattle.event_laws.specs.Service.{StandsFor, entered_in}
use Rattle.event_laws.proofs.Enabled.{some_enabled, when_enabled, happens, no_some}
use Rattle.event_laws.proofs.Ends.{ends_entered, ends_hung, ends_left, ends_relinked}

module _ {H : Type 0} (used : H → Bool) where
  pub enters : (link_of : ℕ → ℕ) (roll : RollState H) (side : AdminSide) (world : World) (link : ℕ) (found : Link) (end : H) (note : ℕ)
      (seat seat_now : SeatState)
      → StandsFor used link_of roll side world → slice_get world.links link ≡ Some found → found.run ≡ world.run
      → found.entered ≡ None → used end ≡ false → note ≡ roll.note → EntersAt note seat seat_now
      → Happens (Connect (Enter link)) world (λ next.
      StandsFor used (entered_in seat.number link link_of) (with_entry seat.number end roll) side next
      × (slice_get next.links link ≡ Some (record found { entered = Some note; seen = note })) × (note ≤ seat_now.note))
  enters link_of roll side world link found end note seat seat_now stands there run free unused noted told =
      let changed : Link = record found { entered = Some world.note; seen = world.note } in
      let next : World = with_link link changed world in
      let same : world.note ≡ note = stands.note ∙ sym noted in
      let high = ap (λ (s : SeatState). s.note) told.told in
      happens (Connect (Enter link)) world next (λ next.
      StandsFor used (entered_in seat.number link link_of) (with_entry seat.number end roll) side next
      × (slice_get next.links link ≡ Some (record found { entered = Some note; seen = note })) × (note ≤ seat_now.note))
      stands.kept
      (some_enabled (slice_get world.links link) found (λ found. enter_at link found world) next there
      (when_enabled (found.run == world.run && is_none found.entered) next
      (and_from (found.run == world.run) (is_none found.entered) (eq-eqb found.run world.run run) (no_some found.entered free))))
      (λ kept. (
        record {
          kept = kept;
          note = stands.note;
          ends = ends_entered used link_of world.run roll.places world.links seat.number link found changed
              (record { end = end; entered = roll.note; has_left = false }) there free
              (record {
                run = run;
                entered = ap (λ (at : ℕ). Some at) stands.note;
                hung = λ was_used. absurd (cc (unused, was_used));
              })
              stands.ends;
          published = stands.published;
          committed = record { earlier = stands.committed.earlier; all = stands.committed.all };
          rising = stands.rising;
          last = stands.last;
          decided = stands.decided;
        },
        get-set_same world.links link found changed there
            ∙ ap (λ (at : ℕ). Some (record found { entered = Some at; seen = at })) same,
        omega (arith, high),
      ))

  pub hangs : (link_of : ℕ → ℕ) (roll roll_now : RollState H) (side : AdminSide) (world : World)
      → StandsFor used link_of roll side world → HangsTo used (last_commit 0 side.published) roll roll_now
      → Happens Hang world (StandsFor used link_of roll_now side)
  hangs link_of roll roll_now side world stands hung =
      let low = stands.kept.ordered.note in
      let same : world.published ≡ roll_now.note = omega (arith, low, stands.note, stands.published, hung.note) in
      happens Hang world (hang world) (StandsFor used link_of roll_now side) stands.kept refl
      (λ kept. record {
        kept = kept;
        note = same;
        ends = ends_hung used link_of world.run roll_now.note world.published roll.places roll_now.places world.links same hung.hung
            stands.ends;
        published = stands.published;
        committed = record { earlier = stands.committed.earlier; all = stands.committed.all };
        rising = stands.rising;
        last = stands.last;
        decided = stands.decided;
      })

  pub leaves : (link_of : ℕ → ℕ) (roll roll_now : RollState H) (side : AdminSide) (world : World) (seat : ℕ) (found : Link)
      → StandsFor used link_of roll side world → slice_get world.links (link_of seat) ≡ Some found
      → LeavesPlace used seat roll roll_now
      → HoldsOrHappens (Lose (link_of seat)) world (λ next.
      (slice_get next.links (link_of seat) ≡ Some (record found { up = false })) × StandsFor used link_of roll_now side next)
  leaves link_of roll roll_now side world seat found stands there left = by_case found.up refl where
    with_place : (next : World) → StandsFor used link_of roll side next → (one : Link) → slice_get next.links (link_of seat) ≡ Some one
        → one.up ≡ false → StandsFor used link_of roll_now side next
    with_place next still one got down =
        subst (λ (now : RollState H). StandsFor used link_of now side next) (sym left.2)
        (record {
          kept = still.kept;
          note = still.note;
          ends = ends_left used link_of next.run roll.places next.links seat one left.0 got down left.1 still.ends;
          published = still.published;
          committed = still.committed;
          rising = still.rising;
          last = still.last;
          decided = still.decided;
        })

    shut : Link
    shut = record found { up = false }

    IsShut : World → Type 0
    IsShut next = (slice_get next.links (link_of seat) ≡ Some shut) × StandsFor used link_of roll_now side next

    by_case : (up : Bool) → found.up ≡ up → HoldsOrHappens (Lose (link_of seat)) world IsShut
    by_case true up =
        inr (happens (Lose (link_of seat)) world (with_link (link_of seat) shut world) IsShut stands.kept
        (some_enabled (slice_get world.links (link_of seat)) found _ (with_link (link_of seat) shut world) there
        (when_enabled found.up (with_link (link_of seat) shut world) up))
        (λ kept. (
          get-set_same world.links (link_of seat) found shut there,
          with_place (with_link (link_of seat) shut world)
              (record {
                kept = kept;
                note = stands.note;
                ends = ends_relinked used link_of world.run roll.places world.links (link_of seat) found shut there refl refl (λ down. refl)
                    stands.ends;
                published = stands.published;
                committed = record { earlier = stands.committed.earlier; all = stands.committed.all };
                rising = stands.rising;
                last = stands.last;
                decided = stands.decided;
              })
              shut (get-set_same world.links (link_of seat) found shut there) refl,
        )))
    by_case false down =
        inl (there ∙ ap (λ (up : Bool). Some (record found { up = up })) down, with_place world stands found there down)
