-- What is answered as done is acknowledged.
use Rattle.std.proofs.Common.{◌≡◌, inl, inr, ◌∙◌, ◌≤◌, ◌++◌, ℕ, Bool, true, false, nat_lt, cond, List, [], ◌∷◌, Option, Some, refl, sym, ap, arith}
use mathlib.Core.List.{IsPrefix}
use Rattle.desk_ports.specs.Disk.{DiskState}
use Rattle.std.proofs.lemmas.Bool.{ltb-false}
use Rattle.desk_state.specs.DeskState.{DeskState}
use Rattle.desk_state.specs.declared.commands.Command.{Command}
use Rattle.wire_fields.specs.declared.messages.Message.{Message}
use Rattle.wire_fields.specs.declared.messages.Message.TheVariants.{Done}
use Rattle.wire_messages.specs.Commands.{command_of}
use Rattle.live_roll.specs.Events.{HasHung}
use Rattle.live_roll.specs.Roll.{RollState, IsRoll}
use Rattle.live_roll.specs.declared.events.Event.{Event}
use Rattle.live_roll.proofs.Following.{hung_below, hung_later}
use Rattle.live_desk.specs.History.{last_commit}
use Rattle.live_desk.proofs.Looks.{last_behind}
use Rattle.admin_door.specs.Adding.{IsAcknowledged}
use Rattle.admin_door.specs.Side.{AdminSide, with_shown}
use Rattle.admin_door.specs.Settling.{Settles, with_last_shown}
use Rattle.admin_door.specs.Due.{AreDue}
use Rattle.desk_world.specs.World.{World, last}
use Rattle.desk_world.specs.declared.events.Event.TheVariants.{Acknowledge}
use Rattle.event_laws.specs.Happens.{HoldsOrHappens}
use Rattle.event_laws.specs.Service.{StandsFor}
use Rattle.event_laws.proofs.Enabled.{when_enabled, happens}

-- what is settled is known to be kept, and published
settled : (found now : AdminSide) → found.decided ≡ true → now ≡ with_last_shown found → last_commit 0 now.published ≤ now.desk.commit
    → (now.decided ≡ true) × (last_commit 0 now.published ≡ now.desk.commit)
settled found now decided shown low = by_case (nat_lt (last_commit 0 found.published) found.desk.commit) refl shown where
  by_case : (b : Bool) → nat_lt (last_commit 0 found.published) found.desk.commit ≡ b
      → now ≡ cond b (with_shown found.desk found) found
      → (now.decided ≡ true) × (last_commit 0 now.published ≡ now.desk.commit)
  by_case true newer is = (
    ap (λ (side : AdminSide). side.decided) is ∙ decided,
    ap (λ (side : AdminSide). last_commit 0 side.published) is
        ∙ (last_behind found.published (found.published ++ found.desk ∷ []) found.desk refl
        ∙ sym (ap (λ (side : AdminSide). side.desk.commit) is)),
  )
  by_case false above is =
      let high = ltb-false (last_commit 0 found.published) found.desk.commit above in
      let kept = ap (λ (side : AdminSide). side.desk.commit) is in
      let last = ap (λ (side : AdminSide). last_commit 0 side.published) is in
      (ap (λ (side : AdminSide). side.decided) is ∙ decided, omega (arith, low, high, kept, last))

module _ {H : Type 0} (used : H → Bool) (link_of : ℕ → ℕ) (roll : RollState H) (now : AdminSide) (world : World)
    (stands : StandsFor used link_of roll now world) where
  abbrev acknowledged : World
  acknowledged = record world { acknowledged = world.note }

  -- the note is acknowledged, or it is now
  of_note : (Then : World → Type 0) → (world.acknowledged ≡ world.note → Then world)
      → (StandsFor used link_of roll now acknowledged → Then acknowledged) → HoldsOrHappens Acknowledge world Then
  of_note Then already then = by_case (nat_lt world.acknowledged world.note) refl where
    by_case : (b : Bool) → nat_lt world.acknowledged world.note ≡ b → HoldsOrHappens Acknowledge world Then
    by_case true below =
        inr (happens Acknowledge world acknowledged Then stands.kept
        (when_enabled (nat_lt world.acknowledged world.note) acknowledged below)
        (λ kept. then (record {
          kept = kept;
          note = stands.note;
          ends = stands.ends;
          published = stands.published;
          rising = stands.rising;
          committed = record { earlier = stands.committed.earlier; all = stands.committed.all };
          last = stands.last;
          decided = stands.decided;
        })))
    by_case false above =
        let low = ltb-false world.acknowledged world.note above in
        let high = stands.kept.ordered.acknowledged in inl (already (omega (arith, low, high)))

  pub even_so : last_commit 0 now.published ≡ now.desk.commit → roll.note ≡ last_commit 0 now.published
      → HoldsOrHappens Acknowledge world (λ next. (next.acknowledged ≡ last next) × StandsFor used link_of roll now next)
  even_so even hung =
      let same : world.note ≡ last world =
      stands.note ∙ (hung ∙ (even ∙ sym (ap (λ (desk : DeskState). desk.commit) stands.last))) in
      of_note (λ next. (next.acknowledged ≡ last next) × StandsFor used link_of roll now next) (λ is. (is ∙ same, stands))
      (λ still. (same, still))

  pub settled_so : (old : AdminSide) (told : Option DiskState) → Settles told old now → roll.note ≡ last_commit 0 now.published
      → HoldsOrHappens Acknowledge world (λ next.
      (now.decided ≡ true) × (next.acknowledged ≡ last next) × StandsFor used link_of roll now next)
  settled_so old told settles hung =
      let commit = ap (λ (desk : DeskState). desk.commit) stands.last in
      let high = stands.kept.ordered.published in
      let both = settled settles.found now settles.is_found.decided settles.shown (omega (arith, commit, high, stands.published)) in
      let same : world.note ≡ last world = stands.note ∙ (hung ∙ (both.1 ∙ sym commit)) in
      of_note (λ next. (now.decided ≡ true) × (next.acknowledged ≡ last next) × StandsFor used link_of roll now next)
      (λ is. (both.0, is ∙ same, stands)) (λ still. (both.0, same, still))

  pub answered_so : (message : Message) (hangs : List Event) (replies : List Message) (command : Command) (commit erased : ℕ)
      → IsRoll used roll → IsPrefix hangs roll.events → AreDue message now hangs replies → command_of message ≡ Some command
      → replies ≡ Done commit erased ∷ []
      → HoldsOrHappens Acknowledge world (λ next. (next.acknowledged ≡ commit) × StandsFor used link_of roll now next)
  answered_so message hangs replies command commit erased is_roll begins due is_command done =
      let both = due.acknowledged command commit erased is_command done in
      let acknowledges : IsAcknowledged now commit = both.0 in
      let hung : HasHung roll.events commit = hung_later hangs roll.events commit begins both.1 in
      let low = hung_below roll.opened roll.events hung.0 commit hung.1 in
      let at_last : last_commit 0 now.published ≡ commit =
      last_behind acknowledges.last.0 now.published now.desk acknowledges.last.1 ∙ acknowledges.kept in
      let high = stands.kept.ordered.note in
      let same : world.note ≡ commit = omega (arith, low, high, at_last, stands.note, stands.published, is_roll.noted) in
      of_note (λ next. (next.acknowledged ≡ commit) × StandsFor used link_of roll now next) (λ is. (is ∙ same, stands))
      (λ still. (same, still))
