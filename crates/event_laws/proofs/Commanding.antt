-- A command that is answered as done is four events in turn.
use Rattle.std.proofs.Common.{◌≡◌, inl, inr, ◌∙◌, ◌<◌, ◌++◌, ℕ, Bool, true, List, [], ◌∷◌, refl, sym, ap, subst, arith}
use Rattle.desk_state.specs.DeskState.{DeskState}
use Rattle.desk_state.specs.Next.{next as next_state}
use Rattle.desk_state.specs.declared.commands.Command.{Command}
use Rattle.wire_fields.specs.declared.messages.Message.{Message}
use Rattle.live_roll.specs.Roll.{RollState, HangsTo}
use Rattle.live_desk.specs.History.{last_commit}
use Rattle.live_desk.proofs.Looks.{last_behind}
use Rattle.admin_door.specs.Side.{AdminSide, with_kept, with_shown}
use Rattle.admin_door.specs.Answering.{IsDone}
use Rattle.desk_world.specs.World.{World, last}
use Rattle.desk_world.specs.declared.events.Event.{Event}
use Rattle.desk_world.specs.declared.events.Event.TheVariants.{Stored, Publish, Hang, Acknowledge}
use Rattle.event_laws.specs.Happens.{Happens, HoldsOrHappens}
use Rattle.event_laws.specs.Service.{StandsFor}
use Rattle.event_laws.proofs.Storing.{stores, publishes}
use Rattle.event_laws.proofs.Registry.{hangs}
use Rattle.event_laws.proofs.Acknowledging.{even_so}

-- an event behind which more holds
then_so : (event : Event) (world : World) (P Q : World → Type 0) → Happens event world P → ((next : World) → P next → Q next)
    → Happens event world Q
then_so event world P Q happened more =
    record { next = happened.next; enabled = happened.enabled; behind = more happened.next happened.behind }

module _ {H : Type 0} (used : H → Bool) (link_of : ℕ → ℕ) (roll roll_now : RollState H) (now : AdminSide) where
  abbrev IsEnded : World → Type 0
  IsEnded next = (now.decided ≡ true) × (next.acknowledged ≡ last next) × StandsFor used link_of roll_now now next

  with_decided : (world : World) → now.decided ≡ true
      → HoldsOrHappens Acknowledge world (λ next. (next.acknowledged ≡ last next) × StandsFor used link_of roll_now now next)
      → HoldsOrHappens Acknowledge world IsEnded
  with_decided world decided (inl already) = inl (decided, already.0, already.1)
  with_decided world decided (inr happened) =
      inr (then_so Acknowledge world (λ next. (next.acknowledged ≡ last next) × StandsFor used link_of roll_now now next) IsEnded
      happened (λ next then. (decided, then.0, then.1)))

  -- the state is published that is kept: the connections are disconnected, and it is acknowledged
  disconnected : (world : World) → now.decided ≡ true → last_commit 0 now.published ≡ now.desk.commit
      → HangsTo used (last_commit 0 now.published) roll roll_now → StandsFor used link_of roll now world
      → Happens Hang world (λ hung. HoldsOrHappens Acknowledge hung IsEnded)
  disconnected world decided even hung stands =
      let low = stands.kept.ordered.note in
      let note : roll_now.note ≡ last_commit 0 now.published = omega (arith, low, stands.note, stands.published, hung.note) in
      then_so Hang world (StandsFor used link_of roll_now now) (λ next. HoldsOrHappens Acknowledge next IsEnded)
      (hangs used link_of roll roll_now now world stands hung)
      (λ next still. with_decided next decided (even_so used link_of roll_now now next still even note))

  -- a state that was kept is published
  shown : (between : AdminSide) (world : World) → between.decided ≡ true → last_commit 0 between.published < between.desk.commit
      → now ≡ with_shown between.desk between → HangsTo used (last_commit 0 now.published) roll roll_now
      → StandsFor used link_of roll between world
      → Happens Publish world (λ published. Happens Hang published (λ hung. HoldsOrHappens Acknowledge hung IsEnded))
  shown between world decided newer is hung stands =
      let even : last_commit 0 now.published ≡ now.desk.commit =
      ap (λ (side : AdminSide). last_commit 0 side.published) is
      ∙ (last_behind between.published (between.published ++ between.desk ∷ []) between.desk refl
      ∙ sym (ap (λ (side : AdminSide). side.desk.commit) is)) in
      then_so Publish world (StandsFor used link_of roll (with_shown between.desk between))
      (λ published. Happens Hang published (λ hung. HoldsOrHappens Acknowledge hung IsEnded))
      (publishes used link_of roll between world stands decided newer)
      (λ next still. disconnected next (ap (λ (side : AdminSide). side.decided) is ∙ decided) even hung
      (subst (λ (side : AdminSide). StandsFor used link_of roll side next) (sym is) still))

  pub four_events : (settled : AdminSide) (world : World) (command : Command) (replies : List Message)
      → StandsFor used link_of roll settled world → settled.decided ≡ true → world.acknowledged ≡ last world
      → IsDone command settled now replies → HangsTo used (last_commit 0 now.published) roll roll_now
      → Happens (Stored command) world (λ stored. Happens Publish stored (λ published. Happens Hang published (λ hung.
      HoldsOrHappens Acknowledge hung IsEnded)))
  four_events settled world command replies stands decided even done hung =
      let between = with_kept (next_state settled.desk command) settled in
      let high = stands.kept.ordered.published in
      let commit = ap (λ (desk : DeskState). desk.commit) stands.last in
      let newer : last_commit 0 between.published < between.desk.commit = omega (arith, high, commit, stands.published) in
      then_so (Stored command) world (StandsFor used link_of roll between)
      (λ stored. Happens Publish stored (λ published. Happens Hang published (λ hung. HoldsOrHappens Acknowledge hung IsEnded)))
      (stores used link_of roll settled between world command stands decided even (done.accepted, refl))
      (λ next still. shown between next refl newer done.leaves hung still)
