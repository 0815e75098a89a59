-- A service that is started behind a crash is what the world is behind a stop.
use Rattle.std.proofs.Common.{◌≡◌, inl, inr, ◌∙◌, ℕ, Bool, true, false, List, [], ◌∷◌, ◌++◌, Option, Some, None, refl, sym, ap, subst, arith}
use Rattle.desk_state.specs.DeskState.{DeskState}
use Rattle.desk_state.specs.Next.{next as next_state}
use Rattle.desk_state.specs.declared.commands.Command.{Command}
use Rattle.live_roll.specs.Roll.{RollState}
use Rattle.live_desk.specs.History.{Rises, last_commit}
use Rattle.admin_door.specs.Side.{AdminSide}
use Rattle.desk_world.specs.World.{World, fresh, latest, with_commit}
use Rattle.desk_world.specs.Commits.{may_store, committed, restarted}
use Rattle.desk_world.specs.Events.{after}
use Rattle.desk_world.specs.Kept.{IsKept}
use Rattle.desk_world.specs.declared.events.Event.TheVariants.{Stop}
use Rattle.desk_world.proofs.Committing.{latest-push}
use Rattle.desk_world.proofs.Runs.{fresh_is}
use Rattle.event_laws.specs.Happens.{Happens}
use Rattle.event_laws.specs.Service.{StandsFor, IsHistory, unpublished}
use Rattle.event_laws.specs.Store.{IsLeftBehind, IsStarted}
use Rattle.event_laws.proofs.Enabled.{when_enabled, happens}
use Rattle.event_laws.proofs.Ends.{ends_none}
use Rattle.event_laws.proofs.History.{with_last}
use Rattle.event_laws.proofs.Storing.{all_published}

module _ {H : Type 0} (used : H → Bool) (link_of : ℕ → ℕ) (workers : ℕ) (desk : DeskState) (roll : RollState H) (side : AdminSide)
    (started : IsStarted desk workers roll side) where
  -- the committed states of a world whose last one this is
  with_this : (world : World) → latest world ≡ desk → IsHistory side world
  with_this world same =
      let split = with_last world.first world.later in
      let published : last_commit 0 side.published ≡ desk.commit = ap (last_commit 0) started.published in
      let kept = ap (λ (d : DeskState). d.commit) started.kept in
      record {
        earlier = split.0;
        all = split.1
            ∙ (ap (λ (d : DeskState). split.0 ++ d ∷ []) same
            ∙ (ap (λ (list : List DeskState). split.0 ++ list) (sym (started_all started.published
            (all_published side.desk side.published (omega (arith, published, kept)))))));
      } where
        started_all : side.published ≡ desk ∷ [] → unpublished side.desk side.published ≡ []
            → side.published ++ unpublished side.desk side.published ≡ desk ∷ []
        started_all is none = ap (λ (list : List DeskState). side.published ++ list) none ∙ ap (λ (list : List DeskState). list ++ []) is

  -- the world that is started with this state
  pub starts_fresh : StandsFor used link_of roll side (fresh desk)
  starts_fresh =
      let all = with_this (fresh desk) refl in
      record {
        kept = fresh_is desk;
        note = sym started.registry.note;
        ends = ends_none used link_of 0 roll.places [] started.registry.vacant;
        published = sym (ap (last_commit 0) started.published);
        rising = subst (λ (list : List DeskState). Rises list) (sym started.published) tt;
        committed = record { earlier = all.earlier; all = all.all };
        last = sym started.kept;
        decided = sym started.decided;
      }

  -- the world that is started again from this state
  starts : (before world : World) (command : Option Command) (kept_it : Bool) → IsKept before
      → latest world ≡ desk → after (Stop command kept_it) before ≡ Some (restarted world)
      → Happens (Stop command kept_it) before (StandsFor used link_of roll side)
  starts before world command kept_it kept same enabled =
      let commit = ap (λ (d : DeskState). d.commit) same in
      happens (Stop command kept_it) before (restarted world) (StandsFor used link_of roll side) kept enabled
      (λ kept. record {
        kept = kept;
        note = commit ∙ sym started.registry.note;
        ends = ends_none used link_of (restarted world).run roll.places (restarted world).links started.registry.vacant;
        published = commit ∙ sym (ap (last_commit 0) started.published);
        rising = subst (λ (list : List DeskState). Rises list) (sym started.published) tt;
        committed = let all = with_this world same in record { earlier = all.earlier; all = all.all };
        last = same ∙ sym started.kept;
        decided = sym started.decided;
      })

  pub starts_behind : (roll_then : RollState H) (then : AdminSide) (world : World) → StandsFor used link_of roll_then then world
      → IsLeftBehind then world desk
      → (command : Option Command) × (kept : Bool) × Happens (Stop command kept) world (StandsFor used link_of roll side)
  starts_behind roll_then then world stands (inl (inl before)) = (
    None,
    false,
    starts world world None false stands.kept (stands.last ∙ sym before) refl,
  )
  starts_behind roll_then then world stands (inl (inr waits)) = (
    None,
    true,
    starts world (with_commit desk world) None true stands.kept (latest-push world.first world.later desk)
        (ap (λ (new : Option DeskState). Some (restarted (committed new world))) waits),
  )
  starts_behind roll_then then world stands (inr (command, may, is)) =
      let new = next_state (latest world) command in
      let same : new ≡ desk = ap (λ (d : DeskState). next_state d command) stands.last ∙ sym is in (
        Some command,
        true,
        starts world (with_commit new world) (Some command) true stands.kept (latest-push world.first world.later new ∙ same)
            (when_enabled (may_store command world) (restarted (with_commit new world)) may),
      )
