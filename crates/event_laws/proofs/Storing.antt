-- What an administrator's worker keeps and publishes is an event.
use Rattle.std.proofs.Common.{◌≡◌, inl, inr, ◌∙◌, ◌<◌, ◌≤◌, ◌&&◌, ◌==◌, ℕ, Bool, true, false, nat_lt, cond, List, [], ◌∷◌, ◌++◌, Option, Some, None, refl, sym, ap, subst, append_assoc, arith}
use Rattle.std.specs.Prelude.{is_none}
use Rattle.std.proofs.lemmas.Bool.{and_from, eq-eqb, lt-ltb, le-ltb}
use Rattle.std.proofs.lemmas.List.{append-nil}
use Rattle.desk_ports.specs.Disk.{DiskState}
use Rattle.desk_state.specs.DeskState.{DeskState}
use Rattle.desk_state.specs.Next.{next as next_state}
use Rattle.desk_state.specs.Rules.{fault}
use Rattle.desk_state.specs.declared.commands.Command.{Command}
use Rattle.wire_fields.specs.declared.messages.Message.{Message}
use Rattle.live_roll.specs.Roll.{RollState}
use Rattle.live_desk.specs.History.{last_commit}
use Rattle.live_desk.proofs.Looks.{shown_behind, last_behind}
use Rattle.admin_door.specs.Side.{AdminSide, with_kept, with_shown, with_fault}
use Rattle.admin_door.specs.Answering.{IsDone, IsUnpublished, HasFailed}
use Rattle.admin_door.specs.Settling.{IsFound}
use Rattle.desk_world.specs.World.{World, history, latest, last, with_commit}
use Rattle.desk_world.specs.Commits.{may_store, decided}
use Rattle.desk_world.specs.declared.events.Event.TheVariants.{Stored, Undecided, Decide, Publish}
use Rattle.desk_world.proofs.Committing.{latest-push}
use Rattle.event_laws.specs.Happens.{Happens}
use Rattle.event_laws.specs.Service.{StandsFor, unpublished}
use Rattle.event_laws.specs.Store.{IsFoundAs}
use Rattle.event_laws.proofs.Enabled.{some_enabled, when_enabled, happens, no_some}

pub done_so : (command : Command) (settled now : AdminSide) (replies : List Message) → IsDone command settled now replies
    → (between : AdminSide) × IsUnpublished command settled between × (now ≡ with_shown between.desk between)
done_so command settled now replies done =
    (with_kept (next_state settled.desk command) settled, (done.accepted, refl), done.leaves)

-- ---- what is published of what is kept

pub all_published : (desk : DeskState) (published : List DeskState) → desk.commit ≤ last_commit 0 published
    → unpublished desk published ≡ []
all_published desk published le = ap (λ b. cond b (desk ∷ []) []) (le-ltb (last_commit 0 published) desk.commit le)

pub one_unpublished : (desk : DeskState) (published : List DeskState) → last_commit 0 published < desk.commit
    → unpublished desk published ≡ desk ∷ []
one_unpublished desk published lt = ap (λ b. cond b (desk ∷ []) []) (lt-ltb (last_commit 0 published) desk.commit lt)

-- one state more is kept where all were published
pub kept_more : (all earlier published : List DeskState) (desk new : DeskState) → desk.commit ≤ last_commit 0 published
    → last_commit 0 published < new.commit → all ≡ earlier ++ (published ++ unpublished desk published)
    → all ++ new ∷ [] ≡ earlier ++ (published ++ unpublished new published)
kept_more all earlier published desk new le lt is =
    ap (λ (list : List DeskState). list ++ new ∷ []) is
    ∙ (ap (λ (list : List DeskState). (earlier ++ (published ++ list)) ++ new ∷ []) (all_published desk published le)
    ∙ (ap (λ (list : List DeskState). (earlier ++ list) ++ new ∷ []) (append-nil published)
    ∙ (append_assoc earlier published (new ∷ [])
    ∙ ap (λ (list : List DeskState). earlier ++ (published ++ list)) (sym (one_unpublished new published lt)))))

module _ {H : Type 0} (used : H → Bool) (link_of : ℕ → ℕ) (roll : RollState H) where
  -- ---- a commit

  may_store_here : (side : AdminSide) (world : World) (command : Command) → StandsFor used link_of roll side world
      → side.decided ≡ true → world.acknowledged ≡ last world → fault side.desk command ≡ None → may_store command world ≡ true
  may_store_here side world command stands decided_so even accepted =
      and_from (world.acknowledged == last world) (is_none world.candidate && is_none (fault (latest world) command))
      (eq-eqb world.acknowledged (last world) even)
      (and_from (is_none world.candidate) (is_none (fault (latest world) command)) (stands.decided ∙ decided_so)
      (no_some (fault (latest world) command) (ap (λ (desk : DeskState). fault desk command) stands.last ∙ accepted)))

  -- what is kept is published, where it is acknowledged
  even_here : (side : AdminSide) (world : World) → StandsFor used link_of roll side world → world.acknowledged ≡ last world
      → side.desk.commit ≤ last_commit 0 side.published
  even_here side world stands even =
      let one = stands.kept.ordered.acknowledged in
      let two = stands.kept.ordered.note in
      let same = ap (λ (desk : DeskState). desk.commit) stands.last in
      omega (arith, one, two, same, even, stands.published)

  pub stores : (side now : AdminSide) (world : World) (command : Command) → StandsFor used link_of roll side world
      → side.decided ≡ true → world.acknowledged ≡ last world → IsUnpublished command side now
      → Happens (Stored command) world (StandsFor used link_of roll now)
  stores side now world command stands decided_so even (accepted, is) =
      let new = next_state (latest world) command in
      let next = with_commit new world in
      let same : new ≡ next_state side.desk command = ap (λ (desk : DeskState). next_state desk command) stands.last in
      let le = even_here side world stands even in
      let high = stands.kept.ordered.published in
      let commit = ap (λ (desk : DeskState). desk.commit) stands.last in
      let of_new : Happens (Stored command) world (StandsFor used link_of roll (with_kept new side)) =
      happens (Stored command) world next (StandsFor used link_of roll (with_kept new side)) stands.kept
      (when_enabled (may_store command world) next (may_store_here side world command stands decided_so even accepted))
      (λ kept. record {
        kept = kept;
        note = stands.note;
        ends = stands.ends;
        published = stands.published;
        rising = stands.rising;
        committed = record {
          earlier = stands.committed.earlier;
          all = kept_more (history world) stands.committed.earlier side.published side.desk new le
              (omega (arith, high, stands.published)) stands.committed.all;
        };
        last = latest-push world.first world.later new;
        decided = stands.decided ∙ decided_so;
      }) in
      subst (λ (now : AdminSide). Happens (Stored command) world (StandsFor used link_of roll now))
      (ap (λ (desk : DeskState). with_kept desk side) same ∙ sym is) of_new

  pub fails : (side now : AdminSide) (world : World) (command : Command) (replies : List Message)
      → StandsFor used link_of roll side world → side.decided ≡ true → world.acknowledged ≡ last world
      → HasFailed command side now replies → Happens (Undecided command) world (StandsFor used link_of roll now)
  fails side now world command replies stands decided_so even failed =
      let next : World = record world { candidate = Some (next_state (latest world) command) } in
      subst (λ (now : AdminSide). Happens (Undecided command) world (StandsFor used link_of roll now)) (sym failed.leaves)
      (happens (Undecided command) world next (StandsFor used link_of roll (with_fault side)) stands.kept
      (when_enabled (may_store command world) next
      (may_store_here side world command stands decided_so even failed.accepted))
      (λ kept. record {
        kept = kept;
        note = stands.note;
        ends = stands.ends;
        published = stands.published;
        rising = stands.rising;
        committed = record { earlier = stands.committed.earlier; all = stands.committed.all };
        last = stands.last;
        decided = refl;
      }))

  -- ---- a remount

  pub decides : (old now : AdminSide) (world : World) (told : Option DiskState) → StandsFor used link_of roll old world
      → old.decided ≡ false → IsFound told old now → IsFoundAs old world now.desk
      → (kept : Bool) × Happens (Decide kept) world (StandsFor used link_of roll now)
  decides old now world told stands undecided found found_as = by_case world.candidate refl found_as where
    now_is : now ≡ with_kept now.desk old
    now_is = found.rest ∙ ap (λ (b : Bool). record old { desk = now.desk; decided = b }) found.decided

    back : (desk : DeskState) → now.desk ≡ desk → (kept : Bool) → Happens (Decide kept) world (StandsFor used link_of roll (with_kept desk old))
        → (kept : Bool) × Happens (Decide kept) world (StandsFor used link_of roll now)
    back desk same kept happened = (
      kept,
      subst (λ (now : AdminSide). Happens (Decide kept) world (StandsFor used link_of roll now))
          (ap (λ (d : DeskState). with_kept d old) (sym same) ∙ sym now_is) happened,
    )

    by_case : (candidate : Option DeskState) → world.candidate ≡ candidate → IsFoundAs old world now.desk
        → (kept : Bool) × Happens (Decide kept) world (StandsFor used link_of roll now)
    by_case None none found_as =
        absurd (cc (ap is_none none, stands.decided, undecided))
    by_case (Some new) waits (inl before) =
        let next : World = record world { candidate = None } in
        back old.desk before false
        (happens (Decide false) world next (StandsFor used link_of roll (with_kept old.desk old)) stands.kept
        (some_enabled world.candidate new (λ desk. Some (decided false desk world)) next waits refl)
        (λ kept. record {
          kept = kept;
          note = stands.note;
          ends = stands.ends;
          published = stands.published;
          rising = stands.rising;
          committed = record { earlier = stands.committed.earlier; all = stands.committed.all };
          last = stands.last;
          decided = refl;
        }))
    by_case (Some new) waits (inr behind) =
        let next : World = record (with_commit new world) { candidate = None } in
        let even = sym (stands.kept.ordered.candidate new waits) in
        let le = even_here old world stands even in
        let follows = stands.kept.candidate new waits in
        let up = ap (λ (desk : DeskState). desk.commit) follows.next in
        let high = stands.kept.ordered.published in
        let same : new ≡ now.desk = cc (waits, behind) in
        back new (sym same) true
        (happens (Decide true) world next (StandsFor used link_of roll (with_kept new old)) stands.kept
        (some_enabled world.candidate new (λ desk. Some (decided true desk world)) next waits refl)
        (λ kept. record {
          kept = kept;
          note = stands.note;
          ends = stands.ends;
          published = stands.published;
          rising = stands.rising;
          committed = record {
            earlier = stands.committed.earlier;
            all = kept_more (history world) stands.committed.earlier old.published old.desk new le
                (omega (arith, high, up, stands.published)) stands.committed.all;
          };
          last = latest-push world.first world.later new;
          decided = refl;
        }))

  -- ---- a publication

  pub publishes : (side : AdminSide) (world : World) → StandsFor used link_of roll side world → side.decided ≡ true
      → last_commit 0 side.published < side.desk.commit
      → Happens Publish world (StandsFor used link_of roll (with_shown side.desk side))
  publishes side world stands decided_so newer =
      let next : World = record world { published = last world } in
      let commit = ap (λ (desk : DeskState). desk.commit) stands.last in
      let all = side.published ++ side.desk ∷ [] in
      let now_last = last_behind side.published all side.desk refl in
      happens Publish world next (StandsFor used link_of roll (with_shown side.desk side)) stands.kept
      (when_enabled (is_none world.candidate && nat_lt world.published (last world)) next
      (and_from (is_none world.candidate) (nat_lt world.published (last world)) (stands.decided ∙ decided_so)
      (lt-ltb world.published (last world) (omega (arith, newer, commit, stands.published)))))
      (λ kept. record {
        kept = kept;
        note = stands.note;
        ends = stands.ends;
        published = commit ∙ sym now_last;
        rising = (shown_behind side.published all side.desk refl stands.rising newer).1;
        committed = record {
          earlier = stands.committed.earlier;
          all = stands.committed.all
              ∙ ap (λ (list : List DeskState). stands.committed.earlier ++ list)
              (ap (λ (list : List DeskState). side.published ++ list) (one_unpublished side.desk side.published newer)
              ∙ (sym (append-nil all)
              ∙ ap (λ (list : List DeskState). all ++ list) (sym (all_published side.desk all (omega (arith, now_last))))));
        };
        last = stands.last;
        decided = stands.decided;
      })
