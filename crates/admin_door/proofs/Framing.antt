-- One frame, and what stops leave while it is answered.
use Rattle.std.proofs.Common.{◌≡◌, ◌≤◌, ◌⊎◌, ◌∙◌, inl, inr, ℕ, true, List, [], ◌∷◌, ◌++◌, Option, Some, None, Ok, refl, sym, ap, subst}
use Rattle.std.proofs.Common.{arith}
use Rattle.desk_ports.specs.FileMap.{FileMap}
use Rattle.desk_ports.specs.Disk.{DiskState, MayLeave, WhereTold, IsTouchedOnly}
use Rattle.desk_ports.specs.Moments.{LeavesOnly}
use Rattle.desk_ports.proofs.Moments.{LeavesOnly-more}
use Rattle.desk_state.specs.DeskState.{DeskState}
use Rattle.desk_state.specs.Next.{next}
use Rattle.desk_state.specs.Rules.{fault}
use Rattle.desk_state.specs.declared.commands.Command.{Command}
use Rattle.guard_files.specs.Telling.{StillTells}
use Rattle.desk_keeper.specs.Kept.{Standing, standing}
use Rattle.desk_keeper.proofs.Keeping.{standing-kept}
use Rattle.desk_keeper.specs.Keeping.{IsKept, EndsKept}
use Rattle.desk_keeper.specs.Keeper.{disk_of, held_of}
use Rattle.desk_keeper.specs.declared.keeper.Keeper.{Keeper}
use Rattle.wire_messages.specs.Commands.{command_of}
use Rattle.admin_door.specs.Side.{AdminSide, decided_of}
use Rattle.admin_door.specs.Answering.{RefusesBy}
use Rattle.admin_door.specs.Serving.{Exchange, IsAnswered}
use Rattle.admin_door.specs.Stops.{KeepsKnown, StandsBy, Allows}
use Rattle.admin_door.specs.Running.{Makes, IsNotDone, LeadsTo, StandsSince, StandsBehind, ComesFrom, IsToldBehind, TellsEach, KeepsThrough}
use Rattle.admin_door.specs.Running.{RunsOver}
use Rattle.admin_door.proofs.Behind.{Did, did-answers, did-refuses}
use Rattle.admin_door.proofs.Stopping.{allows-kept, same-state}
use Rattle.admin_door.proofs.Running.{runs-then}

-- two ways to cut a list of one
cut-one : {X : Type 0} (x : X) (front back : List X) → x ∷ [] ≡ front ++ back
    → ((front ≡ []) × (back ≡ x ∷ [])) ⊎ ((front ≡ x ∷ []) × (back ≡ []))
cut-one x [] back is = inl (refl, sym is)
cut-one x (y ∷ []) [] is = inr (sym is, refl)
cut-one x (y ∷ []) (z ∷ back) is = cc
cut-one x (y ∷ z ∷ front) back is = cc

module _ (before : DiskState) (exchange : Exchange) where
  -- what the message's command makes of a state that a stop may leave
  makes-one : (desk : DeskState) (command : Command) (other : FileMap) → command_of exchange.framed.message ≡ Some command
      → standing other ≡ Ok desk → fault desk command ≡ None → Makes (standing other) exchange.framed.message (next desk command)
  makes-one desk command other asks stands accepted =
      record { desk = desk; command = command; stood = stands; asks = asks; accepted = accepted; makes = refl }

  -- at any moment
  within-one : (found : Option Command) (left : FileMap) → command_of exchange.framed.message ≡ found → StandsBy found before left
      → StandsSince before [] (exchange ∷ []) left
  within-one found left asks (inl (other, may, same)) = (other, standing other, may, refl, inl (inl same))
  within-one (Some command) left asks (inr (desk, (other, may, stands), (accepted, is))) =
      (other, standing other, may, refl, inl (inr (next desk command, makes-one desk command other asks stands accepted, is)))
  within-one None left asks (inr none) = absurd none

  -- behind it, where no command was answered as done
  behind-one : (found : Option Command) (left : FileMap) → command_of exchange.framed.message ≡ found → IsNotDone exchange
      → StandsBy found before left → StandsBehind before (exchange ∷ []) left
  behind-one found left asks not_done (inl (other, may, same)) = (other, may, (standing other, inl (not_done, refl), same))
  behind-one (Some command) left asks not_done (inr (desk, (other, may, stands), (accepted, is))) = (
    other,
    may,
    (
      Ok (next desk command),
      inr (
        next desk command,
        makes-one desk command other asks stands accepted,
        λ commit erased done. absurd (not_done command commit erased asks done),
        refl,
      ),
      is,
    ),
  )
  behind-one None left asks not_done (inr none) = absurd none

module _ {D : Type 0} (state : D → Option DiskState) (moment : D → ℕ) (left_since : D → ℕ → FileMap → Type 0) where
  module _ (old now : Keeper D) (exchange : Exchange) (old_side now_side : AdminSide)
      (counts_now : (t : ℕ) (left : FileMap) → t ≤ moment (disk_of now)
      → WhereTold (state (disk_of now)) (λ at. MayLeave at left → left_since (disk_of now) t left))
      (only_now : (left : FileMap)
      → WhereTold (state (disk_of now)) (λ at. left_since (disk_of now) (moment (disk_of now)) left → MayLeave at left))
      (stops : WhereTold (state (disk_of old)) (λ before. KeepsKnown (decided_of old) old.desk (held_of old) before
      → LeavesOnly moment left_since (disk_of old) (disk_of now) (StandsBy (command_of exchange.framed.message) before)))
      (keeps : WhereTold (state (disk_of old)) (λ before. KeepsKnown (decided_of old) old.desk (held_of old) before
      → decided_of now ≡ true → EndsKept now.desk (held_of now) (state (disk_of now))))
      (tells : StillTells (state (disk_of old)) (state (disk_of now)))
      (old_is : old_side.desk ≡ old.desk) (now_is : now_side.desk ≡ now.desk) (decided_is : now_side.decided ≡ decided_of now) where
    module _ (before : DiskState) (told : state (disk_of old) ≡ Some before)
        (known : KeepsKnown (decided_of old) old.desk (held_of old) before) (did : Did before exchange old_side now_side)
        (touched : IsTouchedOnly before) (asked_is : exchange.told ≡ Some before) where
      abbrev after : DiskState
      after = (tells before told).0

      -- what is known of the folder behind the frame
      known-now : KeepsKnown (decided_of now) now.desk (held_of now) after
      known-now decided =
          let rests = keeps before told known decided in
          subst (λ (at : DiskState). IsKept now.desk (held_of now) at)
          (same-state (state (disk_of now)) rests.0 after rests.1 (tells before told).1) rests.2

      frame-behind : (left : FileMap) → MayLeave after left → StandsBehind before (exchange ∷ []) left
      frame-behind left may = by_done did.done
        where
          by_done : IsNotDone exchange
              ⊎ ((now_side.decided ≡ true) × (other : FileMap) × MayLeave before other
              × LeadsTo (standing other) (exchange ∷ []) (Ok now_side.desk)) → StandsBehind before (exchange ∷ []) left
          by_done (inl not_done) =
              let leaves = stops before told known in
              behind-one before exchange (command_of exchange.framed.message) left refl not_done
              (leaves.each left
              (counts_now (moment (disk_of old)) left leaves.adds.later after (tells before told).1 may))
          by_done (inr (decided, other, allowed, leads)) =
              let alone = standing-kept left now.desk ((known-now (sym decided_is ∙ decided)).alone left may) in (
                other,
                allowed,
                subst (λ (at : Standing). LeadsTo (standing other) (exchange ∷ []) at) (ap Ok now_is ∙ sym alone) leads,
              )

      leaves-one : LeavesOnly moment left_since (disk_of old) (disk_of now) (StandsSince before [] (exchange ∷ []))
      leaves-one =
          LeavesOnly-more moment left_since (disk_of old) (disk_of now) (StandsBy (command_of exchange.framed.message) before)
          (StandsSince before [] (exchange ∷ []))
          (λ left is. within-one before exchange (command_of exchange.framed.message) left refl is) (stops before told known)

      abbrev IsSince : List Exchange → List Exchange → Type 0
      IsSince front back = (at : ℕ) × (moment (disk_of old) ≤ at) × (at ≤ moment (disk_of now))
          × ((left : FileMap) → left_since (disk_of now) at left → StandsSince before front back left)

      since-one : (front back : List Exchange) → exchange ∷ [] ≡ front ++ back → IsSince front back
      since-one front back is = by_cut (cut-one exchange front back is)
        where
          by_cut : ((front ≡ []) × (back ≡ exchange ∷ [])) ⊎ ((front ≡ exchange ∷ []) × (back ≡ [])) → IsSince front back
          by_cut (inl (no_front, all_back)) = (
            moment (disk_of old),
            omega arith,
            leaves-one.adds.later,
            λ left was. subst (λ (list : List Exchange). StandsSince before list back left) (sym no_front)
                (subst (λ (list : List Exchange). StandsSince before [] list left) (sym all_back) (leaves-one.each left was)),
          )
          by_cut (inr (all_front, no_back)) = (
            moment (disk_of now),
            leaves-one.adds.later,
            omega arith,
            λ left was.
                let behind = frame-behind left (only_now left after (tells before told).1 was) in
                subst (λ (list : List Exchange). StandsSince before list back left) (sym all_front)
                (subst (λ (list : List Exchange). StandsSince before (exchange ∷ []) list left) (sym no_back)
                (behind.0, standing left, behind.1, behind.2, refl)),
          )

      tells-one : TellsEach before (exchange ∷ [])
      tells-one [] back other is =
          let same : exchange ≡ other = cc in
          subst (λ (one : Exchange). IsToldBehind before [] one.told) same (record {
            found = before;
            told_is = asked_is;
            read = touched;
            behind = λ left may. (left, may, refl);
          })
      tells-one (one ∷ []) back other is = cc
      tells-one (one ∷ two ∷ front) back other is = cc

      keeps-one : KeepsThrough state moment left_since old now before (exchange ∷ [])
      keeps-one = record {
        after = after;
        told = (tells before told).1;
        leaves = leaves-one;
        behind = frame-behind;
        since = since-one;
        tells = tells-one;
        desk = subst (λ (last : DeskState). ComesFrom before last (exchange ∷ []) now.desk) old_is
            (subst (λ (desk : DeskState). ComesFrom before old_side.desk (exchange ∷ []) desk) now_is did.desk);
        known = known-now;
      }

    module _ (touched_only : WhereTold (state (disk_of old)) IsTouchedOnly) (told_is : exchange.told ≡ state (disk_of old))
        (knew : old_side.decided ≡ decided_of old) where
      allowed : (before : DiskState) → KeepsKnown (decided_of old) old.desk (held_of old) before → old_side.decided ≡ true
          → Allows before old_side.desk
      allowed before known decided =
          subst (λ (desk : DeskState). Allows before desk) (sym old_is)
          (allows-kept before old.desk (held_of old) (known (sym knew ∙ decided)))

      -- the frame is answered
      pub runs-answered : IsAnswered exchange old_side now_side → RunsOver state moment left_since old now (exchange ∷ [])
      runs-answered answers before told known =
          keeps-one before told known
          (did-answers before (touched_only before told) exchange old_side exchange.told (told_is ∙ told) (allowed before known)
          (command_of exchange.framed.message) now_side refl answers)
          (touched_only before told) (told_is ∙ told)

      -- it is not
      pub runs-refused : exchange.replies ≡ [] → RefusesBy exchange.told (command_of exchange.framed.message) old_side now_side
          → RunsOver state moment left_since old now (exchange ∷ [])
      runs-refused none refuses before told known =
          keeps-one before told known
          (did-refuses before (touched_only before told) exchange old_side exchange.told (told_is ∙ told) (allowed before known)
          (command_of exchange.framed.message) now_side refl none refuses)
          (touched_only before told) (told_is ∙ told)

      -- behind whatever frames were answered before
      pub goes-answered : (first : Keeper D) (list : List Exchange) → RunsOver state moment left_since first old list
          → IsAnswered exchange old_side now_side → RunsOver state moment left_since first now (list ++ exchange ∷ [])
      goes-answered first list runs answers =
          runs-then state moment left_since first old now list (exchange ∷ []) runs (runs-answered answers)

      pub goes-refused : (first : Keeper D) (list : List Exchange) → RunsOver state moment left_since first old list
          → exchange.replies ≡ [] → RefusesBy exchange.told (command_of exchange.framed.message) old_side now_side
          → RunsOver state moment left_since first now (list ++ exchange ∷ [])
      goes-refused first list runs none refuses =
          runs-then state moment left_since first old now list (exchange ∷ []) runs (runs-refused none refuses)
