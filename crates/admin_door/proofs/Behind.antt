-- What one frame leaves: the policy state that is known then, and whether its command is among those that were applied.
use Rattle.std.proofs.Common.{◌≡◌, ◌⊎◌, ◌∙◌, inl, inr, Bool, true, false, List, [], ◌∷◌, Option, Some, None, Ok, cond, nat_lt, refl, sym}
use Rattle.std.proofs.Common.{ap, subst}
use Rattle.desk_ports.specs.FileMap.{FileMap}
use Rattle.desk_ports.specs.Disk.{DiskState, MayLeave, IsTouchedOnly}
use Rattle.desk_state.specs.DeskState.{DeskState}
use Rattle.desk_state.specs.Next.{next, erased_by}
use Rattle.desk_state.specs.Rules.{fault}
use Rattle.desk_state.specs.declared.commands.Command.{Command}
use Rattle.desk_keeper.specs.Kept.{Standing, kept, standing}
use Rattle.desk_keeper.proofs.Keeping.{standing-kept}
use Rattle.live_desk.specs.History.{last_commit}
use Rattle.wire_messages.specs.Commands.{command_of}
use Rattle.wire_fields.specs.declared.messages.Message.{Message}
use Rattle.wire_fields.specs.declared.messages.Message.TheVariants.{Listing, AdminCheck, Stop, ReadState, ReadService}
use Rattle.admin_door.specs.Side.{AdminSide, with_kept, with_shown, with_fault}
use Rattle.admin_door.specs.Settling.{IsFound, Settles, Unsettles}
use Rattle.admin_door.specs.Answering.{Commits, LacksMemory, IsUnanswered, Obeys, AnswersUnsettled, AnswersQuestion, AnswersBy, RefusesBy}
use Rattle.admin_door.specs.Serving.{Exchange}
use Rattle.admin_door.specs.Stops.{Allows}
use Rattle.admin_door.specs.Running.{Makes, IsNotDone, TellsCommit, LeadsTo, ComesFrom}
use Rattle.desk_keeper.specs.declared.refusals.KeeperRefusal.{KeeperRefusal}
use Rattle.desk_keeper.specs.declared.refusals.KeeperRefusal.TheVariants as why
use Rattle.admin_door.proofs.Adding.{done-of}
use Rattle.admin_door.proofs.Stopping.{allows-current}

-- What a frame leaves of what is known: the last policy state, and that its command was not answered as done, or that it is
-- known that the folder keeps what it made.
pub record Did (before : DiskState) (exchange : Exchange) (old now : AdminSide) : Type 0 where
  pub desk : ComesFrom before old.desk (exchange ∷ []) now.desk
  pub done : IsNotDone exchange
      ⊎ ((now.decided ≡ true) × (other : FileMap) × MayLeave before other × LeadsTo (standing other) (exchange ∷ []) (Ok now.desk))

-- ---- replies

-- a command that is not answered so
pub not-command : (exchange : Exchange) → command_of exchange.framed.message ≡ None → IsNotDone exchange
not-command exchange none command commit erased asks is = let same = sym none ∙ asks in cc

-- ---- one frame

pub leads-still : (exchange : Exchange) (found : Standing) → IsNotDone exchange → LeadsTo found (exchange ∷ []) found
leads-still exchange found not_done = (found, inl (not_done, refl), refl)

pub leads-made : (exchange : Exchange) (desk : DeskState) (command : Command) → command_of exchange.framed.message ≡ Some command
    → fault desk command ≡ None → TellsCommit exchange (next desk command)
    → LeadsTo (Ok desk) (exchange ∷ []) (Ok (next desk command))
leads-made exchange desk command asks accepted tells =
    let makes : Makes (Ok desk) exchange.framed.message (next desk command) =
    record { desk = desk; command = command; stood = refl; asks = asks; accepted = accepted; makes = refl } in
    (Ok (next desk command), inr (next desk command, makes, tells, refl), refl)

module _ (before : DiskState) (touched : IsTouchedOnly before) (exchange : Exchange) (old : AdminSide) where
  -- the state that is known once it is settled what the folder keeps
  record IsBase (between : AdminSide) : Type 0 where
    decided : between.decided ≡ true
    desk : (between.desk ≡ old.desk) ⊎ (kept before.current ≡ Ok between.desk)
    allows : Allows before between.desk

  comes : (between : AdminSide) (now : DeskState) → IsBase between → LeadsTo (Ok between.desk) (exchange ∷ []) (Ok now)
      → ComesFrom before old.desk (exchange ∷ []) now
  comes between now base leads = by_desk base.desk
    where
      by_desk : (between.desk ≡ old.desk) ⊎ (kept before.current ≡ Ok between.desk) → ComesFrom before old.desk (exchange ∷ []) now
      by_desk (inl same) = inl (subst (λ (desk : DeskState). LeadsTo (Ok desk) (exchange ∷ []) (Ok now)) same leads)
      by_desk (inr is) =
          inr (
            before.current,
            touched,
            subst (λ (at : Standing). LeadsTo at (exchange ∷ []) (Ok now)) (sym (standing-kept before.current between.desk is)) leads,
          )

  -- nothing was applied
  did-rest : (between now : AdminSide) → IsBase between → now.desk ≡ between.desk → IsNotDone exchange → Did before exchange old now
  did-rest between now base same not_done = record {
    desk = comes between now.desk base
        (subst (λ (desk : DeskState). LeadsTo (Ok between.desk) (exchange ∷ []) (Ok desk)) (sym same)
        (leads-still exchange (Ok between.desk) not_done));
    done = inl not_done;
  }

  did-nothing : (now : AdminSide) → now.desk ≡ old.desk → IsNotDone exchange → Did before exchange old now
  did-nothing now same not_done = record {
    desk = inl (subst (λ (desk : DeskState). LeadsTo (Ok old.desk) (exchange ∷ []) (Ok desk)) (sym same)
        (leads-still exchange (Ok old.desk) not_done));
    done = inl not_done;
  }

  did-made : (between now : AdminSide) (command : Command) → IsBase between → command_of exchange.framed.message ≡ Some command
      → fault between.desk command ≡ None → TellsCommit exchange (next between.desk command) → now.decided ≡ true
      → now.desk ≡ next between.desk command → Did before exchange old now
  did-made between now command base asks accepted tells decided same =
      let leads : LeadsTo (Ok between.desk) (exchange ∷ []) (Ok now.desk) =
      subst (λ (desk : DeskState). LeadsTo (Ok between.desk) (exchange ∷ []) (Ok desk)) (sym same)
      (leads-made exchange between.desk command asks accepted tells) in
      record {
        desk = comes between now.desk base leads;
        done = inr (
          decided,
          base.allows.0,
          base.allows.1,
          subst (λ (at : Standing). LeadsTo at (exchange ∷ []) (Ok now.desk)) (sym base.allows.2) leads,
        );
      }

  module _ (told : Option DiskState) (is_told : told ≡ Some before) (allowed : old.decided ≡ true → Allows before old.desk) where
    -- ---- settling

    found-base : (found : AdminSide) → IsFound told old found → IsBase found
    found-base found is = by_known old.decided refl
      where
        by_known : (known : Bool) → old.decided ≡ known → IsBase found
        by_known true known = record {
          decided = is.decided;
          desk = inl (is.last known);
          allows = subst (λ (desk : DeskState). Allows before desk) (sym (is.last known)) (allowed known);
        }
        by_known false unknown = record {
          decided = is.decided;
          desk = inr (is.found unknown before is_told);
          allows = allows-current before found.desk touched (is.found unknown before is_told);
        }

    shown-base : (newer : Bool) (side : AdminSide) → IsBase side → IsBase (cond newer (with_shown side.desk side) side)
    shown-base true side base = record { decided = base.decided; desk = base.desk; allows = base.allows }
    shown-base false side base = base

    settles-base : (between : AdminSide) → Settles told old between → IsBase between
    settles-base between settles =
        subst (λ (side : AdminSide). IsBase side) (sym settles.shown)
        (shown-base (nat_lt (last_commit 0 settles.found.published) settles.found.desk.commit) settles.found
        (found-base settles.found settles.is_found))

    desk-of : (side other : AdminSide) → side ≡ other → side.desk ≡ other.desk
    desk-of side other same = ap (λ (side : AdminSide). side.desk) same

    -- ---- what is answered

    module _ (command : Command) (asks : command_of exchange.framed.message ≡ Some command) where
      did-commits : (between now : AdminSide) → IsBase between → Commits command between now exchange.replies
          → Did before exchange old now
      did-commits between now base (inl done) =
          let desk = next between.desk command in
          did-made between now command base asks done.accepted
          (λ commit erased is. sym (done-of desk.commit (erased_by between.desk command) commit erased exchange.replies done.answered is))
          (ap (λ (side : AdminSide). side.decided) done.leaves) (desk-of now (with_shown desk (with_kept desk between)) done.leaves)
      did-commits between now base (inr (inl refused)) =
          did-rest between now base (desk-of now between refused.leaves)
          (λ _ commit erased asks is. let same = sym refused.answered ∙ is in cc)
      did-commits between now base (inr (inr failed)) =
          did-rest between now base (desk-of now (with_fault between) failed.leaves)
          (λ _ commit erased asks is. let same = sym failed.answered ∙ is in cc)

      did-unsettled : (now : AdminSide) (reason : KeeperRefusal) → Unsettles told old now reason → AnswersUnsettled reason exchange.replies
          → Did before exchange old now
      did-unsettled now why.StoreFault (undecided, is) answers =
          did-nothing now (desk-of now (with_fault old) is) (λ _ commit erased asks is. let same = sym answers ∙ is in cc)
      did-unsettled now (why.Damaged file line) (undecided, is, damaged) answers =
          did-nothing now (desk-of now old is) (λ _ commit erased asks is. let same = sym answers ∙ is in cc)
      did-unsettled now (why.Memory error) unsettles answers = absurd answers

      did-obeys : (now : AdminSide) → Obeys told command old now exchange.replies → Did before exchange old now
      did-obeys now (inl (between, settles, commits)) = did-commits between now (settles-base between settles) commits
      did-obeys now (inr (reason, unsettles, answers)) = did-unsettled now reason unsettles answers

      -- ---- what is not answered

      module _ (none : exchange.replies ≡ []) where
        silent : IsNotDone exchange
        silent _ commit erased asks is = let same = sym none ∙ is in cc

        did-lacks : (between now : AdminSide) → IsBase between → LacksMemory command between now → Did before exchange old now
        did-lacks between now base (inl is) = did-rest between now base (desk-of now between is) silent
        did-lacks between now base (inr (accepted, is)) =
            did-made between now command base asks accepted (λ commit erased is. let same = sym none ∙ is in cc)
            (ap (λ (side : AdminSide). side.decided) is) (desk-of now (with_kept (next between.desk command) between) is)

        did-left : (now : AdminSide) (reason : KeeperRefusal) → Unsettles told old now reason → Did before exchange old now
        did-left now why.StoreFault (undecided, is) = did-nothing now (desk-of now (with_fault old) is) silent
        did-left now (why.Damaged file line) (undecided, is, damaged) = did-nothing now (desk-of now old is) silent
        did-left now (why.Memory error) (inl is) = did-nothing now (desk-of now old is) silent
        did-left now (why.Memory error) (inr found) = did-rest now now (found-base now found) refl silent

        did-unanswered : (now : AdminSide) → IsUnanswered told command old now → Did before exchange old now
        did-unanswered now (inl (between, settles, lacks)) = did-lacks between now (settles-base between settles) lacks
        did-unanswered now (inr (inl (reason, unsettles))) = did-left now reason unsettles
        did-unanswered now (inr (inr is)) = did-nothing now (desk-of now old is) silent

    question-desk : (message : Message) (now : AdminSide) (replies : List Message) → AnswersQuestion message old now replies
        → now.desk ≡ old.desk
    question-desk (Listing bucket filter) now replies (is, told) = ap (λ (side : AdminSide). side.desk) is
    question-desk (AdminCheck bucket recursive question) now replies (is, told) = ap (λ (side : AdminSide). side.desk) is
    question-desk ReadState now replies (is, told) = ap (λ (side : AdminSide). side.desk) is
    question-desk ReadService now replies (is, told) = ap (λ (side : AdminSide). side.desk) is
    question-desk Stop now replies (is, told) = ap (λ (side : AdminSide). side.desk) is
    question-desk other now replies answers = absurd answers

    pub did-answers : (found : Option Command) (now : AdminSide) → command_of exchange.framed.message ≡ found
        → AnswersBy told found exchange.framed.message old now exchange.replies → Did before exchange old now
    did-answers (Some command) now asks obeys = did-obeys command asks now obeys
    did-answers None now none answers =
        did-nothing now (question-desk exchange.framed.message now exchange.replies answers) (not-command exchange none)

    pub did-refuses : (found : Option Command) (now : AdminSide) → command_of exchange.framed.message ≡ found → exchange.replies ≡ []
        → RefusesBy told found old now → Did before exchange old now
    did-refuses (Some command) now asks none unanswered = did-unanswered command asks none now unanswered
    did-refuses None now no_command none is = did-nothing now (desk-of now old is) (not-command exchange no_command)
