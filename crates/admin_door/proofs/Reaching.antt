-- The policy states that frames in turn publish: each is what the first few of the frames lead to.
use Rattle.std.proofs.Common.{◌≡◌, ◌∙◌, inl, inr, ℕ, Bool, true, false, cond, nat_lt, List, [], ◌∷◌, ◌++◌, Option, Some, None, Ok, refl}
use Rattle.std.proofs.Common.{sym, ap, subst, append_assoc, append-nil}
use Rattle.std.specs.List.{AllByRecursion}
use Rattle.desk_ports.specs.Disk.{DiskState}
use Rattle.desk_state.specs.DeskState.{DeskState}
use Rattle.desk_state.specs.Next.{next, erased_by}
use Rattle.desk_state.specs.Rules.{fault}
use Rattle.desk_state.specs.declared.commands.Command.{Command}
use Rattle.desk_keeper.specs.Kept.{Standing, standing}
use Rattle.desk_keeper.proofs.Keeping.{standing-kept}
use Rattle.live_desk.specs.History.{last_commit}
use Rattle.wire_messages.specs.Commands.{command_of}
use Rattle.wire_fields.specs.declared.messages.Message.{Message}
use Rattle.wire_fields.specs.declared.messages.Message.TheVariants.{Listing, AdminCheck, Stop, ReadState, ReadService}
use Rattle.door_frames.specs.declared.endings.Ended.{Ended}
use Rattle.admin_door.specs.Side.{AdminSide, with_shown}
use Rattle.admin_door.specs.Settling.{IsFound, Settles, Unsettles}
use Rattle.admin_door.specs.Answering.{Commits, LacksMemory, Obeys, IsUnanswered, AnswersUnsettled, AnswersQuestion, AnswersBy, RefusesBy}
use Rattle.admin_door.specs.Serving.{AdminTalk, Exchange, AreAnswered, EndsAnswering, Serves}
use Rattle.admin_door.specs.Running.{IsNotDone, TellsCommit, LeadsTo, ComesFrom, IsToldBehind, TellsEach, IsReached}
use Rattle.desk_keeper.specs.declared.refusals.KeeperRefusal.{KeeperRefusal}
use Rattle.desk_keeper.specs.declared.refusals.KeeperRefusal.TheVariants as why
use Rattle.admin_door.proofs.Adding.{done-of}
use Rattle.admin_door.proofs.Behind.{not-command, leads-still, leads-made}
use Rattle.admin_door.proofs.Running.{leads-then}

-- Behind some of these frames this is the last policy state that is known, and each state that was published behind those of
-- before is reached.
pub record Reaches (before : DiskState) (last : DeskState) (first : List DeskState) (all done : List Exchange) (desk : DeskState)
    (published : List DeskState) : Type 0 where
  pub comes : ComesFrom before last done desk
  pub more : List DeskState
  pub published_is : published ≡ first ++ more
  pub each : AllByRecursion (IsReached before last all) more

abbrev pub Holds : DiskState → DeskState → List DeskState → List Exchange → List Exchange → AdminSide → Type 0
Holds before last first all done side = Reaches before last first all done side.desk side.published

all-more : {X : Type 0} (P : X → Type 0) (front : List X) (last : X) → AllByRecursion P front → P last
    → AllByRecursion P (front ++ last ∷ [])
all-more P [] last all one = (one, tt)
all-more P (x ∷ front) last (first, all) one = (first, all-more P front last all one)

module _ (before : DiskState) (last : DeskState) (first : List DeskState) (all : List Exchange) where
  comes-more : (done : List Exchange) (exchange : Exchange) (desk now : DeskState) → ComesFrom before last done desk
      → LeadsTo (Ok desk) (exchange ∷ []) (Ok now) → ComesFrom before last (done ++ exchange ∷ []) now
  comes-more done exchange desk now (inl leads) then =
      inl (leads-then (Ok last) done (exchange ∷ []) (Ok desk) (Ok now) leads then)
  comes-more done exchange desk now (inr (other, may, leads)) then =
      inr (other, may, leads-then (standing other) done (exchange ∷ []) (Ok desk) (Ok now) leads then)

  -- what is known is published
  publishes : (done back : List Exchange) (desk : DeskState) (published : List DeskState) → all ≡ done ++ back
      → Reaches before last first all done desk published → Reaches before last first all done desk (published ++ desk ∷ [])
  publishes done back desk published cut r = record {
    comes = r.comes;
    more = r.more ++ desk ∷ [];
    published_is = ap (λ (list : List DeskState). list ++ desk ∷ []) r.published_is ∙ append_assoc first r.more (desk ∷ []);
    each = all-more (IsReached before last all) r.more desk r.each (done, back, cut, r.comes);
  }

  -- ---- one frame

  module _ (done back : List Exchange) (exchange : Exchange) (cut : all ≡ done ++ exchange ∷ back)
      (told : IsToldBehind before done exchange.told) where
    abbrev behind : List Exchange
    behind = done ++ exchange ∷ []

    cut-behind : all ≡ behind ++ back
    cut-behind = cut ∙ sym (append_assoc done (exchange ∷ []) back)

    -- nothing that is known changes
    still : (desk : DeskState) (published : List DeskState) → IsNotDone exchange → Reaches before last first all done desk published
        → Reaches before last first all behind desk published
    still desk published not_done r = record {
      comes = comes-more done exchange desk desk r.comes (leads-still exchange (Ok desk) not_done);
      more = r.more;
      published_is = r.published_is;
      each = r.each;
    }

    rests : (old now : AdminSide) → IsNotDone exchange → Holds before last first all done old → now ≡ old
        → Holds before last first all behind now
    rests old now not_done h is =
        subst (λ (side : AdminSide). Holds before last first all behind side) (sym is) (still old.desk old.published not_done h)

    -- its command is applied
    made : (desk : DeskState) (published : List DeskState) (command : Command) → command_of exchange.framed.message ≡ Some command
        → fault desk command ≡ None → TellsCommit exchange (next desk command) → Reaches before last first all done desk published
        → Reaches before last first all behind (next desk command) published
    made desk published command asks accepted tells r = record {
      comes = comes-more done exchange desk (next desk command) r.comes (leads-made exchange desk command asks accepted tells);
      more = r.more;
      published_is = r.published_is;
      each = r.each;
    }

    module _ (old : AdminSide) (h : Holds before last first all done old) where
      -- it is known what the folder keeps
      found-holds : (side : AdminSide) → IsFound exchange.told old side → Holds before last first all done side
      found-holds side is = by_known old.decided refl
        where
          published_is : side.published ≡ first ++ h.more
          published_is = ap (λ (s : AdminSide). s.published) is.rest ∙ h.published_is

          by_known : (known : Bool) → old.decided ≡ known → Holds before last first all done side
          by_known true known = record {
            comes = subst (λ (desk : DeskState). ComesFrom before last done desk) (sym (is.last known)) h.comes;
            more = h.more;
            published_is = published_is;
            each = h.each;
          }
          by_known false unknown =
              let (other, may, leads) = told.behind told.found.current told.read in
              record {
                comes = inr (
                  other,
                  may,
                  subst (λ (at : Standing). LeadsTo (standing other) done at)
                      (standing-kept told.found.current side.desk (is.found unknown told.found told.told_is)) leads,
                );
                more = h.more;
                published_is = published_is;
                each = h.each;
              }

      shown-holds : (newer : Bool) (side : AdminSide) → Holds before last first all done side
          → Holds before last first all done (cond newer (with_shown side.desk side) side)
      shown-holds true side holds = publishes done (exchange ∷ back) side.desk side.published cut holds
      shown-holds false side holds = holds

      settles-holds : (between : AdminSide) → Settles exchange.told old between → Holds before last first all done between
      settles-holds between settles =
          subst (λ (side : AdminSide). Holds before last first all done side) (sym settles.shown)
          (shown-holds (nat_lt (last_commit 0 settles.found.published) settles.found.desk.commit) settles.found
          (found-holds settles.found settles.is_found))

      module _ (command : Command) (asks : command_of exchange.framed.message ≡ Some command) where
        commits-holds : (between now : AdminSide) → Holds before last first all done between → Commits command between now exchange.replies
            → Holds before last first all behind now
        commits-holds between now holds (inl done_so) =
            let desk = next between.desk command in
            subst (λ (side : AdminSide). Holds before last first all behind side) (sym done_so.leaves)
            (publishes behind back desk between.published cut-behind
            (made between.desk between.published command asks done_so.accepted
            (λ commit erased is. sym
            (done-of desk.commit (erased_by between.desk command) commit erased exchange.replies done_so.answered is))
            holds))
        commits-holds between now holds (inr (inl refused)) =
            rests between now (λ _ commit erased asks is. let same = sym refused.answered ∙ is in cc) holds refused.leaves
        commits-holds between now holds (inr (inr failed)) =
            subst (λ (side : AdminSide). Holds before last first all behind side) (sym failed.leaves)
            (still between.desk between.published (λ _ commit erased asks is. let same = sym failed.answered ∙ is in cc) holds)

        unsettled-holds : (now : AdminSide) (reason : KeeperRefusal) → Unsettles exchange.told old now reason
            → AnswersUnsettled reason exchange.replies → Holds before last first all behind now
        unsettled-holds now why.StoreFault (undecided, is) answers =
            subst (λ (side : AdminSide). Holds before last first all behind side) (sym is)
            (still old.desk old.published (λ _ commit erased asks is. let same = sym answers ∙ is in cc) h)
        unsettled-holds now (why.Damaged file line) (undecided, is, damaged) answers =
            rests old now (λ _ commit erased asks is. let same = sym answers ∙ is in cc) h is
        unsettled-holds now (why.Memory error) unsettles answers = absurd answers

        obeys-holds : (now : AdminSide) → Obeys exchange.told command old now exchange.replies → Holds before last first all behind now
        obeys-holds now (inl (between, settles, commits)) = commits-holds between now (settles-holds between settles) commits
        obeys-holds now (inr (reason, unsettles, answers)) = unsettled-holds now reason unsettles answers

        module _ (none : exchange.replies ≡ []) where
          silent : IsNotDone exchange
          silent _ commit erased asks is = let same = sym none ∙ is in cc

          lacks-holds : (between now : AdminSide) → Holds before last first all done between → LacksMemory command between now
              → Holds before last first all behind now
          lacks-holds between now holds (inl is) = rests between now silent holds is
          lacks-holds between now holds (inr (accepted, is)) =
              subst (λ (side : AdminSide). Holds before last first all behind side) (sym is)
              (made between.desk between.published command asks accepted (λ commit erased is. let same = sym none ∙ is in cc) holds)

          left-holds : (now : AdminSide) (reason : KeeperRefusal) → Unsettles exchange.told old now reason
              → Holds before last first all behind now
          left-holds now why.StoreFault (undecided, is) =
              subst (λ (side : AdminSide). Holds before last first all behind side) (sym is) (still old.desk old.published silent h)
          left-holds now (why.Damaged file line) (undecided, is, damaged) = rests old now silent h is
          left-holds now (why.Memory error) (inl is) = rests old now silent h is
          left-holds now (why.Memory error) (inr found) = still now.desk now.published silent (found-holds now found)

          unanswered-holds : (now : AdminSide) → IsUnanswered exchange.told command old now → Holds before last first all behind now
          unanswered-holds now (inl (between, settles, lacks)) = lacks-holds between now (settles-holds between settles) lacks
          unanswered-holds now (inr (inl (reason, unsettles))) = left-holds now reason unsettles
          unanswered-holds now (inr (inr is)) = rests old now silent h is

      question-holds : (message : Message) (now : AdminSide) (replies : List Message) → IsNotDone exchange
          → AnswersQuestion message old now replies → Holds before last first all behind now
      question-holds (Listing bucket filter) now replies not_done (is, answered) = rests old now not_done h is
      question-holds (AdminCheck bucket recursive question) now replies not_done (is, answered) = rests old now not_done h is
      question-holds ReadState now replies not_done (is, answered) = rests old now not_done h is
      question-holds ReadService now replies not_done (is, answered) = rests old now not_done h is
      question-holds Stop now replies not_done (is, answered) =
          subst (λ (side : AdminSide). Holds before last first all behind side) (sym is) (still old.desk old.published not_done h)
      question-holds other now replies not_done answers = absurd answers

      answers-holds : (found : Option Command) (now : AdminSide) → command_of exchange.framed.message ≡ found
          → AnswersBy exchange.told found exchange.framed.message old now exchange.replies → Holds before last first all behind now
      answers-holds (Some command) now asks obeys = obeys-holds command asks now obeys
      answers-holds None now none answers =
          question-holds exchange.framed.message now exchange.replies (not-command exchange none) answers

      refuses-holds : (found : Option Command) (now : AdminSide) → command_of exchange.framed.message ≡ found → exchange.replies ≡ []
          → RefusesBy exchange.told found old now → Holds before last first all behind now
      refuses-holds (Some command) now asks none unanswered = unanswered-holds command asks none now unanswered
      refuses-holds None now no_command none is = rests old now (not-command exchange no_command) h is

  -- ---- frames in turn

  module _ (tells : TellsEach before all) where
    turn-holds : (done : List Exchange) (start : AdminSide) (list rest : List Exchange) (now : AdminSide) → AreAnswered start list now
        → all ≡ done ++ (list ++ rest) → Holds before last first all done start → Holds before last first all (done ++ list) now
    turn-holds done start [] rest now is cut h =
        subst (λ (frames : List Exchange). Holds before last first all frames now) (sym (append-nil done))
        (subst (λ (side : AdminSide). Holds before last first all done side) (sym is) h)
    turn-holds done start (exchange ∷ more) rest now (between, one, others) cut h =
        let told = tells done (more ++ rest) exchange cut in
        let next = answers-holds done (more ++ rest) exchange cut told start h (command_of exchange.framed.message) between refl one in
        subst (λ (frames : List Exchange). Holds before last first all frames now) (append_assoc done (exchange ∷ []) more)
        (turn-holds (done ++ exchange ∷ []) between more rest now others
        (cut ∙ sym (append_assoc done (exchange ∷ []) (more ++ rest))) next)

    -- the frames that were answered whole, and what came behind them
    end-holds : (done rest : List Exchange) (ended : Ended) (between now : AdminSide) (list : List Exchange) (bytes : List ℕ)
        → EndsAnswering ended between now list bytes → all ≡ done ++ (list ++ rest) → Holds before last first all done between
        → Holds before last first all (done ++ list) now
    end-holds done rest ended between now list bytes (inl (none, no_byte, is)) cut h =
        subst (λ (frames : List Exchange). Holds before last first all frames now)
        (sym (ap (λ (frames : List Exchange). done ++ frames) none ∙ append-nil done))
        (subst (λ (side : AdminSide). Holds before last first all done side) (sym is) h)
    end-holds done rest ended between now list bytes (inr (inl (exchange, one, no_byte, silent, refuses))) cut h =
        let cut_one : all ≡ done ++ exchange ∷ rest = cut ∙ ap (λ (frames : List Exchange). done ++ (frames ++ rest)) one in
        subst (λ (frames : List Exchange). Holds before last first all (done ++ frames) now) (sym one)
        (refuses-holds done rest exchange cut_one (tells done rest exchange cut_one) between h
        (command_of exchange.framed.message) now refl silent refuses.1)
    end-holds done rest ended between now list bytes (inr (inr (exchange, sent, one, some_bytes, answered, broken))) cut h =
        let cut_one : all ≡ done ++ exchange ∷ rest = cut ∙ ap (λ (frames : List Exchange). done ++ (frames ++ rest)) one in
        subst (λ (frames : List Exchange). Holds before last first all (done ++ frames) now) (sym one)
        (answers-holds done rest exchange cut_one (tells done rest exchange cut_one) between h
        (command_of exchange.framed.message) now refl answered)

    -- a whole connection behind these frames
    pub serves-holds : (start now : AdminTalk) (ended : Ended) (Keeps : List Exchange → Type 0) (s : Serves start now ended Keeps)
        (done rest : List Exchange) → all ≡ done ++ ((s.answered ++ s.last) ++ rest) → Holds before last first all done start.side
        → Holds before last first all (done ++ (s.answered ++ s.last)) now.side
    serves-holds start now ended Keeps s done rest cut h =
        let cut_turn : all ≡ done ++ (s.answered ++ (s.last ++ rest)) =
        cut ∙ ap (λ (frames : List Exchange). done ++ frames) (append_assoc s.answered s.last rest) in
        subst (λ (frames : List Exchange). Holds before last first all frames now.side) (append_assoc done s.answered s.last)
        (end-holds (done ++ s.answered) rest s.cause s.between now.side s.last s.last_bytes s.ending
        (cut_turn ∙ sym (append_assoc done s.answered (s.last ++ rest)))
        (turn-holds done start.side s.answered (s.last ++ rest) s.between s.in_turn cut_turn h))

-- a connection alone
pub serves-reach : (before : DiskState) (start now : AdminTalk) (ended : Ended) (Keeps : List Exchange → Type 0)
    (s : Serves start now ended Keeps)
    → TellsEach before (s.answered ++ s.last)
    → (more : List DeskState) × (now.side.published ≡ start.side.published ++ more)
    × AllByRecursion (IsReached before start.side.desk (s.answered ++ s.last)) more
serves-reach before start now ended Keeps s tells =
    let holds = serves-holds before start.side.desk start.side.published (s.answered ++ s.last) tells start now ended Keeps s [] []
    (sym (append-nil (s.answered ++ s.last)))
    (record { comes = inl refl; more = []; published_is = sym (append-nil start.side.published); each = tt }) in
    (holds.more, holds.published_is, holds.each)
