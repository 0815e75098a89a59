-- A front of the log of the roll's events, and the commands whose commits it disconnects.
use Rattle.std.proofs.Common.{◌≡◌, ◌∙◌, ◌⊎◌, ◌≤◌, ◌<◌, ◌+◌, inl, inr, ℕ, List, [], ◌∷◌, ◌++◌, length, Option, Some, refl, sym, ap, subst}
use Rattle.std.proofs.Common.{append_assoc, append-nil, length-append, arith}
use Rattle.std.specs.List.{AllByRecursion}
use mathlib.Core.List.{IsPrefix}
use Rattle.desk_ports.specs.Disk.{DiskState}
use Rattle.desk_state.specs.DeskState.{DeskState}
use Rattle.desk_state.specs.Next.{next}
use Rattle.desk_state.specs.declared.commands.Command.{Command}
use Rattle.live_roll.specs.declared.events.Event.{Event}
use Rattle.live_roll.specs.Events.{HasHung}
use Rattle.live_roll.proofs.Following.{hung_later, prefix_self, prefix_then}
use Rattle.live_desk.specs.History.{Rises, RisesFrom, last_commit}
use Rattle.wire_messages.specs.Commands.{command_of}
use Rattle.wire_fields.specs.declared.messages.Message.{Message}
use Rattle.wire_fields.specs.declared.messages.Message.TheVariants.{Done}
use Rattle.door_frames.specs.declared.endings.Ended.{Ended}
use Rattle.admin_door.specs.Side.{AdminSide, with_kept, with_shown}
use Rattle.admin_door.specs.Adding.{AddsSome, IsAcknowledged}
use Rattle.admin_door.specs.Answering.{Obeys, AnswersBy}
use Rattle.admin_door.specs.Serving.{AdminTalk, Exchange, IsAnswered, AreAnswered, EndsAnswering, Serves}
use Rattle.admin_door.specs.Hanging.{HangsOn, HasHungTo, IsHung, AreHung}
use Rattle.desk_keeper.specs.declared.refusals.KeeperRefusal.TheVariants as why
use Rattle.admin_door.proofs.Showing.{last-behind}
use Rattle.admin_door.proofs.Adding.{settles-one, some-of, some-then, answered-some, ending-some, still, answers-acknowledged}

-- ---- a front that goes on

-- nothing was published
pub hangs_none : (published : List DeskState) (hangs : List Event) → HangsOn published published hangs hangs
hangs_none published hangs = record { begins = prefix_self hangs; hung = inl refl }

pub hangs_same : (published now : List DeskState) (hangs : List Event) → now ≡ published → HangsOn published now hangs hangs
hangs_same published now hangs same = record { begins = prefix_self hangs; hung = inl same }

-- seen from what was published before it was made ready
pub hangs_from : (first then last : List DeskState) (hangs after : List Event) → then ≡ first
    → HangsOn then last hangs after → HangsOn first last hangs after
hangs_from first then last hangs after same on = subst (λ (list : List DeskState). HangsOn list last hangs after) same on

-- a state was published, and all older connections hung up
pub hangs_last : (published now : List DeskState) (hangs after : List Event) → IsPrefix hangs after
    → HasHung after (last_commit 0 now) → HangsOn published now hangs after
hangs_last published now hangs after begins has = record { begins = begins; hung = inr has }

-- one step behind another
pub hangs_then : (first then last : List DeskState) (hangs between after : List Event) → HangsOn first then hangs between
    → HangsOn then last between after → HangsOn first last hangs after
hangs_then first then last hangs between after one two = record {
  begins = prefix_then hangs between after one.begins two.begins;
  hung = both one.hung two.hung;
}
  where
    both : (then ≡ first) ⊎ HasHung between (last_commit 0 then) → (last ≡ then) ⊎ HasHung after (last_commit 0 last)
        → (last ≡ first) ⊎ HasHung after (last_commit 0 last)
    both old (inr has) = inr has
    both (inl same) (inl as_before) = inl (as_before ∙ same)
    both (inr has) (inl as_before) =
        inr (subst (λ (list : List DeskState). HasHung after (last_commit 0 list)) (sym as_before)
        (hung_later between after (last_commit 0 then) two.begins has))

-- ---- commits that rise

above_low : (low : ℕ) (states : List DeskState) → RisesFrom low states → low ≤ last_commit low states
above_low low [] rises = omega arith
above_low low (desk ∷ states) (above, rises) = let more = above_low desk.commit states rises in omega (arith, above, more)

last_above : (low : ℕ) (states more : List DeskState) → RisesFrom low (states ++ more)
    → last_commit low states ≤ last_commit low (states ++ more)
last_above low [] more rises = above_low low more rises
last_above low (desk ∷ states) more (above, rises) = last_above desk.commit states more rises

last_rises : (states more : List DeskState) → Rises (states ++ more) → last_commit 0 states ≤ last_commit 0 (states ++ more)
last_rises [] more rises = omega arith
last_rises (desk ∷ states) more rises = last_above desk.commit states more rises

-- ---- a command that was answered as done

adds-longer : (old now : AdminSide) → AddsSome old now → length old.published ≤ length now.published
adds-longer old now (more, adds) =
    let is = ap (λ (list : List DeskState). length list) adds.published ∙ length-append old.published more in omega (arith, is)

shows-longer : (old now : AdminSide) (desk : DeskState) → now ≡ with_shown desk (with_kept desk old)
    → length old.published < length now.published
shows-longer old now desk is =
    let longer = ap (λ (side : AdminSide). length side.published) is ∙ length-append old.published (desk ∷ []) in
    omega (arith, longer)

-- has published a state
done-longer : (told : Option DiskState) (command : Command) (old now : AdminSide) (replies : List Message) (commit erased : ℕ)
    → Obeys told command old now replies → replies ≡ Done commit erased ∷ [] → length old.published < length now.published
done-longer told command old now replies commit erased (inl (between, settles, inl done)) is =
    let settled = adds-longer old between (some-of 1 old between (settles-one told old between settles)) in
    let shown = shows-longer between now (next between.desk command) done.leaves in
    omega (arith, settled, shown)
done-longer told command old now replies commit erased (inl (between, settles, inr (inl refused))) is =
    let same = sym refused.answered ∙ is in cc
done-longer told command old now replies commit erased (inl (between, settles, inr (inr failed))) is =
    let same = sym failed.answered ∙ is in cc
done-longer told command old now replies commit erased (inr (why.StoreFault, unsettles, answers)) is =
    let same = sym answers ∙ is in cc
done-longer told command old now replies commit erased (inr (why.Damaged file line, unsettles, answers)) is =
    let same = sym answers ∙ is in cc
done-longer told command old now replies commit erased (inr (why.Memory error, unsettles, answers)) is = absurd answers

answers-longer : (told : Option DiskState) (found : Option Command) (message : Message) (old now : AdminSide)
    (replies : List Message) (command : Command) (commit erased : ℕ) → AnswersBy told found message old now replies
    → found ≡ Some command → replies ≡ Done commit erased ∷ [] → length old.published < length now.published
answers-longer told found message old now replies command commit erased answers some is =
    done-longer told command old now replies commit erased
    (subst (λ (found : Option Command). AnswersBy told found message old now replies) some answers) is

-- and its commit was that of the last state then
acknowledged-last : (now : AdminSide) (commit : ℕ) → IsAcknowledged now commit → last_commit 0 now.published ≡ commit
acknowledged-last now commit is =
    ap (λ (list : List DeskState). last_commit 0 list) is.last.1 ∙ (last-behind 0 is.last.0 now.desk ∙ is.kept)

-- where more was published than at first, connections were disconnected up to the last commit
grown-hung : (first now : AdminSide) (events : List Event)
    → (now.published ≡ first.published) ⊎ HasHung events (last_commit 0 now.published)
    → length first.published < length now.published → HasHung events (last_commit 0 now.published)
grown-hung first now events (inr has) longer = has
grown-hung first now events (inl same) longer =
    let is = ap (λ (list : List DeskState). length list) same in absurd (omega (arith, is, longer))

-- up to its commit, by what is known behind it
acknowledged-hung : (first start between now : AdminSide) (events : List Event) (commit : ℕ) → AddsSome first start
    → length start.published < length between.published → IsAcknowledged between commit → AddsSome between now → Rises now.published
    → (now.published ≡ first.published) ⊎ HasHung events (last_commit 0 now.published) → HasHungTo events commit
acknowledged-hung first start between now events commit before longer is (more, adds) rises hung =
    let early = adds-longer first start before in
    let late = adds-longer between now (more, adds) in
    let has = grown-hung first now events hung (omega (arith, early, longer, late)) in
    let last = acknowledged-last between commit is in
    let above : last_commit 0 between.published ≤ last_commit 0 now.published =
    subst (λ (list : List DeskState). last_commit 0 between.published ≤ last_commit 0 list) (sym adds.published)
    (last_rises between.published more (subst (λ (list : List DeskState). Rises list) adds.published rises)) in
    (last_commit 0 now.published, omega (arith, last, above), has)

-- at once
pub answers-hung : (told : Option DiskState) (found : Option Command) (message : Message) (old now : AdminSide)
    (replies : List Message) (command : Command) (commit erased : ℕ) (events : List Event)
    → AnswersBy told found message old now replies → found ≡ Some command → replies ≡ Done commit erased ∷ []
    → IsAcknowledged now commit → (now.published ≡ old.published) ⊎ HasHung events (last_commit 0 now.published)
    → HasHung events commit
answers-hung told found message old now replies command commit erased events answers some is acknowledged hung =
    let longer = answers-longer told found message old now replies command commit erased answers some is in
    subst (λ (last : ℕ). HasHung events last) (acknowledged-last now commit acknowledged) (grown-hung old now events hung longer)

-- ---- frames in turn

one-hung : (first start between now : AdminSide) (events : List Event) (exchange : Exchange) → AddsSome first start
    → IsAnswered exchange start between → AddsSome between now → Rises now.published
    → (now.published ≡ first.published) ⊎ HasHung events (last_commit 0 now.published) → IsHung events exchange
one-hung first start between now events exchange before answered behind rises hung command commit erased asks is =
    acknowledged-hung first start between now events commit before
    (answers-longer exchange.told (command_of exchange.framed.message) exchange.framed.message start between exchange.replies command
    commit erased answered asks is)
    (answers-acknowledged exchange.told (command_of exchange.framed.message) exchange.framed.message start between exchange.replies
    command commit erased answered asks is)
    behind rises hung

answered-hung : (first start : AdminSide) (exchanges : List Exchange) (between now : AdminSide) (events : List Event)
    → AddsSome first start → AreAnswered start exchanges between → AddsSome between now → Rises now.published
    → (now.published ≡ first.published) ⊎ HasHung events (last_commit 0 now.published) → AreHung events exchanges
answered-hung first start [] between now events before answered behind rises hung = tt
answered-hung first start (exchange ∷ more) between now events before (then, one, others) behind rises hung = (
  one-hung first start then now events exchange before one
      (some-then then between now (answered-some then more between others) behind) rises hung,
  answered-hung first then more between now events
      (some-then first start then before (answered-some start (exchange ∷ []) then (then, one, refl))) others behind rises hung,
)

ending-hung : (cause : Ended) (first between now : AdminSide) (last : List Exchange) (bytes : List ℕ) (events : List Event)
    → AddsSome first between → EndsAnswering cause between now last bytes → Rises now.published
    → (now.published ≡ first.published) ⊎ HasHung events (last_commit 0 now.published) → AreHung events last
ending-hung cause first between now last bytes events before (inl (no_frame, no_byte, is)) rises hung =
    subst (λ (list : List Exchange). AreHung events list) (sym no_frame) tt
ending-hung cause first between now last bytes events before (inr (inl (exchange, frame, byte, reply, refuses))) rises hung =
    subst (λ (list : List Exchange). AreHung events list) (sym frame)
    ((λ command commit erased asks is. let wrong = sym reply ∙ is in cc), tt)
ending-hung cause first between now last bytes events before (inr (inr (exchange, sent, frame, byte, answered, broken))) rises hung =
    subst (λ (list : List Exchange). AreHung events list) (sym frame)
    (one-hung first between now now events exchange before answered (some-of 0 now now (still now now refl)) rises hung, tt)

both-hung : (events : List Event) (front back : List Exchange) → AreHung events front → AreHung events back
    → AreHung events (front ++ back)
both-hung events [] back none all = all
both-hung events (exchange ∷ front) back (one, others) all = (one, both-hung events front back others all)

-- the frames of a connection, behind it
pub serves-hung : (start now : AdminTalk) (ended : Ended) (Keeps : List Exchange → Type 0) (hangs events : List Event)
    → (served : Serves start now ended Keeps) → Rises now.side.published
    → HangsOn start.side.published now.side.published hangs events → AreHung events (served.answered ++ served.last)
serves-hung start now ended Keeps hangs events served rises on =
    let first = start.side in
    let none = some-of 0 first first (still first first refl) in
    both-hung events served.answered served.last
    (answered-hung first first served.answered served.between now.side events none served.in_turn
    (ending-some served.cause served.between now.side served.last served.last_bytes served.ending) rises on.hung)
    (ending-hung served.cause first served.between now.side served.last served.last_bytes events
    (answered-some first served.answered served.between served.in_turn) served.ending rises on.hung)

-- with what is said of them beside
pub with-hung : (start now : AdminTalk) (ended : Ended) (Keeps : List Exchange → Type 0) (hangs events : List Event)
    → Serves start now ended Keeps → Rises now.side.published
    → HangsOn start.side.published now.side.published hangs events
    → Serves start now ended (λ exchanges. Keeps exchanges × AreHung events exchanges)
with-hung start now ended Keeps hangs events served rises on = record {
  received = served.received;
  answered = served.answered;
  between = served.between;
  last = served.last;
  last_bytes = served.last_bytes;
  cause = served.cause;
  in_turn = served.in_turn;
  ending = served.ending;
  stopping = served.stopping;
  bytes = served.bytes;
  carried = served.carried;
  faults = served.faults;
  at_end = served.at_end;
  ends = served.ends;
  keeps = (served.keeps, serves-hung start now ended Keeps hangs events served rises on);
}

-- as the log goes on
pub hung-on : (events later : List Event) (exchanges : List Exchange) → IsPrefix events later → AreHung events exchanges
    → AreHung later exchanges
hung-on events later [] begins none = tt
hung-on events later (exchange ∷ more) begins (one, others) = (
  (λ command commit erased asks is. let (to, low, has) = one command commit erased asks is in
      (to, low, hung_later events later to begins has)),
  hung-on events later more begins others,
)

-- and frames come behind others
pub hung-then : (events later : List Event) (front back : List Exchange) → IsPrefix events later → AreHung events front
    → AreHung later back → AreHung later (front ++ back)
hung-then events later front back begins before all = both-hung later front back (hung-on events later front begins before) all
