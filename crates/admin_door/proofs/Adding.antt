-- What each part of the answering of a message adds to what was published.
use Rattle.std.proofs.Common.{◌≡◌, ◌∙◌, ◌⊎◌, ◌≤◌, ◌+◌, inl, inr, ℕ, Bool, true, false, cond, nat_lt, List, [], ◌∷◌, ◌++◌, Option, Some}
use Rattle.std.proofs.Common.{None, refl, sym, ap, subst, append_assoc, append-nil, length-append, arith}
use Rattle.desk_ports.specs.Disk.{DiskState}
use Rattle.desk_state.specs.DeskState.{DeskState}
use Rattle.desk_state.specs.Next.{next, erased_by}
use Rattle.desk_state.specs.declared.commands.Command.{Command}
use Rattle.live_desk.specs.History.{last_commit}
use Rattle.server_hall.specs.Tally.{Tally}
use Rattle.wire_messages.specs.Commands.{command_of}
use Rattle.wire_fields.specs.declared.messages.Message.{Message}
use Rattle.wire_fields.specs.declared.messages.Message.TheVariants.{Done, Listing, AdminCheck, Stop, ReadState, ReadService}
use Rattle.door_frames.specs.declared.endings.Ended.{Ended}
use Rattle.admin_door.specs.Side.{AdminSide, with_kept, with_shown, with_fault, with_stop}
use Rattle.admin_door.specs.Settling.{IsFound, Settles, IsHungFor, Unsettles}
use Rattle.admin_door.specs.Answering.{Commits, LacksMemory, Obeys, IsUnanswered, AnswersQuestion, AnswersBy, RefusesBy}
use Rattle.admin_door.specs.Adding.{Adds, AddsAtMost, AddsSome, IsAcknowledged}
use Rattle.admin_door.specs.Serving.{AdminTalk, Exchange, AreAnswered, EndsAnswering, Serves}
use Rattle.desk_keeper.specs.declared.refusals.KeeperRefusal.{KeeperRefusal}
use Rattle.desk_keeper.specs.declared.refusals.KeeperRefusal.TheVariants as why
use Rattle.admin_door.proofs.Showing.{last-behind}

-- ---- one step

-- nothing is published
changes : (old : AdminSide) (desk : DeskState) (decided : Bool) (faults stops : ℕ)
    → Adds old (record {
      desk = desk;
      decided = decided;
      published = old.published;
      tally = record old.tally { stop_calls = stops };
      calls = old.calls;
      faults = faults;
    }) []
changes old desk decided faults stops = record {
  published = sym (append-nil old.published);
  cleared = inl (refl, refl);
  tally = refl;
  calls = refl;
}

shows : (old : AdminSide) (desk : DeskState) → Adds old (with_shown desk old) (desk ∷ [])
shows old desk = record {
  published = refl;
  cleared = inr (sym (last-behind 0 old.published desk));
  tally = refl;
  calls = refl;
}

none : (old now : AdminSide) → Adds old now [] → AddsAtMost 0 old now
none old now adds = ([], omega arith, adds)

pub still : (old now : AdminSide) → now ≡ old → AddsAtMost 0 old now
still old now is =
    subst (λ (side : AdminSide). AddsAtMost 0 old side) (sym is)
    (none old old (changes old old.desk old.decided old.faults old.tally.stop_calls))

at-most : (few many : ℕ) (old now : AdminSide) → few ≤ many → AddsAtMost few old now → AddsAtMost many old now
at-most few many old now within (more, count, adds) = (more, omega (arith, within, count), adds)

-- ---- one step behind another

cleared-then : (a b c : AdminSide) (xs ys : List DeskState) (first : Adds a b xs) (then : Adds b c ys)
    → ((xs ≡ []) × (b.tally.cleared ≡ a.tally.cleared)) ⊎ (b.tally.cleared ≡ last_commit 0 b.published)
    → ((ys ≡ []) × (c.tally.cleared ≡ b.tally.cleared)) ⊎ (c.tally.cleared ≡ last_commit 0 c.published)
    → ((xs ++ ys ≡ []) × (c.tally.cleared ≡ a.tally.cleared)) ⊎ (c.tally.cleared ≡ last_commit 0 c.published)
cleared-then a b c xs ys first then one (inr is) = inr is
cleared-then a b c xs ys first then (inl (no_first, same)) (inl (no_second, as_before)) =
    inl ((λ i. no_first i ++ no_second i), as_before ∙ same)
cleared-then a b c xs ys first then (inr is) (inl (no_second, as_before)) =
    let published : b.published ≡ c.published =
    sym (then.published ∙ ap (λ (more : List DeskState). b.published ++ more) no_second ∙ append-nil b.published) in
    inr (as_before ∙ is ∙ ap (λ (list : List DeskState). last_commit 0 list) published)

adds-then : (a b c : AdminSide) (xs ys : List DeskState) → Adds a b xs → Adds b c ys → Adds a c (xs ++ ys)
adds-then a b c xs ys first then = record {
  published = then.published ∙ ap (λ (list : List DeskState). list ++ ys) first.published ∙ append_assoc a.published xs ys;
  cleared = cleared-then a b c xs ys first then first.cleared then.cleared;
  tally = then.tally
      ∙ ap (λ (tally : Tally). record tally { cleared = c.tally.cleared; stop_calls = c.tally.stop_calls }) first.tally;
  calls = then.calls ∙ first.calls;
}

pub at-most-then : (few more : ℕ) (a b c : AdminSide) → AddsAtMost few a b → AddsAtMost more b c → AddsAtMost (few + more) a c
at-most-then few more a b c (xs, count, first) (ys, others, then) =
    (xs ++ ys, omega (arith, length-append xs ys, count, others), adds-then a b c xs ys first then)

-- ---- settling

found-none : (told : Option DiskState) (old now : AdminSide) → IsFound told old now → AddsAtMost 0 old now
found-none told old now found =
    subst (λ (side : AdminSide). AddsAtMost 0 old side) (sym found.rest)
    (none old (record old { desk = now.desk; decided = now.decided })
    (changes old now.desk now.decided old.faults old.tally.stop_calls))

shown-one : (newer : Bool) (side : AdminSide) → AddsAtMost 1 side (cond newer (with_shown side.desk side) side)
shown-one true side = (side.desk ∷ [], omega arith, shows side side.desk)
shown-one false side = at-most 0 1 side side (omega arith) (still side side refl)

pub settles-one : (told : Option DiskState) (old now : AdminSide) → Settles told old now → AddsAtMost 1 old now
settles-one told old now settles =
    at-most-then 0 1 old settles.found now (found-none told old settles.found settles.is_found)
    (subst (λ (side : AdminSide). AddsAtMost 1 settles.found side) (sym settles.shown)
    (shown-one (nat_lt (last_commit 0 settles.found.published) settles.found.desk.commit) settles.found))

-- and for what it publishes all older connections are hung up
hung-where : (old now : AdminSide) (more : List DeskState) → now.published ≡ old.published ++ more
    → ((more ≡ []) × (now.tally.cleared ≡ old.tally.cleared)) ⊎ (now.tally.cleared ≡ last_commit 0 now.published)
    → IsHungFor (last_commit 0 old.published) now.published now.tally
hung-where old now more published (inl (none, same)) =
    inl (ap (λ (list : List DeskState). last_commit 0 list)
    (published ∙ (ap (λ (list : List DeskState). old.published ++ list) none ∙ append-nil old.published)))
hung-where old now more published (inr hung) = inr hung

pub settles-hung : (told : Option DiskState) (old now : AdminSide) → Settles told old now
    → IsHungFor (last_commit 0 old.published) now.published now.tally
settles-hung told old now settles =
    let (more, most, adds) = settles-one told old now settles in
    hung-where old now more adds.published adds.cleared

fails-none : (old now : AdminSide) → now ≡ with_fault old → AddsAtMost 0 old now
fails-none old now is =
    subst (λ (side : AdminSide). AddsAtMost 0 old side) (sym is)
    (none old (with_fault old) (changes old old.desk false (with_fault old).faults old.tally.stop_calls))

unsettles-none : (told : Option DiskState) (old now : AdminSide) (reason : KeeperRefusal) → Unsettles told old now reason
    → AddsAtMost 0 old now
unsettles-none told old now why.StoreFault (undecided, is) = fails-none old now is
unsettles-none told old now (why.Damaged file line) (undecided, is, damaged) = still old now is
unsettles-none told old now (why.Memory error) (inl is) = still old now is
unsettles-none told old now (why.Memory error) (inr found) = found-none told old now found

-- ---- a command

kept-none : (old now : AdminSide) (desk : DeskState) → now ≡ with_kept desk old → AddsAtMost 0 old now
kept-none old now desk is =
    subst (λ (side : AdminSide). AddsAtMost 0 old side) (sym is)
    (none old (with_kept desk old) (changes old desk true old.faults old.tally.stop_calls))

commits-one : (command : Command) (settled now : AdminSide) (replies : List Message) → Commits command settled now replies
    → AddsAtMost 1 settled now
commits-one command settled now replies (inl done) =
    let desk = next settled.desk command in
    let kept = with_kept desk settled in
    at-most-then 0 1 settled kept now (kept-none settled kept desk refl)
    (subst (λ (side : AdminSide). AddsAtMost 1 kept side) (sym done.leaves) (desk ∷ [], omega arith, shows kept desk))
commits-one command settled now replies (inr (inl refused)) = at-most 0 1 settled now (omega arith) (still settled now refused.leaves)
commits-one command settled now replies (inr (inr failed)) = at-most 0 1 settled now (omega arith) (fails-none settled now failed.leaves)

lacks-one : (command : Command) (settled now : AdminSide) → LacksMemory command settled now → AddsAtMost 1 settled now
lacks-one command settled now (inl is) = at-most 0 1 settled now (omega arith) (still settled now is)
lacks-one command settled now (inr (accepted, is)) =
    at-most 0 1 settled now (omega arith) (kept-none settled now (next settled.desk command) is)

obeys-two : (told : Option DiskState) (command : Command) (old now : AdminSide) (replies : List Message)
    → Obeys told command old now replies → AddsAtMost 2 old now
obeys-two told command old now replies (inl (between, settles, commits)) =
    at-most-then 1 1 old between now (settles-one told old between settles) (commits-one command between now replies commits)
obeys-two told command old now replies (inr (reason, unsettles, answers)) =
    at-most 0 2 old now (omega arith) (unsettles-none told old now reason unsettles)

unanswered-two : (told : Option DiskState) (command : Command) (old now : AdminSide) → IsUnanswered told command old now
    → AddsAtMost 2 old now
unanswered-two told command old now (inl (between, settles, lacks)) =
    at-most-then 1 1 old between now (settles-one told old between settles) (lacks-one command between now lacks)
unanswered-two told command old now (inr (inl (reason, unsettles))) =
    at-most 0 2 old now (omega arith) (unsettles-none told old now reason unsettles)
unanswered-two told command old now (inr (inr is)) = at-most 0 2 old now (omega arith) (still old now is)

-- ---- a message

stops-none : (old now : AdminSide) → now ≡ with_stop old → AddsAtMost 0 old now
stops-none old now is =
    subst (λ (side : AdminSide). AddsAtMost 0 old side) (sym is)
    (none old (with_stop old) (changes old old.desk old.decided old.faults (with_stop old).tally.stop_calls))

question-none : (message : Message) (old now : AdminSide) (replies : List Message) → AnswersQuestion message old now replies
    → AddsAtMost 0 old now
question-none (Listing bucket filter) old now replies (is, told) = still old now is
question-none (AdminCheck bucket recursive question) old now replies (is, told) = still old now is
question-none ReadState old now replies (is, told) = still old now is
question-none ReadService old now replies (is, told) = still old now is
question-none Stop old now replies (is, told) = stops-none old now is
question-none other old now replies answers = absurd answers

pub answers-two : (told : Option DiskState) (found : Option Command) (message : Message) (old now : AdminSide) (replies : List Message)
    → AnswersBy told found message old now replies → AddsAtMost 2 old now
answers-two told (Some command) message old now replies obeys = obeys-two told command old now replies obeys
answers-two told None message old now replies answers = at-most 0 2 old now (omega arith) (question-none message old now replies answers)

pub refuses-two : (told : Option DiskState) (found : Option Command) (old now : AdminSide) → RefusesBy told found old now
    → AddsAtMost 2 old now
refuses-two told (Some command) old now unanswered = unanswered-two told command old now unanswered
refuses-two told None old now is = at-most 0 2 old now (omega arith) (still old now is)

-- ---- an acknowledged command

pub done-of : (commit erased other count : ℕ) (replies : List Message) → replies ≡ Done commit erased ∷ [] → replies ≡ Done other count ∷ []
    → commit ≡ other
done-of commit erased other count replies one two = let same = sym one ∙ two in cc

shown-acknowledged : (settled now : AdminSide) (desk : DeskState) → now ≡ with_shown desk (with_kept desk settled)
    → IsAcknowledged now desk.commit
shown-acknowledged settled now desk is =
    subst (λ (side : AdminSide). IsAcknowledged side desk.commit) (sym is)
    (record { decided = refl; kept = refl; last = (settled.published, refl); cleared = refl })

obeys-acknowledged : (told : Option DiskState) (command : Command) (old now : AdminSide) (replies : List Message) (commit erased : ℕ)
    → Obeys told command old now replies → replies ≡ Done commit erased ∷ [] → IsAcknowledged now commit
obeys-acknowledged told command old now replies commit erased (inl (between, settles, inl done)) is =
    let desk = next between.desk command in
    subst (λ commit. IsAcknowledged now commit)
    (done-of desk.commit (erased_by between.desk command) commit erased replies done.answered is)
    (shown-acknowledged between now desk done.leaves)
obeys-acknowledged told command old now replies commit erased (inl (between, settles, inr (inl refused))) is =
    let same = sym refused.answered ∙ is in cc
obeys-acknowledged told command old now replies commit erased (inl (between, settles, inr (inr failed))) is =
    let same = sym failed.answered ∙ is in cc
obeys-acknowledged told command old now replies commit erased (inr (why.StoreFault, unsettles, answers)) is =
    let same = sym answers ∙ is in cc
obeys-acknowledged told command old now replies commit erased (inr (why.Damaged file line, unsettles, answers)) is =
    let same = sym answers ∙ is in cc
obeys-acknowledged told command old now replies commit erased (inr (why.Memory error, unsettles, answers)) is = absurd answers

pub answers-acknowledged : (told : Option DiskState) (found : Option Command) (message : Message) (old now : AdminSide)
    (replies : List Message) (command : Command) (commit erased : ℕ) → AnswersBy told found message old now replies
    → found ≡ Some command → replies ≡ Done commit erased ∷ [] → IsAcknowledged now commit
answers-acknowledged told found message old now replies command commit erased answers some is =
    obeys-acknowledged told command old now replies commit erased
    (subst (λ (found : Option Command). AnswersBy told found message old now replies) some answers) is

-- ---- a connection

pub some-of : (most : ℕ) (old now : AdminSide) → AddsAtMost most old now → AddsSome old now
some-of most old now (more, count, adds) = (more, adds)

pub some-then : (a b c : AdminSide) → AddsSome a b → AddsSome b c → AddsSome a c
some-then a b c (xs, first) (ys, then) = (xs ++ ys, adds-then a b c xs ys first then)

pub answered-some : (start : AdminSide) (exchanges : List Exchange) (now : AdminSide) → AreAnswered start exchanges now → AddsSome start now
answered-some start [] now is = some-of 0 start now (still start now is)
answered-some start (exchange ∷ more) now (between, one, others) =
    some-then start between now
    (some-of 2 start between
    (answers-two exchange.told (command_of exchange.framed.message) exchange.framed.message start between exchange.replies one))
    (answered-some between more now others)

pub ending-some : (ended : Ended) (between now : AdminSide) (last : List Exchange) (bytes : List ℕ)
    → EndsAnswering ended between now last bytes → AddsSome between now
ending-some ended between now last bytes (inl (no_frame, no_byte, is)) = some-of 0 between now (still between now is)
ending-some ended between now last bytes (inr (inl (exchange, frame, byte, reply, refuses))) =
    some-of 2 between now (refuses-two exchange.told (command_of exchange.framed.message) between now refuses.1)
ending-some ended between now last bytes (inr (inr (exchange, sent, frame, byte, answered, broken))) =
    some-of 2 between now
    (answers-two exchange.told (command_of exchange.framed.message) exchange.framed.message between now exchange.replies answered)

pub serves-some : (start now : AdminTalk) (ended : Ended) (Keeps : List Exchange → Type 0) → Serves start now ended Keeps
    → AddsSome start.side now.side
serves-some start now ended Keeps serves =
    some-then start.side serves.between now.side (answered-some start.side serves.answered serves.between serves.in_turn)
    (ending-some serves.cause serves.between now.side serves.last serves.last_bytes serves.ending)
