-- What a worker of clients reads and sends is an event.
use Rattle.std.proofs.Common.{◌≡◌, ◌∙◌, ◌≤◌, ◌&&◌, ℕ, Bool, true, List, ◌∷◌, Option, Some, None, Ok, Err, refl, sym, ap, subst, arith}
use Rattle.std.specs.Prelude.{slice_get, is_some}
use Rattle.std.proofs.lemmas.Bool.{and_from}
use Rattle.std.proofs.lemmas.Option.{none-some, same_Some}
use Rattle.cynara_keys.specs.Key.{Question}
use Rattle.cynara_keys.specs.declared.results.Kind.{Kind}
use Rattle.agent_table.specs.declared.refusals.PutRefusal.{PutRefusal}
use Rattle.agent_table.specs.declared.refusals.PutRefusal.TheVariants.{NoAgent as NoneThere, Full, Spent, Stopped, Memory}
use Rattle.desk_state.specs.DeskState.{DeskState}
use Rattle.live_roll.specs.Roll.{RollState}
use Rattle.live_desk.specs.History.{last_commit}
use Rattle.admin_door.specs.Side.{AdminSide}
use Rattle.client_door.specs.Answered.{Answered, Answers, IsRight, AreReadIn, StandsIn}
use Rattle.client_door.specs.Asking.{ask_made, LeadsTo, LeadsToReply}
use Rattle.client_door.specs.Reading.{reading}
use Rattle.server_hall.specs.Call.{AskMade, AskResult}
use Rattle.server_hall.specs.declared.refusals.AskRefusal.TheVariants.{Put, Gone, Stopped as AskStopped, Lost, Withdrawn}
use Rattle.desk_world.specs.World.{World, history, root_outcome, desk_at, with_link}
use Rattle.desk_world.specs.Links.{is_nothing, may_read, reading_of, outgoing, settled, settled_by}
use Rattle.desk_world.specs.declared.agent_entries.AgentEntry.{AgentEntry}
use Rattle.desk_world.specs.declared.agent_entries.EntryState.{EntryState}
use Rattle.desk_world.specs.declared.agent_entries.EntryState.TheVariants.{Gone as HasGone, Answered as IsAnswered}
use Rattle.desk_world.specs.declared.events.Event.TheVariants.{Read, Write}
use Rattle.desk_world.specs.declared.links.Link.{Link}
use Rattle.desk_world.specs.declared.links.Reading.{Reading}
use Rattle.desk_world.specs.declared.links.Reading.TheVariants.{Nothing, Ready, Due, Waiting}
use Rattle.desk_world.specs.declared.replies.Reply.{Reply}
use Rattle.event_laws.specs.Happens.{Happens}
use Rattle.event_laws.specs.Service.{StandsFor, unpublished}
use Rattle.event_laws.specs.Worker.{HasCheck, Awaits, IsNotPut, HasOutcome, once_read, once_sent}
use Rattle.event_laws.proofs.Enabled.{some_enabled, when_enabled, happens}
use Rattle.event_laws.proofs.Ends.{ends_relinked}
use Rattle.event_laws.proofs.History.{stands_at, below_last, may_read_here}
use Rattle.desk_world.specs.Kept.{IsKept}

module _ {H : Type 0} (used : H → Bool) (link_of : ℕ → ℕ) (roll : RollState H) (side : AdminSide) (world : World)
    (stands : StandsFor used link_of roll side world) (link : ℕ) (found : Link) where
  -- one connection changes, which stays where it entered, and as up as it was
  same_service : (changed : Link) → slice_get world.links link ≡ Some found → changed.run ≡ found.run → changed.entered ≡ found.entered
      → changed.up ≡ found.up → IsKept (with_link link changed world) → StandsFor used link_of roll side (with_link link changed world)
  same_service changed there run entered up kept = record {
    kept = kept;
    note = stands.note;
    ends = ends_relinked used link_of world.run roll.places world.links link found changed there run entered (λ down. up ∙ down)
        stands.ends;
    published = stands.published;
    rising = stands.rising;
    committed = record { earlier = stands.committed.earlier; all = stands.committed.all };
    last = stands.last;
    decided = stands.decided;
  }

  -- ---- reading

  pub reads : (ask low : ℕ) (seen : List DeskState) (one : Answered) (more : List Answered) → HasCheck world link found ask one.check
      → found.reading ≡ Nothing → found.seen ≤ low → StandsIn one.desk side.published → AreReadIn seen low (one ∷ more)
      → Happens (Read link one.desk.commit) world (λ next.
      (next ≡ with_link link (once_read one.check one.desk found) world)
      × StandsFor used link_of roll side next × AreReadIn seen one.desk.commit more)
  unfolding root_outcome
  reads ask low seen one more has nothing le is_published (in_seen, may, others) =
      let changed = once_read one.check one.desk found in
      let next = with_link link changed world in
      let here = stands_at world.first world.later stands.committed.earlier side.published
      (unpublished side.desk side.published) one.desk stands.kept.chain
      stands.committed.all is_published in
      let top = below_last side.published one.desk stands.rising is_published in
      let fresh = may_read_here found.seen low (last_commit 0 seen) world.published one.desk.commit le
      (omega (arith, top, stands.published)) may in
      let tests = and_from (is_some found.entered) (is_nothing found.reading && may_read found.seen world.published one.desk.commit)
      (ap is_some has.entered) (and_from (is_nothing found.reading) (may_read found.seen world.published one.desk.commit)
      (ap is_nothing nothing) fresh) in
      let as_asked : Link = record found {
        seen = one.desk.commit;
        reading = reading_of one.desk.commit has.asked.simple (root_outcome one.desk has.asked.question);
      } in
      let same : with_link link as_asked world ≡ next =
      λ i. with_link link (record found {
        seen = one.desk.commit;
        reading = reading_of one.desk.commit (has.simple i) (root_outcome one.desk (has.same i));
      }) world in
      happens (Read link one.desk.commit) world next (λ next.
      (next ≡ with_link link (once_read one.check one.desk found) world)
      × StandsFor used link_of roll side next × AreReadIn seen one.desk.commit more)
      stands.kept
      (some_enabled (slice_get world.links link) found _ next has.there
      (some_enabled found.question ask _ next has.question
      (some_enabled (slice_get world.asks ask) has.asked _ next has.asks
      (some_enabled (desk_at one.desk.commit (history world)) one.desk _ next here
      (when_enabled _ (with_link link as_asked world) tests ∙ ap (λ (w : World). Some w) same)))))
      (λ kept. (refl, same_service changed has.there refl refl refl kept, others))

  -- ---- sending

  sends : (ask : ℕ) (one : Answered) → HasCheck world link found ask one.check → found.up ≡ true
      → outgoing found.run world.entries found.reading ≡ Some one.reply
      → Happens (Write link) world (λ next.
      (next ≡ with_link link (once_sent ask one.reply found) world) × StandsFor used link_of roll side next)
  sends ask one has up out =
      let changed = once_sent ask one.reply found in
      let next = with_link link changed world in
      happens (Write link) world next (λ next.
      (next ≡ with_link link (once_sent ask one.reply found) world) × StandsFor used link_of roll side next)
      stands.kept
      (some_enabled (slice_get world.links link) found _ next has.there
      (some_enabled found.question ask _ next has.question
      (some_enabled (outgoing found.run world.entries found.reading) one.reply _ next out (when_enabled found.up next up))))
      (λ kept. (refl, same_service changed has.there refl refl refl kept))

  -- what was read without an agent is the reply
  replied : (run : ℕ) (entries : List AgentEntry) (read : Reading) (question : Question) (call : Option AskMade) (reply : Reply)
      → call ≡ None → Answers read question call reply → outgoing run entries read ≡ Some reply
  replied run entries Nothing question call reply none answers = absurd answers
  replied run entries (Ready own) question call reply none answers = ap (λ (r : Reply). Some r) (sym answers.1)
  replied run entries (Due commit kind metadata) question call reply none answers =
      absurd (none-some (ask_made kind question metadata answers.0) (sym none ∙ answers.1))
  replied run entries (Waiting commit kind number) question call reply none answers = absurd answers

  pub writes : (ask : ℕ) (one : Answered) → HasCheck world link found ask one.check → found.reading ≡ reading one.desk one.check
      → found.up ≡ true → IsRight one → one.call ≡ None
      → Happens (Write link) world (λ next.
      (next ≡ with_link link (once_sent ask one.reply found) world) × StandsFor used link_of roll side next)
  writes ask one has was_read up right none =
      sends ask one has up
      (ap (outgoing found.run world.entries) was_read
      ∙ replied found.run world.entries (reading one.desk one.check) one.check.question one.call one.reply none right)

  -- ---- what comes of an agent

  -- an entry of the log that is answered or gone
  of_entry : (commit : ℕ) (kind : Kind) (number : ℕ) (state : EntryState) (reply : Reply)
      → Awaits world found commit kind number state → settled commit kind number state ≡ Some reply
      → outgoing found.run world.entries found.reading ≡ Some reply
  of_entry commit kind number state reply awaits is =
      ap (outgoing found.run world.entries) awaits.waits
      ∙ (ap (settled_by commit kind number) awaits.logged ∙ (ap (settled commit kind number) awaits.stands ∙ is))

  -- a question that was not put
  of_none : (commit : ℕ) (kind : Kind) (refusal : PutRefusal) (reply : Reply) → IsNotPut found commit kind refusal
      → LeadsToReply commit kind refusal reply → outgoing found.run world.entries found.reading ≡ Some reply
  of_none commit kind (NoneThere other) reply read leads = ap (outgoing found.run world.entries) (read ∙ sym leads)
  of_none commit kind Full reply read leads = ap (outgoing found.run world.entries) (read ∙ sym leads)
  of_none commit kind Spent reply read leads = ap (outgoing found.run world.entries) (read ∙ sym leads)
  of_none commit kind Stopped reply read leads = absurd read
  of_none commit kind (Memory error) reply read leads = absurd read

  of_outcome : (commit : ℕ) (kind : Kind) (question : Question) (result : AskResult) (reply : Reply)
      → HasOutcome world found commit kind result → LeadsTo commit kind question result reply
      → outgoing found.run world.entries found.reading ≡ Some reply
  of_outcome commit kind question (Ok answered) reply has leads =
      of_entry commit kind answered.0 (IsAnswered answered.1.allowed) reply has leads.1
  of_outcome commit kind question (Err (Gone number)) reply has leads = of_entry commit kind number HasGone reply has leads
  of_outcome commit kind question (Err (Put refusal)) reply has leads = of_none commit kind refusal reply has leads
  of_outcome commit kind question (Err AskStopped) reply has leads = absurd has
  of_outcome commit kind question (Err (Lost number)) reply has leads = absurd has
  of_outcome commit kind question (Err (Withdrawn number)) reply has leads = absurd has

  pub writes_outcome : (ask commit : ℕ) (kind : Kind) (metadata : List ℕ) (one : Answered) (result : AskResult)
      → HasCheck world link found ask one.check → reading one.desk one.check ≡ Due commit kind metadata
      → HasOutcome world found commit kind result → found.up ≡ true → IsRight one
      → one.call ≡ Some (ask_made kind one.check.question metadata result)
      → Happens (Write link) world (λ next.
      (next ≡ with_link link (once_sent ask one.reply found) world) × StandsFor used link_of roll side next)
  writes_outcome ask commit kind metadata one result has due outcome up right called =
      let answers = subst (λ (read : Reading). Answers read one.check.question one.call one.reply) due right in
      let same_call : ask_made kind one.check.question metadata answers.0 ≡ ask_made kind one.check.question metadata result =
      same_Some (ask_made kind one.check.question metadata answers.0) (ask_made kind one.check.question metadata result)
      (sym answers.1 ∙ called) in
      let leads = subst (λ (result : AskResult). LeadsTo commit kind one.check.question result one.reply)
      (ap (λ (call : AskMade). call.result) same_call) answers.2 in
      sends ask one has up (of_outcome commit kind one.check.question result one.reply outcome leads)
