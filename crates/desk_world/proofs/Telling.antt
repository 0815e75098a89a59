-- What only a telling changes: the commit that a client was told of. And that no reply is older than it.
use Rattle.std.proofs.Common.{◌≡◌, ℕ, ◌≤◌, ◌+◌, ◌==◌, ◌&&◌, Bool, false, cond, List, [], ◌∷◌, ◌++◌, length, map, Option, Some, None, Result, Ok, Err, refl, sym, ap, subst, ◌∙◌}
use Rattle.std.specs.Prelude.{All, slice_get, nat_le, nat_lt, is_none, is_some, not, max, filter}
use Rattle.std.proofs.lemmas.Bool.{eqb-true, cond_both}
use Rattle.std.proofs.lemmas.List.Elements.{All-head, All-tail, All-weaker}
use Rattle.std.proofs.lemmas.Option.{none-some}
use Rattle.cynara_keys.specs.PolicyResult.{is_agent}
use Rattle.cynara_keys.specs.Key.{Question}
use Rattle.cynara_keys.specs.declared.results.Kind.{Kind}
use Rattle.desk_state.specs.DeskState.{DeskState}
use Rattle.desk_state.specs.Next.{next as next_state}
use Rattle.desk_world.specs.Client.{Client}
use Rattle.desk_world.specs.World.{World, history, latest, last, desk_at, root_outcome, with_commit, with_link, with_client, entry_at, client_of, client_in, put_client}
use Rattle.desk_world.specs.Clients.{same_question, dialled, dial, asked, send, given as given_to, hit, kept as cached, delivered, deliver, notice, tell}
use Rattle.desk_world.specs.Links.{enter, is_nothing, reading_of, read, outgoing, write, lose}
use Rattle.desk_world.specs.Commits.{may_store, committed, decided, decide, hang, restarted, under_way, may_stop}
use Rattle.desk_world.specs.Agents.{has_agent, is_open, fits, put_due, put_with, put_to, put, ended, answer, withdraw, withdraw_waiting, once_left}
use Rattle.desk_world.specs.Events.{connect, after, next_of, run_from}
use Rattle.desk_world.specs.Headline.{IsVerdict}
use Rattle.desk_world.specs.Older.{TellsNot, NeverOlder}
use Rattle.desk_world.specs.Sound.{commit_of}
use Rattle.desk_world.specs.declared.clients.Slot.{Slot}
use Rattle.desk_world.specs.declared.events.Event.{Event}
use Rattle.desk_world.specs.declared.events.Event.TheVariants.{Connect, Ask, Hit, Send, Read, Write, Deliver, Notice, Lose, Stored, Undecided, Decide, Publish, Hang, Acknowledge, AgentJoin, AgentPut, AgentReply, AgentWithdraw, AgentLeave, Stop, Tell}
use Rattle.desk_world.specs.declared.events.Half.{Half}
use Rattle.desk_world.specs.declared.events.Half.TheVariants.{Dial, Enter}
use Rattle.desk_world.specs.declared.links.Link.{Link}
use Rattle.desk_world.specs.declared.agent_entries.EntryState.TheVariants.{Gone, Answered}
use Rattle.desk_world.specs.declared.links.Reading.{Reading}
use Rattle.desk_world.specs.declared.links.Reading.TheVariants.{Nothing, Ready, Due, Waiting}
use Rattle.desk_world.specs.declared.links.Transit.{Transit}
use Rattle.desk_world.specs.declared.replies.Given.{Given}
use Rattle.desk_world.specs.declared.replies.Reply.TheVariants.{Judged}
use Rattle.desk_world.proofs.Options.{with_some-tells, when-tells, some-tells}
use Rattle.desk_world.proofs.Keeping.{client-put}
use Rattle.desk_world.proofs.Headlines.{freshness}

-- in the other world the client was told of what it was told of before
abbrev IsToldAlike : World → ℕ → World → Type 0
IsToldAlike w client next = (client_of next client).told ≡ (client_of w client).told

-- ---- changes that keep it

put-told : (clients : List Slot) (number other : ℕ) (changed : Client) → changed.told ≡ (client_in number clients).told
    → (client_in other (put_client number changed clients)).told ≡ (client_in other clients).told
put-told clients number other changed same =
    subst (λ (now : Client). now.told ≡ (client_in other clients).told) (sym (client-put number other changed clients))
    (cond_both (number == other) changed (client_in other clients)
    (λ (now : Client). now.told ≡ (client_in other clients).told)
    (λ e. subst (λ other. changed.told ≡ (client_in other clients).told) (eqb-true number other e) same) (λ e. refl))

-- another client was told
put-other : (clients : List Slot) (number other : ℕ) (changed : Client) → (number ≡ other → ⊥)
    → (client_in other (put_client number changed clients)).told ≡ (client_in other clients).told
put-other clients number other changed apart =
    subst (λ (now : Client). now.told ≡ (client_in other clients).told) (sym (client-put number other changed clients))
    (cond_both (number == other) changed (client_in other clients)
    (λ (now : Client). now.told ≡ (client_in other clients).told)
    (λ e. absurd (apart (eqb-true number other e))) (λ e. refl))

committed-alike : (w : World) (client : ℕ) (state : Option DeskState)
    → (client_of (committed state w) client).told ≡ (client_of w client).told
committed-alike w client None = refl
committed-alike w client (Some desk) = refl

-- ---- events

dial-alike : (w next : World) (client other : ℕ) → dial other w ≡ Some next → IsToldAlike w client next
dial-alike w next client other e =
    when-tells (IsToldAlike w client) (is_none (client_of w other).link) (dialled other w) next e
    (λ may.
    put-told w.clients other client (record (client_of w other) { link = Some (length w.links); log = [] }) refl)

enter-alike : (w next : World) (client link : ℕ) → enter link w ≡ Some next → IsToldAlike w client next
enter-alike w next client link e =
    with_some-tells (slice_get w.links link) _ next e (λ found there e.
    when-tells (IsToldAlike w client) (found.run == w.run && is_none found.entered)
    (with_link link (record found { entered = Some w.note; seen = w.note }) w) next e (λ may. refl))

connect-alike : (w next : World) (client : ℕ) (half : Half) → connect half w ≡ Some next → IsToldAlike w client next
connect-alike w next client (Dial other) e = dial-alike w next client other e
connect-alike w next client (Enter link) e = enter-alike w next client link e

hit-alike : (w next : World) (client other entry : ℕ) → hit other entry w ≡ Some next → IsToldAlike w client next
hit-alike w next client other entry e =
    with_some-tells (client_of w other).asking _ next e (λ ask asking e.
    with_some-tells (slice_get w.asks ask) _ next e (λ one asks e.
    with_some-tells (client_of w other).link _ next e (λ link holds e.
    with_some-tells (slice_get w.links link) _ next e (λ found there e.
    with_some-tells (slice_get (client_of w other).log entry) _ next e (λ known stands e.
    let fits_it : Bool = same_question known.question one.question && nat_le (client_of w other).told known.verdict.commit in
    when-tells (IsToldAlike w client) (found.up && fits_it) (given_to other ask found.run (Judged known.verdict) w) next e
    (λ may. put-told w.clients other client (record (client_of w other) { asking = None }) refl))))))

send-alike : (w next : World) (client other : ℕ) → send other w ≡ Some next → IsToldAlike w client next
send-alike w next client other e =
    with_some-tells (client_of w other).asking _ next e (λ ask asking e.
    with_some-tells (client_of w other).link _ next e (λ link holds e.
    with_some-tells (slice_get w.links link) _ next e (λ found there e.
    when-tells (IsToldAlike w client) (found.up && (is_none found.question && is_none found.reply))
    (with_link link (record found { question = Some ask }) w) next e (λ may. refl))))

read-alike : (w next : World) (client link commit : ℕ) → read link commit w ≡ Some next → IsToldAlike w client next
read-alike w next client link commit e =
    with_some-tells (slice_get w.links link) _ next e (λ found there e.
    with_some-tells found.question _ next e (λ ask asks_it e.
    with_some-tells (slice_get w.asks ask) _ next e (λ one asks e.
    with_some-tells (desk_at commit (history w)) _ next e (λ desk is e.
    let bounds : Bool = nat_le found.seen commit && nat_le commit w.published in
    when-tells (IsToldAlike w client) (is_some found.entered && (is_nothing found.reading && bounds))
    (with_link link
    (record found { seen = commit; reading = reading_of commit one.simple (root_outcome desk one.question) }) w) next e
    (λ may. refl)))))

write-alike : (w next : World) (client link : ℕ) → write link w ≡ Some next → IsToldAlike w client next
write-alike w next client link e =
    with_some-tells (slice_get w.links link) _ next e (λ found there e.
    with_some-tells found.question _ next e (λ ask asks_it e.
    with_some-tells (outgoing found.run w.entries found.reading) _ next e (λ reply out e.
    let sent : Transit = record { ask = ask; reply = reply } in
    when-tells (IsToldAlike w client) found.up
    (with_link link (record found { question = None; reading = Nothing; reply = Some sent }) w) next e (λ up. refl))))

deliver-alike : (w next : World) (client other : ℕ) → deliver other w ≡ Some next → IsToldAlike w client next
deliver-alike w next client other e =
    with_some-tells (client_of w other).asking _ next e (λ ask asking e.
    with_some-tells (slice_get w.asks ask) _ next e (λ one asks e.
    with_some-tells (client_of w other).link _ next e (λ link holds e.
    with_some-tells (slice_get w.links link) _ next e (λ found there e.
    with_some-tells found.reply _ next e (λ transit sent e.
    when-tells (IsToldAlike w client) (transit.ask == ask) (delivered other ask one.question link found transit.reply w) next
    e
    (λ mine.
    put-told w.clients other client
    (record (client_of w other) { asking = None; log = cached one.question transit.reply (client_of w other).log }) refl))))))

notice-alike : (w next : World) (client other : ℕ) → notice other w ≡ Some next → IsToldAlike w client next
notice-alike w next client other e =
    with_some-tells (client_of w other).link _ next e (λ link holds e.
    with_some-tells (slice_get w.links link) _ next e (λ found there e.
    when-tells (IsToldAlike w client) (not found.up)
    (with_client other (record (client_of w other) { link = None; log = [] }) w) next e
    (λ down. put-told w.clients other client (record (client_of w other) { link = None; log = [] }) refl)))

lose-alike : (w next : World) (client link : ℕ) → lose link w ≡ Some next → IsToldAlike w client next
lose-alike w next client link e =
    with_some-tells (slice_get w.links link) _ next e (λ found there e.
    when-tells (IsToldAlike w client) found.up (with_link link (record found { up = false }) w) next e (λ up. refl))

decide-alike : (w next : World) (client : ℕ) (kept : Bool) → decide kept w ≡ Some next → IsToldAlike w client next
decide-alike w next client kept e =
    with_some-tells w.candidate _ next e (λ desk is e.
    some-tells (IsToldAlike w client) (decided kept desk w) next e
    (committed-alike w client (cond kept (Some desk) None)))

put_with-alike : (w : World) (client link : ℕ) (found : Link) (ask : ℕ) (question : Question) (full : Option ℕ)
    (commit : ℕ) (kind : Kind) → IsToldAlike w client (put_with link found ask question full commit kind w)
put_with-alike w client link found ask question None commit kind = refl
put_with-alike w client link found ask question (Some most) commit kind = refl

put_to-alike : (w : World) (client link : ℕ) (found : Link) (ask : ℕ) (question : Question) (full : Option ℕ)
    (commit : ℕ) (kind : Kind) → IsToldAlike w client (put_to link found ask question full commit kind w)
put_to-alike w client link found ask question full commit kind =
    cond_both (has_agent kind.0 w) (put_with link found ask question full commit kind w) _ (IsToldAlike w client)
    (λ e. put_with-alike w client link found ask question full commit kind) (λ e. refl)

put_due-alike : (w next : World) (client link : ℕ) (found : Link) (ask : ℕ) (question : Question) (full : Option ℕ)
    (reading : Reading) → put_due link found ask question full reading w ≡ Some next → IsToldAlike w client next
put_due-alike w next client link found ask question full Nothing e = absurd (none-some next e)
put_due-alike w next client link found ask question full (Ready reply) e = absurd (none-some next e)
put_due-alike w next client link found ask question full (Due commit kind metadata) e =
    when-tells (IsToldAlike w client) (found.run == w.run && fits full w)
    (put_to link found ask question full commit kind w) next e
    (λ may. put_to-alike w client link found ask question full commit kind)
put_due-alike w next client link found ask question full (Waiting commit kind number) e = absurd (none-some next e)

put-alike : (w next : World) (client link : ℕ) (full : Option ℕ) → put link full w ≡ Some next → IsToldAlike w client next
put-alike w next client link full e =
    with_some-tells (slice_get w.links link) _ next e (λ found there e.
    with_some-tells found.question _ next e (λ ask asks_it e.
    with_some-tells (slice_get w.asks ask) _ next e (λ one asks e.
    put_due-alike w next client link found ask one.question full found.reading e)))

answer-alike : (w next : World) (client number : ℕ) (allowed : Bool) → answer number allowed w ≡ Some next
    → IsToldAlike w client next
answer-alike w next client number allowed e =
    with_some-tells (entry_at w.run number w.entries) _ next e (λ entry there e.
    when-tells (IsToldAlike w client) (is_open entry.state)
    (record w { entries = map (ended w.run number (Answered allowed)) w.entries }) next e (λ open_still. refl))

withdraw_waiting-alike : (w next : World) (client : ℕ) (found : Link) (reading : Reading)
    → withdraw_waiting found reading w ≡ Some next → IsToldAlike w client next
withdraw_waiting-alike w next client found (Waiting commit kind number) e =
    with_some-tells (entry_at w.run number w.entries) _ next e (λ entry there e.
    when-tells (IsToldAlike w client) (found.run == w.run && (not found.up && is_open entry.state))
    (record w { entries = map (ended w.run number Gone) w.entries }) next e (λ tests. refl))
withdraw_waiting-alike w next client found Nothing e = absurd (none-some next e)
withdraw_waiting-alike w next client found (Ready reply) e = absurd (none-some next e)
withdraw_waiting-alike w next client found (Due commit kind metadata) e = absurd (none-some next e)

withdraw-alike : (w next : World) (client link : ℕ) → withdraw link w ≡ Some next → IsToldAlike w client next
withdraw-alike w next client link e =
    with_some-tells (slice_get w.links link) _ next e (λ found there e.
    withdraw_waiting-alike w next client found found.reading e)

tell-alike : (w next : World) (client other commit : ℕ) → (other ≡ client → ⊥) → tell other commit w ≡ Some next
    → IsToldAlike w client next
tell-alike w next client other commit apart e =
    when-tells (IsToldAlike w client) (nat_le commit w.acknowledged)
    (with_client other (record (client_of w other) { told = max (client_of w other).told commit }) w) next e
    (λ may.
    put-other w.clients other client (record (client_of w other) { told = max (client_of w other).told commit }) apart)

event-alike : (w next : World) (client : ℕ) (event : Event) → TellsNot client event → after event w ≡ Some next
    → IsToldAlike w client next
event-alike w next client (Connect half) not_told e = connect-alike w next client half e
event-alike w next client (Ask other question simple) not_told e =
    some-tells (IsToldAlike w client) (asked other question simple w) next e
    (put-told w.clients other client (record (client_of w other) { asking = Some (length w.asks) }) refl)
event-alike w next client (Hit other entry) not_told e = hit-alike w next client other entry e
event-alike w next client (Send other) not_told e = send-alike w next client other e
event-alike w next client (Read link commit) not_told e = read-alike w next client link commit e
event-alike w next client (Write link) not_told e = write-alike w next client link e
event-alike w next client (Deliver other) not_told e = deliver-alike w next client other e
event-alike w next client (Notice other) not_told e = notice-alike w next client other e
event-alike w next client (Lose link) not_told e = lose-alike w next client link e
event-alike w next client (Stored command) not_told e =
    when-tells (IsToldAlike w client) (may_store command w) (with_commit (next_state (latest w) command) w) next e
    (λ may. refl)
event-alike w next client (Undecided command) not_told e =
    when-tells (IsToldAlike w client) (may_store command w) (record w { candidate = Some (next_state (latest w) command) })
    next e (λ may. refl)
event-alike w next client (Decide kept) not_told e = decide-alike w next client kept e
event-alike w next client Publish not_told e =
    when-tells (IsToldAlike w client) (is_none w.candidate && nat_lt w.published (last w))
    (record w { published = last w }) next e (λ may. refl)
event-alike w next client Hang not_told e = some-tells (IsToldAlike w client) (hang w) next e refl
event-alike w next client Acknowledge not_told e =
    when-tells (IsToldAlike w client) (nat_lt w.acknowledged w.note) (record w { acknowledged = w.note }) next e
    (λ may. refl)
event-alike w next client (AgentJoin kind) not_told e =
    when-tells (IsToldAlike w client) (is_agent kind.0 && not (has_agent kind.0 w))
    (record w { agents = w.agents ++ kind.0 ∷ [] }) next e (λ may. refl)
event-alike w next client (AgentPut link full) not_told e = put-alike w next client link full e
event-alike w next client (AgentReply number allowed) not_told e = answer-alike w next client number allowed e
event-alike w next client (AgentWithdraw link) not_told e = withdraw-alike w next client link e
event-alike w next client (AgentLeave kind) not_told e =
    when-tells (IsToldAlike w client) (has_agent kind.0 w)
    (record w {
      agents = filter (λ other. not (other == kind.0)) w.agents;
      entries = map (once_left kind.0) w.entries;
    }) next e (λ may. refl)
event-alike w next client (Stop command kept) not_told e =
    when-tells (IsToldAlike w client) (may_stop command w)
    (restarted (committed (cond kept (under_way command w) None) w)) next e
    (λ may. committed-alike w client (cond kept (under_way command w) None))
event-alike w next client (Tell other commit) not_told e =
    tell-alike w next client other commit (λ same. not_told commit (ap (λ number. Tell number commit) same)) e

-- ---- a list of events

next-alike : (w last : World) (client at : ℕ) (rest : World → Result World ℕ) (outcome : Option World)
    → ((next : World) → outcome ≡ Some next → IsToldAlike w client next)
    → ((next : World) → rest next ≡ Ok last → IsToldAlike next client last)
    → next_of at rest outcome ≡ Ok last → IsToldAlike w client last
next-alike w last client at rest None alike later e = let never : Err at ≡ Ok last = e in cc
next-alike w last client at rest (Some next) alike later e = later next e ∙ alike next refl

run_from-alike : (client at : ℕ) (events : List Event) (w last : World) → All (TellsNot client) events
    → run_from at events w ≡ Ok last → IsToldAlike w client last
run_from-alike client at [] w last none e =
    let same : w ≡ last = cc in ap (λ (world : World). (client_of world client).told) (sym same)
run_from-alike client at (event ∷ events) w last none e =
    next-alike w last client at (run_from (at + 1) events) (after event w)
    (λ next. event-alike w next client event (All-head (TellsNot client) event events none))
    (λ next. run_from-alike client (at + 1) events next last (All-tail (TellsNot client) event events none)) e

pub never_older : NeverOlder
never_older desk earlier later client question simple before after first second none =
    let same =
    run_from-alike client 0 later (asked client question simple before) after none second
    ∙ put-told before.clients client client (record (client_of before client) { asking = Some (length before.asks) }) refl in
    All-weaker
    (λ (given : Given).
    given.ask ≡ length before.asks
    → IsVerdict after before.acknowledged question given × IsVerdict after (client_of before client).told question given)
    (λ (given : Given). given.ask ≡ length before.asks → (client_of after client).told ≤ commit_of given.reply)
    (λ given verdicts mine. subst (λ told. told ≤ commit_of given.reply) (sym same) (verdicts mine).1.no_older) after.given
    (freshness desk earlier later client question simple before after first second)
