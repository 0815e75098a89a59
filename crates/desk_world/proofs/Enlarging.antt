-- Each event that is enabled lets the world grow, whatever else the world keeps, where its numbers are in their order.
use Rattle.std.proofs.Common.{◌≡◌, ℕ, ◌≤◌, ◌+◌, ◌==◌, ◌&&◌, Bool, true, false, cond, List, [], ◌∷◌, ◌++◌, length, map, Option, Some, None, refl, sym, ap, subst, ◌∙◌, arith}
use Rattle.std.specs.Prelude.{slice_get, nat_le, nat_lt, is_none, is_some, not, max, filter}
use Rattle.std.proofs.lemmas.Bool.{and_parts, leb-true}
use Rattle.std.proofs.lemmas.Option.{none-some, same_Some}
use Rattle.std.proofs.Math.Nat.{le-max_left}
use Rattle.cynara_keys.specs.PolicyResult.{is_agent}
use Rattle.cynara_keys.specs.Key.{Question}
use Rattle.cynara_keys.specs.declared.results.Kind.{Kind}
use Rattle.desk_state.specs.DeskState.{DeskState}
use Rattle.desk_state.specs.Next.{next as next_state}
use Rattle.desk_state.specs.declared.commands.Command.{Command}
use Rattle.desk_world.specs.Client.{Client}
use Rattle.desk_world.specs.World.{World, history, latest, latest_of, last, desk_at, root_outcome, with_commit, with_link, with_client, client_of, put_client, entry_at}
use Rattle.desk_world.specs.Clients.{same_question, new_link, dialled, dial, new_ask, asked, send, given as given_to, hit, kept as cached, delivered, deliver, notice, tell}
use Rattle.desk_world.specs.Links.{enter, is_nothing, reading_of, read, outgoing, write, lose}
use Rattle.desk_world.specs.Commits.{may_store, stored, undecided, committed, decided, decide, entered_before, hung_up, hang, closed, restarted, under_way, may_stop, stop}
use Rattle.desk_world.specs.Agents.{has_agent, is_open, join, count_of, fits, new_entry, put_with, put_to, put_due, put, ended, answer, withdraw, withdraw_waiting, once_stopped, once_left, leave}
use Rattle.desk_world.specs.Events.{connect, after}
use Rattle.desk_world.specs.Grows.{BeginsWith, LinkGrows, LinksGrow, EntryGrows, Grows}
use Rattle.desk_world.specs.Kept.{IsOrdered, Follows, HasHistory}
use Rattle.desk_world.specs.Growth.{EachGrows}
use Rattle.desk_world.specs.declared.agent_entries.AgentEntry.{AgentEntry}
use Rattle.desk_world.specs.declared.events.Event.{Event}
use Rattle.desk_world.specs.declared.events.Event.TheVariants.{Connect, Ask, Hit, Send, Read, Write, Deliver, Notice, Lose, Stored, Undecided, Decide, Publish, Hang, Acknowledge, AgentJoin, AgentPut, AgentReply, AgentWithdraw, AgentLeave, Stop, Tell}
use Rattle.desk_world.specs.declared.events.Half.{Half}
use Rattle.desk_world.specs.declared.events.Half.TheVariants.{Dial, Enter}
use Rattle.desk_world.specs.declared.links.Asked.{Asked}
use Rattle.desk_world.specs.declared.links.Link.{Link}
use Rattle.desk_world.specs.declared.agent_entries.EntryState.TheVariants.{Gone, Answered}
use Rattle.desk_world.specs.declared.links.Reading.{Reading}
use Rattle.desk_world.specs.declared.links.Reading.TheVariants.{Nothing, Ready, Due, Waiting}
use Rattle.desk_world.specs.declared.links.Transit.{Transit}
use Rattle.desk_world.specs.declared.replies.Given.{Given}
use Rattle.desk_world.specs.declared.replies.Reply.TheVariants.{Judged, NoAgent, AgentFull}
use Rattle.desk_world.proofs.Options.{with_some-tells, when-tells, some-tells, none_there}
use Rattle.desk_world.proofs.Lists.{begins_same, begins_push}
use Rattle.desk_world.proofs.Growing.{links_same, links_push, links_set, links_map, entry_same, entries_same, entries_push, entries_map, serving}
use Rattle.desk_world.proofs.Keeping.{cond_each, told_with, told_same}
use Rattle.desk_world.proofs.Committing.{latest-push, moved_grows, grows_trans}
use Rattle.desk_world.proofs.Relinking.{relink_grows}
use Rattle.desk_world.proofs.steps.Agents.{gone_stays, ended_run, ended_number, ended_grows, withdraw_tests}
use Rattle.desk_world.proofs.steps.Hanging.{shut_grows, down_stays}
use Rattle.desk_world.proofs.steps.Storing.{accepted_follows}

-- ---- clients and links

-- a link that keeps what others see of it
steady : (link changed : Link) → changed.client ≡ link.client → changed.run ≡ link.run → changed.entered ≡ link.entered
    → changed.seen ≡ link.seen → changed.up ≡ link.up → LinkGrows link changed
steady link changed client run entered seen up = record {
  client = client;
  run = run;
  entered = λ commit e. entered ∙ e;
  seen = λ commit e. omega (arith, seen);
  closed = λ e. up ∙ e;
}

-- one client has changed, and was told of no less
client-grows : (w : World) (client : ℕ) (changed : Client) (asks : List Asked) (given : List Given) (links : List Link)
    → (client_of w client).told ≤ changed.told → BeginsWith asks w.asks → BeginsWith given w.given
    → LinksGrow w.links links
    → Grows w (record w {
      links = links;
      clients = put_client client changed w.clients;
      asks = asks;
      given = given;
    })
client-grows w client changed asks given links told asks_begin given_begin links_grow =
    serving w links _ asks given w.agents w.entries asks_begin given_begin (told_with w.clients client changed told) links_grow
    (entries_same w.entries)

dial-grows : (w next : World) (client : ℕ) → dial client w ≡ Some next → Grows w next
dial-grows w next client e =
    when-tells (Grows w) (is_none (client_of w client).link) (dialled client w) next e
    (λ may.
    client-grows w client (record (client_of w client) { link = Some (length w.links); log = [] }) w.asks w.given
    (w.links ++ new_link client w.run ∷ []) (told_same w.clients client) (begins_same w.asks) (begins_same w.given)
    (links_push w.links (new_link client w.run)))

enter-grows : (w next : World) (link : ℕ) → enter link w ≡ Some next → Grows w next
enter-grows w next link e =
    with_some-tells (slice_get w.links link) _ next e (λ found there e.
    when-tells (Grows w) (found.run == w.run && is_none found.entered)
    (with_link link (record found { entered = Some w.note; seen = w.note }) w) next e
    (λ tests.
    let both = and_parts (found.run == w.run) (is_none found.entered) tests in
    let not_yet = none_there found.entered both.1 in
    relink_grows w link found (record found { entered = Some w.note; seen = w.note }) there (record {
      client = refl;
      run = refl;
      entered = λ commit e. absurd (none-some commit (sym not_yet ∙ e));
      seen = λ commit e. absurd (none-some commit (sym not_yet ∙ e));
      closed = λ e. e;
    })))

connect-grows : (w next : World) (half : Half) → connect half w ≡ Some next → Grows w next
connect-grows w next (Dial client) e = dial-grows w next client e
connect-grows w next (Enter link) e = enter-grows w next link e

ask-grows : (w : World) (client : ℕ) (question : Question) (simple : Bool) → Grows w (asked client question simple w)
ask-grows w client question simple =
    client-grows w client (record (client_of w client) { asking = Some (length w.asks) })
    (w.asks ++ new_ask client question simple w ∷ []) w.given w.links (told_same w.clients client)
    (begins_push w.asks (new_ask client question simple w)) (begins_same w.given) (links_same w.links)

send-grows : (w next : World) (client : ℕ) → send client w ≡ Some next → Grows w next
send-grows w next client e =
    with_some-tells (client_of w client).asking _ next e (λ ask asking e.
    with_some-tells (client_of w client).link _ next e (λ link holds e.
    with_some-tells (slice_get w.links link) _ next e (λ found there e.
    when-tells (Grows w) (found.up && (is_none found.question && is_none found.reply))
    (with_link link (record found { question = Some ask }) w) next e
    (λ tests.
    relink_grows w link found (record found { question = Some ask }) there
    (steady found (record found { question = Some ask }) refl refl refl refl refl)))))

hit-grows : (w next : World) (client entry : ℕ) → hit client entry w ≡ Some next → Grows w next
hit-grows w next client entry e =
    with_some-tells (client_of w client).asking _ next e (λ ask asking e.
    with_some-tells (slice_get w.asks ask) _ next e (λ one asks e.
    with_some-tells (client_of w client).link _ next e (λ link holds e.
    with_some-tells (slice_get w.links link) _ next e (λ found there e.
    with_some-tells (slice_get (client_of w client).log entry) _ next e (λ known stands e.
    let fits_it : Bool = same_question known.question one.question && nat_le (client_of w client).told known.verdict.commit in
    let new : Given = record { ask = ask; run = found.run; reply = Judged known.verdict } in
    when-tells (Grows w) (found.up && fits_it) (given_to client ask found.run (Judged known.verdict) w) next e
    (λ tests.
    client-grows w client (record (client_of w client) { asking = None }) w.asks (w.given ++ new ∷ []) w.links
    (told_same w.clients client) (begins_same w.asks) (begins_push w.given new) (links_same w.links)))))))

read-grows : (w next : World) (link commit : ℕ) → read link commit w ≡ Some next → Grows w next
read-grows w next link commit e =
    with_some-tells (slice_get w.links link) _ next e (λ found there e.
    with_some-tells found.question _ next e (λ ask asks_it e.
    with_some-tells (slice_get w.asks ask) _ next e (λ one asks e.
    with_some-tells (desk_at commit (history w)) _ next e (λ desk is e.
    let bounds : Bool = nat_le found.seen commit && nat_le commit w.published in
    let changed : Link =
    record found { seen = commit; reading = reading_of commit one.simple (root_outcome desk one.question) } in
    when-tells (Grows w) (is_some found.entered && (is_nothing found.reading && bounds)) (with_link link changed w) next e
    (λ tests.
    let both = and_parts (is_some found.entered) (is_nothing found.reading && bounds) tests in
    let rest = and_parts (is_nothing found.reading) bounds both.1 in
    let low = and_parts (nat_le found.seen commit) (nat_le commit w.published) rest.1 in
    relink_grows w link found changed there (record {
      client = refl;
      run = refl;
      entered = λ entered e. e;
      seen = λ entered e. leb-true found.seen commit low.0;
      closed = λ e. e;
    }))))))

write-grows : (w next : World) (link : ℕ) → write link w ≡ Some next → Grows w next
write-grows w next link e =
    with_some-tells (slice_get w.links link) _ next e (λ found there e.
    with_some-tells found.question _ next e (λ ask asks_it e.
    with_some-tells (outgoing found.run w.entries found.reading) _ next e (λ reply out e.
    let sent : Transit = record { ask = ask; reply = reply } in
    let changed : Link = record found { question = None; reading = Nothing; reply = Some sent } in
    when-tells (Grows w) found.up (with_link link changed w) next e
    (λ up. relink_grows w link found changed there (steady found changed refl refl refl refl refl)))))

deliver-grows : (w next : World) (client : ℕ) → deliver client w ≡ Some next → Grows w next
deliver-grows w next client e =
    with_some-tells (client_of w client).asking _ next e (λ ask asking e.
    with_some-tells (slice_get w.asks ask) _ next e (λ one asks e.
    with_some-tells (client_of w client).link _ next e (λ link holds e.
    with_some-tells (slice_get w.links link) _ next e (λ found there e.
    with_some-tells found.reply _ next e (λ transit sent e.
    let new : Given = record { ask = ask; run = found.run; reply = transit.reply } in
    let emptied : Link = record found { reply = None } in
    when-tells (Grows w) (transit.ask == ask) (delivered client ask one.question link found transit.reply w) next e
    (λ mine.
    client-grows w client
    (record (client_of w client) { asking = None; log = cached one.question transit.reply (client_of w client).log }) w.asks
    (w.given ++ new ∷ []) (with_link link emptied w).links (told_same w.clients client) (begins_same w.asks)
    (begins_push w.given new)
    (links_set w.links link found emptied there (steady found emptied refl refl refl refl refl))))))))

notice-grows : (w next : World) (client : ℕ) → notice client w ≡ Some next → Grows w next
notice-grows w next client e =
    with_some-tells (client_of w client).link _ next e (λ link holds e.
    with_some-tells (slice_get w.links link) _ next e (λ found there e.
    when-tells (Grows w) (not found.up) (with_client client (record (client_of w client) { link = None; log = [] }) w) next e
    (λ down.
    client-grows w client (record (client_of w client) { link = None; log = [] }) w.asks w.given w.links
    (told_same w.clients client) (begins_same w.asks) (begins_same w.given) (links_same w.links))))

lose-grows : (w next : World) (link : ℕ) → lose link w ≡ Some next → Grows w next
lose-grows w next link e =
    with_some-tells (slice_get w.links link) _ next e (λ found there e.
    when-tells (Grows w) found.up (with_link link (record found { up = false }) w) next e
    (λ up. relink_grows w link found (record found { up = false }) there (shut_grows found false (λ e. refl))))

tell-grows : (w next : World) (client commit : ℕ) → tell client commit w ≡ Some next → Grows w next
tell-grows w next client commit e =
    when-tells (Grows w) (nat_le commit w.acknowledged)
    (with_client client (record (client_of w client) { told = max (client_of w client).told commit }) w) next e
    (λ may.
    client-grows w client (record (client_of w client) { told = max (client_of w client).told commit }) w.asks w.given
    w.links (le-max_left (client_of w client).told commit) (begins_same w.asks) (begins_same w.given) (links_same w.links))

-- ---- commits

-- a world of which states and numbers alone have changed
module _ (w : World) (later : List DeskState) (acknowledged : ℕ) (candidate : Option DeskState) (published note : ℕ) where
  numbers-grow : BeginsWith later w.later → w.acknowledged ≤ acknowledged → w.note ≤ note → w.published ≤ published
      → last w ≤ (latest_of w.first later).commit
      → Grows w (record w {
        later = later;
        acknowledged = acknowledged;
        candidate = candidate;
        published = published;
        note = note;
      })
  numbers-grow begins low_acknowledged low_note low_published low_last =
      moved_grows w later acknowledged candidate published note w.run w.links w.agents w.entries begins low_acknowledged
      low_note low_published low_last (omega arith) (links_same w.links) (entries_same w.entries)

-- a state is committed whose commit is not below the last
commit-grows : (w : World) (desk : DeskState) (candidate : Option DeskState) → last w ≤ desk.commit
    → Grows w (record w { later = w.later ++ desk ∷ []; candidate = candidate })
commit-grows w desk candidate low =
    let is = ap (λ (desk : DeskState). desk.commit) (latest-push w.first w.later desk) in
    numbers-grow w (w.later ++ desk ∷ []) w.acknowledged candidate w.published w.note (begins_push w.later desk) (omega arith)
    (omega arith) (omega arith) (omega (arith, is, low))

propose-grows : (w : World) (candidate : Option DeskState) → Grows w (record w { candidate = candidate })
propose-grows w candidate =
    numbers-grow w w.later w.acknowledged candidate w.published w.note (begins_same w.later) (omega arith) (omega arith)
    (omega arith) (omega arith)

-- what follows by a command has a greater commit
follows-low : (w : World) (desk : DeskState) → Follows (latest w) desk → last w ≤ desk.commit
follows-low w desk follows = let is = ap (λ (desk : DeskState). desk.commit) follows.next in omega (arith, is)

module _ (w : World) (order : HasHistory w) where
  decided-grows : (kept : Bool) (desk : DeskState) → w.candidate ≡ Some desk → Grows w (decided kept desk w)
  decided-grows true desk is = commit-grows w desk None (follows-low w desk (order.candidate desk is))
  decided-grows false desk is = propose-grows w None

  publish-grows : Grows w (record w { published = last w })
  publish-grows =
      numbers-grow w w.later w.acknowledged w.candidate (last w) w.note (begins_same w.later) (omega arith) (omega arith)
      order.ordered.published (omega arith)

  hang-grows : Grows w (hang w)
  hang-grows =
      moved_grows w w.later w.acknowledged w.candidate w.published w.published w.run (map (hung_up w.published) w.links)
      w.agents w.entries (begins_same w.later) (omega arith) order.ordered.note (omega arith) (omega arith) (omega arith)
      (links_map (hung_up w.published) w.links
      (λ link. shut_grows link (link.up && not (entered_before w.published link.entered))
      (down_stays link.up (not (entered_before w.published link.entered)))))
      (entries_same w.entries)

  acknowledge-grows : Grows w (record w { acknowledged = w.note })
  acknowledge-grows =
      numbers-grow w w.later w.note w.candidate w.published w.note (begins_same w.later) order.ordered.acknowledged
      (omega arith) (omega arith) (omega arith)

-- ---- stops

restart-grows : (w : World) → IsOrdered w → Grows w (restarted w)
restart-grows w order =
    moved_grows w w.later (last w) None (last w) (last w) (w.run + 1) (map closed w.links) [] (map once_stopped w.entries)
    (begins_same w.later) (omega (arith, order.acknowledged, order.note, order.published))
    (omega (arith, order.note, order.published)) order.published (omega arith) (omega arith)
    (links_map closed w.links (λ link. shut_grows link false (λ e. refl)))
    (entries_map once_stopped w.entries (λ entry. refl) (λ entry. refl)
    (λ run number entry e.
    record { ask = refl; question = refl; kind = refl; commit = refl; settled = gone_stays entry.state }))

-- the numbers of a world keep their order where the last commit is the next one
ordered-push : (w : World) (desk : DeskState) → IsOrdered w → last w ≤ desk.commit → desk.commit ≤ w.acknowledged + 1
    → IsOrdered (record (with_commit desk w) { candidate = None })
ordered-push w desk order low high =
    let is : last (with_commit desk w) ≡ desk.commit =
    ap (λ (desk : DeskState). desk.commit) (latest-push w.first w.later desk) in
    record {
      first = order.first;
      acknowledged = order.acknowledged;
      note = order.note;
      published = omega (arith, order.published, low, is);
      under_way = omega (arith, high, is);
      candidate = λ other e. absurd (none-some other e);
    }

stop-grown : (w : World) → HasHistory w → (command : Option Command) (kept : Bool) → may_stop command w ≡ true
    → (state : Option DeskState)
    → ((desk : DeskState) → state ≡ Some desk → Follows (latest w) desk × (w.acknowledged ≡ last w))
    → Grows w (restarted (committed state w))
stop-grown w order command kept may None each = restart-grows w order.ordered
stop-grown w order command kept may (Some desk) each =
    let one = each desk refl in
    let is : desk.commit ≡ last w + 1 = ap (λ (desk : DeskState). desk.commit) one.0.next in
    let first = commit-grows w desk None (follows-low w desk one.0) in
    grows_trans w (record (with_commit desk w) { candidate = None }) (restarted (with_commit desk w)) first
    (restart-grows (record (with_commit desk w) { candidate = None })
    (ordered-push w desk order.ordered (omega (arith, is)) (omega (arith, is, one.1))))

under_way-follows : (w : World) → HasHistory w → (command : Option Command) → may_stop command w ≡ true
    → (kept : Bool) (desk : DeskState) → cond kept (under_way command w) None ≡ Some desk
    → Follows (latest w) desk × (w.acknowledged ≡ last w)
under_way-follows w order command may false desk e = absurd (none-some desk e)
under_way-follows w order None may true desk e = (order.candidate desk e, sym (order.ordered.candidate desk e))
under_way-follows w order (Some command) may true desk e =
    let accepted = accepted_follows w command may in
    (subst (Follows (latest w)) (same_Some (next_state (latest w) command) desk e) accepted.2, accepted.0)

-- ---- agents

module _ (w : World) (link : ℕ) (found : Link) (there : slice_get w.links link ≡ Some found) (ask : ℕ)
    (question : Question) where
  abbrev waiting : ℕ → Kind → Link
  waiting commit kind = record found { reading = Waiting commit kind (count_of w.run w.entries) }

  abbrev refused : ℕ → Kind → ℕ → Link
  refused commit kind most = record found { reading = Ready (AgentFull commit kind most) }

  abbrev unheard : ℕ → Kind → Link
  unheard commit kind = record found { reading = Ready (NoAgent commit kind) }

  put_with-grows : (full : Option ℕ) (commit : ℕ) (kind : Kind)
      → Grows w (put_with link found ask question full commit kind w)
  put_with-grows None commit kind =
      serving w (with_link link (waiting commit kind) w).links w.clients w.asks w.given w.agents
      (w.entries ++ new_entry ask question kind commit w ∷ []) (begins_same w.asks) (begins_same w.given)
      (told_same w.clients)
      (links_set w.links link found (waiting commit kind) there
      (steady found (waiting commit kind) refl refl refl refl refl))
      (entries_push w.entries (new_entry ask question kind commit w))
  put_with-grows (Some most) commit kind =
      relink_grows w link found (refused commit kind most) there
      (steady found (refused commit kind most) refl refl refl refl refl)

  put_due-grows : (next : World) (full : Option ℕ) (reading : Reading)
      → put_due link found ask question full reading w ≡ Some next → Grows w next
  put_due-grows next full Nothing e = absurd (none-some next e)
  put_due-grows next full (Ready reply) e = absurd (none-some next e)
  put_due-grows next full (Due commit kind metadata) e =
      when-tells (Grows w) (found.run == w.run && fits full w) (put_to link found ask question full commit kind w) next e
      (λ may.
      cond_each (Grows w) (has_agent kind.0 w) (put_with link found ask question full commit kind w)
      (with_link link (unheard commit kind) w) (put_with-grows full commit kind)
      (relink_grows w link found (unheard commit kind) there
      (steady found (unheard commit kind) refl refl refl refl refl)))
  put_due-grows next full (Waiting commit kind number) e = absurd (none-some next e)

put-grows : (w next : World) (link : ℕ) (full : Option ℕ) → put link full w ≡ Some next → Grows w next
put-grows w next link full e =
    with_some-tells (slice_get w.links link) _ next e (λ found there e.
    with_some-tells found.question _ next e (λ ask asks_it e.
    with_some-tells (slice_get w.asks ask) _ next e (λ one asks e.
    put_due-grows w link found there ask one.question next full found.reading e)))

join-grows : (w next : World) (kind : Kind) → join kind w ≡ Some next → Grows w next
join-grows w next kind e =
    when-tells (Grows w) (is_agent kind.0 && not (has_agent kind.0 w)) (record w { agents = w.agents ++ kind.0 ∷ [] }) next e
    (λ tests.
    serving w w.links w.clients w.asks w.given (w.agents ++ kind.0 ∷ []) w.entries (begins_same w.asks)
    (begins_same w.given) (told_same w.clients) (links_same w.links) (entries_same w.entries))

-- entries have changed
entries-grow : (w : World) (agents : List ℕ) (f : AgentEntry → AgentEntry)
    → ((entry : AgentEntry) → (f entry).run ≡ entry.run)
    → ((entry : AgentEntry) → (f entry).number ≡ entry.number)
    → ((run number : ℕ) (entry : AgentEntry) → entry_at run number w.entries ≡ Some entry → EntryGrows entry (f entry))
    → Grows w (record w { agents = agents; entries = map f w.entries })
entries-grow w agents f runs numbers each =
    serving w w.links w.clients w.asks w.given agents (map f w.entries) (begins_same w.asks) (begins_same w.given)
    (told_same w.clients) (links_same w.links) (entries_map f w.entries runs numbers each)

answer-grows : (w next : World) (number : ℕ) (allowed : Bool) → answer number allowed w ≡ Some next → Grows w next
answer-grows w next number allowed e =
    with_some-tells (entry_at w.run number w.entries) _ next e (λ entry there e.
    when-tells (Grows w) (is_open entry.state)
    (record w { entries = map (ended w.run number (Answered allowed)) w.entries }) next e
    (λ open_still.
    entries-grow w w.agents (ended w.run number (Answered allowed)) (ended_run w.run number (Answered allowed))
    (ended_number w.run number (Answered allowed)) (ended_grows w number (Answered allowed) entry there open_still)))

withdraw_waiting-grows : (w next : World) (found : Link) (reading : Reading)
    → withdraw_waiting found reading w ≡ Some next → Grows w next
withdraw_waiting-grows w next found (Waiting commit kind number) e =
    with_some-tells (entry_at w.run number w.entries) _ next e (λ entry there e.
    when-tells (Grows w) (found.run == w.run && (not found.up && is_open entry.state))
    (record w { entries = map (ended w.run number Gone) w.entries }) next e
    (λ tests.
    entries-grow w w.agents (ended w.run number Gone) (ended_run w.run number Gone) (ended_number w.run number Gone)
    (ended_grows w number Gone entry there (withdraw_tests found w entry tests))))
withdraw_waiting-grows w next found Nothing e = absurd (none-some next e)
withdraw_waiting-grows w next found (Ready reply) e = absurd (none-some next e)
withdraw_waiting-grows w next found (Due commit kind metadata) e = absurd (none-some next e)

withdraw-grows : (w next : World) (link : ℕ) → withdraw link w ≡ Some next → Grows w next
withdraw-grows w next link e =
    with_some-tells (slice_get w.links link) _ next e (λ found there e.
    withdraw_waiting-grows w next found found.reading e)

leave-grows : (w next : World) (kind : Kind) → leave kind w ≡ Some next → Grows w next
leave-grows w next kind e =
    when-tells (Grows w) (has_agent kind.0 w)
    (record w {
      agents = filter (λ other. not (other == kind.0)) w.agents;
      entries = map (once_left kind.0) w.entries;
    }) next e
    (λ there.
    entries-grow w (filter (λ other. not (other == kind.0)) w.agents) (once_left kind.0)
    (λ entry. cond_each (λ (now : AgentEntry). now.run ≡ entry.run) (entry.kind.0 == kind.0) (once_stopped entry) entry refl refl)
    (λ entry.
    cond_each (λ (now : AgentEntry). now.number ≡ entry.number) (entry.kind.0 == kind.0) (once_stopped entry) entry refl
    refl)
    (λ run number entry e.
    cond_each (EntryGrows entry) (entry.kind.0 == kind.0) (once_stopped entry) entry
    (record { ask = refl; question = refl; kind = refl; commit = refl; settled = gone_stays entry.state })
    (entry_same entry)))

-- ---- all events

stored-grows : (w next : World) (command : Command) → stored command w ≡ Some next → Grows w next
stored-grows w next command e =
    when-tells (Grows w) (may_store command w) (with_commit (next_state (latest w) command) w) next e
    (λ may.
    let is : (next_state (latest w) command).commit ≡ last w + 1 = refl in
    commit-grows w (next_state (latest w) command) w.candidate (omega (arith, is)))

undecided-grows : (w next : World) (command : Command) → undecided command w ≡ Some next → Grows w next
undecided-grows w next command e =
    when-tells (Grows w) (may_store command w) (record w { candidate = Some (next_state (latest w) command) }) next e
    (λ may. propose-grows w (Some (next_state (latest w) command)))

decide-grows : (w next : World) → HasHistory w → (kept : Bool) → decide kept w ≡ Some next → Grows w next
decide-grows w next order kept e =
    with_some-tells w.candidate _ next e (λ desk is e.
    some-tells (Grows w) (decided kept desk w) next e (decided-grows w order kept desk is))

stop-grows : (w next : World) → HasHistory w → (command : Option Command) (kept : Bool) → stop command kept w ≡ Some next
    → Grows w next
stop-grows w next order command kept e =
    when-tells (Grows w) (may_stop command w) (restarted (committed (cond kept (under_way command w) None) w)) next e
    (λ may.
    stop-grown w order command kept may (cond kept (under_way command w) None)
    (under_way-follows w order command may kept))

event-grows : (w next : World) → HasHistory w → (event : Event) → after event w ≡ Some next → Grows w next
event-grows w next order (Connect half) e = connect-grows w next half e
event-grows w next order (Ask client question simple) e =
    some-tells (Grows w) (asked client question simple w) next e (ask-grows w client question simple)
event-grows w next order (Hit client entry) e = hit-grows w next client entry e
event-grows w next order (Send client) e = send-grows w next client e
event-grows w next order (Read link commit) e = read-grows w next link commit e
event-grows w next order (Write link) e = write-grows w next link e
event-grows w next order (Deliver client) e = deliver-grows w next client e
event-grows w next order (Notice client) e = notice-grows w next client e
event-grows w next order (Lose link) e = lose-grows w next link e
event-grows w next order (Stored command) e = stored-grows w next command e
event-grows w next order (Undecided command) e = undecided-grows w next command e
event-grows w next order (Decide kept) e = decide-grows w next order kept e
event-grows w next order Publish e =
    when-tells (Grows w) (is_none w.candidate && nat_lt w.published (last w)) (record w { published = last w }) next e
    (λ may. publish-grows w order)
event-grows w next order Hang e = some-tells (Grows w) (hang w) next e (hang-grows w order)
event-grows w next order Acknowledge e =
    when-tells (Grows w) (nat_lt w.acknowledged w.note) (record w { acknowledged = w.note }) next e
    (λ may. acknowledge-grows w order)
event-grows w next order (AgentJoin kind) e = join-grows w next kind e
event-grows w next order (AgentPut link full) e = put-grows w next link full e
event-grows w next order (AgentReply number allowed) e = answer-grows w next number allowed e
event-grows w next order (AgentWithdraw link) e = withdraw-grows w next link e
event-grows w next order (AgentLeave kind) e = leave-grows w next kind e
event-grows w next order (Stop command kept) e = stop-grows w next order command kept e
event-grows w next order (Tell client commit) e = tell-grows w next client commit e

pub each_grows : EachGrows
each_grows w next event order e = event-grows w next order event e
