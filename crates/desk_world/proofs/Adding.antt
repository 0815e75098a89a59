-- An event adds at most one link, one ask and one stop.
use Rattle.std.proofs.Common.{◌≡◌, ℕ, ◌≤◌, ◌+◌, ◌==◌, ◌&&◌, Bool, true, false, cond, [], ◌∷◌, length, Option, Some, None, refl, arith}
use Rattle.std.specs.Prelude.{slice_get}
use Rattle.std.proofs.lemmas.List.{length-append, length-map, length-set}
use Rattle.cynara_keys.specs.Key.{Question}
use Rattle.cynara_keys.specs.declared.results.Kind.{Kind}
use Rattle.desk_state.specs.DeskState.{DeskState}
use Rattle.desk_world.specs.World.{World, history, desk_at, with_link, entry_at, client_of}
use Rattle.desk_world.specs.Clients.{when, with_some, new_link, dialled, new_ask, asked, send, given, hit, delivered, deliver, notice}
use Rattle.desk_world.specs.Links.{enter, read, outgoing, write, lose}
use Rattle.desk_world.specs.Commits.{committed, decide, hung_up, hang, closed, restarted, under_way}
use Rattle.desk_world.specs.Agents.{has_agent, put, put_due, put_with, fits, answer, withdraw, withdraw_waiting}
use Rattle.desk_world.specs.Events.{connect, after}
use Rattle.desk_world.specs.declared.events.Event.{Event}
use Rattle.desk_world.specs.declared.events.Event.TheVariants.{Connect, Ask, Hit, Send, Read, Write, Deliver, Notice, Lose, Stored, Undecided, Decide, Publish, Hang, Acknowledge, AgentJoin, AgentPut, AgentReply, AgentWithdraw, AgentLeave, Stop, Tell}
use Rattle.desk_world.specs.declared.events.Half.{Half}
use Rattle.desk_world.specs.declared.events.Half.TheVariants.{Dial, Enter}
use Rattle.desk_world.specs.declared.links.Link.{Link}
use Rattle.desk_world.specs.declared.links.Reading.{Reading}
use Rattle.desk_world.specs.declared.links.Reading.TheVariants.{Nothing, Ready, Due, Waiting}
use Rattle.desk_world.specs.declared.replies.Reply.TheVariants.{Judged}

pub record Adds (before after : World) : Type 0 where
  pub links : length after.links ≤ length before.links + 1
  pub asks : length after.asks ≤ length before.asks + 1
  pub run : after.run ≤ before.run + 1

-- where there is a world after the event
abbrev pub AddsIf : World → Option World → Type 0
AddsIf before None = Unit {0}
AddsIf before (Some after) = Adds before after

-- as many as before
same : (before after : World) → length after.links ≡ length before.links → length after.asks ≡ length before.asks
    → after.run ≡ before.run → Adds before after
same before after links asks run =
    record { links = omega (arith, links); asks = omega (arith, asks); run = omega (arith, run) }

where_held : (w next : World) (test : Bool) → Adds w next → AddsIf w (when test next)
where_held w next true adds = adds
where_held w next false adds = tt

where_there : {X : Type 0} (w : World) (o : Option X) (event : X → Option World) → ((x : X) → AddsIf w (event x))
    → AddsIf w (with_some o event)
where_there w None event adds = tt
where_there w (Some x) event adds = adds x

-- ---- clients

adds-dialled : (w : World) (client : ℕ) → Adds w (dialled client w)
adds-dialled w client = record {
  links = omega (arith, length-append w.links (new_link client w.run ∷ []));
  asks = omega arith;
  run = omega arith;
}

adds-asked : (w : World) (client : ℕ) (question : Question) (simple : Bool) → Adds w (asked client question simple w)
adds-asked w client question simple = record {
  links = omega arith;
  asks = omega (arith, length-append w.asks (new_ask client question simple w ∷ []));
  run = omega arith;
}

with_link_adds : (w : World) (link : ℕ) (changed : Link) → Adds w (with_link link changed w)
with_link_adds w link changed = same w (with_link link changed w) (length-set w.links link changed) refl refl

adds-send : (w : World) (client : ℕ) → AddsIf w (send client w)
adds-send w client =
    where_there w (client_of w client).asking _ (λ ask.
    where_there w (client_of w client).link _ (λ link.
    where_there w (slice_get w.links link) _ (λ found.
    where_held w (with_link link (record found { question = Some ask }) w) _
    (with_link_adds w link (record found { question = Some ask })))))

adds-hit : (w : World) (client entry : ℕ) → AddsIf w (hit client entry w)
adds-hit w client entry =
    where_there w (client_of w client).asking _ (λ ask.
    where_there w (slice_get w.asks ask) _ (λ asked.
    where_there w (client_of w client).link _ (λ link.
    where_there w (slice_get w.links link) _ (λ found.
    where_there w (slice_get (client_of w client).log entry) _ (λ known.
    where_held w (given client ask found.run (Judged known.verdict) w) _ (same w _ refl refl refl))))))

adds-deliver : (w : World) (client : ℕ) → AddsIf w (deliver client w)
adds-deliver w client =
    where_there w (client_of w client).asking _ (λ ask.
    where_there w (slice_get w.asks ask) _ (λ asked.
    where_there w (client_of w client).link _ (λ link.
    where_there w (slice_get w.links link) _ (λ found.
    where_there w found.reply _ (λ transit.
    where_held w (delivered client ask asked.question link found transit.reply w) _
    (same w _ (length-set w.links link (record found { reply = None })) refl refl))))))

adds-notice : (w : World) (client : ℕ) → AddsIf w (notice client w)
adds-notice w client =
    where_there w (client_of w client).link _ (λ link.
    where_there w (slice_get w.links link) _ (λ found. where_held w _ _ (same w _ refl refl refl)))

-- ---- links

adds-enter : (w : World) (link : ℕ) → AddsIf w (enter link w)
adds-enter w link =
    where_there w (slice_get w.links link) _ (λ found. where_held w _ _ (with_link_adds w link _))

adds-read : (w : World) (link commit : ℕ) → AddsIf w (read link commit w)
adds-read w link commit =
    where_there w (slice_get w.links link) _ (λ found.
    where_there w found.question _ (λ ask.
    where_there w (slice_get w.asks ask) _ (λ asked.
    where_there w (desk_at commit (history w)) _ (λ desk. where_held w _ _ (with_link_adds w link _)))))

adds-write : (w : World) (link : ℕ) → AddsIf w (write link w)
adds-write w link =
    where_there w (slice_get w.links link) _ (λ found.
    where_there w found.question _ (λ ask.
    where_there w (outgoing found.run w.entries found.reading) _ (λ reply. where_held w _ _ (with_link_adds w link _))))

adds-lose : (w : World) (link : ℕ) → AddsIf w (lose link w)
adds-lose w link =
    where_there w (slice_get w.links link) _ (λ found. where_held w _ _ (with_link_adds w link _))

-- ---- commits

adds-decide : (w : World) (kept : Bool) → AddsIf w (decide kept w)
adds-decide w true = where_there w w.candidate _ (λ desk. same w _ refl refl refl)
adds-decide w false = where_there w w.candidate _ (λ desk. same w _ refl refl refl)

adds-hang : (w : World) → Adds w (hang w)
adds-hang w = same w (hang w) (length-map w.links (hung_up w.published)) refl refl

adds-restarted : (w : World) (state : Option DeskState) → Adds w (restarted (committed state w))
adds-restarted w None =
    record { links = omega (arith, length-map w.links closed); asks = omega arith; run = omega arith }
adds-restarted w (Some desk) =
    record { links = omega (arith, length-map w.links closed); asks = omega arith; run = omega arith }

-- ---- agents

adds-put_with : (w : World) (link : ℕ) (found : Link) (ask : ℕ) (question : Question) (full : Option ℕ) (commit : ℕ)
    (kind : Kind) → Adds w (put_with link found ask question full commit kind w)
adds-put_with w link found ask question None commit kind = same w _ (length-set w.links link _) refl refl
adds-put_with w link found ask question (Some most) commit kind = with_link_adds w link _

adds_either : (w next other : World) (test : Bool) → Adds w next → Adds w other → Adds w (cond test next other)
adds_either w next other true one two = one
adds_either w next other false one two = two

adds-put_due : (w : World) (link : ℕ) (found : Link) (ask : ℕ) (question : Question) (full : Option ℕ) (reading : Reading)
    → AddsIf w (put_due link found ask question full reading w)
adds-put_due w link found ask question full Nothing = tt
adds-put_due w link found ask question full (Ready reply) = tt
adds-put_due w link found ask question full (Due commit kind metadata) =
    where_held w _ (found.run == w.run && fits full w)
    (adds_either w _ _ (has_agent kind.0 w) (adds-put_with w link found ask question full commit kind) (with_link_adds w link _))
adds-put_due w link found ask question full (Waiting commit kind number) = tt

adds-put : (w : World) (link : ℕ) (full : Option ℕ) → AddsIf w (put link full w)
adds-put w link full =
    where_there w (slice_get w.links link) _ (λ found.
    where_there w found.question _ (λ ask.
    where_there w (slice_get w.asks ask) _ (λ asked. adds-put_due w link found ask asked.question full found.reading)))

adds-answer : (w : World) (number : ℕ) (allowed : Bool) → AddsIf w (answer number allowed w)
adds-answer w number allowed =
    where_there w (entry_at w.run number w.entries) _ (λ entry. where_held w _ _ (same w _ refl refl refl))

adds-withdraw_waiting : (w : World) (found : Link) (reading : Reading) → AddsIf w (withdraw_waiting found reading w)
adds-withdraw_waiting w found Nothing = tt
adds-withdraw_waiting w found (Ready reply) = tt
adds-withdraw_waiting w found (Due commit kind metadata) = tt
adds-withdraw_waiting w found (Waiting commit kind number) =
    where_there w (entry_at w.run number w.entries) _ (λ entry. where_held w _ _ (same w _ refl refl refl))

adds-withdraw : (w : World) (link : ℕ) → AddsIf w (withdraw link w)
adds-withdraw w link = where_there w (slice_get w.links link) _ (λ found. adds-withdraw_waiting w found found.reading)

-- ---- each event

adds-connect : (w : World) (half : Half) → AddsIf w (connect half w)
adds-connect w (Dial client) = where_held w _ _ (adds-dialled w client)
adds-connect w (Enter link) = adds-enter w link

pub event-adds : (w : World) (event : Event) → AddsIf w (after event w)
event-adds w (Connect half) = adds-connect w half
event-adds w (Ask client question simple) = adds-asked w client question simple
event-adds w (Hit client entry) = adds-hit w client entry
event-adds w (Send client) = adds-send w client
event-adds w (Read link commit) = adds-read w link commit
event-adds w (Write link) = adds-write w link
event-adds w (Deliver client) = adds-deliver w client
event-adds w (Notice client) = adds-notice w client
event-adds w (Lose link) = adds-lose w link
event-adds w (Stored command) = where_held w _ _ (same w _ refl refl refl)
event-adds w (Undecided command) = where_held w _ _ (same w _ refl refl refl)
event-adds w (Decide kept) = adds-decide w kept
event-adds w Publish = where_held w _ _ (same w _ refl refl refl)
event-adds w Hang = adds-hang w
event-adds w Acknowledge = where_held w _ _ (same w _ refl refl refl)
event-adds w (AgentJoin kind) = where_held w _ _ (same w _ refl refl refl)
event-adds w (AgentPut link full) = adds-put w link full
event-adds w (AgentReply number allowed) = adds-answer w number allowed
event-adds w (AgentWithdraw link) = adds-withdraw w link
event-adds w (AgentLeave kind) = where_held w _ _ (same w _ refl refl refl)
event-adds w (Stop command kept) =
    where_held w _ _ (adds-restarted w (cond kept (under_way command w) None))
event-adds w (Tell client commit) = where_held w _ _ (same w _ refl refl refl)
