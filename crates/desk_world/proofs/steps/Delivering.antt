-- A client receives the reply to its question, or gives back a closed link.
use Rattle.std.proofs.Common.{◌≡◌, ℕ, ◌==◌, not, List, [], Some, None, refl, sym, ap, subst, ◌∙◌, arith}
use Rattle.std.specs.Prelude.{All, slice_get}
use Rattle.std.proofs.lemmas.Bool.{eqb-true}
use Rattle.std.proofs.lemmas.List.Elements.{All-push, All-set}
use Rattle.std.proofs.lemmas.Option.{none-some}
use Rattle.desk_world.specs.Client.{Client}
use Rattle.desk_world.specs.World.{World, root_answer, with_client, client_of}
use Rattle.desk_world.specs.Clients.{kept as log_after, delivered, deliver, notice}
use Rattle.desk_world.specs.Sound.{commit_of, IsSound}
use Rattle.desk_world.specs.Grows.{Grows}
use Rattle.desk_world.specs.Kept.{IsCurrent, IsBetween, IsSent, IsLink, IsKnown, HasLink, IsClient, IsKept}
use Rattle.desk_world.specs.declared.known.Known.{Known}
use Rattle.desk_world.specs.declared.links.Asked.{Asked}
use Rattle.desk_world.specs.declared.links.Link.{Link}
use Rattle.desk_world.specs.declared.links.Transit.{Transit}
use Rattle.desk_world.specs.declared.replies.Given.{Given}
use Rattle.desk_world.specs.declared.replies.Reply.{Reply}
use Rattle.desk_world.specs.declared.replies.Reply.TheVariants.{Judged, FromAgent, NotResolved, NoAgent, AgentGone, AgentFull}
use Rattle.desk_world.proofs.Options.{with_some-tells, when-tells}
use Rattle.desk_world.proofs.Lists.{begins_same, begins_push, get-set_same, all-at}
use Rattle.desk_world.proofs.Growing.{links_same, links_set, entries_same, serving}
use Rattle.desk_world.proofs.Monotone.{desk_still, sound_still, between_still, link_still, links_still, has_link_still, client_still, given_still}
use Rattle.desk_world.proofs.Keeping.{Step, clients_with, told_with, told_same, serves}

module _ (w : World) (kept : IsKept w) (client ask : ℕ) (asked : Asked) (link : ℕ) (found : Link) (transit : Transit)
    (asks : slice_get w.asks ask ≡ Some asked) (holds : (client_of w client).link ≡ Some link)
    (there : slice_get w.links link ≡ Some found) (sent : found.reply ≡ Some transit) (mine : transit.ask ≡ ask) where
  abbrev new : Given
  new = record { ask = ask; run = found.run; reply = transit.reply }

  abbrev freed : Link
  freed = record found { reply = None }

  abbrev log : List Known
  log = log_after asked.question transit.reply (client_of w client).log

  abbrev changed : Client
  changed = record (client_of w client) { asking = None; log = log }

  abbrev after : World
  after = delivered client ask asked.question link found transit.reply w

  grows : Grows w after
  grows =
      serving w after.links after.clients w.asks after.given w.agents w.entries (begins_same w.asks) (begins_push w.given new)
      (told_with w.clients client changed (told_same w.clients client))
      (links_set w.links link found freed there
      (record { client = refl; run = refl; entered = λ commit e. e; seen = λ commit e. omega arith; closed = λ e. e }))
      (entries_same w.entries)

  abbrev was : IsLink w found
  was = all-at (IsLink w) w.links link found kept.links there

  abbrev still : IsLink after found
  still = link_still w after grows found was

  freed_is : IsLink after freed
  freed_is = record {
    first = still.first;
    seen = still.seen;
    question = still.question;
    reading = still.reading;
    reply = λ transit e. absurd (none-some transit e);
    unasked = still.unasked;
    not_entered = λ e. ((still.not_entered e).0, refl);
  }

  -- what was in transit is right for the ask that is open
  arrived : IsSent w found.run found.entered transit
  arrived = was.reply transit sent

  sound : IsSound w found.run ask transit.reply
  sound = subst (λ ask. IsSound w found.run ask transit.reply) mine arrived.sound

  has_entered : found.entered ≡ None → ⊥
  has_entered e = none-some transit (sym (was.not_entered e).1 ∙ sent)

  abbrev has : HasLink after (client_of w client).log link
  has = has_link_still w after grows (client_of w client).log link ((kept.clients client).link link holds)

  is_freed : has.link ≡ freed
  is_freed = let is : Some has.link ≡ Some freed = sym has.there ∙ get-set_same w.links link found freed there in cc

  known_then : All (IsKnown after found.entered) (client_of w client).log
  known_then = subst (λ (link : Link). All (IsKnown after link.entered) (client_of w client).log) is_freed has.known

  known_now : (reply : Reply) → IsSound w found.run ask reply → IsBetween w found.entered (commit_of reply)
      → ((right : IsSound w found.run ask reply) → right.fresh.asked ≡ asked)
      → All (IsKnown after found.entered) (log_after asked.question reply (client_of w client).log)
  known_now (Judged verdict) right between same =
      All-push (IsKnown after found.entered) (client_of w client).log (record { question = asked.question; verdict = verdict })
      known_then
      (record {
        desk = right.fresh.desk;
        committed = desk_still w after grows verdict.commit right.fresh.desk right.fresh.committed;
        between = between_still w after grows found.entered verdict.commit between;
        answer = right.right ∙ ap (λ (asked : Asked). root_answer right.fresh.desk asked.question) (same right);
      })
  known_now (FromAgent commit kind number allowed) right between same = known_then
  known_now (NotResolved commit kind) right between same = known_then
  known_now (NoAgent commit kind) right between same = known_then
  known_now (AgentGone commit number) right between same = known_then
  known_now (AgentFull commit kind most) right between same = known_then

  has_link : HasLink after log link
  has_link = record {
    link = freed;
    there = get-set_same w.links link found freed there;
    known =
        known_now transit.reply sound arrived.between
        (λ right. let is : Some right.fresh.asked ≡ Some asked = sym right.fresh.asks ∙ asks in cc);
    not_entered = λ e. absurd (has_entered e);
  }

  changed_is : IsClient after changed
  changed_is = record {
    told = (kept.clients client).told;
    asking = λ ask e. absurd (none-some ask e);
    link = λ place e.
        let is : Some link ≡ Some place = sym holds ∙ e in
        let same : link ≡ place = cc in subst (HasLink after log) same has_link;
    no_link = λ e. absurd (none-some link (sym e ∙ holds));
  }

  pub deliver-step : Step w after
  deliver-step =
      serves w kept after.links after.clients w.asks after.given w.agents w.entries grows
      (All-set (IsCurrent w.note) w.links link freed (all-at (IsCurrent w.note) w.links link found kept.current there)
      kept.current)
      (All-set (IsLink after) w.links link freed freed_is (links_still w after grows w.links kept.links))
      (clients_with (IsClient after) w.clients client changed changed_is
      (λ other. client_still w after grows (client_of w other) (kept.clients other)))
      kept.asks kept.numbered
      (All-push (λ (given : Given). IsSound after given.run given.ask given.reply) w.given new
      (given_still w after grows w.given kept.given) (sound_still w after grows found.run ask transit.reply sound))

pub deliver-steps : (w next : World) → IsKept w → (client : ℕ) → deliver client w ≡ Some next → Step w next
deliver-steps w next kept client e =
    with_some-tells (client_of w client).asking _ next e (λ ask asking e.
    with_some-tells (slice_get w.asks ask) _ next e (λ asked asks e.
    with_some-tells (client_of w client).link _ next e (λ link holds e.
    with_some-tells (slice_get w.links link) _ next e (λ found there e.
    with_some-tells found.reply _ next e (λ transit sent e.
    when-tells (Step w) (transit.ask == ask) (delivered client ask asked.question link found transit.reply w) next e
    (λ mine.
    deliver-step w kept client ask asked link found transit asks holds there sent (eqb-true transit.ask ask mine)))))))

module _ (w : World) (kept : IsKept w) (client : ℕ) where
  abbrev unlinked : Client
  unlinked = record (client_of w client) { link = None; log = [] }

  abbrev noticed : World
  noticed = with_client client unlinked w

  notice_grows : Grows w noticed
  notice_grows =
      serving w w.links noticed.clients w.asks w.given w.agents w.entries (begins_same w.asks) (begins_same w.given)
      (told_with w.clients client unlinked (told_same w.clients client)) (links_same w.links) (entries_same w.entries)

  pub notice-step : Step w noticed
  notice-step =
      serves w kept w.links noticed.clients w.asks w.given w.agents w.entries notice_grows kept.current
      (links_still w noticed notice_grows w.links kept.links)
      (clients_with (IsClient noticed) w.clients client unlinked
      (record {
        told = (kept.clients client).told;
        asking = (kept.clients client).asking;
        link = λ place e. absurd (none-some place e);
        no_link = λ e. refl;
      })
      (λ other. client_still w noticed notice_grows (client_of w other) (kept.clients other)))
      kept.asks kept.numbered (given_still w noticed notice_grows w.given kept.given)

pub notice-steps : (w next : World) → IsKept w → (client : ℕ) → notice client w ≡ Some next → Step w next
notice-steps w next kept client e =
    with_some-tells (client_of w client).link _ next e (λ link holds e.
    with_some-tells (slice_get w.links link) _ next e (λ found there e.
    when-tells (Step w) (not found.up) (with_client client (record (client_of w client) { link = None; log = [] }) w) next e
    (λ down. notice-step w kept client)))
