-- A client is given an entry of its cache.
use Rattle.std.proofs.Common.{◌≡◌, ℕ, ◌≤◌, Bool, true, ◌&&◌, Option, Some, None, refl, sym, ap, subst, ◌∙◌, arith}
use Rattle.std.specs.Prelude.{slice_get, unwrap_or, nat_le}
use Rattle.std.proofs.lemmas.Bool.{and_parts}
use Rattle.std.proofs.lemmas.List.Elements.{All-push}
use Rattle.std.proofs.lemmas.Option.{none-some}
use Rattle.std.specs.Cmp.Lexicographic.{same_text as same_bytes}
use Rattle.cynara_keys.specs.Text.{same_text}
use Rattle.cynara_keys.specs.Key.{Question}
use Rattle.desk_world.specs.Client.{Client}
use Rattle.desk_world.specs.World.{World, root_answer, client_of}
use Rattle.desk_world.specs.Clients.{same_question, given, hit, kept}
use Rattle.desk_world.specs.Sound.{IsSound}
use Rattle.desk_world.specs.Grows.{Grows}
use Rattle.desk_world.specs.Kept.{IsCurrent, IsKnown, HasLink, IsClient, IsKept}
use Rattle.desk_world.specs.declared.known.Known.{Known}
use Rattle.desk_world.specs.declared.links.Asked.{Asked}
use Rattle.desk_world.specs.declared.links.Link.{Link}
use Rattle.desk_world.specs.declared.replies.Given.{Given}
use Rattle.desk_world.specs.declared.replies.Reply.TheVariants.{Judged}
use Rattle.desk_world.proofs.Options.{with_some-tells, when-tells}
use Rattle.desk_world.proofs.Lists.{begins_same, begins_push, all-at}
use Rattle.desk_world.proofs.Growing.{links_same, entries_same, serving}
use Rattle.desk_world.proofs.Monotone.{sound_still, links_still, client_still, given_still}
use Rattle.desk_world.proofs.Keeping.{Step, clients_with, told_with, told_same, serves}

same_questions : (question other : Question) → same_question question other ≡ true → question ≡ other
same_questions question other e =
    let both = and_parts (same_text question.client other.client)
    (same_text question.user other.user && same_text question.privilege other.privilege) e in
    let rest = and_parts (same_text question.user other.user) (same_text question.privilege other.privilege) both.1 in
    let client = same_bytes question.client other.client (sym both.0) in
    let user = same_bytes question.user other.user (sym rest.0) in
    let privilege = same_bytes question.privilege other.privilege (sym rest.1) in
    λ i. record { client = client i; user = user i; privilege = privilege i }

module _ (w : World) (kept : IsKept w) (client ask : ℕ) (asked : Asked) (link : ℕ) (found : Link) (entry : ℕ) (known : Known)
    (asks : slice_get w.asks ask ≡ Some asked) (holds : (client_of w client).link ≡ Some link)
    (there : slice_get w.links link ≡ Some found) (stands : slice_get (client_of w client).log entry ≡ Some known)
    (up : found.up ≡ true) (same : known.question ≡ asked.question) where
  abbrev new : Given
  new = record { ask = ask; run = found.run; reply = Judged known.verdict }

  abbrev changed : Client
  changed = record (client_of w client) { asking = None }

  abbrev after : World
  after = given client ask found.run (Judged known.verdict) w

  grows : Grows w after
  grows =
      serving w w.links after.clients w.asks after.given w.agents w.entries (begins_same w.asks) (begins_push w.given new)
      (told_with w.clients client changed (told_same w.clients client)) (links_same w.links) (entries_same w.entries)

  abbrev still : IsClient after (client_of w client)
  still = client_still w after grows (client_of w client) (kept.clients client)

  changed_is : IsClient after changed
  changed_is = record {
    told = (kept.clients client).told;
    asking = λ ask e. absurd (none-some ask e);
    link = still.link;
    no_link = (kept.clients client).no_link;
  }

  abbrev has : HasLink w (client_of w client).log link
  has = (kept.clients client).link link holds

  -- the link of the cache is the one that was asked whether it is up
  known_is : IsKnown w found.entered known
  known_is =
      let is : Some has.link ≡ Some found = sym has.there ∙ there in
      let is_found : has.link ≡ found = cc in
      subst (λ (link : Link). IsKnown w link.entered known) is_found
      (all-at (IsKnown w has.link.entered) (client_of w client).log entry known has.known stands)

  -- an up link entered at the note or later, and the cache has nothing from before
  low : (entered : Option ℕ) → found.entered ≡ entered → w.note ≤ known.verdict.commit
  low None e =
      let is : Some has.link ≡ Some found = sym has.there ∙ there in
      let is_found : has.link ≡ found = cc in
      let empty = has.not_entered (ap (λ (link : Link). link.entered) is_found ∙ e) in
      absurd (none-some known (sym (ap (λ log. slice_get log entry) empty) ∙ stands))
  low (Some commit) e =
      let note = all-at (IsCurrent w.note) w.links link found kept.current there up commit e in
      let commit_low = subst (λ entered. unwrap_or entered 0 ≤ known.verdict.commit) e known_is.between.low in
      omega (arith, note, commit_low)

  sound : IsSound w found.run ask (Judged known.verdict)
  sound = record {
    fresh = record {
      asked = asked;
      desk = known_is.desk;
      asks = asks;
      committed = known_is.committed;
      no_older =
          omega (
            arith,
            low found.entered refl,
            kept.ordered.acknowledged,
            all-at (λ (asked : Asked). asked.floor ≤ w.acknowledged) w.asks ask asked kept.asks asks,
          );
    };
    right = known_is.answer ∙ ap (root_answer known_is.desk) same;
  }

  pub hit-step : Step w after
  hit-step =
      serves w kept w.links after.clients w.asks after.given w.agents w.entries grows kept.current
      (links_still w after grows w.links kept.links)
      (clients_with (IsClient after) w.clients client changed changed_is
      (λ other. client_still w after grows (client_of w other) (kept.clients other)))
      kept.asks kept.numbered
      (All-push (λ (given : Given). IsSound after given.run given.ask given.reply) w.given new
      (given_still w after grows w.given kept.given) (sound_still w after grows found.run ask (Judged known.verdict) sound))

pub hit-steps : (w next : World) → IsKept w → (client entry : ℕ) → hit client entry w ≡ Some next → Step w next
hit-steps w next kept client entry e =
    with_some-tells (client_of w client).asking _ next e (λ ask asking e.
    with_some-tells (slice_get w.asks ask) _ next e (λ asked asks e.
    with_some-tells (client_of w client).link _ next e (λ link holds e.
    with_some-tells (slice_get w.links link) _ next e (λ found there e.
    with_some-tells (slice_get (client_of w client).log entry) _ next e (λ known stands e.
    let fits : Bool = same_question known.question asked.question && nat_le (client_of w client).told known.verdict.commit in
    when-tells (Step w) (found.up && fits) (given client ask found.run (Judged known.verdict) w) next e
    (λ tests.
    let both = and_parts found.up fits tests in
    let parts = and_parts (same_question known.question asked.question)
    (nat_le (client_of w client).told known.verdict.commit) both.1 in
    hit-step w kept client ask asked link found entry known asks holds there stands both.0
    (same_questions known.question asked.question parts.0)))))))
