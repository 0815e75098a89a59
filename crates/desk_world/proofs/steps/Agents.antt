-- Agents come, are asked, answer and leave.
use Rattle.std.proofs.Common.{◌≡◌, ℕ, ◌≤◌, ◌==◌, Bool, true, false, not, ◌&&◌, cond, List, [], ◌∷◌, ◌++◌, map, Option, Some, None, refl, sym, ap, subst, ◌∙◌, arith}
use Rattle.std.specs.Prelude.{slice_get}
use Rattle.std.proofs.lemmas.Bool.{and_parts, true≢false, eqb-true}
use Rattle.std.proofs.lemmas.List.Elements.{All-set}
use Rattle.std.proofs.lemmas.Option.{none-some, same_Some}
use Rattle.cynara_keys.specs.declared.results.Kind.{Kind}
use Rattle.desk_state.specs.DeskState.{DeskState}
use Rattle.desk_world.specs.World.{World, history, desk_at, with_link, entry_at, client_of}
use Rattle.desk_world.specs.Clients.{asked, kept}
use Rattle.desk_world.specs.Sound.{commit_of, LeavesTo, IsRight, IsSound}
use Rattle.desk_world.specs.Grows.{EntryGrows, Grows}
use Rattle.desk_world.specs.Kept.{IsCurrent, IsBetween, IsLeft, IsRead, IsLink, IsKept}
use Rattle.desk_world.specs.declared.agent_entries.AgentEntry.{AgentEntry}
use Rattle.desk_world.specs.declared.agent_entries.EntryState.{EntryState}
use Rattle.desk_world.specs.declared.agent_entries.EntryState.TheVariants.{Open, Gone, Answered}
use Rattle.desk_world.specs.declared.links.Asked.{Asked}
use Rattle.desk_world.specs.declared.links.Link.{Link}
use Rattle.desk_world.specs.declared.links.Reading.{Reading}
use Rattle.desk_world.specs.declared.links.Reading.TheVariants.{Nothing, Ready, Due, Waiting}
use Rattle.desk_world.specs.declared.replies.Reply.{Reply}
use Rattle.desk_world.specs.declared.replies.Reply.TheVariants.{NoAgent, AgentFull}
use Rattle.desk_world.proofs.Options.{with_some-tells, when-tells}
use Rattle.desk_world.proofs.Lists.{begins_same, all-at}
use Rattle.desk_world.proofs.Growing.{links_same, links_set, entries_same, entries_push, entries_map, serving}
use Rattle.desk_world.proofs.Monotone.{fresh_still, sound_still, between_still, link_still, links_still, client_still, given_still}
use Rattle.desk_world.proofs.Keeping.{Step, told_same, serves}
use Rattle.std.proofs.lemmas.Bool.{cond_both, both_ways}
use Rattle.desk_world.specs.Agents.{is_open, has_agent, join, count_of, fits, new_entry, put_down, put_with, put_to, put_due, put, gone_if_open, once_stopped, once_left, leave, ended, answer, withdraw, withdraw_waiting}
use Rattle.cynara_keys.specs.PolicyResult.{is_agent}
use Rattle.std.specs.Prelude.{filter}
use Rattle.std.specs.List.{find}
use Rattle.desk_world.proofs.Keeping.{cond_each}
use Rattle.desk_world.proofs.Growing.{entry_same}
use Rattle.desk_world.proofs.Numbering.{numbered_map, numbered_push, new_is_found}

-- ---- an agent comes

module _ (w : World) (kept : IsKept w) (agents : List ℕ) where
  abbrev joined : World
  joined = record w { agents = agents }

  join_grows : Grows w joined
  join_grows =
      serving w w.links w.clients w.asks w.given agents w.entries (begins_same w.asks) (begins_same w.given)
      (told_same w.clients) (links_same w.links) (entries_same w.entries)

  pub join-step : Step w joined
  join-step =
      serves w kept w.links w.clients w.asks w.given agents w.entries join_grows kept.current
      (links_still w joined join_grows w.links kept.links)
      (λ client. client_still w joined join_grows (client_of w client) (kept.clients client))
      kept.asks kept.numbered (given_still w joined join_grows w.given kept.given)

pub join-steps : (w next : World) → IsKept w → (kind : Kind) → join kind w ≡ Some next → Step w next
join-steps w next kept kind e =
    when-tells (Step w) (is_agent kind.0 && not (has_agent kind.0 w)) (record w { agents = w.agents ++ kind.0 ∷ [] }) next e
    (λ tests. join-step w kept (w.agents ++ kind.0 ∷ []))

-- ---- a question is put to an agent

module _ (w : World) (kept : IsKept w) (link : ℕ) (found : Link) (ask : ℕ) (asked : Asked) (commit : ℕ) (kind : Kind)
    (there : slice_get w.links link ≡ Some found) (asks_it : found.question ≡ Some ask)
    (left : IsLeft w ask commit kind) (between : IsBetween w found.entered commit) (entered : found.entered ≡ None → ⊥) where
  -- it is refused
  module _ (reply : Reply) (same : commit_of reply ≡ commit)
      (right : (desk : DeskState) → LeavesTo kind desk left.fresh.asked.question
      → IsRight w found.run ask left.fresh.asked.question desk reply) where
    abbrev refused : Link
    refused = record found { reading = Ready reply }

    abbrev after : World
    after = with_link link refused w

    grows : Grows w after
    grows =
        serving w after.links w.clients w.asks w.given w.agents w.entries (begins_same w.asks) (begins_same w.given)
        (told_same w.clients)
        (links_set w.links link found refused there
        (record { client = refl; run = refl; entered = λ commit e. e; seen = λ commit e. omega arith; closed = λ e. e }))
        (entries_same w.entries)

    abbrev still : IsLink after found
    still = link_still w after grows found (all-at (IsLink w) w.links link found kept.links there)

    sound : IsSound w found.run ask reply
    sound = record {
      fresh = record {
        asked = left.fresh.asked;
        desk = left.fresh.desk;
        asks = left.fresh.asks;
        committed = subst (λ at. desk_at at (history w) ≡ Some left.fresh.desk) (sym same) left.fresh.committed;
        no_older = subst (λ at. left.fresh.asked.floor ≤ at) (sym same) left.fresh.no_older;
      };
      right = right left.fresh.desk left.leaves;
    }

    refused_is : IsLink after refused
    refused_is = record {
      first = still.first;
      seen = still.seen;
      question = still.question;
      reading = λ other e.
          let is : Some ask ≡ Some other = sym asks_it ∙ e in
          subst (λ ask. IsRead after found.run found.entered ask (Ready reply)) (same_Some ask other is) (
            sound_still w after grows found.run ask reply sound,
            between_still w after grows found.entered (commit_of reply)
                (subst (IsBetween w found.entered) (sym same) between),
          );
      reply = still.reply;
      unasked = λ e. absurd (none-some ask (sym e ∙ asks_it));
      not_entered = λ e. absurd (entered e);
    }

    pub refuse-step : Step w after
    refuse-step =
        serves w kept after.links w.clients w.asks w.given w.agents w.entries grows
        (All-set (IsCurrent w.note) w.links link refused (all-at (IsCurrent w.note) w.links link found kept.current there)
        kept.current)
        (All-set (IsLink after) w.links link refused refused_is (links_still w after grows w.links kept.links))
        (λ other. client_still w after grows (client_of w other) (kept.clients other))
        kept.asks kept.numbered (given_still w after grows w.given kept.given)

  -- it is taken
  module _ (asks : slice_get w.asks ask ≡ Some asked) (run : found.run ≡ w.run) where
    abbrev new : AgentEntry
    new = new_entry ask asked.question kind commit w

    abbrev number : ℕ
    number = count_of w.run w.entries

    abbrev waits : Link
    waits = record found { reading = Waiting commit kind number }

    abbrev put_world : World
    put_world = put_down link found ask asked.question commit kind w

    put_grows : Grows w put_world
    put_grows =
        serving w put_world.links w.clients w.asks w.given w.agents put_world.entries (begins_same w.asks)
        (begins_same w.given) (told_same w.clients)
        (links_set w.links link found waits there
        (record { client = refl; run = refl; entered = λ commit e. e; seen = λ commit e. omega arith; closed = λ e. e }))
        (entries_push w.entries new)

    abbrev kept_link : IsLink put_world found
    kept_link = link_still w put_world put_grows found (all-at (IsLink w) w.links link found kept.links there)

    abbrev still_left : IsLeft put_world ask commit kind
    still_left = record { fresh = fresh_still w put_world put_grows ask commit left.fresh; leaves = left.leaves }

    logged : entry_at found.run number put_world.entries ≡ Some new
    logged =
        subst (λ run. entry_at run number put_world.entries ≡ Some new) (sym run)
        (new_is_found w.entries new refl kept.numbered)

    waits_is : IsLink put_world waits
    waits_is = record {
      first = kept_link.first;
      seen = kept_link.seen;
      question = kept_link.question;
      reading = λ other e.
          let is : Some ask ≡ Some other = sym asks_it ∙ e in
          subst (λ ask. IsRead put_world found.run found.entered ask (Waiting commit kind number)) (same_Some ask other is) (
            still_left,
            between_still w put_world put_grows found.entered commit between,
            record {
              entry = new;
              logged = logged;
              same_ask = refl;
              same_question =
                  ap (λ (asked : Asked). asked.question) (same_Some asked left.fresh.asked (sym asks ∙ left.fresh.asks));
              same_kind = refl;
              same_commit = refl;
            },
          );
      reply = kept_link.reply;
      unasked = λ e. absurd (none-some ask (sym e ∙ asks_it));
      not_entered = λ e. absurd (entered e);
    }

    pub put-step : Step w put_world
    put-step =
        serves w kept put_world.links w.clients w.asks w.given w.agents put_world.entries put_grows
        (All-set (IsCurrent w.note) w.links link waits (all-at (IsCurrent w.note) w.links link found kept.current there)
        kept.current)
        (All-set (IsLink put_world) w.links link waits waits_is (links_still w put_world put_grows w.links kept.links))
        (λ other. client_still w put_world put_grows (client_of w other) (kept.clients other))
        kept.asks (numbered_push w.entries new refl kept.numbered) (given_still w put_world put_grows w.given kept.given)

  no_agent-step : Step w (with_link link (record found { reading = Ready (NoAgent commit kind) }) w)
  no_agent-step = refuse-step (NoAgent commit kind) refl (λ desk leaves. leaves)

  put_with-step : (full : Option ℕ) → slice_get w.asks ask ≡ Some asked → found.run ≡ w.run
      → Step w (put_with link found ask asked.question full commit kind w)
  put_with-step None asks run = put-step asks run
  put_with-step (Some most) asks run = refuse-step (AgentFull commit kind most) refl (λ desk leaves. leaves)

  put_to-step : (full : Option ℕ) → slice_get w.asks ask ≡ Some asked → found.run ≡ w.run
      → Step w (put_to link found ask asked.question full commit kind w)
  put_to-step full asks run =
      cond_each (Step w) (has_agent kind.0 w) (put_with link found ask asked.question full commit kind w)
      (with_link link (record found { reading = Ready (NoAgent commit kind) }) w) (put_with-step full asks run) no_agent-step

put_due-steps : (w next : World) → IsKept w → (link : ℕ) (found : Link) (ask : ℕ) (asked : Asked) (full : Option ℕ)
    (reading : Reading) → slice_get w.links link ≡ Some found → found.question ≡ Some ask → slice_get w.asks ask ≡ Some asked
    → found.reading ≡ reading → put_due link found ask asked.question full reading w ≡ Some next → Step w next
put_due-steps w next kept link found ask asked full (Due commit kind metadata) there asks_it asks is e =
    when-tells (Step w) (found.run == w.run && fits full w) (put_to link found ask asked.question full commit kind w) next e
    (λ tests.
    let both = and_parts (found.run == w.run) (fits full w) tests in
    let was = all-at (IsLink w) w.links link found kept.links there in
    let read = subst (IsRead w found.run found.entered ask) is (was.reading ask asks_it) in
    put_to-step w kept link found ask asked commit kind there asks_it read.0 read.1
    (λ e. let nothing : Due commit kind metadata ≡ Nothing = sym is ∙ (was.not_entered e).0 in cc)
    full asks (eqb-true found.run w.run both.0))
put_due-steps w next kept link found ask asked full Nothing there asks_it asks is e = absurd (none-some next e)
put_due-steps w next kept link found ask asked full (Ready reply) there asks_it asks is e = absurd (none-some next e)
put_due-steps w next kept link found ask asked full (Waiting commit kind number) there asks_it asks is e =
    absurd (none-some next e)

pub put-steps : (w next : World) → IsKept w → (link : ℕ) (full : Option ℕ) → put link full w ≡ Some next → Step w next
put-steps w next kept link full e =
    with_some-tells (slice_get w.links link) _ next e (λ found there e.
    with_some-tells found.question _ next e (λ ask asks_it e.
    with_some-tells (slice_get w.asks ask) _ next e (λ asked asks e.
    put_due-steps w next kept link found ask asked full found.reading there asks_it asks refl e)))

-- ---- an agent answers, or leaves

pub gone_stays : (state : EntryState) → is_open state ≡ false → gone_if_open state ≡ state
gone_stays Open e = absurd (true≢false e)
gone_stays Gone e = refl
gone_stays (Answered allowed) e = refl

module _ (w : World) (kept : IsKept w) (agents : List ℕ) (f : AgentEntry → AgentEntry)
    (runs : (entry : AgentEntry) → (f entry).run ≡ entry.run)
    (numbers : (entry : AgentEntry) → (f entry).number ≡ entry.number)
    (each : (run number : ℕ) (entry : AgentEntry) → entry_at run number w.entries ≡ Some entry → EntryGrows entry (f entry)) where
  abbrev changed : World
  changed = record w { agents = agents; entries = map f w.entries }

  change_grows : Grows w changed
  change_grows =
      serving w w.links w.clients w.asks w.given agents (map f w.entries) (begins_same w.asks) (begins_same w.given)
      (told_same w.clients) (links_same w.links) (entries_map f w.entries runs numbers each)

  pub change-step : Step w changed
  change-step =
      serves w kept w.links w.clients w.asks w.given agents (map f w.entries) change_grows kept.current
      (links_still w changed change_grows w.links kept.links)
      (λ client. client_still w changed change_grows (client_of w client) (kept.clients client))
      kept.asks (numbered_map f w.entries runs numbers kept.numbered) (given_still w changed change_grows w.given kept.given)

find_passes_step : (p : AgentEntry → Bool) (first : AgentEntry) (test : Bool) → p first ≡ test
    → (rest : Option AgentEntry)
    (entry : AgentEntry) → (rest ≡ Some entry → p entry ≡ true) → cond test (Some first) rest ≡ Some entry → p entry ≡ true
find_passes_step p first true is rest entry next e = subst (λ entry. p entry ≡ true) (same_Some first entry e) is
find_passes_step p first false is rest entry next e = next e

pub find_passes : (p : AgentEntry → Bool) (entries : List AgentEntry) (entry : AgentEntry) → find p entries ≡ Some entry
    → p entry ≡ true
find_passes p [] entry e = absurd (none-some entry e)
find_passes p (first ∷ entries) entry e =
    find_passes_step p first (p first) refl (find p entries) entry (find_passes p entries entry) e

pub ended_run : (run number : ℕ) (state : EntryState) (entry : AgentEntry)
    → (ended run number state entry).run ≡ entry.run
ended_run run number state entry =
    cond_each (λ (now : AgentEntry). now.run ≡ entry.run) (entry.run == run && entry.number == number)
    (record entry { state = state }) entry refl refl

pub ended_number : (run number : ℕ) (state : EntryState) (entry : AgentEntry)
    → (ended run number state entry).number ≡ entry.number
ended_number run number state entry =
    cond_each (λ (now : AgentEntry). now.number ≡ entry.number) (entry.run == run && entry.number == number)
    (record entry { state = state }) entry refl refl

-- the entry of this number is open, and no other is changed that can be found
pub ended_grows : (w : World) (number : ℕ) (state : EntryState) (open_one : AgentEntry)
    → entry_at w.run number w.entries ≡ Some open_one → is_open open_one.state ≡ true
    → (run other : ℕ) (entry : AgentEntry) → entry_at run other w.entries ≡ Some entry
    → EntryGrows entry (ended w.run number state entry)
ended_grows w number state open_one there is_it run other entry e =
    cond_both (entry.run == w.run && entry.number == number) (record entry { state = state }) entry
    (EntryGrows entry)
    (λ test.
    let this = and_parts (entry.run == w.run) (entry.number == number) test in
    let found = and_parts (entry.run == run) (entry.number == other)
    (find_passes (λ (one : AgentEntry). one.run == run && one.number == other) w.entries entry e) in
    let same_run = sym (eqb-true entry.run run found.0) ∙ eqb-true entry.run w.run this.0 in
    let same_number = sym (eqb-true entry.number other found.1) ∙ eqb-true entry.number number this.1 in
    let here : entry_at run other w.entries ≡ Some open_one =
    (λ i. entry_at (same_run i) (same_number i) w.entries) ∙ there in
    let same : entry ≡ open_one = same_Some entry open_one (sym e ∙ here) in
    record {
      ask = refl;
      question = refl;
      kind = refl;
      commit = refl;
      settled = λ shut. absurd (both_ways (is_open entry.state) shut (ap (λ (one : AgentEntry). is_open one.state) same ∙ is_it));
    })
    (λ test. entry_same entry)

pub answer-steps : (w next : World) → IsKept w → (number : ℕ) (allowed : Bool) → answer number allowed w ≡ Some next
    → Step w next
answer-steps w next kept number allowed e =
    with_some-tells (entry_at w.run number w.entries) _ next e (λ entry there e.
    when-tells (Step w) (is_open entry.state)
    (record w { entries = map (ended w.run number (Answered allowed)) w.entries }) next e
    (λ open_still.
    change-step w kept w.agents (ended w.run number (Answered allowed)) (ended_run w.run number (Answered allowed))
    (ended_number w.run number (Answered allowed)) (ended_grows w number (Answered allowed) entry there open_still)))

-- what a link is that may withdraw its question, and the entry that it waits for
pub withdraw_tests : (found : Link) (w : World) (entry : AgentEntry)
    → (found.run == w.run && (not found.up && is_open entry.state)) ≡ true → is_open entry.state ≡ true
withdraw_tests found w entry tests =
    (and_parts (not found.up) (is_open entry.state)
    (and_parts (found.run == w.run) (not found.up && is_open entry.state) tests).1).1

withdraw_waiting-steps : (w next : World) → IsKept w → (found : Link) (reading : Reading)
    → withdraw_waiting found reading w ≡ Some next → Step w next
withdraw_waiting-steps w next kept found (Waiting commit kind number) e =
    with_some-tells (entry_at w.run number w.entries) _ next e (λ entry there e.
    when-tells (Step w) (found.run == w.run && (not found.up && is_open entry.state))
    (record w { entries = map (ended w.run number Gone) w.entries }) next e
    (λ tests.
    change-step w kept w.agents (ended w.run number Gone) (ended_run w.run number Gone) (ended_number w.run number Gone)
    (ended_grows w number Gone entry there (withdraw_tests found w entry tests))))
withdraw_waiting-steps w next kept found Nothing e = absurd (none-some next e)
withdraw_waiting-steps w next kept found (Ready reply) e = absurd (none-some next e)
withdraw_waiting-steps w next kept found (Due commit kind metadata) e = absurd (none-some next e)

pub withdraw-steps : (w next : World) → IsKept w → (link : ℕ) → withdraw link w ≡ Some next → Step w next
withdraw-steps w next kept link e =
    with_some-tells (slice_get w.links link) _ next e (λ found there e.
    withdraw_waiting-steps w next kept found found.reading e)

pub leave-steps : (w next : World) → IsKept w → (kind : Kind) → leave kind w ≡ Some next → Step w next
leave-steps w next kept kind e =
    when-tells (Step w) (has_agent kind.0 w)
    (record w {
      agents = filter (λ other. not (other == kind.0)) w.agents;
      entries = map (once_left kind.0) w.entries;
    }) next e
    (λ there.
    change-step w kept (filter (λ other. not (other == kind.0)) w.agents) (once_left kind.0)
    (λ entry. cond_each (λ (now : AgentEntry). now.run ≡ entry.run) (entry.kind.0 == kind.0) (once_stopped entry) entry refl refl)
    (λ entry.
    cond_each (λ (now : AgentEntry). now.number ≡ entry.number) (entry.kind.0 == kind.0) (once_stopped entry) entry refl
    refl)
    (λ run number entry e.
    cond_each (EntryGrows entry) (entry.kind.0 == kind.0) (once_stopped entry) entry
    (record { ask = refl; question = refl; kind = refl; commit = refl; settled = gone_stays entry.state })
    (entry_same entry)))
