-- A question that was withdrawn has no reply.
use Rattle.std.proofs.Common.{◌≡◌, ℕ, ◌==◌, Bool, true, false, not, ◌&&◌, cond, map, Option, Some, None, refl, sym, ap, ◌∙◌}
use Rattle.std.specs.Prelude.{slice_get}
use Rattle.std.proofs.lemmas.Bool.{and_parts}
use Rattle.cynara_keys.specs.declared.results.Kind.{Kind}
use Rattle.desk_world.specs.World.{World, fresh, entry_at}
use Rattle.desk_world.specs.Clients.{with_some}
use Rattle.desk_world.specs.Agents.{is_open, ended, withdraw_waiting}
use Rattle.desk_world.specs.Grows.{EntryGrows}
use Rattle.desk_world.specs.Links.{outgoing, write}
use Rattle.desk_world.specs.Unanswered.{Unanswered}
use Rattle.desk_world.specs.declared.agent_entries.AgentEntry.{AgentEntry}
use Rattle.desk_world.specs.declared.agent_entries.EntryState.TheVariants.{Gone}
use Rattle.desk_world.specs.declared.links.Link.{Link}
use Rattle.desk_world.specs.declared.links.Reading.{Reading}
use Rattle.desk_world.specs.declared.links.Reading.TheVariants.{Waiting}
use Rattle.desk_world.proofs.Options.{with_some-tells, when-tells}
use Rattle.desk_world.proofs.Growing.{entry_at-map}
use Rattle.desk_world.proofs.steps.Agents.{withdraw-steps, find_passes, ended_run, ended_number}
use Rattle.desk_world.proofs.Runs.{fresh_is, run-steps}

no_event : {X : Type 0} (o : Option X) (event : X → Option World) → ((x : X) → event x ≡ None) → with_some o event ≡ None
no_event None event none = refl
no_event (Some x) event none = none x

-- nothing is written on a link that is closed
not_written : (w : World) (link : ℕ) (found : Link) → slice_get w.links link ≡ Some found → found.up ≡ false
    → write link w ≡ None
not_written w link found there down =
    rw there (no_event found.question _ (λ ask.
    no_event (outgoing found.run w.entries found.reading) _ (λ reply. rw down refl)))

down_of : (up : Bool) → not up ≡ true → up ≡ false
down_of true is = absurd cc
down_of false is = refl

ended_gone : (test : Bool) (entry : AgentEntry) → test ≡ true
    → (cond test (record entry { state = Gone }) entry).state ≡ Gone
ended_gone true entry is = refl
ended_gone false entry is = absurd cc

-- the link is closed, and the entry is gone
record Withdraws (w : World) (found : Link) (number : ℕ) (next : World) : Type 0 where
  down : found.up ≡ false
  links : next.links ≡ w.links
  entry : AgentEntry
  logged : entry_at w.run number next.entries ≡ Some entry
  gone : entry.state ≡ Gone

withdraws : (w next : World) (found : Link) (commit : ℕ) (kind : Kind) (number : ℕ)
    → withdraw_waiting found (Waiting commit kind number) w ≡ Some next → Withdraws w found number next
withdraws w next found commit kind number e =
    with_some-tells (entry_at w.run number w.entries) _ next e (λ entry there e.
    when-tells (Withdraws w found number) (found.run == w.run && (not found.up && is_open entry.state))
    (record w { entries = map (ended w.run number Gone) w.entries }) next e
    (λ tests.
    let both = and_parts (not found.up) (is_open entry.state)
    (and_parts (found.run == w.run) (not found.up && is_open entry.state) tests).1 in
    record {
      down = down_of found.up both.0;
      links = refl;
      entry = ended w.run number Gone entry;
      logged =
          entry_at-map (ended w.run number Gone) (ended_run w.run number Gone) (ended_number w.run number Gone) w.run number
          w.entries entry there;
      gone =
          ended_gone (entry.run == w.run && entry.number == number) entry
          (find_passes (λ (one : AgentEntry). one.run == w.run && one.number == number) w.entries entry there);
    }))

-- an entry that is gone stays gone
gone_still : (before after : AgentEntry) → before.state ≡ Gone → EntryGrows before after → after.state ≡ Gone
gone_still before after gone grows = grows.settled (ap is_open gone) ∙ gone

pub unanswered : Unanswered
unanswered desk earlier later link commit number kind found before after last first there waits withdrawn second =
    let kept = (run-steps earlier (fresh desk) before (fresh_is desk) first).kept in
    let step = withdraw-steps before after kept link withdrawn in
    let rest = run-steps later after last step.kept second in
    let here : withdraw_waiting found (Waiting commit kind number) before ≡ Some after =
    ap (λ (reading : Reading). withdraw_waiting found reading before) (sym waits)
    ∙ sym (ap (λ (o : Option Link). with_some o (λ found. withdraw_waiting found found.reading before)) there)
    ∙ withdrawn in
    let now = withdraws before after found commit kind number here in
    let link_now = rest.grows.links link found (ap (λ links. slice_get links link) now.links ∙ there) in
    let entry_now = rest.grows.entries before.run number now.entry now.logged in (
      not_written last link link_now.0 link_now.1 (link_now.2.closed now.down),
      (entry_now.0, entry_now.1, gone_still now.entry entry_now.0 now.gone entry_now.2),
    )
