-- Whole runs from a fresh world: what is kept, what grows, and what each given reply is.
use Rattle.std.proofs.Common.{◌≡◌, ℕ, ◌<◌, ◌≤◌, ◌+◌, List, [], ◌∷◌, Option, Some, None, Result, Ok, Err, refl, subst, arith}
use Rattle.std.proofs.lemmas.List.Elements.{All-nil}
use Rattle.std.proofs.lemmas.Option.{none-some}
use Rattle.desk_state.specs.DeskState.{DeskState}
use Rattle.desk_world.specs.World.{World, fresh}
use Rattle.desk_world.specs.Events.{connect, after, next_of, run_from, run}
use Rattle.desk_world.specs.Agents.{count_of}
use Rattle.desk_world.specs.Commits.{hang}
use Rattle.desk_world.specs.Sound.{IsSound}
use Rattle.desk_world.specs.Kept.{IsCurrent, IsLink, IsKept}
use Rattle.desk_world.specs.declared.agent_entries.AgentEntry.{AgentEntry}
use Rattle.desk_world.specs.declared.events.Event.{Event}
use Rattle.desk_world.specs.declared.events.Event.TheVariants.{Connect, Ask, Hit, Send, Read, Write, Deliver, Notice, Lose, Stored, Undecided, Decide, Publish, Hang, Acknowledge, AgentJoin, AgentPut, AgentReply, AgentWithdraw, AgentLeave, Stop, Tell}
use Rattle.desk_world.specs.declared.events.Half.{Half}
use Rattle.desk_world.specs.declared.events.Half.TheVariants.{Dial, Enter}
use Rattle.desk_world.specs.declared.links.Asked.{Asked}
use Rattle.desk_world.specs.declared.replies.Given.{Given}
use Rattle.desk_world.proofs.Options.{some-tells}
use Rattle.desk_world.proofs.Lists.{begins_same}
use Rattle.desk_world.proofs.Growing.{links_same, entries_same, serving}
use Rattle.desk_world.proofs.Keeping.{Step}
use Rattle.desk_world.proofs.Committing.{step_trans}
use Rattle.desk_world.proofs.steps.Dialling.{dial-steps}
use Rattle.desk_world.proofs.steps.Asking.{ask-steps, tell-steps}
use Rattle.desk_world.proofs.steps.Sending.{send-steps}
use Rattle.desk_world.proofs.steps.Answering.{hit-steps}
use Rattle.desk_world.proofs.steps.Delivering.{deliver-steps, notice-steps}
use Rattle.desk_world.proofs.steps.Entering.{enter-steps, lose-steps}
use Rattle.desk_world.proofs.steps.Reading.{read-steps}
use Rattle.desk_world.proofs.steps.Writing.{write-steps}
use Rattle.desk_world.proofs.steps.Storing.{stored-steps, undecided-steps, decide-steps, publish-steps, acknowledge-steps}
use Rattle.desk_world.proofs.steps.Hanging.{hang-step, stop-steps}
use Rattle.desk_world.proofs.steps.Agents.{join-steps, put-steps, answer-steps, withdraw-steps, leave-steps}

-- ---- one event

connect-steps : (w next : World) → IsKept w → (half : Half) → connect half w ≡ Some next → Step w next
connect-steps w next kept (Dial client) e = dial-steps w next kept client e
connect-steps w next kept (Enter link) e = enter-steps w next kept link e

-- each event that is enabled lets the world grow and keeps its facts
pub event-steps : (w next : World) → IsKept w → (event : Event) → after event w ≡ Some next → Step w next
event-steps w next kept (Connect half) e = connect-steps w next kept half e
event-steps w next kept (Ask client question simple) e = ask-steps w next kept client question simple e
event-steps w next kept (Hit client entry) e = hit-steps w next kept client entry e
event-steps w next kept (Send client) e = send-steps w next kept client e
event-steps w next kept (Read link commit) e = read-steps w next kept link commit e
event-steps w next kept (Write link) e = write-steps w next kept link e
event-steps w next kept (Deliver client) e = deliver-steps w next kept client e
event-steps w next kept (Notice client) e = notice-steps w next kept client e
event-steps w next kept (Lose link) e = lose-steps w next kept link e
event-steps w next kept (Stored command) e = stored-steps w next kept command e
event-steps w next kept (Undecided command) e = undecided-steps w next kept command e
event-steps w next kept (Decide kept_it) e = decide-steps w next kept kept_it e
event-steps w next kept Publish e = publish-steps w next kept e
event-steps w next kept Hang e = some-tells (Step w) (hang w) next e (hang-step w kept)
event-steps w next kept Acknowledge e = acknowledge-steps w next kept e
event-steps w next kept (AgentJoin kind) e = join-steps w next kept kind e
event-steps w next kept (AgentPut link full) e = put-steps w next kept link full e
event-steps w next kept (AgentReply number allowed) e = answer-steps w next kept number allowed e
event-steps w next kept (AgentWithdraw link) e = withdraw-steps w next kept link e
event-steps w next kept (AgentLeave kind) e = leave-steps w next kept kind e
event-steps w next kept (Stop command kept_it) e = stop-steps w next kept command kept_it e
event-steps w next kept (Tell client commit) e = tell-steps w next kept client commit e

-- ---- a fresh world

pub fresh_is : (desk : DeskState) → IsKept (fresh desk)
fresh_is desk = record {
  ordered = record {
    first = omega arith;
    acknowledged = omega arith;
    note = omega arith;
    published = omega arith;
    under_way = omega arith;
    candidate = λ candidate e. refl;
  };
  chain = tt;
  candidate = λ candidate e. absurd (none-some candidate e);
  current = All-nil (IsCurrent desk.commit);
  links = All-nil (IsLink (fresh desk));
  clients = λ client. record {
    told = omega arith;
    asking = λ ask e. absurd (none-some ask e);
    link = λ place e. absurd (none-some place e);
    no_link = λ e. refl;
  };
  asks = All-nil (λ (asked : Asked). asked.floor ≤ desk.commit);
  numbered = All-nil (λ (entry : AgentEntry). entry.number < count_of entry.run []);
  given = All-nil (λ (given : Given). IsSound (fresh desk) given.run given.ask given.reply);
}

-- ---- a list of events

pub stays : (w : World) → IsKept w → Step w w
stays w kept = record {
  grows =
      serving w w.links w.clients w.asks w.given w.agents w.entries (begins_same w.asks) (begins_same w.given)
      (λ client. omega arith) (links_same w.links) (entries_same w.entries);
  kept = kept;
}

run_next : (at : ℕ) (event : Event) (w last : World) → IsKept w → (rest : World → Result World ℕ)
    → ((next : World) → IsKept next → rest next ≡ Ok last → Step next last) → (next : Option World)
    → after event w ≡ next
    → next_of at rest next ≡ Ok last → Step w last
run_next at event w last kept rest later None is e = let never : Err at ≡ Ok last = e in cc
run_next at event w last kept rest later (Some next) is e =
    let step = event-steps w next kept event is in step_trans w next last step (later next step.kept e)

pub run_from-steps : (at : ℕ) (events : List Event) (w last : World) → IsKept w → run_from at events w ≡ Ok last
    → Step w last
run_from-steps at [] w last kept e = let same : w ≡ last = cc in subst (Step w) same (stays w kept)
run_from-steps at (event ∷ events) w last kept e =
    run_next at event w last kept (run_from (at + 1) events) (λ next. run_from-steps (at + 1) events next last) (after event w)
    refl e

pub run-steps : (events : List Event) (w last : World) → IsKept w → run w events ≡ Ok last → Step w last
run-steps events w last kept e = run_from-steps 0 events w last kept e

-- the same, where a copy of the world was run
pub copied-steps : (events : List Event) (w copy last : World) → IsKept w → copy ≡ w → run copy events ≡ Ok last
    → Step w last
copied-steps events w copy last kept same e = run-steps events w last kept (subst (λ start. run start events ≡ Ok last) same e)
