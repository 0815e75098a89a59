-- What the worker of a link does: enter it in the roll, read the published policies, send the reply; and how a link
-- closes.
use Rattle.std.specs.Prelude.{ℕ, Bool, true, false, ◌&&◌, ◌==◌, nat_le}
use Rattle.std.specs.Prelude.{List, Option, Some, None, is_some, is_none, slice_get}
use Rattle.cynara_keys.specs.PolicyResult.{is_agent}
use Rattle.bucket_eval.specs.Evaluation.{Outcome}
use Rattle.bucket_eval.specs.Found.{answer_of}
use Rattle.desk_state.specs.DeskState.{DeskState}
use Rattle.desk_world.specs.World.{World, history, desk_at, root_outcome, with_link, entry_at}
use Rattle.desk_world.specs.Clients.{when, with_some}
use Rattle.desk_world.specs.declared.agent_entries.AgentEntry.{AgentEntry}
use Rattle.desk_world.specs.declared.agent_entries.EntryState.{EntryState}
use Rattle.desk_world.specs.declared.agent_entries.EntryState.TheVariants.{Open, Gone, Answered}
use Rattle.desk_world.specs.declared.links.Asked.{Asked}
use Rattle.desk_world.specs.declared.links.Link.{Link}
use Rattle.desk_world.specs.declared.links.Reading.{Reading}
use Rattle.desk_world.specs.declared.links.Reading.TheVariants.{Nothing, Ready, Due, Waiting}
use Rattle.desk_world.specs.declared.replies.Reply.{Reply}
use Rattle.desk_world.specs.declared.replies.Reply.TheVariants.{Judged, FromAgent, NotResolved, AgentGone}
use Rattle.cynara_keys.specs.declared.results.Kind.{Kind}

-- ---- entering the roll

abbrev pub enter_at : ℕ → Link → World → Option World
enter_at link found world =
    when (found.run == world.run && is_none found.entered)
    (with_link link (record found { entered = Some world.note; seen = world.note }) world)

-- it enters at the roll's note, and never again
abbrev pub enter : ℕ → World → Option World
enter link world = with_some (slice_get world.links link) (λ found. enter_at link found world)

-- ---- reading the published policies

abbrev pub is_nothing : Reading → Bool
is_nothing Nothing = true
is_nothing (Ready reply) = false
is_nothing (Due commit kind metadata) = false
is_nothing (Waiting commit kind number) = false

-- what is read of an outcome: a verdict, or that an agent decides, whom a simple check doesn't ask
abbrev pub read_as : Bool → ℕ → Bool → Outcome → Reading
read_as false commit simple outcome = Ready (Judged (record { commit = commit; answer = answer_of outcome }))
read_as true commit true outcome = Ready (NotResolved commit (record { 0 = outcome.result.kind }))
read_as true commit false outcome = Due commit (record { 0 = outcome.result.kind }) outcome.result.metadata

abbrev pub reading_of : ℕ → Bool → Outcome → Reading
reading_of commit simple outcome = read_as (is_agent outcome.result.kind) commit simple outcome

-- Where one commit was seen last, at first that of the entry, and another one is published, these may be read: those
-- from the one to the other.
abbrev pub may_read : ℕ → ℕ → ℕ → Bool
may_read seen published commit = nat_le seen commit && nat_le commit published

abbrev pub read_at : ℕ → Link → ℕ → Asked → DeskState → World → Option World
read_at link found commit asked desk world =
    when (is_some found.entered && (is_nothing found.reading && may_read found.seen world.published commit))
    (with_link link
    (record found { seen = commit; reading = reading_of commit asked.simple (root_outcome desk asked.question) }) world)

-- the policies of a commit from the last one seen to the published one
abbrev pub read : ℕ → ℕ → World → Option World
read link commit world =
    with_some (slice_get world.links link) (λ found.
    with_some found.question (λ ask.
    with_some (slice_get world.asks ask) (λ asked.
    with_some (desk_at commit (history world)) (λ desk. read_at link found commit asked desk world))))

-- ---- sending the reply

-- what an entry of the agents' log leads to, once it is answered or gone
abbrev pub settled : ℕ → Kind → ℕ → EntryState → Option Reply
settled commit kind number Open = None
settled commit kind number Gone = Some (AgentGone commit number)
settled commit kind number (Answered allowed) = Some (FromAgent commit kind number allowed)

abbrev pub settled_by : ℕ → Kind → ℕ → Option AgentEntry → Option Reply
settled_by commit kind number None = None
settled_by commit kind number (Some entry) = settled commit kind number entry.state

-- the reply of a reading: its own, or of the entry of the link's run that it waits for
abbrev pub outgoing : ℕ → List AgentEntry → Reading → Option Reply
outgoing run entries Nothing = None
outgoing run entries (Ready reply) = Some reply
outgoing run entries (Due commit kind metadata) = None
outgoing run entries (Waiting commit kind number) = settled_by commit kind number (entry_at run number entries)

abbrev pub write_on : ℕ → Link → ℕ → Reply → World → Option World
write_on link found ask reply world =
    when found.up
    (with_link link
    (record found { question = None; reading = Nothing; reply = Some (record { ask = ask; reply = reply }) }) world)

abbrev pub write : ℕ → World → Option World
write link world =
    with_some (slice_get world.links link) (λ found.
    with_some found.question (λ ask.
    with_some (outgoing found.run world.entries found.reading) (λ reply. write_on link found ask reply world)))

-- ---- closing

abbrev pub lose : ℕ → World → Option World
lose link world =
    with_some (slice_get world.links link) (λ found. when found.up (with_link link (record found { up = false }) world))
