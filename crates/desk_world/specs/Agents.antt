-- What agents do: register for a kind, be asked, answer and leave; and questions that are withdrawn. The log keeps each
-- question that was put to an agent.
use Rattle.std.specs.Prelude.{ℕ, Bool, true, false, not, ◌&&◌, ◌||◌, ◌==◌, nat_le, nat_lt, if◌then◌else◌}
use Rattle.std.specs.Prelude.{List, [], ◌∷◌, ◌++◌, map, filter, Option, Some, None, slice_get}
use Rattle.std.specs.List.{list_any, count_by}
use Rattle.cynara_keys.specs.PolicyResult.{is_agent}
use Rattle.cynara_keys.specs.Key.{Question}
use Rattle.cynara_keys.specs.declared.results.Kind.{Kind}
use Rattle.desk_world.specs.World.{World, with_link, entry_at}
use Rattle.desk_world.specs.Clients.{when, with_some}
use Rattle.desk_world.specs.declared.agent_entries.AgentEntry.{AgentEntry}
use Rattle.desk_world.specs.declared.agent_entries.EntryState.{EntryState}
use Rattle.desk_world.specs.declared.agent_entries.EntryState.TheVariants.{Open, Gone, Answered}
use Rattle.desk_world.specs.declared.links.Link.{Link}
use Rattle.desk_world.specs.declared.links.Reading.{Reading}
use Rattle.desk_world.specs.declared.links.Reading.TheVariants.{Nothing, Ready, Due, Waiting}
use Rattle.desk_world.specs.declared.replies.Reply.TheVariants.{NoAgent, AgentFull}
use Rattle.desk_world.specs.Limits.{most_waiting, most_entries}

abbrev pub has_agent : ℕ → World → Bool
has_agent kind world = list_any (λ other. other == kind) world.agents

abbrev pub is_open : EntryState → Bool
is_open Open = true
is_open Gone = false
is_open (Answered allowed) = false

-- ---- registering

abbrev pub join : Kind → World → Option World
join kind world =
    when (is_agent kind.0 && not (has_agent kind.0 world)) (record world { agents = world.agents ++ kind.0 ∷ [] })

-- ---- asking

-- how many entries a run has: the number of its next one
abbrev pub count_of : ℕ → List AgentEntry → ℕ
count_of run entries = count_by (λ (entry : AgentEntry). entry.run == run) entries

abbrev pub is_waiting : Reading → Bool
is_waiting Nothing = false
is_waiting (Ready reply) = false
is_waiting (Due commit kind metadata) = false
is_waiting (Waiting commit kind number) = true

-- how many links of a run wait for an agent
abbrev pub waiting_in : ℕ → List Link → ℕ
waiting_in run links = count_by (λ (link : Link). link.run == run && is_waiting link.reading) links

-- Where so many questions wait and so many numbers were given, the table takes a question, or refuses it at this limit:
-- of questions that wait, or of numbers in a run. The limit of those that wait may bite or not, since the table counts
-- a question until its worker takes the answer.
abbrev pub may_put : Option ℕ → ℕ → ℕ → Bool
may_put None waiting given = nat_lt given most_entries
may_put (Some most) waiting given =
    (most == most_waiting && nat_le most_waiting waiting) || (most == most_entries && given == most_entries)

abbrev pub fits : Option ℕ → World → Bool
fits full world = may_put full (waiting_in world.run world.links) (count_of world.run world.entries)

-- What a link has read once its question was put: that no agent is there, or that the table refused it at a limit, or
-- that an entry with this number is waited for.
abbrev pub put_as : Bool → Option ℕ → ℕ → ℕ → Kind → Reading
put_as false full number commit kind = Ready (NoAgent commit kind)
put_as true (Some most) number commit kind = Ready (AgentFull commit kind most)
put_as true None number commit kind = Waiting commit kind number

abbrev pub new_entry : ℕ → Question → Kind → ℕ → World → AgentEntry
new_entry ask question kind commit world = record {
  run = world.run;
  number = count_of world.run world.entries;
  ask = ask;
  question = question;
  kind = kind;
  commit = commit;
  state = Open;
}

-- a new entry, for which the link waits
abbrev pub put_down : ℕ → Link → ℕ → Question → ℕ → Kind → World → World
put_down link found ask question commit kind world =
    with_link link (record found { reading = put_as true None (count_of world.run world.entries) commit kind })
    (record world { entries = world.entries ++ new_entry ask question kind commit world ∷ [] })

abbrev pub put_with : ℕ → Link → ℕ → Question → Option ℕ → ℕ → Kind → World → World
put_with link found ask question None commit kind world = put_down link found ask question commit kind world
put_with link found ask question (Some most) commit kind world =
    with_link link (record found {
      reading = put_as true (Some most) (count_of world.run world.entries) commit kind;
    }) world

abbrev pub put_to : ℕ → Link → ℕ → Question → Option ℕ → ℕ → Kind → World → World
put_to link found ask question full commit kind world =
    if has_agent kind.0 world then put_with link found ask question full commit kind world
    else with_link link (record found {
      reading = put_as false full (count_of world.run world.entries) commit kind;
    }) world

abbrev pub put_due : ℕ → Link → ℕ → Question → Option ℕ → Reading → World → Option World
put_due link found ask question full (Due commit kind metadata) world =
    when (found.run == world.run && fits full world) (put_to link found ask question full commit kind world)
put_due link found ask question full Nothing world = None
put_due link found ask question full (Ready reply) world = None
put_due link found ask question full (Waiting commit kind number) world = None

abbrev pub put : ℕ → Option ℕ → World → Option World
put link full world =
    with_some (slice_get world.links link) (λ found.
    with_some found.question (λ ask.
    with_some (slice_get world.asks ask) (λ asked. put_due link found ask asked.question full found.reading world)))

-- ---- answering

-- the entry stands so from now on, if it is this one
abbrev pub ended : ℕ → ℕ → EntryState → AgentEntry → AgentEntry
ended run number state entry =
    if entry.run == run && entry.number == number then record entry { state = state } else entry

abbrev pub answer : ℕ → Bool → World → Option World
answer number allowed world =
    with_some (entry_at world.run number world.entries) (λ entry.
    when (is_open entry.state)
    (record world { entries = map (ended world.run number (Answered allowed)) world.entries }))

-- ---- withdrawing

-- The worker of a link that is closed takes back the question that it waits with. No reply is ever sent on that link.
abbrev pub withdraw_waiting : Link → Reading → World → Option World
withdraw_waiting found (Waiting commit kind number) world =
    with_some (entry_at world.run number world.entries) (λ entry.
    when (found.run == world.run && (not found.up && is_open entry.state))
    (record world { entries = map (ended world.run number Gone) world.entries }))
withdraw_waiting found Nothing world = None
withdraw_waiting found (Ready reply) world = None
withdraw_waiting found (Due commit kind metadata) world = None

abbrev pub withdraw : ℕ → World → Option World
withdraw link world = with_some (slice_get world.links link) (λ found. withdraw_waiting found found.reading world)

-- ---- leaving

abbrev pub gone_if_open : EntryState → EntryState
gone_if_open Open = Gone
gone_if_open Gone = Gone
gone_if_open (Answered allowed) = Answered allowed

abbrev pub once_stopped : AgentEntry → AgentEntry
once_stopped entry = record entry { state = gone_if_open entry.state }

abbrev pub once_left : ℕ → AgentEntry → AgentEntry
once_left kind entry = if entry.kind.0 == kind then once_stopped entry else entry

abbrev pub leave : Kind → World → Option World
leave kind world =
    when (has_agent kind.0 world)
    (record world {
      agents = filter (λ other. not (other == kind.0)) world.agents;
      entries = map (once_left kind.0) world.entries;
    })
