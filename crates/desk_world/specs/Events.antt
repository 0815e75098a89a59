-- The table of events: the world after each, or none where it is not enabled. And whole runs.
use Rattle.std.specs.Prelude.{◌≡◌, ◌<◌, ℕ, ◌+◌, ◌^◌, List, [], ◌∷◌, length, Option, Some, None, Result, Ok, Err}
use Rattle.desk_world.specs.World.{World}
use Rattle.desk_world.specs.Clients.{dial, asked, hit, send, deliver, notice, tell}
use Rattle.desk_world.specs.Links.{enter, read, write, lose}
use Rattle.desk_world.specs.Commits.{stored, undecided, decide, publish, hang, acknowledge, stop}
use Rattle.desk_world.specs.Agents.{join, put, answer, withdraw, leave}
use Rattle.desk_world.specs.declared.events.Event.{Event}
use Rattle.desk_world.specs.declared.events.Event.TheVariants.{Connect, Ask, Hit, Send, Read, Write, Deliver, Notice}
use Rattle.desk_world.specs.declared.events.Event.TheVariants.{Lose, Stored, Undecided, Decide, Publish, Hang}
use Rattle.desk_world.specs.declared.events.Event.TheVariants.{Acknowledge, AgentJoin, AgentPut, AgentReply}
use Rattle.desk_world.specs.declared.events.Event.TheVariants.{AgentWithdraw, AgentLeave, Stop, Tell}
use Rattle.desk_world.specs.declared.events.Half.{Half}
use Rattle.desk_world.specs.declared.events.Half.TheVariants.{Dial, Enter}
use Rattle.desk_world.specs.declared.refusals.WorldRefusal.{WorldRefusal}
use Rattle.desk_world.specs.declared.refusals.WorldRefusal.TheVariants.{NotEnabled, Memory}

abbrev pub connect : Half → World → Option World
connect (Dial client) world = dial client world
connect (Enter link) world = enter link world

abbrev pub after : Event → World → Option World
after (Connect half) world = connect half world
after (Ask client question simple) world = Some (asked client question simple world)
after (Hit client entry) world = hit client entry world
after (Send client) world = send client world
after (Read link commit) world = read link commit world
after (Write link) world = write link world
after (Deliver client) world = deliver client world
after (Notice client) world = notice client world
after (Lose link) world = lose link world
after (Stored command) world = stored command world
after (Undecided command) world = undecided command world
after (Decide kept) world = decide kept world
after Publish world = publish world
after Hang world = Some (hang world)
after Acknowledge world = acknowledge world
after (AgentJoin kind) world = join kind world
after (AgentPut link full) world = put link full world
after (AgentReply number allowed) world = answer number allowed world
after (AgentWithdraw link) world = withdraw link world
after (AgentLeave kind) world = leave kind world
after (Stop command kept) world = stop command kept world
after (Tell client commit) world = tell client commit world

-- what comes next, where the event at this place led to a world
abbrev pub next_of : ℕ → (World → Result World ℕ) → Option World → Result World ℕ
next_of at run None = Err at
next_of at run (Some world) = run world

-- the world after the events, or the place of the first that is not enabled, where the first of all has the place `at`
abbrev pub run_from : ℕ → List Event → World → Result World ℕ
run_from at [] world = Ok world
run_from at (event ∷ events) world = next_of at (run_from (at + 1) events) (after event world)

abbrev pub run : World → List Event → Result World ℕ
run world events = run_from 0 events world

-- links, asks and stops have numbers of 32 bits, also after so many events more
pub record HasRoom (events : ℕ) (world : World) : Type 0 where
  pub links : length world.links + events < 2 ^ 32
  pub asks : length world.asks + events < 2 ^ 32
  pub run : world.run + events < 2 ^ 32

-- the refusal names the first event that is not enabled; want of memory may come in its place
abbrev pub Refuses : WorldRefusal → Result World ℕ → Type 0
Refuses (NotEnabled at) outcome = outcome ≡ Err at
Refuses (Memory error) outcome = Unit {0}
