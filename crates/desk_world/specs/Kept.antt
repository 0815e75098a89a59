-- What every world keeps, whatever list of events led to it from a fresh one.
use Rattle.std.specs.Prelude.{◌≡◌, ◌≤◌, ◌<◌, ◌+◌, ℕ, true, List, [], ◌∷◌, Option, Some, None, All, slice_get, unwrap_or}
use Rattle.cynara_keys.specs.declared.results.Kind.{Kind}
use Rattle.desk_state.specs.DeskState.{DeskState}
use Rattle.desk_state.specs.Next.{next}
use Rattle.desk_state.specs.Rules.{fault}
use Rattle.desk_state.specs.declared.commands.Command.{Command}
use Rattle.desk_world.specs.Client.{Client}
use Rattle.desk_world.specs.World.{World, history, latest, last, desk_at, root_answer, client_of}
use Rattle.desk_world.specs.Agents.{count_of}
use Rattle.desk_world.specs.Sound.{commit_of, IsFresh, LeavesTo, IsPutFor, IsSound, AllSound}
use Rattle.desk_world.specs.declared.agent_entries.AgentEntry.{AgentEntry}
use Rattle.desk_world.specs.declared.known.Known.{Known}
use Rattle.desk_world.specs.declared.links.Asked.{Asked}
use Rattle.desk_world.specs.declared.links.Link.{Link}
use Rattle.desk_world.specs.declared.links.Reading.{Reading}
use Rattle.desk_world.specs.declared.links.Reading.TheVariants.{Nothing, Ready, Due, Waiting}
use Rattle.desk_world.specs.declared.links.Transit.{Transit}

-- ---- 1 and 2: numbers and the history

pub record IsOrdered (world : World) : Type 0 where
  pub first : world.first.commit ≤ world.acknowledged
  pub acknowledged : world.acknowledged ≤ world.note
  pub note : world.note ≤ world.published
  pub published : world.published ≤ last world
  -- at most one commit is under way
  pub under_way : last world ≤ world.acknowledged + 1
  pub candidate : (desk : DeskState) → world.candidate ≡ Some desk → last world ≡ world.acknowledged

-- the state comes from the other by an accepted command
pub record Follows (desk after : DeskState) : Type 0 where
  pub command : Command
  pub accepted : fault desk command ≡ None
  pub next : after ≡ next desk command

-- each state comes from the one before it
abbrev pub IsChain : DeskState → List DeskState → Type 0
IsChain desk [] = Unit {0}
IsChain desk (after ∷ later) = Follows desk after × IsChain after later

-- the numbers are in their order, each state comes from the one before it, and so would the candidate from the last
pub record HasHistory (world : World) : Type 0 where
  pub ordered : IsOrdered world
  pub chain : IsChain world.first world.later
  pub candidate : (desk : DeskState) → world.candidate ≡ Some desk → Follows (latest world) desk

-- ---- 3: a link that is up entered at the note or later

abbrev pub IsCurrent : ℕ → Link → Type 0
IsCurrent note link = link.up ≡ true → (entered : ℕ) → link.entered ≡ Some entered → note ≤ entered

-- ---- 4 to 7: what is on a link that entered at this commit, or not yet

-- from where the link entered to what is published
pub record IsBetween (world : World) (entered : Option ℕ) (commit : ℕ) : Type 0 where
  pub low : unwrap_or entered 0 ≤ commit
  pub high : commit ≤ world.published

-- the ask's floor is not above where the link entered, or will enter
pub record IsCarried (world : World) (entered : Option ℕ) (ask : ℕ) : Type 0 where
  pub asked : Asked
  pub asks : slice_get world.asks ask ≡ Some asked
  pub floor : asked.floor ≤ unwrap_or entered world.acknowledged

-- the policies of the commit leave the ask to an agent of the kind
pub record IsLeft (world : World) (ask commit : ℕ) (kind : Kind) : Type 0 where
  pub fresh : IsFresh world ask commit
  pub leaves : LeavesTo kind fresh.desk fresh.asked.question

-- what is read for the ask, on a link of this run
abbrev pub IsRead : World → ℕ → Option ℕ → ℕ → Reading → Type 0
IsRead world run entered ask Nothing = Unit {0}
IsRead world run entered ask (Ready reply) = IsSound world run ask reply × IsBetween world entered (commit_of reply)
IsRead world run entered ask (Due commit kind metadata) = IsLeft world ask commit kind × IsBetween world entered commit
IsRead world run entered ask (Waiting commit kind number) =
    (left : IsLeft world ask commit kind) × IsBetween world entered commit
    × IsPutFor world run number ask left.fresh.asked.question kind commit

-- the reply in transit
pub record IsSent (world : World) (run : ℕ) (entered : Option ℕ) (transit : Transit) : Type 0 where
  pub sound : IsSound world run transit.ask transit.reply
  pub between : IsBetween world entered (commit_of transit.reply)
  pub carried : IsCarried world entered transit.ask

pub record IsLink (world : World) (link : Link) : Type 0 where
  pub first : (commit : ℕ) → link.entered ≡ Some commit → world.first.commit ≤ commit
  pub seen : (commit : ℕ) → link.entered ≡ Some commit → IsBetween world link.entered link.seen
  pub question : (ask : ℕ) → link.question ≡ Some ask → IsCarried world link.entered ask
  pub reading : (ask : ℕ) → link.question ≡ Some ask → IsRead world link.run link.entered ask link.reading
  pub reply : (transit : Transit) → link.reply ≡ Some transit → IsSent world link.run link.entered transit
  -- without a question there is no reading, and before it enters neither a reading nor a reply
  pub unasked : link.question ≡ None → link.reading ≡ Nothing
  pub not_entered : link.entered ≡ None → (link.reading ≡ Nothing) × (link.reply ≡ None)

-- ---- clients

-- a verdict in the cache of a client whose link entered at this commit
pub record IsKnown (world : World) (entered : Option ℕ) (known : Known) : Type 0 where
  pub desk : DeskState
  pub committed : desk_at known.verdict.commit (history world) ≡ Some desk
  pub between : IsBetween world entered known.verdict.commit
  pub answer : known.verdict.answer ≡ root_answer desk known.question

-- the link is there, and the cache is of it
pub record HasLink (world : World) (log : List Known) (place : ℕ) : Type 0 where
  pub link : Link
  pub there : slice_get world.links place ≡ Some link
  pub known : All (IsKnown world link.entered) log
  pub not_entered : link.entered ≡ None → log ≡ []

pub record IsClient (world : World) (client : Client) : Type 0 where
  pub told : client.told ≤ world.acknowledged
  pub asking : (ask : ℕ) → client.asking ≡ Some ask → (asked : Asked) × (slice_get world.asks ask ≡ Some asked)
  pub link : (place : ℕ) → client.link ≡ Some place → HasLink world client.log place
  pub no_link : client.link ≡ None → client.log ≡ []

-- ---- all of it

pub record IsKept (world : World) : Type 0 where
  pub ordered : IsOrdered world
  pub chain : IsChain world.first world.later
  pub candidate : (desk : DeskState) → world.candidate ≡ Some desk → Follows (latest world) desk
  pub current : All (IsCurrent world.note) world.links
  pub links : All (IsLink world) world.links
  pub clients : (client : ℕ) → IsClient world (client_of world client)
  pub asks : All (λ (asked : Asked). asked.floor ≤ world.acknowledged) world.asks
  -- an entry's number is below the count of its run's
  pub numbered : All (λ (entry : AgentEntry). entry.number < count_of entry.run world.entries) world.entries
  pub given : AllSound world
