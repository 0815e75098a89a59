-- How a client that keeps its answers stands for a client of the world.
use Rattle.std.specs.Prelude.{◌≡◌, ℕ, List, Result, Ok, Err, Some, slice_get}
use Rattle.std.specs.List.{AllByRecursion}
use Rattle.cynara_keys.specs.Key.{Question}
use Rattle.bucket_eval.specs.declared.answers.Verdict.{Verdict}
use Rattle.answer_cache.specs.Cache.{Asked as CacheKey, Cache}
use Rattle.cynara_client.specs.Checking.{IsKeptOf}
use Rattle.cynara_client.specs.declared.refusals.Checked.{Checked}
use Rattle.cynara_client.specs.declared.refusals.Checked.TheVariants.{Judged as ByPolicies, FromAgent as ByAgent}
use Rattle.cynara_client.specs.declared.refusals.ClientRefusal.{ClientRefusal}
use Rattle.cynara_client.specs.declared.refusals.ClientRefusal.TheVariants as refusal
use Rattle.desk_world.specs.Client.{Client}
use Rattle.desk_world.specs.World.{World, client_of}
use Rattle.desk_world.specs.declared.known.Known.{Known}
use Rattle.desk_world.specs.declared.links.Asked.{Asked}
use Rattle.desk_world.specs.declared.links.Link.{Link}
use Rattle.desk_world.specs.declared.replies.Reply.{Reply}
use Rattle.desk_world.specs.declared.replies.Reply.TheVariants.{Judged, FromAgent, NotResolved, NoAgent, AgentGone}
use Rattle.desk_world.specs.declared.replies.Reply.TheVariants.{AgentFull}

-- the entry is one of the verdicts that the client received over its connection
abbrev pub IsReceived : List Known → CacheKey × Verdict → Type 0
IsReceived log entry =
    (place : ℕ) × (slice_get log place ≡ Some (record { question = entry.0.question; verdict = entry.1 }))

-- The client was told of this commit; and each of its entries it received over its connection, where it has one.
pub record CacheStands (cache : Cache) (client : Client) : Type 0 where
  pub told : client.told ≡ cache.told
  pub received : AllByRecursion (IsReceived client.log) cache.entries

-- The client with this number asks this question now, and this is its connection.
pub record IsAsking (world : World) (client ask : ℕ) (question : Question) (link : ℕ) (found : Link) : Type 0 where
  pub asking : (client_of world client).asking ≡ Some ask
  pub asked : Asked
  pub asks : slice_get world.asks ask ≡ Some asked
  pub same : asked.question ≡ question
  pub holds : (client_of world client).link ≡ Some link
  pub there : slice_get world.links link ≡ Some found

-- the reply says what the call answers, or why it has no answer
abbrev pub Says : Reply → Result Checked ClientRefusal → Type 0
Says reply (Ok (ByPolicies verdict)) = reply ≡ Judged verdict
Says reply (Ok (ByAgent commit kind number allowed)) = reply ≡ FromAgent commit kind number allowed
Says reply (Err (refusal.NotResolved commit kind)) = reply ≡ NotResolved commit kind
Says reply (Err (refusal.NoAgent commit kind)) = reply ≡ NoAgent commit kind
Says reply (Err (refusal.AgentGone commit number)) = reply ≡ AgentGone commit number
Says reply (Err (refusal.AgentFull commit kind most)) = reply ≡ AgentFull commit kind most
Says reply (Err other) = ⊥

-- what the client keeps behind such a reply
abbrev pub KeepsBehind : CacheKey → Result Checked ClientRefusal → Cache → Cache → Type 0
KeepsBehind key (Ok checked) old new = IsKeptOf key checked old new
KeepsBehind key (Err refused) old new = new ≡ old
