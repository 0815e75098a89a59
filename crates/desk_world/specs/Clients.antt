-- What clients do: dial, ask, answer from the cache, send, receive, find the link closed, and be told of a commit.
use Rattle.std.specs.Prelude.{ℕ, Bool, true, not, ◌&&◌, ◌==◌, nat_le, if◌then◌else◌, List, []}
use Rattle.std.specs.Prelude.{◌∷◌, ◌++◌, length, max, Option, Some, None, is_none, slice_get}
use Rattle.cynara_keys.specs.Text.{same_text}
use Rattle.cynara_keys.specs.Key.{Question}
use Rattle.desk_world.specs.World.{World, with_client, with_link, client_of}
use Rattle.desk_world.specs.declared.known.Known.{Known}
use Rattle.desk_world.specs.declared.links.Asked.{Asked}
use Rattle.desk_world.specs.declared.links.Link.{Link}
use Rattle.desk_world.specs.declared.links.Transit.{Transit}
use Rattle.desk_world.specs.declared.links.Reading.TheVariants.{Nothing}
use Rattle.desk_world.specs.declared.replies.Given.{Given}
use Rattle.desk_world.specs.declared.replies.Reply.{Reply}
use Rattle.desk_world.specs.declared.replies.Reply.TheVariants.{Judged, FromAgent, NotResolved}
use Rattle.desk_world.specs.declared.replies.Reply.TheVariants.{NoAgent, AgentGone, AgentFull}

-- the world after an event that is enabled where the test holds
abbrev pub when : Bool → World → Option World
when enabled world = if enabled then Some world else None

-- the world after an event that is enabled only where there is such a thing
abbrev pub with_some : {X : Type 0} → Option X → (X → Option World) → Option World
with_some None event = None
with_some (Some x) event = event x

abbrev pub same_question : Question → Question → Bool
same_question question other =
    same_text question.client other.client
    && (same_text question.user other.user && same_text question.privilege other.privilege)

-- ---- dialling

abbrev pub new_link : ℕ → ℕ → Link
new_link client run = record {
  client = client;
  run = run;
  entered = None;
  seen = 0;
  up = true;
  question = None;
  reading = Nothing;
  reply = None;
}

-- a new link, up and not entered, and an empty cache
abbrev pub dialled : ℕ → World → World
dialled client world =
    with_client client (record (client_of world client) { link = Some (length world.links); log = [] })
    (record world { links = world.links ++ new_link client world.run ∷ [] })

abbrev pub dial : ℕ → World → Option World
dial client world = when (is_none (client_of world client).link) (dialled client world)

-- ---- asking

-- no reply may be older than what is acknowledged now, nor than what the client was told
abbrev pub new_ask : ℕ → Question → Bool → World → Asked
new_ask client question simple world = record {
  client = client;
  question = question;
  simple = simple;
  floor = max world.acknowledged (client_of world client).told;
}

abbrev pub asked : ℕ → Question → Bool → World → World
asked client question simple world =
    with_client client (record (client_of world client) { asking = Some (length world.asks) })
    (record world { asks = world.asks ++ new_ask client question simple world ∷ [] })

abbrev pub send_on : ℕ → ℕ → Link → World → Option World
send_on ask link found world =
    when (found.up && (is_none found.question && is_none found.reply))
    (with_link link (record found { question = Some ask }) world)

-- the question goes out on a link that is up and has no question and no reply
abbrev pub send : ℕ → World → Option World
send client world =
    with_some (client_of world client).asking (λ ask.
    with_some (client_of world client).link (λ link.
    with_some (slice_get world.links link) (λ found. send_on ask link found world)))

-- ---- replies

-- the client has its reply, and no ask is open
abbrev pub given : ℕ → ℕ → ℕ → Reply → World → World
given client ask run reply world =
    with_client client (record (client_of world client) { asking = None })
    (record world { given = world.given ++ record { ask = ask; run = run; reply = reply } ∷ [] })

abbrev pub hit_in : ℕ → ℕ → Asked → Link → Known → World → Option World
hit_in client ask asked link known world =
    when (link.up
    && (same_question known.question asked.question && nat_le (client_of world client).told known.verdict.commit))
    (given client ask link.run (Judged known.verdict) world)

-- the reply is an entry of the cache for this question, not below the told number; the link is asked whether it is up
abbrev pub hit : ℕ → ℕ → World → Option World
hit client entry world =
    with_some (client_of world client).asking (λ ask.
    with_some (slice_get world.asks ask) (λ asked.
    with_some (client_of world client).link (λ link.
    with_some (slice_get world.links link) (λ found.
    with_some (slice_get (client_of world client).log entry) (λ known. hit_in client ask asked found known world)))))

-- a verdict goes into the cache, and no other reply does
abbrev pub kept : Question → Reply → List Known → List Known
kept question (Judged verdict) log = log ++ record { question = question; verdict = verdict } ∷ []
kept question (FromAgent commit kind number allowed) log = log
kept question (NotResolved commit kind) log = log
kept question (NoAgent commit kind) log = log
kept question (AgentGone commit number) log = log
kept question (AgentFull commit kind most) log = log

-- the client has this reply to its question, also in its cache if it is a verdict
abbrev pub received : ℕ → Question → Given → World → World
received client question new world =
    with_client client
    (record (client_of world client) { asking = None; log = kept question new.reply (client_of world client).log })
    (record world { given = world.given ++ new ∷ [] })

abbrev pub delivered : ℕ → ℕ → Question → ℕ → Link → Reply → World → World
delivered client ask question link found reply world =
    received client question (record { ask = ask; run = found.run; reply = reply })
    (with_link link (record found { reply = None }) world)

abbrev pub deliver_to : ℕ → ℕ → Asked → ℕ → Link → Transit → World → Option World
deliver_to client ask asked link found transit world =
    when (transit.ask == ask) (delivered client ask asked.question link found transit.reply world)

-- the reply on the client's link, up or closed, to the ask that is open
abbrev pub deliver : ℕ → World → Option World
deliver client world =
    with_some (client_of world client).asking (λ ask.
    with_some (slice_get world.asks ask) (λ asked.
    with_some (client_of world client).link (λ link.
    with_some (slice_get world.links link) (λ found.
    with_some found.reply (λ transit. deliver_to client ask asked link found transit world)))))

-- ---- a closed link, and a told commit

-- the link is given back and the cache emptied
abbrev pub notice : ℕ → World → Option World
notice client world =
    with_some (client_of world client).link (λ link.
    with_some (slice_get world.links link) (λ found.
    when (not found.up) (with_client client (record (client_of world client) { link = None; log = [] }) world)))

abbrev pub tell : ℕ → ℕ → World → Option World
tell client commit world =
    when (nat_le commit world.acknowledged)
    (with_client client (record (client_of world client) { told = max (client_of world client).told commit }) world)
