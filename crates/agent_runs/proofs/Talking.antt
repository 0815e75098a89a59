-- An agent's messages, one behind the other, and how a run ends where no further one is heard.
use Rattle.std.proofs.Common.{◌≡◌, ◌≤◌, inl, inr, ℕ, List, [], ◌∷◌, ◌++◌, length, Bool, true, false, Option, Ok, Err, refl, sym, ap, ◌∙◌, subst, append_assoc, append-nil, arith, length-append}
use Rattle.std.proofs.lemmas.List.{flat_map_more}
use Rattle.desk_ports.specs.Faults.{next_count}
use Rattle.desk_ports.specs.Content.{Appended}
use Rattle.desk_ports.proofs.Appends.{Appended-none, Appended-then}
use Rattle.cynara_keys.specs.declared.results.Kind.{Kind}
use Rattle.wire_fields.specs.declared.messages.Framed.{Framed}
use Rattle.wire_fields.specs.declared.messages.Message.TheVariants.{Register}
use Rattle.wire_fields.specs.declared.operations.Heard.TheVariants.{AgentReplies}
use Rattle.wire_reading.specs.Frame.{spelling, with_sequence}
use Rattle.wire_reading.specs.Stream.{Hears}
use Rattle.wire_reading.proofs.Streams.{hears_more, hears_then}
use Rattle.client_connection.proofs.Exchanging.{nothing_open}
use Rattle.client_core.specs.Listening.{unheard}
use Rattle.client_core.specs.Agent.{Agent, fresh}
use Rattle.client_core.specs.Agent as does
use Rattle.client_core.specs.declared.stages.AgentStage.{AgentStage}
use Rattle.client_core.specs.declared.stages.AgentStage.TheVariants as stage
use Rattle.client_core.specs.declared.steps.Step.{Step}
use Rattle.client_core.specs.declared.steps.Step.TheVariants as step
use Rattle.client_core.specs.declared.steps.Fault.{Fault}
use Rattle.client_core.specs.declared.steps.Fault.TheVariants as fault
use Rattle.run_endings.specs.Ending.{net_faults_after}
use Rattle.run_endings.specs.Outside.{SinkSeen}
use Rattle.run_endings.specs.Saying.{silence, AreWritten}
use Rattle.run_endings.specs.declared.endings.Ending.{Ending}
use Rattle.run_endings.specs.declared.endings.Ending.TheVariants.{Done, Memory, Net, Reply}
use Rattle.agent_runs.specs.LinkSeen.{LinkSeen, Carries}
use Rattle.agent_runs.specs.AgentTalk.{line_of, answer_of, lines, sent_after, GoesOn, IsBadReply, EndsBehind, IsSilent, Served}
use Rattle.agent_runs.specs.parts.Hearing.{IsBehind, IsReady, IsListening, Came}
use Rattle.agent_runs.specs.parts.Ends.{ending_of, ending_behind}
use Rattle.agent_runs.specs.parts.Turns.{IsUnwritten, IsWhole, SendsFrame, Sends, IsBegun, Talked}
use Rattle.agent_runs.proofs.Carrying.{carries-same, carries-heard}
use Rattle.agent_runs.proofs.Making.{IsOver, Makes, makes, wanted_behind}
use Rattle.agent_runs.proofs.Answering.{sent, stage_sent}

-- ---- what was heard

-- a message behind others
pub heard-one : (received bytes : List ℕ) (messages : List Framed) (framed : Framed) → Hears AgentReplies received messages []
    → Hears AgentReplies bytes (framed ∷ []) [] → Hears AgentReplies (received ++ bytes) (messages ++ framed ∷ []) []
heard-one received bytes messages framed before next =
    hears_then AgentReplies (received ++ bytes) messages bytes (framed ∷ []) []
    (hears_more AgentReplies received bytes messages [] before) next

-- bytes behind messages
heard-behind : (received bytes : List ℕ) (messages : List Framed) → Hears AgentReplies received messages []
    → Hears AgentReplies (received ++ bytes) (messages ++ []) bytes
heard-behind received bytes messages before =
    subst (λ ms. Hears AgentReplies (received ++ bytes) ms bytes) (sym (append-nil messages))
    (hears_more AgentReplies received bytes messages [] before)

-- the machine has come so far behind one more message
pub behind-one : (messages : List Framed) (framed : Framed) (s : AgentStage) → IsListening s → IsBehind (messages ++ framed ∷ []) [] s
behind-one [] framed s listens = listens
behind-one (first ∷ turns) framed s listens = listens

-- ---- what was written

-- behind a text nothing was written
pub whole-still : (text : List ℕ) (first second third : SinkSeen) → IsWhole text first second → IsUnwritten second third
    → IsWhole text first third
whole-still text first second third one two =
    (subst (λ (taken : Option (List ℕ)). Appended first.taken text taken) (sym two.0) one.0, two.1 ∙ one.1)

pub whole-then : (text more : List ℕ) (first second third : SinkSeen) → IsWhole text first second → IsWhole more second third
    → IsWhole (text ++ more) first third
whole-then text more first second third one two =
    (Appended-then first.taken second.taken third.taken text more one.0 two.0, two.1 ∙ one.1)

-- the line of a message more
pub more_lines : (messages : List Framed) (framed : Framed) → lines messages ++ line_of framed ≡ lines (messages ++ framed ∷ [])
more_lines messages framed = flat_map_more line_of [] messages framed

pub more_sent : (kind : Kind) (allowed : Bool) (messages : List Framed) (framed : Framed)
    → sent_after kind allowed messages ++ answer_of allowed framed ≡ sent_after kind allowed (messages ++ framed ∷ [])
more_sent kind allowed messages framed =
    flat_map_more (answer_of allowed) (spelling (with_sequence 0 (Register kind))) messages framed

-- ---- the beginning

module _ (kind : Kind) (allowed : Bool) (link after : LinkSeen) (sink : SinkSeen) where
  abbrev first_frame : List ℕ
  first_frame = spelling (with_sequence 0 (Register kind))

  abbrev first_stage : AgentStage
  first_stage = stage.Registering (unheard AgentReplies)

  silent : (ending : Ending) → Carries [] [] false link after → after.faults ≡ net_faults_after ending link.faults
      → AreWritten ending sink.faults sink.faults silence → IsSilent ending silence [] [] false
      → Served kind allowed ending link after sink sink
  silent ending carried faults written is = (
    silence,
    record { sent = []; received = []; found = false; carried = carried; talked = inr is; faults = faults },
    record { taken = Appended-none sink.taken; are_written = written },
  )

  unsent : (ending : Ending) → SendsFrame first_frame (Err ending) link after → Served kind allowed ending link after sink sink
  unsent Memory sends =
      silent Memory (carries-same link after sends) (ap (λ link. link.faults) sends) (inl (refl, refl))
      (record { unregistered = tt; said_is = refl; nothing = (refl, refl, refl) })
  unsent Net sends =
      silent Net sends.0 sends.1 (refl, refl)
      (record { unregistered = tt; said_is = refl; nothing = (refl, refl, refl) })
  unsent ending sends = absurd sends

  -- a machine that is new was told that the service was dialled
  module _ (machine new : Agent) (answer : Step) (is : machine ≡ fresh kind) (dials : does.Dialled answer machine new) where
    spells : does.Spells 0 (Register kind) first_stage answer (fresh kind) new
    spells = subst (λ (old : Agent). does.Dialled answer old new) is dials

    pub begins : (value : Unit {0}) → Sends answer new.frame (Ok value) link after
        → Talked kind allowed [] new false link after sink sink
    begins value sends =
        let went = sent 0 (Register kind) first_stage answer (fresh kind) new link after (Ok value) spells sends in
        record {
          received = [];
          there = [];
          heard = refl;
          goes_on = tt;
          unfinished = nothing_open AgentReplies;
          stage_is = stage_sent 0 (Register kind) first_stage answer (fresh kind) new link after value spells sends;
          is_begun = refl;
          carried = subst (λ frame. Carries frame [] false link after) (sym (append-nil first_frame)) went.0;
          faults = went.1;
          whole = (Appended-none sink.taken, refl);
        }

    pub served-unsent : (ending : Ending) → Sends answer new.frame (Err ending) link after
        → Served kind allowed ending link after sink sink
    served-unsent ending sends =
        unsent ending (sent 0 (Register kind) first_stage answer (fresh kind) new link after (Err ending) spells sends)

-- ---- the end behind these messages

module _ {kind : Kind} {allowed : Bool} {start after : LinkSeen} {sink_start sink_after : SinkSeen} (messages : List Framed) where
  -- nothing more is due, whatever bytes are behind
  pub ends_here : (ending : Ending) (received behind : List ℕ) (found : Bool) → Hears AgentReplies received messages []
      → Carries (sent_after kind allowed messages) (received ++ behind) found start after
      → after.faults ≡ net_faults_after ending start.faults → Appended sink_start.taken (lines messages) sink_after.taken
      → AreWritten ending sink_start.faults sink_after.faults (record { due = lines messages; written = lines messages })
      → EndsBehind ending (record { due = lines messages; written = lines messages }) messages [] behind found
      → Served kind allowed ending start after sink_start sink_after
  ends_here ending received behind found heard carried faults taken written ends = (
    record { due = lines messages; written = lines messages },
    record {
      sent = sent_after kind allowed messages;
      received = received ++ behind;
      found = found;
      carried = carried;
      talked = inl (record {
        messages = messages;
        last = [];
        behind = behind;
        heard = heard-behind received behind messages heard;
        answered = refl;
        due = ap lines (sym (append-nil messages));
        ends = ends;
      });
      faults = faults;
    },
    record { taken = taken; are_written = written },
  )

  -- the line of one message more is due
  pub ends_at : (framed : Framed) (ending : Ending) (written received : List ℕ) → Hears AgentReplies received (messages ++ framed ∷ []) []
      → Carries (sent_after kind allowed messages) received false start after
      → after.faults ≡ net_faults_after ending start.faults → Appended sink_start.taken written sink_after.taken
      → AreWritten ending sink_start.faults sink_after.faults (record { due = lines (messages ++ framed ∷ []); written = written })
      → EndsBehind ending (record { due = lines (messages ++ framed ∷ []); written = written }) messages (framed ∷ []) [] false
      → Served kind allowed ending start after sink_start sink_after
  ends_at framed ending written received heard carried faults taken are_written ends = (
    record { due = lines (messages ++ framed ∷ []); written = written },
    record {
      sent = sent_after kind allowed messages;
      received = received;
      found = false;
      carried = carried;
      talked = inl (record {
        messages = messages;
        last = framed ∷ [];
        behind = [];
        heard = heard;
        answered = refl;
        due = refl;
        ends = ends;
      });
      faults = faults;
    },
    record { taken = taken; are_written = are_written },
  )

-- ---- bytes come

module _ {kind : Kind} {allowed : Bool} {messages : List Framed} {machine : Agent} {begun : Bool} {start link : LinkSeen}
    {sink_start sink : SinkSeen} (t : Talked kind allowed messages machine begun start link sink_start sink) where
  pub ready : IsReady machine.stage
  ready = record { messages = messages; there = t.there; goes_on = t.goes_on; unfinished = t.unfinished; stage_is = t.stage_is }

  -- these bytes came too
  pub carried-on : {after : LinkSeen} (bytes : List ℕ) (found : Bool) → Carries [] bytes found link after
      → Carries (sent_after kind allowed messages) (t.received ++ (t.there ++ bytes)) found start after
  carried-on {after = after} bytes found more =
      subst (λ received. Carries (sent_after kind allowed messages) received found start after) (append_assoc t.received t.there bytes)
      (carries-heard (sent_after kind allowed messages) (t.received ++ t.there) bytes found start link after t.carried more)

  carried-still : {after : LinkSeen} (found : Bool) → Carries [] [] found link after
      → Carries (sent_after kind allowed messages) (t.received ++ t.there) found start after
  carried-still {after = after} found none =
      subst (λ (there : List ℕ). Carries (sent_after kind allowed messages) (t.received ++ there) found start after)
      (append-nil t.there) (carried-on [] found none)

  pub made : {answer : Step} {new : Agent} {after : LinkSeen} (c : Came answer machine new link after)
      → Makes messages (t.there ++ c.bytes) answer new.stage
  made {answer = answer} {new = new} c =
      makes answer machine new t.there c.bytes t.unfinished c.some
      (subst (λ (n : ℕ). length c.bytes ≤ n) (wanted_behind messages t.there machine.stage t.stage_is) c.few)
      messages t.goes_on t.stage_is c.comes

  -- the message goes on
  pub goes-on : {new : Agent} {after : LinkSeen} → Came step.Wait machine new link after
      → Talked kind allowed messages new true start after sink_start sink
  goes-on c = record {
    received = t.received;
    there = t.there ++ c.bytes;
    heard = t.heard;
    goes_on = t.goes_on;
    unfinished = (made c).0;
    stage_is = (made c).1;
    is_begun = omega (arith, c.some, length-append t.there c.bytes);
    carried = carried-on c.bytes false c.carried;
    faults = c.faults ∙ t.faults;
    whole = t.whole;
  }

  -- the link failed
  pub served-lost : {after : LinkSeen} → Carries [] [] false link after × (after.faults ≡ next_count link.faults)
      → Served kind allowed Net start after sink_start sink
  served-lost (carried, faults) =
      ends_here messages Net t.received t.there false t.heard (carried-still false carried) (faults ∙ ap next_count t.faults)
      t.whole.0 (t.whole.1, refl) (subst GoesOn (sym (append-nil messages)) t.goes_on, tt, t.unfinished, refl)

  -- ---- nothing more is written

  module _ (sink_after : SinkSeen) (still : IsUnwritten sink sink_after) where
    yet : IsWhole (lines messages) sink_start sink_after
    yet = whole-still (lines messages) sink_start sink sink_after t.whole still

    module _ {after : LinkSeen} where
      -- the input ended, within a message or between two
      ended : (b : Bool) → IsBegun b t.there → Carries [] [] true link after × (after.faults ≡ link.faults)
          → Served kind allowed (ending_behind b) start after sink_start sink_after
      ended true some (carried, faults) =
          ends_here messages Reply t.received t.there true t.heard (carried-still true carried) (faults ∙ t.faults) yet.0 (yet.1, refl)
          (refl, t.goes_on, IsBadReply.cut some t.unfinished refl)
      ended false none (carried, faults) =
          ends_here messages Done t.received t.there true t.heard (carried-still true carried) (faults ∙ t.faults) yet.0 (yet.1, refl)
          (refl, none, inl (t.goes_on, refl))

      -- nothing follows from these bytes
      over : (found : Fault) (bytes : List ℕ) → IsOver found messages (t.there ++ bytes) → Carries [] bytes false link after
          → after.faults ≡ link.faults → Served kind allowed (ending_of found) start after sink_start sink_after
      over (fault.Memory error) bytes is carried faults =
          ends_here messages Memory t.received (t.there ++ bytes) false t.heard (carried-on bytes false carried) (faults ∙ t.faults)
          yet.0 (inl (yet.1, refl)) (t.goes_on, tt, refl)
      over found bytes is carried faults =
          ends_here messages Reply t.received (t.there ++ bytes) false t.heard (carried-on bytes false carried) (faults ∙ t.faults)
          yet.0 (yet.1, refl) (refl, t.goes_on, is)

  pub served-ended : {after : LinkSeen} {sink_after : SinkSeen} {ending : Ending} → Carries [] [] true link after × (after.faults ≡ link.faults)
      → IsUnwritten sink sink_after → ending ≡ ending_behind begun → Served kind allowed ending start after sink_start sink_after
  served-ended {after = after} {sink_after = sink_after} carries still is =
      subst (λ (ending : Ending). Served kind allowed ending start after sink_start sink_after) (sym is)
      (ended sink_after still begun t.is_begun carries)

  -- the machine is over with a fault
  pub served-over : {after : LinkSeen} {sink_after : SinkSeen} {ending : Ending} {new : Agent} {found : Fault}
      → Came (step.Over found) machine new link after → IsUnwritten sink sink_after → ending ≡ ending_of found
      → Served kind allowed ending start after sink_start sink_after
  served-over {after = after} {sink_after = sink_after} {found = found} c still is =
      subst (λ (ending : Ending). Served kind allowed ending start after sink_start sink_after) (sym is)
      (over sink_after still found c.bytes (made c) c.carried c.faults)
