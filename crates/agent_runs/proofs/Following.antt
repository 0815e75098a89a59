-- A message that was heard is followed: the agent hears on, or the run ends.
use Rattle.std.proofs.Common.{◌≡◌, inl, inr, ℕ, List, [], ◌∷◌, ◌++◌, take, Bool, false, Result, Ok, Err, refl, sym, ap, ◌∙◌, subst, append_assoc, append-nil}
use Rattle.desk_ports.specs.Faults.{next_count}
use Rattle.desk_ports.proofs.Appends.{Appended-then}
use Rattle.cynara_keys.specs.declared.results.Kind.{Kind}
use Rattle.wire_fields.specs.declared.messages.Framed.{Framed}
use Rattle.wire_fields.specs.declared.messages.Message.{Message}
use Rattle.wire_fields.specs.declared.messages.Message.TheVariants.{KindTaken}
use Rattle.wire_fields.specs.declared.operations.Heard.TheVariants.{AgentReplies}
use Rattle.wire_reading.specs.Stream.{Hears}
use Rattle.client_connection.proofs.Exchanging.{nothing_open}
use Rattle.client_core.specs.Agent.{Agent}
use Rattle.client_core.specs.declared.steps.Step.TheVariants as step
use Rattle.run_endings.specs.Outside.{SinkSeen}
use Rattle.run_endings.specs.declared.endings.Ending.{Ending}
use Rattle.run_endings.specs.declared.endings.Ending.TheVariants.{Done, Memory, Sink, Net}
use Rattle.run_endings.proofs.Trying.{IsCut-take}
use Rattle.agent_runs.specs.LinkSeen.{LinkSeen, Carries}
use Rattle.agent_runs.specs.AgentTalk.{line_of, answer_of, answer_for, lines, sent_after, IsRefused, IsQuestion, AreInPlace, Served}
use Rattle.agent_runs.specs.parts.Hearing.{IsPut, Came}
use Rattle.agent_runs.specs.parts.Turns.{IsWhole, FailsToWrite, Answers, Follows, Talked}
use Rattle.agent_runs.proofs.Carrying.{carries-answered, carries-heard}
use Rattle.agent_runs.proofs.Places.{refused-question, place-goes_on, place-taken}
use Rattle.agent_runs.proofs.Making.{framed}
use Rattle.agent_runs.proofs.Talking.{heard-one, behind-one, whole-still, whole-then, more_lines, more_sent, ends_here, ends_at, carried-on, made}

no_answer : (allowed : Bool) (sequence : ℕ) (message : Message) → IsRefused message → answer_for allowed sequence message ≡ []
no_answer allowed sequence (KindTaken kind) refused = refl
no_answer allowed sequence message refused = absurd refused

-- ---- the message, in its place

module _ {kind : Kind} {allowed : Bool} {messages : List Framed} {machine : Agent} {begun : Bool} {start first : LinkSeen}
    {sink_start sink : SinkSeen} (t : Talked kind allowed messages machine begun start first sink_start sink)
    {message : Message} {mid : Agent} {link : LinkSeen} (c : Came (step.Reply message) machine mid first link)
    (one : Framed) (next : Hears AgentReplies (t.there ++ c.bytes) (one ∷ []) []) (place : AreInPlace (messages ++ one ∷ [])) where
  abbrev more : List Framed
  more = messages ++ one ∷ []

  abbrev bytes : List ℕ
  bytes = t.received ++ (t.there ++ c.bytes)

  heard_more : Hears AgentReplies bytes more []
  heard_more = heard-one t.received (t.there ++ c.bytes) messages one t.heard next

  carried : Carries (sent_after kind allowed messages) bytes false start link
  carried = carried-on t c.bytes false c.carried

  module _ (after : LinkSeen) (sink_after : SinkSeen) where
    with_line : IsWhole (line_of one) sink sink_after → IsWhole (lines more) sink_start sink_after
    with_line whole =
        subst (λ text. IsWhole text sink_start sink_after) (more_lines messages one)
        (whole-then (lines messages) (line_of one) sink_start sink sink_after t.whole whole)

    same_link : after ≡ link → Carries (sent_after kind allowed messages) bytes false start after
    same_link same = subst (λ link. Carries (sent_after kind allowed messages) bytes false start link) (sym same) carried

    same_faults : after ≡ link → after.faults ≡ start.faults
    same_faults same = ap (λ link. link.faults) same ∙ (c.faults ∙ t.faults)

    -- the kind is taken
    taken : IsRefused one.message → after ≡ link → IsWhole (line_of one) sink sink_after
        → Served kind allowed Done start after sink_start sink_after
    taken refused same whole =
        let written = with_line whole in
        let sent_is : sent_after kind allowed messages ≡ sent_after kind allowed more =
        sym (append-nil (sent_after kind allowed messages))
        ∙ (ap (λ frame. sent_after kind allowed messages ++ frame) (sym (no_answer allowed one.sequence one.message refused))
        ∙ more_sent kind allowed messages one) in
        ends_here more Done bytes [] false heard_more
        (subst (λ received. Carries (sent_after kind allowed more) received false start after) (sym (append-nil bytes))
        (subst (λ sent. Carries sent bytes false start after) sent_is (same_link same))) (same_faults same) written.0
        (written.1, refl) (refl, refl, inr (place-taken messages one refused place, refl))

    -- the link failed while the answer was to be sent
    lost : IsQuestion one.message → Carries [] [] false link after → after.faults ≡ next_count link.faults
        → IsWhole (line_of one) sink sink_after → Served kind allowed Net start after sink_start sink_after
    lost question none faults whole =
        let written = with_line whole in
        ends_at messages one Net (lines more) bytes heard_more
        (subst (λ received. Carries (sent_after kind allowed messages) received false start after) (append-nil bytes)
        (carries-heard (sent_after kind allowed messages) bytes [] false start link after carried none))
        (faults ∙ ap next_count (c.faults ∙ t.faults)) written.0 (written.1, refl)
        (place-goes_on messages one t.goes_on (refused-question one.message question) place, question, nothing_open AgentReplies, refl)

    by_answer : (ending : Ending) (new : Agent) → IsWhole (line_of one) sink sink_after
        → Answers allowed one.sequence one.message (Err ending) new link after
        → Served kind allowed ending start after sink_start sink_after
    by_answer Done new whole (refused, same) = taken refused same whole
    by_answer Net new whole (question, none, faults) = lost question none faults whole
    by_answer Memory new whole (question, same) =
        let written = with_line whole in
        ends_at messages one Memory (lines more) bytes heard_more (same_link same) (same_faults same) written.0
        (inl (written.1, refl)) (t.goes_on, question, refl)
    by_answer ending new whole answers = absurd answers

    -- no memory was found for its line, or the sink failed there
    by_line : (ending : Ending) → FailsToWrite (line_of one) (Err ending) sink sink_after → after ≡ link
        → Served kind allowed ending start after sink_start sink_after
    by_line Memory still same =
        let whole = whole-still (lines messages) sink_start sink sink_after t.whole still in
        ends_here messages Memory t.received (t.there ++ c.bytes) false t.heard (same_link same) (same_faults same) whole.0
        (inl (whole.1, refl)) (t.goes_on, tt, refl)
    by_line Sink cut same =
        let front : List ℕ = take cut.0.0 (line_of one) in
        let rest = IsCut-take cut.0.0 (line_of one) cut.0.1 in
        let line : lines messages ++ line_of one ≡ lines messages ++ (front ++ rest.0 ∷ rest.1) =
        ap (λ more. lines messages ++ more) rest.2 in
        let is : lines more ≡ (lines messages ++ front) ++ rest.0 ∷ rest.1 =
        sym (more_lines messages one) ∙ (line ∙ sym (append_assoc (lines messages) front (rest.0 ∷ rest.1))) in
        ends_at messages one Sink (lines messages ++ front) bytes heard_more (same_link same) (same_faults same)
        (Appended-then sink_start.taken sink.taken sink_after.taken (lines messages) front t.whole.0 cut.0.2)
        (cut.1 ∙ ap next_count t.whole.1, (rest.0, rest.1, is))
        (one, front, refl, refl, t.goes_on, place, refl, refl)
    by_line ending fails same = absurd fails

    out : (ending : Ending) (new : Agent) → Follows allowed one.sequence one.message (Err ending) new link after sink sink_after
        → Served kind allowed ending start after sink_start sink_after
    out ending new (Follows.written whole answers) = by_answer ending new whole answers
    out ending new (Follows.unwritten fails same) = by_line ending fails same

    on : (value : Unit {0}) (new : Agent) → Follows allowed one.sequence one.message (Ok value) new link after sink sink_after
        → Talked kind allowed more new false start after sink_start sink_after
    on value new (Follows.written whole (unrefused, listens, answer, faults)) = record {
      received = bytes;
      there = [];
      heard = heard_more;
      goes_on = place-goes_on messages one t.goes_on unrefused place;
      unfinished = nothing_open AgentReplies;
      stage_is = behind-one messages one new.stage listens;
      is_begun = refl;
      carried = subst (λ received. Carries (sent_after kind allowed more) received false start after) (sym (append-nil bytes))
          (subst (λ sent. Carries sent bytes false start after) (more_sent kind allowed messages one)
          (carries-answered (sent_after kind allowed messages) bytes (answer_of allowed one) start link after carried answer));
      faults = faults ∙ (c.faults ∙ t.faults);
      whole = with_line whole;
    }
    on value new (Follows.unwritten fails same) = absurd fails

-- ---- whatever its sequence number

module _ {kind : Kind} {allowed : Bool} {messages : List Framed} {machine : Agent} {begun : Bool} {start first : LinkSeen}
    {sink_start sink : SinkSeen} (t : Talked kind allowed messages machine begun start first sink_start sink)
    {message : Message} {mid : Agent} {link : LinkSeen} (c : Came (step.Reply message) machine mid first link)
    {result : Result (Unit {0}) Ending} {new : Agent} {after : LinkSeen} {sink_after : SinkSeen}
    (follows : (sequence : ℕ) → IsPut message sequence mid.stage → Follows allowed sequence message result new link after sink sink_after) where
  -- the agent hears on
  pub follows-on : (value : Unit {0}) → result ≡ Ok value
      → (more : List Framed) × Talked kind allowed more new false start after sink_start sink_after
  follows-on value is =
      let (sequence, heard, place, put) = made t c in (
        messages ++ framed sequence message ∷ [],
        on t c (framed sequence message) heard place after sink_after value new
            (subst (λ (r : Result (Unit {0}) Ending). Follows allowed sequence message r new link after sink sink_after) is
            (follows sequence put)),
      )

  -- or the run ends
  pub follows-out : (ending : Ending) → result ≡ Err ending → Served kind allowed ending start after sink_start sink_after
  follows-out ending is =
      let (sequence, heard, place, put) = made t c in
      out t c (framed sequence message) heard place after sink_after ending new
      (subst (λ (r : Result (Unit {0}) Ending). Follows allowed sequence message r new link after sink sink_after) is
      (follows sequence put))
