-- A whole script, from its lines.
use Rattle.std.proofs.Common.{◌≡◌, ℕ, List, [], ◌∷◌, ◌++◌, Option, Result, Ok, Err, inl, inr, refl, sym, ap, ◌∙◌, subst}
use Rattle.std.proofs.Common.{append-nil}
use Rattle.text_lines.specs.LineReader.{LineReading, HandsOut, Ends, EndsReading}
use Rattle.line_script.specs.Block.{Block}
use Rattle.line_script.specs.Turn.{is_in_block}
use Rattle.script_words.specs.declared.places.Place.TheVariants.{Admin}
use Rattle.line_script.specs.declared.steps.Step.{Step}
use Rattle.link_ports.specs.Traffic.{Traffic}
use Rattle.link_ports.specs.LinkMarks.{LinkMarks}
use Rattle.wire_fields.specs.declared.messages.Message.{Message}
use Rattle.admin_client.specs.Sending.{State}
use Rattle.run_endings.specs.Outside.{SinkSeen}
use Rattle.run_endings.specs.declared.endings.Ending.{Ending}
use Rattle.run_endings.specs.declared.endings.Ending.TheVariants.{Done, Memory, Line, Source, Sink, Net, Reply, TooLong}
use Rattle.script_replies.specs.NextLine.{ReadsNext}
use Rattle.script_replies.specs.Reading.{Reads, Goes, Has, ReadsLines}
use Rattle.script_replies.proofs.Going.{goes_on}
use Rattle.script_replies.proofs.Ending.{ends_unread, ends_now, ends_by_memory, ends_before_line, ends_by_source}
use Rattle.script_replies.proofs.Ending.{ends_past_limit, ends_at_line, ends_done, ends_in_block}
use Rattle.admin_runs.specs.AdminRun.{HasRead, messages_of}
use Rattle.admin_runs.specs.parts.Talk.{Talks, IsStop, ending_by}
use Rattle.admin_runs.specs.parts.Line.{TakesLine, StopsAtLine, StopsNext}
use Rattle.admin_runs.specs.parts.Script.{SendsAll, EndsScript}
use Rattle.admin_runs.proofs.Turns.{messages_then}
use Rattle.admin_runs.proofs.Talking.{talk_none, talk_then, IsQuiet}

-- what was read behind steps that came to a stop
by_stop : (left left_after : Option (List ℕ)) (steps : List Step) (ending : Ending) → IsStop ending
    → Has left left_after (λ input rest. ReadsLines Admin input rest steps)
    → Has left left_after (λ input rest. HasRead ending input rest steps)
by_stop left left_after steps Memory stop has = has
by_stop left left_after steps Sink stop has = has
by_stop left left_after steps Net stop has = has
by_stop left left_after steps Reply stop has = has
by_stop left left_after steps (TooLong size) stop has = has
by_stop left left_after steps ending stop has = absurd stop

-- what was read where no further line was
module _ (left left_now left_after : Option (List ℕ)) (block : Block) (reading reading_after : LineReading)
    (p : Reads Admin left left_now block reading) (ends : EndsReading left_now left_after reading reading_after) where
  by_next : (ending : Ending) → ReadsNext left_now left_after reading reading_after (Err ending)
      → Has left left_after (λ input rest. HasRead ending input rest p.steps)
  by_next Memory next = ends_by_memory p next
  by_next (Line number) next = ends_past_limit p ends next.0 next.2 number next.1
  by_next Source next = ends_by_source p next.0 next.1
  by_next ending next = absurd next

module _ {N L : Type 0} (link_faults : L → ℕ) (marks : L → LinkMarks) (traffic : L → Option Traffic)
    (faults dials : N → ℕ) (given_back : N → Option (List L)) where
  abbrev Talk : State N L → State N L → SinkSeen → SinkSeen → List Message → Ending → Type 0
  Talk old new before after messages ending =
      Talks link_faults marks traffic faults dials given_back old new before after messages ending

  -- the script so far: its messages were sent and answered
  abbrev pub Sends : State N L → State N L → SinkSeen → SinkSeen → List Step → Type 0
  Sends old new before after steps = Talk old new before after (messages_of steps) Done

  -- no memory was found to begin
  pub sends_nothing : (old : State N L) (before : SinkSeen) (left : Option (List ℕ))
      → SendsAll (Talk old old before before) left left Memory
  sends_nothing old before left =
      let has = ends_unread Admin left in
      record {
        input = has.0;
        rest = has.1;
        steps = [];
        had = has.2;
        read = has.3;
        talks = talk_none link_faults marks traffic faults dials given_back Memory old old before before tt refl refl refl;
      }

  module _ (left left_now left_after : Option (List ℕ)) (block next : Block) (reading reading_after : LineReading)
      (old between new : State N L) (before mid after : SinkSeen)
      (goes : Goes Admin left left_now block reading (Sends old between before mid))
      (ends : EndsReading left_now left_after reading reading_after) where
    abbrev p : Reads Admin left left_now block reading
    p = goes.0

    -- a message behind those of the steps
    step_then : (step : Step) (ending : Ending) → Talk between new mid after (messages_of (step ∷ [])) ending
        → Talk old new before after (messages_of (p.steps ++ step ∷ [])) ending
    step_then step ending talks =
        subst (λ messages. Talk old new before after messages ending) (sym (messages_then p.steps (step ∷ [])))
        (talk_then link_faults marks traffic faults dials given_back old between new before mid after
        (messages_of p.steps) (messages_of (step ∷ [])) ending goes.1 talks)

    none_then : (ending : Ending) → Talk between new mid after [] ending
        → Talk old new before after (messages_of p.steps) ending
    none_then ending talks =
        subst (λ messages. Talk old new before after messages ending) (append-nil (messages_of p.steps))
        (talk_then link_faults marks traffic faults dials given_back old between new before mid after
        (messages_of p.steps) [] ending goes.1 talks)

    -- one more line
    pub sends_next : HandsOut left_now left_after reading reading_after
        → TakesLine (Talk between new mid after) block next reading_after.line Done
        → Goes Admin left left_after next reading_after (Sends old new before after)
    sends_next out takes =
        goes_on p takes.step out ends takes.reads (Sends old new before after) (step_then takes.step Done takes.talks)

    all_of : (steps : List Step) (ending : Ending) → Has left left_after (λ input rest. HasRead ending input rest steps)
        → Talk old new before after (messages_of steps) ending
        → SendsAll (Talk old new before after) left left_after ending
    all_of steps ending has talks =
        record { input = has.0; rest = has.1; steps = steps; had = has.2; read = has.3; talks = talks }

    at_line : (ending : Ending) (out : HandsOut left_now left_after reading reading_after)
        → StopsAtLine (Talk between new mid after) block next reading_after.line reading_after.number ending
        → SendsAll (Talk old new before after) left left_after ending
    at_line ending out stops =
        elim stops [
          | StopsAtLine.wrong is none talks ↦
              subst (λ ending. SendsAll (Talk old new before after) left left_after ending) (sym is)
              (all_of p.steps (Line reading_after.number) (ends_at_line p out ends none reading_after.number refl)
              (none_then (Line reading_after.number) (subst (λ ending. Talk between new mid after [] ending) is talks)))
          | StopsAtLine.unread is talks ↦
              subst (λ ending. SendsAll (Talk old new before after) left left_after ending) (sym is)
              (all_of p.steps Memory (ends_before_line p out)
              (none_then Memory (subst (λ ending. Talk between new mid after [] ending) is talks)))
          | StopsAtLine.stopped stop takes ↦
              let on = goes_on p takes.step out ends takes.reads
              (λ steps. Talk old new before after (messages_of steps) ending)
              (step_then takes.step ending takes.talks) in
              all_of on.0.steps ending (by_stop left left_after on.0.steps ending stop (ends_now on.0)) on.1
        ]

    -- the run ends before the next line, or at it
    pub sends_stopped : (ending : Ending)
        → StopsNext (Talk between new mid after) block next left_now left_after reading reading_after ending
        → SendsAll (Talk old new before after) left left_after ending
    sends_stopped ending (inl none) =
        all_of p.steps ending (by_next left left_now left_after block reading reading_after p ends ending none.0)
        (none_then ending none.1)
    sends_stopped ending (inr line) = at_line ending line.0 line.1

    -- no line is left; what a person is told then is no answer
    module _ (last : SinkSeen) (ended : Ends left_now left_after reading reading_after) (same : next ≡ block)
        (talks : Talk between new mid after [] Done) (taken : last.taken ≡ after.taken) (count : last.faults ≡ after.faults) where
      closed : (ending : Ending) → IsQuiet ending → Talk old new before last (messages_of p.steps) ending
      closed ending quiet =
          subst (λ messages. Talk old new before last messages ending) (append-nil (messages_of p.steps))
          (talk_then link_faults marks traffic faults dials given_back old new new before after last
          (messages_of p.steps) [] ending (none_then Done talks)
          (talk_none link_faults marks traffic faults dials given_back ending new new after last quiet refl taken count))

      over : (ending : Ending) → IsQuiet ending → Has left left_after (λ input rest. HasRead ending input rest p.steps)
          → SendsAll (Talk old new before last) left left_after ending
      over ending quiet has =
          record { input = has.0; rest = has.1; steps = p.steps; had = has.2; read = has.3; talks = closed ending quiet }

      pub sends_over : (result : Result (Unit {0}) Ending) → EndsScript next reading_after.number result
          → SendsAll (Talk old new before last) left left_after (ending_by result)
      sends_over (Ok value) outside = over Done tt (ends_done p ended ends (ap is_in_block (sym same) ∙ outside))
      sends_over (Err (Line number)) inside =
          over (Line number) tt (ends_in_block p ended ends (ap is_in_block (sym same) ∙ inside.0) number inside.1)
      sends_over (Err ending) inside = absurd inside
