-- What is sent and written, part by part.
use Rattle.std.proofs.Common.{◌≡◌, inl, inr, ℕ, List, [], ◌∷◌, ◌++◌, take, map, Option, None, Result, Ok, Err, refl}
use Rattle.std.proofs.Common.{sym, ap, ◌∙◌, subst, append_assoc, append-nil}
use Rattle.std.specs.Option.{option_to_list}
use Rattle.desk_ports.specs.Faults.{next_count}
use Rattle.desk_ports.specs.Content.{Appended}
use Rattle.desk_ports.proofs.Appends.{Appended-none, Appended-then}
use Rattle.link_ports.specs.Traffic.{Traffic}
use Rattle.link_ports.specs.LinkMarks.{LinkMarks}
use Rattle.text_lines.specs.LineReader.{LineReading}
use Rattle.line_script.specs.declared.steps.Step.{Step}
use Rattle.script_replies.specs.NextLine.{ReadsNext}
use Rattle.wire_fields.specs.declared.messages.Message.{Message}
use Rattle.admin_client.specs.Sending.{State}
use Rattle.admin_client.specs.declared.refusals.AdminRefusal.{AdminRefusal}
use Rattle.admin_client.specs.declared.refusals.AdminRefusal.TheVariants as refusal
use Rattle.run_endings.specs.Outside.{SinkSeen}
use Rattle.run_endings.specs.Saying.{Said, silence, IsCut, AreWritten, WritesAnswers}
use Rattle.run_endings.specs.declared.endings.Ending.{Ending}
use Rattle.run_endings.specs.declared.endings.Ending.TheVariants.{Done, Memory, Words, Line, Source, Sink, Disk, Net}
use Rattle.run_endings.specs.declared.endings.Ending.TheVariants.{Damaged, Reply, TooLong}
use Rattle.run_endings.proofs.Trying.{IsCut-take}
use Rattle.admin_runs.specs.StepMessage.{message_for}
use Rattle.admin_runs.specs.ReplyLine.{replies_text}
use Rattle.admin_runs.specs.AdminRun.{Exchange, text_of, messages_of, ending_of, AreInTurn, SendsOnce, AreExchanged}
use Rattle.admin_runs.specs.AdminRun.{EndsSending, IsUnanswered}
use Rattle.admin_runs.specs.parts.Talk.{Talks, WritesText, IsStop, SendsMessage}
use Rattle.admin_runs.proofs.Turns.{texts_then, mapped_then, in_turn_none, in_turn_one, in_turn_then}

-- ---- what is written

-- more bytes before those that are cut
cut_behind : (front written bytes : List ℕ) → IsCut written bytes → IsCut (front ++ written) (front ++ bytes)
cut_behind front written bytes cut =
    (cut.0, cut.1, ap (λ bytes. front ++ bytes) cut.2 ∙ sym (append_assoc front written (cut.0 ∷ cut.1)))

are_written_then : (ending : Ending) (faults between after : ℕ) (front : List ℕ) (said : Said) → between ≡ faults
    → AreWritten ending between after said
    → AreWritten ending faults after (record { due = front ++ said.due; written = front ++ said.written })
are_written_then Memory faults between after front said same (inl all) =
    inl (all.0 ∙ same, ap (λ bytes. front ++ bytes) all.1)
are_written_then Memory faults between after front said same (inr part) =
    inr (part.0 ∙ ap next_count same, cut_behind front said.written said.due part.1)
are_written_then Sink faults between after front said same part =
    (part.0 ∙ ap next_count same, cut_behind front said.written said.due part.1)
are_written_then ending faults between after front said same all = (all.0 ∙ same, ap (λ bytes. front ++ bytes) all.1)

writes_then : (ending : Ending) (first second : Said) (before between after : SinkSeen)
    → WritesAnswers Done first before between
    → WritesAnswers ending second between after
    → WritesAnswers ending (record { due = first.due ++ second.due; written = first.due ++ second.written }) before after
writes_then ending first second before between after one two =
    record {
      taken =
          subst (λ bytes. Appended before.taken (bytes ++ second.written) after.taken) one.are_written.1
          (Appended-then before.taken between.taken after.taken first.written second.written one.taken two.taken);
      are_written = are_written_then ending before.faults between.faults after.faults first.due second one.are_written.0 two.are_written;
    }

-- ---- endings without a further message

-- a run may end so without one
abbrev pub IsQuiet : Ending → Type 0
IsQuiet Done = Unit {0}
IsQuiet Memory = Unit {0}
IsQuiet (Line number) = Unit {0}
IsQuiet Source = Unit {0}
IsQuiet ending = ⊥

written_none : (ending : Ending) (faults after : ℕ) → IsQuiet ending → after ≡ faults
    → AreWritten ending faults after silence
written_none Memory faults after quiet same = inl (same, refl)
written_none Done faults after quiet same = (same, refl)
written_none (Line number) faults after quiet same = (same, refl)
written_none Source faults after quiet same = (same, refl)
written_none ending faults after quiet same = absurd quiet

module _ {N L : Type 0} (link_faults : L → ℕ) (marks : L → LinkMarks) (traffic : L → Option Traffic)
    (faults dials : N → ℕ) (given_back : N → Option (List L)) where
  abbrev Are : List Exchange → State N L → State N L → Type 0
  Are exchanges old new = AreExchanged link_faults marks traffic faults dials given_back exchanges old new

  abbrev Ends : Ending → List Message → State N L → State N L → Type 0
  Ends ending last old new = EndsSending link_faults marks traffic faults dials given_back ending last old new

  abbrev Talk : State N L → State N L → SinkSeen → SinkSeen → List Message → Ending → Type 0
  Talk old new before after messages ending =
      Talks link_faults marks traffic faults dials given_back old new before after messages ending

  abbrev Once : Message → Result (List Message) AdminRefusal → State N L → State N L → Type 0
  Once message result old new = SendsOnce link_faults marks traffic faults dials given_back message result old new

  exchanged_then : (first second : List Exchange) (old between new : State N L) → Are first old between
      → Are second between new
      → Are (first ++ second) old new
  exchanged_then [] second old between new one two = subst (λ (state : State N L). Are second state new) one two
  exchanged_then (exchange ∷ first) second old between new one two =
      (one.0, one.1, exchanged_then first second one.0 between new one.2 two)

  ends_none : (ending : Ending) (old new : State N L) → IsQuiet ending → new ≡ old → Ends ending [] old new
  ends_none Done old new quiet same = (refl, same)
  ends_none Memory old new quiet same = inr (inr (refl, same))
  ends_none (Line number) old new quiet same = (refl, same)
  ends_none Source old new quiet same = (refl, same)
  ends_none ending old new quiet same = absurd quiet

  -- nothing was sent or written
  pub talk_none : (ending : Ending) (old new : State N L) (before after : SinkSeen) → IsQuiet ending → new ≡ old
      → after.taken ≡ before.taken → after.faults ≡ before.faults → Talk old new before after [] ending
  talk_none ending old new before after quiet same taken count =
      record {
        said = silence;
        answered = [];
        last = [];
        between = old;
        sent = refl;
        exchanged = refl;
        ends = ends_none ending old new quiet same;
        due = refl;
        in_turn = in_turn_none [];
        writes = record {
          taken = subst (Appended before.taken []) (sym taken) (Appended-none before.taken);
          are_written = written_none ending before.faults after.faults quiet count;
        };
      }

  -- no further line was read
  pub talk_unread : (left left_after : Option (List ℕ)) (reading reading_after : LineReading) (ending : Ending)
      (state : State N L)
      (before after : SinkSeen) → ReadsNext left left_after reading reading_after (Err ending)
      → after.taken ≡ before.taken
      → after.faults ≡ before.faults → Talk state state before after [] ending
  talk_unread left left_after reading reading_after ending state before after next taken count =
      talk_none ending state state before after (quiet_next ending next) refl taken count
    where
      quiet_next : (ending : Ending) → ReadsNext left left_after reading reading_after (Err ending) → IsQuiet ending
      quiet_next Memory next = tt
      quiet_next (Line number) next = tt
      quiet_next Source next = tt
      quiet_next ending next = absurd next

  -- one part behind another
  pub talk_then : (old between new : State N L) (before mid after : SinkSeen) (first second : List Message)
      (ending : Ending)
      → Talk old between before mid first Done → Talk between new mid after second ending
      → Talk old new before after (first ++ second) ending
  talk_then old between new before mid after first second ending one two =
      let all : first ≡ map (λ (exchange : Exchange). exchange.message) one.answered =
      one.sent ∙ (ap (λ last. map (λ (exchange : Exchange). exchange.message) one.answered ++ last) one.ends.0
      ∙ append-nil (map (λ (exchange : Exchange). exchange.message) one.answered)) in
      record {
        said = record { due = one.said.due ++ two.said.due; written = one.said.due ++ two.said.written };
        answered = one.answered ++ two.answered;
        last = two.last;
        between = two.between;
        sent =
            (λ i. all i ++ two.sent i)
            ∙ (sym (append_assoc (map (λ (exchange : Exchange). exchange.message) one.answered)
            (map (λ (exchange : Exchange). exchange.message) two.answered) two.last)
            ∙ ap (λ messages. messages ++ two.last) (sym (mapped_then one.answered two.answered)));
        exchanged =
            exchanged_then one.answered two.answered old between two.between
            (subst (λ (state : State N L). Are one.answered old state) (sym one.ends.1) one.exchanged) two.exchanged;
        ends = two.ends;
        due = (λ i. one.due i ++ two.due i) ∙ sym (texts_then one.answered two.answered);
        in_turn =
            subst (λ due. AreInTurn (one.answered ++ two.answered) (due ++ two.said.written)) (sym one.due)
            (in_turn_then one.answered two.answered two.said.written two.in_turn);
        writes = writes_then ending one.said two.said before mid after one.writes two.writes;
      }

  -- ---- one message

  -- it was answered, and its answer was to be written
  pub talk_answered : (message : Message) (replies : List Message) (old new : State N L) (before after : SinkSeen)
      (result : Result (Unit {0}) Ending) → Once message (Ok replies) old new
      → WritesText (replies_text message replies) before after result
      → SendsMessage (Talk old new before after) message result
  talk_answered message replies old new before after (Ok value) sent writes =
      let exchange : Exchange = record { message = message; replies = replies } in
      record {
        said = record { due = text_of exchange ++ []; written = text_of exchange ++ [] };
        answered = exchange ∷ [];
        last = [];
        between = new;
        sent = refl;
        exchanged = (new, sent, refl);
        ends = (refl, refl);
        due = refl;
        in_turn = in_turn_one exchange (text_of exchange ++ []);
        writes = record {
          taken = subst (λ text. Appended before.taken text after.taken) (sym (append-nil (text_of exchange))) writes.0;
          are_written = (writes.1, refl);
        };
      }
  talk_answered message replies old new before after (Err Sink) sent writes =
      let exchange : Exchange = record { message = message; replies = replies } in
      let part = take writes.0.0 (text_of exchange) in (
        tt,
        record {
          said = record { due = text_of exchange ++ []; written = part };
          answered = exchange ∷ [];
          last = [];
          between = new;
          sent = refl;
          exchanged = (new, sent, refl);
          ends = (refl, refl);
          due = refl;
          in_turn = in_turn_one exchange part;
          writes = record {
            taken = writes.0.2;
            are_written = (
              writes.1,
              subst (λ text. IsCut part text) (sym (append-nil (text_of exchange)))
                  (IsCut-take writes.0.0 (text_of exchange) writes.0.1),
            );
          };
        },
      )
  talk_answered message replies old new before after (Err Memory) sent writes = (
    tt,
    record {
      said = silence;
      answered = [];
      last = message ∷ [];
      between = old;
      sent = refl;
      exchanged = refl;
      ends = inr (inl (record { message = message; replies = replies; last_is = refl; sent = sent }));
      due = refl;
      in_turn = in_turn_none [];
      writes = record {
        taken = subst (Appended before.taken []) (sym writes.0) (Appended-none before.taken);
        are_written = inl (writes.1, refl);
      };
    },
  )
  talk_answered message replies old new before after (Err Done) sent writes = absurd writes
  talk_answered message replies old new before after (Err Words) sent writes = absurd writes
  talk_answered message replies old new before after (Err (Line number)) sent writes = absurd writes
  talk_answered message replies old new before after (Err Source) sent writes = absurd writes
  talk_answered message replies old new before after (Err Disk) sent writes = absurd writes
  talk_answered message replies old new before after (Err Net) sent writes = absurd writes
  talk_answered message replies old new before after (Err (Damaged file line)) sent writes = absurd writes
  talk_answered message replies old new before after (Err Reply) sent writes = absurd writes
  talk_answered message replies old new before after (Err (TooLong size)) sent writes = absurd writes

  -- it had no answer
  module _ (message : Message) (old new : State N L) (before after : SinkSeen) (taken : after.taken ≡ before.taken)
      (count : after.faults ≡ before.faults) where
    stopped : (ending : Ending) → Ends ending (message ∷ []) old new
        → AreWritten ending before.faults after.faults silence
        → Talk old new before after (message ∷ []) ending
    stopped ending ends written =
        record {
          said = silence;
          answered = [];
          last = message ∷ [];
          between = old;
          sent = refl;
          exchanged = refl;
          ends = ends;
          due = refl;
          in_turn = in_turn_none [];
          writes = record {
            taken = subst (Appended before.taken []) (sym taken) (Appended-none before.taken);
            are_written = written;
          };
        }

    unanswered : (why : AdminRefusal) → Once message (Err why) old new
        → IsUnanswered link_faults marks traffic faults dials given_back (ending_of why) (message ∷ []) old new
    unanswered why sent = record { message = message; why = why; last_is = refl; sent = sent; ending_is = refl }

    by_refusal : (why : AdminRefusal) → Once message (Err why) old new
        → IsStop (ending_of why) × Talk old new before after (message ∷ []) (ending_of why)
    by_refusal refusal.Unavailable sent = (tt, stopped Net (unanswered refusal.Unavailable sent) (count, refl))
    by_refusal (refusal.BadReply fault) sent =
        (tt, stopped Reply (unanswered (refusal.BadReply fault) sent) (count, refl))
    by_refusal (refusal.TooLong size) sent =
        (tt, stopped (TooLong size) (unanswered (refusal.TooLong size) sent) (count, refl))
    by_refusal (refusal.Memory error) sent =
        (tt, stopped Memory (inl (unanswered (refusal.Memory error) sent)) (inl (count, refl)))

    pub talk_unanswered : (why : AdminRefusal) (ending : Ending) → ending ≡ ending_of why
        → Once message (Err why) old new
        → SendsMessage (Talk old new before after) message (Err ending)
    talk_unanswered why ending is sent =
        subst (λ ending. IsStop ending × Talk old new before after (message ∷ []) ending) (sym is) (by_refusal why sent)

-- ---- one step

-- it has no message
pub step_silent : (Talk : List Message → Ending → Type 0) (step : Step) (found : Option Message)
    → found ≡ message_for step → found ≡ None
    → Talk [] Done → Talk (messages_of (step ∷ [])) Done
step_silent Talk step found is none talks =
    subst (λ messages. Talk messages Done) (ap (λ found. option_to_list found ++ []) (sym none ∙ is)) talks
