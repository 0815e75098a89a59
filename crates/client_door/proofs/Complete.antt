-- A connection around which nothing fails is answered whole.
use Rattle.std.proofs.Common.{◌≡◌, ◌∙◌, ◌≤◌, ◌⊎◌, inl, inr, ℕ, true, false, List, [], ◌∷◌, ◌++◌, length, Option, Some, None, Ok, Err, refl, sym, ap}
use Rattle.std.proofs.Common.{subst, arith}
use Rattle.std.proofs.lemmas.List.{append_cancel_left}
use Rattle.desk_ports.specs.Faults.{next_count, last_count}
use Rattle.link_ports.specs.Traffic.{Traffic}
use Rattle.cynara_keys.specs.Key.{Question}
use Rattle.live_roll.specs.declared.answers.Left.{Left}
use Rattle.live_roll.specs.declared.answers.Left.TheVariants.{Still, Hung as LeftHung, Stopped as LeftStopped}
use Rattle.wire_reading.specs.Stream.{Hears}
use Rattle.wire_fields.specs.declared.messages.Framed.{Framed}
use Rattle.wire_fields.specs.declared.operations.Heard.TheVariants.{AtClient}
use Rattle.wire_reading.proofs.Hearings.{heard_once}
use Rattle.server_hall.specs.Call.{AskResult, AskMade, LeaveMade}
use Rattle.server_hall.specs.Tally.{Tally, after_ask, after_leave, stops_after_ask, losses_after_ask}
use Rattle.server_hall.specs.declared.refusals.AskRefusal.TheVariants.{Put, Gone, Stopped as AskStopped, Lost, Withdrawn}
use Rattle.door_frames.proofs.WholeFrames.{nothing_open, right_whole, carried_so}
use Rattle.door_frames.specs.Carried.{Carried}
use Rattle.door_frames.specs.declared.endings.Ended.{Ended}
use Rattle.door_frames.specs.declared.endings.Ended.TheVariants.{Closed, Cut, Hung, LinkFault, BadFrame, Stopped, Memory, Strayed}
use Rattle.door_frames.proofs.Carrying.{carried_more}
use Rattle.client_door.specs.Asking.{Strays}
use Rattle.client_door.specs.Answered.{Answered, frames_of, replies_bytes, calls_for, after_asks}
use Rattle.client_door.specs.Serving.{ClientSide, Serves, Served, Cause, ended_for, EndsAnswered, EndsAsking, IsFoundSo, CountsFaults}
use Rattle.client_door.specs.Serving.{ended_by_leaving, IsUnbegun}
use Rattle.client_door.specs.Serving.Cause.{Came, Withdrew}
use Rattle.client_door.specs.Complete.{Stays, IsQuiet, Gives, GivesItsQuestion, Receives, AnswersEach}
use Rattle.client_door.proofs.Calls.{after_asks_more}

-- ---- counts

-- a count that rises does not stay
moves : (before between after : ℕ) → Stays before after → before ≤ between → next_count between ≤ after → ⊥
moves before between after (below, same) least rises = omega (arith, below, same, least, rises)

-- a count that is not past the last value does not fall
abbrev Kept : ℕ → ℕ → Type 0
Kept before after = (before ≤ after) × (after ≤ last_count)

stops_kept : (result : AskResult) (stops : ℕ) → stops ≤ last_count → Kept stops (stops_after_ask result stops)
stops_kept (Ok answered) stops fits = (omega arith, fits)
stops_kept (Err (Put refusal)) stops fits = (omega arith, fits)
stops_kept (Err (Gone number)) stops fits = (omega arith, fits)
stops_kept (Err AskStopped) stops fits = (omega (arith, fits), omega (arith, fits))
stops_kept (Err (Lost number)) stops fits = (omega arith, fits)
stops_kept (Err (Withdrawn number)) stops fits = (omega arith, fits)

losses_kept : (result : AskResult) (losses : ℕ) → losses ≤ last_count → Kept losses (losses_after_ask result losses)
losses_kept (Ok answered) losses fits = (omega arith, fits)
losses_kept (Err (Put refusal)) losses fits = (omega arith, fits)
losses_kept (Err (Gone number)) losses fits = (omega arith, fits)
losses_kept (Err AskStopped) losses fits = (omega arith, fits)
losses_kept (Err (Lost number)) losses fits = (omega (arith, fits), omega (arith, fits))
losses_kept (Err (Withdrawn number)) losses fits = (omega arith, fits)

asks_stops : (calls : List AskMade) (tally : Tally) → tally.stops ≤ last_count → Kept tally.stops (after_asks calls tally).stops
asks_stops [] tally fits = (omega arith, fits)
asks_stops (call ∷ calls) tally fits =
    let first : Kept tally.stops (after_ask call tally).stops = stops_kept call.result tally.stops fits in
    let then : Kept (after_ask call tally).stops (after_asks calls (after_ask call tally)).stops =
    asks_stops calls (after_ask call tally) first.1 in
    (omega (arith, first.0, then.0), then.1)

asks_losses : (calls : List AskMade) (tally : Tally) → tally.losses ≤ last_count → Kept tally.losses (after_asks calls tally).losses
asks_losses [] tally fits = (omega arith, fits)
asks_losses (call ∷ calls) tally fits =
    let first : Kept tally.losses (after_ask call tally).losses = losses_kept call.result tally.losses fits in
    let then : Kept (after_ask call tally).losses (after_asks calls (after_ask call tally)).losses =
    asks_losses calls (after_ask call tally) first.1 in
    (omega (arith, first.0, then.0), then.1)

asks_hangs : (calls : List AskMade) (tally : Tally) → (after_asks calls tally).hangs ≡ tally.hangs
asks_hangs [] tally = refl
asks_hangs (call ∷ calls) tally = asks_hangs calls (after_ask call tally)

-- ---- how the answering ends

-- the last call was one of `ask`
last_called : (front : List AskMade) (call : AskMade) (tally : Tally) → (after_asks (front ++ call ∷ []) tally).last_ask ≡ Some call
last_called front call tally = ap (λ (t : Tally). t.last_ask) (after_asks_more front (call ∷ []) tally)

lost_none : (call : AskMade) (stops losses : ℕ) (number : ℕ) → call.result ≡ Err (Lost number)
    → losses_after_ask call.result losses ≡ next_count losses
lost_none call stops losses number is = ap (λ (result : AskResult). losses_after_ask result losses) is

found_stop : (call : AskMade) (stops : ℕ) → call.result ≡ Err AskStopped → stops_after_ask call.result stops ≡ next_count stops
found_stop call stops is = ap (λ (result : AskResult). stops_after_ask result stops) is

-- another question was found than the one that was put
strays_elsewhere : (question : Question) (number : ℕ) (found : Question) (result : AskResult) → Strays question number (Some found) result
    → Gives question result → ⊥
strays_elsewhere question number found (Ok answered) (same, is, other) gives = other (is ∙ gives)
strays_elsewhere question number found (Err refusal) wrong gives = absurd wrong

-- Where nothing was counted, the answering ends between frames with all of them answered, or for want of memory.
talked : (first last : ClientSide) (cause : Cause) (received : List ℕ) (answered : List Answered) (asked : List AskMade)
    (bytes : List ℕ) (frames : List Framed) (faults stops losses : ℕ)
    → EndsAnswered cause received (frames_of answered) → EndsAsking cause asked → CountsFaults cause first.faults last.faults
    → IsFoundSo cause last.marks → last.tally ≡ after_asks (calls_for answered ++ asked) first.tally
    → received ≡ bytes → Hears AtClient bytes frames []
    → Stays faults last.faults → first.faults ≡ faults
    → Stays stops last.tally.stops → first.tally.stops ≡ stops
    → Stays losses last.tally.losses → first.tally.losses ≡ losses
    → last.marks.is_down ≡ false
    → GivesItsQuestion last.tally.last_ask
    → ((ended_for cause ≡ Closed) × (frames_of answered ≡ frames)) ⊎ (ended_for cause ≡ Memory)
talked first last (Came Closed) received answered asked bytes frames faults stops losses all none count found tally is heard still_f is_f
    still_s is_s still_l is_l up gives =
    inl (
      refl,
      (heard_once AtClient bytes (frames_of answered) frames [] []
          (subst (λ list. Hears AtClient list (frames_of answered) []) is all) (nothing_open AtClient) heard
          (nothing_open AtClient)).0,
    )
talked first last (Came (Cut count)) received answered asked bytes frames faults stops losses (rest, some, unfinished, length_is, many)
    none counts found tally is heard still_f is_f still_s is_s still_l is_l up gives =
    let same = heard_once AtClient bytes (frames_of answered) frames rest []
    (subst (λ list. Hears AtClient list (frames_of answered) rest) is some) unfinished heard (nothing_open AtClient) in
    absurd (omega (arith, sym (ap length same.1) ∙ length_is, many))
talked first last (Came (BadFrame refusal)) received answered asked bytes frames faults stops losses (rest, some, wrong, of_bytes)
    none counts found tally is heard still_f is_f still_s is_s still_l is_l up gives =
    absurd (right_whole AtClient bytes frames (frames_of answered) rest refusal heard
    (subst (λ list. Hears AtClient list (frames_of answered) rest) is some) wrong of_bytes)
talked first last (Came LinkFault) received answered asked bytes frames faults stops losses more few rose found tally is heard still_f is_f
    still_s is_s still_l is_l up gives =
    absurd (moves faults first.faults last.faults still_f (omega (arith, is_f)) (omega (arith, rose)))
talked first last (Came Stopped) received answered asked bytes frames faults stops losses more (call, only, stop) counts found tally is
    heard still_f is_f still_s is_s still_l is_l up gives =
    let before : Tally = after_asks (calls_for answered) first.tally in
    let counted : last.tally ≡ after_ask call before = tally
    ∙ (ap (λ (list : List AskMade). after_asks (calls_for answered ++ list) first.tally) only
    ∙ after_asks_more (calls_for answered) (call ∷ []) first.tally) in
    let rose : last.tally.stops ≡ next_count before.stops = ap (λ (x : Tally). x.stops) counted ∙ found_stop call before.stops stop in
    let kept : Kept first.tally.stops before.stops = asks_stops (calls_for answered) first.tally (omega (arith, is_s, still_s.0)) in
    absurd (moves stops before.stops last.tally.stops still_s (omega (arith, is_s, kept.0)) (omega (arith, rose)))
talked first last (Came (Strayed number None)) received answered asked bytes frames faults stops losses more (call, only, lost) counts found
    tally is heard still_f is_f still_s is_s still_l is_l up gives =
    let before : Tally = after_asks (calls_for answered) first.tally in
    let counted : last.tally ≡ after_ask call before = tally
    ∙ (ap (λ (list : List AskMade). after_asks (calls_for answered ++ list) first.tally) only
    ∙ after_asks_more (calls_for answered) (call ∷ []) first.tally) in
    let rose : last.tally.losses ≡ next_count before.losses =
    ap (λ (x : Tally). x.losses) counted ∙ lost_none call before.stops before.losses number lost in
    let kept : Kept first.tally.losses before.losses = asks_losses (calls_for answered) first.tally (omega (arith, is_l, still_l.0)) in
    absurd (moves losses before.losses last.tally.losses still_l (omega (arith, is_l, kept.0)) (omega (arith, rose)))
talked first last (Came (Strayed number (Some found))) received answered asked bytes frames faults stops losses more (call, only, strays)
    counts at tally is heard still_f is_f still_s is_s still_l is_l up gives =
    let called : last.tally.last_ask ≡ Some call = ap (λ (x : Tally). x.last_ask) tally
    ∙ (ap (λ (list : List AskMade). (after_asks (calls_for answered ++ list) first.tally).last_ask) only
    ∙ last_called (calls_for answered) call first.tally) in
    absurd (strays_elsewhere call.question number found call.result strays
    (subst (λ (made : Option AskMade). GivesItsQuestion made) called gives))
talked first last (Came (Hung entered now)) received answered asked bytes frames faults stops losses more wrong counts found tally is heard
    still_f is_f still_s is_s still_l is_l up gives = absurd wrong
talked first last (Came Memory) received answered asked bytes frames faults stops losses more few counts found tally is heard still_f is_f
    still_s is_s still_l is_l up gives = inr refl
talked first last (Withdrew number) received answered asked bytes frames faults stops losses more call counts down tally is heard still_f
    is_f still_s is_s still_l is_l up gives = absurd (apart (sym down ∙ up))
  where
    apart : true ≡ false → ⊥
    apart is = cc

-- ---- the whole connection

ends_so : (result inner : Ended) (start now : ClientSide) (frames : List Framed) (answered : List Answered) → result ≡ inner
    → (frames_of answered ≡ frames → AnswersEach frames start now)
    → ((inner ≡ Closed) × (frames_of answered ≡ frames)) ⊎ (inner ≡ Memory)
    → ((result ≡ Closed) × AnswersEach frames start now) ⊎ (result ≡ Memory)
ends_so result inner start now frames answered is each (inl (closed, all)) = inl (is ∙ closed, each all)
ends_so result inner start now frames answered is each (inr memory) = inr (is ∙ memory)

-- the call by which it left
abbrev leaves : {result : Ended} {start now : ClientSide} → Served result start now → Left → LeaveMade
leaves s left = record { seat = s.last.seat.number; entered = s.entered; left = left }

left_so : (result : Ended) (start now : ClientSide) (frames : List Framed) (s : Served result start now) (left : Left) → s.left ≡ left
    → IsQuiet start now → GivesItsQuestion now.tally.last_ask → Receives frames start now
    → ((result ≡ Closed) × AnswersEach frames start now) ⊎ (result ≡ Memory)
left_so result start now frames s (LeftHung at) is quiet gives r =
    let tally : now.tally ≡ after_leave (leaves s (LeftHung at)) s.last.tally = ap (λ (x : ClientSide). x.tally) s.leaving
    ∙ ap (λ (left : Left). after_leave (leaves s left) s.last.tally) is in
    let rose : now.tally.hangs ≡ next_count s.last.tally.hangs = ap (λ (x : Tally). x.hangs) tally in
    let entered : s.first.tally.hangs ≡ start.tally.hangs = ap (λ (x : Tally). x.hangs) s.entry in
    let talked_on : s.last.tally.hangs ≡ s.first.tally.hangs = ap (λ (x : Tally). x.hangs) s.talks.tally
    ∙ asks_hangs (calls_for s.talks.answered ++ s.talks.last) s.first.tally in
    absurd (moves start.tally.hangs s.last.tally.hangs now.tally.hangs quiet.hangs (omega (arith, entered, talked_on))
    (omega (arith, rose)))
left_so result start now frames s (LeftStopped at) is quiet gives r =
    let tally : now.tally ≡ after_leave (leaves s (LeftStopped at)) s.last.tally = ap (λ (x : ClientSide). x.tally) s.leaving
    ∙ ap (λ (left : Left). after_leave (leaves s left) s.last.tally) is in
    let rose : now.tally.stops ≡ next_count s.last.tally.stops = ap (λ (x : Tally). x.stops) tally in
    let entered : s.first.tally.stops ≡ start.tally.stops = ap (λ (x : Tally). x.stops) s.entry in
    let talked_on : s.last.tally.stops ≡ (after_asks (calls_for s.talks.answered ++ s.talks.last) s.first.tally).stops =
    ap (λ (x : Tally). x.stops) s.talks.tally in
    let kept = asks_stops (calls_for s.talks.answered ++ s.talks.last) s.first.tally (omega (arith, entered, quiet.stops.0)) in
    absurd (moves start.tally.stops s.last.tally.stops now.tally.stops quiet.stops (omega (arith, entered, talked_on, kept.0))
    (omega (arith, rose)))
left_so result start now frames s Still is quiet gives r =
    let leaving : now ≡ record s.last { tally = after_leave (leaves s Still) s.last.tally } = s.leaving
    ∙ ap (λ (left : Left). record s.last { tally = after_leave (leaves s left) s.last.tally }) is in
    let carried : Carried start.traffic now.traffic s.talks.received (replies_bytes s.talks.answered) =
    subst (λ (x : ClientSide). Carried start.traffic x.traffic s.talks.received (replies_bytes s.talks.answered)) (sym leaving)
    (carried_more [] s.talks.received [] (replies_bytes s.talks.answered) start.traffic s.first.traffic s.last.traffic s.opened
    s.talks.carried) in
    let at = carried_so start.traffic now.traffic s.talks.received (replies_bytes s.talks.answered) r.before r.after carried r.told
    r.told_now in
    let bytes : s.talks.received ≡ r.bytes =
    append_cancel_left r.before.received s.talks.received r.bytes (sym (ap (λ (x : Traffic). x.received) at) ∙ r.received) in
    ends_so result (ended_for s.talks.cause) start now frames s.talks.answered
    (s.result_is ∙ (ap (λ (left : Left). ended_by_leaving s.entered left s.inner) is ∙ s.talks.ended_is))
    (λ all. record {
      answered = s.talks.answered;
      right = s.talks.right;
      frames_are = all;
      before = r.before;
      after = r.after;
      told = r.told;
      told_now = r.told_now;
      sent = ap (λ (x : Traffic). x.sent) at;
    })
    (talked s.first s.last s.talks.cause s.talks.received s.talks.answered s.talks.last r.bytes frames start.faults start.tally.stops
    start.tally.losses s.talks.bytes s.talks.asking s.talks.faults s.talks.at_end s.talks.tally bytes r.heard
    (subst (λ (x : ClientSide). Stays start.faults x.faults) leaving quiet.faults) s.faults
    (subst (λ (x : ClientSide). Stays start.tally.stops x.tally.stops) leaving quiet.stops) (ap (λ (x : Tally). x.stops) s.entry)
    (subst (λ (x : ClientSide). Stays start.tally.losses x.tally.losses) leaving quiet.losses) (ap (λ (x : Tally). x.losses) s.entry)
    (subst (λ (x : ClientSide). x.marks.is_down ≡ false) leaving quiet.up)
    (subst (λ (x : ClientSide). GivesItsQuestion x.tally.last_ask) leaving gives))

-- no hang end was to be had
unbegun_so : (result : Ended) (start now : ClientSide) → IsUnbegun result start.faults now.faults → IsQuiet start now → result ≡ Memory
unbegun_so LinkFault start now rose quiet =
    absurd (moves start.faults start.faults now.faults quiet.faults (omega arith) (omega (arith, rose)))
unbegun_so Memory start now still quiet = refl
unbegun_so Closed start now wrong quiet = absurd wrong
unbegun_so (Cut count) start now wrong quiet = absurd wrong
unbegun_so (Hung entered at) start now wrong quiet = absurd wrong
unbegun_so (BadFrame refusal) start now wrong quiet = absurd wrong
unbegun_so Stopped start now wrong quiet = absurd wrong
unbegun_so (Strayed number found) start now wrong quiet = absurd wrong

pub complete : (result : Ended) (start now : ClientSide) (frames : List Framed) → Serves result start now → IsQuiet start now
    → GivesItsQuestion now.tally.last_ask → Receives frames start now
    → ((result ≡ Closed) × AnswersEach frames start now) ⊎ (result ≡ Memory)
complete result start now frames serves quiet gives r =
    elim serves [
      | Serves.unbegun is tally marks idle ↦ inr (unbegun_so result start now is quiet)
      | Serves.refused refusal is tally marks faults idle ↦
          let rose : now.tally.stops ≡ next_count start.tally.stops = ap (λ (x : Tally). x.stops) tally in
          absurd (moves start.tally.stops start.tally.stops now.tally.stops quiet.stops (omega arith) (omega (arith, rose)))
      | Serves.served s ↦ left_so result start now frames s s.left refl quiet gives r
    ]
