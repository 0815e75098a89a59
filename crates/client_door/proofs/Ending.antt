-- How the answering of checks ends.
use Rattle.std.proofs.Common.{◌≡◌, ◌∙◌, ◌≤◌, ℕ, List, [], ◌∷◌, ◌++◌, map, length, Option, Some, refl, sym, ap, subst, append_assoc}
use Rattle.std.proofs.Common.{append-nil, arith}
use Rattle.std.proofs.lemmas.List.{map-append}
use Rattle.std.specs.List.{AllByRecursion}
use Rattle.desk_ports.specs.Faults.{next_count}
use Rattle.link_ports.specs.Traffic.{Traffic}
use Rattle.link_ports.specs.Told.{ChangesTold, KeepsTold}
use Rattle.link_ports.specs.LinkMarks.{LinkMarks}
use Rattle.cynara_keys.specs.declared.results.Kind.{Kind}
use Rattle.desk_state.specs.DeskState.{DeskState}
use Rattle.live_desk.specs.History.{GoesOn, Rises, last_commit}
use Rattle.live_desk.specs.Seat.{SeatState}
use Rattle.desk_world.specs.declared.links.Reading.{Reading}
use Rattle.desk_world.specs.declared.links.Reading.TheVariants.{Ready as IsReady, Due as IsDue}
use Rattle.desk_world.specs.declared.replies.Reply.{Reply}
use Rattle.wire_reading.specs.Frame.{spelling, with_sequence}
use Rattle.wire_reading.specs.Stream.{Feeding, Hears, BeginsWrong, IsOpen}
use Rattle.wire_fields.specs.declared.messages.Framed.{Framed}
use Rattle.wire_fields.specs.declared.operations.Heard.{Heard}
use Rattle.wire_fields.specs.declared.operations.Heard.TheVariants.{AtClient}
use Rattle.server_hall.specs.Call.{AskMade, AskResult}
use Rattle.server_hall.specs.Tally.{Tally}
use Rattle.server_hall.specs.Told.{AppendsCalls}
use Rattle.server_hall.specs.declared.calls.HallCall.{HallCall}
use Rattle.server_hall.specs.declared.calls.HallCall.TheVariants.{Ask}
use Rattle.door_frames.specs.Carried.{Carried}
use Rattle.door_frames.specs.Hearing.{HearsMore}
use Rattle.door_frames.specs.Ending.{EndsReading}
use Rattle.door_frames.specs.declared.endings.Ended.{Ended}
use Rattle.door_frames.specs.declared.endings.Ended.TheVariants.{Closed, Cut, Hung, LinkFault, BadFrame, Stopped, Memory, Strayed}
use Rattle.door_frames.proofs.Carrying.{carried_more, carried_nothing, carried_same}
use Rattle.client_door.specs.Check.{framed_of, message_of, reply_of}
use Rattle.client_door.specs.Asking.{AsksOnce, AsksInVain, Asked, IsInVain, LooksAtLink, ask_made}
use Rattle.client_door.specs.Reading.{cause_at, reading}
use Rattle.client_door.specs.Answered.{Answered, Answers, calls_for, after_asks, replies_bytes, frames_of, AreReadIn, read_up_to}
use Rattle.client_door.specs.Recording.{Recording, with_all_recorded, judged_by}
use Rattle.client_door.specs.Serving.{ClientSide, recorded_side, with_link, Cause, ended_for, EndsAnswered, EndsAsking, IsFoundSo}
use Rattle.client_door.specs.Serving.{CountsFaults, IsCallFor, Talks}
use Rattle.client_door.specs.Serving.Cause.{Came, Withdrew}
use Rattle.client_door.specs.parts.Talk.{StandsBy, Stands, HeardBy, HeardUpTo, HasPiece, IsReadNow, Notes, with_sent}
use Rattle.door_frames.proofs.Hearing.{hears_nothing}
use Rattle.client_door.specs.declared.checks.Check.{Check}
use Rattle.client_door.specs.declared.agent_replies.AgentReply.{AgentReply}
use Rattle.client_door.proofs.Calls.{after_asks_more, calls_same, calls_more, calls_for_more, front_right}
use Rattle.client_door.proofs.Recorded.{has_recorded}
use Rattle.client_door.proofs.Published.{stands_last, commit_of_last, reads_between}
use Rattle.client_door.proofs.Unsent.{back_right, back_read, read_below, all_calls, unsent_calls}
use Rattle.client_door.proofs.Steps.{answered_with, answered_by_policies, reseated, flushed, heard_more, looked_at}

-- the first of some checks were read as all of them
front_read : (seen : List DeskState) (low : ℕ) (answered more : List Answered) → AreReadIn seen low (answered ++ more)
    → AreReadIn seen low answered
front_read seen low [] more read = tt
front_read seen low (one ∷ answered) more (there, fresh, others) =
    (there, fresh, front_read seen one.desk.commit answered more others)

-- What was heard tells which frames stand in the bytes, those that were answered or taken first.
abbrev pub TellsFrames : (List ℕ → List Framed → Type 0) → Type 0
TellsFrames Has = (bytes : List ℕ) (frames : List Framed) → Has bytes frames
    → (behind : List Framed) × (rest : List ℕ) × Hears AtClient bytes (frames ++ behind) rest

pub tells_by : (feeder : Feeding) → feeder.heard ≡ AtClient → TellsFrames (HeardBy feeder)
tells_by feeder side bytes frames has = (
  feeder.waiting,
  has.behind,
  subst (λ (heard : Heard). Hears heard bytes (frames ++ feeder.waiting) has.behind) side has.heard,
)

pub tells_up_to : (ahead : List ℕ) → TellsFrames (HeardUpTo ahead)
tells_up_to ahead bytes frames has = ([], ahead, subst (λ list. Hears AtClient bytes list ahead) (sym (append-nil frames)) has)

-- the frames that were heard behind those that were answered
heard_behind : (start now : ClientSide) (Has : List ℕ → List Framed → Type 0) (waiting : List ℕ) (taken : List Check)
    (behind : List Framed) (rest : List ℕ) → (s : StandsBy start now Has waiting taken)
    → Hears AtClient s.received ((frames_of (s.sent ++ s.unsent) ++ map framed_of taken) ++ behind) rest
    → Hears AtClient s.received (frames_of s.sent ++ (frames_of s.unsent ++ (map framed_of taken ++ behind))) rest
heard_behind start now Has waiting taken behind rest s heard =
    let frames : (frames_of (s.sent ++ s.unsent) ++ map framed_of taken) ++ behind
    ≡ frames_of s.sent ++ (frames_of s.unsent ++ (map framed_of taken ++ behind)) =
    append_assoc (frames_of (s.sent ++ s.unsent)) (map framed_of taken) behind
    ∙ (ap (λ list. list ++ (map framed_of taken ++ behind)) (map-append (λ (one : Answered). framed_of one.check) s.sent s.unsent)
    ∙ append_assoc (frames_of s.sent) (frames_of s.unsent) (map framed_of taken ++ behind)) in
    subst (λ list. Hears AtClient s.received list rest) frames heard

-- some frames may not be answered
pub unanswered_by : (start now : ClientSide) (Has : List ℕ → List Framed → Type 0) (waiting : List ℕ) (taken : List Check)
    → TellsFrames Has → (s : StandsBy start now Has waiting taken)
    → (more : List Framed) × (rest : List ℕ) × Hears AtClient s.received (frames_of s.sent ++ more) rest
unanswered_by start now Has waiting taken tells s =
    let told = tells s.received (frames_of (s.sent ++ s.unsent) ++ map framed_of taken) s.heard in
    (frames_of s.unsent ++ (map framed_of taken ++ told.0), told.1, heard_behind start now Has waiting taken told.0 told.1 s told.2)

pub unanswered : (start now : ClientSide) (feeder : Feeding) (waiting : List ℕ) (taken : List Check) → feeder.heard ≡ AtClient
    → (s : Stands start now feeder waiting taken)
    → (more : List Framed) × (rest : List ℕ) × Hears AtClient s.received (frames_of s.sent ++ more) rest
unanswered start now feeder waiting taken side s = unanswered_by start now (HeardBy feeder) waiting taken (tells_by feeder side) s

-- the answering ends, after these calls of `ask` more
pub ends_with : (start now after : ClientSide) (Has : List ℕ → List Framed → Type 0) (waiting : List ℕ) (taken : List Check)
    (cause : Cause) (extra : List AskMade)
    → (s : StandsBy start now Has waiting taken)
    → after.seat ≡ now.seat → after.recording ≡ now.recording → after.tally ≡ after_asks extra now.tally
    → AppendsCalls now.calls (map Ask extra) after.calls
    → Carried now.traffic after.traffic [] [] → CountsFaults cause now.faults after.faults → IsFoundSo cause after.marks
    → after.marks.ends ≡ now.marks.ends → EndsAsking cause (calls_for s.unsent ++ extra) → TellsFrames Has
    → AllByRecursion (IsCallFor now.seat s.received s.sent) extra
    → EndsAnswered cause s.received (frames_of s.sent) → Talks start after (ended_for cause)
ends_with start now after Has waiting taken cause extra s seat recording tally told carried faults at_end ends asking tells
    for_extra bytes =
    let frames = tells s.received (frames_of (s.sent ++ s.unsent) ++ map framed_of taken) s.heard in
    let read = back_read now.seat.seen now.seat.note s.sent s.unsent s.read in
    let made : calls_for (s.sent ++ s.unsent) ++ extra ≡ calls_for s.sent ++ (calls_for s.unsent ++ extra) =
    ap (λ list. list ++ extra) (calls_for_more s.sent s.unsent) ∙ append_assoc (calls_for s.sent) (calls_for s.unsent) extra in
    record {
      received = s.received;
      answered = s.sent;
      last = calls_for s.unsent ++ extra;
      cause = cause;
      ended_is = refl;
      right = front_right s.sent s.unsent s.right;
      bytes = bytes;
      carried = subst (λ list. Carried start.traffic after.traffic list (replies_bytes s.sent)) (append-nil s.received)
          (subst (λ list. Carried start.traffic after.traffic (s.received ++ []) list) (append-nil (replies_bytes s.sent))
          (carried_more s.received [] (replies_bytes s.sent) [] start.traffic now.traffic after.traffic s.carried carried));
      read = subst (λ (x : SeatState). AreReadIn x.seen x.note s.sent) (sym seat)
          (front_read now.seat.seen now.seat.note s.sent s.unsent s.read);
      seen = subst (λ (x : SeatState). (more : List DeskState) × (x.seen ≡ start.seat.seen ++ more)) (sym seat) s.seen;
      rising = λ rises. subst (λ (x : SeatState). Rises x.seen) (sym seat) (s.rising rises);
      same_seat = seat ∙ (s.same_seat ∙ ap (λ (x : SeatState). record start.seat { seen = x.seen }) (sym seat));
      tally = tally ∙ (ap (after_asks extra) s.tally
          ∙ (sym (after_asks_more (calls_for (s.sent ++ s.unsent)) extra start.tally) ∙ ap (λ list. after_asks list start.tally) made));
      calls = subst (λ (list : List AskMade). AppendsCalls start.calls (map Ask list) after.calls) made
          (subst (λ (list : List HallCall). AppendsCalls start.calls list after.calls)
          (sym (map-append Ask (calls_for (s.sent ++ s.unsent)) extra))
          (calls_more (map Ask (calls_for (s.sent ++ s.unsent))) (map Ask extra) start.calls now.calls after.calls s.calls told));
      asking = asking;
      for_checks = subst (λ (x : SeatState). AllByRecursion (IsCallFor x s.received s.sent) (calls_for s.unsent ++ extra)) (sym seat)
          (all_calls (IsCallFor now.seat s.received s.sent) (calls_for s.unsent) extra
          (unsent_calls now.seat s.received s.sent [] s.unsent (map framed_of taken ++ frames.0) frames.1
          (read_up_to now.seat.note s.sent) (omega arith) (back_right s.sent s.unsent s.right) read
          (heard_behind start now Has waiting taken frames.0 frames.1 s frames.2))
          for_extra);
      faults = subst (λ count. CountsFaults cause count after.faults) s.faults faults;
      at_end = at_end;
      ends = ends ∙ s.ends;
      recorded = has_recorded start.recording now.recording after.recording s.sent s.unsent s.kept recording;
    }

-- for want of memory
pub ends_for_memory_by : (start now : ClientSide) (Has : List ℕ → List Framed → Type 0) (waiting : List ℕ) (taken : List Check)
    (ended : Ended) → ended ≡ Memory → TellsFrames Has → StandsBy start now Has waiting taken → Talks start now ended
ends_for_memory_by start now Has waiting taken ended is tells s =
    subst (λ (e : Ended). Talks start now e) (sym is)
    (ends_with start now now Has waiting taken (Came Memory) [] s refl refl refl (calls_same now.calls) (carried_same now.traffic) refl
    tt refl (subst (λ (list : List AskMade). length list ≤ 1) (sym (append-nil (calls_for s.unsent))) s.few) tells tt
    (unanswered_by start now Has waiting taken tells s))

pub ends_for_memory : (start now : ClientSide) (feeder : Feeding) (waiting : List ℕ) (taken : List Check) (ended : Ended) → ended ≡ Memory
    → feeder.heard ≡ AtClient → Stands start now feeder waiting taken → Talks start now ended
ends_for_memory start now feeder waiting taken ended is side s =
    ends_for_memory_by start now (HeardBy feeder) waiting taken ended is (tells_by feeder side) s

-- for a fault of the link
pub ends_for_fault : (start now : ClientSide) (traffic : Option Traffic) (marks : LinkMarks) (faults : ℕ) (recording : Option Recording)
    (feeder : Feeding) (waiting : List ℕ) (taken : List Check) (ended : Ended) → ended ≡ LinkFault → feeder.heard ≡ AtClient
    → Carried now.traffic traffic [] [] → marks.ends ≡ now.marks.ends → faults ≡ next_count now.faults → recording ≡ now.recording
    → Stands start now feeder waiting taken → Talks start (with_sent now traffic marks faults recording) ended
ends_for_fault start now traffic marks faults recording feeder waiting taken ended is side carried same rose kept s =
    subst (λ (e : Ended). Talks start (with_sent now traffic marks faults recording) e) (sym is)
    (ends_with start now (with_sent now traffic marks faults recording) (HeardBy feeder) waiting taken (Came LinkFault) [] s refl kept refl
    (calls_same now.calls)
    carried rose tt same
    (subst (λ (list : List AskMade). length list ≤ 1) (sym (append-nil (calls_for s.unsent))) s.few) (tells_by feeder side) tt
    (unanswered start now feeder waiting taken side s))

-- ---- no further frame comes

-- all frames were answered, up to what is behind them
all_answered : (start now : ClientSide) (feeder : Feeding) (waiting : List ℕ) → feeder.heard ≡ AtClient → feeder.waiting ≡ []
    → (s : Stands start now feeder waiting []) → s.unsent ≡ [] → Hears AtClient s.received (frames_of s.sent) s.heard.behind
all_answered start now feeder waiting side none s sent =
    let frames : (frames_of (s.sent ++ s.unsent) ++ []) ++ feeder.waiting ≡ frames_of s.sent =
    ap (λ list. (frames_of (s.sent ++ s.unsent) ++ []) ++ list) none
    ∙ (append-nil (frames_of (s.sent ++ s.unsent) ++ [])
    ∙ (append-nil (frames_of (s.sent ++ s.unsent))
    ∙ ap frames_of (ap (λ list. s.sent ++ list) sent ∙ append-nil s.sent))) in
    subst (λ (heard : Heard). Hears heard s.received (frames_of s.sent) s.heard.behind) side
    (subst (λ list. Hears feeder.heard s.received list s.heard.behind) frames s.heard.heard)

no_calls : (start now : ClientSide) (feeder : Feeding) (waiting : List ℕ) (s : Stands start now feeder waiting []) → s.unsent ≡ []
    → calls_for s.unsent ++ [] ≡ []
no_calls start now feeder waiting s sent = append-nil (calls_for s.unsent) ∙ ap calls_for sent

pub ends_reading : (start now : ClientSide) (traffic : Option Traffic) (marks : LinkMarks) (faults : ℕ) (feeder : Feeding)
    (waiting : List ℕ)
    (ended : Ended) → feeder.heard ≡ AtClient → feeder.waiting ≡ [] → Carried now.traffic traffic [] [] → marks.ends ≡ now.marks.ends
    → EndsReading ended feeder marks now.faults faults
    → (s : Stands start now feeder waiting []) → s.unsent ≡ [] → Talks start (with_link now traffic marks faults) ended
ends_reading start now traffic marks faults feeder waiting Closed side none carried same (sound, empty, mark, still) s sent =
    let behind : s.heard.behind ≡ [] = (s.heard.sound sound).0 ∙ empty in
    ends_with start now (with_link now traffic marks faults) (HeardBy feeder) waiting [] (Came Closed) [] s refl refl refl (calls_same now.calls) carried
    still mark same
    (no_calls start now feeder waiting s sent) (tells_by feeder side) tt
    (subst (λ rest. Hears AtClient s.received (frames_of s.sent) rest) behind (all_answered start now feeder waiting side none s sent))
ends_reading start now traffic marks faults feeder waiting (Cut count) side none carried same (sound, is, some, mark, still) s sent =
    let at = s.heard.sound sound in
    ends_with start now (with_link now traffic marks faults) (HeardBy feeder) waiting [] (Came (Cut count)) [] s refl refl refl (calls_same now.calls)
    carried still mark same
    (no_calls start now feeder waiting s sent) (tells_by feeder side) tt (
      s.heard.behind,
      all_answered start now feeder waiting side none s sent,
      subst (λ (heard : Heard). IsOpen heard s.heard.behind) side at.1,
      ap length at.0 ∙ sym is,
      some,
    )
ends_reading start now traffic marks faults feeder waiting LinkFault side none carried same (sound, rose) s sent =
    ends_for_fault start now traffic marks faults now.recording feeder waiting [] LinkFault refl side carried same rose refl s
ends_reading start now traffic marks faults feeder waiting (BadFrame refusal) side none carried same (failed, of_bytes, still) s sent =
    ends_with start now (with_link now traffic marks faults) (HeardBy feeder) waiting [] (Came (BadFrame refusal)) [] s refl refl refl (calls_same now.calls)
    carried still tt same (no_calls start now feeder waiting s sent) (tells_by feeder side) tt (
      s.heard.behind,
      all_answered start now feeder waiting side none s sent,
      subst (λ (heard : Heard). BeginsWrong heard s.heard.behind refusal) side (s.heard.wrong refusal failed),
      of_bytes,
    )
ends_reading start now traffic marks faults feeder waiting Memory side none carried same still s sent =
    ends_with start now (with_link now traffic marks faults) (HeardBy feeder) waiting [] (Came Memory) [] s refl refl refl (calls_same now.calls)
    carried still tt same
    (subst (λ (list : List AskMade). length list ≤ 1) (sym (append-nil (calls_for s.unsent))) s.few) (tells_by feeder side) tt
    (unanswered start now feeder waiting [] side s)
ends_reading start now traffic marks faults feeder waiting (Hung entered at) side none carried same wrong s sent = absurd wrong
ends_reading start now traffic marks faults feeder waiting Stopped side none carried same wrong s sent = absurd wrong
ends_reading start now traffic marks faults feeder waiting (Strayed number found) side none carried same wrong s sent = absurd wrong

-- ---- asking an agent

-- with what a call of `ask` left of the hall and of the link
abbrev asked_side : ClientSide → Tally → Option (List HallCall) → Option Traffic → LinkMarks → ℕ → ClientSide
asked_side now tally calls traffic marks faults =
    record now { tally = tally; calls = calls; traffic = traffic; marks = marks; faults = faults }

-- the reply comes of one call, and waits to be sent
pub asked_once : (start now : ClientSide) (tally : Tally) (calls : Option (List HallCall)) (traffic : Option Traffic) (marks : LinkMarks)
    (faults : ℕ) (recording : Option Recording) (feeder : Feeding) (frame after : List ℕ)
    (check : Check) (desk : DeskState) (commit : ℕ) (kind : Kind) (metadata : List ℕ) (reply : AgentReply)
    → IsReadNow desk now.seat → reading desk check ≡ IsDue commit kind metadata
    → AsksOnce commit kind check.question metadata now.tally now.calls tally calls reply
    → KeepsTold now.traffic traffic → marks ≡ now.marks → faults ≡ now.faults
    → Notes now.recording (judged_by (cause_at desk check.question) check.question (reply_of reply)) recording
    → frame ≡ spelling (with_sequence check.sequence (message_of (reply_of reply))) → after ≡ [] ++ frame
    → (s : Stands start now feeder [] (check ∷ [])) → s.unsent ≡ []
    → Stands start (record (asked_side now tally calls traffic marks faults) { recording = recording }) feeder after []
asked_once start now tally calls traffic marks faults recording feeder frame after check desk commit kind metadata reply now_read is
    (result, asked, leads) kept same still noted spelled put s sent =
    let call : AskMade = ask_made kind check.question metadata result in
    let looked = looked_at start now traffic marks faults feeder [] (check ∷ []) kept same still s in
    answered_with start (with_link now traffic marks faults) tally calls recording (HeardBy feeder) [] after check desk (Some call)
    (reply_of reply) looked.0 now_read
    (subst (λ (seen : Reading). Answers seen check.question (Some call) (reply_of reply)) (sym is) (result, refl, leads))
    asked.counted asked.told
    (subst (λ (list : List Answered). length (calls_for list ++ call ∷ []) ≤ 1) (sym (looked.1 ∙ sent)) (omega arith))
    noted (put ∙ spelled)

-- the call that is made for a check that was taken
made_for : (start now : ClientSide) (feeder : Feeding) (check : Check) (desk : DeskState) (commit : ℕ) (kind : Kind) (metadata : List ℕ)
    (result : AskResult) → feeder.heard ≡ AtClient → IsReadNow desk now.seat → reading desk check ≡ IsDue commit kind metadata
    → (s : Stands start now feeder [] (check ∷ [])) → IsCallFor now.seat s.received s.sent (ask_made kind check.question metadata result)
made_for start now feeder check desk commit kind metadata result side now_read due s = record {
  check = check;
  desk = desk;
  commit = commit;
  read = due;
  question = refl;
  stands = stands_last desk now.seat.seen now_read.last;
  fresh = let top : last_commit 0 now.seat.seen ≡ desk.commit = commit_of_last now.seat.seen desk now_read.last in
      let below : read_up_to now.seat.note s.sent ≤ last_commit 0 now.seat.seen =
      read_below now.seat.seen now.seat.note s.sent s.unsent (omega (arith, top, now_read.fresh)) s.read in
      reads_between (read_up_to now.seat.note s.sent) (last_commit 0 now.seat.seen) desk.commit (omega (arith, top, below))
      (omega (arith, top));
  heard = let told = tells_by feeder side s.received (frames_of (s.sent ++ s.unsent) ++ framed_of check ∷ []) s.heard in
      (frames_of s.unsent, told.0, told.1, heard_behind start now (HeardBy feeder) [] (check ∷ []) told.0 told.1 s told.2);
}

-- memory is wanting after the call
pub asked_for_nothing : (start now : ClientSide) (tally : Tally) (calls : Option (List HallCall)) (traffic : Option Traffic)
    (marks : LinkMarks) (faults : ℕ) (feeder : Feeding)
    (check : Check) (desk : DeskState) (commit : ℕ) (kind : Kind) (metadata : List ℕ) (reply : AgentReply) (ended : Ended) → ended ≡ Memory
    → feeder.heard ≡ AtClient → IsReadNow desk now.seat → reading desk check ≡ IsDue commit kind metadata
    → AsksOnce commit kind check.question metadata now.tally now.calls tally calls reply
    → KeepsTold now.traffic traffic → marks ≡ now.marks → faults ≡ now.faults
    → (s : Stands start now feeder [] (check ∷ [])) → s.unsent ≡ []
    → Talks start (asked_side now tally calls traffic marks faults) ended
asked_for_nothing start now tally calls traffic marks faults feeder check desk commit kind metadata reply ended is side now_read due
    (result, asked, leads) kept same still s sent =
    let call : AskMade = ask_made kind check.question metadata result in
    let after : ClientSide = asked_side now tally calls traffic marks faults in
    subst (λ (e : Ended). Talks start after e) (sym is)
    (ends_with start now after (HeardBy feeder) [] (check ∷ []) (Came Memory) (call ∷ []) s refl refl asked.counted asked.told
    (carried_nothing now.traffic traffic kept) still tt (ap (λ (m : LinkMarks). m.ends) same)
    (subst (λ (list : List Answered). length (calls_for list ++ call ∷ []) ≤ 1) (sym sent) (omega arith)) (tells_by feeder side)
    (made_for start now feeder check desk commit kind metadata result side now_read due s, tt)
    (unanswered start now feeder [] (check ∷ []) side s))

-- no reply comes of it
vain : (start now : ClientSide) (tally : Tally) (calls : Option (List HallCall)) (traffic : Option Traffic) (marks : LinkMarks)
    (faults : ℕ) (feeder : Feeding) (check : Check) (desk : DeskState) (commit : ℕ) (kind : Kind) (metadata : List ℕ)
    (result : AskResult) (ended : Ended) → IsReadNow desk now.seat → reading desk check ≡ IsDue commit kind metadata
    → feeder.heard ≡ AtClient → Asked (ask_made kind check.question metadata result) now.tally now.calls tally calls
    → IsInVain check.question result ended
    → KeepsTold now.traffic traffic → LooksAtLink ended now.marks now.faults marks faults
    → (s : Stands start now feeder [] (check ∷ [])) → s.unsent ≡ []
    → Talks start (asked_side now tally calls traffic marks faults) ended
vain start now tally calls traffic marks faults feeder check desk commit kind metadata result Closed now_read due side asked
    (number, withdrawn) kept (down, counted) s sent =
    let call : AskMade = ask_made kind check.question metadata result in
    ends_with start now (asked_side now tally calls traffic marks faults) (HeardBy feeder) [] (check ∷ []) (Withdrew number) (call ∷ []) s refl refl
    asked.counted asked.told (carried_nothing now.traffic traffic kept) counted (ap (λ (m : LinkMarks). m.is_down) down)
    (ap (λ (m : LinkMarks). m.ends) down)
    (call, ap (λ (list : List Answered). calls_for list ++ call ∷ []) sent, withdrawn) (tells_by feeder side)
    (made_for start now feeder check desk commit kind metadata result side now_read due s, tt)
    (unanswered start now feeder [] (check ∷ []) side s)
vain start now tally calls traffic marks faults feeder check desk commit kind metadata result Stopped now_read due side asked stop kept
    (same, still) s sent =
    let call : AskMade = ask_made kind check.question metadata result in
    ends_with start now (asked_side now tally calls traffic marks faults) (HeardBy feeder) [] (check ∷ []) (Came Stopped) (call ∷ []) s refl refl
    asked.counted asked.told (carried_nothing now.traffic traffic kept) still tt (ap (λ (m : LinkMarks). m.ends) same)
    (call, ap (λ (list : List Answered). calls_for list ++ call ∷ []) sent, stop) (tells_by feeder side)
    (made_for start now feeder check desk commit kind metadata result side now_read due s, tt)
    (unanswered start now feeder [] (check ∷ []) side s)
vain start now tally calls traffic marks faults feeder check desk commit kind metadata result Memory now_read due side asked free kept
    (same, still) s sent =
    let call : AskMade = ask_made kind check.question metadata result in
    ends_with start now (asked_side now tally calls traffic marks faults) (HeardBy feeder) [] (check ∷ []) (Came Memory) (call ∷ []) s refl refl
    asked.counted asked.told (carried_nothing now.traffic traffic kept) still tt (ap (λ (m : LinkMarks). m.ends) same)
    (subst (λ (list : List Answered). length (calls_for list ++ call ∷ []) ≤ 1) (sym sent) (omega arith)) (tells_by feeder side)
    (made_for start now feeder check desk commit kind metadata result side now_read due s, tt)
    (unanswered start now feeder [] (check ∷ []) side s)
vain start now tally calls traffic marks faults feeder check desk commit kind metadata result (Strayed number found) now_read due side
    asked strays kept (same, still) s sent =
    let call : AskMade = ask_made kind check.question metadata result in
    ends_with start now (asked_side now tally calls traffic marks faults) (HeardBy feeder) [] (check ∷ []) (Came (Strayed number found))
    (call ∷ []) s refl refl
    asked.counted asked.told (carried_nothing now.traffic traffic kept) still tt (ap (λ (m : LinkMarks). m.ends) same)
    (call, ap (λ (list : List Answered). calls_for list ++ call ∷ []) sent, strays) (tells_by feeder side)
    (made_for start now feeder check desk commit kind metadata result side now_read due s, tt)
    (unanswered start now feeder [] (check ∷ []) side s)
vain start now tally calls traffic marks faults feeder check desk commit kind metadata result (Cut count) now_read due side asked wrong
    kept link s sent = absurd wrong
vain start now tally calls traffic marks faults feeder check desk commit kind metadata result (Hung entered at) now_read due side asked
    wrong kept link s sent = absurd wrong
vain start now tally calls traffic marks faults feeder check desk commit kind metadata result LinkFault now_read due side asked wrong
    kept link s sent = absurd wrong
vain start now tally calls traffic marks faults feeder check desk commit kind metadata result (BadFrame refusal) now_read due side asked
    wrong kept link s sent = absurd wrong

pub asked_in_vain : (start now : ClientSide) (tally : Tally) (calls : Option (List HallCall)) (traffic : Option Traffic)
    (marks : LinkMarks) (faults : ℕ) (feeder : Feeding)
    (check : Check) (desk : DeskState) (commit : ℕ) (kind : Kind) (metadata : List ℕ) (ended : Ended) → IsReadNow desk now.seat
    → reading desk check ≡ IsDue commit kind metadata → feeder.heard ≡ AtClient
    → AsksInVain kind check.question metadata now.tally now.calls tally calls ended
    → KeepsTold now.traffic traffic → LooksAtLink ended now.marks now.faults marks faults
    → (s : Stands start now feeder [] (check ∷ [])) → s.unsent ≡ []
    → Talks start (asked_side now tally calls traffic marks faults) ended
asked_in_vain start now tally calls traffic marks faults feeder check desk commit kind metadata ended now_read due side made kept link s
    sent =
    elim made [
      | AsksInVain.unasked is same_tally same_calls ↦
          let after : ClientSide = asked_side now tally calls traffic marks faults in
          let looked : LooksAtLink Memory now.marks now.faults marks faults =
          subst (λ (e : Ended). LooksAtLink e now.marks now.faults marks faults) is link in
          subst (λ (e : Ended). Talks start after e) (sym is)
          (ends_with start now after (HeardBy feeder) [] (check ∷ []) (Came Memory) [] s refl refl same_tally
          (subst (λ told. AppendsCalls now.calls [] told) (sym same_calls) (calls_same now.calls))
          (carried_nothing now.traffic traffic kept) looked.1 tt (ap (λ (m : LinkMarks). m.ends) looked.0)
          (subst (λ (list : List AskMade). length list ≤ 1) (sym (append-nil (calls_for s.unsent))) s.few) (tells_by feeder side) tt
          (unanswered start now feeder [] (check ∷ []) side s))
      | AsksInVain.vain result asked why ↦
          vain start now tally calls traffic marks faults feeder check desk commit kind metadata result ended now_read due side asked why
          kept link s sent
    ]

-- ---- the parts of a turn

-- a check was read and put behind those that wait, by the policies alone
pub reads_and_puts : (old new : ClientSide) (seat : SeatState) (recording : Option Recording) (feeder : Feeding)
    (waiting frame after : List ℕ)
    (check : Check) (desk : DeskState) (reply : Reply) → seat ≡ record old.seat { seen = seat.seen } → GoesOn old.seat.seen seat.seen
    → new ≡ record old { seat = seat; recording = recording } → IsReadNow desk seat → reading desk check ≡ IsReady reply
    → frame ≡ spelling (with_sequence check.sequence (message_of reply))
    → Notes old.recording (judged_by (cause_at desk check.question) check.question reply) recording
    → after ≡ waiting ++ frame
    → (start : ClientSide) → Stands start old feeder waiting (check ∷ []) → Stands start new feeder after []
reads_and_puts old new seat recording feeder waiting frame after check desk reply same goes_on is now_read read spelled noted put start s =
    subst (λ (x : ClientSide). Stands start x feeder after []) (sym is)
    (answered_by_policies start (record old { seat = seat }) recording (HeardBy feeder) waiting frame after check desk reply now_read read
    spelled noted put
    (reseated start old seat desk (HeardBy feeder) waiting (check ∷ []) same goes_on now_read s))

-- a check was read, and memory was wanting
pub reads_for_nothing : (old new : ClientSide) (seat : SeatState) (desk : DeskState) (feeder : Feeding) (waiting : List ℕ) (check : Check)
    (ended : Ended)
    → seat ≡ record old.seat { seen = seat.seen } → GoesOn old.seat.seen seat.seen → new ≡ record old { seat = seat }
    → IsReadNow desk seat → ended ≡ Memory → feeder.heard ≡ AtClient
    → (start : ClientSide) → Stands start old feeder waiting (check ∷ []) → Talks start new ended
reads_for_nothing old new seat desk feeder waiting check ended same goes_on is now_read memory side start s =
    subst (λ (x : ClientSide). Talks start x ended) (sym is)
    (ends_for_memory start (record old { seat = seat }) feeder waiting (check ∷ []) ended memory side
    (reseated start old seat desk (HeardBy feeder) waiting (check ∷ []) same goes_on now_read s))

-- replies were sent, and a piece was received
pub sends_and_receives : (side : ClientSide) (before : Option Traffic) (marks : LinkMarks) (faults : ℕ) (noted recording : Option Recording)
    (sent : Option Traffic) (marks_sent : LinkMarks) (faults_sent : ℕ) (after : Option Traffic) (marks_after : LinkMarks) (faults_after : ℕ)
    (feeder : Feeding) (waiting piece : List ℕ)
    → Carried before sent [] waiting → marks_sent ≡ marks → faults_sent ≡ faults → ChangesTold noted with_all_recorded recording
    → Carried sent after piece [] → marks_after.ends ≡ marks_sent.ends → faults_after ≡ faults_sent
    → (start : ClientSide) → Stands start (with_sent side before marks faults noted) feeder waiting []
    → HasPiece start (with_sent side after marks_after faults_after recording) feeder piece
sends_and_receives side before marks faults noted recording sent marks_sent faults_sent after marks_after faults_after feeder waiting piece
    carried same still recorded received ends rest start s =
    let first = flushed start (with_sent side before marks faults noted) sent marks_sent faults_sent recording feeder waiting [] carried
    same still recorded s in (
      sent,
      (heard_more start (with_sent side sent marks_sent faults_sent recording) sent marks_after faults_after feeder feeder [] []
          (carried_same sent) (hears_nothing feeder) ends rest first.0).0,
      received,
    )

-- replies were sent, and no more comes
pub sends_and_ends : (side : ClientSide) (before : Option Traffic) (marks : LinkMarks) (faults : ℕ) (noted recording : Option Recording)
    (sent : Option Traffic) (marks_sent : LinkMarks) (faults_sent : ℕ) (after : Option Traffic) (marks_after : LinkMarks) (faults_now : ℕ)
    (feeder fed : Feeding) (waiting bytes : List ℕ) (ended : Ended)
    → Carried before sent [] waiting → marks_sent ≡ marks → faults_sent ≡ faults → ChangesTold noted with_all_recorded recording
    → Carried sent after bytes [] → HearsMore bytes feeder fed → marks_after.ends ≡ marks_sent.ends
    → fed.heard ≡ AtClient → fed.waiting ≡ [] → EndsReading ended fed marks_after faults_sent faults_now
    → (start : ClientSide) → Stands start (with_sent side before marks faults noted) feeder waiting []
    → Talks start (with_sent side after marks_after faults_now recording) ended
sends_and_ends side before marks faults noted recording sent marks_sent faults_sent after marks_after faults_now feeder fed waiting bytes
    ended carried same still recorded received hears ends heard none reading start s =
    let first = flushed start (with_sent side before marks faults noted) sent marks_sent faults_sent recording feeder waiting [] carried
    same still recorded s in
    let then = heard_more start (with_sent side sent marks_sent faults_sent recording) after marks_sent faults_sent feeder fed [] bytes
    received hears refl refl first.0 in
    ends_reading start (with_sent side after marks_sent faults_sent recording) after marks_after faults_now fed [] ended heard none
    (carried_same after) ends reading
    then.0 (then.1 ∙ first.1)

-- replies were sent, an agent was asked, and the reply waits, of which was noted what it decides
pub sends_and_asks : (old : ClientSide) (sent : Option Traffic) (marks : LinkMarks) (faults : ℕ) (recording noted : Option Recording)
    (tally : Tally) (calls : Option (List HallCall)) (looked : Option Traffic) (marks_looked : LinkMarks) (faults_looked : ℕ)
    (feeder : Feeding) (waiting between frame after : List ℕ) (check : Check) (desk : DeskState) (commit : ℕ) (kind : Kind)
    (metadata : List ℕ) (reply : AgentReply)
    → Carried old.traffic sent [] waiting → marks ≡ old.marks → faults ≡ old.faults → ChangesTold old.recording with_all_recorded recording
    → between ≡ []
    → IsReadNow desk old.seat → reading desk check ≡ IsDue commit kind metadata
    → AsksOnce commit kind check.question metadata old.tally old.calls tally calls reply
    → KeepsTold sent looked → marks_looked ≡ marks → faults_looked ≡ faults
    → Notes recording (judged_by (cause_at desk check.question) check.question (reply_of reply)) noted
    → after ≡ between ++ spelling (with_sequence check.sequence (message_of (reply_of reply)))
    → (start : ClientSide) → Stands start old feeder waiting (check ∷ [])
    → Stands start (recorded_side old.seat tally calls looked marks_looked faults_looked noted) feeder after []
sends_and_asks old sent marks faults recording noted tally calls looked marks_looked faults_looked feeder waiting between frame after check
    desk commit kind metadata reply carried same still recorded none now_read is asks kept looks counts notes put start s =
    let first = flushed start old sent marks faults recording feeder waiting (check ∷ []) carried same still recorded s in
    asked_once start (with_sent old sent marks faults recording) tally calls looked marks_looked faults_looked noted feeder
    (spelling (with_sequence check.sequence (message_of (reply_of reply)))) after
    check desk commit kind metadata reply now_read is asks kept looks counts notes refl
    (put ∙ ap (λ list. list ++ spelling (with_sequence check.sequence (message_of (reply_of reply)))) none) first.0 first.1

-- the same, and memory was wanting for the reply
pub sends_and_asks_for_nothing : (old : ClientSide) (sent : Option Traffic) (marks : LinkMarks) (faults : ℕ) (recording : Option Recording)
    (tally : Tally) (calls : Option (List HallCall)) (looked : Option Traffic) (marks_looked : LinkMarks) (faults_looked : ℕ)
    (feeder : Feeding) (waiting : List ℕ) (check : Check) (desk : DeskState) (commit : ℕ) (kind : Kind) (metadata : List ℕ)
    (reply : AgentReply) (ended : Ended)
    → Carried old.traffic sent [] waiting → marks ≡ old.marks → faults ≡ old.faults → ChangesTold old.recording with_all_recorded recording
    → ended ≡ Memory → feeder.heard ≡ AtClient
    → IsReadNow desk old.seat → reading desk check ≡ IsDue commit kind metadata
    → AsksOnce commit kind check.question metadata old.tally old.calls tally calls reply
    → KeepsTold sent looked → marks_looked ≡ marks → faults_looked ≡ faults
    → (start : ClientSide) → Stands start old feeder waiting (check ∷ [])
    → Talks start (recorded_side old.seat tally calls looked marks_looked faults_looked recording) ended
sends_and_asks_for_nothing old sent marks faults recording tally calls looked marks_looked faults_looked feeder waiting check desk commit
    kind metadata reply ended carried same still recorded is side now_read due asks kept looks counts start s =
    let first = flushed start old sent marks faults recording feeder waiting (check ∷ []) carried same still recorded s in
    asked_for_nothing start (with_sent old sent marks faults recording) tally calls looked marks_looked faults_looked feeder check desk
    commit kind metadata reply ended is side now_read due asks kept looks counts first.0 first.1

-- the same, and no reply comes of it
pub sends_and_asks_in_vain : (old : ClientSide) (sent : Option Traffic) (marks : LinkMarks) (faults : ℕ) (recording : Option Recording)
    (tally : Tally) (calls : Option (List HallCall)) (looked : Option Traffic) (marks_looked : LinkMarks) (faults_looked : ℕ)
    (feeder : Feeding) (waiting : List ℕ) (check : Check) (desk : DeskState) (commit : ℕ) (kind : Kind) (metadata : List ℕ) (ended : Ended)
    → Carried old.traffic sent [] waiting → marks ≡ old.marks → faults ≡ old.faults → ChangesTold old.recording with_all_recorded recording
    → feeder.heard ≡ AtClient
    → IsReadNow desk old.seat → reading desk check ≡ IsDue commit kind metadata
    → AsksInVain kind check.question metadata old.tally old.calls tally calls ended
    → KeepsTold sent looked → LooksAtLink ended marks faults marks_looked faults_looked
    → (start : ClientSide) → Stands start old feeder waiting (check ∷ [])
    → Talks start (recorded_side old.seat tally calls looked marks_looked faults_looked recording) ended
sends_and_asks_in_vain old sent marks faults recording tally calls looked marks_looked faults_looked feeder waiting check desk commit kind
    metadata ended carried same still recorded side now_read due made kept looks start s =
    let first = flushed start old sent marks faults recording feeder waiting (check ∷ []) carried same still recorded s in
    asked_in_vain start (with_sent old sent marks faults recording) tally calls looked marks_looked faults_looked feeder check desk commit
    kind metadata ended now_read due side made kept looks first.0 first.1

-- a check was read, and an agent is to be asked
pub reads_on : (old : ClientSide) (seat : SeatState) (desk : DeskState) (feeder fed : Feeding) (waiting after : List ℕ) (check : Check)
    → seat ≡ record old.seat { seen = seat.seen } → GoesOn old.seat.seen seat.seen → IsReadNow desk seat → fed ≡ feeder → after ≡ waiting
    → (start : ClientSide) → Stands start old feeder waiting (check ∷ []) → Stands start (record old { seat = seat }) fed after (check ∷ [])
reads_on old seat desk feeder fed waiting after check same goes_on now_read feeder_is waiting_is start s =
    subst (λ (x : Feeding). Stands start (record old { seat = seat }) x after (check ∷ [])) (sym feeder_is)
    (subst (λ list. Stands start (record old { seat = seat }) feeder list (check ∷ [])) (sym waiting_is)
    (reseated start old seat desk (HeardBy feeder) waiting (check ∷ []) same goes_on now_read s))
