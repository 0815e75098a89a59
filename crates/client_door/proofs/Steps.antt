-- Each kind of step keeps how the answering of checks stands, or ends it.
use Rattle.std.proofs.Common.{◌≡◌, ◌∙◌, ◌≤◌, ℕ, List, [], ◌∷◌, ◌++◌, map, length, Option, Some, None, refl, sym, ap, subst}
use Rattle.std.proofs.Common.{append_assoc}
use Rattle.std.proofs.Common.{append-nil, arith}
use Rattle.std.proofs.lemmas.List.{map-append}
use Rattle.std.specs.List.{AllByRecursion}
use Rattle.link_ports.specs.Traffic.{Traffic}
use Rattle.link_ports.specs.Told.{ChangesTold, KeepsTold}
use Rattle.link_ports.specs.LinkMarks.{LinkMarks}
use Rattle.desk_state.specs.DeskState.{DeskState}
use Rattle.live_desk.specs.History.{GoesOn}
use Rattle.live_desk.specs.Seat.{SeatState}
use Rattle.desk_world.specs.declared.links.Reading.{Reading}
use Rattle.desk_world.specs.declared.links.Reading.TheVariants.{Ready as IsReady}
use Rattle.desk_world.specs.declared.replies.Reply.{Reply}
use Rattle.wire_reading.specs.Frame.{spelling, with_sequence}
use Rattle.wire_reading.specs.Stream.{Feeding, Hears, IsOpen, first_of, Whole, unfed}
use Rattle.wire_fields.specs.declared.messages.Framed.{Framed}
use Rattle.wire_fields.specs.declared.operations.Heard.{Heard}
use Rattle.wire_fields.specs.declared.refusals.WireRefusal.{WireRefusal}
use Rattle.wire_reading.proofs.Streams.{hears_more, hears_then}
use Rattle.wire_fields.specs.declared.operations.Heard.TheVariants.{AtClient}
use Rattle.server_hall.specs.Call.{AskMade}
use Rattle.server_hall.specs.Tally.{Tally}
use Rattle.server_hall.specs.Told.{AppendsCalls}
use Rattle.server_hall.specs.declared.calls.HallCall.{HallCall}
use Rattle.server_hall.specs.declared.calls.HallCall.TheVariants.{Ask}
use Rattle.door_frames.specs.Carried.{Carried}
use Rattle.door_frames.specs.Hearing.{HasHeard, HearsMore, HandsOut}
use Rattle.door_frames.proofs.Carrying.{carried_more, carried_nothing, carried_same}
use Rattle.door_frames.proofs.Hearing.{unfed_heard}
use Rattle.client_door.specs.Check.{framed_of, message_of}
use Rattle.client_door.specs.Reading.{cause_at, reading}
use Rattle.client_door.specs.Answered.{Answered, Answers, IsRight, call_list, calls_for, after_asks, reply_bytes, replies_bytes, frames_of}
use Rattle.client_door.specs.Answered.{AreReadIn}
use Rattle.client_door.specs.Serving.{ClientSide, with_link}
use Rattle.client_door.specs.Recording.{Recording, with_all_recorded, judged_by}
use Rattle.client_door.specs.parts.Talk.{StandsBy, Stands, HeardUpTo, Meets, HasPiece, IsClean, IsReadNow, Notes, with_sent}
use Rattle.client_door.specs.declared.checks.Check.{Check}
use Rattle.client_door.proofs.Published.{not_above, read_in_more, read_in_snoc}
use Rattle.client_door.proofs.Recorded.{keeps_nothing, keeps_noted, keeps_recorded}
use Rattle.client_door.proofs.Calls.{after_asks_more, calls_same, calls_more, calls_for_snoc, replies_snoc, replies_more, all_right_more}

-- ---- the start

pub begins : (side : ClientSide) → Stands side side (unfed AtClient) [] []
begins side = record {
  received = [];
  sent = [];
  unsent = [];
  right = tt;
  heard = unfed_heard AtClient;
  carried = carried_same side.traffic;
  waits = refl;
  read = tt;
  seen = ([], sym (append-nil side.seat.seen));
  rising = λ rises. rises;
  same_seat = refl;
  tally = refl;
  calls = calls_same side.calls;
  few = omega arith;
  kept = keeps_nothing side.recording;
  faults = refl;
  ends = refl;
}

-- ---- a check is taken

pub takes_check : (start now : ClientSide) (old new : Feeding) (waiting : List ℕ) (check : Check) → HandsOut [] (framed_of check) old new
    → Stands start now old waiting [] → Stands start now new waiting (check ∷ [])
takes_check start now old new waiting check handed s =
    let before : HasHeard s.received (frames_of (s.sent ++ s.unsent)) old =
    subst (λ frames. HasHeard s.received frames old) (append-nil (frames_of (s.sent ++ s.unsent))) s.heard in
    let after : HasHeard s.received (frames_of (s.sent ++ s.unsent) ++ framed_of check ∷ []) new =
    subst (λ bytes. HasHeard bytes (frames_of (s.sent ++ s.unsent) ++ framed_of check ∷ []) new) (append-nil s.received)
    (handed s.received (frames_of (s.sent ++ s.unsent)) before) in
    record {
      received = s.received;
      sent = s.sent;
      unsent = s.unsent;
      right = s.right;
      heard = after;
      carried = s.carried;
      waits = s.waits;
      read = s.read;
      seen = s.seen;
      rising = s.rising;
      same_seat = s.same_seat;
      tally = s.tally;
      calls = s.calls;
      few = s.few;
      kept = s.kept;
      faults = s.faults;
      ends = s.ends;
    }

-- ---- the seat has seen more

pub reseated : (start now : ClientSide) (seat : SeatState) (desk : DeskState) (Has : List ℕ → List Framed → Type 0) (waiting : List ℕ)
    (taken : List Check)
    → seat ≡ record now.seat { seen = seat.seen } → GoesOn now.seat.seen seat.seen → IsReadNow desk seat
    → StandsBy start now Has waiting taken → StandsBy start (record now { seat = seat }) Has waiting taken
reseated start now seat desk Has waiting taken same goes_on read_now s =
    let note : now.seat.note ≡ seat.note = sym (ap (λ (x : SeatState). x.note) same) in
    record {
      received = s.received;
      sent = s.sent;
      unsent = s.unsent;
      right = s.right;
      heard = s.heard;
      carried = s.carried;
      waits = s.waits;
      read = subst (λ low. AreReadIn seat.seen low (s.sent ++ s.unsent)) note
          (read_in_more now.seat.seen seat.seen desk goes_on read_now.rising read_now.last now.seat.note (s.sent ++ s.unsent) s.read);
      seen = goes_on_more start.seat.seen now.seat.seen seat.seen s.seen goes_on;
      rising = λ rises. read_now.rising;
      same_seat = same ∙ ap (λ (x : SeatState). record x { seen = seat.seen }) s.same_seat;
      tally = s.tally;
      calls = s.calls;
      few = s.few;
      kept = s.kept;
      faults = s.faults;
      ends = s.ends;
    }
  where
    goes_on_more : (first then last : List DeskState) → GoesOn first then → GoesOn then last → GoesOn first last
    goes_on_more first then last (more, is) (others, after) =
        (more ++ others, after ∙ (ap (λ list. list ++ others) is ∙ append_assoc first more others))

-- the same checks were answered
pub reseated_all : (start now : ClientSide) (seat : SeatState) (desk : DeskState) (Has : List ℕ → List Framed → Type 0)
    (waiting : List ℕ) (taken : List Check)
    → (same : seat ≡ record now.seat { seen = seat.seen }) → (goes_on : GoesOn now.seat.seen seat.seen) → (read_now : IsReadNow desk seat)
    → (s : StandsBy start now Has waiting taken)
    → (reseated start now seat desk Has waiting taken same goes_on read_now s).sent
    ++ (reseated start now seat desk Has waiting taken same goes_on read_now s).unsent ≡ s.sent ++ s.unsent
unfolding reseated
reseated_all start now seat desk Has waiting taken same goes_on read_now s = refl

-- ---- a check that was taken is answered

pub answered_with : (start now : ClientSide) (tally : Tally) (calls : Option (List HallCall)) (recording : Option Recording)
    (Has : List ℕ → List Framed → Type 0) (waiting after : List ℕ)
    (check : Check) (desk : DeskState) (call : Option AskMade) (reply : Reply)
    → (s : StandsBy start now Has waiting (check ∷ [])) → IsReadNow desk now.seat
    → Answers (reading desk check) check.question call reply
    → tally ≡ after_asks (call_list call) now.tally → AppendsCalls now.calls (map Ask (call_list call)) calls
    → length (calls_for s.unsent ++ call_list call) ≤ 1
    → Notes now.recording (judged_by (cause_at desk check.question) check.question reply) recording
    → after ≡ waiting ++ spelling (with_sequence check.sequence (message_of reply))
    → StandsBy start (record now { tally = tally; calls = calls; recording = recording }) Has after []
answered_with start now tally calls recording Has waiting after check desk call reply s now_read answers counted told few noted put =
    let next : Answered = record { check = check; desk = desk; call = call; reply = reply } in
    let all : (s.sent ++ s.unsent) ++ next ∷ [] ≡ s.sent ++ (s.unsent ++ next ∷ []) = append_assoc s.sent s.unsent (next ∷ []) in
    let made : calls_for (s.sent ++ (s.unsent ++ next ∷ [])) ≡ calls_for (s.sent ++ s.unsent) ++ call_list call =
    ap calls_for (sym all) ∙ calls_for_snoc (s.sent ++ s.unsent) next in
    let frames : frames_of (s.sent ++ s.unsent) ++ framed_of check ∷ [] ≡ frames_of (s.sent ++ (s.unsent ++ next ∷ [])) ++ [] =
    sym (map-append (λ (one : Answered). framed_of one.check) (s.sent ++ s.unsent) (next ∷ []))
    ∙ (ap frames_of all ∙ sym (append-nil (frames_of (s.sent ++ (s.unsent ++ next ∷ []))))) in
    let right : IsRight next = answers in
    record {
      received = s.received;
      sent = s.sent;
      unsent = s.unsent ++ next ∷ [];
      right = subst (λ (list : List Answered). AllByRecursion IsRight list) all
          (all_right_more (s.sent ++ s.unsent) (next ∷ []) s.right (right, tt));
      heard = subst (λ list. Has s.received list) frames s.heard;
      carried = s.carried;
      waits = put ∙ (ap (λ bytes. bytes ++ reply_bytes next) s.waits ∙ sym (replies_snoc s.unsent next));
      read = subst (λ (list : List Answered). AreReadIn now.seat.seen now.seat.note list) all
          (read_in_snoc now.seat.seen next now_read.last
          (λ other there. not_above other desk now.seat.seen now_read.rising now_read.last there)
          now.seat.note (s.sent ++ s.unsent) now_read.fresh s.read);
      seen = s.seen;
      rising = s.rising;
      same_seat = s.same_seat;
      tally = counted ∙ (ap (after_asks (call_list call)) s.tally
          ∙ (sym (after_asks_more (calls_for (s.sent ++ s.unsent)) (call_list call) start.tally)
          ∙ ap (λ list. after_asks list start.tally) (sym made)));
      calls = subst (λ (list : List AskMade). AppendsCalls start.calls (map Ask list) calls) (sym made)
          (subst (λ (list : List HallCall). AppendsCalls start.calls list calls)
          (sym (map-append Ask (calls_for (s.sent ++ s.unsent)) (call_list call)))
          (calls_more (map Ask (calls_for (s.sent ++ s.unsent))) (map Ask (call_list call)) start.calls now.calls calls s.calls told));
      few = subst (λ (list : List AskMade). length list ≤ 1) (sym (calls_for_snoc s.unsent next)) few;
      kept = keeps_noted start.recording now.recording recording s.sent s.unsent next s.kept noted;
      faults = s.faults;
      ends = s.ends;
    }

-- by the policies alone
pub answered_by_policies : (start now : ClientSide) (recording : Option Recording) (Has : List ℕ → List Framed → Type 0)
    (waiting frame after : List ℕ)
    (check : Check) (desk : DeskState) (reply : Reply) → IsReadNow desk now.seat → reading desk check ≡ IsReady reply
    → frame ≡ spelling (with_sequence check.sequence (message_of reply))
    → Notes now.recording (judged_by (cause_at desk check.question) check.question reply) recording
    → after ≡ waiting ++ frame
    → StandsBy start now Has waiting (check ∷ []) → StandsBy start (record now { recording = recording }) Has after []
answered_by_policies start now recording Has waiting frame after check desk reply now_read is spelled noted put s =
    answered_with start now now.tally now.calls recording Has waiting after check desk None reply s now_read
    (subst (λ (seen : Reading). Answers seen check.question None reply) (sym is) (refl, refl))
    refl (calls_same now.calls)
    (subst (λ (list : List AskMade). length list ≤ 1) (sym (append-nil (calls_for s.unsent))) s.few)
    noted (put ∙ ap (λ bytes. waiting ++ bytes) spelled)

-- that one and no other
pub answered_by_policies_all : (start now : ClientSide) (recording : Option Recording) (Has : List ℕ → List Framed → Type 0)
    (waiting frame after : List ℕ)
    (check : Check) (desk : DeskState) (reply : Reply) → (now_read : IsReadNow desk now.seat) → (is : reading desk check ≡ IsReady reply)
    → (spelled : frame ≡ spelling (with_sequence check.sequence (message_of reply)))
    → (noted : Notes now.recording (judged_by (cause_at desk check.question) check.question reply) recording)
    → (put : after ≡ waiting ++ frame)
    → (s : StandsBy start now Has waiting (check ∷ []))
    → (answered_by_policies start now recording Has waiting frame after check desk reply now_read is spelled noted put s).sent
    ++ (answered_by_policies start now recording Has waiting frame after check desk reply now_read is spelled noted put s).unsent
    ≡ (s.sent ++ s.unsent) ++ record { check = check; desk = desk; call = None; reply = reply } ∷ []
unfolding answered_by_policies answered_with
answered_by_policies_all start now recording Has waiting frame after check desk reply now_read is spelled noted put s =
    sym (append_assoc s.sent s.unsent (record { check = check; desk = desk; call = None; reply = reply } ∷ []))

-- ---- replies are sent

pub flushed : (start now : ClientSide) (traffic : Option Traffic) (marks : LinkMarks) (faults : ℕ) (recording : Option Recording)
    (feeder : Feeding)
    (waiting : List ℕ) (taken : List Check) → Carried now.traffic traffic [] waiting → marks ≡ now.marks → faults ≡ now.faults
    → ChangesTold now.recording with_all_recorded recording → Stands start now feeder waiting taken
    → (s : Stands start (with_sent now traffic marks faults recording) feeder [] taken) × (s.unsent ≡ [])
flushed start now traffic marks faults recording feeder waiting taken sent_now same still recorded s =
    let all : s.sent ++ s.unsent ≡ (s.sent ++ s.unsent) ++ [] = sym (append-nil (s.sent ++ s.unsent)) in
    let bytes : replies_bytes s.sent ++ waiting ≡ replies_bytes (s.sent ++ s.unsent) =
    ap (λ list. replies_bytes s.sent ++ list) s.waits ∙ sym (replies_more s.sent s.unsent) in (
      record {
        received = s.received;
        sent = s.sent ++ s.unsent;
        unsent = [];
        right = subst (λ (list : List Answered). AllByRecursion IsRight list) all s.right;
        heard = subst (λ (list : List Answered). HasHeard s.received (frames_of list ++ map framed_of taken) feeder) all s.heard;
        carried = subst (λ list. Carried start.traffic traffic list (replies_bytes (s.sent ++ s.unsent))) (append-nil s.received)
            (subst (λ list. Carried start.traffic traffic (s.received ++ []) list) bytes
            (carried_more s.received [] (replies_bytes s.sent) waiting start.traffic now.traffic traffic s.carried sent_now));
        waits = refl;
        read = subst (λ (list : List Answered). AreReadIn now.seat.seen now.seat.note list) all s.read;
        seen = s.seen;
        rising = s.rising;
        same_seat = s.same_seat;
        tally = s.tally ∙ ap (λ list. after_asks (calls_for list) start.tally) all;
        calls = subst (λ (list : List Answered). AppendsCalls start.calls (map Ask (calls_for list)) now.calls) all s.calls;
        few = omega arith;
        kept = keeps_recorded start.recording now.recording recording s.sent s.unsent s.kept recorded;
        faults = still ∙ s.faults;
        ends = ap (λ (m : LinkMarks). m.ends) same ∙ s.ends;
      },
      refl,
    )

-- ---- bytes are received and heard

pub heard_more : (start now : ClientSide) (traffic : Option Traffic) (marks : LinkMarks) (faults : ℕ) (feeder fed : Feeding)
    (waiting bytes : List ℕ)
    → Carried now.traffic traffic bytes [] → HearsMore bytes feeder fed → marks.ends ≡ now.marks.ends → faults ≡ now.faults
    → (s : Stands start now feeder waiting [])
    → (after : Stands start (with_link now traffic marks faults) fed waiting []) × (after.unsent ≡ s.unsent)
heard_more start now traffic marks faults feeder fed waiting bytes carried heard same still s = (
  record {
    received = s.received ++ bytes;
    sent = s.sent;
    unsent = s.unsent;
    right = s.right;
    heard = heard s.received (frames_of (s.sent ++ s.unsent) ++ []) s.heard;
    carried = subst (λ list. Carried start.traffic traffic (s.received ++ bytes) list) (append-nil (replies_bytes s.sent))
        (carried_more s.received bytes (replies_bytes s.sent) [] start.traffic now.traffic traffic s.carried carried);
    waits = s.waits;
    read = s.read;
    seen = s.seen;
    rising = s.rising;
    same_seat = s.same_seat;
    tally = s.tally;
    calls = s.calls;
    few = s.few;
    kept = s.kept;
    faults = still ∙ s.faults;
    ends = same ∙ s.ends;
  },
  refl,
)

-- ---- the link is looked at

pub looked_at : (start now : ClientSide) (traffic : Option Traffic) (marks : LinkMarks) (faults : ℕ) (feeder : Feeding)
    (waiting : List ℕ) (taken : List Check)
    → KeepsTold now.traffic traffic → marks ≡ now.marks → faults ≡ now.faults
    → (s : Stands start now feeder waiting taken)
    → (after : Stands start (with_link now traffic marks faults) feeder waiting taken) × (after.unsent ≡ s.unsent)
looked_at start now traffic marks faults feeder waiting taken kept same still s = (
  record {
    received = s.received;
    sent = s.sent;
    unsent = s.unsent;
    right = s.right;
    heard = s.heard;
    carried = subst (λ list. Carried start.traffic traffic list (replies_bytes s.sent)) (append-nil s.received)
        (subst (λ list. Carried start.traffic traffic (s.received ++ []) list) (append-nil (replies_bytes s.sent))
        (carried_more s.received [] (replies_bytes s.sent) [] start.traffic now.traffic traffic s.carried
        (carried_nothing now.traffic traffic kept)));
    waits = s.waits;
    read = s.read;
    seen = s.seen;
    rising = s.rising;
    same_seat = s.same_seat;
    tally = s.tally;
    calls = s.calls;
    few = s.few;
    kept = s.kept;
    faults = still ∙ s.faults;
    ends = ap (λ (m : LinkMarks). m.ends) same ∙ s.ends;
  },
  refl,
)

-- ---- a piece is read where it stands

-- the same, but for what was heard
heard_so : (start now : ClientSide) (Had Has : List ℕ → List Framed → Type 0) (waiting : List ℕ) (before taken : List Check)
    → (s : StandsBy start now Had waiting before) → Has s.received (frames_of (s.sent ++ s.unsent) ++ map framed_of taken)
    → StandsBy start now Has waiting taken
heard_so start now Had Has waiting before taken s has = record {
  received = s.received;
  sent = s.sent;
  unsent = s.unsent;
  right = s.right;
  heard = has;
  carried = s.carried;
  waits = s.waits;
  read = s.read;
  seen = s.seen;
  rising = s.rising;
  same_seat = s.same_seat;
  tally = s.tally;
  calls = s.calls;
  few = s.few;
  kept = s.kept;
  faults = s.faults;
  ends = s.ends;
}

-- a piece was received where no frame is begun
pub meets_piece : (start now : ClientSide) (feeder : Feeding) (piece : List ℕ) → IsClean feeder → HasPiece start now feeder piece
    → Meets start now piece []
meets_piece start now feeder piece clean (told, s, carried) =
    let h : HasHeard s.received (frames_of (s.sent ++ s.unsent) ++ []) feeder = s.heard in
    let none : h.behind ≡ [] = (h.sound clean.failed).0 ∙ clean.partial in
    let frames : (frames_of (s.sent ++ s.unsent) ++ []) ++ feeder.waiting ≡ frames_of (s.sent ++ s.unsent) ++ [] =
    ap (λ list. (frames_of (s.sent ++ s.unsent) ++ []) ++ list) clean.waiting ∙ append-nil (frames_of (s.sent ++ s.unsent) ++ []) in
    let whole : Hears AtClient s.received (frames_of (s.sent ++ s.unsent) ++ []) [] =
    subst (λ rest. Hears AtClient s.received (frames_of (s.sent ++ s.unsent) ++ []) rest) none
    (subst (λ list. Hears AtClient s.received list h.behind) frames
    (subst (λ (heard : Heard). Hears heard s.received ((frames_of (s.sent ++ s.unsent) ++ []) ++ feeder.waiting) h.behind) clean.side
    h.heard)) in
    record {
      received = s.received ++ piece;
      sent = s.sent;
      unsent = s.unsent;
      right = s.right;
      heard = hears_more AtClient s.received piece (frames_of (s.sent ++ s.unsent) ++ []) [] whole;
      carried = subst (λ list. Carried start.traffic now.traffic (s.received ++ piece) list) (append-nil (replies_bytes s.sent))
          (carried_more s.received piece (replies_bytes s.sent) [] start.traffic told now.traffic s.carried carried);
      waits = s.waits;
      read = s.read;
      seen = s.seen;
      rising = s.rising;
      same_seat = s.same_seat;
      tally = s.tally;
      calls = s.calls;
      few = s.few;
      kept = s.kept;
      faults = s.faults;
      ends = s.ends;
    }

-- the check at the front of what is not read yet is taken
pub takes_front : (start now : ClientSide) (ahead behind waiting : List ℕ) (check : Check)
    → first_of AtClient ahead ≡ Whole (framed_of check) behind → Meets start now ahead waiting
    → StandsBy start now (HeardUpTo behind) waiting (check ∷ [])
takes_front start now ahead behind waiting check first s =
    let heard : Hears AtClient s.received (frames_of (s.sent ++ s.unsent)) ahead =
    subst (λ list. Hears AtClient s.received list ahead) (append-nil (frames_of (s.sent ++ s.unsent))) s.heard in
    heard_so start now (HeardUpTo ahead) (HeardUpTo behind) waiting [] (check ∷ []) s
    (hears_then AtClient s.received (frames_of (s.sent ++ s.unsent)) ahead (framed_of check ∷ []) behind heard (behind, first, refl))

-- none is answered by it
pub takes_front_all : (start now : ClientSide) (ahead behind waiting : List ℕ) (check : Check)
    → (first : first_of AtClient ahead ≡ Whole (framed_of check) behind) → (s : Meets start now ahead waiting)
    → (takes_front start now ahead behind waiting check first s).sent ++ (takes_front start now ahead behind waiting check first s).unsent
    ≡ s.sent ++ s.unsent
unfolding takes_front heard_so
takes_front_all start now ahead behind waiting check first s = refl

-- what is not read yet is heard by a feeder that has begun no frame
pub hears_rest : (start now : ClientSide) (feeder fed : Feeding) (ahead waiting : List ℕ) → IsClean feeder → HearsMore ahead feeder fed
    → fed.heard ≡ AtClient → Meets start now ahead waiting → Stands start now fed waiting []
hears_rest start now feeder fed ahead waiting clean hears side s =
    let before : HasHeard [] [] feeder = record {
      behind = [];
      heard = subst (λ list. Hears feeder.heard [] list []) (sym clean.waiting) refl;
      sound = λ none. (sym clean.partial, subst (λ list. IsOpen feeder.heard list) clean.partial (clean.sound none));
      wrong = λ refusal is. absurd (none_is_some refusal (sym clean.failed ∙ is));
    } in
    let after : HasHeard ahead [] fed = hears [] [] before in
    let frames : List Framed = frames_of (s.sent ++ s.unsent) ++ [] in
    heard_so start now (HeardUpTo ahead) (λ bytes list. HasHeard bytes list fed) waiting [] [] s (record {
      behind = after.behind;
      heard = subst (λ (heard : Heard). Hears heard s.received (frames ++ fed.waiting) after.behind) (sym side)
          (hears_then AtClient s.received frames ahead fed.waiting after.behind s.heard
          (subst (λ (heard : Heard). Hears heard ahead fed.waiting after.behind) side after.heard));
      sound = after.sound;
      wrong = after.wrong;
    })
  where
    none_is_some : (refusal : WireRefusal) → None ≡ Some refusal → ⊥
    none_is_some refusal is = cc

-- a piece was received, and is heard behind a frame that is begun
pub hears_whole : (start now : ClientSide) (feeder fed : Feeding) (piece : List ℕ) → HearsMore piece feeder fed
    → HasPiece start now feeder piece → Stands start now fed [] []
hears_whole start now feeder fed piece hears (told, s, carried) =
    (heard_more start (record now { traffic = told }) now.traffic now.marks now.faults feeder fed [] piece carried hears refl refl s).0
