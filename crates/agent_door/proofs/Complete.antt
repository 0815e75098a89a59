-- A connection around which nothing fails is heeded whole.
use Rattle.std.proofs.Common.{◌≡◌, ◌∙◌, ◌≤◌, ◌⊎◌, inl, inr, ℕ, true, List, [], ◌∷◌, ◌++◌, map, length, Result, Ok, Err, refl, sym}
use Rattle.std.proofs.Common.{ap, subst, append-nil, arith}
use Rattle.std.proofs.lemmas.List.{append_cancel_left}
use Rattle.std.specs.List.{flat_map}
use Rattle.desk_ports.specs.Faults.{next_count, last_count}
use Rattle.link_ports.specs.Traffic.{Traffic}
use Rattle.link_ports.specs.LinkMarks.{LinkMarks}
use Rattle.cynara_keys.specs.declared.results.Kind.{Kind}
use Rattle.agent_table.specs.declared.table.Asked.{Asked}
use Rattle.agent_table.specs.declared.refusals.RegisterRefusal.{RegisterRefusal}
use Rattle.agent_table.specs.declared.refusals.RegisterRefusal.TheVariants.{Stopped as NoneComes, Taken as KindTaken, Full, Memory as NoRoom}
use Rattle.wire_reading.specs.Frame.{spelling}
use Rattle.wire_fields.specs.Message.{operation}
use Rattle.wire_fields.specs.Operation.{number_of}
use Rattle.wire_reading.specs.Stream.{Hears, first_of}
use Rattle.wire_fields.specs.declared.messages.Framed.{Framed}
use Rattle.wire_fields.specs.declared.messages.Message.TheVariants.{Register}
use Rattle.wire_fields.specs.declared.operations.Heard.TheVariants.{AtAgent}
use Rattle.wire_fields.specs.declared.refusals.WireRefusal.TheVariants.{TooShort, TooLong, BadOperation, BadField, Trailing}
use Rattle.wire_fields.specs.declared.refusals.WireRefusal.TheVariants.{Memory as NoMemory}
use Rattle.wire_reading.proofs.Hearings.{heard_once}
use Rattle.server_hall.specs.Tally.{Tally, after_call, after_calls, after_join, after_part, stops_after_ask, stops_after_join}
use Rattle.server_hall.specs.Tally.{stops_after_next}
use Rattle.server_hall.specs.declared.calls.HallCall.{HallCall}
use Rattle.server_hall.specs.declared.calls.HallCall.TheVariants.{Ask, Join, Next, Answer as AnswerCalled, Look}
use Rattle.server_hall.specs.declared.refusals.NextRefusal.{NextRefusal}
use Rattle.server_hall.specs.declared.refusals.NextRefusal.TheVariants.{Stopped as NoneIsGiven, Memory as NoneForMemory, Left}
use Rattle.server_hall.specs.declared.refusals.AskRefusal.TheVariants.{Put, Gone, Stopped as AskStopped, Lost, Withdrawn}
use Rattle.server_hall.specs.Call.{AskResult}
use Rattle.door_frames.proofs.WholeFrames.{nothing_open, right_whole, same_whole, partial_not_whole, carried_so}
use Rattle.door_frames.specs.Carried.{Carried}
use Rattle.door_frames.specs.Ending.{faults_after}
use Rattle.door_frames.specs.declared.endings.Ended.{Ended}
use Rattle.door_frames.specs.declared.endings.Ended.TheVariants.{Closed, Cut, Hung, LinkFault, BadFrame, Stopped, Memory, Strayed}
use Rattle.agent_door.specs.Frame.{register_frame, registered_frame, taken_frame, answer_frame}
use Rattle.agent_door.specs.Round.{Round, rounds_calls, rounds_frames, rounds_told}
use Rattle.agent_door.specs.Serving.{AgentSide, Serves, Asks, Closes, EndsUnregistered, IsUnjoined, TellsRefusal, EndsHeeding, HasBegun, joined_calls}
use Rattle.agent_door.specs.Complete.{Stays, IsQuiet, Receives, Sends, HeedsEach, frames_of}
use Rattle.agent_door.specs.declared.messages.Answer.{Answer}
use Rattle.agent_door.specs.declared.messages.Registration.{Registration}
use Rattle.agent_door.proofs.Calls.{after_calls_more}

-- ---- counts

-- a count that rises does not stay
pub moves : (before between after : ℕ) → Stays before after → before ≤ between → next_count between ≤ after → ⊥
moves before between after (below, same) least rises = omega (arith, below, same, least, rises)

-- a count that is not past the last value does not fall
abbrev Kept : ℕ → ℕ → Type 0
Kept before after = (before ≤ after) × (after ≤ last_count)

ask_kept : (result : AskResult) (stops : ℕ) → stops ≤ last_count → Kept stops (stops_after_ask result stops)
ask_kept (Ok answered) stops fits = (omega arith, fits)
ask_kept (Err (Put refusal)) stops fits = (omega arith, fits)
ask_kept (Err (Gone number)) stops fits = (omega arith, fits)
ask_kept (Err AskStopped) stops fits = (omega (arith, fits), omega (arith, fits))
ask_kept (Err (Lost number)) stops fits = (omega arith, fits)
ask_kept (Err (Withdrawn number)) stops fits = (omega arith, fits)

join_kept : (result : Result (Unit {0}) RegisterRefusal) (stops : ℕ) → stops ≤ last_count → Kept stops (stops_after_join result stops)
join_kept (Ok done) stops fits = (omega arith, fits)
join_kept (Err NoneComes) stops fits = (omega (arith, fits), omega (arith, fits))
join_kept (Err (KindTaken kind)) stops fits = (omega arith, fits)
join_kept (Err Full) stops fits = (omega arith, fits)
join_kept (Err (NoRoom error)) stops fits = (omega arith, fits)

next_kept : (result : Result Asked NextRefusal) (stops : ℕ) → stops ≤ last_count → Kept stops (stops_after_next result stops)
next_kept (Ok asked) stops fits = (omega arith, fits)
next_kept (Err NoneIsGiven) stops fits = (omega (arith, fits), omega (arith, fits))
next_kept (Err (NoneForMemory error)) stops fits = (omega arith, fits)
next_kept (Err Left) stops fits = (omega arith, fits)

call_kept : (call : HallCall) (tally : Tally) → tally.stops ≤ last_count → Kept tally.stops (after_call call tally).stops
call_kept (Ask call) tally fits = ask_kept call.result tally.stops fits
call_kept (Join call) tally fits = join_kept call.result tally.stops fits
call_kept (Next call) tally fits = next_kept call.result tally.stops fits
call_kept (AnswerCalled call) tally fits = (omega arith, fits)
call_kept (Look number is_open) tally fits = (omega arith, fits)

calls_kept : (calls : List HallCall) (tally : Tally) → tally.stops ≤ last_count → Kept tally.stops (after_calls calls tally).stops
calls_kept [] tally fits = (omega arith, fits)
calls_kept (call ∷ calls) tally fits =
    let first : Kept tally.stops (after_call call tally).stops = call_kept call tally fits in
    let then : Kept (after_call call tally).stops (after_calls calls (after_call call tally)).stops =
    calls_kept calls (after_call call tally) first.1 in
    (omega (arith, first.0, then.0), then.1)

-- ---- bytes

same_list : (a b : Framed) (x y : List Framed) → a ∷ x ≡ b ∷ y → (a ≡ b) × (x ≡ y)
same_list a b x y same = (cc, cc)

not_empty : (a : Framed) (x : List Framed) → a ∷ x ≡ [] → ⊥
not_empty a x same = cc

-- a frame that is heard among answers is one
is_answer : (bytes : List ℕ) (before : List Framed) (framed : Framed) (more : List Framed) (rest : List ℕ) (answers : List Answer)
    → Hears AtAgent bytes (before ++ framed ∷ more) rest → Hears AtAgent bytes (map answer_frame answers) []
    → number_of (operation framed.message) ≡ 0x21
is_answer bytes [] framed more rest [] (behind, some, others) all =
    absurd (partial_not_whole framed behind (sym (nothing_open AtAgent) ∙ (ap (first_of AtAgent) (sym all) ∙ some)))
is_answer bytes (one ∷ before) framed more rest [] (behind, some, others) all =
    absurd (partial_not_whole one behind (sym (nothing_open AtAgent) ∙ (ap (first_of AtAgent) (sym all) ∙ some)))
is_answer bytes [] framed more rest (answer ∷ answers) (behind, some, others) (left, first, all) =
    ap (λ (f : Framed). number_of (operation f.message)) (same_whole framed (answer_frame answer) behind left (sym some ∙ first)).0
is_answer bytes (one ∷ before) framed more rest (answer ∷ answers) (behind, some, others) (left, first, all) =
    is_answer behind before framed more rest answers others
    (subst (λ list. Hears AtAgent list (map answer_frame answers) [])
    (sym (same_whole one (answer_frame answer) behind left (sym some ∙ first)).1) all)

abbrev registration_of : ℕ → Kind → Registration
registration_of sequence kind = record { sequence = sequence; kind = kind }

same_registration : (a b : Registration) → register_frame a ≡ register_frame b → a ≡ b
same_registration a b same =
    let sequence : a.sequence ≡ b.sequence = ap (λ (f : Framed). f.sequence) same in
    let kind : a.kind ≡ b.kind = same_kind a.kind b.kind (ap (λ (f : Framed). f.message) same) in
    both a.sequence b.sequence a.kind b.kind sequence kind
  where
    same_kind : (a b : Kind) → Register a ≡ Register b → a ≡ b
    same_kind a b same = cc

    both : (m n : ℕ) (k l : Kind) → m ≡ n → k ≡ l → registration_of m k ≡ registration_of n l
    both m n k l sequence kind = cc

-- the bytes that were received are those of the frames
pub heard_so : (start now : AgentSide) (frames : List Framed) (received sent : List ℕ) (r : Receives frames start now)
    → Carried start.traffic now.traffic received sent → Hears AtAgent received frames []
heard_so start now frames received sent r carried =
    let at = carried_so start.traffic now.traffic received sent r.before r.after carried r.told r.told_now in
    subst (λ list. Hears AtAgent list frames [])
    (sym (append_cancel_left r.before.received received r.bytes (sym (ap (λ (x : Traffic). x.received) at) ∙ r.received))) r.heard

pub sends_so : (start now : AgentSide) (frames sent : List Framed) (received : List ℕ) (others : List Framed)
    (r : Receives others start now)
    → Carried start.traffic now.traffic received (flat_map spelling sent) → sent ≡ frames → Sends frames start now
sends_so start now frames sent received others r carried is =
    let at = carried_so start.traffic now.traffic received (flat_map spelling sent) r.before r.after carried r.told r.told_now in
    record {
      before = r.before;
      after = r.after;
      told = r.told;
      told_now = r.told_now;
      sent = ap (λ (x : Traffic). x.sent) at ∙ ap (λ (list : List Framed). r.before.sent ++ flat_map spelling list) is;
    }

-- ---- no agent registered

-- an operation that is wrong, in place of the registration
misplaced_first : (received : List ℕ) (told : Registration) (answers : List Answer) (number : ℕ)
    → Hears AtAgent received (frames_of told answers) [] → EndsHeeding received [] (BadFrame (BadOperation number)) → ⊥
misplaced_first received told answers number heard (inl (rest, none, wrong, of_bytes)) =
    right_whole AtAgent received (frames_of told answers) [] rest (BadOperation number) heard none wrong of_bytes
misplaced_first received told answers number (left, first, all) (inr (framed, more, rest, (behind, some, others), is, place)) =
    let same = (same_whole framed (register_frame told) behind left (sym some ∙ first)).0 in
    let known : number_of (operation framed.message) ≡ 0x20 = ap (λ (f : Framed). number_of (operation f.message)) same in
    omega (arith, known, is, place)

-- and behind it
misplaced_later : (received : List ℕ) (told registration : Registration) (heeded : List Framed) (answers : List Answer) (number : ℕ)
    → Hears AtAgent received (frames_of told answers) []
    → EndsHeeding received (register_frame registration ∷ heeded) (BadFrame (BadOperation number)) → ⊥
misplaced_later received told registration heeded answers number heard (inl (rest, some, wrong, of_bytes)) =
    right_whole AtAgent received (frames_of told answers) (register_frame registration ∷ heeded) rest (BadOperation number) heard some
    wrong of_bytes
misplaced_later received told registration heeded answers number (left, first, all)
    (inr (framed, more, rest, (behind, some, others), is, place)) =
    let same = (same_whole (register_frame registration) (register_frame told) behind left (sym some ∙ first)).1 in
    let known : number_of (operation framed.message) ≡ 0x21 =
    is_answer behind heeded framed more rest answers others
    (subst (λ list. Hears AtAgent list (map answer_frame answers) []) (sym same) all) in
    omega (arith, known, is, place)

none_so : (result : Ended) (received : List ℕ) (told : Registration) (answers : List Answer) (faults faults_now : ℕ)
    → Hears AtAgent received (frames_of told answers) [] → EndsUnregistered result → EndsHeeding received [] result
    → Stays faults faults_now → faults_now ≡ faults_after result faults → result ≡ Memory
none_so Closed received told answers faults faults_now heard so bytes still counted =
    absurd (not_empty (register_frame told) (map answer_frame answers)
    (heard_once AtAgent received (frames_of told answers) [] [] [] heard (nothing_open AtAgent) bytes (nothing_open AtAgent)).0)
none_so (Cut count) received told answers faults faults_now heard so (rest, none, unfinished, length_is, many) still counted =
    absurd (not_empty (register_frame told) (map answer_frame answers)
    (heard_once AtAgent received (frames_of told answers) [] [] rest heard (nothing_open AtAgent) none unfinished).0)
none_so LinkFault received told answers faults faults_now heard so bytes still rose =
    absurd (moves faults faults faults_now still (omega arith) (omega (arith, rose)))
none_so (BadFrame (BadOperation number)) received told answers faults faults_now heard so bytes still counted =
    absurd (misplaced_first received told answers number heard bytes)
none_so (BadFrame (TooShort count)) received told answers faults faults_now heard so (rest, none, wrong, of_bytes) still counted =
    absurd (right_whole AtAgent received (frames_of told answers) [] rest (TooShort count) heard none wrong of_bytes)
none_so (BadFrame (TooLong count)) received told answers faults faults_now heard so (rest, none, wrong, of_bytes) still counted =
    absurd (right_whole AtAgent received (frames_of told answers) [] rest (TooLong count) heard none wrong of_bytes)
none_so (BadFrame (BadField place)) received told answers faults faults_now heard so (rest, none, wrong, of_bytes) still counted =
    absurd (right_whole AtAgent received (frames_of told answers) [] rest (BadField place) heard none wrong of_bytes)
none_so (BadFrame (Trailing place)) received told answers faults faults_now heard so (rest, none, wrong, of_bytes) still counted =
    absurd (right_whole AtAgent received (frames_of told answers) [] rest (Trailing place) heard none wrong of_bytes)
none_so (BadFrame (NoMemory error)) received told answers faults faults_now heard so (rest, none, wrong, of_bytes) still counted =
    absurd of_bytes
none_so Memory received told answers faults faults_now heard so bytes still counted = refl
none_so (Hung entered at) received told answers faults faults_now heard so bytes still counted = absurd so
none_so Stopped received told answers faults faults_now heard so bytes still counted = absurd so
none_so (Strayed number found) received told answers faults faults_now heard so bytes still counted = absurd so

-- ---- the hall did not take it in

refused_so : (refusal : RegisterRefusal) (result : Ended) (registration : Registration) (sent : List Framed) (start now : AgentSide)
    (answers : List Answer) → TellsRefusal registration refusal result sent → IsQuiet start now
    → now.tally ≡ after_join (record { kind = registration.kind; result = Err refusal }) start.tally
    → now.faults ≡ faults_after result start.faults
    → ((list : List Framed) → sent ≡ list → Sends list start now)
    → ((result ≡ Closed) × HeedsEach registration answers start now) ⊎ (result ≡ Memory)
refused_so (KindTaken kind) Closed registration sent start now answers is quiet tally faults sends =
    inl (refl, HeedsEach.taken (sends (taken_frame registration ∷ []) is))
refused_so (KindTaken kind) LinkFault registration sent start now answers is quiet tally rose sends =
    absurd (moves start.faults start.faults now.faults quiet.faults (omega arith) (omega (arith, rose)))
refused_so (KindTaken kind) Memory registration sent start now answers is quiet tally faults sends = inr refl
refused_so Full Closed registration sent start now answers is quiet tally faults sends =
    inl (refl, HeedsEach.taken (sends (taken_frame registration ∷ []) is))
refused_so Full LinkFault registration sent start now answers is quiet tally rose sends =
    absurd (moves start.faults start.faults now.faults quiet.faults (omega arith) (omega (arith, rose)))
refused_so Full Memory registration sent start now answers is quiet tally faults sends = inr refl
refused_so NoneComes Stopped registration sent start now answers is quiet tally faults sends =
    let rose : now.tally.stops ≡ next_count start.tally.stops = ap (λ (x : Tally). x.stops) tally in
    absurd (moves start.tally.stops start.tally.stops now.tally.stops quiet.stops (omega arith) (omega (arith, rose)))
refused_so (NoRoom error) Memory registration sent start now answers is quiet tally faults sends = inr refl
refused_so refusal result registration sent start now answers wrong quiet tally faults sends = absurd wrong

unjoined_so : (result : Ended) (start now : AgentSide) (told : Registration) (answers : List Answer) → IsUnjoined result start now
    → IsQuiet start now → (r : Receives (frames_of told answers) start now)
    → ((result ≡ Closed) × HeedsEach told answers start now) ⊎ (result ≡ Memory)
unjoined_so result start now told answers u quiet r =
    let (more, rest, (behind, some, others)) = u.bytes in
    let (left, first, all) = heard_so start now (frames_of told answers) u.received (flat_map spelling u.sent) r u.carried in
    let same : u.registration ≡ told = same_registration u.registration told
    (same_whole (register_frame u.registration) (register_frame told) behind left (sym some ∙ first)).0 in
    subst (λ (x : Registration). ((result ≡ Closed) × HeedsEach x answers start now) ⊎ (result ≡ Memory)) same
    (refused_so u.refusal result u.registration u.sent start now answers u.told quiet u.tally u.faults
    (λ list is. sends_so start now list u.sent u.received (frames_of told answers) r u.carried is))

-- ---- it was asked

-- the calls end with one that found the hall stopped
stopped_rises : (kind : Kind) (rounds : List Round) (last : List HallCall) (start tally : Tally)
    → tally ≡ after_calls (joined_calls kind rounds last) start
    → last ≡ Next (record { kind = kind; result = Err NoneIsGiven }) ∷ [] → Stays start.stops tally.stops → ⊥
stopped_rises kind rounds last start tally counted is still =
    let calls : List HallCall = Join (record { kind = kind; result = Ok tt }) ∷ rounds_calls kind rounds in
    let before : Tally = after_calls calls start in
    let at : tally ≡ after_call (Next (record { kind = kind; result = Err NoneIsGiven })) before = counted
    ∙ (after_calls_more calls last start ∙ ap (λ (list : List HallCall). after_calls list before) is) in
    let rose : tally.stops ≡ next_count before.stops = ap (λ (x : Tally). x.stops) at in
    let kept : Kept start.stops before.stops = calls_kept calls start (omega (arith, still.0)) in
    moves start.stops before.stops tally.stops still kept.0 (omega (arith, rose))

-- the frames that were heeded are a front of those that came
front_of : (bytes : List ℕ) (heeded frames : List Framed) → HasBegun bytes heeded → Hears AtAgent bytes frames []
    → (unheeded : List Framed) × (heeded ++ unheeded ≡ frames)
front_of bytes [] frames begun heard = (frames, refl)
front_of bytes (framed ∷ heeded) [] (more, rest, (behind, some, others)) heard =
    absurd (partial_not_whole framed behind (sym (nothing_open AtAgent) ∙ (ap (first_of AtAgent) (sym heard) ∙ some)))
front_of bytes (framed ∷ heeded) (other ∷ frames) (more, rest, (behind, some, others)) (left, first, all) =
    let same = same_whole framed other behind left (sym some ∙ first) in
    let back = front_of behind heeded frames (more, rest, others)
    (subst (λ list. Hears AtAgent list frames []) (sym same.1) all) in
    (back.0, both framed other (heeded ++ back.0) frames same.0 back.1)
  where
    both : (a b : Framed) (x y : List Framed) → a ≡ b → x ≡ y → a ∷ x ≡ b ∷ y
    both a b x y one two = cc

-- all that was due was sent
all_sent : (registration : Registration) (start last : AgentSide) (result : Ended) (a : Asks registration start last result)
    → a.missing ≡ [] → a.sent ≡ registered_frame registration ∷ rounds_told registration.kind (a.rounds ++ a.open_round)
all_sent registration start last result a none = sym (a.due ∙ (ap (λ list. a.sent ++ list) none ∙ append-nil a.sent))

-- how a connection that ended as `Closed` was heeded
closed_so : (start last : AgentSide) (told registration : Registration) (answers : List Answer)
    (a : Asks registration start last Closed) → Receives (frames_of told answers) start last → HeedsEach told answers start last
closed_so start last told registration answers a r =
    let heeded : List Framed = register_frame registration ∷ rounds_frames (a.rounds ++ a.open_round) in
    let heard : Hears AtAgent a.received (frames_of told answers) [] =
    heard_so start last (frames_of told answers) a.received (flat_map spelling a.sent) r a.carried in
    let sent = all_sent registration start last Closed a a.missed in
    let sends : Sends (registered_frame registration ∷ rounds_told registration.kind (a.rounds ++ a.open_round)) start last =
    sends_so start last (registered_frame registration ∷ rounds_told registration.kind (a.rounds ++ a.open_round)) a.sent a.received
    (frames_of told answers) r a.carried sent in
    elim a.asking [
      | Closes.at_end one none whole mark ↦
          let same = same_list (register_frame registration) (register_frame told) (rounds_frames (a.rounds ++ a.open_round))
          (map answer_frame answers)
          (heard_once AtAgent a.received heeded (frames_of told answers) [] [] whole (nothing_open AtAgent) heard (nothing_open AtAgent)).0 in
          subst (λ (x : Registration). HeedsEach x answers start last) (same_registration registration told same.0)
          (HeedsEach.asked a.rounds a.open_round a.whole a.unanswered one same.1 sends)
      | Closes.too_late one none begun ↦
          let (unheeded, front) = front_of a.received heeded (frames_of told answers) begun heard in
          let same = same_list (register_frame registration) (register_frame told)
          (rounds_frames (a.rounds ++ a.open_round) ++ unheeded) (map answer_frame answers) front in
          subst (λ (x : Registration). HeedsEach x answers start last) (same_registration registration told same.0)
          (HeedsEach.too_late a.rounds a.open_round unheeded a.whole a.unanswered one same.1 sends)
      | Closes.has_left none is begun down ↦
          let all : a.rounds ++ a.open_round ≡ a.rounds = ap (λ (rounds : List Round). a.rounds ++ rounds) none ∙ append-nil a.rounds in
          let (unheeded, front) = front_of a.received heeded (frames_of told answers) begun heard in
          let same = same_list (register_frame registration) (register_frame told)
          (rounds_frames (a.rounds ++ a.open_round) ++ unheeded) (map answer_frame answers) front in
          subst (λ (x : Registration). HeedsEach x answers start last) (same_registration registration told same.0)
          (HeedsEach.has_left a.rounds unheeded a.whole down
          (ap (λ (rounds : List Round). rounds_frames rounds ++ unheeded) (sym all) ∙ same.1)
          (subst (λ (rounds : List Round). Sends (registered_frame registration ∷ rounds_told registration.kind rounds) start last) all
          sends))
    ]

asked_so : (result : Ended) (start last : AgentSide) (told registration : Registration) (answers : List Answer)
    (a : Asks registration start last result)
    → IsQuiet start last → (r : Receives (frames_of told answers) start last)
    → ((result ≡ Closed) × HeedsEach told answers start last) ⊎ (result ≡ Memory)
asked_so Closed start last told registration answers a quiet r = inl (refl, closed_so start last told registration answers a r)
asked_so (Cut count) start last told registration answers a quiet r =
    let (one, none, (rest, some, unfinished, length_is, many), mark) = a.asking in
    let heard : Hears AtAgent a.received (frames_of told answers) [] =
    heard_so start last (frames_of told answers) a.received (flat_map spelling a.sent) r a.carried in
    let same = (heard_once AtAgent a.received (register_frame registration ∷ rounds_frames (a.rounds ++ a.open_round))
    (frames_of told answers) rest []
    some unfinished heard (nothing_open AtAgent)).1 in
    absurd (omega (arith, sym (ap length same) ∙ length_is, many))
asked_so LinkFault start last told registration answers a quiet r =
    let (between, least, rose) = a.faults in
    absurd (moves start.faults between last.faults quiet.faults least (omega (arith, rose)))
asked_so (BadFrame (BadOperation number)) start last told registration answers a quiet r =
    absurd (misplaced_later a.received told registration (rounds_frames (a.rounds ++ a.open_round)) answers number
    (heard_so start last (frames_of told answers) a.received (flat_map spelling a.sent) r a.carried) a.asking.2)
asked_so (BadFrame (TooShort count)) start last told registration answers a quiet r =
    let (one, none, (rest, some, wrong, of_bytes)) = a.asking in
    absurd (right_whole AtAgent a.received (frames_of told answers)
    (register_frame registration ∷ rounds_frames (a.rounds ++ a.open_round)) rest
    (TooShort count)
    (heard_so start last (frames_of told answers) a.received (flat_map spelling a.sent) r a.carried) some wrong of_bytes)
asked_so (BadFrame (TooLong count)) start last told registration answers a quiet r =
    let (one, none, (rest, some, wrong, of_bytes)) = a.asking in
    absurd (right_whole AtAgent a.received (frames_of told answers)
    (register_frame registration ∷ rounds_frames (a.rounds ++ a.open_round)) rest
    (TooLong count)
    (heard_so start last (frames_of told answers) a.received (flat_map spelling a.sent) r a.carried) some wrong of_bytes)
asked_so (BadFrame (BadField place)) start last told registration answers a quiet r =
    let (one, none, (rest, some, wrong, of_bytes)) = a.asking in
    absurd (right_whole AtAgent a.received (frames_of told answers)
    (register_frame registration ∷ rounds_frames (a.rounds ++ a.open_round)) rest
    (BadField place)
    (heard_so start last (frames_of told answers) a.received (flat_map spelling a.sent) r a.carried) some wrong of_bytes)
asked_so (BadFrame (Trailing place)) start last told registration answers a quiet r =
    let (one, none, (rest, some, wrong, of_bytes)) = a.asking in
    absurd (right_whole AtAgent a.received (frames_of told answers)
    (register_frame registration ∷ rounds_frames (a.rounds ++ a.open_round)) rest
    (Trailing place)
    (heard_so start last (frames_of told answers) a.received (flat_map spelling a.sent) r a.carried) some wrong of_bytes)
asked_so (BadFrame (NoMemory error)) start last told registration answers a quiet r =
    let (one, none, (rest, some, wrong, of_bytes)) = a.asking in
    absurd of_bytes
asked_so Stopped start last told registration answers a quiet r =
    let (none, is, begun) = a.asking in
    absurd (stopped_rises registration.kind (a.rounds ++ a.open_round) a.last start.tally last.tally a.tally is quiet.stops)
asked_so Memory start last told registration answers a quiet r = inr refl
asked_so (Hung entered at) start last told registration answers a quiet r = absurd a.asking
asked_so (Strayed number found) start last told registration answers a quiet r = absurd a.asking

-- the agent parts, which neither counts a stop nor sends anything
parted : (result : Ended) (start now last : AgentSide) (told : Registration) (answers : List Answer) (tally : Tally)
    → now ≡ record last { tally = tally } → tally.stops ≡ last.tally.stops
    → (IsQuiet start last → Receives (frames_of told answers) start last
    → ((result ≡ Closed) × HeedsEach told answers start last) ⊎ (result ≡ Memory))
    → IsQuiet start now → Receives (frames_of told answers) start now
    → ((result ≡ Closed) × HeedsEach told answers start now) ⊎ (result ≡ Memory)
parted result start now last told answers tally is stops so quiet r =
    let faults : now.faults ≡ last.faults = ap (λ (x : AgentSide). x.faults) is in
    let same_stops : now.tally.stops ≡ last.tally.stops = ap (λ (x : AgentSide). x.tally.stops) is ∙ stops in
    let traffic : now.traffic ≡ last.traffic = ap (λ (x : AgentSide). x.traffic) is in
    back (so
    (record {
      faults = subst (λ count. Stays start.faults count) faults quiet.faults;
      stops = subst (λ count. Stays start.tally.stops count) same_stops quiet.stops;
    })
    (record {
      before = r.before;
      after = r.after;
      bytes = r.bytes;
      told = r.told;
      told_now = sym traffic ∙ r.told_now;
      received = r.received;
      heard = r.heard;
    }))
  where
    marks : now.marks ≡ last.marks
    marks = ap (λ (x : AgentSide). x.marks) is

    sends : (frames : List Framed) → last.traffic ≡ now.traffic → Sends frames start last → Sends frames start now
    sends frames same s = record {
      before = s.before;
      after = s.after;
      told = s.told;
      told_now = sym same ∙ s.told_now;
      sent = s.sent;
    }

    heeds : last.traffic ≡ now.traffic → HeedsEach told answers start last → HeedsEach told answers start now
    heeds same (HeedsEach.asked rounds open_round whole unanswered one frames sent) =
        HeedsEach.asked rounds open_round whole unanswered one frames
        (sends (registered_frame told ∷ rounds_told told.kind (rounds ++ open_round)) same sent)
    heeds same (HeedsEach.too_late rounds open_round unheeded whole unanswered one frames sent) =
        HeedsEach.too_late rounds open_round unheeded whole unanswered one frames
        (sends (registered_frame told ∷ rounds_told told.kind (rounds ++ open_round)) same sent)
    heeds same (HeedsEach.has_left rounds unheeded whole down frames sent) =
        HeedsEach.has_left rounds unheeded whole (subst (λ (x : LinkMarks). x.is_down ≡ true) (sym marks) down) frames
        (sends (registered_frame told ∷ rounds_told told.kind rounds) same sent)
    heeds same (HeedsEach.taken sent) = HeedsEach.taken (sends (taken_frame told ∷ []) same sent)

    back : ((result ≡ Closed) × HeedsEach told answers start last) ⊎ (result ≡ Memory)
        → ((result ≡ Closed) × HeedsEach told answers start now) ⊎ (result ≡ Memory)
    back (inl (closed, each)) = inl (closed, heeds (sym (ap (λ (x : AgentSide). x.traffic) is)) each)
    back (inr memory) = inr memory

pub complete : (result : Ended) (start now : AgentSide) (told : Registration) (answers : List Answer) → Serves result start now
    → IsQuiet start now → Receives (frames_of told answers) start now
    → ((result ≡ Closed) × HeedsEach told answers start now) ⊎ (result ≡ Memory)
complete result start now told answers serves quiet r =
    elim serves [
      | Serves.unregistered u ↦
          inr (none_so result u.received told answers start.faults now.faults
          (heard_so start now (frames_of told answers) u.received [] r u.carried) u.ended_so u.bytes quiet.faults u.faults)
      | Serves.unjoined u ↦ unjoined_so result start now told answers u quiet r
      | Serves.joined registration last asks is ↦
          parted result start now last told answers (after_part registration.kind last.tally) is refl
          (λ still received. asked_so result start last told registration answers asks still received) quiet r
    ]
