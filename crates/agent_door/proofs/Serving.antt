-- Each kind of step keeps how the serving of an agent stands, or ends it.
use Rattle.std.proofs.Common.{◌≡◌, ◌∙◌, ◌≤◌, ◌<◌, ◌⊎◌, ◌==◌, ℕ, suc, Bool, true, false, not, List, [], ◌∷◌, ◌++◌, length, Option, Some, None, Result}
use Rattle.std.proofs.Common.{Ok, Err, inl, inr, refl, sym, ap, subst, append_assoc, append-nil, arith}
use Rattle.std.proofs.lemmas.Grind.{flat_map-append}
use Rattle.std.proofs.lemmas.Bool.{cases_eq}
use Rattle.std.proofs.lemmas.Bool.Decides.{Decides-eqb}
use Rattle.std.specs.List.{AllByRecursion, flat_map}
use Rattle.link_ports.specs.Told.{KeepsTold}
use Rattle.link_ports.specs.Traffic.{Traffic}
use Rattle.link_ports.specs.LinkMarks.{LinkMarks}
use Rattle.cynara_keys.specs.declared.results.Kind.{Kind}
use Rattle.agent_table.specs.declared.refusals.AnswerRefusal.{AnswerRefusal}
use Rattle.agent_table.specs.declared.table.Asked.{Asked}
use Rattle.wire_reading.specs.Frame.{spelling}
use Rattle.wire_reading.specs.Stream.{Feeding, Hears, BeginsWrong, IsOpen}
use Rattle.wire_fields.specs.declared.messages.Framed.{Framed}
use Rattle.wire_fields.specs.declared.operations.Heard.{Heard}
use Rattle.wire_fields.specs.declared.operations.Heard.TheVariants.{AtAgent}
use Rattle.wire_fields.specs.declared.refusals.WireRefusal.{WireRefusal}
use Rattle.wire_fields.specs.declared.refusals.WireRefusal.TheVariants.{TooShort, TooLong, BadOperation, BadField, Trailing}
use Rattle.wire_fields.specs.declared.refusals.WireRefusal.TheVariants.{Memory as NoMemory}
use Rattle.server_hall.specs.Tally.{after_call, after_calls}
use Rattle.server_hall.specs.Told.{AppendsCalls}
use Rattle.server_hall.specs.declared.calls.HallCall.{HallCall}
use Rattle.server_hall.specs.declared.calls.HallCall.TheVariants.{Next}
use Rattle.server_hall.specs.Found.{marks_after_next, CountsNext}
use Rattle.server_hall.specs.declared.refusals.NextRefusal.{NextRefusal}
use Rattle.server_hall.specs.declared.refusals.NextRefusal.TheVariants.{Stopped as NoneIsGiven, Memory as NoneForMemory, Left}
use Rattle.door_frames.specs.Carried.{Carried}
use Rattle.door_frames.specs.Hearing.{HasHeard, HearsMore, HandsOut}
use Rattle.door_frames.specs.Ending.{EndsReading, EndsSending, EndsBytes, faults_after}
use Rattle.door_frames.specs.declared.endings.Ended.{Ended}
use Rattle.door_frames.specs.declared.endings.Ended.TheVariants.{Closed, Cut, Hung, LinkFault, BadFrame, Stopped, Memory, Strayed}
use Rattle.door_frames.proofs.Carrying.{carried_more, carried_same, carried_nothing}
use Rattle.agent_door.specs.Frame.{register_frame, registered_frame, answer_frame, question_frame, unknown_frame, withdrawn_frame}
use Rattle.agent_door.specs.Frame.{IsOutOfPlace}
use Rattle.agent_door.specs.Round.{Turn, Round, IsWhole, IsOpen as IsOpenRound, IsInVain, IsLast, turn_call, look_call, rounds_calls}
use Rattle.agent_door.specs.Round.{turn_frames, rounds_frames, turn_told, rounds_told, told_of, told_at}
use Rattle.agent_door.specs.Serving.{AgentSide, Asks, Closes, EndsAsking, EndsHeeding, HasHeededAll, HasBegun, MayMiss, RaisesFaults}
use Rattle.agent_door.specs.Serving.{joined_calls, refused_next}
use Rattle.agent_door.specs.parts.Talk.{Waiting, Stands, EndsHearing, HandsIn, LooksIn, HasJoined, waiting_since, open_of, AreInVain}
use Rattle.agent_door.specs.parts.Talk.{TakesTurn}
use Rattle.agent_door.specs.declared.messages.Answer.{Answer}
use Rattle.agent_door.specs.declared.messages.Registration.{Registration}
use Rattle.agent_door.proofs.Calls.{after_calls_more, calls_same, calls_more}
use Rattle.agent_door.proofs.Growing.{with_turn, round_of, calls_grow, frames_grow, told_grows, calls_open, frames_open, told_open}
use Rattle.agent_door.proofs.Growing.{vain_more, count_more, whole_more}

true_is_false : true ≡ false → ⊥
true_is_false is = cc

-- the bytes of some frames and of others behind them
abbrev bytes_of : List Framed → List ℕ
bytes_of frames = flat_map spelling frames

-- the frames that an agent was heard to say, and those that it was told, in these rounds
abbrev said : Registration → List Round → List Framed
said registration rounds = register_frame registration ∷ rounds_frames rounds

abbrev told : Registration → List Round → List Framed
told registration rounds = registered_frame registration ∷ rounds_told registration.kind rounds

-- the calls of an agent that has joined, and one behind them
joined_more : (kind : Kind) (rounds more : List Round) (call : HallCall)
    → rounds_calls kind more ≡ rounds_calls kind rounds ++ call ∷ []
    → joined_calls kind more [] ≡ joined_calls kind rounds [] ++ call ∷ []
joined_more kind rounds more call is =
    ap (λ (list : List HallCall). joined_calls kind [] list)
    (append-nil (rounds_calls kind more) ∙ (is ∙ ap (λ list. list ++ call ∷ []) (sym (append-nil (rounds_calls kind rounds)))))

-- ---- one further call and one further frame that came, with frames that were sent

-- one call was made
record Makes (call : HallCall) (old new : AgentSide) : Type 0 where
  pub counted : new.tally ≡ after_call call old.tally
  pub told : AppendsCalls old.calls (call ∷ []) new.calls
  pub faults : old.faults ≤ new.faults
  pub ends : new.marks.ends ≡ old.marks.ends

stands_more : (registration : Registration) (start old new : AgentSide) (feeder fed : Feeding) (waiting next : Option Waiting)
    (s : Stands registration start old feeder waiting) (rounds : List Round) (turns : List Turn) (bytes : List ℕ) (sent : List ℕ)
    → AllByRecursion IsWhole rounds → AreInVain next turns
    → HasHeard (s.received ++ bytes) (said registration (rounds ++ open_of next turns)) fed
    → Carried old.traffic new.traffic bytes sent
    → bytes_of (told registration (s.rounds ++ open_of waiting s.turns)) ++ sent ≡ bytes_of (told registration (rounds ++ open_of next turns))
    → (call : HallCall) → Makes call old new
    → rounds_calls registration.kind (rounds ++ open_of next turns)
    ≡ rounds_calls registration.kind (s.rounds ++ open_of waiting s.turns) ++ call ∷ []
    → Stands registration start new fed next
stands_more registration start old new feeder fed waiting next s rounds turns bytes sent whole others heard carried due call made calls =
    let all : joined_calls registration.kind (rounds ++ open_of next turns) []
    ≡ joined_calls registration.kind (s.rounds ++ open_of waiting s.turns) [] ++ call ∷ [] =
    joined_more registration.kind (s.rounds ++ open_of waiting s.turns) (rounds ++ open_of next turns) call calls in
    record {
      received = s.received ++ bytes;
      rounds = rounds;
      turns = turns;
      whole = whole;
      others = others;
      heard = heard;
      carried = subst (λ list. Carried start.traffic new.traffic (s.received ++ bytes) list) due
          (carried_more s.received bytes (bytes_of (told registration (s.rounds ++ open_of waiting s.turns))) sent
          start.traffic old.traffic new.traffic s.carried carried);
      tally = made.counted ∙ (ap (after_call call) s.tally
          ∙ (sym (after_calls_more (joined_calls registration.kind (s.rounds ++ open_of waiting s.turns) []) (call ∷ []) start.tally)
          ∙ ap (λ list. after_calls list start.tally) (sym all)));
      calls = subst (λ (list : List HallCall). AppendsCalls start.calls list new.calls) (sym all)
          (calls_more (joined_calls registration.kind (s.rounds ++ open_of waiting s.turns) []) (call ∷ []) start.calls old.calls new.calls
          s.calls made.told);
      faults = omega (arith, s.faults, made.faults);
      ends = made.ends ∙ s.ends;
    }

-- the frame of a turn was heard, if it has one
abbrev HearsTurn : List ℕ → Turn → Feeding → Feeding → Type 0
HearsTurn more turn old new =
    (bytes : List ℕ) (taken : List Framed) → HasHeard bytes taken old → HasHeard (bytes ++ more) (taken ++ turn_frames turn) new

hears_none : (more : List ℕ) (is_open : Bool) (old new : Feeding) → HearsMore more old new → HearsTurn more (Turn.looked is_open) old new
hears_none more is_open old new hears bytes taken before =
    subst (λ (frames : List Framed). HasHeard (bytes ++ more) frames new) (sym (append-nil taken)) (hears bytes taken before)

-- what was heard, and what is told, with a further turn
turn_heard : (registration : Registration) (rounds : List Round) (asked : Asked) (turns : List Turn) (turn : Turn) (received bytes : List ℕ)
    (feeder fed : Feeding) → HearsTurn bytes turn feeder fed
    → HasHeard received (said registration (rounds ++ round_of asked turns ∷ [])) feeder
    → HasHeard (received ++ bytes) (said registration (rounds ++ with_turn asked turns turn ∷ [])) fed
turn_heard registration rounds asked turns turn received bytes feeder fed hears heard =
    subst (λ (frames : List Framed). HasHeard (received ++ bytes) (register_frame registration ∷ frames) fed)
    (sym (frames_grow rounds asked turns turn)) (hears received (said registration (rounds ++ round_of asked turns ∷ [])) heard)

turn_due : (registration : Registration) (rounds : List Round) (asked : Asked) (turns : List Turn) (turn : Turn)
    → bytes_of (told registration (rounds ++ round_of asked turns ∷ [])) ++ bytes_of (turn_told asked turn)
    ≡ bytes_of (told registration (rounds ++ with_turn asked turns turn ∷ []))
turn_due registration rounds asked turns turn =
    sym (flat_map-append spelling (told registration (rounds ++ round_of asked turns ∷ [])) (turn_told asked turn))
    ∙ ap (λ (frames : List Framed). bytes_of (registered_frame registration ∷ frames))
    (sym (told_grows registration.kind rounds asked turns turn))

-- a turn in vain
turned_on : (registration : Registration) (start old new : AgentSide) (feeder fed : Feeding) (asked : Asked) (count : ℕ) (turn : Turn)
    (bytes : List ℕ) → IsInVain asked turn → HearsTurn bytes turn feeder fed
    → Carried old.traffic new.traffic bytes (bytes_of (turn_told asked turn)) → Makes (turn_call registration.kind asked turn) old new
    → Stands registration start old feeder (Some (waiting_since asked count))
    → Stands registration start new fed (Some (waiting_since asked (suc count)))
turned_on registration start old new feeder fed asked count turn bytes vain hears carried made s =
    stands_more registration start old new feeder fed (Some (waiting_since asked count)) (Some (waiting_since asked (suc count))) s s.rounds
    (s.turns ++ turn ∷ []) bytes (bytes_of (turn_told asked turn)) s.whole
    (vain_more asked s.turns turn s.others.0 vain, count_more s.turns turn ∙ ap suc s.others.1)
    (turn_heard registration s.rounds asked s.turns turn s.received bytes feeder fed hears s.heard) carried
    (turn_due registration s.rounds asked s.turns turn) (turn_call registration.kind asked turn) made
    (calls_grow registration.kind s.rounds asked s.turns turn)

-- the round with a turn that closes it
closed_round : (rounds : List Round) (asked : Asked) (count : ℕ) (turns : List Turn) (turn : Turn) → AllByRecursion IsWhole rounds
    → AreInVain (Some (waiting_since asked count)) turns → count < 600 → IsLast asked turn
    → AllByRecursion IsWhole (rounds ++ with_turn asked turns turn ∷ [])
closed_round rounds asked count turns turn whole others few last =
    whole_more IsWhole rounds (with_turn asked turns turn) whole
    (turns, turn, refl, others.0, subst (λ n. n < 600) (sym others.1) few, last)

-- a turn that closes the round
turned_off : (registration : Registration) (start old new : AgentSide) (feeder fed : Feeding) (asked : Asked) (count : ℕ) (turn : Turn)
    (bytes : List ℕ) → count < 600 → IsLast asked turn → HearsTurn bytes turn feeder fed
    → Carried old.traffic new.traffic bytes (bytes_of (turn_told asked turn)) → Makes (turn_call registration.kind asked turn) old new
    → Stands registration start old feeder (Some (waiting_since asked count)) → Stands registration start new fed None
turned_off registration start old new feeder fed asked count turn bytes few last hears carried made s =
    let round : Round = with_turn asked s.turns turn in
    let all : s.rounds ++ round ∷ [] ≡ (s.rounds ++ round ∷ []) ++ [] = sym (append-nil (s.rounds ++ round ∷ [])) in
    stands_more registration start old new feeder fed (Some (waiting_since asked count)) None s (s.rounds ++ round ∷ []) [] bytes
    (bytes_of (turn_told asked turn)) (closed_round s.rounds asked count s.turns turn s.whole s.others few last) refl
    (subst (λ (rounds : List Round). HasHeard (s.received ++ bytes) (said registration rounds) fed) all
    (turn_heard registration s.rounds asked s.turns turn s.received bytes feeder fed hears s.heard)) carried
    (turn_due registration s.rounds asked s.turns turn ∙ ap (λ (rounds : List Round). bytes_of (told registration rounds)) all)
    (turn_call registration.kind asked turn) made
    (ap (rounds_calls registration.kind) (sym all) ∙ calls_grow registration.kind s.rounds asked s.turns turn)

-- a question was given and sent
pub asks_next : (registration : Registration) (start old new : AgentSide) (feeder : Feeding) (asked : Asked)
    → Carried old.traffic new.traffic [] (spelling (question_frame registration.kind asked))
    → new.tally ≡ after_call (Next (record { kind = registration.kind; result = Ok asked })) old.tally
    → AppendsCalls old.calls (Next (record { kind = registration.kind; result = Ok asked }) ∷ []) new.calls
    → old.faults ≤ new.faults → new.marks.ends ≡ old.marks.ends
    → Stands registration start old feeder None → Stands registration start new feeder (Some (waiting_since asked 0))
asks_next registration start old new feeder asked carried counted made still ends s =
    let heard : HasHeard (s.received ++ []) (said registration (s.rounds ++ round_of asked [] ∷ [])) feeder =
    subst (λ (frames : List Framed). HasHeard (s.received ++ []) (register_frame registration ∷ frames) feeder)
    (sym (frames_open s.rounds asked))
    (subst (λ list. HasHeard list (said registration (s.rounds ++ [])) feeder) (sym (append-nil s.received)) s.heard) in
    let due : bytes_of (told registration (s.rounds ++ [])) ++ spelling (question_frame registration.kind asked)
    ≡ bytes_of (told registration (s.rounds ++ round_of asked [] ∷ [])) =
    ap (λ list. bytes_of (told registration (s.rounds ++ [])) ++ list)
    (sym (append-nil (spelling (question_frame registration.kind asked))))
    ∙ (sym (flat_map-append spelling (told registration (s.rounds ++ [])) (question_frame registration.kind asked ∷ []))
    ∙ ap (λ (frames : List Framed). bytes_of (registered_frame registration ∷ frames)) (sym (told_open registration.kind s.rounds asked))) in
    stands_more registration start old new feeder feeder None (Some (waiting_since asked 0)) s s.rounds [] []
    (spelling (question_frame registration.kind asked)) s.whole (tt, refl) heard carried due
    (Next (record { kind = registration.kind; result = Ok asked }))
    (record { counted = counted; told = made; faults = still; ends = ends })
    (calls_open registration.kind s.rounds asked)

-- ---- ends

-- how a connection ended that did not end for its link
pub not_closed : Closed ≡ LinkFault → ⊥
not_closed same = cc

pub not_cut : (count : ℕ) → Cut count ≡ LinkFault → ⊥
not_cut count same = cc

pub not_bad : (refusal : WireRefusal) → BadFrame refusal ≡ LinkFault → ⊥
not_bad refusal same = cc

pub not_memory : Memory ≡ LinkFault → ⊥
not_memory same = cc

pub not_stopped : Stopped ≡ LinkFault → ⊥
not_stopped same = cc

-- a frame was not sent
not_sent : (framed : Framed) → framed ∷ [] ≡ [] → ⊥
not_sent framed same = cc

-- no frame waits, and what is behind them is less than one
pub heeded_all : (received : List ℕ) (heeded : List Framed) (fed : Feeding) → fed.waiting ≡ [] → fed.heard ≡ AtAgent → fed.failed ≡ None
    → (h : HasHeard received heeded fed) → HasHeededAll received heeded
heeded_all received heeded fed none side sound h = (
  h.behind,
  subst (λ (heard : Heard). Hears heard received heeded h.behind) side
      (subst (λ list. Hears fed.heard received list h.behind) (ap (λ list. heeded ++ list) none ∙ append-nil heeded) h.heard),
  subst (λ (heard : Heard). IsOpen heard h.behind) side (h.sound sound).1,
)

-- some frames may not be heeded
pub unheeded : (received : List ℕ) (frames : List Framed) (feeder : Feeding) → feeder.heard ≡ AtAgent → HasHeard received frames feeder
    → (more : List Framed) × (rest : List ℕ) × Hears AtAgent received (frames ++ more) rest
unheeded received frames feeder side heard =
    (feeder.waiting, heard.behind, subst (λ (h : Heard). Hears h received (frames ++ feeder.waiting) heard.behind) side heard.heard)

pub ends : (registration : Registration) (start old new : AgentSide) (feeder : Feeding) (waiting : Option Waiting)
    (s : Stands registration start old feeder waiting) (ended : Ended) (rounds open_round : List Round) (last made : List HallCall)
    (bytes : List ℕ) (missing : List Framed)
    → AllByRecursion IsWhole rounds → AllByRecursion IsOpenRound open_round
    → length open_round ≤ 1
    → EndsAsking registration.kind ended (s.received ++ bytes) (said registration (rounds ++ open_round)) open_round last new.marks
    → rounds_told registration.kind (rounds ++ open_round) ≡ rounds_told registration.kind (s.rounds ++ open_of waiting s.turns) ++ missing
    → MayMiss ended missing
    → (ended ≡ LinkFault → missing ≡ [] → HasHeededAll (s.received ++ bytes) (said registration (rounds ++ open_round)))
    → Carried old.traffic new.traffic bytes []
    → rounds_calls registration.kind (rounds ++ open_round) ++ last
    ≡ rounds_calls registration.kind (s.rounds ++ open_of waiting s.turns) ++ made
    → new.tally ≡ after_calls made old.tally → AppendsCalls old.calls made new.calls
    → RaisesFaults ended old.faults new.faults → new.marks.ends ≡ old.marks.ends
    → Asks registration start new ended
ends registration start old new feeder waiting s ended rounds open_round last made bytes missing whole unanswered one asking due missed
    heeds_all carried calls counted told_so faults same =
    let before : List Round = s.rounds ++ open_of waiting s.turns in
    let all : joined_calls registration.kind (rounds ++ open_round) last ≡ joined_calls registration.kind before [] ++ made =
    ap (λ (list : List HallCall). joined_calls registration.kind [] list)
    (calls ∙ ap (λ list. list ++ made) (sym (append-nil (rounds_calls registration.kind before)))) in
    let sent : List Framed = told registration before in
    record {
      received = s.received ++ bytes;
      rounds = rounds;
      open_round = open_round;
      last = last;
      sent = sent;
      missing = missing;
      whole = whole;
      unanswered = unanswered;
      one = one;
      asking = asking;
      all = heeds_all;
      due = ap (λ (frames : List Framed). registered_frame registration ∷ frames) due;
      missed = missed;
      carried = subst (λ list. Carried start.traffic new.traffic (s.received ++ bytes) list) (append-nil (bytes_of sent))
          (carried_more s.received bytes (bytes_of sent) [] start.traffic old.traffic new.traffic s.carried carried);
      tally = counted ∙ (ap (after_calls made) s.tally
          ∙ (sym (after_calls_more (joined_calls registration.kind before []) made start.tally)
          ∙ ap (λ list. after_calls list start.tally) (sym all)));
      calls = subst (λ (list : List HallCall). AppendsCalls start.calls list new.calls) (sym all)
          (calls_more (joined_calls registration.kind before []) made start.calls old.calls new.calls s.calls told_so);
      faults = (faults.0, omega (arith, s.faults, faults.1), faults.2);
      ends = same ∙ s.ends;
    }

-- ---- what `next` makes of the link

pub ends_after_refusal : (refusal : NextRefusal) (marks now : LinkMarks) → now ≡ marks_after_next (Err refusal) marks
    → now.ends ≡ marks.ends
ends_after_refusal NoneIsGiven marks now is = ap (λ (m : LinkMarks). m.ends) is
ends_after_refusal (NoneForMemory error) marks now is = ap (λ (m : LinkMarks). m.ends) is
ends_after_refusal Left marks now is = ap (λ (m : LinkMarks). m.ends) is

pub down_after_left : (refusal : NextRefusal) (marks now : LinkMarks) → refusal ≡ Left → now ≡ marks_after_next (Err refusal) marks
    → now.is_down ≡ true
down_after_left refusal marks now left is =
    ap (λ (m : LinkMarks). m.is_down) (is ∙ ap (λ (r : NextRefusal). marks_after_next (Err r) marks) left)

pub faults_after_refusal : (refusal : NextRefusal) (before after : ℕ) → CountsNext (Err refusal) before after → before ≤ after
faults_after_refusal NoneIsGiven before after still = omega (arith, still)
faults_after_refusal (NoneForMemory error) before after still = omega (arith, still)
faults_after_refusal Left before after counts = counts.1

-- the link was looked at, and then these bytes were sent
pub sent_behind : (before between after : Option Traffic) (sent : List ℕ) → KeepsTold before between → Carried between after [] sent
    → Carried before after [] sent
sent_behind before between after sent kept carried =
    carried_more [] [] [] sent before between after (carried_nothing before between kept) carried

-- ---- the kinds of ends

-- what was heard so far is heard still, where nothing more came
begun : (registration : Registration) (received : List ℕ) (rounds : List Round) (feeder : Feeding) → feeder.heard ≡ AtAgent
    → HasHeard received (said registration rounds) feeder → HasBegun (received ++ []) (said registration rounds)
begun registration received rounds feeder side heard =
    subst (λ list. HasBegun list (said registration rounds)) (sym (append-nil received))
    (unheeded received (said registration rounds) feeder side heard)

-- the hall gave no question
pub ends_for_next : (registration : Registration) (start old new : AgentSide) (feeder : Feeding) (ended : Ended) (refusal : NextRefusal)
    → feeder.heard ≡ AtAgent
    → ((bytes : List ℕ) (heeded : List Framed) → HasBegun bytes heeded
    → EndsAsking registration.kind ended bytes heeded [] (refused_next registration.kind refusal) new.marks)
    → MayMiss ended [] → (ended ≡ LinkFault → ⊥) → RaisesFaults ended old.faults new.faults
    → new.tally ≡ after_call (Next (record { kind = registration.kind; result = Err refusal })) old.tally
    → AppendsCalls old.calls (refused_next registration.kind refusal) new.calls
    → Carried old.traffic new.traffic [] [] → new.marks.ends ≡ old.marks.ends
    → Stands registration start old feeder None → Asks registration start new ended
ends_for_next registration start old new feeder ended refusal side asking missed no_fault faults counted made carried same s =
    let call : List HallCall = refused_next registration.kind refusal in
    ends registration start old new feeder None s ended s.rounds [] call call [] [] s.whole tt (omega arith)
    (asking (s.received ++ []) (said registration (s.rounds ++ [])) (begun registration s.received (s.rounds ++ []) feeder side s.heard))
    (sym (append-nil (rounds_told registration.kind (s.rounds ++ [])))) missed (λ fault. absurd (no_fault fault)) carried refl counted
    made faults same

unasked : (registration : Registration) (start old new : AgentSide) (feeder : Feeding) (ended : Ended) (asked : Asked)
    → feeder.heard ≡ AtAgent
    → ((bytes : List ℕ) (heeded : List Framed) → HasBegun bytes heeded
    → EndsAsking registration.kind ended bytes heeded (round_of asked [] ∷ []) [] new.marks)
    → MayMiss ended (question_frame registration.kind asked ∷ []) → RaisesFaults ended old.faults new.faults
    → new.tally ≡ after_call (Next (record { kind = registration.kind; result = Ok asked })) old.tally
    → AppendsCalls old.calls (Next (record { kind = registration.kind; result = Ok asked }) ∷ []) new.calls
    → Carried old.traffic new.traffic [] [] → new.marks.ends ≡ old.marks.ends
    → Stands registration start old feeder None → Asks registration start new ended
unasked registration start old new feeder ended asked side asking missed faults counted made carried same s =
    let heard : HasHeard s.received (said registration (s.rounds ++ round_of asked [] ∷ [])) feeder =
    subst (λ (list : List Framed). HasHeard s.received (register_frame registration ∷ list) feeder) (sym (frames_open s.rounds asked))
    s.heard in
    ends registration start old new feeder None s ended s.rounds (round_of asked [] ∷ []) []
    (Next (record { kind = registration.kind; result = Ok asked }) ∷ []) [] (question_frame registration.kind asked ∷ [])
    s.whole ((tt, omega arith), tt) (omega arith)
    (asking (s.received ++ []) (said registration (s.rounds ++ round_of asked [] ∷ []))
    (begun registration s.received (s.rounds ++ round_of asked [] ∷ []) feeder side heard))
    (told_open registration.kind s.rounds asked) missed
    (λ fault none. absurd (not_sent (question_frame registration.kind asked) none)) carried
    (append-nil (rounds_calls registration.kind (s.rounds ++ round_of asked [] ∷ [])) ∙ calls_open registration.kind s.rounds asked)
    counted made faults same

-- the question was given and not sent
pub ends_unasked : (registration : Registration) (start old new : AgentSide) (feeder : Feeding) (ended : Ended) (asked : Asked)
    (between : ℕ) → feeder.heard ≡ AtAgent → old.faults ≤ between → EndsSending ended between new.faults
    → new.tally ≡ after_call (Next (record { kind = registration.kind; result = Ok asked })) old.tally
    → AppendsCalls old.calls (Next (record { kind = registration.kind; result = Ok asked }) ∷ []) new.calls
    → Carried old.traffic new.traffic [] [] → new.marks.ends ≡ old.marks.ends
    → Stands registration start old feeder None → Asks registration start new ended
ends_unasked registration start old new feeder LinkFault asked between side least rose counted made carried same s =
    unasked registration start old new feeder LinkFault asked side (λ bytes heeded heard. (refl, heard)) (omega arith) (between, least, rose)
    counted made carried same s
ends_unasked registration start old new feeder Memory asked between side least still counted made carried same s =
    unasked registration start old new feeder Memory asked side (λ bytes heeded heard. (inl refl, heard)) (omega arith)
    (between, least, still) counted made carried same s
ends_unasked registration start old new feeder Closed asked between side least wrong counted made carried same s = absurd wrong
ends_unasked registration start old new feeder (Cut count) asked between side least wrong counted made carried same s = absurd wrong
ends_unasked registration start old new feeder (Hung entered now) asked between side least wrong counted made carried same s = absurd wrong
ends_unasked registration start old new feeder (BadFrame refusal) asked between side least wrong counted made carried same s = absurd wrong
ends_unasked registration start old new feeder Stopped asked between side least wrong counted made carried same s = absurd wrong
ends_unasked registration start old new feeder (Strayed number found) asked between side least wrong counted made carried same s =
    absurd wrong

-- ---- the question is not answered

-- a wrong frame is one where it stands
pub wrong_frame : (bytes : List ℕ) (heeded : List Framed) (refusal : WireRefusal) → EndsBytes AtAgent bytes heeded (BadFrame refusal)
    → EndsHeeding bytes heeded (BadFrame refusal)
wrong_frame bytes heeded (TooShort count) at = at
wrong_frame bytes heeded (TooLong count) at = at
wrong_frame bytes heeded (BadOperation number) at = inl at
wrong_frame bytes heeded (BadField place) at = at
wrong_frame bytes heeded (Trailing place) at = at
wrong_frame bytes heeded (NoMemory error) at = at

pub whole_heard : (received : List ℕ) (heeded : List Framed) (fed : Feeding) → fed.waiting ≡ [] → fed.heard ≡ AtAgent
    → (h : HasHeard received heeded fed) → Hears AtAgent received heeded h.behind
whole_heard received heeded fed none side h =
    subst (λ (heard : Heard). Hears heard received heeded h.behind) side
    (subst (λ list. Hears fed.heard received list h.behind) (ap (λ list. heeded ++ list) none ∙ append-nil heeded) h.heard)

-- what was asked stands, and no call was made
still_open : (registration : Registration) (start old new : AgentSide) (feeder : Feeding) (asked : Asked) (count : ℕ) (ended : Ended)
    (bytes : List ℕ) (s : Stands registration start old feeder (Some (waiting_since asked count))) → count ≤ 600
    → EndsAsking registration.kind ended (s.received ++ bytes) (said registration (s.rounds ++ round_of asked s.turns ∷ []))
    (round_of asked s.turns ∷ []) [] new.marks
    → MayMiss ended []
    → (ended ≡ LinkFault → HasHeededAll (s.received ++ bytes) (said registration (s.rounds ++ round_of asked s.turns ∷ [])))
    → new.tally ≡ old.tally → new.calls ≡ old.calls → Carried old.traffic new.traffic bytes []
    → RaisesFaults ended old.faults new.faults → new.marks.ends ≡ old.marks.ends
    → Asks registration start new ended
still_open registration start old new feeder asked count ended bytes s few asking missed heeds_all tally calls carried faults same =
    ends registration start old new feeder (Some (waiting_since asked count)) s ended s.rounds (round_of asked s.turns ∷ []) [] [] bytes []
    s.whole ((s.others.0, subst (λ n. n ≤ 600) (sym s.others.1) few), tt)
    (omega arith) asking (sym (append-nil (rounds_told registration.kind (s.rounds ++ round_of asked s.turns ∷ [])))) missed
    (λ fault none. heeds_all fault) carried refl tally (subst (λ list. AppendsCalls old.calls [] list) (sym calls) (calls_same old.calls))
    faults same

-- the agent has not answered in time
pub ends_late : (registration : Registration) (side_now : AgentSide) (feeder : Feeding) (asked : Asked) → feeder.heard ≡ AtAgent
    → (start : AgentSide) → Stands registration start side_now feeder (Some (waiting_since asked 600))
    → Asks registration start side_now Closed
ends_late registration side_now feeder asked side start s =
    still_open registration start side_now side_now feeder asked 600 Closed [] s (omega arith)
    (Closes.too_late (round_of asked s.turns, refl, s.others.1) refl
    (begun registration s.received (s.rounds ++ round_of asked s.turns ∷ []) feeder side s.heard))
    refl (λ fault. absurd (not_closed fault)) refl refl (carried_same side_now.traffic) (side_now.faults, omega arith, refl) refl

-- no frame comes
pub ends_unheard : (registration : Registration) (start old new : AgentSide) (feeder fed : Feeding) (asked : Asked) (count : ℕ)
    (ended : Ended) (bytes : List ℕ) (between : ℕ)
    → count ≤ 600 → HearsMore bytes feeder fed → fed.waiting ≡ [] → fed.heard ≡ AtAgent
    → old.faults ≤ between → EndsReading ended fed new.marks between new.faults
    → new.tally ≡ old.tally → new.calls ≡ old.calls
    → Carried old.traffic new.traffic bytes [] → new.marks.ends ≡ old.marks.ends
    → Stands registration start old feeder (Some (waiting_since asked count)) → Asks registration start new ended
ends_unheard registration start old new feeder fed asked count Closed bytes between few hears none side least (sound, empty, mark, still)
    tally calls carried same s =
    let heeded : List Framed = said registration (s.rounds ++ round_of asked s.turns ∷ []) in
    let h = hears s.received heeded s.heard in
    still_open registration start old new feeder asked count Closed bytes s few
    (Closes.at_end (round_of asked s.turns, refl) refl
    (subst (λ rest. Hears AtAgent (s.received ++ bytes) heeded rest) ((h.sound sound).0 ∙ empty)
    (whole_heard (s.received ++ bytes) heeded fed none side h)) mark) refl
    (λ fault. absurd (not_closed fault)) tally calls carried (between, least, still) same
ends_unheard registration start old new feeder fed asked count (Cut size) bytes between few hears none side least
    (sound, is, some, mark, still) tally calls carried same s =
    let heeded : List Framed = said registration (s.rounds ++ round_of asked s.turns ∷ []) in
    let h = hears s.received heeded s.heard in
    let at = h.sound sound in
    still_open registration start old new feeder asked count (Cut size) bytes s few (
      (round_of asked s.turns, refl),
      refl,
      (
        h.behind,
        whole_heard (s.received ++ bytes) heeded fed none side h,
        subst (λ (heard : Heard). IsOpen heard h.behind) side at.1,
        ap length at.0 ∙ sym is,
        some,
      ),
      mark,
    ) refl
    (λ fault. absurd (not_cut size fault)) tally calls carried (between, least, still) same
ends_unheard registration start old new feeder fed asked count LinkFault bytes between few hears none side least (sound, rose) tally calls
    carried same s =
    let heeded : List Framed = said registration (s.rounds ++ round_of asked s.turns ∷ []) in
    let h = hears s.received heeded s.heard in
    still_open registration start old new feeder asked count LinkFault bytes s few
    (refl, unheeded (s.received ++ bytes) heeded fed side h) (omega arith)
    (λ fault. heeded_all (s.received ++ bytes) heeded fed none side sound h)
    tally calls carried (between, least, rose) same
ends_unheard registration start old new feeder fed asked count (BadFrame refusal) bytes between few hears none side least
    (failed, of_bytes, still) tally calls carried same s =
    let heeded : List Framed = said registration (s.rounds ++ round_of asked s.turns ∷ []) in
    let h = hears s.received heeded s.heard in
    still_open registration start old new feeder asked count (BadFrame refusal) bytes s few (
      (round_of asked s.turns, refl),
      refl,
      wrong_frame (s.received ++ bytes) heeded refusal (
        h.behind,
        whole_heard (s.received ++ bytes) heeded fed none side h,
        subst (λ (heard : Heard). BeginsWrong heard h.behind refusal) side (h.wrong refusal failed),
        of_bytes,
      ),
    ) refl
    (λ fault. absurd (not_bad refusal fault)) tally calls carried (between, least, still) same
ends_unheard registration start old new feeder fed asked count Memory bytes between few hears none side least still tally calls carried
    same s =
    let heeded : List Framed = said registration (s.rounds ++ round_of asked s.turns ∷ []) in
    let h = hears s.received heeded s.heard in
    still_open registration start old new feeder asked count Memory bytes s few
    (inl refl, unheeded (s.received ++ bytes) heeded fed side h) (omega arith)
    (λ fault. absurd (not_memory fault)) tally calls carried (between, least, still) same
ends_unheard registration start old new feeder fed asked count (Hung entered now) bytes between few hears none side least wrong tally calls
    carried same s = absurd wrong
ends_unheard registration start old new feeder fed asked count Stopped bytes between few hears none side least wrong tally calls
    carried same s = absurd wrong
ends_unheard registration start old new feeder fed asked count (Strayed number found) bytes between few hears none side least wrong tally
    calls carried same s = absurd wrong

-- a frame comes that is not known where it stands
pub ends_misplaced : (registration : Registration) (start old new : AgentSide) (feeder fed : Feeding) (asked : Asked) (count : ℕ)
    (ended : Ended) (bytes : List ℕ) (framed : Framed)
    → count ≤ 600 → HandsOut bytes framed feeder fed → fed.heard ≡ AtAgent → IsOutOfPlace 0x20 framed ended
    → new.tally ≡ old.tally → new.calls ≡ old.calls → old.faults ≤ new.faults
    → Carried old.traffic new.traffic bytes [] → new.marks.ends ≡ old.marks.ends
    → Stands registration start old feeder (Some (waiting_since asked count)) → Asks registration start new ended
ends_misplaced registration start old new feeder fed asked count ended bytes framed few handed side (number, is) tally calls least carried
    same s =
    let heeded : List Framed = said registration (s.rounds ++ round_of asked s.turns ∷ []) in
    let h = handed s.received heeded s.heard in
    let found = unheeded (s.received ++ bytes) (heeded ++ framed ∷ []) fed side h in
    subst (λ (e : Ended). Asks registration start new e) (sym is)
    (still_open registration start old new feeder asked count (BadFrame (BadOperation 0x20)) bytes s few (
      (round_of asked s.turns, refl),
      refl,
      inr (
        framed,
        found.0,
        found.1,
        subst (λ list. Hears AtAgent (s.received ++ bytes) list found.1) (append_assoc heeded (framed ∷ []) found.0) found.2,
        number,
        refl,
      ),
    ) refl
    (λ fault. absurd (not_bad (BadOperation 0x20) fault)) tally calls carried (new.faults, least, refl) same)

-- ---- what was to be told of a turn was not sent

untold : (registration : Registration) (start old new : AgentSide) (feeder fed : Feeding) (asked : Asked) (count : ℕ) (turn : Turn)
    (frame : Framed) (ended : Ended) (bytes : List ℕ) → count < 600 → IsInVain asked turn ⊎ IsLast asked turn
    → ((received : List ℕ) (heeded : List Framed) (open_round : List Round) → HasBegun received heeded
    → EndsAsking registration.kind ended received heeded open_round [] new.marks)
    → MayMiss ended (frame ∷ [])
    → HearsTurn bytes turn feeder fed → fed.heard ≡ AtAgent → turn_told asked turn ≡ frame ∷ []
    → RaisesFaults ended old.faults new.faults
    → new.tally ≡ after_call (turn_call registration.kind asked turn) old.tally
    → AppendsCalls old.calls (turn_call registration.kind asked turn ∷ []) new.calls
    → Carried old.traffic new.traffic bytes [] → new.marks.ends ≡ old.marks.ends
    → Stands registration start old feeder (Some (waiting_since asked count)) → Asks registration start new ended
untold registration start old new feeder fed asked count turn frame ended bytes few vain_or_last asking missed hears side due faults counted
    made carried same s =
    let round : Round = with_turn asked s.turns turn in
    let heard = turn_heard registration s.rounds asked s.turns turn s.received bytes feeder fed hears s.heard in
    let told_now : rounds_told registration.kind (s.rounds ++ round ∷ [])
    ≡ rounds_told registration.kind (s.rounds ++ round_of asked s.turns ∷ []) ++ frame ∷ [] =
    told_grows registration.kind s.rounds asked s.turns turn
    ∙ ap (λ list. rounds_told registration.kind (s.rounds ++ round_of asked s.turns ∷ []) ++ list) due in
    let calls = calls_grow registration.kind s.rounds asked s.turns turn in
    let call : List HallCall = turn_call registration.kind asked turn ∷ [] in
    elim vain_or_last [
      | inr last ↦
          let all : s.rounds ++ round ∷ [] ≡ (s.rounds ++ round ∷ []) ++ [] = sym (append-nil (s.rounds ++ round ∷ [])) in
          ends registration start old new feeder (Some (waiting_since asked count)) s ended (s.rounds ++ round ∷ []) [] [] call bytes
          (frame ∷ []) (closed_round s.rounds asked count s.turns turn s.whole s.others few last) tt (omega arith)
          (subst (λ (rounds : List Round).
          EndsAsking registration.kind ended (s.received ++ bytes) (said registration rounds) [] [] new.marks) all
          (asking (s.received ++ bytes) (said registration (s.rounds ++ round ∷ [])) []
          (unheeded (s.received ++ bytes) (said registration (s.rounds ++ round ∷ [])) fed side heard)))
          (ap (rounds_told registration.kind) (sym all) ∙ told_now) missed (λ fault none. absurd (not_sent frame none)) carried
          (append-nil (rounds_calls registration.kind ((s.rounds ++ round ∷ []) ++ []))
          ∙ (ap (rounds_calls registration.kind) (sym all) ∙ calls))
          counted made faults same
      | inl vain ↦
          ends registration start old new feeder (Some (waiting_since asked count)) s ended s.rounds (round ∷ []) [] call bytes
          (frame ∷ []) s.whole
          ((vain_more asked s.turns turn s.others.0 vain, omega (arith, count_more s.turns turn, s.others.1, few)), tt) (omega arith)
          (asking (s.received ++ bytes) (said registration (s.rounds ++ round ∷ [])) (round ∷ [])
          (unheeded (s.received ++ bytes) (said registration (s.rounds ++ round ∷ [])) fed side heard))
          told_now missed (λ fault none. absurd (not_sent frame none)) carried
          (append-nil (rounds_calls registration.kind (s.rounds ++ round ∷ [])) ∙ calls)
          counted made faults same
    ]

ends_untold : (registration : Registration) (start old new : AgentSide) (feeder fed : Feeding) (asked : Asked) (count : ℕ) (turn : Turn)
    (frame : Framed) (ended : Ended) (bytes : List ℕ) (between : ℕ) → count < 600 → IsInVain asked turn ⊎ IsLast asked turn
    → HearsTurn bytes turn feeder fed → fed.heard ≡ AtAgent → turn_told asked turn ≡ frame ∷ []
    → old.faults ≤ between → EndsSending ended between new.faults
    → new.tally ≡ after_call (turn_call registration.kind asked turn) old.tally
    → AppendsCalls old.calls (turn_call registration.kind asked turn ∷ []) new.calls
    → Carried old.traffic new.traffic bytes [] → new.marks.ends ≡ old.marks.ends
    → Stands registration start old feeder (Some (waiting_since asked count)) → Asks registration start new ended
ends_untold registration start old new feeder fed asked count turn frame LinkFault bytes between few either hears side due least rose counted
    made carried same s =
    untold registration start old new feeder fed asked count turn frame LinkFault bytes few either
    (λ received heeded open_round heard. (refl, heard)) (omega arith) hears side due (between, least, rose) counted made carried same s
ends_untold registration start old new feeder fed asked count turn frame Memory bytes between few either hears side due least still counted
    made carried same s =
    untold registration start old new feeder fed asked count turn frame Memory bytes few either
    (λ received heeded open_round heard. (inl refl, heard)) (omega arith) hears side due (between, least, still) counted made carried same s
ends_untold registration start old new feeder fed asked count turn frame Closed bytes between few either hears side due least wrong
    counted made carried same s = absurd wrong
ends_untold registration start old new feeder fed asked count turn frame (Cut size) bytes between few either hears side due least wrong
    counted made carried same s = absurd wrong
ends_untold registration start old new feeder fed asked count turn frame (Hung entered now) bytes between few either hears side due least wrong
    counted made carried same s = absurd wrong
ends_untold registration start old new feeder fed asked count turn frame (BadFrame refusal) bytes between few either hears side due least wrong
    counted made carried same s = absurd wrong
ends_untold registration start old new feeder fed asked count turn frame Stopped bytes between few either hears side due least wrong
    counted made carried same s = absurd wrong
ends_untold registration start old new feeder fed asked count turn frame (Strayed number found) bytes between few either hears side due least wrong
    counted made carried same s = absurd wrong

-- ---- the beginning

-- the agent is told that it is registered
pub begins : (registration : Registration) (start old new : AgentSide) (feeder : Feeding)
    → Carried old.traffic new.traffic [] (spelling (registered_frame registration)) → new.tally ≡ old.tally → new.calls ≡ old.calls
    → new.faults ≡ old.faults → new.marks.ends ≡ old.marks.ends
    → HasJoined registration start old feeder → Stands registration start new feeder None
begins registration start old new feeder carried tally calls still same s = record {
  received = s.received;
  rounds = [];
  turns = [];
  whole = tt;
  others = refl;
  heard = s.heard;
  carried = subst (λ list. Carried start.traffic new.traffic s.received list) (sym (append-nil (spelling (registered_frame registration))))
      (subst (λ list. Carried start.traffic new.traffic list (spelling (registered_frame registration))) (append-nil s.received)
      (carried_more s.received [] [] (spelling (registered_frame registration)) start.traffic old.traffic new.traffic s.carried carried));
  tally = tally ∙ s.tally;
  calls = subst (λ told. AppendsCalls start.calls (joined_calls registration.kind [] []) told) (sym calls) s.calls;
  faults = omega (arith, still ∙ s.faults);
  ends = same ∙ s.ends;
}

-- that is not sent
unregistered : (registration : Registration) (start old new : AgentSide) (feeder : Feeding) (ended : Ended)
    → ((bytes : List ℕ) (heeded : List Framed) → HasBegun bytes heeded → EndsAsking registration.kind ended bytes heeded [] [] new.marks)
    → MayMiss ended (registered_frame registration ∷ []) → feeder.heard ≡ AtAgent
    → Carried old.traffic new.traffic [] [] → new.tally ≡ old.tally → new.calls ≡ old.calls
    → new.faults ≡ faults_after ended old.faults → new.marks.ends ≡ old.marks.ends
    → HasJoined registration start old feeder → Asks registration start new ended
unregistered registration start old new feeder ended asking missed side carried tally calls faults same s = record {
  received = s.received;
  rounds = [];
  open_round = [];
  last = [];
  sent = [];
  missing = registered_frame registration ∷ [];
  whole = tt;
  unanswered = tt;
  one = omega arith;
  asking = asking s.received (register_frame registration ∷ [])
      (unheeded s.received (register_frame registration ∷ []) feeder side s.heard);
  all = λ fault none. absurd (not_sent (registered_frame registration) none);
  due = refl;
  missed = missed;
  carried = subst (λ list. Carried start.traffic new.traffic list []) (append-nil s.received)
      (carried_more s.received [] [] [] start.traffic old.traffic new.traffic s.carried carried);
  tally = tally ∙ s.tally;
  calls = subst (λ list. AppendsCalls start.calls (joined_calls registration.kind [] []) list) (sym calls) s.calls;
  faults = (start.faults, omega arith, faults ∙ ap (λ count. faults_after ended count) s.faults);
  ends = same ∙ s.ends;
}

pub ends_unregistered : (registration : Registration) (start old new : AgentSide) (feeder : Feeding) (ended : Ended)
    → EndsSending ended old.faults new.faults → feeder.heard ≡ AtAgent
    → Carried old.traffic new.traffic [] [] → new.tally ≡ old.tally → new.calls ≡ old.calls → new.marks.ends ≡ old.marks.ends
    → HasJoined registration start old feeder → Asks registration start new ended
ends_unregistered registration start old new feeder LinkFault rose side carried tally calls same s =
    unregistered registration start old new feeder LinkFault (λ bytes heeded heard. (refl, heard)) (omega arith) side carried tally calls
    rose same s
ends_unregistered registration start old new feeder Memory still side carried tally calls same s =
    unregistered registration start old new feeder Memory (λ bytes heeded heard. (inl refl, heard)) (omega arith) side carried tally calls
    still same s
ends_unregistered registration start old new feeder Closed wrong side carried tally calls same s = absurd wrong
ends_unregistered registration start old new feeder (Cut count) wrong side carried tally calls same s = absurd wrong
ends_unregistered registration start old new feeder (Hung entered now) wrong side carried tally calls same s = absurd wrong
ends_unregistered registration start old new feeder (BadFrame refusal) wrong side carried tally calls same s = absurd wrong
ends_unregistered registration start old new feeder Stopped wrong side carried tally calls same s = absurd wrong
ends_unregistered registration start old new feeder (Strayed number found) wrong side carried tally calls same s = absurd wrong

-- ---- a frame that comes and, behind it, one that goes

pub received_and_sent : (before between after : Option Traffic) (bytes sent : List ℕ) → Carried before between bytes []
    → Carried between after [] sent
    → Carried before after bytes sent
received_and_sent before between after bytes sent one other =
    subst (λ list. Carried before after list sent) (append-nil bytes) (carried_more bytes [] [] sent before between after one other)

-- an answer was heard and handed to the hall
abbrev answered_turn : Answer → Result (Unit {0}) AnswerRefusal → Turn
answered_turn answer outcome = Turn.answered (record { answer = answer; result = outcome })

makes_answer : (kind : Kind) (asked : Asked) (answer : Answer) (outcome : Result (Unit {0}) AnswerRefusal) (old new : AgentSide)
    → HandsIn kind answer outcome old.tally old.calls new.tally new.calls → old.faults ≤ new.faults → new.marks.ends ≡ old.marks.ends
    → Makes (turn_call kind asked (answered_turn answer outcome)) old new
makes_answer kind asked answer outcome old new made still same =
    record { counted = made.counted; told = made.told; faults = still; ends = same }

pub takes_answer : (registration : Registration) (old new : AgentSide) (between : Option Traffic) (feeder fed : Feeding) (number : ℕ)
    (answer : Answer) (outcome : Result (Unit {0}) AnswerRefusal) (bytes : List ℕ) (is_it : Bool) → is_it ≡ (answer.number == number)
    → HandsOut bytes (answer_frame answer) feeder fed
    → Carried old.traffic between bytes [] → Carried between new.traffic [] (bytes_of (told_of outcome answer))
    → HandsIn registration.kind answer outcome old.tally old.calls new.tally new.calls
    → old.faults ≤ new.faults → new.marks.ends ≡ old.marks.ends
    → TakesTurn registration number (Ok is_it) old feeder new fed
takes_answer registration old new between feeder fed number answer outcome bytes true is handed one then made still same asked turns it few
    start s =
    turned_off registration start old new feeder fed asked turns (answered_turn answer outcome) bytes few
    ((Decides-eqb answer.number number).0 (sym is) ∙ sym it) handed
    (received_and_sent old.traffic between new.traffic bytes (bytes_of (told_of outcome answer)) one then)
    (makes_answer registration.kind asked answer outcome old new made still same) s
takes_answer registration old new between feeder fed number answer outcome bytes false is handed one then made still same asked turns it few
    start s =
    turned_on registration start old new feeder fed asked turns (answered_turn answer outcome) bytes
    (λ same_number. true_is_false (sym ((Decides-eqb answer.number number).1 (same_number ∙ it)) ∙ sym is)) handed
    (received_and_sent old.traffic between new.traffic bytes (bytes_of (told_of outcome answer)) one then)
    (makes_answer registration.kind asked answer outcome old new made still same) s

pub takes_untold : (registration : Registration) (old new : AgentSide) (between : Option Traffic) (feeder fed : Feeding) (number : ℕ)
    (answer : Answer) (outcome : Result (Unit {0}) AnswerRefusal) (ended : Ended) (bytes : List ℕ) (faults : ℕ)
    → HandsOut bytes (answer_frame answer) feeder fed
    → fed.heard ≡ AtAgent → told_of outcome answer ≡ unknown_frame answer ∷ []
    → old.faults ≤ faults → EndsSending ended faults new.faults
    → HandsIn registration.kind answer outcome old.tally old.calls new.tally new.calls
    → Carried old.traffic between bytes [] → Carried between new.traffic [] [] → new.marks.ends ≡ old.marks.ends
    → TakesTurn registration number (Err ended) old feeder new fed
takes_untold registration old new between feeder fed number answer outcome ended bytes faults handed side due least sending made one then
    same asked turns it few start s =
    ends_untold registration start old new feeder fed asked turns (answered_turn answer outcome) (unknown_frame answer) ended bytes faults few
    (either (cases_eq answer.number asked.number)) handed side due least sending made.counted made.told
    (received_and_sent old.traffic between new.traffic bytes [] one then) same s
  where
    either : (answer.number ≡ asked.number) ⊎ (answer.number ≡ asked.number → ⊥)
        → IsInVain asked (answered_turn answer outcome) ⊎ IsLast asked (answered_turn answer outcome)
    either (inl is) = inr is
    either (inr other) = inl other

-- none came, and it was looked whether the question is open still
pub takes_look : (registration : Registration) (old new : AgentSide) (between : Option Traffic) (feeder fed : Feeding) (number : ℕ)
    (is_open is_closed : Bool) (bytes : List ℕ) → is_closed ≡ not is_open → HearsMore bytes feeder fed
    → Carried old.traffic between bytes [] → Carried between new.traffic [] (bytes_of (told_at number is_open))
    → LooksIn number is_open old.tally old.calls new.tally new.calls
    → old.faults ≤ new.faults → new.marks.ends ≡ old.marks.ends
    → TakesTurn registration number (Ok is_closed) old feeder new fed
takes_look registration old new between feeder fed number true true bytes is hears one then made still same asked turns it few start s =
    absurd (true_is_false is)
takes_look registration old new between feeder fed number false false bytes is hears one then made still same asked turns it few start s =
    absurd (true_is_false (sym is))
takes_look registration old new between feeder fed number true false bytes is hears one then made still same asked turns it few start s =
    turned_on registration start old new feeder fed asked turns (Turn.looked true) bytes refl (hears_none bytes true feeder fed hears)
    (received_and_sent old.traffic between new.traffic bytes [] one then) (record {
      counted = subst (λ n. new.tally ≡ after_call (look_call n true) old.tally) (sym it) made.counted;
      told = subst (λ n. AppendsCalls old.calls (look_call n true ∷ []) new.calls) (sym it) made.told;
      faults = still;
      ends = same;
    }) s
takes_look registration old new between feeder fed number false true bytes is hears one then made still same asked turns it few start s =
    turned_off registration start old new feeder fed asked turns (Turn.looked false) bytes few refl (hears_none bytes false feeder fed hears)
    (received_and_sent old.traffic between new.traffic bytes (bytes_of (withdrawn_frame asked.number ∷ [])) one
    (subst (λ n. Carried between new.traffic [] (bytes_of (withdrawn_frame n ∷ []))) (sym it) then)) (record {
      counted = subst (λ n. new.tally ≡ after_call (look_call n false) old.tally) (sym it) made.counted;
      told = subst (λ n. AppendsCalls old.calls (look_call n false ∷ []) new.calls) (sym it) made.told;
      faults = still;
      ends = same;
    }) s

pub looks_untold : (registration : Registration) (old new : AgentSide) (between : Option Traffic) (feeder fed : Feeding) (number : ℕ)
    (is_open : Bool) (ended : Ended) (bytes : List ℕ) (faults : ℕ) → is_open ≡ false → HearsMore bytes feeder fed → fed.heard ≡ AtAgent
    → old.faults ≤ faults → EndsSending ended faults new.faults
    → LooksIn number is_open old.tally old.calls new.tally new.calls
    → Carried old.traffic between bytes [] → Carried between new.traffic [] [] → new.marks.ends ≡ old.marks.ends
    → TakesTurn registration number (Err ended) old feeder new fed
looks_untold registration old new between feeder fed number true ended bytes faults is hears side least sending made one then same asked
    turns it few start s = absurd (true_is_false is)
looks_untold registration old new between feeder fed number false ended bytes faults is hears side least sending made one then same asked
    turns it few start s =
    ends_untold registration start old new feeder fed asked turns (Turn.looked false) (withdrawn_frame asked.number) ended bytes faults few
    (inr refl) (hears_none bytes false feeder fed hears) side refl least sending
    (subst (λ n. new.tally ≡ after_call (look_call n false) old.tally) (sym it) made.counted)
    (subst (λ n. AppendsCalls old.calls (look_call n false ∷ []) new.calls) (sym it) made.told)
    (received_and_sent old.traffic between new.traffic bytes [] one then) same s

-- no answer comes
pub takes_none : (registration : Registration) (old new : AgentSide) (feeder fed : Feeding) (number : ℕ) (ended : Ended)
    → EndsHearing feeder fed old.traffic new.traffic new.marks old.faults new.faults ended → feeder.heard ≡ AtAgent
    → new.tally ≡ old.tally → new.calls ≡ old.calls → new.marks.ends ≡ old.marks.ends
    → TakesTurn registration number (Err ended) old feeder new fed
takes_none registration old new feeder fed number ended why side tally calls same asked turns it few start s =
    elim why [
      | EndsHearing.unheard bytes between carried hears none heard least reading ↦
          ends_unheard registration start old new feeder fed asked turns ended bytes between (omega (arith, few)) hears none (heard ∙ side)
          least reading tally calls carried same s
      | EndsHearing.misplaced bytes framed carried handed heard misplaced least ↦
          ends_misplaced registration start old new feeder fed asked turns ended bytes framed (omega (arith, few)) handed (heard ∙ side)
          misplaced tally calls least carried same s
    ]
