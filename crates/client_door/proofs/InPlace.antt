-- Checks that are read where they stand.
use Rattle.std.proofs.Common.{◌≡◌, ℕ, ◌-◌, Bool, true, false, ◌==◌, if◌then◌else◌, List, [], ◌∷◌, ◌++◌, length, take, drop, Option, refl, sym}
use Rattle.std.proofs.Common.{◌∙◌, None, Result, Ok, Err, MatchResult, Bor, ap, subst, append_assoc, append-nil, arith}
use Rattle.std.specs.List.{AllByRecursion}
use Rattle.std.proofs.lemmas.List.{take_all, length-drop}
use Rattle.cynara_keys.specs.PolicyResult.{is_agent}
use Rattle.bucket_eval.specs.declared.lending.BorrowedAnswer.{BorrowedAnswer}
use Rattle.bucket_eval.specs.Found.{answer_of}
use Rattle.bucket_eval.specs.Lent.{outcome_lent}
use Rattle.desk_state.specs.DeskState.{DeskState}
use Rattle.live_desk.specs.History.{GoesOn}
use Rattle.live_desk.specs.Seat.{SeatState}
use Rattle.desk_world.specs.Links.{read_as, reading_of}
use Rattle.desk_world.specs.declared.links.Reading.TheVariants.{Ready as IsReady}
use Rattle.desk_world.specs.declared.replies.Reply.{Reply}
use Rattle.wire_reading.specs.Frame.{spelling, with_sequence}
use Rattle.wire_reading.specs.Lent.{judged}
use Rattle.wire_reading.specs.Stream.{first_of, Whole}
use Rattle.wire_fields.specs.declared.operations.Heard.TheVariants.{AtClient}
use Rattle.door_frames.specs.declared.endings.Ended.{Ended}
use Rattle.door_frames.specs.declared.endings.Ended.TheVariants.{Memory}
use Rattle.client_door.specs.Check.{framed_of, message_of}
use Rattle.client_door.specs.Reading.{cause_at, reading}
use Rattle.client_door.specs.InPlace.{Rules}
use Rattle.client_door.specs.Recording.{Recording, Leads, judged_by}
use Rattle.client_door.specs.Serving.{ClientSide}
use Rattle.client_door.specs.Answered.{Answered}
use Rattle.client_door.specs.parts.Talk.{HeardUpTo, ReadsAt, EndsReading, IsReadNow, Notes, with_read}
use Rattle.client_door.specs.declared.checks.Check.{Check}
use Rattle.client_door.specs.declared.judging.Ruling.TheVariants.{Ruled}
use Rattle.client_door.proofs.Ending.{ends_for_memory_by, tells_up_to}
use Rattle.client_door.proofs.Steps.{answered_by_policies, answered_by_policies_all, reseated, reseated_all, takes_front, takes_front_all}

-- the policies decide, and the reply was put
pub rules_judged : (sequence : ℕ) (simple : Bool) (commit : ℕ) (lent : BorrowedAnswer) (old new : List ℕ) (allowed : Bool)
    → is_agent (outcome_lent lent).result.kind ≡ false → new ≡ old ++ spelling (with_sequence sequence (judged commit lent))
    → allowed ≡ ((outcome_lent lent).result.kind == 65535)
    → Rules sequence (reading_of commit simple (outcome_lent lent)) old new (Ruled commit allowed)
rules_judged sequence simple commit lent old new allowed no_agent put is_allow = (
  record { commit = commit; answer = answer_of (outcome_lent lent) },
  ap (λ agent. read_as agent commit simple (outcome_lent lent)) no_agent,
  put,
  refl,
  is_allow,
)

-- ---- at one state

all_more : (desk : DeskState) (answered more : List Answered) → AllByRecursion (λ (one : Answered). one.desk ≡ desk) answered
    → AllByRecursion (λ (one : Answered). one.desk ≡ desk) more → AllByRecursion (λ (one : Answered). one.desk ≡ desk) (answered ++ more)
all_more desk [] more first others = others
all_more desk (one ∷ answered) more (first, rest) others = (first, all_more desk answered more rest others)

-- nothing was answered
pub reads_none : (desk : DeskState) (now : ClientSide) (ahead waiting : List ℕ) → ReadsAt desk now ahead waiting now ahead waiting
reads_none desk now ahead waiting start met = (met, [], sym (append-nil (met.sent ++ met.unsent)), tt)

pub reads_then : (desk : DeskState) (old between new : ClientSide) (ahead behind rest waiting middle after : List ℕ)
    → ReadsAt desk old ahead waiting between behind middle → ReadsAt desk between behind middle new rest after
    → ReadsAt desk old ahead waiting new rest after
reads_then desk old between new ahead behind rest waiting middle after first second start met =
    let one = first start met in
    let two = second start one.0 in (
      two.0,
      one.1 ++ two.1,
      two.2 ∙ (ap (λ (list : List Answered). list ++ two.1) one.2 ∙ append_assoc (met.sent ++ met.unsent) one.1 two.1),
      all_more desk one.1 two.1 one.3 two.3,
    )

-- The seat was moved to that state before.
pub reads_from : (desk : DeskState) (old : ClientSide) (seat : SeatState) (new : ClientSide) (ahead rest waiting after : List ℕ)
    → seat ≡ record old.seat { seen = seat.seen } → GoesOn old.seat.seen seat.seen → IsReadNow desk seat
    → ReadsAt desk (record old { seat = seat }) ahead waiting new rest after → ReadsAt desk old ahead waiting new rest after
reads_from desk old seat new ahead rest waiting after same goes_on now_read reads start met =
    let read = reads start (reseated start old seat desk (HeardUpTo ahead) waiting [] same goes_on now_read met) in (
      read.0,
      read.1,
      read.2 ∙ ap (λ (list : List Answered). list ++ read.1)
          (reseated_all start old seat desk (HeardUpTo ahead) waiting [] same goes_on now_read met),
      read.3,
    )

pub ends_from : (desk : DeskState) (old : ClientSide) (seat : SeatState) (new : ClientSide) (ahead waiting : List ℕ) (ended : Ended)
    → seat ≡ record old.seat { seen = seat.seen } → GoesOn old.seat.seen seat.seen → IsReadNow desk seat
    → EndsReading (record old { seat = seat }) ahead waiting new ended → EndsReading old ahead waiting new ended
ends_from desk old seat new ahead waiting ended same goes_on now_read ends start met =
    ends start (reseated start old seat desk (HeardUpTo ahead) waiting [] same goes_on now_read met)

-- what was read of a piece, or that it ended
pub piece_from : {S E : Type 0} (Was Is : S → Option Recording → Type 0) (result : Result (Bor (List ℕ)) E) (desk : DeskState)
    (side : ClientSide) (old new : SeatState) (piece waiting after : List ℕ)
    → new ≡ record old { seen = new.seen } → GoesOn old.seen new.seen → IsReadNow desk new
    → MatchResult result
    (λ rest. Leads Was Is (λ before told. ReadsAt desk (with_read side new before) piece waiting (with_read side new told) rest.now after))
    (λ _. Leads Was Is (λ before told. EndsReading (with_read side new before) piece waiting (with_read side new told) Memory))
    → MatchResult result
    (λ rest. Leads Was Is (λ before told. ReadsAt desk (with_read side old before) piece waiting (with_read side new told) rest.now after))
    (λ _. Leads Was Is (λ before told. EndsReading (with_read side old before) piece waiting (with_read side new told) Memory))
piece_from Was Is (Ok rest) desk side old new piece waiting after same goes_on now_read reads = λ since before fits.
    let told = reads since before fits in (
      told.0,
      told.1,
      reads_from desk (with_read side old before) new (with_read side new told.0) piece rest.now waiting after same goes_on now_read told.2,
    )
piece_from Was Is (Err error) desk side old new piece waiting after same goes_on now_read ends = λ since before fits.
    let told = ends since before fits in (
      told.0,
      told.1,
      ends_from desk (with_read side old before) new (with_read side new told.0) piece waiting Memory same goes_on now_read told.2,
    )

-- What holds of the values that a call was lent, and of those that it left, holds of those in whose place they stood.
pub as_lent : {A B C : Type 0} (Is : A → B → C → B → C → Type 0) (shown desk : A) (one first : B) (other second : C)
    (one_left first_left : B) (other_left second_left : C)
    → shown ≡ desk → one ≡ first → other ≡ second → one_left ≡ first_left → other_left ≡ second_left
    → Is shown one other one_left other_left → Is desk first second first_left second_left
as_lent Is shown desk one first other second one_left first_left other_left second_left shows lends lends_other leaves leaves_other is =
    subst (λ x. Is desk first second first_left x) leaves_other
    (subst (λ x. Is desk first second x other_left) leaves
    (subst (λ x. Is desk first x one_left other_left) lends_other
    (subst (λ x. Is desk x other one_left other_left) lends
    (subst (λ x. Is x one other one_left other_left) shows is))))

-- the check at the front is answered by the policies
pub answers_front : (now : ClientSide) (recording : Option Recording) (ahead behind waiting after : List ℕ) (check : Check)
    (desk : DeskState) (reply : Reply) → IsReadNow desk now.seat → reading desk check ≡ IsReady reply
    → Notes now.recording (judged_by (cause_at desk check.question) check.question reply) recording
    → after ≡ waiting ++ spelling (with_sequence check.sequence (message_of reply))
    → first_of AtClient ahead ≡ Whole (framed_of check) behind
    → ReadsAt desk now ahead waiting (record now { recording = recording }) behind after
answers_front now recording ahead behind waiting after check desk reply now_read read noted put first start met =
    let frame : List ℕ = spelling (with_sequence check.sequence (message_of reply)) in
    let next : Answered = record { check = check; desk = desk; call = None; reply = reply } in
    let taken = takes_front start now ahead behind waiting check first met in (
      answered_by_policies start now recording (HeardUpTo behind) waiting frame after check desk reply now_read read refl noted put taken,
      next ∷ [],
      answered_by_policies_all start now recording (HeardUpTo behind) waiting frame after check desk reply now_read read refl noted put taken
          ∙ ap (λ (list : List Answered). list ++ next ∷ []) (takes_front_all start now ahead behind waiting check first met),
      (refl, tt),
    )

-- the check at the front is left
pub leaves_front : (desk : DeskState) (now : ClientSide) (ahead waiting after : List ℕ) → after ≡ waiting
    → ReadsAt desk now ahead waiting now ahead after
leaves_front desk now ahead waiting after put =
    subst (λ list. ReadsAt desk now ahead waiting now ahead list) (sym put) (reads_none desk now ahead waiting)

-- memory was wanting
pub ends_front : (now : ClientSide) (ahead waiting : List ℕ) → EndsReading now ahead waiting now Memory
ends_front now ahead waiting start met =
    ends_for_memory_by start now (HeardUpTo ahead) waiting [] Memory refl (tells_up_to ahead) met

-- ---- a piece

behind_is : (bytes : List ℕ) (count : ℕ) → take (length bytes - count) (drop count bytes) ≡ drop count bytes
behind_is bytes count = take_all (length bytes - count) (drop count bytes) (omega (arith, length-drop count bytes))

-- the check at the front was judged, and what is behind it is read next
pub goes_behind : (Is : List ℕ → Type 0) (ahead : List ℕ) (count : ℕ) (judged : Bool) → judged ≡ true
    → Is (if judged then drop count ahead else ahead) → Is (take (length ahead - count) (drop count ahead))
goes_behind Is ahead count judged is reads =
    subst Is (sym (behind_is ahead count)) (subst (λ (b : Bool). Is (if b then drop count ahead else ahead)) is reads)

-- it was not
pub stays_there : (Is : List ℕ → Type 0) (ahead behind : List ℕ) (judged : Bool) → judged ≡ false
    → Is (if judged then behind else ahead) → Is ahead
stays_there Is ahead behind judged is reads = subst (λ (b : Bool). Is (if b then behind else ahead)) is reads
