-- Each reply of a worker is of a state of the list of which its seat has seen a front; and each of its connections entered in the log of
-- which its seat knows a front.
use Rattle.std.proofs.Common.{◌≡◌, ◌∙◌, ◌≤◌, ℕ, List, [], ◌∷◌, ◌++◌, Option, refl, sym, ap, subst, append_assoc, arith}
use Rattle.std.specs.List.{AllByRecursion}
use Rattle.link_ports.specs.Traffic.{Traffic}
use Rattle.link_ports.specs.LinkMarks.{LinkMarks}
use Rattle.desk_state.specs.DeskState.{DeskState}
use mathlib.Core.List.{IsPrefix}
use Rattle.live_roll.specs.declared.events.Event.{Event}
use Rattle.live_roll.specs.declared.events.Event.TheVariants.{Entered, Hung}
use Rattle.live_roll.specs.Events.{NoneAbove}
use Rattle.live_roll.proofs.Following.{prefix_get, prefix_self, prefix_then}
use Rattle.live_desk.specs.History.{GoesOn, last_commit}
use Rattle.live_desk.specs.Seat.{SeatState, EntersAt}
use Rattle.live_desk.proofs.Looks.{goes_on_all, goes_on_then}
use Rattle.door_frames.specs.declared.endings.Ended.{Ended}
use Rattle.client_door.specs.Answered.{Answered, IsRight, AreReadIn}
use Rattle.client_door.specs.Serving.{ClientSide, Serves, Served}
use Rattle.client_door.specs.Serving.Serves.{unbegun, refused, served}
use Rattle.client_door.proofs.Published.{stands_in_more, read_from}
use Rattle.admin_door.specs.Hanging.{HasHungTo}
use Rattle.desk_server.specs.Visit.{Visit, InTurn}
use Rattle.desk_server.specs.Clients.{VisitsClients}
use Rattle.serve_runs.specs.OneList.{IsOfList, AllOfList, EachOfList, IsEntered, AllEntered, EachEntered}

of_list : (published seen : List DeskState) (low : ℕ) (answered : List Answered) → GoesOn seen published → AllByRecursion IsRight answered
    → AreReadIn seen low answered → AllByRecursion (IsOfList published) answered
of_list published seen low [] goes_on right read = tt
of_list published seen low (one ∷ more) goes_on (right, rights) (stands, fresh, reads) =
    ((right, stands_in_more one.desk seen published stands goes_on), of_list published seen one.desk.commit more goes_on rights reads)

-- what the seat has seen of one connection goes on
seen_on : {ended : Ended} {start now : ClientSide} → Serves ended start now → GoesOn start.seat.seen now.seat.seen
seen_on {ended} {start} {now} (unbegun none tally marks idle) =
    subst (λ (seat : SeatState). GoesOn start.seat.seen seat.seen) (sym idle.seat) (goes_on_all start.seat.seen)
seen_on {ended} {start} {now} (refused refusal ended_is tally marks faults idle) =
    subst (λ (seat : SeatState). GoesOn start.seat.seen seat.seen) (sym idle.seat) (goes_on_all start.seat.seen)
seen_on {ended} {start} {now} (served connection) =
    let first = subst (λ (seen : List DeskState). GoesOn seen connection.last.seat.seen) (ap (λ (seat : SeatState). seat.seen) connection.told.told)
    connection.talks.seen in
    subst (λ (side : ClientSide). GoesOn start.seat.seen side.seat.seen) (sym connection.leaving) first

all_of_list : (published : List DeskState) {ended : Ended} {start now : ClientSide} (serves : Serves ended start now)
    → GoesOn now.seat.seen published → AllOfList published serves
all_of_list published (unbegun none tally marks idle) goes_on = tt
all_of_list published (refused refusal ended tally marks faults idle) goes_on = tt
all_of_list published {ended} {start} {now} (served connection) goes_on =
    let last = subst (λ (side : ClientSide). GoesOn side.seat.seen published) connection.leaving goes_on in
    of_list published connection.last.seat.seen connection.last.seat.note connection.talks.answered last connection.talks.right
    connection.talks.read

module _ {L : Type 0} (traffic : L → Option Traffic) (marks : L → LinkMarks) (faults : L → ℕ) where
  -- what the seat has seen of all connections goes on
  all_on : (seat : SeatState) (visits : List (Visit L)) (seat_now : SeatState)
      → InTurn (VisitsClients traffic marks faults) seat visits seat_now → GoesOn seat.seen seat_now.seen
  all_on seat [] seat_now none = subst (λ (last : SeatState). GoesOn seat.seen last.seen) (sym none) (goes_on_all seat.seen)
  all_on seat (visit ∷ more) seat_now (between, (silent, (tally, calls, serves)), rest) =
      goes_on_then seat.seen between.seen seat_now.seen (seen_on serves) (all_on between more seat_now rest)

  pub each_of_list : (published : List DeskState) (seat : SeatState) (visits : List (Visit L)) (seat_now : SeatState)
      (in_turn : InTurn (VisitsClients traffic marks faults) seat visits seat_now) → GoesOn seat_now.seen published
      → EachOfList traffic marks faults published seat visits seat_now in_turn
  each_of_list published seat [] seat_now none goes_on = tt
  each_of_list published seat (visit ∷ more) seat_now (between, (silent, (tally, calls, serves)), rest) goes_on = (
    all_of_list published serves
        (goes_on_then between.seen seat_now.seen published (all_on between more seat_now rest) goes_on),
    each_of_list published between more seat_now rest goes_on,
  )

-- ---- where its connections entered

-- the replies are of states no older than the note behind which they were read
no_older : (entered low : ℕ) (seen : List DeskState) (answered : List Answered) → entered ≤ low → AreReadIn seen low answered
    → AllByRecursion (λ (one : Answered). entered ≤ one.desk.commit) answered
no_older entered low seen [] above read = tt
no_older entered low seen (one ∷ more) above (stands, fresh, reads) =
    let here = read_from low (last_commit 0 seen) one.desk.commit fresh in
    let later : entered ≤ one.desk.commit = omega (arith, above, here) in
    (later, no_older entered one.desk.commit seen more later reads)

-- what the seat knows of the log where it leaves is what it was told where it entered
knows_still : {ended : Ended} {start now : ClientSide} (connection : Served ended start now)
    → connection.first.seat.events ≡ now.seat.events
knows_still {ended} {start} {now} connection =
    sym (ap (λ (side : ClientSide). side.seat.events) connection.leaving
    ∙ ap (λ (seat : SeatState). seat.events) connection.talks.same_seat)

known_on : {ended : Ended} {start now : ClientSide} → Serves ended start now → IsPrefix start.seat.events now.seat.events
known_on {ended} {start} {now} (unbegun none tally marks idle) =
    subst (λ (seat : SeatState). IsPrefix start.seat.events seat.events) (sym idle.seat) (prefix_self start.seat.events)
known_on {ended} {start} {now} (refused refusal ended_is tally marks faults idle) =
    subst (λ (seat : SeatState). IsPrefix start.seat.events seat.events) (sym idle.seat) (prefix_self start.seat.events)
known_on {ended} {start} {now} (served connection) =
    subst (λ (events : List Event). IsPrefix start.seat.events events) (knows_still connection) connection.told.knew

-- a front of the log that ends with an entry
entry_in : (known events : List Event) (entered : ℕ) (answered : List Answered) → IsPrefix known events
    → (front : List Event) → known ≡ front ++ Entered entered ∷ [] → NoneAbove known entered
    → AllByRecursion (λ (one : Answered). entered ≤ one.desk.commit) answered → IsEntered events entered answered
entry_in known events entered answered (more, is) front ends above fresh = record {
  front = front;
  back = more;
  entry = sym is ∙ (ap (λ (list : List Event). list ++ more) ends ∙ append_assoc front (Entered entered ∷ []) more);
  above = λ i to at. above i to (prefix_get front known i (Hung to) (Entered entered ∷ [], sym ends) at);
  fresh = fresh;
}

-- of the note that the seat was told
noted : (entered : ℕ) (seat now : SeatState) → EntersAt entered seat now → entered ≤ now.note
noted entered seat now enters =
    let note = ap (λ (told : SeatState). told.note) enters.told in omega (arith, note)

all_entered : (events : List Event) {ended : Ended} {start now : ClientSide} (serves : Serves ended start now)
    → IsPrefix now.seat.events events → AllEntered events serves
all_entered events (unbegun none tally marks idle) known = tt
all_entered events (refused refusal ended tally marks faults idle) known = tt
all_entered events {ended} {start} {now} (served connection) known =
    let first = connection.first.seat in
    let note : connection.last.seat.note ≡ first.note = ap (λ (seat : SeatState). seat.note) connection.talks.same_seat in
    let low = noted connection.entered start.seat first connection.told in
    entry_in first.events events connection.entered connection.talks.answered
    (subst (λ (list : List Event). IsPrefix list events) (sym (knows_still connection)) known)
    connection.told.entered.0 connection.told.entered.1 connection.told.above
    (no_older connection.entered connection.last.seat.note connection.last.seat.seen connection.talks.answered
    (omega (arith, note, low)) connection.talks.read)

module _ {L : Type 0} (traffic : L → Option Traffic) (marks : L → LinkMarks) (faults : L → ℕ) where
  -- what the seat knows goes on
  all_known : (seat : SeatState) (visits : List (Visit L)) (seat_now : SeatState)
      → InTurn (VisitsClients traffic marks faults) seat visits seat_now → IsPrefix seat.events seat_now.events
  all_known seat [] seat_now none =
      subst (λ (last : SeatState). IsPrefix seat.events last.events) (sym none) (prefix_self seat.events)
  all_known seat (visit ∷ more) seat_now (between, (silent, (tally, calls, serves)), rest) =
      prefix_then seat.events between.events seat_now.events (known_on serves) (all_known between more seat_now rest)

  pub each_entered : (events : List Event) (seat : SeatState) (visits : List (Visit L)) (seat_now : SeatState)
      (in_turn : InTurn (VisitsClients traffic marks faults) seat visits seat_now) → IsPrefix seat_now.events events
      → EachEntered traffic marks faults events seat visits seat_now in_turn
  each_entered events seat [] seat_now none known = tt
  each_entered events seat (visit ∷ more) seat_now (between, (silent, (tally, calls, serves)), rest) known = (
    all_entered events serves
        (prefix_then between.events seat_now.events events (all_known between more seat_now rest) known),
    each_entered events between more seat_now rest known,
  )

-- ---- behind an acknowledged commit

all_above : (commit entered : ℕ) (answered : List Answered) → commit ≤ entered
    → AllByRecursion (λ (one : Answered). entered ≤ one.desk.commit) answered
    → AllByRecursion (λ (one : Answered). commit ≤ one.desk.commit) answered
all_above commit entered [] low fresh = tt
all_above commit entered (one ∷ more) low (here, others) = (omega (arith, low, here), all_above commit entered more low others)

pub above_hung : (events : List Event) (entered commit : ℕ) (answered : List Answered) (is : IsEntered events entered answered)
    → HasHungTo is.front commit → AllByRecursion (λ (one : Answered). commit ≤ one.desk.commit) answered
above_hung events entered commit answered is (to, low, has) =
    let high : to ≤ entered = is.above has.0 to has.1 in
    let above : commit ≤ entered = omega (arith, low, high) in all_above commit entered answered above is.fresh
