-- The workers of a service, from their stations to their ends.
use Rattle.std.proofs.Common.{◌≡◌, ◌∙◌, ◌<◌, ◌+◌, ℕ, zero, suc, ◌||◌, List, [], ◌∷◌, ◌++◌, length, map, slice_index_or, replicate, Option, Some}
use Rattle.std.proofs.Common.{None, Bool, true, false, refl, sym, ap, subst, arith, append_assoc, append-nil}
use Rattle.std.proofs.lemmas.List.{length-append, map-append, replicate_more}
use Rattle.std.specs.List.{AllZip, AllByRecursion, list_any}
use Rattle.std.specs.Option.{option_to_list}
use Rattle.link_ports.specs.Traffic.{Traffic}
use Rattle.link_ports.specs.LinkMarks.{LinkMarks}
use Rattle.link_ports.specs.declared.door_kinds.DoorKind.{DoorKind}
use Rattle.desk_state.specs.DeskState.{DeskState}
use mathlib.Core.List.{IsPrefix}
use Rattle.live_roll.specs.declared.events.Event.{Event}
use Rattle.live_desk.specs.History.{GoesOn}
use Rattle.live_desk.specs.Seat.{SeatState, new_seat, new_seats}
use Rattle.server_hall.specs.StopNews.{StopsTold, unasked}
use Rattle.desk_server.specs.Visit.{Visit, Works, EndsWorking, door_faults_after}
use Rattle.desk_server.specs.Agents.{VisitsAgents}
use Rattle.desk_server.specs.declared.workers.WorkerEnd.{WorkerEnd}
use Rattle.desk_server.specs.declared.workers.WorkerEnd.TheVariants.{Stopped, DoorFailed, Memory, Alone, Unstarted}
use Rattle.serve_runs.specs.Pool.{EndedWorker, ends_of, doors_of, left_by, lacks_memory, is_alone, is_deserted, kind_for, posts_with}
use Rattle.serve_runs.specs.Pool.{WorksFor, Serves}
use Rattle.serve_runs.specs.Handlers.{states_of, AreStatesOf}
use Rattle.serve_runs.specs.Serving.{HasRisen}
use Rattle.serve_runs.specs.declared.pools.Station.{Station}
use Rattle.serve_runs.specs.declared.pools.Station.TheVariants.{Clients, Agents}
use Rattle.serve_runs.specs.declared.pools.Worker.{Worker}
use Rattle.serve_runs.specs.parts.Pools.{handler_at, seat_at, post_at, stations_with, handlers_in, handler_of, handlers_of, door_of, lacked}
use Rattle.serve_runs.specs.parts.Pools.{worker_lacked}
use Rattle.serve_runs.specs.parts.Pools.{CountsDoor, StandsAt, WorksAt, HasWorked, HasSeenOf, SawOnly}

-- ---- stations

-- as many seats as were asked for
pub seats_are : (count : ℕ) → length (new_seats count) ≡ count
seats_are zero = refl
seats_are (suc count) =
    length-append (new_seats count) (new_seat count ∷ []) ∙ (let is = seats_are count in omega (arith, is))

-- what the stations hand on is that of the seats and handlers
pub posts_given : {S : Type 0} (J X : Type 0) (state : SeatState → X → S) (seats : List SeatState) (handlers : List X)
    → map (post_at {J = J} state) (stations_with seats handlers) ≡ posts_with (states_of state seats handlers)
posts_given J X state [] [] = refl
posts_given J X state [] (handler ∷ handlers) = refl
posts_given J X state (seat ∷ seats) [] = refl
posts_given {S} J X state (seat ∷ seats) (handler ∷ handlers) =
    ap (λ (list : List (Option S)). Some (state seat handler) ∷ list) (posts_given J X state seats handlers)

-- where nothing but the seats is handed on
pub plain_states : {X : Type 0} (seats : List SeatState) (handlers : List X) → length handlers ≡ length seats
    → states_of (λ seat handler. seat) seats handlers ≡ seats
plain_states [] [] long = refl
plain_states [] (handler ∷ handlers) long = refl
plain_states (seat ∷ seats) [] long = absurd (omega (arith, long))
plain_states (seat ∷ seats) (handler ∷ handlers) long =
    ap (λ (list : List SeatState). seat ∷ list) (plain_states seats handlers (omega (arith, long)))

-- one more for agents
pub agents_more : {J X : Type 0} (start stations after : List (Station J X)) (count : ℕ) → stations ≡ start ++ replicate count Agents
    → after ≡ stations ++ Agents ∷ [] → after ≡ start ++ replicate (count + 1) Agents
agents_more {J} {X} start stations after count is pushed =
    pushed
    ∙ (ap (λ (list : List (Station J X)). list ++ Agents ∷ []) is
    ∙ (append_assoc start (replicate count Agents) (Agents ∷ [])
    ∙ ap (λ (list : List (Station J X)). start ++ list) (replicate_more count Agents)))

-- ---- lists

pub zip_push : {A B : Type 0} (R : A → B → Type 0) (xs : List A) (ys : List B) (x : A) (y : B) → AllZip R xs ys → R x y
    → AllZip R (xs ++ x ∷ []) (ys ++ y ∷ [])
zip_push R [] [] x y all one = (one, tt)
zip_push R [] (b ∷ ys) x y all one = absurd all
zip_push R (a ∷ xs) [] x y all one = absurd all
zip_push R (a ∷ xs) (b ∷ ys) x y (first, all) one = (first, zip_push R xs ys x y all one)

pub all_push : {A : Type 0} (P : A → Type 0) (xs : List A) (x : A) → AllByRecursion P xs → P x → AllByRecursion P (xs ++ x ∷ [])
all_push P [] x all one = (one, tt)
all_push P (a ∷ xs) x (first, all) one = (first, all_push P xs x all one)

-- what is known of each place of two lists
pub zip_each : {W : Type 0} (R : W → W → Type 0) (old new : List W) → length new ≡ length old
    → ((i : ℕ) (d : W) → i < length old → R (slice_index_or old i d) (slice_index_or new i d)) → AllZip R old new
zip_each R [] [] long each = tt
zip_each R [] (y ∷ new) long each = absurd (omega (arith, long))
zip_each R (x ∷ old) [] long each = absurd (omega (arith, long))
zip_each R (x ∷ old) (y ∷ new) long each =
    (each zero x (omega arith), zip_each R old new (omega (arith, long)) (λ i d low. each (suc i) d (omega (arith, low))))

-- what a call left of a worker
pub went : {W : Type 0} (R : W → W → Type 0) (x y argument after : W) → argument ≡ x → after ≡ y → R argument after → R x y
went R x y argument after is left call = subst (λ b. R x b) left (subst (λ a. R a after) is call)

-- ---- one worker more

in_more : {X : Type 0} (some more : List (Option X)) → handlers_in (some ++ more) ≡ handlers_in some ++ handlers_in more
in_more [] more = refl
in_more (None ∷ some) more = in_more some more
in_more (Some handler ∷ some) more = ap (λ list. handler ∷ list) (in_more some more)

in_one : {X : Type 0} (handler : Option X) → handlers_in (handler ∷ []) ≡ option_to_list handler
in_one None = refl
in_one (Some handler) = refl

pub handlers_push : {J E X : Type 0} (pool : List (Worker J E X)) (worker : Worker J E X)
    → handlers_of (pool ++ worker ∷ []) ≡ handlers_of pool ++ option_to_list (handler_of worker)
handlers_push {J} {E} {X} pool worker =
    ap (λ (list : List (Option X)). handlers_in list) (map-append (λ (w : Worker J E X). handler_of w) pool (worker ∷ []))
    ∙ (in_more (map (λ (w : Worker J E X). handler_of w) pool) (handler_of worker ∷ [])
    ∙ ap (λ (list : List X). handlers_of pool ++ list) (in_one (handler_of worker)))

pub doors_push : {J E X : Type 0} (pool : List (Worker J E X)) (worker : Worker J E X)
    → map door_of (pool ++ worker ∷ []) ≡ map door_of pool ++ door_of worker ∷ []
doors_push {J} {E} {X} pool worker = map-append (λ (w : Worker J E X). door_of w) pool (worker ∷ [])

-- ---- all workers

module _ {S L J E X : Type 0} (state : SeatState → X → S) (visits : S → Visit L → S → Type 0)
    (traffic : L → Option Traffic) (marks : L → LinkMarks) (faults : L → ℕ)
    (given_back : E → Option (List L)) (door_faults : E → ℕ) where
  -- A worker that is not started leaves its station and its door as they were.
  pub unstarted : (station : Station J X) (door : E) (told : StopsTold)
      → WorksAt state visits traffic marks faults given_back door_faults Unstarted station station door door told told
  unstarted (Clients seat handler) door told =
      record {
        visits = [];
        fresh = tt;
        in_turn = refl;
        ending = (refl, refl);
        given_back = λ after is. (after, is, sym (append-nil after));
        counted = refl;
      }
  unstarted Agents door told =
      record {
        visits = [];
        fresh = tt;
        in_turn = refl;
        ending = (refl, refl);
        given_back = λ after is. (after, is, sym (append-nil after));
        counted = refl;
      }

module _ {S L J E X : Type 0} (state : SeatState → X → S) (seat_of : S → SeatState)
    (seat_is : (seat : SeatState) (handler : X) → seat_of (state seat handler) ≡ seat) (visits : S → Visit L → S → Type 0)
    (traffic : L → Option Traffic) (marks : L → LinkMarks) (faults : L → ℕ)
    (given_back : E → Option (List L)) (door_faults : E → ℕ) (kind : E → Option DoorKind) (published : List DeskState)
    (events : List Event) where
  works_for : (station now : Station J X) (end : WorkerEnd) (door door_now : E) (told : StopsTold) → door_faults door ≡ 0
      → WorksAt state visits traffic marks faults given_back door_faults end station now door door_now unasked told
      → HasSeenOf published events (seat_at now)
      → WorksFor seat_of visits traffic marks faults given_back door_faults kind published events (post_at state station)
      (post_at state now) end told (given_back door) door_now
  works_for (Clients seat handler) (Clients seat_now handler_now) end door door_now told fresh works saw = (
    subst (λ (seat : SeatState). GoesOn seat.seen published) (sym (seat_is seat_now handler_now)) saw.0,
    subst (λ (seat : SeatState). IsPrefix seat.events events) (sym (seat_is seat_now handler_now)) saw.1,
    subst (λ (count : ℕ). Works visits (EndsWorking unasked told) marks faults end (state seat handler) (state seat_now handler_now)
        (given_back door) (given_back door_now) count (door_faults door_now)) fresh works,
  )
  works_for Agents Agents end door door_now told fresh works saw =
      subst (λ (count : ℕ). Works (VisitsAgents traffic marks faults) (EndsWorking unasked told) marks faults end tt tt
      (given_back door) (given_back door_now) count (door_faults door_now)) fresh works
  works_for (Clients seat handler) Agents end door door_now told fresh works saw = absurd works
  works_for Agents (Clients seat handler) end door door_now told fresh works saw = absurd works

  kinds : (station : Station J X) → kind_for (seat_at station) ≡ kind_for (post_at state station)
  kinds (Clients seat handler) = refl
  kinds Agents = refl

  serves_one : (station : Station J X) (opened now : Worker J E X) → StandsAt given_back door_faults kind station opened
      → (worked : HasWorked state visits traffic marks faults given_back door_faults kind opened now) → SawOnly published events now
      → Serves seat_of visits traffic marks faults given_back door_faults kind published events (post_at state station)
      (record { end = worked.end; door = now.door; left = post_at state now.station })
  serves_one station opened now stands worked saw =
      record {
        told = worked.told;
        given = given_back opened.door;
        unused = stands.unused;
        is_theirs = worked.same_kind ∙ (stands.is_theirs ∙ ap (λ (one : DoorKind). Some one) (kinds station));
        works = works_for station now.station worked.end opened.door now.door worked.told stands.fresh
            (subst (λ (at : Station J X). WorksAt state visits traffic marks faults given_back door_faults worked.end at now.station
            opened.door now.door unasked worked.told) stands.station_is worked.works) saw;
      }

  -- what a pool did that has ended
  pub record Ended (stations : List (Station J X)) (now : List (Worker J E X)) : Type 0 where
    pub pool : List (EndedWorker S E)
    pub serves : AllZip (Serves seat_of visits traffic marks faults given_back door_faults kind published events)
        (map (post_at state) stations) pool
    pub doors : doors_of pool ≡ map door_of now
    pub lacks : lacks_memory (ends_of pool) ≡ list_any worker_lacked now
    pub left : AreStatesOf state (handlers_of now) (left_by pool)

  left_one : (station : Station J X) (states : List S) (more : List (Option X)) → AreStatesOf state (handlers_in more) states
      → AreStatesOf state (handlers_in (handler_at station ∷ more)) (option_to_list (post_at state station) ++ states)
  left_one (Clients seat handler) states more (seats, long, is) =
      (seat ∷ seats, ap (λ (n : ℕ). suc n) long, ap (λ (list : List S). state seat handler ∷ list) is)
  left_one Agents states more left = left

  pub all_ended : (stations : List (Station J X)) (opened now : List (Worker J E X))
      → AllZip (StandsAt given_back door_faults kind) stations opened
      → AllZip (HasWorked state visits traffic marks faults given_back door_faults kind) opened now
      → AllByRecursion (SawOnly published events) now → Ended stations now
  all_ended [] [] [] stand worked saw = record { pool = []; serves = tt; doors = refl; lacks = refl; left = ([], refl, refl) }
  all_ended [] [] (w ∷ now) stand worked saw = absurd worked
  all_ended [] (o ∷ opened) now stand worked saw = absurd stand
  all_ended (s ∷ stations) [] now stand worked saw = absurd stand
  all_ended (s ∷ stations) (o ∷ opened) [] stand worked saw = absurd worked
  all_ended (s ∷ stations) (o ∷ opened) (w ∷ now) (stands, stand) (worked, all) (saw, more) =
      let rest = all_ended stations opened now stand all more in
      record {
        pool = record { end = worked.end; door = w.door; left = post_at state w.station } ∷ rest.pool;
        serves = (serves_one s o w stands worked saw, rest.serves);
        doors = ap (λ (list : List E). w.door ∷ list) rest.doors;
        lacks = λ i. ap lacked (sym worked.ended) i || rest.lacks i;
        left = left_one w.station (left_by rest.pool) (map handler_of now) rest.left;
      }

-- by the worker of administrators alone
pub alone_first : (alone first rest : Bool) → alone ≡ first → rest ≡ false → alone ≡ first || rest
alone_first alone true rest is none = is
alone_first alone false rest is none = is ∙ sym none

-- ---- doors that failed

module _ {S L E : Type 0} (seat_of : S → SeatState) (visits : S → Visit L → S → Type 0)
    (traffic : L → Option Traffic) (marks : L → LinkMarks) (faults : L → ℕ)
    (given_back : E → Option (List L)) (door_faults : E → ℕ) (kind : E → Option DoorKind) (published : List DeskState)
    (events : List Event) (before after : ℕ) where
  abbrev For : Option S → Option S → WorkerEnd → StopsTold → Option (List L) → E → Type 0
  For = WorksFor seat_of visits traffic marks faults given_back door_faults kind published events

  counted : (post left : Option S) (end : WorkerEnd) (told : StopsTold) (given : Option (List L)) (door : E)
      → For post left end told given door → door_faults door ≡ door_faults_after end 0
  counted (Some start) (Some now) end told given door (saw, knew, works) = works.counted
  counted None None end told given door works = works.counted
  counted (Some start) None end told given door works = absurd works
  counted None (Some now) end told given door works = absurd works

  never_alone : (post left : Option S) (end : WorkerEnd) (told : StopsTold) (given : Option (List L)) (door : E)
      → For post left end told given door → is_alone end ≡ false
  never_alone (Some start) (Some now) Alone told given door (saw, knew, works) = absurd works.ending
  never_alone None None Alone told given door works = absurd works.ending
  never_alone (Some start) None Alone told given door works = absurd works
  never_alone None (Some now) Alone told given door works = absurd works
  never_alone post left Stopped told given door works = refl
  never_alone post left DoorFailed told given door works = refl
  never_alone post left Memory told given door works = refl
  never_alone post left Unstarted told given door works = refl

  -- no worker of clients or of agents ends alone
  pub none_alone : (posts : List (Option S)) (pool : List (EndedWorker S E))
      → AllZip (Serves seat_of visits traffic marks faults given_back door_faults kind published events) posts pool → is_deserted (ends_of pool) ≡ false
  none_alone [] [] serve = refl
  none_alone [] (w ∷ pool) serve = absurd serve
  none_alone (post ∷ posts) [] serve = absurd serve
  none_alone (post ∷ posts) (w ∷ pool) (serves, serve) =
      λ i. never_alone post w.left w.end serves.told serves.given w.door serves.works i || none_alone posts pool serve i

  -- Each door of a worker that ended since its door failed raised the count of its net.
  pub failed_all : (posts : List (Option S)) (pool : List (EndedWorker S E))
      → AllZip (Serves seat_of visits traffic marks faults given_back door_faults kind published events) posts pool
      → AllByRecursion (λ (door : E). CountsDoor (door_faults door) before after) (doors_of pool)
      → AllByRecursion (λ (end : WorkerEnd). end ≡ DoorFailed → HasRisen before after) (ends_of pool)
  failed_all [] [] serve counts = tt
  failed_all [] (w ∷ pool) serve counts = absurd serve
  failed_all (post ∷ posts) [] serve counts = absurd serve
  failed_all (post ∷ posts) (w ∷ pool) (serves, serve) (counts, more) = (
    (λ is. counts (counted post w.left w.end serves.told serves.given w.door serves.works ∙ ap (λ (end : WorkerEnd). door_faults_after end 0) is)),
    failed_all posts pool serve more,
  )
