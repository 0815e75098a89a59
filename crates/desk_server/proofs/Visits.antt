-- One more connection of a worker.
use Rattle.std.proofs.Common.{◌≡◌, ◌∙◌, ◌⊎◌, ℕ, Bool, true, false, List, [], ◌∷◌, ◌++◌, map, Option, inl, inr, refl}
use Rattle.std.proofs.Common.{sym, ap, subst}
use Rattle.std.proofs.Common.{append_assoc, append-nil}
use Rattle.std.proofs.lemmas.List.{map-append}
use Rattle.std.specs.Bool.{OnTrue, OnFalse}
use Rattle.std.specs.List.{AllByRecursion}
use Rattle.link_ports.specs.LinkMarks.{LinkMarks}
use Rattle.link_ports.specs.Told.{AppendsTold}
use Rattle.door_frames.specs.declared.endings.Ended.{Ended}
use Rattle.server_hall.specs.StopNews.{StopsTold, told_on, told_so}
use Rattle.admin_door.specs.Serving.{AdminTalk, Exchange, Serves}
use Rattle.desk_server.specs.Visit.{Visit, IsFresh, InTurn, GivesBack, GoesOn, Works, IsOver, IsNotOver, told_each}
use Rattle.desk_server.specs.Visit.{GoesOnTold}
use Rattle.desk_server.specs.Visit.{EndsWorking, door_faults_after}
use Rattle.desk_server.specs.Administrators.{EndsBehind, EndsAdministrators}
use Rattle.desk_server.specs.declared.workers.WorkerEnd.{WorkerEnd}
use Rattle.desk_server.specs.declared.workers.WorkerEnd.TheVariants.{Stopped, DoorFailed, Memory, Alone, Unstarted}
use Rattle.desk_server.specs.parts.Turn.{SoFar, RefusesLink}

-- ---- lists

all_more : {X : Type 0} (P : X → Type 0) (front : List X) (last : X) → AllByRecursion P front → P last
    → AllByRecursion P (front ++ last ∷ [])
all_more P [] last all one = (one, tt)
all_more P (x ∷ front) last (first, all) one = (first, all_more P front last all one)

in_turn_more : {S L : Type 0} (step : S → Visit L → S → Type 0) (start between now : S) (visits : List (Visit L))
    (visit : Visit L)
    → InTurn step start visits between → step between visit now → InTurn step start (visits ++ visit ∷ []) now
in_turn_more step start between now [] visit is one = (now, subst (λ from. step from visit now) is one, refl)
in_turn_more step start between now (first ∷ visits) visit (middle, it, rest) one =
    (middle, it, in_turn_more step middle between now visits visit rest one)

gives_more : {L : Type 0} (old given new : Option (List L)) (visits : List (Visit L)) (visit : Visit L)
    → GivesBack old visits given → AppendsTold given visit.returned new → GivesBack old (visits ++ visit ∷ []) new
gives_more {L} old given new visits visit so_far appends = λ after told.
    let (between, given_is, after_is) = appends after told in
    let (before, old_is, between_is) = so_far between given_is in (
      before,
      old_is,
      after_is ∙ (ap (λ (links : List L). links ++ visit.returned ∷ []) between_is
          ∙ (append_assoc before (map (λ (v : Visit L). v.returned) visits) (visit.returned ∷ [])
          ∙ ap (λ (links : List L). before ++ links)
          (sym (map-append (λ (v : Visit L). v.returned) visits (visit ∷ []))))),
    )

-- ---- frames

-- The frames of a connection, what is told of them, and that they came behind those of before.
pub visit_frames : (start now : AdminTalk) (ended : Ended) (Keeps : List Exchange → Type 0)
    → Serves start now ended Keeps
    → (frames : List Exchange) × Keeps frames
    × ((before : List Exchange) → Serves start now ended (λ exchanges. before ++ frames ≡ before ++ exchanges))
visit_frames start now ended Keeps served = (
  served.answered ++ served.last,
  served.keeps,
  λ before. record {
    received = served.received;
    answered = served.answered;
    between = served.between;
    last = served.last;
    last_bytes = served.last_bytes;
    cause = served.cause;
    in_turn = served.in_turn;
    ending = served.ending;
    stopping = served.stopping;
    bytes = served.bytes;
    carried = served.carried;
    faults = served.faults;
    at_end = served.at_end;
    ends = served.ends;
    keeps = refl;
  },
)

-- ---- what a worker is told

told_more : {L : Type 0} (visits : List (Visit L)) (visit : Visit L) (told : StopsTold)
    → told_each (visits ++ visit ∷ []) told ≡ told_on (told_each visits told)
told_more [] visit told = refl
told_more (first ∷ visits) visit told = told_more visits visit (told_on told)

-- what it is told, behind a connection that did not end for a stop
pub over_told : (over : Bool) (ended : Ended) (told told_now : StopsTold) → GoesOn ended → told_now ≡ told_so over told
    → OnTrue over (IsOver ended told told_now)
over_told true ended told told_now on is = inr (on, is)
over_told false ended told told_now on is = tt

pub on_told : (over : Bool) (ended : Ended) (told told_now : StopsTold) → GoesOn ended → told_now ≡ told_so over told
    → OnFalse over (IsNotOver ended told told_now)
on_told true ended told told_now on is = tt
on_told false ended told told_now on is = (on, is)

-- it goes on behind one more connection
pub goes_told : {L : Type 0} (told was is : StopsTold) (visit : Visit L) → IsNotOver visit.ended was is
    → (visits : List (Visit L))
    → GoesOnTold told was visits → GoesOnTold told is (visits ++ visit ∷ [])
goes_told {L} told was is visit (on, asked) visits (all, so) = (
  all_more (λ (v : Visit L). GoesOn v.ended) visits visit all on,
  asked ∙ (ap (λ (t : StopsTold). told_on t) so ∙ sym (told_more visits visit told)),
)

-- it is over behind one more
pub stops_told : {L : Type 0} (told was is : StopsTold) (visit : Visit L) → IsOver visit.ended was is
    → (visits : List (Visit L))
    → GoesOnTold told was visits → EndsWorking told is Stopped (visits ++ visit ∷ [])
stops_told told was is visit over visits (all, so) =
    (visits, visit, refl, all, subst (λ (t : StopsTold). IsOver visit.ended t is) so over)

-- its door accepts none
pub refused_told : {L : Type 0} (told told_now : StopsTold) (end : WorkerEnd) → (end ≡ DoorFailed) ⊎ (end ≡ Memory)
    → (visits : List (Visit L)) → GoesOnTold told told_now visits → EndsWorking told told_now end visits
refused_told told told_now end (inl is) visits goes = subst (λ (e : WorkerEnd). EndsWorking told told_now e visits)
    (sym is) goes
refused_told told told_now end (inr is) visits goes = subst (λ (e : WorkerEnd). EndsWorking told told_now e visits)
    (sym is) goes

-- ---- administrators

-- it made a stop, or is told that the service is stopped
pub ends_admin_state : {L : Type 0} (told was is : StopsTold) (end : WorkerEnd) (visit : Visit L)
    → EndsBehind end visit.ended was is
    → (visits : List (Visit L)) → GoesOnTold told was visits → EndsAdministrators told is end (visits ++ visit ∷ [])
ends_admin_state told was is Stopped visit behind visits (all, so) =
    (visits, visit, refl, all, subst (λ (t : StopsTold). EndsBehind Stopped visit.ended t is) so behind)
ends_admin_state told was is Alone visit behind visits (all, so) =
    (visits, visit, refl, all, subst (λ (t : StopsTold). EndsBehind Alone visit.ended t is) so behind)
ends_admin_state told was is DoorFailed visit behind visits goes = absurd behind
ends_admin_state told was is Memory visit behind visits goes = absurd behind
ends_admin_state told was is Unstarted visit behind visits goes = absurd behind

-- its door counts nothing then
pub behind_counts : (end : WorkerEnd) (ended : Ended) (told told_now : StopsTold) → EndsBehind end ended told told_now
    → (n : ℕ)
    → door_faults_after end n ≡ n
behind_counts Stopped ended told told_now behind n = refl
behind_counts Alone ended told told_now behind n = refl
behind_counts DoorFailed ended told told_now behind n = absurd behind
behind_counts Memory ended told told_now behind n = absurd behind
behind_counts Unstarted ended told told_now behind n = absurd behind

-- its door accepts none
pub refused_admin_state : {L : Type 0} (told told_now : StopsTold) (end : WorkerEnd) → (end ≡ DoorFailed) ⊎ (end ≡ Memory)
    → (visits : List (Visit L)) → GoesOnTold told told_now visits → EndsAdministrators told told_now end visits
refused_admin_state told told_now end (inl is) visits goes = subst (λ (e : WorkerEnd). EndsAdministrators told told_now e visits)
    (sym is) goes
refused_admin_state told told_now end (inr is) visits goes = subst (λ (e : WorkerEnd). EndsAdministrators told told_now e visits)
    (sym is) goes

-- ---- turns

module _ {S L : Type 0} (step : S → Visit L → S → Type 0) (marks : L → LinkMarks) (faults : L → ℕ) where
  -- nothing was done yet
  pub begins : (goes : List (Visit L) → Type 0) (start : S) (given : Option (List L)) (count : ℕ) → goes []
      → SoFar step goes marks faults start start given given count count
  begins goes start given count none = record {
    visits = [];
    fresh = tt;
    in_turn = refl;
    go_on = none;
    given_back = λ after told. (after, told, sym (append-nil after));
    counted = refl;
  }

  module _ (start old now : S) (given given_old given_kept given_now : Option (List L)) (count count_old count_now : ℕ)
      (visit : Visit L)
      (was : List (Visit L) → Type 0) where
    -- the worker goes on behind a connection
    pub goes_on : (is : List (Visit L) → Type 0) → SoFar step was marks faults start old given given_old count count_old
        → IsFresh marks faults visit → step old visit now
        → ((visits : List (Visit L)) → was visits → is (visits ++ visit ∷ []))
        → given_kept ≡ given_old → AppendsTold given_kept visit.returned given_now → count_now ≡ count_old
        → SoFar step is marks faults start now given given_now count count_now
    goes_on is so_far fresh one goes kept appends same = record {
      visits = so_far.visits ++ visit ∷ [];
      fresh = all_more (IsFresh marks faults) so_far.visits visit so_far.fresh fresh;
      in_turn = in_turn_more step start old now so_far.visits visit so_far.in_turn one;
      go_on = goes so_far.visits so_far.go_on;
      given_back = gives_more given given_old given_now so_far.visits visit so_far.given_back
          (subst (λ (told : Option (List L)). AppendsTold told visit.returned given_now) kept appends);
      counted = same ∙ so_far.counted;
    }

    -- it ends so behind one, and its door counts nothing
    pub stops_as : (end : WorkerEnd) (ends : WorkerEnd → List (Visit L) → Type 0)
        → SoFar step was marks faults start old given given_old count count_old
        → IsFresh marks faults visit → step old visit now
        → ((visits : List (Visit L)) → was visits → ends end (visits ++ visit ∷ []))
        → ((n : ℕ) → door_faults_after end n ≡ n)
        → given_kept ≡ given_old → AppendsTold given_kept visit.returned given_now → count_now ≡ count_old
        → Works step ends marks faults end start now given given_now count count_now
    stops_as end ends so_far fresh one over uncounted kept appends same = record {
      visits = so_far.visits ++ visit ∷ [];
      fresh = all_more (IsFresh marks faults) so_far.visits visit so_far.fresh fresh;
      in_turn = in_turn_more step start old now so_far.visits visit so_far.in_turn one;
      ending = over so_far.visits so_far.go_on;
      given_back = gives_more given given_old given_now so_far.visits visit so_far.given_back
          (subst (λ (told : Option (List L)). AppendsTold told visit.returned given_now) kept appends);
      counted = same ∙ (so_far.counted ∙ sym (uncounted count));
    }

    -- it ends as stopped behind one
    pub stops : (ends : WorkerEnd → List (Visit L) → Type 0)
        → SoFar step was marks faults start old given given_old count count_old
        → IsFresh marks faults visit → step old visit now
        → ((visits : List (Visit L)) → was visits → ends Stopped (visits ++ visit ∷ []))
        → given_kept ≡ given_old → AppendsTold given_kept visit.returned given_now → count_now ≡ count_old
        → Works step ends marks faults Stopped start now given given_now count count_now
    stops ends so_far fresh one over kept appends same = stops_as Stopped ends so_far fresh one over (λ n. refl) kept
        appends same

  -- the door accepts no link
  pub refused : (start now : S) (given given_old given_now : Option (List L)) (count count_old count_now : ℕ)
      (end : WorkerEnd)
      (was : List (Visit L) → Type 0) (ends : WorkerEnd → List (Visit L) → Type 0)
      → SoFar step was marks faults start now given given_old count count_old
      → ((visits : List (Visit L)) → was visits → ends end visits) → given_now ≡ given_old
      → RefusesLink end count_old count_now
      → Works step ends marks faults end start now given given_now count count_now
  refused start now given given_old given_now count count_old count_now end was ends so_far ending same
      refuses = record {
        visits = so_far.visits;
        fresh = so_far.fresh;
        in_turn = so_far.in_turn;
        ending = ending so_far.visits so_far.go_on;
        given_back = subst (λ (told : Option (List L)). GivesBack given so_far.visits told) (sym same)
            so_far.given_back;
        counted = refuses.1 ∙ ap (λ (n : ℕ). door_faults_after end n) so_far.counted;
      }
