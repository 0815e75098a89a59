-- Checks that were recorded one after the other.
use Rattle.std.proofs.Common.{◌≡◌, ◌∙◌, List, [], ◌∷◌, ◌++◌, length, Option, Some, refl, sym, ap, subst}
use Rattle.link_ports.specs.Told.{ChangesTold}
use Rattle.check_monitor.specs.Monitor.{RecorderState, Records, IsSame}
use Rattle.monitor_rule.specs.declared.entries.Entry.{Entry}
use Rattle.monitor_rule.specs.declared.moments.Moment.{Moment}
use Rattle.check_monitor.specs.declared.recording.Recorded.{Recorded}
use Rattle.check_monitor.specs.declared.recording.Recorded.TheVariants.{Put, Full, Spent}
use Rattle.client_door.specs.Recording.{Recording, with_none_waiting, with_noted, with_all_recorded}
use Rattle.client_door.specs.declared.judgements.Judgement.{Judgement}
use Rattle.desk_server.specs.Monitoring.{entry_for, RecordsEach, HasRecorded}

pub records_more : (first more : List Judgement) (a b c : RecorderState) → RecordsEach a first b → RecordsEach b more c
    → RecordsEach a (first ++ more) c
records_more [] more a b c same then = subst (λ (x : RecorderState). RecordsEach x more c) same then
records_more (judgement ∷ first) more a b c (time, recorded, between, one, rest) then =
    (time, recorded, between, one, records_more first more between b c rest then)

pub records_next : (first : List Judgement) (judgement : Judgement) (a b c : RecorderState) (time : Option Moment)
    (recorded : Recorded)
    → RecordsEach a first b → Records b (entry_for b.worker (length b.put) time judgement) recorded c
    → RecordsEach a (first ++ judgement ∷ []) c
records_next first judgement a b c time recorded before one =
    records_more first (judgement ∷ []) a b c before (time, recorded, c, one, refl)

-- a recorder stays that of its worker
one_same : (old new : RecorderState) (entry : Entry) (recorded : Recorded) → Records old entry recorded new
    → IsSame old new
one_same old new entry (Put number) (below, is, same) =
    (ap (λ (x : RecorderState). x.queue) same, ap (λ (x : RecorderState). x.worker) same)
one_same old new entry (Full number) (below, is, same, full) =
    (ap (λ (x : RecorderState). x.queue) same, ap (λ (x : RecorderState). x.worker) same)
one_same old new entry (Spent number) (at, is, same) =
    (ap (λ (x : RecorderState). x.queue) same, ap (λ (x : RecorderState). x.worker) same)

pub stays_same : (judged : List Judgement) (old new : RecorderState) → RecordsEach old judged new → IsSame old new
stays_same [] old new same = (ap (λ (x : RecorderState). x.queue) same, ap (λ (x : RecorderState). x.worker) same)
stays_same (judgement ∷ more) old new (time, recorded, between, one, rest) =
    let first = one_same old between (entry_for old.worker (length old.put) time judgement) recorded one in
    let then = stays_same more between new rest in
    (then.0 ∙ first.0, then.1 ∙ first.1)

same_inside : (a b : Recording) → Some a ≡ Some b → a ≡ b
same_inside a b same = cc

-- a further check waits
pub notes_next : (start now : RecorderState) (waiting after : List Judgement) (judgement : Judgement)
    (told : Option Recording)
    → after ≡ waiting ++ judgement ∷ [] → HasRecorded start waiting now told
    → (next : Option Recording) × HasRecorded start after now next × ChangesTold told (with_noted judgement) next
notes_next start now waiting after judgement told is (recorded, told_is, records) = (
  Some (record { recorded = recorded; waiting = after }),
  (recorded, refl, records),
  λ state state_is.
      let same : record { recorded = recorded; waiting = waiting } ≡ state =
      same_inside (record { recorded = recorded; waiting = waiting }) state (sym told_is ∙ state_is) in
      ap (λ list. Some (record { recorded = recorded; waiting = list })) is
      ∙ ap (λ (x : Recording). Some (with_noted judgement x)) same,
)

-- all that waited was recorded
pub notes_recorded : (start now later : RecorderState) (waiting after : List Judgement) (told : Option Recording)
    → after ≡ [] → RecordsEach now waiting later → HasRecorded start waiting now told
    → (next : Option Recording) × HasRecorded start after later next × ChangesTold told with_all_recorded next
notes_recorded start now later waiting after told none each (recorded, told_is, records) = (
  Some (with_none_waiting (recorded ++ waiting)),
  (
    recorded ++ waiting,
    ap (λ list. Some (record { recorded = recorded ++ waiting; waiting = list })) (sym none),
    records_more recorded waiting start now later records each,
  ),
  λ state state_is.
      let same : record { recorded = recorded; waiting = waiting } ≡ state =
      same_inside (record { recorded = recorded; waiting = waiting }) state (sym told_is ∙ state_is) in
      ap (λ (x : Recording). Some (with_all_recorded x)) same,
)
