-- What each change of the places keeps.
use Rattle.std.proofs.Common.{◌≡◌, ℕ, max, Bool, true, false, List, [], ◌∷◌, ◌++◌, set, zero, suc, length, Option, Some, None, refl, sym, ◌∙◌, ap, subst, arith}
use Rattle.std.proofs.lemmas.Bool.{ltb-false}
use Rattle.std.proofs.lemmas.List.{with_items_is}
use Rattle.std.specs.Vec.{with_items}
use Rattle.std.specs.declared.vec.Vec.{Vec}
use Rattle.std.specs.declared.alloc.Global.{Global}
use Rattle.std.specs.List.{AllByRecursion}
use Rattle.live_roll.specs.declared.entries.Entry.{Entry}
use Rattle.live_roll.specs.declared.events.Event.{Event}
use Rattle.live_roll.specs.declared.events.Event.TheVariants.{Entered, Hung}
use Rattle.live_roll.specs.Events.{hung_to, EnterAbove}
use Rattle.live_roll.specs.Places.{IsHungUp, IsHungUpIf, IsClosed, IsCurrent, AreHungUp, AreHungBelow, is_below, IsVacant}
use Rattle.live_roll.specs.Roll.{RollState, IsRoll}
use Rattle.live_roll.proofs.Following.{noted_entry, above_entry, noted_hang, above_hang}

module _ {H : Type 0} where
  pub vacant_push : (places : List (Option (Entry H))) → IsVacant places → IsVacant (places ++ None ∷ [])
  vacant_push [] vacant = (refl, tt)
  vacant_push (place ∷ places) vacant = (vacant.0, vacant_push places vacant.1)

  -- where nothing stands each end that is not hung up entered at the commit
  pub current_vacant : (used : H → Bool) (note : ℕ) (places : List (Option (Entry H))) → IsVacant places
      → AllByRecursion (IsCurrent used note) places
  current_vacant used note [] vacant = tt
  current_vacant used note (place ∷ places) vacant =
      (subst (IsCurrent used note) (sym vacant.0) tt, current_vacant used note places vacant.1)

  -- a fact of each place stays where one place changes
  pub all_set : (P : Option (Entry H) → Type 0) (places : List (Option (Entry H))) (at : ℕ) (place : Option (Entry H))
      → P place → AllByRecursion P places → AllByRecursion P (set places at place)
  all_set P [] at place own all = tt
  all_set P (first ∷ places) zero place own all = (own, all.1)
  all_set P (first ∷ places) (suc at) place own all = (all.0, all_set P places at place own all.1)

  -- what was hung up is closed, and whatever is closed is current at any commit
  pub closed_hung : (used : H → Bool) (place now : Option (Entry H)) → IsHungUp used place now → IsClosed used now
  closed_hung used None now is = subst (IsClosed used) (sym is) tt
  closed_hung used (Some entry) None is = absurd is
  closed_hung used (Some entry) (Some now) is = is.1

  pub current_closed : (used : H → Bool) (note : ℕ) (place : Option (Entry H)) → IsClosed used place → IsCurrent used note place
  current_closed used note None is = tt
  current_closed used note (Some entry) is = λ unused. absurd (cc (is, unused))

  one_kept : (used : H → Bool) (note commit : ℕ) (b : Bool) (place now : Option (Entry H)) → IsCurrent used note place
      → is_below (max note commit) place ≡ b → IsHungUpIf used b place now → IsCurrent used (max note commit) now
  one_kept used note commit true place now is below hung =
      current_closed used (max note commit) now (closed_hung used place now hung)
  one_kept used note commit false None now is below hung = subst (IsCurrent used (max note commit)) (sym hung) tt
  one_kept used note commit false (Some entry) now is below hung =
      subst (IsCurrent used (max note commit)) (sym hung)
      (λ unused. let own : entry.entered ≡ note = is unused in
      omega (arith, own, ltb-false entry.entered (max note commit) below))

  -- what is not hung up entered at the note that was, or it has risen and all are hung up
  pub current_kept : (used : H → Bool) (note commit : ℕ) (places now : List (Option (Entry H)))
      → AllByRecursion (IsCurrent used note) places → AreHungBelow used (max note commit) places now
      → AllByRecursion (IsCurrent used (max note commit)) now
  current_kept used note commit [] now all hung = subst (AllByRecursion (IsCurrent used (max note commit))) (sym hung) tt
  current_kept used note commit (place ∷ places) [] all hung = tt
  current_kept used note commit (place ∷ places) (now ∷ more) all hung = (
    one_kept used note commit (is_below (max note commit) place) place now all.0 refl hung.0,
    current_kept used note commit places more all.1 hung.1,
  )

  one_closed : (used : H → Bool) (b : Bool) (place now : Option (Entry H)) → IsClosed used place → IsHungUpIf used b place now
      → IsClosed used now
  one_closed used true place now is hung = closed_hung used place now hung
  one_closed used false place now is hung = subst (IsClosed used) (sym hung) is

  pub closed_kept : (used : H → Bool) (low : ℕ) (places now : List (Option (Entry H)))
      → AllByRecursion (IsClosed used) places → AreHungBelow used low places now → AllByRecursion (IsClosed used) now
  closed_kept used low [] now all hung = subst (AllByRecursion (IsClosed used)) (sym hung) tt
  closed_kept used low (place ∷ places) [] all hung = tt
  closed_kept used low (place ∷ places) (now ∷ more) all hung =
      (one_closed used (is_below low place) place now all.0 hung.0, closed_kept used low places more all.1 hung.1)

  pub closed_each : (used : H → Bool) (places now : List (Option (Entry H))) → AreHungUp used places now
      → AllByRecursion (IsClosed used) now
  closed_each used [] now hung = subst (AllByRecursion (IsClosed used)) (sym hung) tt
  closed_each used (place ∷ places) [] hung = tt
  closed_each used (place ∷ places) (now ∷ more) hung = (closed_hung used place now hung.0, closed_each used places more hung.1)

  pub current_each : (used : H → Bool) (note : ℕ) (places : List (Option (Entry H))) → AllByRecursion (IsClosed used) places
      → AllByRecursion (IsCurrent used note) places
  current_each used note [] all = tt
  current_each used note (place ∷ places) all =
      (current_closed used note place all.0, current_each used note places all.1)

  -- none is lost
  pub count_below : (used : H → Bool) (low : ℕ) (places now : List (Option (Entry H))) → AreHungBelow used low places now
      → length now ≡ length places
  count_below used low [] now hung = ap length hung
  count_below used low (place ∷ places) [] hung = absurd hung
  count_below used low (place ∷ places) (now ∷ more) hung = ap suc (count_below used low places more hung.1)

  pub count_each : (used : H → Bool) (places now : List (Option (Entry H))) → AreHungUp used places now → length now ≡ length places
  count_each used [] now hung = ap length hung
  count_each used (place ∷ places) [] hung = absurd hung
  count_each used (place ∷ places) (now ∷ more) hung = ap suc (count_each used places more hung.1)

  -- as many places written over a vector's are its places
  pub items_written : (kept : Vec (Option (Entry H)) Global) (written : List (Option (Entry H)))
      → length written ≡ length kept.items → (with_items kept written).items ≡ written
  items_written kept written same = with_items_is kept written (same ∙ sym kept.ok.0)

  -- an end stands in the place of a seat that entered at the note, and the log says so
  pub entered_roll : (used : H → Bool) (roll : RollState H) (seat : ℕ) (place : Option (Entry H)) (places : List (Option (Entry H)))
      (events : List Event) → IsRoll used roll → roll.is_stopped ≡ false → IsCurrent used roll.note place
      → places ≡ set roll.places seat place → length places ≡ 64 → events ≡ roll.events ++ Entered roll.note ∷ []
      → IsRoll used (record {
        workers = roll.workers;
        note = roll.note;
        is_stopped = roll.is_stopped;
        places = places;
        opened = roll.opened;
        events = events;
      })
  entered_roll used roll seat place places events is running own now count then = record {
    count = count;
    current = subst (AllByRecursion (IsCurrent used roll.note)) (sym now)
        (all_set (IsCurrent used roll.note) roll.places seat place own is.current);
    ended = λ stopped. absurd (cc (running, stopped));
    noted = noted_entry roll.opened roll.note roll.events events then is.noted;
    above = above_entry roll.opened roll.note roll.events events then is.noted is.above;
  }

  pub hung_roll : (used : H → Bool) (roll : RollState H) (commit : ℕ) (now : List (Option (Entry H))) (events : List Event)
      → IsRoll used roll → AreHungBelow used (max roll.note commit) roll.places now → events ≡ roll.events ++ Hung commit ∷ []
      → IsRoll used (record {
        workers = roll.workers;
        note = max roll.note commit;
        is_stopped = roll.is_stopped;
        places = now;
        opened = roll.opened;
        events = events;
      })
  hung_roll used roll commit now events is hung then = record {
    count = count_below used (max roll.note commit) roll.places now hung ∙ is.count;
    current = current_kept used roll.note commit roll.places now is.current hung;
    ended = λ ended. closed_kept used (max roll.note commit) roll.places now (is.ended ended) hung;
    noted = noted_hang roll.opened roll.note commit roll.events events then is.noted;
    above = above_hang roll.opened commit roll.events events then is.above;
  }

  pub stopped_roll : (used : H → Bool) (roll : RollState H) (now : List (Option (Entry H))) → IsRoll used roll
      → AreHungUp used roll.places now
      → IsRoll used (record {
        workers = roll.workers;
        note = roll.note;
        is_stopped = true;
        places = now;
        opened = roll.opened;
        events = roll.events;
      })
  stopped_roll used roll now is hung = record {
    count = count_each used roll.places now hung ∙ is.count;
    current = current_each used roll.note now (closed_each used roll.places now hung);
    ended = λ _. closed_each used roll.places now hung;
    noted = is.noted;
    above = is.above;
  }

  -- a roll that was just opened
  pub first_roll : (used : H → Bool) (workers note opened : ℕ) (places : List (Option (Entry H))) (events : List Event)
      → length places ≡ 64 → IsVacant places → opened ≡ note → events ≡ []
      → IsRoll used (record {
        workers = workers;
        note = note;
        is_stopped = false;
        places = places;
        opened = opened;
        events = events;
      })
  first_roll used workers note opened places events count vacant same quiet = record {
    count = count;
    current = current_vacant used note places vacant;
    ended = λ stopped. absurd (cc stopped);
    noted = sym (ap (hung_to opened) quiet ∙ same);
    above = subst (EnterAbove opened) (sym quiet) tt;
  }
