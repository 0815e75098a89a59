-- All recorders of a reader.
use Rattle.std.proofs.Common.{◌≡◌, ◌≢◌, ◌∙◌, ℕ, zero, suc, List, [], ◌∷◌, ◌++◌, length, refl, sym, subst, arith}
use Rattle.std.proofs.lemmas.List.{length-append}
use Rattle.std.specs.List.{AllZip}
use mathlib.Core.Option.{some, some-injective, some-ne-none}
use mathlib.Core.Logic.{dite}
use native.Mathlib.Decide.{ℕ_discrete}
use lib.ListN.{get_elem?}
use Rattle.atomic_table.specs.Seated.{TableId}
use Rattle.check_monitor.specs.Monitor.{RecorderState, AreOf, AreAll, IsSame, new_recorder_of, new_recorders}

at_front : (list more : List RecorderState) (place : ℕ) (recorder : RecorderState) → get_elem? list place ≡ some recorder
    → get_elem? (list ++ more) place ≡ some recorder
at_front [] more place recorder at = absurd (some-ne-none recorder (sym at))
at_front (first ∷ list) more zero recorder at = at
at_front (first ∷ list) more (suc place) recorder at = at_front list more place recorder at

at_last : (list : List RecorderState) (last : RecorderState) → get_elem? (list ++ last ∷ []) (length list) ≡ some last
at_last [] last = refl
at_last (first ∷ list) last = at_last list last

count_is : (queue : TableId) (room count : ℕ) → length (new_recorders queue room count) ≡ count
count_is queue room zero = refl
count_is queue room (suc count) =
    length-append (new_recorders queue room count) (new_recorder_of queue room count ∷ []) ∙ (let is = count_is queue room count in omega (arith, is))

all_of : (queue : TableId) (list more : List RecorderState) → AreOf queue list → AreOf queue more → AreOf queue (list ++ more)
all_of queue [] more first others = others
all_of queue (one ∷ list) more (first, rest) others = (first, all_of queue list more rest others)

new_all : (queue : TableId) (room count : ℕ) → AreAll queue count (new_recorders queue room count)
new_all queue room zero = (tt, λ worker low. absurd (omega (arith, low)))
new_all queue room (suc count) =
    let before = new_all queue room count in
    let last : RecorderState = new_recorder_of queue room count in (
      all_of queue (new_recorders queue room count) (last ∷ []) before.0 (refl, tt),
      λ worker low. dite (ℕ_discrete worker count)
          (λ (is : worker ≡ count). (
            length (new_recorders queue room count),
            last,
            at_last (new_recorders queue room count) last,
            sym is,
          ))
          (λ (other : worker ≢ count). let (place, recorder, at, its) = before.1 worker (omega (arith, low, other)) in
          (place, recorder, at_front (new_recorders queue room count) (last ∷ []) place recorder at, its)),
    )

pub all_new : (queue : TableId) (room count : ℕ) (list : List RecorderState) → list ≡ new_recorders queue room count → AreAll queue count list
all_new queue room count list is = subst (λ (recorders : List RecorderState). AreAll queue count recorders) (sym is) (new_all queue room count)

-- ---- each is still of its queue and its worker

of_same : (queue : TableId) (old new : List RecorderState) → AllZip IsSame old new → AreOf queue old → AreOf queue new
of_same queue [] [] same all = tt
of_same queue [] (one ∷ new) wrong all = absurd wrong
of_same queue (one ∷ old) [] wrong all = absurd wrong
of_same queue (one ∷ old) (other ∷ new) (same, rest) (first, all) = (same.0 ∙ first, of_same queue old new rest all)

at_same : (old new : List RecorderState) (place : ℕ) (recorder : RecorderState) → AllZip IsSame old new → get_elem? old place ≡ some recorder
    → (now : RecorderState) × (get_elem? new place ≡ some now) × IsSame recorder now
at_same [] [] place recorder same at = absurd (some-ne-none recorder (sym at))
at_same [] (one ∷ new) place recorder wrong at = absurd wrong
at_same (one ∷ old) [] place recorder wrong at = absurd wrong
at_same (one ∷ old) (other ∷ new) zero recorder (same, rest) at =
    (other, refl, subst (λ (r : RecorderState). IsSame r other) (some-injective one recorder at) same)
at_same (one ∷ old) (other ∷ new) (suc place) recorder (same, rest) at = at_same old new place recorder rest at

pub all_same : (queue : TableId) (count : ℕ) (old new : List RecorderState) → AllZip IsSame old new → AreAll queue count old
    → AreAll queue count new
all_same queue count old new same (of, cover) = (
  of_same queue old new same of,
  λ worker low. let (place, recorder, at, its) = cover worker low in
      let (now, at_now, is) = at_same old new place recorder same at in
      (place, now, at_now, is.1 ∙ its),
)

pub same_itself : (list : List RecorderState) → AllZip IsSame list list
same_itself [] = tt
same_itself (one ∷ list) = ((refl, refl), same_itself list)

pub same_then : (first between last : List RecorderState) → AllZip IsSame first between → AllZip IsSame between last → AllZip IsSame first last
same_then [] [] [] one then = tt
same_then [] [] (x ∷ last) one wrong = absurd wrong
same_then [] (x ∷ between) last wrong then = absurd wrong
same_then (x ∷ first) [] last wrong then = absurd wrong
same_then (x ∷ first) (y ∷ between) [] one wrong = absurd wrong
same_then (x ∷ first) (y ∷ between) (z ∷ last) (one, ones) (then, thens) =
    ((then.0 ∙ one.0, then.1 ∙ one.1), same_then first between last ones thens)
