-- The roll's log, as events come behind it, and fronts of it.
use Rattle.std.proofs.Common.{◌≡◌, ◌∙◌, ◌<◌, ◌≤◌, ◌++◌, ◌∷◌, [], ℕ, zero, suc, List, length, refl, sym, ap, subst, max, arith, Some, slice_get, append_assoc}
use mathlib.Core.List.{IsPrefix}
use Rattle.live_roll.specs.declared.events.Event.{Event}
use Rattle.live_roll.specs.declared.events.Event.TheVariants.{Entered, Hung}
use Rattle.live_roll.specs.Events.{hung_to, EnterAbove, NoneBelow, NoneAbove, HasHung}

-- ---- fronts

-- each list begins with itself
pub prefix_self : {A : Type 0} (xs : List A) → IsPrefix xs xs
prefix_self [] = ([], refl)
prefix_self (x ∷ xs) = (let r = prefix_self xs in r.0, ap (λ ys. x ∷ ys) (prefix_self xs).1)

pub prefix_then : {A : Type 0} (xs ys zs : List A) → IsPrefix xs ys → IsPrefix ys zs → IsPrefix xs zs
prefix_then xs ys zs p q = (p.0 ++ q.0, sym (append_assoc xs p.0 q.0) ∙ (ap (λ w. w ++ q.0) p.1 ∙ q.1))

-- what stands in a front stands in the whole, at the same place
pub prefix_get : {A : Type 0} (xs ys : List A) (k : ℕ) (x : A) → IsPrefix xs ys → slice_get xs k ≡ Some x → slice_get ys k ≡ Some x
prefix_get [] ys k x p is = absurd cc
prefix_get (y ∷ xs) [] k x p is = absurd (cc (p.1))
prefix_get (y ∷ xs) (z ∷ ys) zero x p is = cc (p.1, is)
prefix_get (y ∷ xs) (z ∷ ys) (suc k) x p is = prefix_get xs ys k x (p.0, cc (p.1)) is

-- the last of all stands behind the others
pub last_get : {A : Type 0} (xs : List A) (x : A) → slice_get (xs ++ x ∷ []) (length xs) ≡ Some x
last_get [] x = refl
last_get (y ∷ xs) x = last_get xs x

-- where something stands there is a place
get_below : {A : Type 0} (xs : List A) (k : ℕ) (x : A) → slice_get xs k ≡ Some x → k < length xs
get_below [] k x is = absurd cc
get_below (y ∷ xs) zero x is = omega (arith)
get_below (y ∷ xs) (suc k) x is = let less = get_below xs k x is in omega (arith, less)

-- ---- one event more

hung_entry : (low : ℕ) (events : List Event) (at : ℕ) → hung_to low (events ++ Entered at ∷ []) ≡ hung_to low events
hung_entry low [] at = refl
hung_entry low (Entered other ∷ events) at = hung_entry low events at
hung_entry low (Hung to ∷ events) at = hung_entry (max low to) events at

hung_hang : (low : ℕ) (events : List Event) (to : ℕ) → hung_to low (events ++ Hung to ∷ []) ≡ max (hung_to low events) to
hung_hang low [] to = refl
hung_hang low (Entered at ∷ events) to = hung_hang low events to
hung_hang low (Hung other ∷ events) to = hung_hang (max low other) events to

entry_snoc : (low : ℕ) (events : List Event) (at : ℕ) → EnterAbove low events → hung_to low events ≤ at
    → EnterAbove low (events ++ Entered at ∷ [])
entry_snoc low [] at above may = (may, tt)
entry_snoc low (Entered other ∷ events) at above may = (above.0, entry_snoc low events at above.1 may)
entry_snoc low (Hung to ∷ events) at above may = entry_snoc (max low to) events at above may

hang_snoc : (low : ℕ) (events : List Event) (to : ℕ) → EnterAbove low events → EnterAbove low (events ++ Hung to ∷ [])
hang_snoc low [] to above = tt
hang_snoc low (Entered at ∷ events) to above = (above.0, hang_snoc low events to above.1)
hang_snoc low (Hung other ∷ events) to above = hang_snoc (max low other) events to above

pub noted_entry : (opened note : ℕ) (events later : List Event) → later ≡ events ++ Entered note ∷ [] → note ≡ hung_to opened events
    → note ≡ hung_to opened later
noted_entry opened note events later is noted = noted ∙ sym (ap (hung_to opened) is ∙ hung_entry opened events note)

pub above_entry : (opened note : ℕ) (events later : List Event) → later ≡ events ++ Entered note ∷ [] → note ≡ hung_to opened events
    → EnterAbove opened events → EnterAbove opened later
above_entry opened note events later is noted above =
    subst (EnterAbove opened) (sym is) (entry_snoc opened events note above (omega (arith, noted)))

pub noted_hang : (opened note to : ℕ) (events later : List Event) → later ≡ events ++ Hung to ∷ [] → note ≡ hung_to opened events
    → max note to ≡ hung_to opened later
noted_hang opened note to events later is noted =
    ap (λ (n : ℕ). max n to) noted ∙ sym (ap (hung_to opened) is ∙ hung_hang opened events to)

pub above_hang : (opened to : ℕ) (events later : List Event) → later ≡ events ++ Hung to ∷ [] → EnterAbove opened events
    → EnterAbove opened later
above_hang opened to events later is above = subst (EnterAbove opened) (sym is) (hang_snoc opened events to above)

-- ---- nobody entered below a hang-up

low_hung : (low : ℕ) (events : List Event) → low ≤ hung_to low events
low_hung low [] = omega (arith)
low_hung low (Entered at ∷ events) = low_hung low events
low_hung low (Hung to ∷ events) = let rest = low_hung (max low to) events in omega (arith, rest)

pub hung_below : (low : ℕ) (events : List Event) (i to : ℕ) → slice_get events i ≡ Some (Hung to) → to ≤ hung_to low events
hung_below low [] i to is = absurd cc
hung_below low (Entered at ∷ events) zero to is = absurd (cc is)
hung_below low (Hung other ∷ events) zero to is =
    let same : other ≡ to = cc in let rest = low_hung (max low other) events in omega (arith, rest, same)
hung_below low (Entered at ∷ events) (suc i) to is = hung_below low events i to is
hung_below low (Hung other ∷ events) (suc i) to is = hung_below (max low other) events i to is

-- who enters at the note enters below no hang-up
pub none_above_note : (opened note : ℕ) (events later : List Event) → later ≡ events ++ Entered note ∷ []
    → note ≡ hung_to opened events → NoneAbove later note
none_above_note opened note events later is noted i to hung =
    let below = hung_below opened later i to hung in
    let same = noted_entry opened note events later is noted in
    omega (arith, below, same)

entered_above : (low : ℕ) (events : List Event) (j at : ℕ) → EnterAbove low events → slice_get events j ≡ Some (Entered at) → low ≤ at
entered_above low [] j at above is = absurd cc
entered_above low (Entered other ∷ events) zero at above is =
    let same : other ≡ at = cc in let first = above.0 in omega (arith, first, same)
entered_above low (Hung to ∷ events) zero at above is = absurd (cc is)
entered_above low (Entered other ∷ events) (suc j) at above is = entered_above low events j at above.1 is
entered_above low (Hung to ∷ events) (suc j) at above is =
    let rest = entered_above (max low to) events j at above is in omega (arith, rest)

pub none_below : (opened : ℕ) (events : List Event) → EnterAbove opened events → NoneBelow events
none_below opened [] above i j to at less hung entered = absurd cc
none_below opened (event ∷ events) above i zero to at less hung entered = absurd (omega arith)
none_below opened (Entered other ∷ events) above zero (suc j) to at less hung entered = absurd (cc hung)
none_below opened (Hung other ∷ events) above zero (suc j) to at less hung entered =
    let rest = entered_above (max opened other) events j at above entered in let same : other ≡ to = cc in omega (arith, rest, same)
none_below opened (Entered other ∷ events) above (suc i) (suc j) to at less hung entered =
    none_below opened events above.1 i j to at (omega arith) hung entered
none_below opened (Hung other ∷ events) above (suc i) (suc j) to at less hung entered =
    none_below (max opened other) events above i j to at (omega arith) hung entered

-- ---- what was hung up

pub hung_last : (before events : List Event) (to : ℕ) → events ≡ before ++ Hung to ∷ [] → HasHung events to
hung_last before events to is =
    (length before, subst (λ (es : List Event). slice_get es (length before) ≡ Some (Hung to)) (sym is) (last_get before (Hung to)))

pub hung_later : (events later : List Event) (commit : ℕ) → IsPrefix events later → HasHung events commit → HasHung later commit
hung_later events later commit begins hung = (hung.0, prefix_get events later hung.0 (Hung commit) begins hung.1)

-- that greatest commit rises as the log goes on
pub hung_to_later : (low : ℕ) (events later : List Event) → IsPrefix events later → hung_to low events ≤ hung_to low later
hung_to_later low [] later begins = low_hung low later
hung_to_later low (event ∷ events) [] begins = absurd (cc (begins.1))
hung_to_later low (Entered at ∷ events) (Entered other ∷ later) begins = hung_to_later low events later (begins.0, cc (begins.1))
hung_to_later low (Entered at ∷ events) (Hung other ∷ later) begins = absurd (cc (begins.1))
hung_to_later low (Hung to ∷ events) (Entered other ∷ later) begins = absurd (cc (begins.1))
hung_to_later low (Hung to ∷ events) (Hung other ∷ later) begins =
    let same : to ≡ other = cc (begins.1) in
    let rest = hung_to_later (max low to) events later (begins.0, cc (begins.1)) in
    subst (λ (n : ℕ). hung_to (max low to) events ≤ hung_to (max low n) later) same rest

-- and is no greater than what none is above
pub hung_within : (low at : ℕ) (events : List Event) → low ≤ at → NoneAbove events at → hung_to low events ≤ at
hung_within low at [] le none = le
hung_within low at (Entered other ∷ events) le none = hung_within low at events le (λ i to hung. none (suc i) to hung)
hung_within low at (Hung to ∷ events) le none =
    let first = none zero to refl in hung_within (max low to) at events (omega (arith, le, first)) (λ i to hung. none (suc i) to hung)
