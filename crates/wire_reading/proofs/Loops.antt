-- Reading so many of one form one after the other, as a loop does.
use Rattle.std.proofs.Common.{◌≡◌, ℕ, suc, ◌-◌, ◌+◌, ◌≤◌, ◌<◌, List, [], ◌∷◌, ◌++◌, length, slice_get, Option, Some}
use Rattle.std.proofs.Common.{Result, Ok, Err, refl, sym, ap, ◌∙◌, append_assoc, arith}
use Rattle.std.proofs.lemmas.List.{append-nil, length_push}
use Rattle.wire_fields.specs.declared.refusals.WireRefusal.{WireRefusal}
use Rattle.wire_fields.specs.declared.refusals.WireRefusal.TheVariants.{TooShort, TooLong, BadOperation, BadField}
use Rattle.wire_fields.specs.declared.refusals.WireRefusal.TheVariants.{Trailing, Memory}
use Rattle.wire_fields.specs.Left.{Left, Reading, ◌>>=◌, Refuses}
use Rattle.wire_fields.specs.Format.{Format, each, tested}
use Rattle.wire_fields.specs.Field.{rising_names, comes_after, name}

-- what was read before, and what is still read
abbrev pub with_front : {X : Type 0} → List X → Reading (List X) → Reading (List X)
with_front front read = read >>= λ x. Ok (front ++ x.0, x.1)

regroup : {X : Type 0} (front : List X) (x : X) (read : Reading (List X))
    → with_front front (read >>= λ y. Ok (x ∷ y.0, y.1)) ≡ with_front (front ++ x ∷ []) read
regroup front x (Ok y) = ap (λ (xs : List _). Ok (xs, y.1)) (simp append_assoc)
regroup front x (Err refusal) = refl

-- a refusal of the next one is a refusal of all
pub refused_all : {X Y : Type 0} (refusal : WireRefusal) (part : Result X WireRefusal) (total : Result Y WireRefusal)
    → Refuses refusal part → ((refusal : WireRefusal) → part ≡ Err refusal → total ≡ Err refusal)
    → Refuses refusal total
refused_all (TooShort n) part total refused whole = whole (TooShort n) refused
refused_all (TooLong n) part total refused whole = whole (TooLong n) refused
refused_all (BadOperation n) part total refused whole = whole (BadOperation n) refused
refused_all (BadField n) part total refused whole = whole (BadField n) refused
refused_all (Trailing n) part total refused whole = whole (Trailing n) refused
refused_all (Memory error) part total refused whole = tt

pub goes_on : {X : Type 0} (format : Format X) (front : List X) (count i : ℕ) (left : Left) (x : X) (after : Left)
    (total : Reading (List X)) → i < count → format.read left ≡ Ok (x, after)
    → with_front front (each format (count - i) left) ≡ total
    → with_front (front ++ x ∷ []) (each format (count - (i + 1)) after) ≡ total
unfolding each
goes_on format front count i left x after total lt read so_far =
    let k : count - i ≡ suc (count - (i + 1)) = omega arith in
    let one : with_front front (each format (count - i) left)
    ≡ with_front (front ++ x ∷ []) (each format (count - (i + 1)) after) =
    rw (k, read) (regroup front x (each format (count - (i + 1)) after)) in
    sym one ∙ so_far

pub ends : {X : Type 0} (format : Format X) (refusal : WireRefusal) (front : List X) (count i : ℕ) (left : Left)
    (total : Reading (List X)) → i < count → Refuses refusal (format.read left)
    → with_front front (each format (count - i) left) ≡ total → Refuses refusal total
unfolding each
ends format refusal front count i left total lt refused so_far =
    refused_all refusal (format.read left) total refused (λ refusal is.
    let k : count - i ≡ suc (count - (i + 1)) = omega arith in
    let one : with_front front (each format (count - i) left) ≡ Err refusal = rw (k, is) refl in
    sym so_far ∙ one)

pub is_done : {X : Type 0} (format : Format X) (front : List X) (count i : ℕ) (left : Left) (total : Reading (List X))
    → count ≤ i → with_front front (each format (count - i) left) ≡ total → total ≡ Ok (front, left)
unfolding each
is_done format front count i left total le so_far =
    let k : count - i ≡ 0 = omega arith in
    let one : with_front front (each format (count - i) left) ≡ Ok (front, left) =
    rw k (ap (λ (xs : List _). Ok (xs, left)) (append-nil front)) in
    sym so_far ∙ one

-- ---- names, each behind the one before it

abbrev pub last_of : List (List ℕ) → Option (List ℕ)
last_of names = slice_get names (length names - 1)

slice_get_push : (front : List (List ℕ)) (x : List ℕ) → slice_get (front ++ x ∷ []) (length front) ≡ Some x
slice_get_push [] x = refl
slice_get_push (y ∷ front) x = slice_get_push front x

last_pushed : (front : List (List ℕ)) (x : List ℕ) → last_of (front ++ x ∷ []) ≡ Some x
last_pushed front x =
    let at : length (front ++ x ∷ []) - 1 ≡ length front = omega (arith, length_push front x) in
    rw at (slice_get_push front x)

pub rising_goes_on : (front : List (List ℕ)) (count i : ℕ) (left : Left) (x : List ℕ) (after : Left)
    (total : Reading (List (List ℕ))) → i < count → (tested (comes_after (last_of front)) name).read left
    ≡ Ok (x, after)
    → with_front front (rising_names (last_of front) (count - i) left) ≡ total
    → with_front (front ++ x ∷ []) (rising_names (last_of (front ++ x ∷ [])) (count - (i + 1)) after) ≡ total
unfolding rising_names
rising_goes_on front count i left x after total lt read so_far =
    let k : count - i ≡ suc (count - (i + 1)) = omega arith in
    let one : with_front front (rising_names (last_of front) (count - i) left)
    ≡ with_front (front ++ x ∷ []) (rising_names (Some x) (count - (i + 1)) after) =
    rw (k, read) (regroup front x (rising_names (Some x) (count - (i + 1)) after)) in
    rw (last_pushed front x) (sym one ∙ so_far)

pub rising_ends : (refusal : WireRefusal) (front : List (List ℕ)) (count i : ℕ) (left : Left)
    (total : Reading (List (List ℕ))) → i < count
    → Refuses refusal ((tested (comes_after (last_of front)) name).read left)
    → with_front front (rising_names (last_of front) (count - i) left) ≡ total → Refuses refusal total
unfolding rising_names
rising_ends refusal front count i left total lt refused so_far =
    refused_all refusal ((tested (comes_after (last_of front)) name).read left) total refused (λ refusal is.
    let k : count - i ≡ suc (count - (i + 1)) = omega arith in
    let one : with_front front (rising_names (last_of front) (count - i) left) ≡ Err refusal = rw (k, is) refl in
    sym so_far ∙ one)

pub rising_done : (front : List (List ℕ)) (count i : ℕ) (left : Left) (total : Reading (List (List ℕ)))
    → count ≤ i → with_front front (rising_names (last_of front) (count - i) left) ≡ total → total ≡ Ok (front, left)
unfolding rising_names
rising_done front count i left total le so_far =
    let k : count - i ≡ 0 = omega arith in
    let one : with_front front (rising_names (last_of front) (count - i) left) ≡ Ok (front, left) =
    rw k (ap (λ (xs : List (List ℕ)). Ok (xs, left)) (append-nil front)) in
    sym so_far ∙ one
