-- What a search finds in the sorted pairs of a table.
use Rattle.std.proofs.Common.{◌≡◌, ℕ, ◌+◌, ◌<◌, Bool, true, false, cond, inl, inr, zero, suc, length, List, [], ◌∷◌, map, get_or, Result, Ok, Err, MatchResult, refl, sym, ap, ◌∙◌, arith}
use Rattle.std.specs.List.{AllByRecursion}
use Rattle.std.specs.List.Sorted.{IsSortedBy, IsStrictlySortedBy, IsSearchInRange, IsBinarySearchResult}
use Rattle.std.specs.declared.cmp.Ordering.TheVariants.{Less, Equal}
use Rattle.std.specs.Ordering.{is_eq, is_lt, ordering_reverse}
use Rattle.std.proofs.lemmas.Bool.{cases_lt}
use Rattle.std.proofs.lemmas.Cmp.{alike_right}
use Rattle.std.proofs.lemmas.List.{get_or-map, length-map}
use Rattle.std.proofs.lemmas.List.Sorted.{searchable_from_sorted}
use Rattle.std.proofs.lemmas.Map.Keys.{Less-from_sorted}
use Rattle.smack_rules.specs.declared.modes.Modes.{Modes}
use Rattle.smack_rules.specs.declared.changes.PairChange.{PairChange}
use Rattle.smack_rules.specs.declared.table.PairModes.{PairModes}
use Rattle.smack_rules.specs.Modes.{no_access}
use Rattle.smack_rules.specs.Rule.{is_pair}
use Rattle.smack_rules.specs.Table.{granted}
use Rattle.smack_rules.specs.parts.Order.{LabelPair, pair_cmp, same_pair}
use Rattle.smack_rules.specs.parts.Pairs.{pair_of}
use Rattle.smack_rules.specs.parts.Changes.{changed, modes_after, pair_modes, pair_change}
use Rattle.smack_rules.proofs.PairOrder.{pair_total, is_pair-≡, is_pair-symm, same_pair-is_pair}

-- ---- a search

-- each pair stands before the one behind it
pair_before : (pairs : List PairModes) (i j : ℕ) (d : PairModes) → IsStrictlySortedBy pair_cmp (map pair_of pairs) → i < j
    → j < length pairs → pair_cmp (pair_of (get_or pairs i d)) (pair_of (get_or pairs j d)) ≡ Less
pair_before pairs i j d sorted before lt =
    let keys = map pair_of pairs in
    let size = length-map pairs pair_of in
    let first = get_or-map pair_of pairs i d (pair_of d) (omega (arith, before, lt)) in
    let second = get_or-map pair_of pairs j d (pair_of d) lt in
    sym (ap (λ key. pair_cmp key (get_or keys j (pair_of d))) first
    ∙ ap (λ key. pair_cmp (pair_of (get_or pairs i d)) key) second)
    ∙ Less-from_sorted pair_cmp keys i j (pair_of d) sorted before (omega (arith, size, lt))

-- what a binary search asks of the pairs
IsSortedBy-pairs : (pairs : List PairModes) → IsStrictlySortedBy pair_cmp (map pair_of pairs)
    → IsSortedBy (λ (one other : PairModes). is_lt (pair_cmp (pair_of one) (pair_of other))) pairs
IsSortedBy-pairs pairs sorted k d ge lt =
    ap is_lt (pair_total.antisymm (pair_of (get_or pairs (k + 1) d)) (pair_of (get_or pairs k d))
    ∙ ap ordering_reverse (pair_before pairs k (k + 1) d sorted (omega arith) lt))

granted-tail : (pair : PairModes) (pairs : List PairModes) (s o : List ℕ) → is_pair pair.subject pair.object s o ≡ false
    → granted (pair ∷ pairs) s o ≡ granted pairs s o
granted-tail pair pairs s o apart = ap (λ b. cond b pair.modes (granted pairs s o)) apart

sorted_tail : (pair : PairModes) (pairs : List PairModes) → IsStrictlySortedBy pair_cmp (map pair_of (pair ∷ pairs))
    → IsStrictlySortedBy pair_cmp (map pair_of pairs)
unfolding IsStrictlySortedBy
sorted_tail pair pairs sorted = sorted.1

-- the modes of the pair that is asked for
granted-at : (asked : LabelPair) (pairs : List PairModes) (place : ℕ) (d : PairModes)
    → IsStrictlySortedBy pair_cmp (map pair_of pairs) → place < length pairs
    → pair_cmp (pair_of (get_or pairs place d)) asked ≡ Equal
    → granted pairs asked.subject asked.object ≡ (get_or pairs place d).modes
granted-at asked [] place d sorted lt equal = absurd (omega arith)
granted-at asked (pair ∷ pairs) zero d sorted lt equal =
    ap (λ b. cond b pair.modes (granted pairs asked.subject asked.object))
    (sym (same_pair-is_pair (pair_of pair) asked) ∙ ap is_eq equal)
granted-at asked (pair ∷ pairs) (suc place) d sorted lt equal =
    let later = pair_of (get_or pairs place d) in
    let before : pair_cmp (pair_of pair) later ≡ Less = pair_before (pair ∷ pairs) 0 (suc place) d sorted (omega arith) lt in
    let apart = sym (alike_right pair_total later asked (pair_of pair) equal) ∙ before in
    granted-tail pair pairs asked.subject asked.object (sym (same_pair-is_pair (pair_of pair) asked) ∙ ap is_eq apart)
    ∙ granted-at asked pairs place d (sorted_tail pair pairs sorted) (omega arith) equal

-- no access where no pair is the one that is asked for
granted-none : (asked : LabelPair) (pairs : List PairModes)
    → ((k : ℕ) (d : PairModes) → k < length pairs → same_pair (pair_of (get_or pairs k d)) asked ≡ false)
    → granted pairs asked.subject asked.object ≡ no_access
granted-none asked [] none = refl
granted-none asked (pair ∷ pairs) none =
    granted-tail pair pairs asked.subject asked.object
    (sym (same_pair-is_pair (pair_of pair) asked) ∙ none 0 pair (omega arith))
    ∙ granted-none asked pairs (λ k d lt. none (suc k) d (omega arith))

-- what a binary search finds
pub searched : (asked : LabelPair) (pairs : List PairModes) (found : Result ℕ ℕ)
    → IsStrictlySortedBy pair_cmp (map pair_of pairs) → IsSearchInRange found (length pairs)
    → IsBinarySearchResult (λ pair. pair_cmp (pair_of pair) asked) pairs found
    → MatchResult found (λ place. (d : PairModes) → granted pairs asked.subject asked.object ≡ (get_or pairs place d).modes)
    (λ place. granted pairs asked.subject asked.object ≡ no_access)
searched asked pairs (Ok place) sorted lt equal = λ d. granted-at asked pairs place d sorted lt (equal d)
searched asked pairs (Err place) sorted le parts =
    let parted = parts (searchable_from_sorted pair_total pair_of pairs asked (IsSortedBy-pairs pairs sorted)) in
    granted-none asked pairs
    (λ k d lt. elim (cases_lt k place) [
      | inl before ↦ ap is_eq (parted.0 k d (omega arith) before)
      | inr after ↦ ap is_eq (parted.1 k d after lt)
    ])

-- ---- pairs made of changes

-- changes of later pairs leave a pair as it is
modes_after-later : (pair : LabelPair) (changes : List PairChange) (modes : Modes)
    → AllByRecursion (λ key. pair_cmp pair key ≡ Less) (map (λ change. change.key) changes)
    → modes_after changes pair.subject pair.object modes ≡ modes
modes_after-later pair [] modes all = refl
modes_after-later pair (change ∷ changes) modes all =
    ap (λ b. modes_after changes pair.subject pair.object (cond b (changed change.change modes) modes))
    (is_pair-symm change.key.subject change.key.object pair.subject pair.object
    ∙ sym (same_pair-is_pair pair change.key) ∙ ap is_eq all.0)
    ∙ modes_after-later pair changes modes all.1

granted-first : (change : PairChange) (changes : List PairChange) (s o : List ℕ) (b : Bool)
    → is_pair change.key.subject change.key.object s o ≡ b
    → AllByRecursion (λ key. pair_cmp change.key key ≡ Less) (map (λ change. change.key) changes)
    → granted (map pair_modes changes) s o ≡ modes_after changes s o no_access
    → cond b change.change.added (granted (map pair_modes changes) s o)
    ≡ modes_after changes s o (cond b (changed change.change no_access) no_access)
granted-first change changes s o true is all rest =
    let same = is_pair-≡ change.key.subject change.key.object s o is in
    let modes = changed change.change no_access in
    sym (ap (λ l. modes_after changes l o modes) (sym same.0)
    ∙ ap (λ l. modes_after changes change.key.subject l modes) (sym same.1)
    ∙ modes_after-later change.key changes modes all)
granted-first change changes s o false is all rest = rest

-- the pairs of a table grant what the changes make of no access
pub granted-pair_modes : (changes : List PairChange) → IsStrictlySortedBy pair_cmp (map (λ change. change.key) changes)
    → (s o : List ℕ) → granted (map pair_modes changes) s o ≡ modes_after changes s o no_access
unfolding IsStrictlySortedBy
granted-pair_modes [] sorted s o = refl
granted-pair_modes (change ∷ changes) sorted s o =
    granted-first change changes s o (is_pair change.key.subject change.key.object s o) refl sorted.0
    (granted-pair_modes changes sorted.1 s o)

pub pair_of-pair_modes : (changes : List PairChange) → map pair_of (map pair_modes changes) ≡ map (λ change. change.key) changes
pair_of-pair_modes [] = refl
pair_of-pair_modes (change ∷ changes) = ap (λ keys. change.key ∷ keys) (pair_of-pair_modes changes)

-- ---- pairs as changes

pair_modes-pair_change : (pairs : List PairModes) → map pair_modes (map pair_change pairs) ≡ pairs
pair_modes-pair_change [] = refl
pair_modes-pair_change (pair ∷ pairs) = ap (λ pairs. pair ∷ pairs) (pair_modes-pair_change pairs)

keys-pair_change : (pairs : List PairModes) → map (λ change. change.key) (map pair_change pairs) ≡ map pair_of pairs
keys-pair_change [] = refl
keys-pair_change (pair ∷ pairs) = ap (λ keys. pair_of pair ∷ keys) (keys-pair_change pairs)

-- the changes that give each pair its modes make what the table grants
pub pair_changes-granted : (pairs : List PairModes) → IsStrictlySortedBy pair_cmp (map pair_of pairs)
    → (s o : List ℕ) → modes_after (map pair_change pairs) s o no_access ≡ granted pairs s o
pair_changes-granted pairs sorted s o =
    sym (granted-pair_modes (map pair_change pairs) (rw keys-pair_change sorted) s o)
    ∙ ap (λ pairs. granted pairs s o) (pair_modes-pair_change pairs)
