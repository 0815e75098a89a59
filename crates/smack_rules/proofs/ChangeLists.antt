-- Lists of changes: what they make of a pair's modes, put in order and joined.
use Rattle.std.proofs.Common.{◌≡◌, ℕ, ◌+◌, Bool, true, false, cond, ◌&&◌, ◌||◌, not, ◌⊎◌, inl, inr, List, [], ◌∷◌, ◌++◌, map, get_or, refl, sym, ap, ◌∙◌, append_assoc, arith}
use Rattle.std.specs.List.{filter, dedup_from, dedup}
use Rattle.std.specs.List.Sorted.{IsSorted, IsSortedBy, IsStableBy, IsStrictlySortedBy, ties}
use Rattle.std.specs.declared.cmp.Ordering.{Ordering}
use Rattle.std.specs.declared.cmp.Ordering.TheVariants.{Less, Equal, Greater}
use Rattle.std.specs.Ordering.{is_eq, is_lt, ordering_reverse}
use Rattle.std.proofs.lemmas.List.{get_or-map, length-map}
use Rattle.std.proofs.lemmas.List.Kept.{IsStrictlySortedBy-dedup}
use Rattle.smack_rules.specs.declared.modes.Modes.{Modes}
use Rattle.smack_rules.specs.declared.rule.Rule.{Rule}
use Rattle.smack_rules.specs.declared.rule.Rule.TheVariants.{Set, Adjust}
use Rattle.smack_rules.specs.declared.changes.Change.{Change}
use Rattle.smack_rules.specs.declared.changes.PairChange.{PairChange}
use Rattle.smack_rules.specs.Modes.{no_access, all_modes, union, without}
use Rattle.smack_rules.specs.Rule.{is_pair}
use Rattle.smack_rules.specs.Effective.{effective_from}
use Rattle.smack_rules.specs.parts.Order.{LabelPair, pair_cmp, same_pair}
use Rattle.smack_rules.specs.parts.Changes.{changed, followed_by, change_of, modes_after, joined_from, joined, ChangeAlike, ChangeAs, FollowsRules}
use Rattle.smack_rules.proofs.PairOrder.{pair_total, is_pair-≡, is_pair-symm, same_pair-is_pair}
use Rattle.smack_rules.proofs.RuleLists.{effective_from-append}

-- ---- modes, letter by letter

followed_letter : (m first_removed first_added removed added : Bool)
    → ((m && not (first_removed || removed)) || ((first_added && not removed) || added))
    ≡ ((((m && not first_removed) || first_added) && not removed) || added)
followed_letter false first_removed first_added removed added = refl
followed_letter true true first_added removed added = refl
followed_letter true false first_added false added = refl
followed_letter true false true true added = refl
followed_letter true false false true added = refl

changed-followed : (first later : Change) (modes : Modes)
    → changed (followed_by first later) modes ≡ changed later (changed first modes)
changed-followed first later modes =
    λ i. record {
      read = followed_letter modes.read first.removed.read first.added.read later.removed.read later.added.read i;
      write = followed_letter modes.write first.removed.write first.added.write later.removed.write later.added.write i;
      execute = followed_letter modes.execute first.removed.execute first.added.execute later.removed.execute later.added.execute i;
      append = followed_letter modes.append first.removed.append first.added.append later.removed.append later.added.append i;
      transmute = followed_letter modes.transmute first.removed.transmute first.added.transmute later.removed.transmute later.added.transmute i;
      lock = followed_letter modes.lock first.removed.lock first.added.lock later.removed.lock later.added.lock i;
      bring_up = followed_letter modes.bring_up first.removed.bring_up first.added.bring_up later.removed.bring_up later.added.bring_up i;
    }

set_letter : (m set : Bool) → ((m && not true) || set) ≡ set
set_letter true set = refl
set_letter false set = refl

changed-set : (set modes : Modes) → changed (record { removed = all_modes; added = set }) modes ≡ set
changed-set set modes =
    λ i. record {
      read = set_letter modes.read set.read i;
      write = set_letter modes.write set.write i;
      execute = set_letter modes.execute set.execute i;
      append = set_letter modes.append set.append i;
      transmute = set_letter modes.transmute set.transmute i;
      lock = set_letter modes.lock set.lock i;
      bring_up = set_letter modes.bring_up set.bring_up i;
    }

adjusted_letter : (m allow deny : Bool) → ((m && not deny) || (allow && not deny)) ≡ ((m || allow) && not deny)
adjusted_letter false allow deny = refl
adjusted_letter true allow false = refl
adjusted_letter true true true = refl
adjusted_letter true false true = refl

changed-adjust : (allow deny modes : Modes)
    → changed (record { removed = deny; added = without allow deny }) modes ≡ without (union modes allow) deny
changed-adjust allow deny modes =
    λ i. record {
      read = adjusted_letter modes.read allow.read deny.read i;
      write = adjusted_letter modes.write allow.write deny.write i;
      execute = adjusted_letter modes.execute allow.execute deny.execute i;
      append = adjusted_letter modes.append allow.append deny.append i;
      transmute = adjusted_letter modes.transmute allow.transmute deny.transmute i;
      lock = adjusted_letter modes.lock allow.lock deny.lock i;
      bring_up = adjusted_letter modes.bring_up allow.bring_up deny.bring_up i;
    }

-- ---- the changes of rules

pub modes_after-append : (some others : List PairChange) (s o : List ℕ) (modes : Modes)
    → modes_after (some ++ others) s o modes ≡ modes_after others s o (modes_after some s o modes)
modes_after-append [] others s o modes = refl
modes_after-append (change ∷ some) others s o modes = modes_after-append some others s o _

-- a rule changes modes as its change does
modes_after-rule : (rule : Rule) (s o : List ℕ) (modes : Modes)
    → modes_after (change_of rule ∷ []) s o modes ≡ effective_from modes (rule ∷ []) s o
modes_after-rule (Set subject object set) s o modes =
    ap (λ m. cond (is_pair subject object s o) m modes) (changed-set set modes)
modes_after-rule (Adjust subject object allow deny) s o modes =
    ap (λ m. cond (is_pair subject object s o) m modes) (changed-adjust allow deny modes)

-- changes that are the old ones and one more
pub FollowsRules-change : (old new : List PairChange) (rule : Rule) → ChangeAlike new (old ++ change_of rule ∷ [])
    → FollowsRules old new (rule ∷ [])
FollowsRules-change old new rule alike s o =
    alike s o no_access ∙ modes_after-append old (change_of rule ∷ []) s o no_access
    ∙ modes_after-rule rule s o (modes_after old s o no_access)

-- changes as the rules so far, and those of more rules
pub ChangeAs-more : (old new : List PairChange) (rules more : List Rule) → ChangeAs old rules → FollowsRules old new more
    → ChangeAs new (rules ++ more)
ChangeAs-more old new rules more as_rules follows s o =
    follows s o ∙ ap (λ m. effective_from m more s o) (as_rules s o) ∙ sym (effective_from-append no_access rules more s o)

-- changes that follow some rules and then more of them
pub FollowsRules-more : (old new newest : List PairChange) (rules more : List Rule) → FollowsRules old new rules
    → FollowsRules new newest more → FollowsRules old newest (rules ++ more)
FollowsRules-more old new newest rules more first later s o =
    later s o ∙ ap (λ m. effective_from m more s o) (first s o)
    ∙ sym (effective_from-append (modes_after old s o no_access) rules more s o)

-- changes that are the old ones with others behind them, and one more
pub ChangeAlike-more : (old new newest others : List PairChange) (change : PairChange) → ChangeAlike new (old ++ others)
    → ChangeAlike newest (new ++ change ∷ []) → ChangeAlike newest (old ++ (others ++ change ∷ []))
ChangeAlike-more old new newest others change first later s o modes =
    later s o modes ∙ modes_after-append new (change ∷ []) s o modes
    ∙ ap (modes_after (change ∷ []) s o) (first s o modes)
    ∙ sym (modes_after-append (old ++ others) (change ∷ []) s o modes)
    ∙ ap (λ changes. modes_after changes s o modes) (append_assoc old others (change ∷ []))

-- ---- changes of one pair alone

abbrev is_for : List ℕ → List ℕ → PairChange → Bool
is_for s o change = is_pair change.key.subject change.key.object s o

for_one : (s o : List ℕ) (change : PairChange) (changes kept : List PairChange) (modes : Modes) (b : Bool) → is_for s o change ≡ b
    → ((m : Modes) → modes_after changes s o m ≡ modes_after kept s o m)
    → modes_after changes s o (cond b (changed change.change modes) modes)
    ≡ modes_after (cond b (change ∷ kept) kept) s o modes
for_one s o change changes kept modes true is alike =
    alike _ ∙ ap (λ b. modes_after kept s o (cond b (changed change.change modes) modes)) (sym is)
for_one s o change changes kept modes false is alike = alike modes

modes_after-filter : (s o : List ℕ) (changes : List PairChange) (modes : Modes)
    → modes_after changes s o modes ≡ modes_after (filter (is_for s o) changes) s o modes
modes_after-filter s o [] modes = refl
modes_after-filter s o (change ∷ changes) modes =
    for_one s o change changes (filter (is_for s o) changes) modes (is_for s o change) refl (modes_after-filter s o changes)

-- ---- sorting

abbrev pub stands_before : PairChange → PairChange → Bool
stands_before one other = is_lt (pair_cmp one.key other.key)

neither : (order : Ordering) → (not (is_lt order) && not (is_lt (ordering_reverse order))) ≡ is_eq order
neither Less = refl
neither Equal = refl
neither Greater = refl

ties-is_pair : (one other : PairChange)
    → ties stands_before one other ≡ is_pair one.key.subject one.key.object other.key.subject other.key.object
ties-is_pair one other =
    ap (λ order. not (is_lt (pair_cmp one.key other.key)) && not (is_lt order)) (pair_total.antisymm other.key one.key)
    ∙ neither (pair_cmp one.key other.key) ∙ same_pair-is_pair one.key other.key

-- what ties with a change of a pair is what is for that pair
ties-is_for : (s o : List ℕ) (one : PairChange) → is_for s o one ≡ true → (other : PairChange)
    → ties stands_before one other ≡ is_for s o other
ties-is_for s o one here other =
    let same = is_pair-≡ one.key.subject one.key.object s o here in
    ties-is_pair one other
    ∙ ap (λ l. is_pair l one.key.object other.key.subject other.key.object) same.0
    ∙ ap (λ l. is_pair s l other.key.subject other.key.object) same.1
    ∙ is_pair-symm s o other.key.subject other.key.object

filter-alike : {X : Type 0} (p q : X → Bool) (xs : List X) → ((x : X) → p x ≡ q x) → filter p xs ≡ filter q xs
filter-alike p q xs alike = ap (λ test. filter test xs) (λ i x. alike x i)

-- an element that passes, or that none does
first_of : {X : Type 0} (p : X → Bool) (xs : List X) → ((x : X) × (p x ≡ true)) ⊎ (filter p xs ≡ [])
first_of p [] = inr refl
first_of p (x ∷ xs) =
    let choice : (b : Bool) → p x ≡ b → ((x : _) × (p x ≡ true)) ⊎ (cond b (x ∷ filter p xs) (filter p xs) ≡ []) =
    λ b. elim b as (λ b. p x ≡ b → ((x : _) × (p x ≡ true)) ⊎ (cond b (x ∷ filter p xs) (filter p xs) ≡ []))
    [ true ↦ λ is. inl (x, is) | false ↦ λ is. first_of p xs ] in
    choice (p x) refl

-- a stable sort keeps the changes of each pair as they follow one another
sorted_filter : (s o : List ℕ) (old new : List PairChange) → IsStableBy stands_before old new
    → filter (is_for s o) new ≡ filter (is_for s o) old
sorted_filter s o old new stable =
    let by : (one : PairChange) → is_for s o one ≡ true → filter (is_for s o) new ≡ filter (is_for s o) old =
    λ one here. sym (filter-alike (ties stands_before one) (is_for s o) new (ties-is_for s o one here))
    ∙ stable one ∙ filter-alike (ties stands_before one) (is_for s o) old (ties-is_for s o one here) in
    elim (first_of (is_for s o) old) [
      | inl one ↦ by one.0 one.1
      | inr none ↦ elim (first_of (is_for s o) new) [ inl one ↦ by one.0 one.1 | inr none_new ↦ none_new ∙ sym none ]
    ]

pub ChangeAlike-sorted : (old new : List PairChange) → IsStableBy stands_before old new → ChangeAlike new old
ChangeAlike-sorted old new stable s o modes =
    modes_after-filter s o new modes ∙ ap (λ changes. modes_after changes s o modes) (sorted_filter s o old new stable)
    ∙ sym (modes_after-filter s o old modes)

-- ---- joining

joined_pair : (b : Bool) (first later : Change) (modes : Modes)
    → cond b (changed (followed_by first later) modes) modes
    ≡ cond b (changed later (cond b (changed first modes) modes)) (cond b (changed first modes) modes)
joined_pair true first later modes = changed-followed first later modes
joined_pair false first later modes = refl

joined_step : (last next : PairChange) (later : List PairChange) (s o : List ℕ) (modes : Modes) (b : Bool)
    → same_pair next.key last.key ≡ b
    → ((last : PairChange) → ChangeAlike (joined_from last later) (last ∷ later))
    → modes_after (cond b (joined_from (record last { change = followed_by last.change next.change }) later)
    (last ∷ joined_from next later)) s o modes
    ≡ modes_after (last ∷ next ∷ later) s o modes
joined_step last next later s o modes true is alike =
    let same =
    is_pair-≡ next.key.subject next.key.object last.key.subject last.key.object (sym (same_pair-is_pair next.key last.key) ∙ is) in
    let is_last = is_pair last.key.subject last.key.object s o in
    let for_next : is_last ≡ is_pair next.key.subject next.key.object s o =
    sym (ap (λ l. is_pair l next.key.object s o) same.0 ∙ ap (λ l. is_pair last.key.subject l s o) same.1) in
    let first = cond is_last (changed last.change modes) modes in
    alike (record last { change = followed_by last.change next.change }) s o modes
    ∙ ap (modes_after later s o) (joined_pair is_last last.change next.change modes
    ∙ ap (λ b. cond b (changed next.change first) first) for_next)
joined_step last next later s o modes false is alike = alike next s o _

joined_from-alike : (later : List PairChange) (last : PairChange) → ChangeAlike (joined_from last later) (last ∷ later)
joined_from-alike [] last s o modes = refl
joined_from-alike (next ∷ later) last s o modes =
    joined_step last next later s o modes (same_pair next.key last.key) refl (joined_from-alike later)

pub ChangeAlike-joined : (changes : List PairChange) → ChangeAlike (joined changes) changes
ChangeAlike-joined [] s o modes = refl
ChangeAlike-joined (first ∷ later) s o modes = joined_from-alike later first s o modes

abbrev keys_of : List PairChange → List LabelPair
keys_of = map (λ change. change.key)

keys_of-cond : (b : Bool) (some others : List PairChange) → keys_of (cond b some others) ≡ cond b (keys_of some) (keys_of others)
keys_of-cond true some others = refl
keys_of-cond false some others = refl

cond_both : {X : Type 0} (b : Bool) (x y x' y' : X) → x ≡ x' → y ≡ y' → cond b x y ≡ cond b x' y'
cond_both true x y x' y' e f = e
cond_both false x y x' y' e f = f

keys_of-joined_from : (later : List PairChange) (last : PairChange)
    → keys_of (joined_from last later) ≡ dedup_from same_pair last.key (keys_of later)
keys_of-joined_from [] last = refl
keys_of-joined_from (next ∷ later) last =
    keys_of-cond (same_pair next.key last.key) _ _
    ∙ cond_both (same_pair next.key last.key) _ _ _ _
    (keys_of-joined_from later (record last { change = followed_by last.change next.change }))
    (ap (λ keys. last.key ∷ keys) (keys_of-joined_from later next))

keys_of-joined : (changes : List PairChange) → keys_of (joined changes) ≡ dedup same_pair (keys_of changes)
keys_of-joined [] = refl
keys_of-joined (first ∷ later) = keys_of-joined_from later first

keys_of-sorted : (changes : List PairChange) → IsSortedBy stands_before changes → IsSorted pair_cmp (keys_of changes)
keys_of-sorted [] sorted k d ge lt = absurd (omega arith)
keys_of-sorted (first ∷ later) sorted k d ge lt =
    let changes = first ∷ later in
    let size = length-map changes (λ (change : PairChange). change.key) in
    let next = get_or-map (λ (change : PairChange). change.key) changes (k + 1) first d (omega (arith, size, lt)) in
    let here = get_or-map (λ (change : PairChange). change.key) changes k first d (omega (arith, size, lt)) in
    ap (λ key. is_lt (pair_cmp key (get_or (keys_of changes) k d))) next
    ∙ ap (λ key. is_lt (pair_cmp (get_or changes (k + 1) first).key key)) here
    ∙ sorted k first ge (omega (arith, size, lt))

-- joining sorted changes leaves each pair once
pub sorted-joined : (changes : List PairChange) → IsSortedBy stands_before changes
    → IsStrictlySortedBy pair_cmp (keys_of (joined changes))
sorted-joined changes sorted =
    rw keys_of-joined (IsStrictlySortedBy-dedup pair_total (λ one other. refl) (keys_of changes) (keys_of-sorted changes sorted))
