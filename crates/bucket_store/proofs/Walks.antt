-- In a database without cycles a walk has fewer policies than there are buckets, and a test of so many policies finds
-- each cycle.
use Rattle.std.proofs.Common.{◌≡◌, ℕ, ◌<◌, ◌≤◌, zero, suc, Bool, true, false, not, ◌||◌, ◌&&◌, List, [], ◌∷◌, ◌++◌}
use Rattle.std.proofs.Common.{length, map, refl, sym, ap, ◌∙◌, subst, arith}
use mathlib.Core.Logic.{⊎_elim}
use Rattle.std.proofs.lemmas.Bool.{cases_Bool, true≢false, and_parts, and_from, or_cases, or_left, or_right}
use Rattle.std.proofs.lemmas.Bool.{false_from_ne_true}
use Rattle.std.proofs.lemmas.List.Folds.{Any-from_list_any, list_any-from_Any}
use Rattle.std.proofs.lemmas.List.Elements.{All-from_recursion, All-contains}
use Rattle.std.specs.List.{AllByRecursion, filter, list_any, Contains}
use Rattle.cynara_keys.specs.Text.{same_text}
use Rattle.cynara_keys.proofs.Order.{same_text-≡, ≡-same_text}
use Rattle.bucket_store.specs.Database.{Heading, Placed, Database, has_bucket}
use Rattle.bucket_store.specs.Walk.{points, target, IsStep, IsWalk, end_of, Leads, IsOnCycle, reaches, is_on_cycle}
use Rattle.bucket_store.specs.WellFormed.{IsRooted}
use Rattle.bucket_store.proofs.Lists.{any-filter, length-filter-<}

abbrev pub NoCycle : List Placed → Type 0
NoCycle policies = (name : List ℕ) → IsOnCycle policies name → ⊥

-- ---- walks after one another

pub IsWalk-append : (policies : List Placed) (from : List ℕ) (steps others : List Placed) → IsWalk policies from steps
    → IsWalk policies (end_of from steps) others → IsWalk policies from (steps ++ others)
IsWalk-append policies from [] others walks more = more
IsWalk-append policies from (step ∷ steps) others walks more =
    (walks.0, IsWalk-append policies (target step.policy) steps others walks.1 more)

pub end_of-append : (from : List ℕ) (steps others : List Placed)
    → end_of from (steps ++ others) ≡ end_of (end_of from steps) others
end_of-append from [] others = refl
end_of-append from (step ∷ steps) others = end_of-append (target step.policy) steps others

pub Leads-append : (policies : List Placed) (from by to : List ℕ) → Leads policies from by → Leads policies by to
    → Leads policies from to
Leads-append policies from by to lead more =
    let steps = lead.first ∷ lead.others in
    let next = more.first ∷ more.others in
    record {
      first = lead.first;
      others = lead.others ++ next;
      walks =
          IsWalk-append policies from steps next lead.walks
          (subst (λ name. IsWalk policies name next) (sym lead.ends) more.walks);
      ends = end_of-append from steps next ∙ ap (λ name. end_of name next) lead.ends ∙ more.ends;
    }

pub Leads-step : (policies : List Placed) (from : List ℕ) (step : Placed) → IsStep policies from step
    → Leads policies from (target step.policy)
Leads-step policies from step is = record { first = step; others = []; walks = (is, tt); ends = refl }

-- ---- what the test finds is there

abbrev Tests : List Placed → ℕ → List ℕ → List ℕ → Placed → Bool
Tests policies most from to step =
    same_text step.bucket from
    && (points step.policy
    && (same_text (target step.policy) to || reaches policies most (target step.policy) to))

pub Leads-reaches : (policies : List Placed) (most : ℕ) (from to : List ℕ) → reaches policies most from to ≡ true
    → Leads policies from to
unfolding reaches
Leads-reaches policies zero from to found = absurd (true≢false (sym found))
Leads-reaches policies (suc most) from to found =
    let at = Any-from_list_any (Tests policies most from to) policies found in
    let step = at.1 in
    let own = and_parts _ _ at.4 in
    let rest = and_parts _ _ own.1 in
    let is : IsStep policies from step = record {
      there = (at.0, at.2, at.3);
      points = rest.0;
      own = same_text-≡ step.bucket from own.0;
    } in
    ⊎_elim
    (λ here. subst (Leads policies from) (same_text-≡ (target step.policy) to here) (Leads-step policies from step is))
    (λ later. Leads-append policies from (target step.policy) to (Leads-step policies from step is)
    (Leads-reaches policies most (target step.policy) to later))
    (or_cases _ _ rest.1)

-- ---- what is there is found

abbrev Has : List Heading → List ℕ → Type 0
Has headings name = list_any (λ (heading : Heading). same_text heading.name name) headings ≡ true

abbrev without : List ℕ → List Heading → List Heading
without name headings = filter (λ (heading : Heading). not (same_text heading.name name)) headings

Has-without : (name other : List ℕ) (headings : List Heading) → same_text other name ≡ false → Has headings other
    → Has (without name headings) other
Has-without name other headings apart has =
    any-filter (λ (heading : Heading). same_text heading.name other) (λ heading. not (same_text heading.name name))
    (λ heading same. ap (λ text. not (same_text text name)) (same_text-≡ heading.name other same) ∙ ap not apart)
    headings has

at : List ℕ → Placed → Bool
at name step = same_text step.bucket name

-- the last part of a walk that begins in the bucket
record Tail (policies : List Placed) (headings : List Heading) (name to : List ℕ) : Type 0 where
  first : Placed
  others : List Placed
  walks : IsWalk policies name (first ∷ others)
  ends : end_of name (first ∷ others) ≡ to
  within : Has headings first.bucket
  rest : AllByRecursion (λ (step : Placed). Has (without name headings) step.bucket) others

none_left : (name : List ℕ) (headings : List Heading) (steps : List Placed)
    → AllByRecursion (λ (step : Placed). Has headings step.bucket) steps → list_any (at name) steps ≡ false
    → AllByRecursion (λ (step : Placed). Has (without name headings) step.bucket) steps
unfolding at
none_left name headings [] within none = tt
none_left name headings (step ∷ steps) within none =
    parts (none_left name headings steps within.1) (same_text step.bucket name) refl none
  where
    parts : (list_any (at name) steps ≡ false
        → AllByRecursion (λ (other : Placed). Has (without name headings) other.bucket) steps)
        → (here : Bool) → same_text step.bucket name ≡ here → (here || list_any (at name) steps) ≡ false
        → AllByRecursion (λ (other : Placed). Has (without name headings) other.bucket) (step ∷ steps)
    parts rest true is none = absurd (true≢false none)
    parts rest false is none = (Has-without name step.bucket headings is within.0, rest none)

last_from : (policies : List Placed) (headings : List Heading) (name from to : List ℕ) (steps : List Placed)
    → IsWalk policies from steps → end_of from steps ≡ to
    → AllByRecursion (λ (step : Placed). Has headings step.bucket) steps → list_any (at name) steps ≡ true
    → Tail policies headings name to
unfolding at
last_from policies headings name from to [] walks ends within any = absurd (true≢false (sym any))
last_from policies headings name from to (step ∷ steps) walks ends within any =
    ⊎_elim (λ later. last_from policies headings name (target step.policy) to steps walks.1 ends within.1 later)
    (λ none. here (same_text step.bucket name) refl none any) (cases_Bool (list_any (at name) steps))
  where
    here : (is_here : Bool) → same_text step.bucket name ≡ is_here → list_any (at name) steps ≡ false
        → (is_here || list_any (at name) steps) ≡ true → Tail policies headings name to
    here true is none found = record {
      first = step;
      others = steps;
      walks =
          (record { there = walks.0.there; points = walks.0.points; own = same_text-≡ step.bucket name is }, walks.1);
      ends = ends;
      within = within.0;
      rest = none_left name headings steps within.1 none;
    }
    here false is none found = absurd (true≢false (sym found ∙ none))

pub reaches-walk : (policies : List Placed) (most : ℕ) (headings : List Heading) (from to : List ℕ) (step : Placed)
    (steps : List Placed) → length headings ≤ most → IsWalk policies from (step ∷ steps)
    → end_of from (step ∷ steps) ≡ to → AllByRecursion (λ (step : Placed). Has headings step.bucket) (step ∷ steps)
    → reaches policies most from to ≡ true
unfolding reaches at
reaches-walk policies zero [] from to step steps short walks ends within = absurd (true≢false (sym within.0))
reaches-walk policies zero (heading ∷ headings) from to step steps short walks ends within =
    absurd (omega (arith, short))
reaches-walk policies (suc most) headings from to step steps short walks ends within =
    let begins : list_any (at from) (step ∷ steps) ≡ true =
    or_left _ _ (≡-same_text step.bucket from walks.0.own) in
    let last = last_from policies headings from from to (step ∷ steps) walks ends within begins in
    let first = last.first in
    let is = last.walks.0 in
    let there : Has headings from = subst (Has headings) is.own last.within in
    let less = length-filter-< (λ (heading : Heading). same_text heading.name from) headings there in
    let fits : length (without from headings) ≤ most = omega (arith, less, short) in
    let found =
    after (λ next others walks ends within.
    reaches-walk policies most (without from headings) (target first.policy) to next others fits walks ends within)
    last.others last.walks last.ends last.rest in
    list_any-from_Any (Tests policies most from to) policies (
      is.there.0,
      first,
      is.there.1,
      is.there.2,
      and_from _ _ (≡-same_text first.bucket from is.own) (and_from _ _ is.points found),
    )
  where
    after : {first : Placed}
        → ((next : Placed) (others : List Placed) → IsWalk policies (target first.policy) (next ∷ others)
        → end_of (target first.policy) (next ∷ others) ≡ to
        → AllByRecursion (λ (step : Placed). Has (without from headings) step.bucket) (next ∷ others)
        → reaches policies most (target first.policy) to ≡ true)
        → (others : List Placed) → IsWalk policies from (first ∷ others) → end_of from (first ∷ others) ≡ to
        → AllByRecursion (λ (step : Placed). Has (without from headings) step.bucket) others
        → (same_text (target first.policy) to || reaches policies most (target first.policy) to) ≡ true
    after {first} rest [] walks ends within = or_left _ _ (≡-same_text (target first.policy) to ends)
    after {first} rest (next ∷ others) walks ends within = or_right _ _ (rest next others walks.1 ends within)

-- ---- without cycles a walk is short

-- a walk from where a walk from the bucket leads never comes to the bucket
never_back : (policies : List Placed) → NoCycle policies → (name from : List ℕ) (steps : List Placed)
    → Leads policies name from
    → IsWalk policies from steps
    → AllByRecursion (λ stop. same_text stop name ≡ false)
    (from ∷ map (λ (step : Placed). target step.policy) steps)
never_back policies none name from [] lead walks = (apart policies none name from lead, tt)
  where
    apart : (policies : List Placed) → NoCycle policies → (name from : List ℕ) → Leads policies name from
        → same_text from name ≡ false
    apart policies none name from lead =
        false_from_ne_true (same_text from name)
        (λ same. none name (subst (Leads policies name) (same_text-≡ from name same) lead))
never_back policies none name from (step ∷ steps) lead walks =
    let next = Leads-append policies name from (target step.policy) lead (Leads-step policies from step walks.0) in (
      false_from_ne_true (same_text from name)
          (λ same. none name (subst (Leads policies name) (same_text-≡ from name same) lead)),
      never_back policies none name (target step.policy) steps next walks.1,
    )

stops_without : (name : List ℕ) (headings : List Heading) (stops : List (List ℕ)) → AllByRecursion (Has headings) stops
    → AllByRecursion (λ stop. same_text stop name ≡ false) stops → AllByRecursion (Has (without name headings)) stops
stops_without name headings [] has apart = tt
stops_without name headings (stop ∷ stops) has apart =
    (Has-without name stop headings apart.0 has.0, stops_without name headings stops has.1 apart.1)

-- each bucket on a walk is there, and none is met twice
pub walk_is_short : (policies : List Placed) → NoCycle policies
    → (headings : List Heading) (from : List ℕ) (steps : List Placed)
    → IsWalk policies from steps
    → AllByRecursion (Has headings) (from ∷ map (λ (step : Placed). target step.policy) steps)
    → length steps < length headings
walk_is_short policies none [] from steps walks has = absurd (true≢false (sym has.0))
walk_is_short policies none (heading ∷ headings) from [] walks has = omega arith
walk_is_short policies none (heading ∷ headings) from (step ∷ steps) walks has =
    let less = length-filter-< (λ (heading : Heading). same_text heading.name from) (heading ∷ headings) has.0 in
    let back = never_back policies none from (target step.policy) steps (Leads-step policies from step walks.0)
    walks.1 in
    let rest =
    walk_is_short policies none (without from (heading ∷ headings)) (target step.policy) steps walks.1
    (stops_without from (heading ∷ headings) (target step.policy ∷ map (λ (other : Placed). target other.policy) steps)
    has.1 back) in
    omega (arith, less, rest)

-- ---- in a database

pub Within-walk : (database : Database) → AllByRecursion (IsRooted database) database.policies
    → (from : List ℕ) (steps : List Placed)
    → IsWalk database.policies from steps
    → AllByRecursion (λ (step : Placed). has_bucket step.bucket database ≡ true) steps
Within-walk database rooted from [] walks = tt
Within-walk database rooted from (step ∷ steps) walks =
    let is = All-contains (IsRooted database) database.policies step
    (All-from_recursion (IsRooted database) database.policies rooted) walks.0.there in
    (is.own, Within-walk database rooted (target step.policy) steps walks.1)

Targets-walk : (database : Database) → AllByRecursion (IsRooted database) database.policies
    → (from : List ℕ) (steps : List Placed)
    → IsWalk database.policies from steps
    → AllByRecursion (λ stop. has_bucket stop database ≡ true) (map (λ (step : Placed). target step.policy) steps)
Targets-walk database rooted from [] walks = tt
Targets-walk database rooted from (step ∷ steps) walks =
    let is = All-contains (IsRooted database) database.policies step
    (All-from_recursion (IsRooted database) database.policies rooted) walks.0.there in
    (is.target walks.0.points, Targets-walk database rooted (target step.policy) steps walks.1)

-- the test answers true exactly for the buckets on a cycle
pub is_on_cycle-Leads : (database : Database) → AllByRecursion (IsRooted database) database.policies → (name : List ℕ)
    → IsOnCycle database.policies name → is_on_cycle database name ≡ true
is_on_cycle-Leads database rooted name lead =
    reaches-walk database.policies (length database.buckets) database.buckets name name lead.first lead.others
    (omega arith)
    lead.walks lead.ends (Within-walk database rooted name (lead.first ∷ lead.others) lead.walks)

pub NoCycle-tested : (database : Database) → AllByRecursion (IsRooted database) database.policies
    → ((name : List ℕ) → is_on_cycle database name ≡ false) → NoCycle database.policies
NoCycle-tested database rooted none name lead =
    true≢false (sym (is_on_cycle-Leads database rooted name lead) ∙ none name)

pub tested-NoCycle : (database : Database) → NoCycle database.policies → (name : List ℕ)
    → is_on_cycle database name ≡ false
tested-NoCycle database none name =
    false_from_ne_true (is_on_cycle database name)
    (λ found. none name (Leads-reaches database.policies (length database.buckets) name name found))

-- no walk has as many policies as there are buckets
pub walks_end : (database : Database) → AllByRecursion (IsRooted database) database.policies
    → ((name : List ℕ) → is_on_cycle database name ≡ false) → (from : List ℕ) (steps : List Placed)
    → has_bucket from database ≡ true → IsWalk database.policies from steps → length steps < length database.buckets
walks_end database rooted none from steps has walks =
    walk_is_short database.policies (NoCycle-tested database rooted none) database.buckets from steps walks
    (has, Targets-walk database rooted from steps walks)

-- ---- fewer policies

abbrev pub Fewer : List Placed → List Placed → Type 0
Fewer policies others = (step : Placed) → Contains policies step → points step.policy ≡ true → Contains others step

IsWalk-fewer : (policies others : List Placed) → Fewer policies others → (from : List ℕ) (steps : List Placed)
    → IsWalk policies from steps → IsWalk others from steps
IsWalk-fewer policies others fewer from [] walks = tt
IsWalk-fewer policies others fewer from (step ∷ steps) walks = (
  record { there = fewer step walks.0.there walks.0.points; points = walks.0.points; own = walks.0.own },
  IsWalk-fewer policies others fewer (target step.policy) steps walks.1,
)

-- where no policy that points to a bucket is added, no cycle is
pub NoCycle-fewer : (policies others : List Placed) → Fewer policies others → NoCycle others → NoCycle policies
NoCycle-fewer policies others fewer none name lead =
    none name (record {
      first = lead.first;
      others = lead.others;
      walks = IsWalk-fewer policies others fewer name (lead.first ∷ lead.others) lead.walks;
      ends = lead.ends;
    })
