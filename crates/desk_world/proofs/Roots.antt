-- Where the first element stands that passes a test, and the root bucket among the buckets.
use Rattle.std.proofs.Common.{◌≡◌, ℕ, zero, suc, ◌<◌, ◌≤◌, ◌+◌, Bool, true, false, not, ◌||◌, nat_lt, cond, List, [], ◌∷◌, length, Option, Some, None, refl, sym, ap, subst, ◌∙◌, arith}
use Rattle.std.specs.Prelude.{MatchOption, IfSome, IsSome, slice_get}
use Rattle.std.specs.List.{position, position_or_len, list_any}
use Rattle.std.proofs.Math.Numerals.{one-add}
use Rattle.std.proofs.lemmas.Bool.{ltb-true, ltb-false, false≢true}
use Rattle.std.specs.Cmp.Lexicographic.{same_text as same_bytes}
use Rattle.cynara_keys.specs.Text.{same_text}
use Rattle.cynara_keys.specs.Key.{Question}
use Rattle.bucket_store.specs.Database.{Database, Heading, root}
use Rattle.bucket_eval.specs.Evaluation.{Outcome, answer}
use Rattle.desk_state.specs.DeskState.{DeskState}
use Rattle.desk_world.specs.World.{root_outcome}

there_step : {X : Type 0} (p : X → Bool) (x : X) (xs : List X) (at : ℕ) (test : Bool) → p x ≡ test
    → (at < length xs → IfSome (slice_get xs at) (λ x. p x ≡ true)) → cond (not test) (1 + at) 0 < suc (length xs)
    → IfSome (slice_get (x ∷ xs) (cond (not test) (1 + at) 0)) (λ x. p x ≡ true)
there_step p x xs at true is next low = is
there_step p x xs at false is next low =
    subst (λ k. IfSome (slice_get (x ∷ xs) k) (λ x. p x ≡ true)) (sym (one-add at)) (next (omega (arith, low)))

there : {X : Type 0} (p : X → Bool) (xs : List X) → position_or_len p xs < length xs
    → IfSome (slice_get xs (position_or_len p xs)) (λ x. p x ≡ true)
there p [] low = absurd (omega (arith, low))
there p (x ∷ xs) low = there_step p x xs (position_or_len p xs) (p x) refl (there p xs) low

nowhere_step : {X : Type 0} (p : X → Bool) (x : X) (xs : List X) (at : ℕ) (test : Bool) → p x ≡ test
    → (length xs ≤ at → list_any p xs ≡ false) → suc (length xs) ≤ cond (not test) (1 + at) 0
    → (test || list_any p xs) ≡ false
nowhere_step p x xs at true is next low = absurd (omega (arith, low))
nowhere_step p x xs at false is next low = next (omega (arith, low))

nowhere : {X : Type 0} (p : X → Bool) (xs : List X) → length xs ≤ position_or_len p xs → list_any p xs ≡ false
nowhere p [] low = refl
nowhere p (x ∷ xs) low = nowhere_step p x xs (position_or_len p xs) (p x) refl (nowhere p xs) low

match_step : {X : Type 0} (p : X → Bool) (xs : List X) (at : ℕ) (test : Bool) → nat_lt at (length xs) ≡ test
    → (at < length xs → IfSome (slice_get xs at) (λ x. p x ≡ true)) → (length xs ≤ at → list_any p xs ≡ false)
    → MatchOption (cond test (Some at) None) (list_any p xs ≡ false)
    (λ at. (at < length xs) × IfSome (slice_get xs at) (λ x. p x ≡ true))
match_step p xs at true is here none = (ltb-true at (length xs) is, here (ltb-true at (length xs) is))
match_step p xs at false is here none = none (ltb-false at (length xs) is)

pub position_tells : {X : Type 0} (p : X → Bool) (xs : List X)
    → MatchOption (position p xs) (list_any p xs ≡ false)
    (λ at. (at < length xs) × IfSome (slice_get xs at) (λ x. p x ≡ true))
position_tells p xs =
    let at = position_or_len p xs in match_step p xs at (nat_lt at (length xs)) refl (there p xs) (nowhere p xs)

root_name : (found : Option Heading) → IfSome found (λ heading. same_text heading.name root ≡ true)
    → IfSome found (λ heading. heading.name ≡ root)
root_name None is = is
root_name (Some heading) is = same_bytes heading.name root (sym is)

pub root_there : (database : Database) (at : ℕ)
    → position (λ (heading : Heading). same_text heading.name root) database.buckets ≡ Some at
    → (at < length database.buckets) × IfSome (slice_get database.buckets at) (λ heading. heading.name ≡ root)
root_there database at e =
    let tells = position_tells (λ (heading : Heading). same_text heading.name root) database.buckets in
    let here : (at < length database.buckets)
    × IfSome (slice_get database.buckets at) (λ (heading : Heading). same_text heading.name root ≡ true) =
    subst (λ o. MatchOption o (list_any (λ (heading : Heading). same_text heading.name root) database.buckets ≡ false)
    (λ at. (at < length database.buckets)
    × IfSome (slice_get database.buckets at) (λ (heading : Heading). same_text heading.name root ≡ true))) e tells in
    (here.0, root_name (slice_get database.buckets at) here.1)

pub root_not_none : (database : Database) → list_any (λ (heading : Heading). same_text heading.name root) database.buckets ≡ true
    → position (λ (heading : Heading). same_text heading.name root) database.buckets ≡ None → ⊥
root_not_none database has e =
    let tells = position_tells (λ (heading : Heading). same_text heading.name root) database.buckets in
    let none : list_any (λ (heading : Heading). same_text heading.name root) database.buckets ≡ false =
    subst (λ o. MatchOption o (list_any (λ (heading : Heading). same_text heading.name root) database.buckets ≡ false)
    (λ at. (at < length database.buckets)
    × IfSome (slice_get database.buckets at) (λ (heading : Heading). same_text heading.name root ≡ true))) e tells in
    let never : true ≡ false = sym has ∙ none in cc

found_at : (database : Database) (question : Question) (heading : Option Heading) (outcome : Option Outcome)
    → IfSome heading (λ heading. heading.name ≡ root)
    → IfSome heading (λ heading. outcome ≡ Some (answer database heading.name question true)) → IsSome heading
    → outcome ≡ Some (answer database root question true)
found_at database question None outcome name is some = absurd (false≢true some)
found_at database question (Some heading) outcome name is some =
    subst (λ name. outcome ≡ Some (answer database name question true)) name is

is_within : {X : Type 0} (xs : List X) (at : ℕ) → at < length xs → IsSome (slice_get xs at)
is_within [] at low = absurd (omega (arith, low))
is_within (x ∷ xs) zero low = refl
is_within (x ∷ xs) (suc at) low = is_within xs at (omega (arith, low))

-- what `plain` finds from the root bucket
pub root_found : (desk : DeskState) (question : Question) (database : Database) (at : ℕ) (outcome : Option Outcome)
    → database ≡ desk.database → at < length database.buckets
    → IfSome (slice_get database.buckets at) (λ heading. heading.name ≡ root)
    → IfSome (slice_get database.buckets at) (λ heading. outcome ≡ Some (answer database heading.name question true))
    → outcome ≡ Some (root_outcome desk question)
unfolding root_outcome
root_found desk question database at outcome same low name is =
    found_at database question (slice_get database.buckets at) outcome name is (is_within database.buckets at low)
    ∙ ap (λ database. Some (answer database root question true)) same
