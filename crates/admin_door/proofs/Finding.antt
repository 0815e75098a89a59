-- Buckets of a policy database by name, and what is found in them.
use Rattle.std.proofs.Common.{◌≡◌, ◌≤◌, ◌+◌, ◌||◌, ℕ, suc, Bool, true, false, not, cond, ltb, List, [], ◌∷◌, length, slice_get, Option}
use Rattle.std.proofs.Common.{Some, None, IfSome, refl, sym, ap, ◌∙◌, subst, arith}
use Rattle.std.specs.List.{list_any, position, position_or_len, filter}
use Rattle.std.proofs.lemmas.Bool.{ltb-false}
use Rattle.std.proofs.lemmas.List.{length-map}
use Rattle.std.proofs.lemmas.List.Folds.{list_any_at}
use Rattle.std.proofs.lemmas.List.Quantifiers.{position-Some}
use Rattle.std.proofs.lemmas.Option.{slice_get-get_or}
use Rattle.cynara_keys.specs.Text.{same_text}
use Rattle.cynara_keys.specs.Key.{Question}
use Rattle.cynara_keys.specs.declared.keys.Filter.{Filter}
use Rattle.cynara_keys.proofs.Order.{same_text-≡}
use Rattle.bucket_store.specs.Database.{Database, Heading, Placed, has_bucket}
use Rattle.bucket_store.specs.Change.{listed, is_admitted}
use Rattle.bucket_store.specs.Refusal.{most_policies}
use Rattle.bucket_store.specs.WellFormed.{IsSound}
use Rattle.bucket_store.proofs.Lists.{length-filter-≤}
use Rattle.bucket_eval.specs.Evaluation.{answer}
use Rattle.bucket_eval.specs.Found.{outcome_at}
use Rattle.bucket_eval.specs.declared.answers.Found.{Found}
use Rattle.desk_state.specs.DeskState.{DeskState}
use Rattle.desk_state.specs.declared.refusals.Refusal.TheVariants.{NoBucket}
use Rattle.wire_fields.specs.declared.messages.Message.{Message}
use Rattle.wire_fields.specs.declared.messages.Message.TheVariants.{Refused}
use Rattle.admin_door.specs.Reply.{about}

-- where no element is found, none passes
at_head : (passes : Bool) (count first : ℕ) → suc count ≤ cond (not passes) (1 + first) 0 → (passes ≡ false) × (count ≤ first)
at_head true count first within = absurd (omega arith)
at_head false count first within = (refl, omega arith)

none_passes : {X : Type 0} (test : X → Bool) (xs : List X) → length xs ≤ position_or_len test xs → list_any test xs ≡ false
none_passes test [] within = refl
none_passes test (x ∷ xs) within =
    let here = at_head (test x) (length xs) (position_or_len test xs) within in
    ap (λ first. first || list_any test xs) here.0 ∙ none_passes test xs here.1

cond_none : (inside : Bool) (place : ℕ) → cond inside (Some place) None ≡ None → inside ≡ false
cond_none true place none = cc
cond_none false place none = refl

-- where the bucket of a name stands
abbrev place_of : List ℕ → Database → Option ℕ
place_of name database = position (λ (heading : Heading). same_text heading.name name) database.buckets

abbrev no_heading : Heading
no_heading = record { name = []; fallback = record { kind = 0; metadata = [] } }

abbrev is_of : List ℕ → Heading → Bool
is_of name heading = same_text heading.name name

has-found : (name : List ℕ) (database : Database) (place : ℕ) → place_of name database ≡ Some place
    → has_bucket name database ≡ true
has-found name database place found =
    let stands = position-Some (is_of name) database.buckets place no_heading found in
    list_any_at (is_of name) database.buckets place no_heading stands.0 stands.1

has-absent : (name : List ℕ) (database : Database) → place_of name database ≡ None → has_bucket name database ≡ false
has-absent name database absent =
    none_passes (is_of name) database.buckets
    (ltb-false _ _ (cond_none (ltb (position_or_len (is_of name) database.buckets) (length database.buckets)) _ absent))

-- what the bucket at a place answers is what the bucket of this name answers
pub answered-at : (name : List ℕ) (database : Database) (question : Question) (deep : Bool) (found : Found) (place : ℕ)
    → place_of name database ≡ Some place
    → IfSome (slice_get database.buckets place) (λ (heading : Heading).
    outcome_at database found ≡ Some (answer database heading.name question deep))
    → outcome_at database found ≡ Some (answer database name question deep)
answered-at name database question deep found place is answers =
    let stands = position-Some (is_of name) database.buckets place no_heading is in
    let there = slice_get-get_or database.buckets place no_heading stands.0 in
    subst (λ bucket. outcome_at database found ≡ Some (answer database bucket question deep)) (same_text-≡ _ _ stands.1)
    (subst (λ here. IfSome here (λ (heading : Heading).
    outcome_at database found ≡ Some (answer database heading.name question deep))) there answers)

-- the replies about a bucket that is there, and about one that is not
pub about-there : (desk : DeskState) (database : Database) (name : List ℕ) (place : ℕ) (replies : List Message) → database ≡ desk.database
    → place_of name database ≡ Some place → about desk name replies ≡ replies
about-there desk database name place replies same found =
    ap (λ there. cond there replies (Refused (NoBucket name) ∷ []))
    (has-found name desk.database place (ap (place_of name) (sym same) ∙ found))

pub about-absent : (desk : DeskState) (database : Database) (name : List ℕ) (replies : List Message) → database ≡ desk.database
    → place_of name database ≡ None → about desk name replies ≡ Refused (NoBucket name) ∷ []
about-absent desk database name replies same absent =
    ap (λ there. cond there replies (Refused (NoBucket name) ∷ []))
    (has-absent name desk.database (ap (place_of name) (sym same) ∙ absent))

-- no more is listed than a database has policies
pub listed-within : (name : List ℕ) (admitted : Filter) (database : Database) → IsSound database
    → length (listed name admitted database) ≤ most_policies
listed-within name admitted database sound =
    omega (
      arith,
      length-map (filter (is_admitted name admitted) database.policies) (λ (placed : Placed). placed.policy),
      length-filter-≤ (is_admitted name admitted) database.policies,
      sound.policies,
    )
