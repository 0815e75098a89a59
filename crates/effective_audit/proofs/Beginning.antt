-- Where the root bucket stands, and what is found from there.
use Rattle.std.proofs.Common.{◌≡◌, ◌<◌, ℕ, Bool, true, cond, List, [], length, slice_get, Option, Some, None, IfSome, sym, ap, ◌∙◌, subst}
use Rattle.std.specs.List.{position, position_or_len}
use Rattle.std.proofs.lemmas.List.Quantifiers.{position-Some}
use Rattle.std.proofs.lemmas.Option.{slice_get-get_or}
use Rattle.cynara_keys.specs.Key.{Question}
use Rattle.cynara_keys.specs.Text.{same_text}
use Rattle.cynara_keys.proofs.Order.{same_text-≡}
use Rattle.bucket_store.specs.Database.{Database, Heading, root, has_bucket}
use Rattle.bucket_store.proofs.NameNumbering.{place-within}
use Rattle.bucket_eval.specs.Evaluation.{Outcome, answer}

abbrev is_root : Heading → Bool
is_root heading = same_text heading.name root

abbrev no_heading : Heading
no_heading = record { name = []; fallback = record { kind = 0; metadata = [] } }

module _ (database : Database) where
  abbrev root_place : Option ℕ
  root_place = position (λ (heading : Heading). same_text heading.name root) database.buckets

  -- the root bucket stands somewhere
  pub root-somewhere : has_bucket root database ≡ true → root_place ≡ None → ⊥
  root-somewhere there nowhere =
      let at = position_or_len is_root database.buckets in
      let found : root_place ≡ Some at = ap (λ inside. cond inside (Some at) None) (place-within is_root database.buckets ∙ there) in
      let wrong : Some at ≡ None = sym found ∙ nowhere in
      cc

  module _ (place : ℕ) (stands : root_place ≡ Some place) where
    pub root-within : place < length database.buckets
    root-within = (position-Some is_root database.buckets place no_heading stands).0

    -- what is found from there is what the root bucket answers
    pub root-answered : (question : Question) (found : Option Outcome)
        → IfSome (slice_get database.buckets place) (λ (heading : Heading). found ≡ Some (answer database heading.name question true))
        → found ≡ Some (answer database root question true)
    root-answered question found answers =
        let facts = position-Some is_root database.buckets place no_heading stands in
        let there = slice_get-get_or database.buckets place no_heading facts.0 in
        subst (λ name. found ≡ Some (answer database name question true)) (same_text-≡ _ root facts.1)
        (subst (λ here. IfSome here (λ (heading : Heading). found ≡ Some (answer database heading.name question true))) there answers)
