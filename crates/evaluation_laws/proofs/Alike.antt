-- What concerns a question decides its answer.
use Rattle.std.proofs.Common.{◌≡◌, ℕ, zero, suc, Bool, true, false, cond, List, [], ◌∷◌, length, Option, Some, None, refl, sym, ap, ◌∙◌}
use Rattle.std.specs.Prelude.{find}
use Rattle.std.specs.List.{filter, filter_map, cons_option}
use Rattle.std.specs.Option.{option_map_or}
use Rattle.cynara_keys.specs.Key.{Question, key_matches}
use Rattle.cynara_keys.specs.Minimum.{first_least}
use Rattle.cynara_keys.specs.PolicyResult.{deny}
use Rattle.cynara_keys.specs.Text.{same_text}
use Rattle.cynara_keys.specs.declared.keys.Policy.{Policy}
use Rattle.bucket_store.specs.Database.{Database, Heading}
use Rattle.bucket_store.specs.Walk.{points, target}
use Rattle.bucket_eval.specs.Evaluation.{Outcome, Contribution, contribution, contribution_cmp, counted, decided, fallback_of, outcome_of, policies_of, answer_within, answer}
use Rattle.evaluation_laws.specs.Agreement.{matching, AgreeOn, AnswerAlike}

-- a list without what gives nothing gives the same
module _ (below : List ℕ → Outcome) (deep : Bool) (name : List ℕ) (question : Question) where
  abbrev offers : List Policy → List Contribution
  offers policies = filter_map (contribution below deep name question) policies

  abbrev that_match : List Policy → List Policy
  that_match policies = filter (λ policy. key_matches policy.key question) policies

  offers-matching : (policies : List Policy) → offers policies ≡ offers (that_match policies)
  offers-matching [] = refl
  offers-matching (policy ∷ policies) = told (offers-matching policies) (key_matches policy.key question) refl where
    told : offers policies ≡ offers (that_match policies) → (b : Bool) → key_matches policy.key question ≡ b
        → cons_option (cond b (counted policy.key (outcome_of below deep name policy)) None) (offers policies) ≡ offers (cond b (policy ∷ that_match policies) (that_match policies))
    told later true is =
        ap (cons_option (counted policy.key (outcome_of below deep name policy))) later ∙ ap (λ b. cons_option (cond b (counted policy.key (outcome_of below deep name policy)) None) (offers (that_match policies))) (sym is)
    told later false is = later

-- what the policies contribute, where the buckets below answer alike
module _ (one other : List ℕ → Outcome) (alike : (name : List ℕ) → one name ≡ other name) where
  outcome-same : (deep : Bool) (name : List ℕ) (policy : Policy) → outcome_of one deep name policy ≡ outcome_of other deep name policy
  outcome-same deep name policy =
      ap (λ below. cond (points policy) (cond deep (Some below) None)
      (Some (record { result = policy.result; cause = record { bucket = name; key = Some policy.key } })))
      (alike (target policy))

  contribution-same : (deep : Bool) (name : List ℕ) (question : Question) (policy : Policy)
      → contribution one deep name question policy ≡ contribution other deep name question policy
  contribution-same deep name question policy =
      ap (λ outcome. cond (key_matches policy.key question) (counted policy.key outcome) None) (outcome-same deep name policy)

  offers-same : (deep : Bool) (name : List ℕ) (question : Question) (policies : List Policy)
      → filter_map (contribution one deep name question) policies ≡ filter_map (contribution other deep name question) policies
  offers-same deep name question [] = refl
  offers-same deep name question (policy ∷ policies) =
      ap (λ o. cons_option o (filter_map (contribution one deep name question) policies)) (contribution-same deep name question policy)
      ∙ ap (cons_option (contribution other deep name question policy)) (offers-same deep name question policies)

module _ (one other : Database) (question : Question) (agree : AgreeOn question one other) (deep : Bool) where
  fallback-same : (name : List ℕ) → fallback_of one name ≡ fallback_of other name
  fallback-same name =
      ap (λ (buckets : List Heading). record {
        result = option_map_or (λ heading. heading.fallback) (find (λ (heading : Heading). same_text heading.name name) buckets)
            (record { kind = deny; metadata = [] });
        cause = record { bucket = name; key = None };
      }) agree.buckets

  within-alike : (most : ℕ) (name : List ℕ) → answer_within one question deep most name ≡ answer_within other question deep most name
  unfolding answer_within
  within-alike zero name = fallback-same name
  within-alike (suc most) name =
      let ours = answer_within one question deep most in
      let theirs = answer_within other question deep most in
      ap (λ fallback. decided fallback (first_least contribution_cmp (filter_map (contribution ours deep name question) (policies_of one name))))
      (fallback-same name)
      ∙ ap (λ offered. decided (fallback_of other name) (first_least contribution_cmp offered))
      (offers-matching ours deep name question (policies_of one name)
      ∙ ap (filter_map (contribution ours deep name question)) (agree.policies name)
      ∙ sym (offers-matching ours deep name question (policies_of other name))
      ∙ offers-same ours theirs (within-alike most) deep name question (policies_of other name))

  pub answer-alike : (name : List ℕ) → answer one name question deep ≡ answer other name question deep
  answer-alike name =
      ap (λ most. answer_within one question deep most name) (ap length agree.buckets)
      ∙ within-alike (length other.buckets) name

-- databases that agree on a question answer it alike
pub answers-alike : (question : Question) (one other : Database) → AgreeOn question one other → AnswerAlike question one other
answers-alike question one other agree = λ name deep. answer-alike one other question agree deep name
