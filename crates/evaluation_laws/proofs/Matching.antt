-- The policies of a bucket that match a question, as one choice among all of a database.
use Rattle.std.proofs.Common.{◌≡◌, ℕ, Bool, true, false, cond, ◌&&◌, List, [], ◌∷◌, map, refl, ap, ◌∙◌}
use Rattle.std.specs.List.{filter}
use Rattle.cynara_keys.specs.Key.{Question, key_matches}
use Rattle.cynara_keys.specs.Text.{same_text}
use Rattle.bucket_store.specs.Database.{Database, Placed}
use Rattle.bucket_store.proofs.Lists.{filter-map}
use Rattle.evaluation_laws.specs.Agreement.{matching}

-- a bucket's policies that match a question, as one choice among all
abbrev pub concerns : List ℕ → Question → Placed → Bool
concerns name question placed = same_text placed.bucket name && key_matches placed.policy.key question

pub filter-both : {X : Type 0} (one other : X → Bool) (list : List X) → filter other (filter one list) ≡ filter (λ x. one x && other x) list
filter-both one other [] = refl
filter-both one other (x ∷ xs) = by_case (filter-both one other xs) (one x) where
  by_case : filter other (filter one xs) ≡ filter (λ x. one x && other x) xs → (b : Bool)
      → filter other (cond b (x ∷ filter one xs) (filter one xs))
      ≡ cond (b && other x) (x ∷ filter (λ x. one x && other x) xs) (filter (λ x. one x && other x) xs)
  by_case rest true = ap (λ rest. cond (other x) (x ∷ rest) rest) rest
  by_case rest false = rest

pub matching-chosen : (database : Database) (question : Question) (name : List ℕ)
    → matching database question name ≡ map (λ placed. placed.policy) (filter (concerns name question) database.policies)
matching-chosen database question name =
    filter-map (λ policy. key_matches policy.key question) (λ (placed : Placed). placed.policy)
    (filter (λ placed. same_text placed.bucket name) database.policies)
    ∙ ap (map (λ placed. placed.policy))
    (filter-both (λ placed. same_text placed.bucket name) (λ (placed : Placed). key_matches placed.policy.key question) database.policies)
