-- A question that was taken away is not open any more.
use Rattle.std.proofs.Common.{◌≡◌, ℕ, ◌==◌, Bool, true, false, not, cond, List, [], ◌∷◌, None, refl}
use Rattle.agent_table.specs.declared.open_questions.OpenQuestion.{OpenQuestion}
use Rattle.agent_table.specs.OpenQuestion.{numbered, without}

pub numbered_without : (n : ℕ) (questions : List OpenQuestion) → numbered n (without n questions) ≡ None
numbered_without n [] = refl
numbered_without n (first ∷ questions) =
    let P : Bool → Type 0 = λ b. (first.number == n) ≡ b
    → numbered n (cond (not b) (first ∷ without n questions) (without n questions)) ≡ None in
    let cases : (b : Bool) → P b =
    λ b. elim b as P [
      | true ↦ λ is. numbered_without n questions
      | false ↦ λ is. rw is (numbered_without n questions)
    ] in
    cases (first.number == n) refl
