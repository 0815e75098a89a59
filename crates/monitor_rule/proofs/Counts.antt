-- The entries of a worker in a list that grows, and their numbers.
use Rattle.std.proofs.Common.{◌≡◌, ◌≢◌, ℕ, suc, ◌+◌, ◌==◌, Bool, cond, List, [], ◌∷◌, ◌++◌, length, ap, ◌∙◌, eq-eqb, ne_eqb, arith}
use Rattle.std.proofs.lemmas.List.{append-nil}
use Rattle.std.proofs.lemmas.List.Elements.{filter-append}
use Rattle.monitor_rule.specs.declared.entries.Entry.{Entry}
use Rattle.monitor_rule.specs.Entries.{of_worker, NumberedFrom}

pub of-append : (worker : ℕ) (xs ys : List Entry) → of_worker worker (xs ++ ys) ≡ of_worker worker xs ++ of_worker worker ys
of-append worker xs ys = filter-append (λ (entry : Entry). entry.worker == worker) xs ys

of-one : (worker : ℕ) (entry : Entry) (is : Bool) → (entry.worker == worker) ≡ is → of_worker worker (entry ∷ []) ≡ cond is (entry ∷ []) []
of-one worker entry is e = ap (λ (b : Bool). cond b (entry ∷ []) []) e

-- an entry of the worker stands at the end
pub of-its : (worker : ℕ) (all : List Entry) (entry : Entry) → entry.worker ≡ worker → of_worker worker (all ++ entry ∷ []) ≡ of_worker worker all ++ entry ∷ []
of-its worker all entry e =
    of-append worker all (entry ∷ []) ∙ ap (λ (more : List Entry). of_worker worker all ++ more) (of-one worker entry _ (eq-eqb entry.worker worker e))

-- an entry of another worker changes nothing
pub of-others : (worker : ℕ) (all : List Entry) (entry : Entry) → entry.worker ≢ worker → of_worker worker (all ++ entry ∷ []) ≡ of_worker worker all
of-others worker all entry n =
    of-append worker all (entry ∷ [])
    ∙ ap (λ (more : List Entry). of_worker worker all ++ more) (of-one worker entry _ (ne_eqb entry.worker worker n))
    ∙ append-nil (of_worker worker all)

pub numbered-more : (number : ℕ) (xs : List Entry) (entry : Entry) → NumberedFrom number xs → entry.number ≡ number + length xs → NumberedFrom number (xs ++ entry ∷ [])
numbered-more number [] entry numbered is = (omega (arith, is), tt)
numbered-more number (x ∷ xs) entry numbered is = (numbered.0, numbered-more (suc number) xs entry numbered.1 (omega (arith, is)))

pub numbered-at : (number : ℕ) (xs : List Entry) (entry : Entry) (ys : List Entry) → NumberedFrom number (xs ++ entry ∷ ys) → entry.number ≡ number + length xs
numbered-at number [] entry ys numbered = let is = numbered.0 in omega (arith, is)
numbered-at number (x ∷ xs) entry ys numbered = let is = numbered-at (suc number) xs entry ys numbered.1 in omega (arith, is)
