-- What tests, and faults that are not there, say.
use Rattle.std.proofs.Common.{◌≡◌, Bool, true, false, not, cond, ◌||◌, Some, None, Result, Ok, refl, sym}
use Rattle.std.proofs.lemmas.Bool.{true≢false}

-- neither of two tests passes
pub neither : (a b : Bool) → (a || b) ≡ false → (a ≡ false) × (b ≡ false)
neither true b h = absurd (true≢false h)
neither false b h = (refl, h)

pub not-false : (b : Bool) → not b ≡ false → b ≡ true
not-false true h = refl
not-false false h = absurd (true≢false h)

pub not-true : (b : Bool) → not b ≡ true → b ≡ false
not-true true h = absurd (true≢false (sym h))
not-true false h = refl

-- there is no fault where its test does not pass
pub none-when : {X : Type 0} (b : Bool) (x : X) → cond b (Some x) None ≡ None → b ≡ false
none-when true x h = cc
none-when false x h = refl

-- a result has one value
pub same-ok : {X E : Type 0} (a b : X) (result : Result X E) → result ≡ Ok a → result ≡ Ok b → a ≡ b
same-ok a b result first second = cc
