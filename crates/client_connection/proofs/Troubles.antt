-- A link that failed or was at its end counts for the dialler when it is given back.
use Rattle.std.proofs.Common.{◌≡◌, ◌<◌, ℕ, Bool, true, false, ◌&&◌, ◌||◌, cond, ltb, eqb, Ok, refl, sym, ap, subst, ◌∙◌, arith}
use Rattle.std.proofs.lemmas.Bool.Decides.{nat_tests}
use Rattle.desk_ports.specs.Faults.{next_count}
use Rattle.link_ports.specs.LinkMarks.{LinkMarks, marks_after_receive}
use Rattle.link_ports.specs.NetCounts.{count_after_give_back}
use Rattle.client_connection.specs.Reading.{IsTrouble}

above : (n : ℕ) → 0 < n → ltb 0 n ≡ true
above n some = grind (arith, nat_tests)

no_end : (ends : ℕ) (b : Bool) → ends ≡ 0 → b ≡ true → (eqb ends 0 && b) ≡ true
no_end ends b none is = ap (λ n. eqb n 0 && b) none ∙ is

or_true : (a b : Bool) → b ≡ true → (a || b) ≡ true
or_true true b is = refl
or_true false b is = is

front_true : (a b : Bool) → a ≡ true → (a || b) ≡ true
front_true true b is = refl
front_true false b is = cc

-- its input had ended
ended : (marks : LinkMarks) (faults room : ℕ) → 0 < room → IsTrouble (marks_after_receive (Ok 0) room marks) faults
ended marks faults room some none =
    no_end marks.ends _ none
    (or_true (ltb 0 faults) _ (front_true (marks.has_ended || (true && ltb 0 room)) _ (or_true marks.has_ended _ (above room some))))

pub trouble-ended : (marks after : LinkMarks) (faults room count : ℕ) → 0 < room → count ≡ 0
    → after ≡ marks_after_receive (Ok count) room marks → IsTrouble after faults
trouble-ended marks after faults room count some zero is =
    subst (λ (marks : LinkMarks). IsTrouble marks faults)
    (sym (is ∙ ap (λ (n : ℕ). marks_after_receive (Ok n) room marks) zero)) (ended marks faults room some)

-- giving it back counts
pub trouble-counts : (marks : LinkMarks) (faults count : ℕ) → IsTrouble marks faults → marks.ends ≡ 0
    → count_after_give_back marks faults count ≡ next_count count
trouble-counts marks faults count trouble none = ap (λ b. cond b (next_count count) count) (trouble none)
