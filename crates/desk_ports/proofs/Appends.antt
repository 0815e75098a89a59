-- One append after another.
use Rattle.std.proofs.Common.{◌+◌, ◌-◌, ℕ, List, [], ◌++◌, length, take, drop, Option, Some, None, sym, ap, ◌∙◌, subst, append_assoc, append-nil, arith, length-append}
use Rattle.std.proofs.Math.Seq.{take-add, take-append-add}
use Rattle.std.proofs.lemmas.List.{take_rest, take-append-le}
use Rattle.desk_ports.specs.Content.{Appended, AppendedPart}

pub Appended-none : (before : Option (List ℕ)) → Appended before [] before
Appended-none None = tt
Appended-none (Some bytes) = ap Some (sym (append-nil bytes))

pub Appended-then : (first second third : Option (List ℕ)) (xs ys : List ℕ) → Appended first xs second
    → Appended second ys third → Appended first (xs ++ ys) third
Appended-then None second third xs ys a b = tt
Appended-then (Some bytes) second third xs ys a b =
    (subst (λ s. Appended s ys third) a b) ∙ ap Some (append_assoc bytes xs ys)

-- a further part of the bytes, as an index shows it
pub Appended-part : (first second third : Option (List ℕ)) (bytes : List ℕ) (done n : ℕ)
    → Appended first (take done bytes) second → Appended second (take n (take (length bytes - done) (drop done bytes))) third
    → Appended first (take (done + n) bytes) third
Appended-part first second third bytes done n a b =
    rw take-add (Appended-then first second third (take done bytes) (take n (drop done bytes)) a (rw take_rest at b))

-- a part of the first bytes is a part of all
pub AppendedPart-front : (before after : Option (List ℕ)) (xs ys : List ℕ) → AppendedPart before xs after
    → AppendedPart before (xs ++ ys) after
AppendedPart-front before after xs ys part = (
  part.0,
  omega (arith, part.1, length-append xs ys),
  subst (λ bytes. Appended before bytes after) (sym (take-append-le part.0 xs ys (omega (arith, part.1)))) part.2,
)

-- all of the first bytes, and then a part of the others
pub AppendedPart-then : (first second third : Option (List ℕ)) (xs ys : List ℕ) → Appended first xs second
    → AppendedPart second ys third → AppendedPart first (xs ++ ys) third
AppendedPart-then first second third xs ys all part = (
  length xs + part.0,
  omega (arith, part.1, length-append xs ys),
  subst (λ bytes. Appended first bytes third) (sym (take-append-add xs ys part.0))
      (Appended-then first second third xs (take part.0 ys) all part.2),
)
