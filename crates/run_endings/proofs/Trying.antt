-- Writing that is tried once: all bytes are taken, or a call of the sink fails.
use Rattle.std.proofs.Common.{◌≡◌, ◌<◌, ◌∷◌, [], ℕ, zero, suc, List, length, take, Option, Result, Ok, Err, OnOk, OnErr, inl, inr, refl, ap, subst, arith}
use Rattle.desk_ports.specs.Faults.{CountsFailure}
use Rattle.desk_ports.specs.Content.{Appended, AppendedPart}
use Rattle.run_endings.specs.Saying.{IsCut, IsTried}

-- a front of bytes that is not all of them
pub IsCut-take : (n : ℕ) (bytes : List ℕ) → n < length bytes → IsCut (take n bytes) bytes
IsCut-take n [] short = absurd (omega arith)
IsCut-take zero (byte ∷ bytes) short = (byte, bytes, refl)
IsCut-take (suc n) (byte ∷ bytes) short =
    let tail = IsCut-take n bytes (omega arith) in (tail.0, tail.1, ap (λ rest. byte ∷ rest) tail.2)

-- what a sink took of a text, and whether a call of it failed
pub tried : {E : Type 0} (result : Result (Unit {0}) E) (before after : Option (List ℕ)) (bytes text : List ℕ)
    (faults faults_after : ℕ) → bytes ≡ text
    → OnOk result (Appended before bytes after) → OnErr result (AppendedPart before bytes after)
    → CountsFailure result faults faults_after
    → (written : List ℕ) × Appended before written after × IsTried faults faults_after text written
tried (Ok value) before after bytes text faults faults_after same all part count = (bytes, all, inl (count, same))
tried (Err error) before after bytes text faults faults_after same all part count = (
  take part.0 bytes,
  part.2,
  inr (count, subst (IsCut (take part.0 bytes)) same (IsCut-take part.0 bytes part.1)),
)
