-- The marks and the count of a link that was looked at, or was not.
use Rattle.std.proofs.Common.{◌≡◌, ℕ, Bool, true, false, ◌||◌, refl, ap}
use Rattle.link_ports.specs.LinkMarks.{LinkMarks, marks_after_look}
use Rattle.server_hall.specs.Found.{found_down}

or-false : (b : Bool) → (b || false) ≡ b
or-false true = refl
or-false false = refl

or-true : (b : Bool) → (b || true) ≡ true
or-true true = refl
or-true false = refl

pub marks_up : (marks : LinkMarks) → marks_after_look true marks ≡ marks
marks_up marks = ap (λ (b : Bool). record marks { is_down = b }) (or-false marks.is_down)

pub marks_down : (marks : LinkMarks) → marks_after_look false marks ≡ found_down marks
marks_down marks = ap (λ (b : Bool). record marks { is_down = b }) (or-true marks.is_down)

-- ---- of a link that was not found down
