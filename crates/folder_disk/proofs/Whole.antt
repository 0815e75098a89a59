-- What is read up to one byte more than the limit, and is no longer than the limit, is all that was left.
use Rattle.std.proofs.Common.{◌≡◌, ◌≤◌, ◌+◌, ℕ, ◌++◌, List, [], length, take, min, Option, Some, None, IfSome, ◌∙◌, ap, arith}
use Rattle.std.specs.Option.{option_map}
use Rattle.std.proofs.lemmas.List.{length-take, take_all}

all_taken : (most : ℕ) (left got : List ℕ) → got ≡ take (most + 1) left → length got ≤ most → got ≡ left
all_taken most left got is short =
    let cut : length got ≡ min (most + 1) (length left) = ap length is ∙ length-take (most + 1) left in
    is ∙ take_all (most + 1) left (omega (arith, cut))

pub all_left : (told : Option (List ℕ)) (most : ℕ) (got : List ℕ)
    → IfSome (option_map (take (most + 1)) told) (λ given. got ≡ [] ++ given) → length got ≤ most → IfSome told (λ left. got ≡ left)
all_left None most got is short = tt
all_left (Some left) most got is short = all_taken most left got is short
