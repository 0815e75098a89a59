use Rattle.std.proofs.Common.{◌≡◌, ◌≤◌, ◌<◌, ◌+◌, ◌^◌, ℕ, List, ◌∷◌, ◌++◌, length, ap, ◌∙◌, sym, arith, length-append}
use Rattle.std.proofs.lemmas.Nat.{from_be_bytes-to_be_bytes_4}
use Rattle.std.specs.Int.{w16, w32, to_be_bytes}
use Rattle.wire_reading.specs.Frame.{length_of}
use Rattle.client_core.specs.Admin.{raw_frame}
use Rattle.client_core.proofs.raw_messages.length_is_that_of_the_rest.Goals as goal

number_in_front : (n : ℕ) (rest : List ℕ) → n < 2 ^ 32 → length_of (to_be_bytes w32 n ++ rest) ≡ n
number_in_front n rest small = from_be_bytes-to_be_bytes_4 n small

sized : (sequence operation : ℕ) (fields : List ℕ) → length fields ≤ 1048573
    → length (raw_frame sequence operation fields) ≡ length_of (raw_frame sequence operation fields) + 4
sized sequence operation fields most =
    let rest : List ℕ = to_be_bytes w16 sequence ++ (operation ∷ fields) in
    let front : length_of (to_be_bytes w32 (length fields + 3) ++ rest) ≡ length fields + 3 =
    number_in_front (length fields + 3) rest (omega (arith, most)) in
    let size : length (to_be_bytes w32 (length fields + 3) ++ rest) ≡ length fields + 3 + 4 = omega arith in
    size ∙ ap (λ (n : ℕ). n + 4) (sym front)

pub returns : goal.returns
returns c = sized c.args.sequence c.args.operation c.args.fields.now c.requires
