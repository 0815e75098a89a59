use Rattle.std.proofs.Common.{◌≡◌, ◌≤◌, ◌+◌, ◌-◌, ◌++◌, ℕ, List, length, take, drop, sym, ap, ◌∙◌, refl, arith}
use Rattle.std.proofs.lemmas.List.{take_rest, take_at, drop-drop, take-append-drop, length-take-le}
use Rattle.desk_ports.proofs.mem_source.MemSourceSource.read.Goals as goal

-- the bytes that were left are those copied, and then those behind them
gave : (left copied tail : List ℕ) (count : ℕ) → count ≤ length left → copied ≡ take count left
    → left ≡ take count (copied ++ tail) ++ drop count left
gave left copied tail count within is =
    sym (take-append-drop count left)
    ∙ ap (λ front. front ++ drop count left)
    (sym is ∙ sym (take_at copied tail count (ap length is ∙ length-take-le count left within)))

pub returns-clause-given : goal.returns-clause-given
returns-clause-given c =
    let left = drop c.self.inside.given c.self.inside.bytes in
    let whole =
    ap (λ bytes. take (length bytes - c.self.inside.given) (drop c.self.inside.given bytes)) c.as_slice.ensures
    ∙ take_rest c.self.inside.bytes c.self.inside.given in
    let within : c.min-count.result ≤ length left = omega (arith, c.min-count.ensures, ap length whole) in (
      drop (c.self.inside.given + c.min-count.result) c.self.inside.bytes,
      ap (λ source. source.bytes) (sym c.self.view_is)
          ∙ (gave left c.copy_from_slice.new.self _ c.min-count.result within
          (c.copy_from_slice.ensures.after ∙ ap (take c.min-count.result) whole)
          ∙ ap (λ rest. take c.min-count.result (c.copy_from_slice.new.self ++ drop c.min-count.result c.args.into.now) ++ rest)
          (drop-drop c.min-count.result c.self.inside.given c.self.inside.bytes)),
      refl,
    )
