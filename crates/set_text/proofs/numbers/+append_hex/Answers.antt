use Rattle.std.proofs.Common.{◌≡◌, ◌++◌, ◌∷◌, [], List, ℕ, ◌/◌, ◌%◌, false, rules, arith, ap, sym, ◌∙◌, append_assoc}
use Rattle.std.specs.Fmt.{digits, digit_glyph}
use Rattle.set_text.proofs.Numbering.{hex_step, hex_last}
use Rattle.set_text.proofs.numbers.+append_hex.Goals as goal
use Rattle.set_text.proofs.numbers.+append_hex.Goals.{then-number-ge16+in_ok-append_hex, else-number-ge16}

pub returns : goal.returns
returns t c =
    let number = c.args.number in
    let before = c.args.text.now.items in
    let last = digit_glyph false (number % 16) in
    let pushed : c.push.new.self.items ≡ c.if-number-ge16.text.items ++ last ∷ [] = search rules in
    elim c.if-number-ge16.branch [
      | then-number-ge16+in_ok-append_hex w ↦
          pushed ∙ ap (λ (text : List ℕ). text ++ last ∷ [])
          (ap (λ text. text.items) w.text-is ∙ w.in_ok-append_hex.ensures)
          ∙ append_assoc before (digits 16 false (number / 16)) (last ∷ [])
          ∙ ap (λ ds. before ++ ds) (sym (hex_step number (omega (arith, w.if-number-ge16.true)) (search rules)))
      | else-number-ge16 w ↦
          pushed ∙ ap (λ (text : List ℕ). text ++ last ∷ []) (ap (λ text. text.items) w.text-is)
          ∙ ap (λ ds. before ++ ds) (sym (hex_last number w.if-number-ge16.false))
    ]
