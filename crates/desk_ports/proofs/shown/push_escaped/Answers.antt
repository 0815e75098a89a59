use Rattle.std.proofs.Common.{◌++◌, [], ◌∷◌, take, string_bytes, ap₂, ◌∙◌}
use Rattle.desk_ports.proofs.Cut.{cut_next}
use Rattle.desk_ports.proofs.shown.push_escaped.Goals as goal

pub returns-clause-shown : goal.returns-clause-shown
returns-clause-shown c =
    let text = string_bytes c.args.text.now in
    let one = string_bytes c.push_short.new.text in
    let two = string_bytes c.push_short-2.new.text in
    let three = string_bytes c.push_short-3.new.text in
    let high = c.hex_digit.result in
    let cut = cut_next c.args.most text in
    let to_x = cut (92 ∷ []) (120 ∷ []) one two c.in_ok-push_short.ensures.shown c.in_ok-push_short-2.ensures.shown in
    let to_high = cut (92 ∷ 120 ∷ []) (high ∷ []) two three to_x c.in_ok-push_short-3.ensures.shown in
    cut (92 ∷ 120 ∷ high ∷ []) (c.hex_digit-2.result ∷ []) three (string_bytes c.push_short-4.new.text) to_high c.in_ok-push_short-4.ensures.shown
    ∙ ap₂ (λ h l. take c.args.most (text ++ 92 ∷ 120 ∷ h ∷ l ∷ [])) c.hex_digit.ensures.digit c.hex_digit-2.ensures.digit
