use Rattle.std.proofs.Common.{ap, ◌∙◌, subst, drop}
use Rattle.std.proofs.lemmas.List.{take_rest}
use Rattle.text_lines.specs.parts.Gathering.{IsCut}
use Rattle.text_lines.proofs.Limits.{length-line_of-cut}
use Rattle.text_lines.proofs.line_reader.LineReader.is_line_too_long.Goals as goal

pub returns : goal.returns
returns c =
    let reading = c.args.self.now in
    let line = c.cut_line.result.line in
    let piece = c.cut_line.result.piece in
    let waits = take_rest c.as_slice.result.now c.self.inside.taken
    ∙ (ap (drop c.self.inside.taken) c.as_slice.ensures ∙ ap (λ reading. reading.waiting) c.self.view_is) in
    let cut = subst (λ bytes. IsCut bytes line piece) waits c.cut_line.ensures in
    let longest = ap (λ reading. reading.longest) c.self.view_is in
    let count = length-line_of-cut reading.waiting line piece cut in
    cc
