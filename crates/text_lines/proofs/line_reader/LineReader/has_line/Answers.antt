use Rattle.std.proofs.Common.{ap, ◌∙◌, drop}
use Rattle.std.proofs.lemmas.List.{take_rest}
use Rattle.std.specs.List.{list_any}
use Rattle.text_lines.specs.Lines.{is_newline}
use Rattle.text_lines.proofs.line_reader.LineReader.has_line.Goals as goal

pub returns-clause-found : goal.returns-clause-found
returns-clause-found c =
    c.scan-self-inside.ensures.newline
    ∙ (rw take_rest (ap (λ window. list_any is_newline (drop c.self.inside.taken window)) c.as_slice.ensures)
    ∙ ap (λ reading. list_any is_newline reading.waiting) c.self.view_is)
