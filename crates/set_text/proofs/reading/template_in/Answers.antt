use Rattle.std.proofs.Common.{subst}
use Rattle.set_text.specs.Fault.{bytes_in}
use Rattle.set_text.specs.FileNames.{template}
use Rattle.set_text.specs.Template.{template_lines_of}
use Rattle.set_text.specs.parts.Reads.{RefusesFile}
use Rattle.set_text.proofs.ReadingFaults.{refuses-file}
use Rattle.set_text.proofs.reading.template_in.Goals as goal

pub returns-in-Err : goal.returns-in-Err
returns-in-Err c =
    let files = c.args.files.now in
    refuses-file c.in_file.result template c.in-Err.fault
    (template_lines_of (bytes_in files template)) c.in_file.ensures
    (subst (λ text. RefusesFile c.in-Err.fault (template_lines_of text)) c.bytes_of.ensures c.in-Err.ensures)
