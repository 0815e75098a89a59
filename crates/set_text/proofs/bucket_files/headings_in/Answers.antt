use Rattle.std.proofs.Common.{subst}
use Rattle.set_text.specs.Buckets.{headings_of}
use Rattle.set_text.specs.Fault.{bytes_in}
use Rattle.set_text.specs.FileNames.{buckets}
use Rattle.set_text.specs.parts.Reads.{RefusesFile}
use Rattle.set_text.proofs.ReadingFaults.{refuses-file}
use Rattle.set_text.proofs.bucket_files.headings_in.Goals as goal

pub returns-in-Err : goal.returns-in-Err
returns-in-Err c =
    let files = c.args.files.now in
    refuses-file c.in_file.result buckets c.in-Err.fault (headings_of (bytes_in files buckets)) c.in_file.ensures
    (subst (λ text. RefusesFile c.in-Err.fault (headings_of text)) c.bytes_of.ensures c.in-Err.ensures)
