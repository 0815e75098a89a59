use Rattle.std.proofs.Common.{subst, ap, ◌∙◌}
use Rattle.bucket_store.specs.Database.{Heading}
use Rattle.set_text.specs.Buckets.{policies_of}
use Rattle.set_text.specs.Fault.{bytes_in}
use Rattle.set_text.specs.FileNames.{bucket_file}
use Rattle.set_text.specs.parts.Names.{NamesLine}
use Rattle.set_text.specs.parts.Reads.{RefusesFile}
use Rattle.set_text.proofs.ReadingFaults.{refuses-file}
use Rattle.set_text.proofs.bucket_files.bucket_in.Goals as goal

pub returns-in-Err-read_policies-clause-policies : goal.returns-in-Err-read_policies-clause-policies
returns-in-Err-read_policies-clause-policies c =
    let files = c.args.files.now in
    let headings = c.args.headings.now in
    let file = bucket_file c.args.heading.now.name in
    let fault = c.in-Err-read_policies.fault in
    let made = c.in-Ok.ensures ∙ ap (λ (heading : Heading). bucket_file heading.name) c.heading.view_is in
    let named = c.as_slice-in-Err-read_policies.ensures.bytes ∙ made in
    let read = c.bytes_of-text.ensures ∙ ap (bytes_in files) (c.as_slice.ensures.bytes ∙ made) in
    refuses-file c.in_file.result file fault (policies_of headings c.args.earlier (bytes_in files file))
    (subst (λ name. NamesLine c.in_file.result name fault) named c.in_file.ensures)
    (subst (λ text. RefusesFile fault
    (policies_of headings c.args.earlier text)) read c.in-Err-read_policies.ensures.read)
