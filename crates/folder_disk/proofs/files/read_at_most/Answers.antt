use Rattle.std.proofs.Common.{rules}
use Rattle.folder_disk.proofs.Whole.{all_left}
use Rattle.folder_disk.proofs.files.read_at_most.Goals as goal

pub returns-clause-whole : goal.returns-clause-whole
returns-clause-whole g c =
    all_left (g.F.Read.remaining c.args.file) c.args.most c.read_to_end.new.buf.items (search rules) (search rules)
