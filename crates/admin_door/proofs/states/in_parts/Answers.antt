use Rattle.admin_door.proofs.Parting.{files-more}
use Rattle.admin_door.proofs.states.in_parts.Goals as goal

pub loop-file-preserved : goal.loop-file-preserved
loop-file-preserved c =
    let (parts, told, are) = c.in-Ok.ensures in
    files-more c.args.files.now c.loop-file.file-index c.file-item.result c.loop-file.replies.items c.in-Ok.more.items parts
    c.loop-file-test.true c.file-item.is c.loop-file.invariant told are
