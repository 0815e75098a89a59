use Rattle.std.proofs.Common.{◌≡◌, ◌==◌, true, length, rules}
use Rattle.admin_door.proofs.Parting.{empty-told}
use Rattle.admin_door.proofs.states.with_file.Goals as goal

-- one part without bytes
pub returns-then-len-eq0 : goal.returns-then-len-eq0
returns-then-len-eq0 c =
    let none : (length c.args.file.now.bytes == 0) ≡ true = search rules in
    empty-told (λ longer. longer.items) c.with_part.result c.args.before.items c.args.file.now.name c.args.file.now.bytes none
    c.with_part.ensures
