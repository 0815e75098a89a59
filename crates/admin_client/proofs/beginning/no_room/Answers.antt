use Rattle.admin_client.proofs.beginning.no_room.Goals as goal

pub unreachable-requires : goal.unreachable-requires
unreachable-requires c = c.in_default.not-Memory c.requires.0 c.requires.1
