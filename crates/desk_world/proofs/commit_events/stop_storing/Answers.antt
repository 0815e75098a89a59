use Rattle.std.proofs.Common.{rules, cond, Some, None}
use Rattle.desk_state.specs.Next.{next}
use Rattle.desk_world.specs.World.{latest}
use Rattle.desk_world.specs.Commits.{may_store, committed, restarted}
use Rattle.desk_world.specs.parts.Parts.{world_of}
use Rattle.desk_world.proofs.Becoming.{refused_becomes, taken_becomes}
use Rattle.desk_world.proofs.commit_events.stop_storing.Goals as goal

pub returns-in_default : goal.returns-in_default
returns-in_default c =
    let w = world_of c.args.world.now in
    let state = next (latest w) c.args.command.now in
    refused_becomes (may_store c.args.command.now w) state c.in_ok-state.field-0
    (restarted (committed (cond c.args.kept (Some state) None) w)) _ (search rules) (search rules)

pub returns : goal.returns
returns c =
    let w = world_of c.args.world.now in
    taken_becomes (may_store c.args.command.now w) (next (latest w) c.args.command.now) c.in_ok-state.field-0 c.in-Some.state
    (λ state. restarted (committed (cond c.args.kept (Some state) None) w)) _ (search rules) (search rules) (search rules)
