use Rattle.std.proofs.Common.{rules}
use Rattle.desk_state.specs.Next.{next}
use Rattle.desk_world.specs.World.{latest, with_commit}
use Rattle.desk_world.specs.Commits.{may_store}
use Rattle.desk_world.specs.parts.Parts.{world_of}
use Rattle.desk_world.proofs.Becoming.{refused_becomes, taken_becomes}
use Rattle.desk_world.proofs.commit_events.stored.Goals as goal

pub returns-in_default : goal.returns-in_default
returns-in_default c =
    let w = world_of c.args.world.now in
    let state = next (latest w) c.args.command.now in
    refused_becomes (may_store c.args.command.now w) state c.in_ok-state.field-0 (with_commit state w) _ (search rules)
    (search rules)

pub returns : goal.returns
returns c =
    let w = world_of c.args.world.now in
    taken_becomes (may_store c.args.command.now w) (next (latest w) c.args.command.now) c.in_ok-state.field-0 c.in-Some.state
    (λ state. with_commit state w) _ (search rules) (search rules) (search rules)
