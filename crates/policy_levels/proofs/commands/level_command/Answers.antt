use Rattle.std.proofs.Common.{sym, subst}
use Rattle.desk_state.specs.Next.{next}
use Rattle.desk_state.specs.declared.commands.Command.{Command}
use Rattle.bucket_store.specs.Database.{Database}
use Rattle.bucket_store.specs.WellFormed.{IsWellFormed}
use Rattle.policy_levels.specs.Command.{uid_of}
use Rattle.policy_levels.specs.Isolation.{ConcernsAlone}
use Rattle.policy_levels.proofs.Commanding.{command-alone}
use Rattle.policy_levels.proofs.commands.level_command.Goals as goal

pub returns-in-Ok-clause-alone : goal.returns-in-Ok-clause-alone
returns-in-Ok-clause-alone c =
    let desk = c.args.desk.now in
    let request = c.args.request.now in
    let formed : IsWellFormed desk.database =
    subst IsWellFormed c.database.ensures.database c.buckets-database.ensures.well_formed in
    subst (λ command. ConcernsAlone (uid_of request) desk.database (next desk command).database) (sym c.in-Ok.ensures)
    (command-alone desk request formed.keys_rise)
