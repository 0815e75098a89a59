use Rattle.std.proofs.Common.{subst}
use Rattle.link_ports.specs.Told.{ChangesTold}
use Rattle.cynara_keys.specs.Key.{Question}
use Rattle.client_door.specs.Recording.{with_noted}
use Rattle.client_door.proofs.Recorded.{notes_by_agent, notes_of_none}
use Rattle.client_door.proofs.talking.Talk.tell.Goals as goal

pub returns-in-Ok-clause-noted : goal.returns-in-Ok-clause-noted
returns-in-Ok-clause-noted g c cause tells since before fits =
    let told = c.in-Ok.ensures cause tells since before fits in (
      told.0,
      told.1,
      notes_by_agent before told.0 cause c.args.check.now.question c.args.reply c.in-Some.decision c.in-Some.ensures
          (subst (λ (question : Question). ChangesTold before
          (with_noted (record { question = question; decision = c.in-Some.decision; cause = cause })) told.0) c.borrowed.ensures told.2),
    )

pub returns-in-None-clause-noted : goal.returns-in-None-clause-noted
returns-in-None-clause-noted g c cause tells since before fits =
    (before, fits, notes_of_none before cause c.args.check.now.question c.args.reply c.in-None.ensures)
