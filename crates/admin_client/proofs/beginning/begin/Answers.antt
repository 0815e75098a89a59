use Rattle.std.proofs.Common.{sym, subst, Result}
use Rattle.client_core.specs.Admin as does
use Rattle.client_core.specs.declared.steps.Step.{Step}
use Rattle.admin_client.proofs.Sending.{begun}
use Rattle.admin_client.proofs.beginning.begin.Goals as goal

pub begun_by-requires : goal.begun_by-requires
begun_by-requires c = begun c.args.message.now c.args.machine.now c.say.new.self c.requires c.in-Ok.step c.in-Ok.ensures

pub returns-in-Ok : goal.returns-in-Ok
returns-in-Ok c =
    subst (λ (answer : Result Step _). does.Says c.args.message.now answer c.args.machine.now c.say.new.self) (sym c.begun_by.ensures)
    c.in-Ok.ensures
