use Rattle.std.proofs.Common.{Ok, ap, ◌∙◌}
use Rattle.client_core.specs.declared.steps.Step.{Step}
use Rattle.admin_client.proofs.Sending.{one_of_them, no_memory}
use Rattle.admin_client.proofs.beginning.begun_by.Goals as goal

pub no_room-requires : goal.no_room-requires
no_room-requires c = no_memory c.in-Over.fault c.requires.0 (c.requires.1 ∙ ap (λ (s : Step). Ok s) c.in-Over.is)

pub unreachable-requires : goal.unreachable-requires
unreachable-requires c =
    one_of_them c.args.step c.requires.0 c.requires.1 c.in_default.not-Send c.in_default.not-Dial c.in_default.not-Over
