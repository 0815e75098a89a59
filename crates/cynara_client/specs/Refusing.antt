-- After which refusals a client keeps its link.
use Rattle.std.specs.Prelude.{Bool, true, false}
use Rattle.cynara_client.specs.declared.refusals.ClientRefusal.{ClientRefusal}
use Rattle.cynara_client.specs.declared.refusals.ClientRefusal.TheVariants as refusal

-- the refusals by the service, after which the client keeps its link
abbrev pub keeps_link : ClientRefusal → Bool
keeps_link (refusal.NotResolved commit kind) = true
keeps_link (refusal.NoAgent commit kind) = true
keeps_link (refusal.AgentGone commit number) = true
keeps_link (refusal.AgentFull commit kind most) = true
keeps_link other = false
