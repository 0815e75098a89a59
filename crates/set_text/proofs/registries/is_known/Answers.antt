use Rattle.std.proofs.Common.{◌≡◌, ℕ, Bool, true, false, cond, Some, None, is_none, refl, sym, ap, ◌∙◌}
use Rattle.app_registry.specs.Refusal.{unknown_scope}
use Rattle.app_registry.specs.Registry.{has_user}
use Rattle.app_registry.specs.declared.refusals.RegistryRefusal.TheVariants.{UnknownUser}
use Rattle.set_text.proofs.registries.is_known.Goals as goal

known : (uid : ℕ) (b : Bool) → b ≡ is_none (cond b None (Some (UnknownUser uid)))
known uid true = refl
known uid false = refl

pub returns-in-One : goal.returns-in-One
returns-in-One c =
    let users = c.args.users.now in
    c.has_user.ensures ∙ known c.in-One.uid (has_user users c.in-One.uid)
    ∙ sym (ap (λ scope. is_none (unknown_scope users scope)) c.in-One.is)
