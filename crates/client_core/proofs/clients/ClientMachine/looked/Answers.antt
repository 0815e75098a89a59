use Rattle.std.proofs.Common.{◌≡◌, refl, sym, subst, ℕ, Bool}
use Rattle.answer_cache.specs.Cache.{answer_in}
use Rattle.client_core.specs.Client.{Client, asked_by}
use Rattle.client_core.specs.Asking as does
use Rattle.client_core.specs.declared.stages.Stage.{Stage}
use Rattle.client_core.specs.declared.stages.Stage.TheVariants as stage
use Rattle.client_core.proofs.Staging.{client, same_finds}
use Rattle.client_core.proofs.clients.ClientMachine.looked.Goals as goal

pub returns-then-is_up : goal.returns-then-is_up
returns-then-is_up c =
    let of : Stage → Client = client c.self.inside.cache c.self.inside.sequence c.self.inside.frame c.self.inside.is_linked in
    let at = c.in-Looking.ensures.value in
    let was : c.self.inside.stage ≡ stage.Looking c.in-Looking.asking = cc in
    let found : does.looks c.args.is_up c.in-Looking.asking c.find.result (of (stage.Looking c.in-Looking.asking)) c.find.new.self =
    subst (λ (up : Bool). does.looks up c.in-Looking.asking c.find.result (of (stage.Looking c.in-Looking.asking)) c.find.new.self)
    (sym c.if-is_up.true)
    (same_finds c.self.inside.cache c.self.inside.sequence c.self.inside.frame c.self.inside.is_linked c.replace.new.dest
    (stage.Looking c.in-Looking.asking) c.in-Looking.asking c.find.result c.find.new.self
    (answer_in (asked_by c.in-Looking.asking) c.self.inside.cache) c.find.ensures) in
    subst (λ (old : Client). does.Looks c.args.is_up c.find.result old c.find.new.self) c.self.view_is
    (subst (λ (s : Stage). does.Looks c.args.is_up c.find.result (of s) c.find.new.self) (sym was) found)
