use Rattle.std.proofs.Common.{◌≡◌, sym, subst, true, Bool, rules}
use Rattle.client_core.specs.Listening.{is_fit}
use Rattle.client_core.specs.Client.{Client}
use Rattle.client_core.specs.Asking as does
use Rattle.client_core.specs.declared.stages.Stage.{Stage}
use Rattle.client_core.specs.declared.stages.Stage.TheVariants as stage
use Rattle.client_core.proofs.Staging.{client, same_reply}
use Rattle.client_core.proofs.clients.ClientMachine.came.Goals as goal

pub returns-else-not-takes : goal.returns-else-not-takes
returns-else-not-takes c =
    let of : Stage → Client = client c.self.inside.cache c.self.inside.sequence c.self.inside.frame c.self.inside.is_linked in
    let at = c.in-Waiting.ensures.value in
    let asking = c.in-Waiting.asking in
    let ear = c.in-Waiting.ear in
    let bytes = c.args.piece.now in
    let was : c.self.inside.stage ≡ stage.Waiting asking ear = cc in
    let fits : is_fit ear.bytes bytes ≡ true = search rules in
    let heard : does.comes (is_fit ear.bytes bytes) asking ear bytes c.hear.result (of (stage.Waiting asking ear)) c.hear.new.self =
    subst (λ (fit : Bool). does.comes fit asking ear bytes c.hear.result (of (stage.Waiting asking ear)) c.hear.new.self) (sym fits)
    (same_reply c.self.inside.cache c.self.inside.sequence c.self.inside.frame c.self.inside.is_linked c.replace.new.dest
    (stage.Waiting asking ear) asking c.hear.result c.hear.new.self ear bytes c.hear.ensures) in
    subst (λ (old : Client). does.Comes bytes c.hear.result old c.hear.new.self) c.self.view_is
    (subst (λ (s : Stage). does.Comes bytes c.hear.result (of s) c.hear.new.self) (sym was) heard)
