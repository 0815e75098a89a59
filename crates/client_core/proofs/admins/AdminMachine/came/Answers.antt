use Rattle.std.proofs.Common.{◌≡◌, sym, subst, true, Bool, rules}
use Rattle.client_core.specs.Listening.{is_fit}
use Rattle.client_core.specs.Admin.{Admin}
use Rattle.client_core.specs.Admin as does
use Rattle.client_core.specs.declared.stages.AdminStage.{AdminStage}
use Rattle.client_core.specs.declared.stages.AdminStage.TheVariants as stage
use Rattle.client_core.proofs.Staging.{admin, admin_reply}
use Rattle.client_core.proofs.admins.AdminMachine.came.Goals as goal

pub returns-else-not-takes : goal.returns-else-not-takes
returns-else-not-takes c =
    let of : AdminStage → Admin = admin c.self.inside.sequence c.self.inside.frame c.self.inside.is_linked in
    let at = c.in-Waiting.ensures.value in
    let exchange = c.in-Waiting.exchange in
    let ear = c.in-Waiting.ear in
    let bytes = c.args.piece.now in
    let was : c.self.inside.stage ≡ stage.Waiting exchange ear = cc in
    let fits : is_fit ear.bytes bytes ≡ true = search rules in
    let heard : does.comes (is_fit ear.bytes bytes) exchange ear bytes c.hear.result (of (stage.Waiting exchange ear)) c.hear.new.self =
    subst (λ (fit : Bool). does.comes fit exchange ear bytes c.hear.result (of (stage.Waiting exchange ear)) c.hear.new.self) (sym fits)
    (admin_reply c.self.inside.sequence c.self.inside.frame c.self.inside.is_linked c.replace.new.dest
    (stage.Waiting exchange ear) exchange c.hear.result c.hear.new.self ear bytes c.hear.ensures) in
    subst (λ (old : Admin). does.Comes bytes c.hear.result old c.hear.new.self) c.self.view_is
    (subst (λ (s : AdminStage). does.Comes bytes c.hear.result (of s) c.hear.new.self) (sym was) heard)
