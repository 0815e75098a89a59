use Rattle.std.proofs.Common.{◌≡◌, sym, subst, true, Bool, rules}
use Rattle.client_core.specs.Listening.{is_fit}
use Rattle.client_core.specs.Agent.{Agent}
use Rattle.client_core.specs.Agent as does
use Rattle.client_core.specs.declared.stages.AgentStage.{AgentStage}
use Rattle.client_core.specs.declared.stages.AgentStage.TheVariants as stage
use Rattle.client_core.proofs.Staging.{agent, same_first, same_next}
use Rattle.client_core.proofs.agents.AgentMachine.came.Goals as goal

pub returns-else-not-takes : goal.returns-else-not-takes
returns-else-not-takes c =
    let of : AgentStage → Agent = agent c.self.inside.kind c.self.inside.frame in
    let at = c.in-Registering.ensures.value in
    let ear = c.in-Registering.ear in
    let bytes = c.args.piece.now in
    let was : c.self.inside.stage ≡ stage.Registering ear = cc in
    let fits : is_fit ear.bytes bytes ≡ true = search rules in
    let heard : does.comes_first (is_fit ear.bytes bytes) ear bytes c.hear_first.result (of (stage.Registering ear)) c.hear_first.new.self =
    subst (λ (fit : Bool). does.comes_first fit ear bytes c.hear_first.result (of (stage.Registering ear)) c.hear_first.new.self) (sym fits)
    (same_first c.self.inside.kind c.self.inside.frame c.replace.new.dest (stage.Registering ear) c.hear_first.result
    c.hear_first.new.self ear bytes c.hear_first.ensures) in
    subst (λ (old : Agent). does.Comes bytes c.hear_first.result old c.hear_first.new.self) c.self.view_is
    (subst (λ (s : AgentStage). does.Comes bytes c.hear_first.result (of s) c.hear_first.new.self) (sym was) heard)

pub returns-else-not-takes-2 : goal.returns-else-not-takes-2
returns-else-not-takes-2 c =
    let of : AgentStage → Agent = agent c.self.inside.kind c.self.inside.frame in
    let at = c.in-Listening.ensures.value in
    let asked = c.in-Listening.asked in
    let ear = c.in-Listening.ear in
    let bytes = c.args.piece.now in
    let was : c.self.inside.stage ≡ stage.Listening asked ear = cc in
    let fits : is_fit ear.bytes bytes ≡ true = search rules in
    let heard : does.comes_next (is_fit ear.bytes bytes) asked ear bytes c.hear_next.result (of (stage.Listening asked ear)) c.hear_next.new.self =
    subst (λ (fit : Bool). does.comes_next fit asked ear bytes c.hear_next.result (of (stage.Listening asked ear)) c.hear_next.new.self) (sym fits)
    (same_next c.self.inside.kind c.self.inside.frame c.replace.new.dest (stage.Listening asked ear) c.hear_next.result
    c.hear_next.new.self asked ear bytes c.hear_next.ensures) in
    subst (λ (old : Agent). does.Comes bytes c.hear_next.result old c.hear_next.new.self) c.self.view_is
    (subst (λ (s : AgentStage). does.Comes bytes c.hear_next.result (of s) c.hear_next.new.self) (sym was) heard)
