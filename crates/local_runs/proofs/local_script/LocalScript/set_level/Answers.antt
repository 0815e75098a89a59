use Rattle.std.proofs.Common.{◌≡◌, refl, sym, ap, subst, ◌∙◌, None}
use Rattle.std.proofs.lemmas.Result.{err_from_is_err_and}
use Rattle.desk_state.specs.DeskState.{DeskState}
use Rattle.desk_state.specs.declared.commands.Command.{Command}
use Rattle.line_script.specs.declared.steps.Step.TheVariants as step
use Rattle.policy_levels.specs.Refusal.{fault, Refuses}
use Rattle.script_replies.specs.Reply.{after}
use Rattle.folder_runs.specs.Keeping.{Moves}
use Rattle.local_runs.proofs.Obeying.{hands-none}
use Rattle.local_runs.proofs.Stepping.{level-broken, answers-level-refusal, level-after, level-step}
use Rattle.local_runs.proofs.local_script.LocalScript.set_level.Goals as goal

pub returns-in-Err-clause-step : goal.returns-in-Err-clause-step
returns-in-Err-clause-step g c =
    let desk = c.args.keeper.now.desk in
    let request = c.args.request.now in
    answers-level-refusal (g.K.Sink.taken c.args.sink.now) c.args.self.now.answers c.print_level_refusal.new.out desk
    c.args.self.now.shares request c.in-Err.refusal
    (level-broken desk request c.in-Err.refusal c.in_ok-print_level_refusal-in-Err.ensures.rule
    (subst (λ (desk : DeskState). Refuses c.in-Err.refusal (fault desk request)) c.desk.ensures c.in-Err.ensures.refused))
    c.in_ok-print_level_refusal-in-Err.ensures.ok

pub returns-in_err-print_level_refusal-in-Err-clause-step : goal.returns-in_err-print_level_refusal-in-Err-clause-step
returns-in_err-print_level_refusal-in-Err-clause-step g c =
    let exit = err_from_is_err_and c.from_residual.result c.from_residual.ensures.1 in
    rw (exit.1, exit.2) (
      hands-none (g.K.Sink.taken c.args.sink.now) c.args.self.now.answers _ c.in_err-print_level_refusal-in-Err.ensures.err,
      refl,
    )

pub returns-clause-step : goal.returns-clause-step
returns-clause-step g c =
    let desk = c.args.keeper.now.desk in
    let request = c.args.request.now in
    let accepted : fault desk request ≡ None =
    subst (λ (desk : DeskState). fault desk request ≡ None) c.desk.ensures c.in-Ok.ensures.accepted in
    level-step desk request accepted _ _ c.args.self.now.answers c.obey.new.self.answers c.obey.new.keeper.desk
    c.args.self.now.shares c.obey.new.self.shares c.in-Ok.command c.in-Ok.ensures.command c.obey.result c.obey.ensures.step

pub returns-clause-keeper : goal.returns-clause-keeper
returns-clause-keeper g c =
    let desk = c.args.keeper.now.desk in
    let request = c.args.request.now in
    let accepted : fault desk request ≡ None =
    subst (λ (desk : DeskState). fault desk request ≡ None) c.desk.ensures c.in-Ok.ensures.accepted in
    let same = ap (λ (command : Command). after desk (step.Command command)) c.in-Ok.ensures.command
    ∙ sym (level-after desk request accepted) in
    subst (λ (tried : DeskState). Moves g.D.Disk.state g.D.Disk.moment g.D.Disk.left_since c.args.keeper.now.vault.disk.now
    c.obey.new.keeper.vault.disk.now desk c.args.keeper.now.vault.held c.obey.new.keeper.desk c.obey.new.keeper.vault.held tried c.obey.result)
    same c.obey.ensures.keeper
