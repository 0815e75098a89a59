use Rattle.std.proofs.Common.{◌++◌, ◌∙◌, refl, ap}
use Rattle.std.proofs.lemmas.Result.{err_from_is_err_and}
use Rattle.app_registry.specs.Registry.{RegistryLists}
use Rattle.desk_state.specs.DeskState.{DeskState}
use Rattle.desk_state.specs.Next.{next}
use Rattle.line_script.specs.declared.steps.Step.TheVariants.{Command}
use Rattle.private_sharing.specs.Shares.{settled}
use Rattle.script_replies.specs.Reply.{done_text}
use Rattle.script_replies.proofs.Refusing.{refused-rule}
use Rattle.local_runs.proofs.Obeying.{hands-all, hands-none, answers-refusal, answers-command, refuses-unflushed}
use Rattle.local_runs.proofs.Obeying.{disk-unflushed}
use Rattle.local_runs.proofs.local_script.LocalScript.obey.Goals as goal

pub returns-in-Err-clause-step : goal.returns-in-Err-clause-step
returns-in-Err-clause-step g c =
    answers-refusal (g.K.Sink.taken c.args.sink.now) c.args.self.now.answers c.print_refusal.new.out c.args.keeper.now.desk
    c.args.self.now.shares c.args.command.now c.in-Err.refusal
    (refused-rule c.args.keeper.now.desk c.args.command.now c.in-Err.refusal c.in_ok-print_refusal-in-Err.ensures.rule
    c.in-Err.ensures.refused)
    c.in_ok-print_refusal-in-Err.ensures.ok

pub returns-in_err-print_refusal-in-Err-clause-step : goal.returns-in_err-print_refusal-in-Err-clause-step
returns-in_err-print_refusal-in-Err-clause-step g c =
    let exit = err_from_is_err_and c.from_residual.result c.from_residual.ensures.1 in
    rw (exit.1, exit.2) (
      hands-none (g.K.Sink.taken c.args.sink.now) c.args.self.now.answers _ c.in_err-print_refusal-in-Err.ensures.err,
      refl,
    )

pub returns-in_err-flush-clause-step : goal.returns-in_err-flush-clause-step
returns-in_err-flush-clause-step g c =
    let exit = err_from_is_err_and c.from_residual-in_err-flush.result c.from_residual-in_err-flush.ensures.1 in
    rw (exit.1, exit.2)
    (refuses-unflushed _ _ c.args.self.now c.flush.new.self _ _ (Command c.args.command.now) c.in_err-flush.field-0.0
    c.in_err-flush.ensures.flush)

pub returns-in_err-flush-clause-disk : goal.returns-in_err-flush-clause-disk
returns-in_err-flush-clause-disk g c =
    let exit = err_from_is_err_and c.from_residual-in_err-flush.result c.from_residual-in_err-flush.ensures.1 in
    rw (exit.1, exit.2) (disk-unflushed _ _ c.args.self.now c.flush.new.self c.in_err-flush.field-0.0 c.in_err-flush.ensures.flush _)

pub returns-in_err-shares-clause-step : goal.returns-in_err-shares-clause-step
returns-in_err-shares-clause-step g c =
    let exit = err_from_is_err_and c.from_residual-in_err-shares.result c.from_residual-in_err-shares.ensures.1 in
    rw (exit.1, exit.2) (
      hands-all _ _ c.args.self.now.answers _ c.in_ok-flush.ensures.flush.0 c.in_ok-flush.ensures.flush.1,
      refl,
    )

pub returns-in_err-shares-clause-sink : goal.returns-in_err-shares-clause-sink
returns-in_err-shares-clause-sink g c =
    let exit = err_from_is_err_and c.from_residual-in_err-shares.result c.from_residual-in_err-shares.ensures.1 in
    rw (exit.1, exit.2) c.in_ok-flush.ensures.count

pub returns-in_err-shares-clause-disk : goal.returns-in_err-shares-clause-disk
returns-in_err-shares-clause-disk g c =
    let exit = err_from_is_err_and c.from_residual-in_err-shares.result c.from_residual-in_err-shares.ensures.1 in
    rw (exit.1, exit.2) refl

pub returns-in_err-print_done-clause-step : goal.returns-in_err-print_done-clause-step
returns-in_err-print_done-clause-step g c =
    let exit = err_from_is_err_and c.from_residual-in_err-print_done.result c.from_residual-in_err-print_done.ensures.1 in
    rw (exit.1, exit.2) (
      hands-all _ _ c.args.self.now.answers _ c.in_ok-flush.ensures.flush.0
          (c.in_err-print_done.ensures.err ∙ c.in_ok-flush.ensures.flush.1),
      refl,
    )

pub returns-in-Ok-commit-clause-step : goal.returns-in-Ok-commit-clause-step
returns-in-Ok-commit-clause-step g c =
    let flushed = c.in_ok-flush.ensures.flush in
    let then = c.desk-2.ensures ∙ c.in-Ok.ensures.desk in
    let registry = c.registry.ensures.registry
    ∙ ap (λ (desk : DeskState). desk.registry) (c.desk.ensures ∙ c.in-Ok.ensures.desk) in
    let shares = c.in_ok-shares.ensures
    ∙ (ap (λ (registry : RegistryLists). settled registry c.flush.new.self.shares) registry
    ∙ ap (settled (next c.args.keeper.now.desk c.args.command.now).registry) flushed.2.shares) in
    let commit = c.commit.ensures.commit ∙ ap (λ (desk : DeskState). desk.commit) then in
    let erased = c.erased.ensures ∙ c.in-Ok.ensures.erased in
    answers-command _ _ c.args.self.now.answers c.flush.new.self.answers c.print_done.new.out c.args.keeper.now.desk
    c.commit-2.new.self.desk c.args.self.now.shares c.in_ok-shares.shares c.args.command.now c.in-Ok.ensures.accepted flushed.0 flushed.1
    (c.in_ok-print_done.ensures.ok ∙ (λ i. c.flush.new.self.answers ++ done_text c.args.command.now (commit i) (erased i)))
    (c.in-Ok-commit.ensures.desk ∙ c.in-Ok.ensures.desk) shares

pub returns-in_err-flush-clause-sink : goal.returns-in_err-flush-clause-sink
returns-in_err-flush-clause-sink g c =
    let exit = err_from_is_err_and c.from_residual-in_err-flush.result c.from_residual-in_err-flush.ensures.1 in
    rw (exit.1, exit.2) c.in_err-flush.ensures.count

pub returns-in_err-print_done-clause-sink : goal.returns-in_err-print_done-clause-sink
returns-in_err-print_done-clause-sink g c =
    let exit = err_from_is_err_and c.from_residual-in_err-print_done.result c.from_residual-in_err-print_done.ensures.1 in
    rw (exit.1, exit.2) c.in_ok-flush.ensures.count

pub returns-in_err-print_done-clause-disk : goal.returns-in_err-print_done-clause-disk
returns-in_err-print_done-clause-disk g c =
    let exit = err_from_is_err_and c.from_residual-in_err-print_done.result c.from_residual-in_err-print_done.ensures.1 in
    rw (exit.1, exit.2) refl
