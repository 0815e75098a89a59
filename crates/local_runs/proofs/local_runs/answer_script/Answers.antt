use Rattle.std.proofs.Common.{List, ℕ, Option, Bool, false, subst, sym, refl, ap, ◌∙◌, ◌+◌, Ok}
use Rattle.std.proofs.lemmas.Result.{err_from_is_err_and}
use Rattle.script_replies.specs.Folded.{AreFolded}
use Rattle.folder_runs.specs.Keeping.{KeepsSteps, KeepsSoFar}
use Rattle.local_runs.specs.parts.Local.{Turns}
use Rattle.local_runs.specs.parts.Progress.{GoesOn}
use Rattle.local_runs.proofs.Progressing.{goes-start, goes-next}
use Rattle.local_runs.proofs.Answering.{Answers-nothing, Answers-done, Answers-unended, Answers-stopped}
use Rattle.folder_runs.proofs.Keeping.{so-far-next, so-far-ends, keeps-rest}
use Rattle.folder_runs.proofs.Mounting.{keeps-none}
use Rattle.local_runs.proofs.Stopping.{kept-at}
use Rattle.local_runs.proofs.local_runs.answer_script.Goals as goal

pub returns-in_err-lines-clause-answered : goal.returns-in_err-lines-clause-answered
returns-in_err-lines-clause-answered g c =
    let disk = c.args.keeper.now.vault.disk.now in
    let exit = err_from_is_err_and c.from_residual.result c.from_residual.ensures.1 in
    rw (exit.1, exit.2)
    (Answers-nothing
    (KeepsSteps g.D.Disk.state g.D.Disk.moment g.D.Disk.left_since disk disk c.args.keeper.now.desk c.args.keeper.now.vault.held)
    c.args.keeper.now.desk (g.S.Source.left c.args.source.now)
    (g.K.Sink.taken c.args.sink.now) c.args.script.now.answers
    c.requires.answers
    (keeps-none g.D.Disk.state g.D.Disk.moment g.D.Disk.left_since g.D.Disk.faults disk disk c.args.keeper.now.desk c.args.keeper.now.vault.held
    (λ left. g.met.D.Disk.only_now disk left)))

pub lines-init : goal.lines-init
lines-init g c =
    let disk = c.args.keeper.now.vault.disk.now in
    let desk = c.args.keeper.now.desk in
    let held = c.args.keeper.now.vault.held in
    let left = g.S.Source.left c.args.source.now in
    let taken = g.K.Sink.taken c.args.sink.now in
    let Kept = KeepsSoFar g.D.Disk.state g.D.Disk.moment g.D.Disk.left_since disk disk desk held desk held in
    record {
      goes = subst (λ lines. GoesOn Kept desk left left taken taken c.args.script.now desk lines)
          (sym c.in_ok-lines.ensures)
          (goes-start Kept desk left taken c.args.script.now c.requires.reader c.requires.answers c.requires.shares
          (λ begins. (
            begins,
            (keeps-none g.D.Disk.state g.D.Disk.moment g.D.Disk.left_since g.D.Disk.faults disk disk desk held
                (λ left. g.met.D.Disk.only_now disk left) begins).1,
          )));
      decided = c.requires.decided;
      folded = subst (λ folded. AreFolded folded desk c.args.script.now.shares) (sym c.requires.rules)
          (record { table = tt; given = tt; indexed = tt });
      source = refl;
      sink = refl;
      disk = refl;
      same_disk = refl;
    }

pub returns-in_err-answer_next-clause-answered : goal.returns-in_err-answer_next-clause-answered
returns-in_err-answer_next-clause-answered g c =
    let exit = err_from_is_err_and c.from_residual-in_err-answer_next.result c.from_residual-in_err-answer_next.ensures.1 in
    let goes = c.lines.invariant.goes in
    let first = c.args.keeper.now in
    let mid = c.lines.keeper in
    let new = c.answer_next.new.keeper in
    let ending = c.in_err-answer_next.field-0.0 in
    rw (exit.1, exit.2)
    (Answers-stopped
    (KeepsSteps g.D.Disk.state g.D.Disk.moment g.D.Disk.left_since first.vault.disk.now new.vault.disk.now first.desk first.vault.held)
    first.desk goes.0 goes.1.0 c.answer_next.new.self new.desk c.answer_next.new.lines ending c.in_err-answer_next.ensures.turn
    (kept-at g.D.Disk.state g.D.Disk.moment g.D.Disk.left_since first.vault.disk.now mid.vault.disk.now new.vault.disk.now
    first.desk first.vault.held mid.vault.held new.vault.held mid.desk new.desk goes.0.steps goes.1.1 goes.1.0.state
    _ _ _ _ c.lines.script c.answer_next.new.self c.lines.lines c.answer_next.new.lines
    (λ t left le. g.met.D.Disk.counts_now new.vault.disk.now t left le) ending c.in_err-answer_next.ensures.turn
    c.in_err-answer_next.ensures.keeper))

pub lines-preserved : goal.lines-preserved
lines-preserved g c =
    let goes = c.lines.invariant.goes in
    let first = c.args.keeper.now in
    let mid = c.lines.keeper in
    let new = c.answer_next.new.keeper in
    let turn = subst (λ found. Turns (g.S.Source.left c.lines.source) (g.S.Source.left c.answer_next.new.source)
    (g.K.Sink.taken c.lines.sink) (g.K.Sink.taken c.answer_next.new.sink) c.lines.script c.answer_next.new.self
    mid.desk new.desk c.lines.lines c.answer_next.new.lines (Ok found))
    c.if-branch.true c.in_ok-answer_next.ensures.turn in
    record {
      goes = goes-next goes.0 goes.1.0 turn
          (KeepsSoFar g.D.Disk.state g.D.Disk.moment g.D.Disk.left_since first.vault.disk.now new.vault.disk.now
          first.desk first.vault.held new.desk new.vault.held)
          (so-far-next g.D.Disk.state g.D.Disk.moment g.D.Disk.left_since first.vault.disk.now mid.vault.disk.now
          new.vault.disk.now first.desk first.vault.held mid.vault.held new.vault.held mid.desk new.desk goes.0.steps goes.1.1
          goes.1.0.state turn.answers.step turn.answers.done.state c.in_ok-answer_next.ensures.keeper);
      decided = c.in_ok-answer_next.ensures.decided;
      folded = c.answer_next.ensures.folded;
      source = c.in_ok-answer_next.ensures.source ∙ c.lines.invariant.source;
      sink = c.in_ok-answer_next.ensures.sink ∙ c.lines.invariant.sink;
      disk = c.in_ok-answer_next.ensures.disk ∙ c.lines.invariant.disk;
      same_disk = c.answer_next.ensures.same_disk ∙ c.lines.invariant.same_disk;
    }

pub returns-then-in_block-clause-answered : goal.returns-then-in_block-clause-answered
returns-then-in_block-clause-answered g c =
    let goes = c.lines.invariant.goes in
    let first = c.args.keeper.now in
    let mid = c.lines.keeper in
    let new = c.answer_next.new.keeper in
    let Turned : Option (List ℕ) → Bool → Type 0 = λ taken found. Turns (g.S.Source.left c.lines.source)
    (g.S.Source.left c.answer_next.new.source) (g.K.Sink.taken c.lines.sink) taken c.lines.script c.answer_next.new.self
    mid.desk new.desk c.lines.lines c.answer_next.new.lines (Ok found) in
    let turn = subst (λ taken. Turned taken false) (sym c.note_open_block.ensures.taken)
    (subst (Turned (g.K.Sink.taken c.answer_next.new.sink)) c.if-branch.false c.in_ok-answer_next.ensures.turn) in
    Answers-unended
    (KeepsSteps g.D.Disk.state g.D.Disk.moment g.D.Disk.left_since first.vault.disk.now new.vault.disk.now first.desk first.vault.held)
    first.desk goes.0 goes.1.0 turn (c.number-number.result + 1) (ap (λ number. number + 1) c.number-number.ensures)
    (sym c.in_block.ensures ∙ c.if-in_block.true)
    (keeps-rest g.D.Disk.state g.D.Disk.moment g.D.Disk.left_since first.vault.disk.now new.vault.disk.now first.desk
    first.vault.held new.vault.held new.desk goes.0.steps
    (so-far-ends g.D.Disk.state g.D.Disk.moment g.D.Disk.left_since first.vault.disk.now mid.vault.disk.now new.vault.disk.now
    first.desk first.vault.held mid.vault.held new.vault.held mid.desk new.desk goes.0.steps goes.1.1 goes.1.0.state turn.state
    c.in_ok-answer_next.ensures.keeper)
    (goes.1.0.state ∙ sym turn.state))

pub returns-clause-answered : goal.returns-clause-answered
returns-clause-answered g c =
    let goes = c.lines.invariant.goes in
    let first = c.args.keeper.now in
    let mid = c.lines.keeper in
    let new = c.answer_next.new.keeper in
    let turn = subst (λ found. Turns (g.S.Source.left c.lines.source) (g.S.Source.left c.answer_next.new.source)
    (g.K.Sink.taken c.lines.sink) (g.K.Sink.taken c.answer_next.new.sink) c.lines.script c.answer_next.new.self
    mid.desk new.desk c.lines.lines c.answer_next.new.lines (Ok found))
    c.if-branch.false c.in_ok-answer_next.ensures.turn in
    Answers-done
    (KeepsSteps g.D.Disk.state g.D.Disk.moment g.D.Disk.left_since first.vault.disk.now new.vault.disk.now first.desk first.vault.held)
    first.desk goes.0 goes.1.0 turn (sym c.in_block.ensures ∙ c.if-in_block.false)
    (keeps-rest g.D.Disk.state g.D.Disk.moment g.D.Disk.left_since first.vault.disk.now new.vault.disk.now first.desk
    first.vault.held new.vault.held new.desk goes.0.steps
    (so-far-ends g.D.Disk.state g.D.Disk.moment g.D.Disk.left_since first.vault.disk.now mid.vault.disk.now new.vault.disk.now
    first.desk first.vault.held mid.vault.held new.vault.held mid.desk new.desk goes.0.steps goes.1.1 goes.1.0.state turn.state
    c.in_ok-answer_next.ensures.keeper)
    (goes.1.0.state ∙ sym turn.state))
