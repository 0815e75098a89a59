use Rattle.std.proofs.Common.{is_some, take, ap, sym, ◌∙◌}
use Rattle.std.proofs.lemmas.List.Sums.{fold_more}
use Rattle.desk_ports.specs.DiskCalls.{fresh_state, after_call, after_calls}
use Rattle.desk_ports.specs.parts.NamesHeld.{is_held_after}
use Rattle.desk_ports.proofs.Contents.{current-after_call}
use Rattle.desk_ports.proofs.Holding.{is_some-content_after}
use Rattle.desk_ports.proofs.disk_replays.held_names.Goals as goal

pub loop-made-preserved : goal.loop-made-preserved
loop-made-preserved c = λ name.
    let state = after_calls c.args.files.now (take c.loop-made.made-index c.args.calls.now) in
    c.in_ok-follow_name.ensures name
    ∙ ap (is_held_after c.made-item.result name) (c.loop-made.invariant name)
    ∙ sym (is_some-content_after c.made-item.result name (state.current name))
    ∙ sym (ap is_some (current-after_call state c.made-item.result name))
    ∙ ap (λ made. is_some ((after_call state made).current name)) c.made-item.is
    ∙ sym (ap (λ after. is_some (after.current name))
    (fold_more after_call (fresh_state c.args.files.now) c.args.calls.now c.loop-made.made-index c.made-item.result c.loop-made-test.true))
