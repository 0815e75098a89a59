use Rattle.std.proofs.Common.{ap, ◌∙◌, sym, take}
use Rattle.std.proofs.lemmas.List.Sums.{fold_more}
use Rattle.desk_ports.specs.DiskCalls.{fresh_state, after_call, after_calls}
use Rattle.desk_ports.specs.DiskContent.{content_after}
use Rattle.desk_ports.proofs.Contents.{current-after_call}
use Rattle.desk_ports.proofs.disk_replays.content_of.Goals as goal

pub loop-made-preserved : goal.loop-made-preserved
loop-made-preserved c =
    let state = after_calls c.args.files.now (take c.loop-made.made-index c.args.calls.now) in
    c.next_content-content.ensures
    ∙ ap (content_after c.made-item.result c.args.name.now) c.loop-made.invariant
    ∙ sym (current-after_call state c.made-item.result c.args.name.now)
    ∙ ap (λ made. (after_call state made).current c.args.name.now) c.made-item.is
    ∙ sym (ap (λ after. after.current c.args.name.now)
    (fold_more after_call (fresh_state c.args.files.now) c.args.calls.now c.loop-made.made-index c.made-item.result c.loop-made-test.true))
