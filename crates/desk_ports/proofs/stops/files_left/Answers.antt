use Rattle.std.proofs.Common.{ap, ◌∙◌}
use Rattle.std.specs.List.{list_any}
use Rattle.desk_ports.specs.DiskCalls.{after_calls}
use Rattle.desk_ports.specs.Stopping.{meant_bytes, picked_map}
use Rattle.desk_ports.proofs.Picks.{touched-listed, picked_map-untouched}
use Rattle.desk_ports.proofs.stops.files_left.Goals as goal

pub returns-clause-left : goal.returns-clause-left
returns-clause-left c =
    let state = after_calls c.args.files.now c.args.calls.now in record {
      touched = c.in_ok-touched.touched.items;
      rising = c.in_ok-touched.ensures.rising;
      all = touched-listed _ _ (λ name. ap (list_any _) c.in_ok-touched.ensures.keys ∙ c.in_ok-names.ensures c.args.files.now name);
      held = λ name. c.in_ok-left.ensures name ∙ c.in_ok-held.ensures name
          ∙ ap (λ names. picked_map c.args.pick (meant_bytes c.args.calls.now state.durable) state.durable names name) c.deref.ensures.value;
    }

pub returns-clause-may : goal.returns-clause-may
returns-clause-may c =
    let state = after_calls c.args.files.now c.args.calls.now in
    picked_map-untouched state.touched c.in_ok-touched.touched.items c.args.pick (meant_bytes c.args.calls.now state.durable) state.durable _
    (touched-listed _ _ (λ name. ap (list_any _) c.in_ok-touched.ensures.keys ∙ c.in_ok-names.ensures c.args.files.now name))
    (λ name. c.in_ok-left.ensures name ∙ c.in_ok-held.ensures name
    ∙ ap (λ names. picked_map c.args.pick (meant_bytes c.args.calls.now state.durable) state.durable names name) c.deref.ensures.value)
