use Rattle.std.proofs.Common.{take, refl, subst, ◌∙◌}
use Rattle.desk_ports.specs.Content.{Appended, AppendedPart}
use Rattle.run_endings.specs.Outside.{sink_seen}
use Rattle.run_endings.proofs.Trying.{IsCut-take}
use Rattle.sample_runs.proofs.Telling.{unsaid}
use Rattle.sample_runs.proofs.sample_runs.run_sample.Goals as goal

pub returns-in-Ok-write_all : goal.returns-in-Ok-write_all
returns-in-Ok-write_all g c =
    let text = c.in-Ok.text in
    let all = subst (λ text. Appended (g.K.Sink.taken c.args.sink.now) text (g.K.Sink.taken c.write_all.new.sink))
    c.as_slice.ensures c.in-Ok-write_all.ensures.ok in (
      record { due = text; written = text },
      c.in-Ok.ensures,
      record { taken = all; are_written = (c.in-Ok-write_all.ensures.count, refl) },
    )

pub returns-in-Ok : goal.returns-in-Ok
returns-in-Ok g c =
    let text = c.in-Ok.text in
    let part = subst (λ text. AppendedPart (g.K.Sink.taken c.args.sink.now) text (g.K.Sink.taken c.write_all.new.sink))
    c.as_slice.ensures c.in-Err-write_all.ensures.err in (
      record { due = text; written = take part.0 text },
      c.in-Ok.ensures,
      record { taken = part.2; are_written = (c.in-Err-write_all.ensures.count, IsCut-take part.0 text part.1) },
    )

pub returns : goal.returns
returns g c =
    unsaid c.args.count (sink_seen g.K.Sink.taken g.K.Sink.faults c.args.sink.now) c.in-Err.ending c.in-Err.ensures
