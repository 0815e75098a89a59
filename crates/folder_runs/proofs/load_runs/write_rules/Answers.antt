use Rattle.std.proofs.Common.{take, inl, refl, subst, ◌∙◌}
use Rattle.desk_ports.specs.Content.{Appended, AppendedPart}
use Rattle.desk_ports.proofs.Appends.{Appended-none}
use Rattle.run_endings.specs.Saying.{silence}
use Rattle.run_endings.proofs.Trying.{IsCut-take}
use Rattle.folder_runs.specs.LoadRun.{loads_text}
use Rattle.folder_runs.proofs.load_runs.write_rules.Goals as goal

pub returns : goal.returns
returns g c =
    let text = loads_text c.args.desk.now in
    let part = subst (λ text. AppendedPart (g.K.Sink.taken c.args.sink.now) text (g.K.Sink.taken c.write_all.new.sink))
    (c.as_slice.ensures ∙ c.in-Ok.ensures) c.in-Err.ensures.err in (
      record { due = text; written = take part.0 text },
      refl,
      record { taken = part.2; are_written = (c.in-Err.ensures.count, IsCut-take part.0 text part.1) },
    )

pub returns-in-Ok-write_all : goal.returns-in-Ok-write_all
returns-in-Ok-write_all g c =
    let text = loads_text c.args.desk.now in
    let all = subst (λ text. Appended (g.K.Sink.taken c.args.sink.now) text (g.K.Sink.taken c.write_all.new.sink))
    (c.as_slice.ensures ∙ c.in-Ok.ensures) c.in-Ok-write_all.ensures.ok in (
      record { due = text; written = text },
      refl,
      record { taken = all; are_written = (c.in-Ok-write_all.ensures.count, refl) },
    )

pub returns-in_default : goal.returns-in_default
returns-in_default g c =
    (silence, refl, record { taken = Appended-none (g.K.Sink.taken c.args.sink.now); are_written = inl (refl, refl) })
