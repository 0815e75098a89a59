use Rattle.std.proofs.Common.{[], map, inl, refl}
use Rattle.std.specs.Option.{option_map}
use Rattle.desk_ports.proofs.Appends.{Appended-none}
use Rattle.run_endings.specs.Outside.{sink_seen}
use Rattle.run_endings.specs.declared.endings.Ending.TheVariants.{Memory, Net}
use Rattle.agent_runs.specs.LinkSeen.{link_seen, dial_seen}
use Rattle.agent_runs.proofs.Dialling.{undialled, dialled}
use Rattle.agent_runs.proofs.Completing.{completes}
use Rattle.agent_runs.proofs.runs.run_agent.Goals as goal

pub returns-in-Ok-clause-run : goal.returns-in-Ok-clause-run
returns-in-Ok-clause-run g c =
    dialled c.in-Ok.ensures.unmarked c.in-Ok.ensures.fresh c.in-Ok.ensures.silent
    (λ i. record { given = option_map (map (link_seen g.N.Link.Link)) (c.dial.ensures.kept i); faults = c.in-Ok.ensures.count i })
    c.serve.ensures.serves

pub returns-in-Ok-clause-completes : goal.returns-in-Ok-clause-completes
returns-in-Ok-clause-completes g c =
    completes {before = dial_seen g.N.Dial g.N.Link.Link c.args.dial.now}
    (dialled c.in-Ok.ensures.unmarked c.in-Ok.ensures.fresh c.in-Ok.ensures.silent
    (λ i. record { given = option_map (map (link_seen g.N.Link.Link)) (c.dial.ensures.kept i); faults = c.in-Ok.ensures.count i })
    c.serve.ensures.serves)

pub returns-in-Err-Failed-clause-run : goal.returns-in-Err-Failed-clause-run
returns-in-Err-Failed-clause-run g c =
    undialled c.args.kind c.args.allowed Net
    (dial_seen g.N.Dial g.N.Link.Link c.args.dial.now)
    (dial_seen g.N.Dial g.N.Link.Link c.dial.new.self)
    (sink_seen g.K.Sink.taken g.K.Sink.faults c.args.sink.now)
    (rw c.in-Err-Failed.field-0-is at c.in-Err-Failed.ensures.count)
    (λ i. option_map (map (link_seen g.N.Link.Link)) (c.dial.ensures.kept i)) (refl, refl)

pub returns-in-Err-Failed-clause-completes : goal.returns-in-Err-Failed-clause-completes
returns-in-Err-Failed-clause-completes g c = λ still.
    ([], Appended-none (g.K.Sink.taken c.args.sink.now), (([], tt, refl), rw c.in-Err-Failed.field-0-is at c.in-Err-Failed.ensures.count))

pub returns-in-Err-Memory-clause-run : goal.returns-in-Err-Memory-clause-run
returns-in-Err-Memory-clause-run g c =
    undialled c.args.kind c.args.allowed Memory
    (dial_seen g.N.Dial g.N.Link.Link c.args.dial.now)
    (dial_seen g.N.Dial g.N.Link.Link c.dial.new.self)
    (sink_seen g.K.Sink.taken g.K.Sink.faults c.args.sink.now)
    (rw c.in-Err-Memory.field-0-is at c.in-Err-Memory.ensures.count)
    (λ i. option_map (map (link_seen g.N.Link.Link)) (c.dial.ensures.kept i)) (inl (refl, refl))

pub returns-in-Err-Memory-clause-completes : goal.returns-in-Err-Memory-clause-completes
returns-in-Err-Memory-clause-completes g c = λ still.
    ([], Appended-none (g.K.Sink.taken c.args.sink.now), rw c.in-Err-Memory.field-0-is at c.in-Err-Memory.ensures.count)
