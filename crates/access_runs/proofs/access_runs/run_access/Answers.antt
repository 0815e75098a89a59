use Rattle.std.proofs.Common.{◌≡◌, ℕ, List, Err, ap, subst, ◌∙◌}
use Rattle.desk_ports.specs.Content.{Appended}
use Rattle.smack_rules.specs.Decision.{decision}
use Rattle.smack_rules.specs.declared.decision.Decision.{Decision}
use Rattle.smack_rules.specs.declared.modes.Modes.{Modes}
use Rattle.run_endings.specs.Outside.{source_seen}
use Rattle.line_answers.specs.Answers.{decided_text}
use Rattle.access_runs.specs.parts.Access.{WritesAnswer, counts_sink}
use Rattle.access_runs.proofs.Accessing.{Reads-unread, Reads-written, Reads-unwritten, unwritten-source}
use Rattle.access_runs.proofs.access_runs.run_access.Goals as goal

decided : (subject object : List ℕ) (asked kept granted : Modes) (answer : Decision)
    → answer ≡ decision subject object asked kept → kept ≡ granted
    → decided_text answer ≡ decided_text (decision subject object asked granted)
decided subject object asked kept granted answer is same = ap decided_text
    (is ∙ ap (decision subject object asked) same)

pub returns-in-Err-clause-run : goal.returns-in-Err-clause-run
returns-in-Err-clause-run g c =
    Reads-unread (source_seen g.S.Source.left g.S.Source.faults c.args.source.now)
    (source_seen g.S.Source.left g.S.Source.faults c.read_rules.new.source) _ _ _ _ _ _ _ c.in-Err.ending c.in-Err.ensures.read
    c.read_rules.ensures.taken c.read_rules.ensures.sink

pub returns-in-Ok-write_decision-clause-run : goal.returns-in-Ok-write_decision-clause-run
returns-in-Ok-write_decision-clause-run g c =
    Reads-written (source_seen g.S.Source.left g.S.Source.faults c.args.source.now)
    (source_seen g.S.Source.left g.S.Source.faults c.read_rules.new.source) _ _ _ _ _ _ _ c.in-Ok.rules c.in-Ok.ensures.read _
    (decided _ _ _ c.rules.inside.granted c.in-Ok.rules _ c.decide-decision.ensures.decided c.rules.view_is)
    (subst (λ taken. Appended taken (decided_text c.decide-decision.result) (g.K.Sink.taken c.write_decision.new.sink))
    c.read_rules.ensures.taken c.in-Ok-write_decision.ensures.written)
    (c.in-Ok-write_decision.ensures.count ∙ c.read_rules.ensures.sink)

pub returns-clause-run : goal.returns-clause-run
returns-clause-run g c =
    Reads-unwritten (source_seen g.S.Source.left g.S.Source.faults c.args.source.now)
    (source_seen g.S.Source.left g.S.Source.faults c.read_rules.new.source) _ _ _ _ _ _ _ c.in-Ok.rules c.in-Ok.ensures.read _
    (decided _ _ _ c.rules.inside.granted c.in-Ok.rules _ c.decide-decision.ensures.decided c.rules.view_is)
    c.in-Err-write_decision.ending
    (subst (λ taken. WritesAnswer taken (g.K.Sink.taken c.write_decision.new.sink) (decided_text c.decide-decision.result)
    (Err c.in-Err-write_decision.ending)) c.read_rules.ensures.taken c.in-Err-write_decision.ensures.written)
    (c.in-Err-write_decision.ensures.count
    ∙ ap (counts_sink {A = Unit {0}} (Err c.in-Err-write_decision.ending)) c.read_rules.ensures.sink)

pub returns-clause-source : goal.returns-clause-source
returns-clause-source g c =
    c.in-Ok.ensures.count
    ∙ unwritten-source _ _ (decided_text c.decide-decision.result) c.in-Err-write_decision.ending
    (g.S.Source.faults c.args.source.now) c.in-Err-write_decision.ensures.written
