use Rattle.std.proofs.Common.{◌≡◌, true}
use Rattle.text_lines.specs.LineReader.{Keeps, EndsReading, needs_no_reading}
use Rattle.text_lines.proofs.Gatherings.{distance}
use Rattle.text_lines.proofs.line_reader.LineReader.gather.Given as goal

abbrev pub invariant-loop-self : goal.invariant-loop-self
invariant-loop-self g l =
    record {
      kept : Keeps (g.S.Source.left l.fn.source) (g.S.Source.left l.source) l.fn.self l.self;
      ended : EndsReading (g.S.Source.left l.fn.source) (g.S.Source.left l.source) l.fn.self l.self;
      count : g.S.Source.faults l.source ≡ g.S.Source.faults l.fn.source;
      untouched : needs_no_reading l.fn.self ≡ true → (l.self ≡ l.fn.self) × (l.source ≡ l.fn.source);
    }

abbrev pub decreases-loop-self : goal.decreases-loop-self
decreases-loop-self g l = distance l.self
