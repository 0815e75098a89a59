use Rattle.std.proofs.Common.{refl, ap, ◌∙◌}
use Rattle.run_endings.specs.Ending.{status_of}
use Rattle.command_words.specs.Commands.{command_of}
use Rattle.privilege_cli.specs.Program.{seen_of}
use Rattle.privilege_cli.proofs.Completing.{completes}
use Rattle.privilege_cli.proofs.Noting.{written_by}
use Rattle.privilege_cli.proofs.program.run.Goals as goal

pub returns-clause-run : goal.returns-clause-run
returns-clause-run g c =
    let run = c.run_words-ending.ensures.run in
    let before = seen_of g.S.Source g.K.Sink g.D.Disk g.N.Dial c.args.source.now c.args.sink.now c.args.disk.now c.args.net.now in
    let after = seen_of g.S.Source g.K.Sink g.D.Disk g.N.Dial c.run_words-ending.new.source c.note_damage.new.sink
    c.run_words-ending.new.disk c.run_words-ending.new.net in
    let writes = written_by g.N.Dial g.N.Link.Link g.N.Net.closed g.N.Door.Door g.N.Door.Link.Link c.run_words-ending.result
    before.disk after.disk c.args.net.now c.run_words-ending.new.net run.0 (command_of c.args.words.now) g.K.Sink.taken g.K.Sink.faults before.sink
    c.run_words-ending.new.sink c.write_last_line.new.sink c.note_damage.new.sink run.2 c.write_last_line.ensures
    c.note_damage.ensures.taken c.note_damage.ensures.count in
    record {
      ending = c.run_words-ending.result;
      said = run.0;
      status_is = c.status.ensures;
      runs = run.1;
      writes = writes;
      source_count = c.run_words-ending.ensures.source_count;
      disk_count = c.run_words-ending.ensures.disk_count;
      net_count = λ unused. ap g.N.Dial.faults (c.run_words-ending.ensures.net unused);
      completes = λ none. completes g.N.Dial g.N.Link.Link g.N.Net.closed g.N.Door.Door g.N.Door.Link.Link c.status.result before after
          c.args.net.now c.run_words-ending.new.net run.0 c.run_words-ending.result c.status.ensures
          c.run_words-ending.ensures.source_count none refl refl (command_of c.args.words.now) run.1 writes c.run_words-ending.ensures.disk_count;
    }

pub returns-clause-option : goal.returns-clause-option
returns-clause-option g c = λ dashed. c.status.ensures ∙ ap status_of (c.run_words-ending.ensures.option dashed)
