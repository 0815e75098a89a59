use Rattle.std.proofs.Common.{Err, Option, Some, sym, ap, ◌∙◌, subst}
use Rattle.run_endings.specs.Outside.{sink_seen, disk_seen}
use Rattle.command_words.specs.Commands.{ReadsCommand, command_of}
use Rattle.command_words.specs.declared.commands.Command.{Command}
use Rattle.privilege_cli.specs.Program.{seen_of, CountsDisk}
use Rattle.privilege_cli.proofs.Silent.{uncounted, unmoved, without_memory, without_command, serves-as, reads-nothing, watches-as, watches-unread}
use Rattle.privilege_cli.proofs.program.run_words.Goals as goal

pub returns-in-Err-Memory-clause-run : goal.returns-in-Err-Memory-clause-run
returns-in-Err-Memory-clause-run g c =
    without_memory g.N.Dial g.N.Link.Link g.N.Net.closed g.N.Door.Door g.N.Door.Link.Link c.args.words.now
    (seen_of g.S.Source g.K.Sink g.D.Disk g.N.Dial c.args.source.now c.args.sink.now c.args.disk.now c.args.net.now) c.args.net.now
    (g.met.D.Disk.only_now c.args.disk.now)

pub returns-in-Err-Memory-clause-disk_count : goal.returns-in-Err-Memory-clause-disk_count
returns-in-Err-Memory-clause-disk_count g c = unmoved (command_of c.args.words.now) (g.D.Disk.faults c.args.disk.now)

pub returns-in-Err-Unknown-clause-run : goal.returns-in-Err-Unknown-clause-run
returns-in-Err-Unknown-clause-run g c =
    without_command g.N.Dial g.N.Link.Link g.N.Net.closed g.N.Door.Door g.N.Door.Link.Link c.args.words.now
    (seen_of g.S.Source g.K.Sink g.D.Disk g.N.Dial c.args.source.now c.args.sink.now c.args.disk.now c.args.net.now) c.args.net.now
    (sink_seen g.K.Sink.taken g.K.Sink.faults c.note_words.new.sink)
    (subst (λ refusal. ReadsCommand (Err refusal) (command_of c.args.words.now)) c.in-Err-Unknown.field-0-is
    c.in-Err-Unknown.ensures.command) c.note_words.ensures.taken c.note_words.ensures.count

pub returns-in-Ok-Serve-clause-run : goal.returns-in-Ok-Serve-clause-run
returns-in-Ok-Serve-clause-run g c =
    serves-as g.N.Dial g.N.Link.Link g.N.Net.closed g.N.Door.Door g.N.Door.Link.Link c.args.words.now
    (seen_of g.S.Source g.K.Sink g.D.Disk g.N.Dial c.args.source.now c.args.sink.now c.args.disk.now c.args.net.now) c.args.net.now
    _ (disk_seen g.D.Disk.state g.D.Disk.moment g.D.Disk.left_since g.D.Disk.faults c.run_serve.new.disk) c.run_serve.new.net
    c.run_serve.result (c.in-Ok-Serve.ensures.command ∙ ap Some c.in-Ok-Serve.field-0-is) c.run_serve.ensures

pub returns-in-Ok-Serve-clause-source_count : goal.returns-in-Ok-Serve-clause-source_count
returns-in-Ok-Serve-clause-source_count g c =
    reads-nothing g.N.Dial g.N.Link.Link g.N.Net.closed g.N.Door.Door g.N.Door.Link.Link c.args.words.now
    (seen_of g.S.Source g.K.Sink g.D.Disk g.N.Dial c.args.source.now c.args.sink.now c.args.disk.now c.args.net.now) c.args.net.now
    c.in-Ok-Serve.workers (disk_seen g.D.Disk.state g.D.Disk.moment g.D.Disk.left_since g.D.Disk.faults c.run_serve.new.disk) c.run_serve.new.net
    c.run_serve.result c.run_serve.ensures

pub returns-in-Ok-Check-clause-source_count : goal.returns-in-Ok-Check-clause-source_count
returns-in-Ok-Check-clause-source_count g c = (uncounted c.run_check.result (g.S.Source.faults c.args.source.now) c.run_check.ensures.ends).0

pub returns-in-Ok-Check-clause-disk_count : goal.returns-in-Ok-Check-clause-disk_count
returns-in-Ok-Check-clause-disk_count g c =
    let count = g.D.Disk.faults c.args.disk.now in
    subst (λ (command : Option Command). CountsDisk command c.run_check.result count count)
    (sym (c.in-Ok-Check.ensures.command ∙ ap Some c.in-Ok-Check.field-0-is)) (uncounted c.run_check.result count c.run_check.ensures.ends).1

pub returns-in-Ok-Simple-clause-source_count : goal.returns-in-Ok-Simple-clause-source_count
returns-in-Ok-Simple-clause-source_count g c = (uncounted c.run_simple.result (g.S.Source.faults c.args.source.now) c.run_simple.ensures.ends).0

pub returns-in-Ok-Simple-clause-disk_count : goal.returns-in-Ok-Simple-clause-disk_count
returns-in-Ok-Simple-clause-disk_count g c =
    let count = g.D.Disk.faults c.args.disk.now in
    subst (λ (command : Option Command). CountsDisk command c.run_simple.result count count)
    (sym (c.in-Ok-Simple.ensures.command ∙ ap Some c.in-Ok-Simple.field-0-is)) (uncounted c.run_simple.result count c.run_simple.ensures.ends).1

pub returns-in-Ok-Watch-clause-run : goal.returns-in-Ok-Watch-clause-run
returns-in-Ok-Watch-clause-run g c =
    watches-as g.N.Dial g.N.Link.Link g.N.Net.closed g.N.Door.Door g.N.Door.Link.Link c.args.words.now
    (seen_of g.S.Source g.K.Sink g.D.Disk g.N.Dial c.args.source.now c.args.sink.now c.args.disk.now c.args.net.now) c.args.net.now
    _ (disk_seen g.D.Disk.state g.D.Disk.moment g.D.Disk.left_since g.D.Disk.faults c.run_watch.new.disk) c.run_watch.new.net
    c.run_watch.result (sink_seen g.K.Sink.taken g.K.Sink.faults c.run_watch.new.sink)
    (c.in-Ok-Watch.ensures.command ∙ ap Some c.in-Ok-Watch.field-0-is) c.run_watch.ensures

pub returns-in-Ok-Watch-clause-source_count : goal.returns-in-Ok-Watch-clause-source_count
returns-in-Ok-Watch-clause-source_count g c =
    watches-unread g.N.Dial g.N.Link.Link g.N.Net.closed g.N.Door.Door g.N.Door.Link.Link c.args.words.now
    (seen_of g.S.Source g.K.Sink g.D.Disk g.N.Dial c.args.source.now c.args.sink.now c.args.disk.now c.args.net.now) c.args.net.now
    _ (disk_seen g.D.Disk.state g.D.Disk.moment g.D.Disk.left_since g.D.Disk.faults c.run_watch.new.disk) c.run_watch.new.net
    c.run_watch.result (sink_seen g.K.Sink.taken g.K.Sink.faults c.run_watch.new.sink) c.run_watch.ensures
