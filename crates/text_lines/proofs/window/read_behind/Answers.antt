use Rattle.std.proofs.Common.{◌≡◌, ◌≤◌, ◌-◌, length, take, drop, arith, length-drop}
use Rattle.std.proofs.lemmas.List.{length-take-le}
use Rattle.text_lines.proofs.Windows.{take-read}
use Rattle.text_lines.proofs.window.read_behind.Goals as goal

pub returns-clause-read : goal.returns-clause-read
returns-clause-read g c =
    let buffer = c.args.buffer.now in
    let into = c.read.new.into in
    let count = c.in_ok-count.count in
    let within : c.args.end ≤ length buffer = omega arith in
    let room : length into ≡ c.min-limit.result - c.args.end = omega (
      arith,
      c.read.auto.into,
      length-take-le (c.min-limit.result - c.args.end) (drop c.args.end buffer) (omega (arith, length-drop c.args.end buffer)),
    ) in
    let read : count ≤ length into = omega (arith, c.in_ok-count.ensures.within, c.read.auto.into) in
    record {
      given = take count into;
      took = c.in_ok-count.ensures.given;
      behind = take-read c.args.end (c.min-limit.result - c.args.end) count buffer into within read;
      size = length-take-le count into read;
      within = omega (arith, room, read);
      ended = c.in_ok-count.ensures.ended (omega (arith, room, c.read.auto.into));
    }
