use Rattle.std.proofs.Common.{◌≡◌, ◌<◌, ◌+◌, ◌-◌, ◌⊎◌, inl, inr, ap, length, arith, length-drop}
use Rattle.text_lines.proofs.Newlines.{none-list_any}
use Rattle.text_lines.proofs.Limits.{GoesPast-unfinished}
use Rattle.text_lines.proofs.line_reader.LineReader.within_limits.Goals as goal
use Rattle.text_lines.proofs.line_reader.LineReader.within_limits.Goals.{then-waiting-self-via-then-waiting-self, then-waiting-self-via-else-waiting-self+then-waiting-self-2}

pub returns-then-waiting-self : goal.returns-then-waiting-self
returns-then-waiting-self c =
    let reading = c.args.self.now in
    let count : length reading.waiting ≡ length c.as_slice.result.now - c.self.inside.taken = omega (
      arith,
      ap (λ reading. length reading.waiting) c.self.view_is,
      ap length c.as_slice.ensures,
      length-drop c.self.inside.taken c.self.inside.window,
    ) in
    let past : (reading.room < length reading.waiting) ⊎ (reading.longest < length reading.waiting) =
    elim c.then-waiting-self.branch [
      | then-waiting-self-via-then-waiting-self w ↦
          inl (omega (arith, count, ap (λ reading. reading.room) c.self.view_is, w.if-waiting-self.true))
      | then-waiting-self-via-else-waiting-self+then-waiting-self-2 w ↦
          inr (omega (arith, count, ap (λ reading. reading.longest) c.self.view_is, w.if-waiting-self-2.true))
    ] in (
      ap (λ reading. reading.number + 1) c.self.view_is,
      GoesPast-unfinished reading.longest reading.room reading.waiting (none-list_any reading.waiting c.requires) past,
    )

pub returns : goal.returns
returns c =
    let reading = c.args.self.now in
    let count : length reading.waiting ≡ length c.as_slice.result.now - c.self.inside.taken = omega (
      arith,
      ap (λ reading. length reading.waiting) c.self.view_is,
      ap length c.as_slice.ensures,
      length-drop c.self.inside.taken c.self.inside.window,
    ) in
    record {
      no_newline = none-list_any reading.waiting c.requires;
      short = omega (arith, count, ap (λ reading. reading.longest) c.self.view_is);
      within = omega (arith, count, ap (λ reading. reading.room) c.self.view_is);
    }
