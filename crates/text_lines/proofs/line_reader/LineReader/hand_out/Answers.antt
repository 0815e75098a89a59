use Rattle.std.proofs.Common.{◌<◌, ◌+◌, ◌⊎◌, inl, inr, refl, ap, ◌∙◌, subst, take, drop, arith}
use Rattle.std.proofs.lemmas.List.{take_rest}
use Rattle.text_lines.specs.parts.Gathering.{IsCut}
use Rattle.text_lines.proofs.Limits.{GoesPast-cut}
use Rattle.text_lines.proofs.Handing.{IsHandedOut-cut}
use Rattle.text_lines.proofs.line_reader.LineReader.hand_out.Goals as goal
use Rattle.text_lines.proofs.line_reader.LineReader.hand_out.Goals.{then-piece-self-via-then-piece-self, then-piece-self-via-else-piece-self+then-line-self}

pub returns-then-piece-self : goal.returns-then-piece-self
returns-then-piece-self c =
    let reading = c.args.self.now in
    let line = c.cut_line-line.result.line in
    let piece = c.cut_line-line.result.piece in
    let waits = take_rest c.as_slice.result.now c.self.inside.taken
    ∙ (ap (drop c.self.inside.taken) c.as_slice.ensures ∙ ap (λ reading. reading.waiting) c.self.view_is) in
    let cut = subst (λ bytes. IsCut bytes line piece) waits c.cut_line-line.ensures in
    let past : (reading.room < piece) ⊎ (reading.longest < line) =
    elim c.then-piece-self.branch [
      | then-piece-self-via-then-piece-self w ↦ inl (omega (arith, ap (λ reading. reading.room) c.self.view_is, w.if-piece-self.true))
      | then-piece-self-via-else-piece-self+then-line-self w ↦
          inr (omega (arith, ap (λ reading. reading.longest) c.self.view_is, w.if-line-self.true))
    ] in (
      refl,
      (
        ap (λ reading. reading.number + 1) c.self.view_is,
        GoesPast-cut reading.longest reading.room reading.waiting line piece cut past,
      ),
    )

pub returns : goal.returns
returns c =
    let reading = c.args.self.now in
    let line = c.cut_line-line.result.line in
    let piece = c.cut_line-line.result.piece in
    let waiting = ap (λ reading. reading.waiting) c.self.view_is in
    let waits = take_rest c.as_slice.result.now c.self.inside.taken
    ∙ (ap (drop c.self.inside.taken) c.as_slice.ensures ∙ waiting) in
    let cut = subst (λ bytes. IsCut bytes line piece) waits c.cut_line-line.ensures in
    let dropped = c.drop_front.ensures ∙ waiting in (
      IsHandedOut-cut reading _ line piece cut (omega (arith, c.if-piece-eq0.false))
          (ap (take line) dropped)
          (ap (drop piece) dropped)
          (ap (λ reading. reading.number + 1) c.self.view_is)
          (omega (arith, ap (λ reading. reading.room) c.self.view_is))
          (omega (arith, ap (λ reading. reading.longest) c.self.view_is))
          (ap (λ reading. reading.longest) c.self.view_is)
          c.requires
          (ap (λ reading. reading.is_ended) c.self.view_is),
      ap (λ reading. reading.is_ended) c.self.view_is,
    )
