use Rattle.std.proofs.Common.{◌<◌, ◌+◌, length, take, drop, sym, ap, ◌∙◌, subst, arith, length-append, length-drop}
use Rattle.std.proofs.lemmas.List.{take_rest, take-append-drop}
use Rattle.std.proofs.lemmas.Bool.{lt-ltb, le-ltb}
use Rattle.std.specs.List.{list_any}
use Rattle.text_lines.specs.Lines.{HasNoNewline, is_newline}
use Rattle.text_lines.proofs.Newlines.{HasNoNewline-append, take-on, cut-on, list_any-newline, list_any-none}
use Rattle.text_lines.proofs.line_reader.scan.Goals as goal

pub returns-in-Some-clause-scanned : goal.returns-in-Some-clause-scanned
returns-in-Some-clause-scanned c =
    let cut = rw take_rest at c.in-Some.ensures.cut in
    rw (take-on c.args.bytes.now c.in-Some.line.now _ c.args.scanned cut)
    (HasNoNewline-append (take c.args.scanned c.args.bytes.now) c.in-Some.line.now c.requires.scanned c.in-Some.ensures.first)

pub returns-in-Some-clause-found : goal.returns-in-Some-clause-found
returns-in-Some-clause-found c =
    λ within. let cut = rw take_rest at c.in-Some.ensures.cut in
    (_, cut-on c.args.bytes.now c.in-Some.line.now _ c.args.scanned cut)

pub returns-in-Some-clause-newline : goal.returns-in-Some-clause-newline
returns-in-Some-clause-newline c =
    let bytes = c.args.bytes.now in
    let line = c.in-Some.line.now in
    let cut = rw take_rest at c.in-Some.ensures.cut in
    let below : c.args.scanned + length line < length bytes = omega (
      arith,
      simp length-append at (ap length cut),
      length-drop c.args.scanned bytes,
    ) in
    lt-ltb _ _ below
    ∙ sym (ap (list_any is_newline) (cut-on bytes line _ c.args.scanned cut)
    ∙ list_any-newline (take (c.args.scanned + length line) bytes) _)

pub returns-in-None-clause-newline : goal.returns-in-None-clause-newline
returns-in-None-clause-newline c =
    let bytes = c.args.bytes.now in
    let none = rw take_rest at c.in-None.ensures.none in
    let all = subst HasNoNewline (take-append-drop c.args.scanned bytes)
    (HasNoNewline-append (take c.args.scanned bytes) (drop c.args.scanned bytes) c.requires.scanned none) in
    le-ltb (length bytes) (length bytes) (omega arith) ∙ sym (list_any-none bytes all)
