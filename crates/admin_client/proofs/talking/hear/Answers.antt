use Rattle.std.proofs.Common.{◌<◌, ◌∙◌, ℕ, refl, sym, subst, arith, rules}
use Rattle.client_connection.specs.Reading.{IsTrouble}
use Rattle.client_core.specs.declared.steps.Step.TheVariants as step
use Rattle.admin_client.proofs.Hearing.{begun, goes_on, ends_so, most_heard, some_wanted, only_these}
use Rattle.admin_client.proofs.talking.hear.Goals as goal

pub pieces-init : goal.pieces-init
pieces-init g c = (begun (g.L.Link.traffic c.args.link.now) c.args.machine.now c.requires.0 c.requires.1, refl)

pub pieces-preserved : goal.pieces-preserved
pieces-preserved g c =
    let start = g.L.Link.traffic c.args.link.now in
    let mid = g.L.Link.traffic c.pieces.link in
    let end = g.L.Link.traffic c.take_piece.new.link in
    let trouble = IsTrouble (g.L.Link.marks c.take_piece.new.link) (g.L.Link.faults c.take_piece.new.link) in (
      (goes_on start mid end trouble c.args.machine.now c.pieces.machine c.take_piece.new.machine c.pieces.invariant.0
          c.in-Wait.ensures.taken).0,
      c.take_piece.ensures.ends ∙ c.pieces.invariant.1,
    )

pub pieces-smaller : goal.pieces-smaller
pieces-smaller g c =
    let start = g.L.Link.traffic c.args.link.now in
    let mid = g.L.Link.traffic c.pieces.link in
    let end = g.L.Link.traffic c.take_piece.new.link in
    let trouble = IsTrouble (g.L.Link.marks c.take_piece.new.link) (g.L.Link.faults c.take_piece.new.link) in
    let more = (goes_on start mid end trouble c.args.machine.now c.pieces.machine c.take_piece.new.machine c.pieces.invariant.0
    c.in-Wait.ensures.taken).1 in
    let most = most_heard start mid end trouble c.args.machine.now c.pieces.machine c.take_piece.new.machine c.pieces.invariant.0 in
    omega (arith, more, most)

pub returns-in-Row-clause-came : goal.returns-in-Row-clause-came
returns-in-Row-clause-came g c exchange was =
    let start = g.L.Link.traffic c.args.link.now in
    let mid = g.L.Link.traffic c.pieces.link in
    let end = g.L.Link.traffic c.take_piece.new.link in
    let trouble = IsTrouble (g.L.Link.marks c.take_piece.new.link) (g.L.Link.faults c.take_piece.new.link) in
    ends_so start mid end trouble c.args.machine.now c.pieces.machine c.take_piece.new.machine c.pieces.invariant.0
    (step.Row c.in-Row.message) (λ is. cc) c.in-Row.ensures.taken exchange was

pub returns-in-Reply-clause-came : goal.returns-in-Reply-clause-came
returns-in-Reply-clause-came g c exchange was =
    let start = g.L.Link.traffic c.args.link.now in
    let mid = g.L.Link.traffic c.pieces.link in
    let end = g.L.Link.traffic c.take_piece.new.link in
    let trouble = IsTrouble (g.L.Link.marks c.take_piece.new.link) (g.L.Link.faults c.take_piece.new.link) in
    ends_so start mid end trouble c.args.machine.now c.pieces.machine c.take_piece.new.machine c.pieces.invariant.0
    (step.Reply c.in-Reply.message) (λ is. cc) c.in-Reply.ensures.taken exchange was

pub returns-in-Over-clause-came : goal.returns-in-Over-clause-came
returns-in-Over-clause-came g c exchange was =
    let start = g.L.Link.traffic c.args.link.now in
    let mid = g.L.Link.traffic c.pieces.link in
    let end = g.L.Link.traffic c.take_piece.new.link in
    let trouble = IsTrouble (g.L.Link.marks c.take_piece.new.link) (g.L.Link.faults c.take_piece.new.link) in
    ends_so start mid end trouble c.args.machine.now c.pieces.machine c.take_piece.new.machine c.pieces.invariant.0
    (step.Over c.in-Over.fault) (λ is. cc) c.in-Over.ensures.taken exchange was

pub take_piece-requires-clause-some : goal.take_piece-requires-clause-some
take_piece-requires-clause-some g c =
    let some = some_wanted (g.L.Link.traffic c.args.link.now) (g.L.Link.traffic c.pieces.link) c.args.machine.now
    c.pieces.machine c.pieces.invariant.0 in
    let wanted : 0 < c.wanted.result = subst (λ (n : ℕ). 0 < n) (sym c.wanted.ensures) some in
    let least : 0 < c.min-want.result = omega (arith, wanted, c.min-want.ensures) in
    first_of (search (rules, least), grind (arith, rules, least))

pub unreachable-requires : goal.unreachable-requires
unreachable-requires g c =
    let start = g.L.Link.traffic c.args.link.now in
    let mid = g.L.Link.traffic c.pieces.link in
    let end = g.L.Link.traffic c.take_piece.new.link in
    let trouble = IsTrouble (g.L.Link.marks c.take_piece.new.link) (g.L.Link.faults c.take_piece.new.link) in
    only_these start mid end trouble c.args.machine.now c.pieces.machine c.take_piece.new.machine c.pieces.invariant.0
    c.take_piece.result c.take_piece.ensures.taken c.in_default.not-Wait c.in_default.not-Row c.in_default.not-Reply c.in_default.not-Over
