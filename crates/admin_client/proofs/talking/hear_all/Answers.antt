use Rattle.std.proofs.Common.{◌∙◌, List, refl, sym, ap, subst, arith, length, length-append}
use Rattle.wire_fields.specs.declared.messages.Message.{Message}
use Rattle.client_connection.specs.Reading.{IsTrouble}
use Rattle.admin_client.proofs.Taking.{AreTaken, none_taken, waits_on, one_taken, fewer, row_refused, last_answers, last_refused, over_no_age, over_leaves, over_answers}
use Rattle.admin_client.proofs.talking.hear_all.Goals as goal

pub replies-init : goal.replies-init
replies-init g c =
    let start = g.L.Link.traffic c.args.link.now in (
      subst (λ (items : List Message). AreTaken start start c.args.machine.now c.args.machine.now items) (sym c.new-replies.ensures.items)
          (none_taken start c.args.machine.now c.requires.0 c.requires.1 c.requires.2),
      refl,
    )

pub hear-requires : goal.hear-requires
hear-requires g c =
    waits_on (g.L.Link.traffic c.args.link.now) (g.L.Link.traffic c.replies.link) c.args.machine.now c.replies.machine c.replies.replies.items
    c.replies.invariant.0

pub replies-preserved : goal.replies-preserved
replies-preserved g c =
    let start = g.L.Link.traffic c.args.link.now in
    let mid = g.L.Link.traffic c.replies.link in
    let end = g.L.Link.traffic c.hear.new.link in
    let trouble = IsTrouble (g.L.Link.marks c.hear.new.link) (g.L.Link.faults c.hear.new.link) in
    (one_taken start mid end trouble c.args.machine.now c.replies.machine c.hear.new.machine c.replies.replies.items c.replies.invariant.0 c.in-Row.message c.put.new.list.items c.in-Ok.ensures c.in-Row.ensures.came, c.hear.ensures.ends ∙ c.replies.invariant.1)

pub replies-smaller : goal.replies-smaller
replies-smaller g c =
    let start = g.L.Link.traffic c.args.link.now in
    let mid = g.L.Link.traffic c.replies.link in
    let end = g.L.Link.traffic c.hear.new.link in
    let trouble = IsTrouble (g.L.Link.marks c.hear.new.link) (g.L.Link.faults c.hear.new.link) in
    let few = fewer start mid end trouble c.args.machine.now c.replies.machine c.hear.new.machine c.replies.replies.items c.replies.invariant.0 c.in-Row.message c.in-Row.ensures.came in
    let more = ap length c.in-Ok.ensures in
    omega (arith, few, more, length-append {A = Message})

pub returns-in-Err-clause-came : goal.returns-in-Err-clause-came
returns-in-Err-clause-came g c exchange was =
    let start = g.L.Link.traffic c.args.link.now in
    let mid = g.L.Link.traffic c.replies.link in
    let end = g.L.Link.traffic c.hear.new.link in
    let trouble = IsTrouble (g.L.Link.marks c.hear.new.link) (g.L.Link.faults c.hear.new.link) in
    row_refused start mid end trouble c.args.machine.now c.replies.machine c.hear.new.machine c.replies.replies.items c.replies.invariant.0 c.in-Row.message c.in-Err.error c.in-Row.ensures.came exchange was

pub returns-in-Ok-put-clause-came : goal.returns-in-Ok-put-clause-came
returns-in-Ok-put-clause-came g c exchange was =
    let start = g.L.Link.traffic c.args.link.now in
    let mid = g.L.Link.traffic c.replies.link in
    let end = g.L.Link.traffic c.hear.new.link in
    let trouble = IsTrouble (g.L.Link.marks c.hear.new.link) (g.L.Link.faults c.hear.new.link) in
    last_answers start mid end trouble c.args.machine.now c.replies.machine c.hear.new.machine c.replies.replies.items c.replies.invariant.0 c.in-Reply.message c.put-in-Reply.new.list.items c.in-Ok-put.ensures c.in-Reply.ensures.came exchange was

pub returns-in-Err-put-clause-came : goal.returns-in-Err-put-clause-came
returns-in-Err-put-clause-came g c exchange was =
    let start = g.L.Link.traffic c.args.link.now in
    let mid = g.L.Link.traffic c.replies.link in
    let end = g.L.Link.traffic c.hear.new.link in
    let trouble = IsTrouble (g.L.Link.marks c.hear.new.link) (g.L.Link.faults c.hear.new.link) in
    last_refused start mid end trouble c.args.machine.now c.replies.machine c.hear.new.machine c.replies.replies.items c.replies.invariant.0 c.in-Reply.message c.in-Err-put.error c.in-Reply.ensures.came exchange was

pub refusal_of-requires : goal.refusal_of-requires
refusal_of-requires g c =
    let start = g.L.Link.traffic c.args.link.now in
    let mid = g.L.Link.traffic c.replies.link in
    let end = g.L.Link.traffic c.hear.new.link in
    let trouble = IsTrouble (g.L.Link.marks c.hear.new.link) (g.L.Link.faults c.hear.new.link) in
    over_no_age start mid end trouble c.args.machine.now c.replies.machine c.hear.new.machine c.replies.replies.items c.replies.invariant.0 c.in-Over.fault c.in-Over.ensures.came

pub returns-in-Over-clause-came : goal.returns-in-Over-clause-came
returns-in-Over-clause-came g c exchange was =
    let start = g.L.Link.traffic c.args.link.now in
    let mid = g.L.Link.traffic c.replies.link in
    let end = g.L.Link.traffic c.hear.new.link in
    let trouble = IsTrouble (g.L.Link.marks c.hear.new.link) (g.L.Link.faults c.hear.new.link) in
    over_answers start mid end trouble c.args.machine.now c.replies.machine c.hear.new.machine c.replies.replies.items c.replies.invariant.0 c.in-Over.fault c.in-Over.ensures.came c.refusal_of.result c.refusal_of.ensures exchange was

pub returns-in-Over-clause-left : goal.returns-in-Over-clause-left
returns-in-Over-clause-left g c =
    let start = g.L.Link.traffic c.args.link.now in
    let mid = g.L.Link.traffic c.replies.link in
    let end = g.L.Link.traffic c.hear.new.link in
    let trouble = IsTrouble (g.L.Link.marks c.hear.new.link) (g.L.Link.faults c.hear.new.link) in
    over_leaves start mid end trouble c.args.machine.now c.replies.machine c.hear.new.machine c.replies.replies.items c.replies.invariant.0 c.in-Over.fault c.in-Over.ensures.came c.refusal_of.result c.refusal_of.ensures
