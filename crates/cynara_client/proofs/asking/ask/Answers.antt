use Rattle.std.proofs.Common.{◌≡◌, ◌∙◌, Bool, true, false, Option, None, Some, is_some, sym, ap, subst}
use Rattle.std.specs.Prelude.{if◌then◌else◌}
use Rattle.answer_cache.specs.Cache.{asked_in}
use Rattle.client_core.specs.Client.{Client}
use Rattle.client_core.specs.Asking as does
use Rattle.client_core.specs.declared.stages.Stage.{Stage}
use Rattle.cynara_client.specs.Checking.{Checks, Serves}
use Rattle.cynara_client.specs.parts.States.{seen, IsLinked}
use Rattle.cynara_client.proofs.Putting.{checks_anew, checks_past, checks_over, checks_kept, reused, reused_newest}
use Rattle.cynara_client.proofs.asking.ask.Goals as goal

ready_at : (linked : Bool) (s : Stage) → linked ≡ true → does.is_idle s ≡ true → (if linked then does.is_idle s else false) ≡ true
ready_at true s is idle = idle
ready_at false s is idle = is

pub returns-in_default-clause-asked : goal.returns-in_default-clause-asked
returns-in_default-clause-asked g c =
    let asked = asked_in c.args.session.now c.args.question.now in
    subst (λ (entry : Option _). Checks g.N.Link.Link.faults g.N.Link.Link.marks g.N.Link.Link.traffic g.N.Link.Link.content g.N.Dial.faults g.N.Dial.dials g.N.Dial.given_back
    asked c.args.simple c.ask_anew.result.answer (seen c.args.dial.now entry c.args.machine.now)
    (seen c.ask_anew.new.dial c.ask_anew.result.link c.ask_anew.new.machine)) (sym c.in_default.is)
    (checks_anew g.N.Link.Link.faults g.N.Link.Link.marks g.N.Link.Link.traffic g.N.Dial.faults g.N.Dial.dials g.N.Dial.given_back g.N.Link.Link.content
    asked c.args.simple c.ask_anew.result.answer c.args.dial.now c.args.machine.now (seen c.ask_anew.new.dial c.ask_anew.result.link c.ask_anew.new.machine) c.ask_anew.ensures.asked)

pub returns-in_default-look-clause-asked : goal.returns-in_default-look-clause-asked
returns-in_default-look-clause-asked g c =
    let asked = asked_in c.args.session.now c.args.question.now in
    subst (λ (entry : Option _). Checks g.N.Link.Link.faults g.N.Link.Link.marks g.N.Link.Link.traffic g.N.Link.Link.content g.N.Dial.faults g.N.Dial.dials g.N.Dial.given_back
    asked c.args.simple c.ask_past.result.answer (seen c.args.dial.now entry c.args.machine.now)
    (seen c.ask_past.new.dial c.ask_past.result.link c.ask_past.new.machine)) (sym c.in-Some.is)
    (checks_past g.N.Link.Link.faults g.N.Link.Link.marks g.N.Link.Link.traffic g.N.Dial.faults g.N.Dial.dials g.N.Dial.given_back g.N.Link.Link.content
    asked c.args.simple c.ask_past.result.answer c.args.dial.now c.look.new.dial c.in-Some.link c.args.machine.now (seen c.ask_past.new.dial c.ask_past.result.link c.ask_past.new.machine)
    c.in_default-look.ensures.looked c.ask_past.ensures.asked)

pub returns-then-reuse-clause-asked : goal.returns-then-reuse-clause-asked
returns-then-reuse-clause-asked g c =
    let asked = asked_in c.args.session.now c.args.question.now in
    let linked : IsLinked c.args.machine.now =
    (c.requires.rests.0, c.requires.rests.1 ∙ ap (λ (entry : Option _). is_some entry) c.in-Some.is) in
    let kept = c.if-reuse.ensures in
    let now = reused asked kept.0.0 c.args.machine.now kept.1.0 c.reuse.new.self linked kept.0.1 kept.1.1 kept.1.2 in
    let says = c.kept_answer.ensures kept.0.0 (reused_newest asked kept.0.0 c.args.machine.now c.reuse.new.self kept.0.1 now) in
    subst (λ (entry : Option _). Checks g.N.Link.Link.faults g.N.Link.Link.marks g.N.Link.Link.traffic g.N.Link.Link.content g.N.Dial.faults g.N.Dial.dials g.N.Dial.given_back
    asked c.args.simple c.kept_answer.result (seen c.args.dial.now entry c.args.machine.now)
    (seen c.look.new.dial (Some c.in-Some-look.link) c.reuse.new.self)) (sym c.in-Some.is)
    (checks_kept g.N.Link.Link.faults g.N.Link.Link.marks g.N.Link.Link.traffic g.N.Dial.faults g.N.Dial.dials g.N.Dial.given_back g.N.Link.Link.content
    asked c.args.simple c.kept_answer.result kept.0.0 c.args.dial.now c.look.new.dial c.in-Some.link c.in-Some-look.link c.args.machine.now
    c.reuse.new.self c.in-Some-look.ensures.looked kept.0.1 says now)

pub returns-clause-asked : goal.returns-clause-asked
returns-clause-asked g c =
    let asked = asked_in c.args.session.now c.args.question.now in
    let linked : IsLinked c.args.machine.now =
    (c.requires.rests.0, c.requires.rests.1 ∙ ap (λ (entry : Option _). is_some entry) c.in-Some.is) in
    let missed = c.if-reuse.ensures in
    let idle : does.is_idle c.args.machine.now.stage ≡ true = ap (λ (s : Stage). does.is_idle s) linked.0 in
    let none = missed.1 (ready_at c.args.machine.now.is_linked c.args.machine.now.stage linked.1 idle) in
    let served =
    subst (λ (k : Client). Serves g.N.Link.Link.faults g.N.Link.Link.marks g.N.Link.Link.traffic g.N.Dial.faults g.N.Dial.dials g.N.Dial.given_back
    asked c.args.simple 3 c.ask_over.result.answer (seen c.look.new.dial (Some c.in-Some-look.link) k) (seen c.ask_over.new.dial c.ask_over.result.link c.ask_over.new.machine))
    missed.0 c.ask_over.ensures.asked in
    subst (λ (entry : Option _). Checks g.N.Link.Link.faults g.N.Link.Link.marks g.N.Link.Link.traffic g.N.Link.Link.content g.N.Dial.faults g.N.Dial.dials g.N.Dial.given_back
    asked c.args.simple c.ask_over.result.answer (seen c.args.dial.now entry c.args.machine.now)
    (seen c.ask_over.new.dial c.ask_over.result.link c.ask_over.new.machine)) (sym c.in-Some.is)
    (checks_over g.N.Link.Link.faults g.N.Link.Link.marks g.N.Link.Link.traffic g.N.Dial.faults g.N.Dial.dials g.N.Dial.given_back g.N.Link.Link.content
    asked c.args.simple c.ask_over.result.answer c.args.dial.now c.look.new.dial c.in-Some.link c.in-Some-look.link c.args.machine.now
    (seen c.ask_over.new.dial c.ask_over.result.link c.ask_over.new.machine) c.in-Some-look.ensures.looked none served)
