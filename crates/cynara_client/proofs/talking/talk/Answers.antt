use Rattle.std.proofs.Common.{◌≡◌, Bool, true, false, List, ℕ, subst}
use Rattle.std.specs.Bool.{OnTrue, OnFalse}
use Rattle.link_ports.specs.Told.{KeepsTold, ChangesTold}
use Rattle.link_ports.specs.Traffic.{with_sent}
use Rattle.client_connection.specs.Reading.{IsTrouble}
use Rattle.cynara_client.specs.parts.Talking.{tried}
use Rattle.cynara_client.proofs.Hearing.{sent_and_heard, not_sent}
use Rattle.cynara_client.proofs.talking.talk.Goals as goal

pub returns-then-send_frame-clause-came : goal.returns-then-send_frame-clause-came
returns-then-send_frame-clause-came g c asking was =
    let start = g.L.Link.traffic c.args.link.now in
    let mid = g.L.Link.traffic c.send_frame.new.link in
    let end = g.L.Link.traffic c.hear.new.link in
    let trouble = IsTrouble (g.L.Link.marks c.hear.new.link) (g.L.Link.faults c.hear.new.link) in
    let sent : ChangesTold start (with_sent c.frame.result.now) mid =
    subst (λ (b : Bool). OnTrue b (ChangesTold start (with_sent c.frame.result.now) mid)) c.if-send_frame.true c.send_frame.ensures.sent in
    sent_and_heard c.args.machine.now.frame start mid end trouble (tried asking) c.hear.result c.args.machine.now c.hear.new.machine
    (subst (λ (bytes : List ℕ). ChangesTold start (with_sent bytes) mid) c.frame.ensures sent) (c.hear.ensures.came asking was)

pub returns-clause-came : goal.returns-clause-came
returns-clause-came g c asking was =
    let start = g.L.Link.traffic c.args.link.now in
    let end = g.L.Link.traffic c.send_frame.new.link in
    let trouble = IsTrouble (g.L.Link.marks c.send_frame.new.link) (g.L.Link.faults c.send_frame.new.link) in
    not_sent c.args.machine.now.frame start end trouble asking c.down.result c.args.machine.now c.down.new.self
    (subst (λ (b : Bool). OnFalse b (KeepsTold start end)) c.if-send_frame.false c.send_frame.ensures.unsent)
    (subst (λ (b : Bool). OnFalse b trouble) c.if-send_frame.false c.send_frame.ensures.trouble) was c.down.ensures
