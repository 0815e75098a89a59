use Rattle.std.proofs.Common.{◌∙◌, Bool, List, ℕ, refl, subst}
use Rattle.std.specs.Bool.{OnTrue, OnFalse}
use Rattle.link_ports.specs.Told.{KeepsTold, ChangesTold}
use Rattle.link_ports.specs.Traffic.{with_sent}
use Rattle.wire_reading.specs.Frame.{with_sequence}
use Rattle.client_core.specs.Admin.{exchange_of}
use Rattle.client_connection.specs.Reading.{IsTrouble}
use Rattle.admin_client.specs.Sending.{listed}
use Rattle.admin_client.proofs.Sending.{said, talked, unsent}
use Rattle.admin_client.proofs.talking.talk.Goals as goal

pub hear_all-requires : goal.hear_all-requires
hear_all-requires g c =
    let due = c.requires.2 in
    (exchange_of (with_sequence c.requires.1 c.requires.0), due.stage_is, refl)

pub returns-then-send_frame-clause-exchanged : goal.returns-then-send_frame-clause-exchanged
returns-then-send_frame-clause-exchanged g c message sequence due =
    let start = g.L.Link.traffic c.args.link.now in
    let mid = g.L.Link.traffic c.send_frame.new.link in
    let end = g.L.Link.traffic c.hear_all.new.link in
    let result = listed (λ replies. replies.items) c.hear_all.result in
    let sent : ChangesTold start (with_sent c.frame.result.now) mid =
    subst (λ (b : Bool). OnTrue b (ChangesTold start (with_sent c.frame.result.now) mid)) c.if-send_frame.true c.send_frame.ensures.sent in
    talked sequence message result start mid end
    (subst (λ (bytes : List ℕ). ChangesTold start (with_sent bytes) mid) (c.frame.ensures ∙ due.frame_is) sent)
    (said sequence message result mid end (c.hear_all.ensures.came (exchange_of (with_sequence sequence message)) due.stage_is))

pub returns-clause-exchanged : goal.returns-clause-exchanged
returns-clause-exchanged g c message sequence due =
    let start = g.L.Link.traffic c.args.link.now in
    let end = g.L.Link.traffic c.send_frame.new.link in
    unsent sequence message start end
    (subst (λ (b : Bool). OnFalse b (KeepsTold start end)) c.if-send_frame.false c.send_frame.ensures.unsent)

pub returns-clause-left : goal.returns-clause-left
returns-clause-left g c =
    let trouble = IsTrouble (g.L.Link.marks c.send_frame.new.link) (g.L.Link.faults c.send_frame.new.link) in
    (c.leave.ensures, subst (λ (b : Bool). OnFalse b trouble) c.if-send_frame.false c.send_frame.ensures.trouble)
