use Rattle.std.proofs.Common.{◌∙◌, None, refl, ap, subst}
use Rattle.client_core.specs.Admin.{Admin}
use Rattle.admin_client.specs.Sending.{State, Sends, listed}
use Rattle.client_core.specs.declared.steps.Fault.TheVariants as fault
use Rattle.admin_client.specs.parts.States.{seen}
use Rattle.admin_client.proofs.Sending.{too_long, lacks_room, dials_so, dial_due, never_sends}
use Rattle.admin_client.proofs.exchanging.send_anew.Goals as goal

pub talk_anew-requires : goal.talk_anew-requires
talk_anew-requires g c =
    (c.args.message.now, dial_due c.args.message.now c.args.machine.now c.begin.new.machine c.requires.0 c.in-Dial.ensures c.requires.1)

pub returns-in-Dial-clause-sent : goal.returns-in-Dial-clause-sent
returns-in-Dial-clause-sent g c =
    let old = c.args.machine.now in
    let message = c.args.message.now in
    let mid = c.begin.new.machine in
    let so = dials_so message old mid c.requires.0 c.in-Dial.ensures c.requires.1 in
    let due = dial_due message old mid c.requires.0 c.in-Dial.ensures c.requires.1 in
    subst (λ (start : State _ _). Sends g.N.Link.Link.faults g.N.Link.Link.marks g.N.Link.Link.traffic g.N.Dial.faults g.N.Dial.dials
    g.N.Dial.given_back message (listed (λ replies. replies.items) c.talk_anew.result.answer) start
    (seen c.talk_anew.new.dial c.talk_anew.result.link c.talk_anew.new.machine))
    (ap (λ (k : Admin). seen c.args.dial.now None k) so.1) (c.talk_anew.ensures.sent message due)

pub returns-in-NoRoom-clause-sent : goal.returns-in-NoRoom-clause-sent
returns-in-NoRoom-clause-sent g c =
    let lacks = lacks_room c.args.message.now c.args.machine.now c.begin.new.machine c.requires.0 (fault.Memory c.in-NoRoom.error)
    c.in-NoRoom.ensures in
    Sends.no_room (record {
      error = c.in-NoRoom.error;
      is = refl;
      link = refl;
      gives = refl;
      sequence = ap (λ (k : Admin). k.sequence) lacks;
    })

pub returns-in-NoRoom-clause-rests : goal.returns-in-NoRoom-clause-rests
returns-in-NoRoom-clause-rests g c =
    let lacks = lacks_room c.args.message.now c.args.machine.now c.begin.new.machine c.requires.0 (fault.Memory c.in-NoRoom.error)
    c.in-NoRoom.ensures in
    (ap (λ (k : Admin). k.stage) lacks, ap (λ (k : Admin). k.is_linked) lacks)

pub unreachable-requires : goal.unreachable-requires
unreachable-requires g c =
    never_sends c.args.message.now c.args.machine.now c.begin.new.machine c.requires.0 c.in-Send.ensures c.requires.1

pub returns-in-TooLong-clause-sent : goal.returns-in-TooLong-clause-sent
returns-in-TooLong-clause-sent g c =
    let long = too_long c.args.message.now c.args.machine.now c.begin.new.machine c.requires.0 c.in-TooLong.length c.in-TooLong.ensures in
    Sends.too_long (record {
      size = c.in-TooLong.length;
      long = long.0;
      is = refl;
      same = ap (λ (k : Admin). seen c.args.dial.now None k) long.1;
    })

pub returns-in-TooLong-clause-rests : goal.returns-in-TooLong-clause-rests
returns-in-TooLong-clause-rests g c =
    let long = too_long c.args.message.now c.args.machine.now c.begin.new.machine c.requires.0 c.in-TooLong.length c.in-TooLong.ensures in (
      ap (λ (k : Admin). k.stage) long.1 ∙ c.requires.0,
      ap (λ (k : Admin). k.is_linked) long.1 ∙ c.requires.1,
    )
