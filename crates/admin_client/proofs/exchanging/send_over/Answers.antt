use Rattle.std.proofs.Common.{◌∙◌, Some, refl, ap}
use Rattle.client_core.specs.Admin.{Admin}
use Rattle.client_core.specs.declared.steps.Fault.TheVariants as fault
use Rattle.admin_client.specs.Sending.{Sends}
use Rattle.admin_client.specs.parts.States.{seen}
use Rattle.admin_client.proofs.Sending.{too_long, lacks_room, sends, send_due, never_dials}
use Rattle.admin_client.proofs.exchanging.send_over.Goals as goal

pub talk_over-requires-clause-due : goal.talk_over-requires-clause-due
talk_over-requires-clause-due g c =
    let old = c.args.machine.now in
    (c.args.message.now, old.sequence, send_due c.args.message.now old c.begin.new.machine c.requires.linked.0 c.in-Send.ensures c.requires.linked.1)

pub returns-in-Send-clause-sent : goal.returns-in-Send-clause-sent
returns-in-Send-clause-sent g c =
    let old = c.args.machine.now in
    let message = c.args.message.now in
    let mid = c.begin.new.machine in
    let so = sends message old mid c.requires.linked.0 c.in-Send.ensures c.requires.linked.1 in
    let due = send_due message old mid c.requires.linked.0 c.in-Send.ensures c.requires.linked.1 in
    let talks = c.talk_over.ensures.talked message old.sequence due in
    Sends.talks so.0 (record {
      base = c.args.link;
      link = talks.link;
      dial = c.args.dial.now;
      begins = record { is_base = refl; dialled = refl; counted = refl; given = refl };
      exchanged = talks.exchanged;
      ends = talks.ends;
      sequence = c.talk_over.ensures.sequence ∙ ap (λ (k : Admin). k.sequence) so.1;
    })

pub returns-in-NoRoom-clause-sent : goal.returns-in-NoRoom-clause-sent
returns-in-NoRoom-clause-sent g c =
    let lacks = lacks_room c.args.message.now c.args.machine.now c.begin.new.machine c.requires.linked.0 (fault.Memory c.in-NoRoom.error)
    c.in-NoRoom.ensures in
    Sends.no_room (record {
      error = c.in-NoRoom.error;
      is = refl;
      link = refl;
      gives = record { given = c.give_back.ensures.given; dialled = c.give_back.ensures.dials; counted = c.give_back.ensures.count };
      sequence = ap (λ (k : Admin). k.sequence) lacks;
    })

pub returns-in-NoRoom-clause-rests : goal.returns-in-NoRoom-clause-rests
returns-in-NoRoom-clause-rests g c =
    let lacks = lacks_room c.args.message.now c.args.machine.now c.begin.new.machine c.requires.linked.0 (fault.Memory c.in-NoRoom.error)
    c.in-NoRoom.ensures in
    (ap (λ (k : Admin). k.stage) lacks, ap (λ (k : Admin). k.is_linked) lacks)

pub unreachable-requires : goal.unreachable-requires
unreachable-requires g c =
    never_dials c.args.message.now c.args.machine.now c.begin.new.machine c.requires.linked.0 c.in-Dial.ensures c.requires.linked.1

pub returns-in-TooLong-clause-sent : goal.returns-in-TooLong-clause-sent
returns-in-TooLong-clause-sent g c =
    let long = too_long c.args.message.now c.args.machine.now c.begin.new.machine c.requires.linked.0 c.in-TooLong.length c.in-TooLong.ensures in
    Sends.too_long (record {
      size = c.in-TooLong.length;
      long = long.0;
      is = refl;
      same = ap (λ (k : Admin). seen c.args.dial.now (Some c.args.link) k) long.1;
    })

pub returns-in-TooLong-clause-rests : goal.returns-in-TooLong-clause-rests
returns-in-TooLong-clause-rests g c =
    let long = too_long c.args.message.now c.args.machine.now c.begin.new.machine c.requires.linked.0 c.in-TooLong.length c.in-TooLong.ensures in (
      ap (λ (k : Admin). k.stage) long.1 ∙ c.requires.linked.0,
      ap (λ (k : Admin). k.is_linked) long.1 ∙ c.requires.linked.1,
    )
