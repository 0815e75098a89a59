use Rattle.std.proofs.Common.{◌∙◌, None, refl, ap}
use Rattle.client_core.specs.Admin.{Admin}
use Rattle.desk_ports.specs.declared.port_faults.PortFault.TheVariants as port_fault
use Rattle.admin_client.specs.Sending.{Sends}
use Rattle.admin_client.specs.parts.States.{seen}
use Rattle.admin_client.proofs.Sending.{told_dialled, dialled_due}
use Rattle.admin_client.proofs.exchanging.talk_anew.Goals as goal

pub talk_over-requires-clause-due : goal.talk_over-requires-clause-due
talk_over-requires-clause-due g c =
    let message = c.requires.0 in
    let old = c.args.machine.now in
    (message, old.sequence, dialled_due message c.dialled.result old c.dialled.new.self c.requires.1 c.dialled.ensures)

pub returns-in-Send-clause-sent : goal.returns-in-Send-clause-sent
returns-in-Send-clause-sent g c message due =
    let old = c.args.machine.now in
    let mid = c.dialled.new.self in
    let told = told_dialled message c.dialled.result old mid due c.dialled.ensures in
    let talks = c.talk_over.ensures.talked message old.sequence (dialled_due message c.dialled.result old mid due c.dialled.ensures) in
    Sends.talks due.fits (record {
      base = c.in-Ok.link;
      link = talks.link;
      dial = c.dial.new.self;
      begins = record {
        is_base = (c.in-Ok.ensures.unmarked, c.in-Ok.ensures.fresh, c.in-Ok.ensures.silent);
        dialled = c.dial.ensures.dials;
        counted = c.in-Ok.ensures.count;
        given = c.dial.ensures.kept;
      };
      exchanged = talks.exchanged;
      ends = talks.ends;
      sequence = c.talk_over.ensures.sequence ∙ ap (λ (k : Admin). k.sequence) told.1;
    })

pub unreachable-requires : goal.unreachable-requires
unreachable-requires g c =
    c.in_default.not-Send (told_dialled c.requires.0 c.dialled.result c.args.machine.now c.dialled.new.self c.requires.1 c.dialled.ensures).0

pub returns-in-Err-Failed-clause-sent : goal.returns-in-Err-Failed-clause-sent
returns-in-Err-Failed-clause-sent g c message due =
    let count = rw c.in-Err-Failed.field-0-is at c.in-Err-Failed.ensures.count in
    Sends.no_dial due.fits (record {
      fault = port_fault.Failed;
      is = refl;
      refused = record { was = refl; counted = count; dialled = c.dial.ensures.dials; given = c.dial.ensures.kept };
      same = ap (λ (k : Admin). seen c.dial.new.self None k) c.leave.ensures;
    })

pub returns-in-Err-Memory-clause-sent : goal.returns-in-Err-Memory-clause-sent
returns-in-Err-Memory-clause-sent g c message due =
    let count = rw c.in-Err-Memory.field-0-is at c.in-Err-Memory.ensures.count in
    Sends.no_dial due.fits (record {
      fault = port_fault.Memory c.in-Err-Memory.error;
      is = refl;
      refused = record { was = refl; counted = count; dialled = c.dial.ensures.dials; given = c.dial.ensures.kept };
      same = ap (λ (k : Admin). seen c.dial.new.self None k) c.leave-in-Err-Memory.ensures;
    })
