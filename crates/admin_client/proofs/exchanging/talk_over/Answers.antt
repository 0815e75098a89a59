use Rattle.std.proofs.Common.{◌∙◌, Ok, Err, refl}
use Rattle.client_connection.specs.Reading.{IsTrouble}
use Rattle.admin_client.proofs.Sending.{counts, left_rests, cut_rests, same_number}
use Rattle.admin_client.proofs.exchanging.talk_over.Goals as goal

pub returns-in-Ok-clause-talked : goal.returns-in-Ok-clause-talked
returns-in-Ok-clause-talked g c message sequence due =
    record { link = c.talk.new.link; exchanged = c.in-Ok.ensures.exchanged message sequence due; ends = (refl, refl) }

pub returns-in-Ok-clause-sequence : goal.returns-in-Ok-clause-sequence
returns-in-Ok-clause-sequence g c =
    same_number (IsTrouble (g.N.Link.Link.marks c.talk.new.link) (g.N.Link.Link.faults c.talk.new.link)) (Ok c.in-Ok.replies.items)
    c.args.machine.now c.talk.new.machine c.in-Ok.ensures.left

pub returns-in-Ok-clause-rests : goal.returns-in-Ok-clause-rests
returns-in-Ok-clause-rests g c =
    left_rests c.talk.new.link (IsTrouble (g.N.Link.Link.marks c.talk.new.link) (g.N.Link.Link.faults c.talk.new.link)) c.in-Ok.replies.items
    c.args.machine.now c.talk.new.machine c.requires.due.2.linked c.in-Ok.ensures.left

pub returns-in-Err-clause-talked : goal.returns-in-Err-clause-talked
returns-in-Err-clause-talked g c message sequence due =
    let link = c.talk.new.link in
    record {
      link = link;
      exchanged = c.in-Err.ensures.exchanged message sequence due;
      ends = (
        refl,
        record {
          gives = record { given = c.give_back.ensures.given; dialled = c.give_back.ensures.dials; counted = c.give_back.ensures.count };
          counted =
              counts c.in-Err.refusal (g.N.Link.Link.marks link) (g.N.Link.Link.faults link) (g.N.Dial.faults c.args.dial.now)
              (g.N.Dial.faults c.give_back.new.self) c.in-Err.ensures.left.1 (c.talk.ensures.ends ∙ c.requires.unshared) c.give_back.ensures.count;
        },
      );
    }

pub returns-in-Err-clause-sequence : goal.returns-in-Err-clause-sequence
returns-in-Err-clause-sequence g c =
    same_number (IsTrouble (g.N.Link.Link.marks c.talk.new.link) (g.N.Link.Link.faults c.talk.new.link)) (Err c.in-Err.refusal)
    c.args.machine.now c.talk.new.machine c.in-Err.ensures.left

pub returns-in-Err-clause-rests : goal.returns-in-Err-clause-rests
returns-in-Err-clause-rests g c = cut_rests c.args.machine.now c.talk.new.machine c.in-Err.ensures.left.0
