use Rattle.std.proofs.Common.{true, ap}
use Rattle.client_core.specs.Client.{Client}
use Rattle.cynara_client.proofs.Once.{told_dialled}
use Rattle.cynara_client.proofs.trying.talk_anew.Goals as goal

pub returns : goal.returns
returns g c asking was =
    let told = (told_dialled asking c.dialled.result c.args.machine.now c.dialled.new.self was c.dialled.ensures).1 in
    record {
      mid = c.dialled.new.self;
      told = told;
      talks = c.talk_over.ensures asking true (ap (λ (k : Client). k.stage) told, ap (λ (k : Client). k.is_linked) told);
    }

pub talk_over-requires-clause-due : goal.talk_over-requires-clause-due
talk_over-requires-clause-due g c =
    let asking = c.requires.dialling.0 in
    let told = (told_dialled asking c.dialled.result c.args.machine.now c.dialled.new.self c.requires.dialling.1 c.dialled.ensures).1 in
    (asking, (ap (λ (k : Client). k.stage) told, ap (λ (k : Client). k.is_linked) told))

pub unreachable-requires : goal.unreachable-requires
unreachable-requires g c =
    c.in_default.not-Send
    (told_dialled c.requires.dialling.0 c.dialled.result c.args.machine.now c.dialled.new.self c.requires.dialling.1 c.dialled.ensures).0
