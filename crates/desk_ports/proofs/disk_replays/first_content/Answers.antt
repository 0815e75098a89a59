use Rattle.std.proofs.Common.{ap, ◌∙◌}
use Rattle.std.specs.Option.{option_map}
use Rattle.desk_ports.proofs.Contents.{map_of-find}
use Rattle.desk_ports.proofs.disk_replays.first_content.Goals as goal

pub returns-in-Some : goal.returns-in-Some
returns-in-Some c = ap (option_map (λ file. file.bytes)) c.in-Some.ensures ∙ map_of-find c.args.files.now c.args.name.now

pub returns-in-None : goal.returns-in-None
returns-in-None c = ap (option_map (λ file. file.bytes)) c.in-None.ensures ∙ map_of-find c.args.files.now c.args.name.now
