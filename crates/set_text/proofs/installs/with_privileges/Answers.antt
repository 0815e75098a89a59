use Rattle.std.proofs.Common.{Some, sym, ap, ◌∙◌}
use Rattle.std.specs.List.{list_all}
use Rattle.std.proofs.lemmas.Bool.{and_parts}
use Rattle.cynara_keys.specs.Name.{is_name}
use Rattle.cynara_keys.proofs.Order.{text_total}
use Rattle.set_text.specs.Registry.{are_rising}
use Rattle.set_text.specs.parts.Rights.{rights_with}
use Rattle.set_text.proofs.ReadingRising.{rising-same, are_rising-sorted}
use Rattle.set_text.proofs.installs.with_privileges.Goals as goal

pub returns-in-Ok : goal.returns-in-Ok
returns-in-Ok c =
    let names = c.args.names.items in
    let parts = and_parts (list_all is_name names) (are_rising names) c.requires in
    let same = c.in-Ok.ensures ∙ rising-same text_total names (are_rising-sorted names parts.1) in
    ap (rights_with names) (sym c.in-Some.ensures)
    ∙ (λ i. Some (record { scope = c.in-Some.scope; privileges = sym same i }))
