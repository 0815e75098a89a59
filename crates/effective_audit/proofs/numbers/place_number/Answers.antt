use Rattle.std.proofs.Common.{◌+◌, ap, sym, ◌∙◌}
use Rattle.cynara_keys.specs.Text.{same_text}
use Rattle.effective_audit.proofs.Numbering.{place-nowhere}
use Rattle.effective_audit.proofs.numbers.place_number.Goals as goal

pub returns-in-None : goal.returns-in-None
returns-in-None c =
    ap (λ n. n + 1) (sym (place-nowhere (same_text c.args.name.now) c.args.names.now (sym c.place_of.ensures ∙ c.in-None.is)))
