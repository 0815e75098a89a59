use Rattle.std.proofs.Common.{◌+◌, ℕ, List, Bor, ap, ◌∙◌}
use Rattle.std.specs.Option.{option_map}
use Rattle.bucket_store.specs.parts.Numbering.{found_number}
use Rattle.bucket_store.proofs.NameNumbering.{position-viewed}
use Rattle.bucket_store.proofs.name_numbers.NameNumbers.find.Goals as goal

pub returns-in-Some : goal.returns-in-Some
returns-in-Some c =
    ap (option_map (λ place. place + 1))
    (c.in-Some.ensures.index ∙ position-viewed (λ (name : Bor (List ℕ)). name.now) c.args.name.now c.self.inside.names.keys)
    ∙ ap (λ names. found_number names c.args.name.now) c.self.view_is

pub returns-in-None : goal.returns-in-None
returns-in-None c =
    ap (option_map (λ place. place + 1))
    (c.in-None.ensures.index ∙ position-viewed (λ (name : Bor (List ℕ)). name.now) c.args.name.now c.self.inside.names.keys)
    ∙ ap (λ names. found_number names c.args.name.now) c.self.view_is
