use Rattle.std.proofs.Common.{◌++◌, map, sym, ◌∙◌}
use Rattle.std.proofs.lemmas.List.{map-append}
use Rattle.bucket_eval.proofs.Growing.{texts-cloned}
use Rattle.bucket_eval.proofs.names.Names.again.Goals as goal

pub returns : goal.returns
returns c =
    map-append (λ text. text.items) c.in_ok-front.front.value.keys c.in_ok-behind.behind.keys
    ∙ (λ i. map (λ text. text.items) ((c.in_ok-front.ensures i).keys)
    ++ sym (texts-cloned (λ text. text.items) _ c.self.inside.behind.keys c.in_ok-behind.behind.keys c.in_ok-behind.ensures.cases) i)
    ∙ sym (map-append (λ text. text.items) c.self.inside.front.value.keys c.self.inside.behind.keys)
    ∙ c.self.view_is
