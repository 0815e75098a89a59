use Rattle.std.proofs.Common.{is_some, sym, ap, ◌∙◌}
use Rattle.std.proofs.lemmas.Option.{same_Some}
use Rattle.bucket_store.specs.Database.{Database}
use Rattle.bucket_eval.specs.Found.{outcome_at}
use Rattle.bucket_eval.proofs.indexes.Index.decide.Goals as goal

pub lend-requires : goal.lend-requires
lend-requires c =
    ap is_some (ap (λ (d : Database). outcome_at d c.found-found.result) c.self.view_is ∙ c.found-found.ensures)

pub returns : goal.returns
returns c =
    same_Some _ _ (sym c.lend.ensures
    ∙ ap (λ (d : Database). outcome_at d c.found-found.result) c.self.view_is ∙ c.found-found.ensures)
