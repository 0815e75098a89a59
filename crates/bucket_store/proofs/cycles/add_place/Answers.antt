use Rattle.std.proofs.Common.{◌≡◌, ◌++◌, ◌∷◌, [], true, set, sym, ◌∙◌, subst, rules}
use Rattle.bucket_store.specs.parts.Reaching.{IsFlagged}
use Rattle.bucket_store.proofs.Reaching.{flagged-more}
use Rattle.bucket_store.proofs.cycles.add_place.Goals as goal

pub returns-clause-flagged : goal.returns-clause-flagged
returns-clause-flagged c =
    let flags = c.args.flags.now in
    let places = c.args.places.now.items in
    let at = c.args.at in
    let pushed : c.push.new.self.items ≡ places ++ at ∷ [] = search rules in
    subst (λ flags. IsFlagged flags c.push.new.self.items) (sym c.set.ensures)
    (subst (IsFlagged (set flags at true)) (sym pushed)
    (flagged-more flags places at c.requires.flagged c.requires.there (sym c.is_set.ensures ∙ c.if-is_set.false)))
