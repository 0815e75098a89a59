use Rattle.std.proofs.Common.{refl, subst}
use Rattle.bucket_eval.specs.parts.Slots.{Looks}
use Rattle.bucket_eval.proofs.Settled.{settled-fallback, settled-offer}
use Rattle.bucket_eval.proofs.settling.attempt.Goals as goal

-- an offer decides
pub returns-in-Offered-clause-held : goal.returns-in-Offered-clause-held
returns-in-Offered-clause-held c =
    settled-offer c.args.asked.now c.args.at c.args.bucket.now c.requires.kept c.requires.there _ c.in-Offered.offer
    (subst (Looks c.args.asked.now c.args.slots.now c.args.bucket.now.name _) c.in-Offered.is c.least_offer.ensures)
    refl refl

-- none does
pub returns-in-Silent-clause-held : goal.returns-in-Silent-clause-held
returns-in-Silent-clause-held c =
    settled-fallback c.args.asked.now c.args.at c.args.bucket.now c.requires.kept c.requires.there c.fallback.result
    (subst (Looks c.args.asked.now c.args.slots.now c.args.bucket.now.name _) c.in-Silent.is c.least_offer.ensures)
    c.fallback.ensures.kind c.fallback.ensures.bucket c.fallback.ensures.policy c.fallback.ensures.result
