use Rattle.std.proofs.Common.{refl, true, ◌≡◌, subst, sym, IsSome, IfSome}
use Rattle.bucket_store.specs.Database.{root, has_bucket}
use Rattle.bucket_eval.specs.Found.{outcome_at, answer_of}
use Rattle.bucket_eval.specs.Evaluation.{Outcome}
use Rattle.desk_world.proofs.Roots.{root_found}
use Rattle.desk_world.proofs.evaluations.root_answer.Goals as goal

pub root_place-root-requires : goal.root_place-root-requires
root_place-root-requires c =
    subst (λ database. has_bucket root database ≡ true) (sym c.database-database.ensures.database)
    c.database-database.ensures.desk.database.sound.root

pub describe-requires : goal.describe-requires
describe-requires c =
    let found = root_found c.args.desk.now c.args.question.now c.database-database.result.now c.root_place-root.result
    (outcome_at c.database-database.result.now c.plain-found.result) c.database-database.ensures.database
    c.root_place-root.ensures.in_range c.root_place-root.ensures.root c.plain-found.ensures.answer in
    subst IsSome (sym found) refl

pub returns : goal.returns
returns c =
    let found = root_found c.args.desk.now c.args.question.now c.database-database.result.now c.root_place-root.result
    (outcome_at c.database-database.result.now c.plain-found.result) c.database-database.ensures.database
    c.root_place-root.ensures.in_range c.root_place-root.ensures.root c.plain-found.ensures.answer in
    subst (λ outcome. IfSome outcome (λ (outcome : Outcome). c.describe.result ≡ answer_of outcome)) found c.describe.ensures
