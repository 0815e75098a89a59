use Rattle.std.proofs.Common.{◌≡◌, ◌==◌, true, map, ap, ◌∙◌, rules}
use Rattle.cynara_keys.specs.Key.{Question}
use Rattle.cynara_keys.specs.PolicyResult.{allow}
use Rattle.bucket_store.specs.Database.{Database, database_of, root}
use Rattle.bucket_eval.specs.Evaluation.{answer}
use Rattle.effective_audit.specs.Audit.{asked}
use Rattle.effective_audit.specs.parts.Narrowing.{place_number, narrow_of, chosen}
use Rattle.effective_audit.proofs.Agreeing.{taken-kept, taken-allow}
use Rattle.effective_audit.proofs.choosing.is_allowed.Goals as goal

pub of-database-requires : goal.of-database-requires
of-database-requires c =
    let privileges = c.args.privileges.now in
    let made : c.in_ok-few.few.items
    ≡ map (chosen (place_number privileges c.args.privilege.now)) (map (narrow_of privileges c.args.client.now c.args.user.now) c.args.buckets.now) =
    search rules in
    taken-kept privileges c.args.client.now c.args.user.now c.args.privilege.now c.requires.known c.args.buckets.now c.in_ok-few.few.items
    made c.requires.kept

pub returns : goal.returns
returns c =
    let privileges = c.args.privileges.now in
    let made : c.in_ok-few.few.items
    ≡ map (chosen (place_number privileges c.args.privilege.now)) (map (narrow_of privileges c.args.client.now c.args.user.now) c.args.buckets.now) =
    search rules in
    let question : c.of-question.result ≡ asked c.args.user.now c.args.client.now c.args.privilege.now = search rules in
    let database : c.of-database.result ≡ database_of c.in_ok-few.few.items = search rules in
    let told : c.answers_allow.result ≡ ((answer c.of-database.result root c.of-question.result true).result.kind == allow) = search rules in
    told
    ∙ ap (λ (question : Question). (answer c.of-database.result root question true).result.kind == allow) question
    ∙ ap (λ (database : Database). (answer database root (asked c.args.user.now c.args.client.now c.args.privilege.now) true).result.kind == allow) database
    ∙ taken-allow privileges c.args.client.now c.args.user.now c.args.privilege.now c.requires.known c.args.buckets.now
    c.in_ok-few.few.items made
