use Rattle.std.proofs.Common.{◌≡◌, ◌∷◌, [], ◌∙◌, List, subst, sym, IfSome, MatchResult}
use Rattle.bucket_eval.specs.Evaluation.{answer}
use Rattle.bucket_eval.specs.Found.{answer_of}
use Rattle.wire_fields.specs.declared.messages.Message.{Message}
use Rattle.wire_fields.specs.declared.messages.Message.TheVariants.{Judged}
use Rattle.door_frames.specs.declared.endings.Ended.TheVariants.{Memory}
use Rattle.admin_door.proofs.Finding.{about-there, about-absent, answered-at}
use Rattle.admin_door.proofs.questions.check_replies.Goals as goal

pub returns-in-Some : goal.returns-in-Some
returns-in-Some c =
    let name = c.args.bucket.now in
    let question = c.args.question.now in
    let deep = c.args.recursive in
    let same = c.database-database.ensures.database in
    let place = sym c.place.ensures ∙ c.in-Some.is in
    let replies : List Message =
    Judged (record {
      commit = c.args.desk.now.commit;
      answer = answer_of (answer c.args.desk.now.database name question deep);
    }) ∷ [] in
    let found = answered-at name c.database-database.result.now question deep c.plain-found.result c.in-Some.start place
    c.plain-found.ensures.answer in
    let there = about-there c.args.desk.now c.database-database.result.now name c.in-Some.start replies same place in
    subst (λ (told : List Message). MatchResult c.judged.result (λ replies. replies.items ≡ told) (λ ended. ended ≡ Memory))
    ((λ i. Judged (record {
      commit = c.commit.ensures.commit i;
      answer = answer_of (answer (same i) name question deep);
    }) ∷ []) ∙ sym there)
    (subst (λ outcome. MatchResult c.judged.result
    (λ replies. IfSome outcome (λ outcome. replies.items ≡ Judged (record { commit = c.commit.result; answer = answer_of outcome }) ∷ []))
    (λ ended. ended ≡ Memory)) found c.judged.ensures)

pub returns-in-None : goal.returns-in-None
returns-in-None c =
    let name = c.args.bucket.now in
    let replies : List Message =
    Judged (record {
      commit = c.args.desk.now.commit;
      answer = answer_of (answer c.args.desk.now.database name c.args.question.now c.args.recursive);
    }) ∷ [] in
    let absent = about-absent c.args.desk.now c.database-database.result.now name replies c.database-database.ensures.database
    (sym c.place.ensures ∙ c.in-None.is) in
    subst (λ (told : List Message). MatchResult c.no_bucket.result (λ replies. replies.items ≡ told) (λ ended. ended ≡ Memory))
    (sym absent) c.no_bucket.ensures
