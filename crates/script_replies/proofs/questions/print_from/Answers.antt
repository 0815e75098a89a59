use Rattle.std.proofs.Common.{◌≡◌, ◌++◌, ◌∙◌, ℕ, List, subst, sym, IfSome, OnOk}
use Rattle.bucket_store.specs.Database.{Database}
use Rattle.bucket_eval.specs.Evaluation.{answer}
use Rattle.desk_state.specs.declared.refusals.Refusal.TheVariants.{NoBucket}
use Rattle.line_answers.specs.Answers.{refusal_text}
use Rattle.script_replies.specs.Reply.{about, verdict_text}
use Rattle.script_replies.proofs.Finding.{about-there, about-absent, answered-at}
use Rattle.script_replies.proofs.questions.print_from.Goals as goal

pub returns-in-Some-clause-ok : goal.returns-in-Some-clause-ok
returns-in-Some-clause-ok c =
    let name = c.args.bucket.now in
    let question = c.args.question.now in
    let same = c.database-database.ensures.database in
    let place = sym c.place_of.ensures ∙ c.in-Some.is in
    let text = verdict_text c.args.desk.now.commit (answer c.args.desk.now.database name question c.args.deep) in
    let found = answered-at name c.database-database.result.now question c.args.deep c.plain_borrowed-found.result c.in-Some.place place
    c.plain_borrowed-found.ensures.answer in
    let there = subst (λ database. about database name text ≡ text) same
    (about-there name c.database-database.result.now c.in-Some.place text place) in
    subst (λ text. OnOk c.print_found.result (c.print_found.new.out ≡ c.args.out.now ++ text))
    ((λ i. verdict_text (c.commit.ensures.commit i) (answer (same i) name question c.args.deep)) ∙ sym there)
    (subst (λ outcome. OnOk c.print_found.result
    (IfSome outcome (λ outcome. c.print_found.new.out ≡ c.args.out.now ++ verdict_text c.commit.result outcome)))
    found c.print_found.ensures.ok)

pub returns-in-None-clause-ok : goal.returns-in-None-clause-ok
returns-in-None-clause-ok c =
    let name = c.args.bucket.now in
    let text = verdict_text c.args.desk.now.commit
    (answer c.args.desk.now.database name c.args.question.now c.args.deep) in
    subst (λ (text : List ℕ). OnOk c.print_absent.result (c.print_absent.new.out ≡ c.args.out.now ++ text))
    (sym (subst (λ (database : Database). about database name text ≡ refusal_text (NoBucket name)) c.database-database.ensures.database
    (about-absent name c.database-database.result.now text
    (sym c.place_of.ensures ∙ c.in-None.is)))) c.print_absent.ensures.ok
