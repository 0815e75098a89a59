use Rattle.std.proofs.Common.{◌≡◌, ◌≤◌, ◌++◌, ◌∙◌, ℕ, List, length, subst, sym, OnOk}
use Rattle.cynara_keys.specs.declared.keys.Policy.{Policy}
use Rattle.bucket_store.specs.Change.{listed}
use Rattle.bucket_store.specs.Database.{Database}
use Rattle.bucket_store.specs.WellFormed.{IsSound}
use Rattle.desk_state.specs.declared.refusals.Refusal.TheVariants.{NoBucket}
use Rattle.line_answers.specs.Answers.{refusal_text}
use Rattle.script_replies.specs.Reply.{about, list_text}
use Rattle.script_replies.proofs.Finding.{has-found, about-absent}
use Rattle.script_replies.proofs.Listing.{only-memory, listed-within}
use Rattle.script_replies.proofs.questions.print_list.Goals as goal

pub returns-in-None-clause-ok : goal.returns-in-None-clause-ok
returns-in-None-clause-ok c =
    let name = c.args.bucket.now in
    let text = list_text (listed name c.args.filter.now c.args.desk.now.database) in
    subst (λ (text : List ℕ). OnOk c.print_absent.result (c.print_absent.new.out ≡ c.args.out.now ++ text))
    (sym (subst (λ (database : Database). about database name text ≡ refusal_text (NoBucket name)) c.database-database.ensures.database
    (about-absent name c.database-database.result.now text
    (sym c.place.ensures ∙ c.in-None.is)))) c.print_absent.ensures.ok

pub print_rows-requires : goal.print_rows-requires
print_rows-requires c =
    let sound = subst (λ (database : Database). IsSound database) (sym c.database-database.ensures.database)
    c.database-database.ensures.desk.database.sound in
    subst (λ (rows : List Policy). length rows ≤ 65536) (sym (c.deref.ensures.value ∙ c.in-Ok.ensures.list))
    (listed-within c.args.bucket.now c.args.filter.now c.database-database.result.now sound)

pub want_of_memory-requires : goal.want_of_memory-requires
want_of_memory-requires c =
    let sound = subst (λ (database : Database). IsSound database) (sym c.database-database.ensures.database)
    c.database-database.ensures.desk.database.sound in
    only-memory c.args.bucket.now c.database-database.result.now sound
    (has-found c.args.bucket.now c.database-database.result.now c.in-Some.field-0 (sym c.place.ensures ∙ c.in-Some.is))
    c.in-Err.refusal c.in-Err.ensures.refused
