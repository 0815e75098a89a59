use Rattle.std.proofs.Common.{◌≡◌, ◌≤◌, ◌++◌, ◌∷◌, [], ◌∙◌, List, length, map, subst, sym, MatchResult}
use Rattle.cynara_keys.specs.declared.keys.Policy.{Policy}
use Rattle.bucket_store.specs.Change.{listed}
use Rattle.bucket_store.specs.Database.{Database}
use Rattle.bucket_store.specs.WellFormed.{IsSound}
use Rattle.wire_fields.specs.declared.messages.Message.{Message}
use Rattle.wire_fields.specs.declared.messages.Message.TheVariants.{ListRow, ListEnd}
use Rattle.door_frames.specs.declared.endings.Ended.TheVariants.{Memory}
use Rattle.admin_door.proofs.Finding.{about-absent, listed-within}
use Rattle.admin_door.proofs.questions.list_replies.Goals as goal

pub rows-requires : goal.rows-requires
rows-requires c =
    let sound = subst (λ (database : Database). IsSound database) (sym c.database-database.ensures.database)
    c.database-database.ensures.desk.database.sound in
    subst (λ (rows : List Policy). length rows ≤ 65536) (sym c.in-Ok.ensures.list)
    (listed-within c.args.bucket.now c.args.filter.now c.database-database.result.now sound)

pub returns : goal.returns
returns c =
    let name = c.args.bucket.now in
    let policies = listed name c.args.filter.now c.args.desk.now.database in
    let replies : List Message = map ListRow policies ++ ListEnd (length policies) ∷ [] in
    let absent = about-absent c.args.desk.now c.database-database.result.now name replies c.database-database.ensures.database
    (sym c.place.ensures ∙ c.in-None.is) in
    subst (λ (told : List Message). MatchResult c.no_bucket.result (λ replies. replies.items ≡ told) (λ ended. ended ≡ Memory))
    (sym absent) c.no_bucket.ensures
