-- What a message of an administrator is answered at a policy state.
use Rattle.std.specs.Prelude.{ℕ, Bool, if◌then◌else◌, List, [], ◌∷◌, ◌++◌, length, map}
use Rattle.cynara_keys.specs.Key.{Question}
use Rattle.cynara_keys.specs.declared.keys.Filter.{Filter}
use Rattle.bucket_store.specs.Database.{has_bucket}
use Rattle.bucket_store.specs.Change.{listed}
use Rattle.bucket_eval.specs.Evaluation.{answer}
use Rattle.bucket_eval.specs.Found.{answer_of}
use Rattle.desk_state.specs.DeskState.{DeskState}
use Rattle.desk_state.specs.Next.{next, erased_by}
use Rattle.desk_state.specs.declared.commands.Command.{Command}
use Rattle.desk_state.specs.declared.refusals.Refusal.TheVariants.{NoBucket}
use Rattle.wire_fields.specs.declared.messages.Message.{Message}
use Rattle.wire_fields.specs.declared.messages.Message.TheVariants.{Refused, ListRow, ListEnd, Judged, Done}

-- a question about a bucket that is not there is refused
abbrev pub about : DeskState → List ℕ → List Message → List Message
about desk bucket replies = if has_bucket bucket desk.database then replies else Refused (NoBucket bucket) ∷ []

-- the policies that the filter admits, in order of key, a row each, and how many they are
abbrev pub list_replies : DeskState → List ℕ → Filter → List Message
list_replies desk bucket filter = about desk bucket
    (map ListRow (listed bucket filter desk.database) ++ ListEnd (length (listed bucket filter desk.database)) ∷ [])

-- what the bucket answers, with the buckets that it points to or by its own policies alone, and the commit of the state
abbrev pub check_replies : DeskState → List ℕ → Bool → Question → List Message
check_replies desk bucket recursive question = about desk bucket
    (Judged (record { commit = desk.commit; answer = answer_of (answer desk.database bucket question recursive) }) ∷ [])

-- an accepted command, from the state before it
abbrev pub done_replies : DeskState → Command → List Message
done_replies desk command = Done (next desk command).commit (erased_by desk command) ∷ []

-- the service stops
abbrev pub stop_replies : DeskState → List Message
stop_replies desk = Done desk.commit 0 ∷ []
