-- What an answer of the policies is for a check.
use Rattle.std.proofs.Common.{◌≡◌, ◌∙◌, ℕ, Bool, true, false, ◌==◌, List, refl, sym, ap}
use Rattle.cynara_keys.specs.PolicyResult.{is_agent}
use Rattle.cynara_keys.specs.declared.results.Kind.{Kind}
use Rattle.bucket_eval.specs.declared.lending.BorrowedAnswer.{BorrowedAnswer}
use Rattle.bucket_eval.specs.Found.{answer_of}
use Rattle.bucket_eval.specs.Lent.{outcome_lent}
use Rattle.wire_reading.specs.Frame.{spelling, with_sequence}
use Rattle.wire_reading.specs.Lent.{judged}
use Rattle.wire_fields.specs.declared.messages.Message.TheVariants as message
use Rattle.desk_world.specs.Links.{read_as, reading_of}
use Rattle.desk_world.specs.declared.links.Reading.TheVariants.{Ready, Due}
use Rattle.desk_world.specs.declared.replies.Reply.TheVariants.{NotResolved}
use Rattle.client_door.specs.Reading.{Finds, TellsNotResolved}
use Rattle.client_door.specs.declared.readings.Found.{Found}
use Rattle.client_door.specs.declared.readings.Found.TheVariants.{Judged as FoundJudged, Unresolved as FoundUnresolved, Due as FoundDue}
use Rattle.client_door.specs.declared.readings.Found.TheVariants.{Memory as FoundMemory}

-- the policies decide
pub reads_judged : (sequence : ℕ) (simple : Bool) (commit : ℕ) (lent : BorrowedAnswer) (frame : List ℕ) (allowed : Bool)
    → is_agent (outcome_lent lent).result.kind ≡ false → frame ≡ spelling (with_sequence sequence (judged commit lent))
    → allowed ≡ ((outcome_lent lent).result.kind == 65535)
    → Finds sequence (reading_of commit simple (outcome_lent lent)) frame (FoundJudged commit allowed)
reads_judged sequence simple commit lent frame allowed no_agent spelled is_allow = (
  record { commit = commit; answer = answer_of (outcome_lent lent) },
  ap (λ agent. read_as agent commit simple (outcome_lent lent)) no_agent,
  spelled,
  refl,
  is_allow,
)

-- an agent would decide, and none may be asked
pub reads_simple : (sequence : ℕ) (simple : Bool) (commit : ℕ) (lent : BorrowedAnswer) (kind : Kind) (frame : List ℕ)
    → is_agent (outcome_lent lent).result.kind ≡ true → simple ≡ true → kind.0 ≡ (outcome_lent lent).result.kind
    → frame ≡ spelling (with_sequence sequence (message.NotResolved commit kind))
    → Finds sequence (reading_of commit simple (outcome_lent lent)) frame FoundUnresolved
reads_simple sequence simple commit lent kind frame agent is same spelled =
    let kinds : record { 0 = (outcome_lent lent).result.kind } ≡ kind = λ i. record { 0 = sym same i } in (
      commit,
      kind,
      ap (λ a. read_as a commit simple (outcome_lent lent)) agent ∙ (ap (λ s. read_as true commit s (outcome_lent lent)) is
          ∙ ap (λ (k : Kind). Ready (NotResolved commit k)) kinds),
      spelled,
    )

-- the same, of what was spelled for it
pub reads_not_resolved : (sequence : ℕ) (simple : Bool) (commit : ℕ) (lent : BorrowedAnswer) (kind : Kind) (frame : List ℕ) (found : Found)
    → is_agent (outcome_lent lent).result.kind ≡ true → simple ≡ true → kind.0 ≡ (outcome_lent lent).result.kind
    → TellsNotResolved sequence commit kind frame found
    → Finds sequence (reading_of commit simple (outcome_lent lent)) frame found
reads_not_resolved sequence simple commit lent kind frame FoundUnresolved agent is same told =
    reads_simple sequence simple commit lent kind frame agent is same told
reads_not_resolved sequence simple commit lent kind frame (FoundJudged at allowed) agent is same told = absurd told
reads_not_resolved sequence simple commit lent kind frame (FoundDue other due metadata) agent is same told = absurd told
reads_not_resolved sequence simple commit lent kind frame FoundMemory agent is same told = tt

-- an agent is to be asked
pub reads_due : (simple : Bool) (commit : ℕ) (lent : BorrowedAnswer) (kind : Kind) (metadata : List ℕ)
    → is_agent (outcome_lent lent).result.kind ≡ true → simple ≡ false → kind.0 ≡ (outcome_lent lent).result.kind
    → metadata ≡ (outcome_lent lent).result.metadata → reading_of commit simple (outcome_lent lent) ≡ Due commit kind metadata
reads_due simple commit lent kind metadata agent is same carried =
    let kinds : record { 0 = (outcome_lent lent).result.kind } ≡ kind = λ i. record { 0 = sym same i } in
    ap (λ a. read_as a commit simple (outcome_lent lent)) agent ∙ (ap (λ s. read_as true commit s (outcome_lent lent)) is
    ∙ λ i. Due commit (kinds i) (sym carried i))
