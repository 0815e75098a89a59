-- What the calls of a client keep, and what its answers mean.
use Rattle.std.proofs.Common.{◌≡◌, ◌≤◌, ◌⊎◌, ℕ, zero, suc, ◌-◌, Bool, true, false, List, [], ◌∷◌, ◌++◌, take, length, max, Contains, Option, Some, None}
use Rattle.std.proofs.Common.{refl, sym, ap, ◌∙◌, subst, inl, inr, arith}
use Rattle.std.specs.Prelude.{nat_le, nat_lt, ◌==◌, MatchBool, if◌then◌else◌}
use Rattle.std.specs.Map.{lookup, remove_entry}
use Rattle.std.specs.declared.alloc.AllocError.{AllocError}
use Rattle.lru.proofs.CallerLemmas.{Contains-take, Contains-lookup, Contains-remove_entry, Contains-promoted}
use Rattle.lru.proofs.Splits.{Contains-head, Contains-tail, Contains-cons, Contains-nil}
use Rattle.bucket_eval.specs.declared.answers.Verdict.{Verdict}
use Rattle.cynara_keys.specs.Key.{Question}
use Rattle.cynara_keys.specs.PolicyResult.{is_agent}
use Rattle.answer_cache.specs.Cache.{Asked, Cache, same_asked, if_not_older, answer_in, used, kept, without}
use Rattle.wire_reading.specs.Stream.{Hears}
use Rattle.wire_fields.specs.declared.messages.Framed.{Framed}
use Rattle.wire_fields.specs.declared.messages.Message.{Message}
use Rattle.wire_fields.specs.declared.operations.Heard.TheVariants.{Replies}
use Rattle.answer_cache.proofs.Using.{newest_used}
use Rattle.client_core.specs.Listening.{Listening, is_fit}
use Rattle.client_core.specs.Hearing.{HearsPiece, fault_by}
use Rattle.client_core.specs.Client.{Client, fresh, forgotten, raised, asked_by, frame_of, waiting, with_tries}
use Rattle.client_core.specs.Asking as does
use Rattle.client_core.specs.ClientCalls.{Call, Does, Ran, told_in, Put, question_in, heard_in, and_verdict, said_in, IsKeptAnswer, IsReply, IsSent, Means, answer_of}
use Rattle.client_core.specs.declared.ears.Piece.{Piece}
use Rattle.client_core.specs.declared.ears.Piece.TheVariants as piece
use Rattle.client_core.specs.declared.stages.Asking.{Asking}
use Rattle.client_core.specs.declared.stages.Stage.{Stage}
use Rattle.client_core.specs.declared.stages.Stage.TheVariants as stage
use Rattle.client_core.specs.declared.steps.Step.{Step}
use Rattle.client_core.specs.declared.steps.Step.TheVariants as step
use Rattle.client_core.specs.declared.steps.Fault.{Fault}
use Rattle.client_core.specs.declared.steps.Fault.TheVariants as fault

abbrev Entries : Type 0
Entries = List (Asked × Verdict)

-- ---- the invariant

-- the service said it on this connection, and it is no agent's
abbrev IsSaid : Entries → Asked × Verdict → Type 0
IsSaid said entry = Contains said entry × (is_agent entry.1.answer.kind.0 ≡ false)

abbrev put_of : Asking → Put
put_of asking = record { asked = asked_by asking; simple = asking.simple }

record IsDialling (asking : Asking) (put : Option Put) (entries : Entries) (spelled : List ℕ) (sequence : ℕ) : Type 0 where
  asked : put ≡ Some (put_of asking)
  frame : spelled ≡ frame_of sequence asking
  none : entries ≡ []

record IsWaiting (asking : Asking) (ear : Listening) (put : Option Put) (bytes spelled : List ℕ) (sequence : ℕ) : Type 0 where
  asked : put ≡ Some (put_of asking)
  frame : spelled ≡ frame_of sequence asking
  heard : ear ≡ record { side = Replies; bytes = bytes }

abbrev IsAt : Stage → Option Put → List ℕ → Entries → List ℕ → ℕ → Type 0
IsAt stage.Idle put heard entries frame sequence = Unit {0}
IsAt (stage.Looking asking) put heard entries frame sequence = put ≡ Some (put_of asking)
IsAt (stage.Dialling asking) put heard entries frame sequence = IsDialling asking put entries frame sequence
IsAt (stage.Waiting asking ear) put heard entries frame sequence = IsWaiting asking ear put heard frame sequence

record Holds (calls : List Call) (client : Client) : Type 0 where
  told : client.cache.told ≡ told_in calls
  entries : (entry : Asked × Verdict) → Contains client.cache.entries entry → IsSaid (said_in calls) entry
  stage : IsAt client.stage (question_in calls) (heard_in calls) client.cache.entries client.frame client.sequence

-- after a call that gave this answer
abbrev Both : (Step → Call) → List Call → Client → Step → Client → Type 0
Both make calls before answer after = Holds (make answer ∷ calls) after × Means answer (make answer) calls before after

-- the same for what answer and client are equal to
reach : (make : Step → Call) (calls : List Call) (before : Client) (answer is : Step) (after same : Client)
    → answer ≡ is → after ≡ same → Both make calls before is same → Both make calls before answer after
reach make calls before answer is after same a c both =
    subst (λ (s : Step). Both make calls before s after) (sym a) (subst (λ (k : Client). Both make calls before is k) (sym c) both)

abbrev nothing : Entries
nothing = []

none : {X : Type 0} (entry : Asked × Verdict) → Contains nothing entry → X
none entry has = absurd (Contains-nil entry has)

none_in : {X : Type 0} (entries : Entries) → entries ≡ [] → (entry : Asked × Verdict) → Contains entries entry → X
none_in entries empty entry has = none entry (subst (λ (es : Entries). Contains es entry) empty has)

module _ (calls : List Call) (before : Client) (holds : Holds calls before) where
  abbrev At : Stage → Type 0
  At s = IsAt s (question_in calls) (heard_in calls) before.cache.entries before.frame before.sequence

  at : (s : Stage) → before.stage ≡ s → At s
  at s is = subst At is holds.stage

  -- the question is spelled, and a dial is next
  dials : (make : Step → Call) (asking : Asking) (answer : Step) (after : Client)
      → (told : Both make calls before step.Dial (record (forgotten before) { frame = frame_of before.sequence asking; stage = stage.Dialling asking }))
      → (lack : (error : AllocError) → Both make calls before (step.Over (fault.Memory error)) (record (forgotten before) { frame = [] }))
      → does.Dials asking answer before after → Both make calls before answer after
  dials make asking answer after told lack (inl d) = reach make calls before answer step.Dial after _ d.0 d.1 told
  dials make asking answer after told lack (inr d) = reach make calls before answer (step.Over (fault.Memory d.0)) after _ d.1 d.2 (lack d.0)

  -- ---- a question is asked

  module _ (session : List ℕ) (question : Question) (simple : Bool) where
    abbrev asks : Step → Call
    asks answer = Call.Asks session question simple answer

    abbrev first : Asking
    first = does.first_try session question simple

    begins : (is_linked : Bool) (answer : Step) (after : Client) → does.begins is_linked first answer before after
        → Both asks calls before answer after
    begins true answer after d = reach asks calls before answer step.Look after _ d.0 d.1
        (record { told = holds.told; entries = holds.entries; stage = refl }, tt)
    begins false answer after d = dials asks first answer after
        (record { told = holds.told; entries = λ e has. none e has; stage = record { asked = refl; frame = refl; none = refl } }, tt)
        (λ error. (record { told = holds.told; entries = λ e has. none e has; stage = tt }, tt)) d

    asks_no : (answer : Step) (after : Client) → does.IsNotNow answer before after → Both asks calls before answer after
    asks_no answer after d = reach asks calls before answer step.NotNow after before d.0 d.1
        (record { told = holds.told; entries = holds.entries; stage = holds.stage }, tt)

    asks_at : (s : Stage) (answer : Step) (after : Client) → does.asks_at s first answer before after → Both asks calls before answer after
    asks_at stage.Idle answer after d = begins before.is_linked answer after d
    asks_at (stage.Looking asking) answer after d = asks_no answer after d
    asks_at (stage.Dialling asking) answer after d = asks_no answer after d
    asks_at (stage.Waiting asking ear) answer after d = asks_no answer after d

  -- ---- the caller looked

  module _ (is_up : Bool) where
    looks_no : (answer : Step) (after : Client) → does.IsNotNow answer before after → Both (Call.Looks is_up) calls before answer after
    looks_no answer after d = reach (Call.Looks is_up) calls before answer step.NotNow after before d.0 d.1
        (record { told = holds.told; entries = holds.entries; stage = holds.stage }, tt)

  -- an entry that is no older than what was told
  fresh_if : (fits : Bool) (told : ℕ) (v verdict : Verdict) → nat_le told v.commit ≡ fits
      → (if fits then Some v else None) ≡ Some verdict → (Some v ≡ Some verdict) × (told ≤ verdict.commit)
  fresh_if true told v verdict t is =
      let eq : v ≡ verdict = cc in (is, subst (λ (w : Verdict). told ≤ w.commit) eq (grind (arith, t)))
  fresh_if false told v verdict t is = cc

  fresh_in : (told : ℕ) (found : Option Verdict) (verdict : Verdict) → if_not_older told found ≡ Some verdict
      → (found ≡ Some verdict) × (told ≤ verdict.commit)
  fresh_in told None verdict is = cc
  fresh_in told (Some v) verdict is = fresh_if (nat_le told v.commit) told v verdict refl is

  kept_answer : (asking : Asking) (verdict : Verdict) → question_in calls ≡ Some (put_of asking)
      → answer_in (asked_by asking) before.cache ≡ Some verdict
      → IsKeptAnswer (Call.Looks true step.Kept) calls (record before { cache = used (asked_by asking) before.cache; stage = stage.Idle })
  kept_answer asking verdict asked is =
      let found = fresh_in before.cache.told (lookup (same_asked (asked_by asking)) before.cache.entries) verdict is in
      let entry = Contains-lookup (same_asked (asked_by asking)) before.cache.entries verdict found.0 in
      let said = holds.entries (entry.0, verdict) entry.1 in
      record {
        looked = refl;
        verdict = verdict;
        is = newest_used (asked_by asking) before.cache verdict is;
        put = put_of asking;
        asked = asked;
        entry = entry.0;
        said = said.0;
        same = entry.2;
        fresh = subst (λ (n : ℕ). n ≤ verdict.commit) holds.told found.1;
        policies = said.1;
      }

  finds : (asking : Asking) → question_in calls ≡ Some (put_of asking) → (found : Option Verdict)
      → answer_in (asked_by asking) before.cache ≡ found → (answer : Step) (after : Client)
      → does.finds found asking answer before after → Both (Call.Looks true) calls before answer after
  finds asking asked (Some verdict) is answer after d = reach (Call.Looks true) calls before answer step.Kept after _ d.0 d.1 (
    record {
      told = holds.told;
      entries = λ e has. holds.entries e (Contains-promoted (same_asked (asked_by asking)) before.cache.entries e has);
      stage = tt;
    },
    kept_answer asking verdict asked is,
  )
  finds asking asked None is answer after (inl d) = reach (Call.Looks true) calls before answer step.Send after _ d.0 d.1 (
    record { told = holds.told; entries = holds.entries; stage = record { asked = asked; frame = refl; heard = refl } },
    record { put = put_of asking; asked = asked; frame = refl },
  )
  finds asking asked None is answer after (inr d) = reach (Call.Looks true) calls before answer (step.Over (fault.Memory d.0)) after _ d.1 d.2
      (record { told = holds.told; entries = λ e has. none e has; stage = tt }, tt)

  looks : (is_up : Bool) (asking : Asking) → question_in calls ≡ Some (put_of asking) → (answer : Step) (after : Client)
      → does.looks is_up asking answer before after → Both (Call.Looks is_up) calls before answer after
  looks true asking asked answer after d = finds asking asked (answer_in (asked_by asking) before.cache) refl answer after d
  looks false asking asked answer after d = dials (Call.Looks false) (with_tries 2 asking) answer after
      (record { told = holds.told; entries = λ e has. none e has; stage = record { asked = asked; frame = refl; none = refl } }, tt)
      (λ error. (record { told = holds.told; entries = λ e has. none e has; stage = tt }, tt)) d

  looks_at : (s : Stage) → before.stage ≡ s → (is_up : Bool) (answer : Step) (after : Client)
      → does.looks_at s is_up answer before after → Both (Call.Looks is_up) calls before answer after
  looks_at (stage.Looking asking) is is_up answer after d = looks is_up asking (at (stage.Looking asking) is) answer after d
  looks_at stage.Idle is is_up answer after d = looks_no is_up answer after d
  looks_at (stage.Dialling asking) is is_up answer after d = looks_no is_up answer after d
  looks_at (stage.Waiting asking ear) is is_up answer after d = looks_no is_up answer after d

  -- ---- the service was dialled

  dials_no : (answer : Step) (after : Client) → does.IsNotNow answer before after → Both Call.Dials calls before answer after
  dials_no answer after d = reach Call.Dials calls before answer step.NotNow after before d.0 d.1
      (record { told = holds.told; entries = holds.entries; stage = holds.stage }, tt)

  dialled_at : (s : Stage) → before.stage ≡ s → (answer : Step) (after : Client)
      → does.dialled_at s answer before after → Both Call.Dials calls before answer after
  dialled_at (stage.Dialling asking) is answer after d =
      let was : IsDialling asking (question_in calls) before.cache.entries before.frame before.sequence = at (stage.Dialling asking) is in
      reach Call.Dials calls before answer step.Send after _ d.0 d.1 (
        record {
          told = holds.told;
          entries = λ e has. none_in before.cache.entries was.none e has;
          stage = record { asked = was.asked; frame = was.frame; heard = refl };
        },
        record { put = put_of asking; asked = was.asked; frame = was.frame },
      )
  dialled_at stage.Idle is answer after d = dials_no answer after d
  dialled_at (stage.Looking asking) is answer after d = dials_no answer after d
  dialled_at (stage.Waiting asking ear) is answer after d = dials_no answer after d

  -- ---- the connection ended, or could not be made

  retries : (asking : Asking) → question_in calls ≡ Some (put_of asking) → before.frame ≡ frame_of before.sequence asking
      → (last : Bool) (answer : Step) (after : Client) → does.retries last asking answer before after
      → Both Call.Falls calls before answer after
  retries asking asked frame true answer after d = reach Call.Falls calls before answer (step.Over fault.Unavailable) after _ d.0 d.1
      (record { told = holds.told; entries = λ e has. none e has; stage = tt }, tt)
  retries asking asked frame false answer after d = reach Call.Falls calls before answer step.Dial after _ d.0 d.1
      (record { told = holds.told; entries = λ e has. none e has; stage = record { asked = asked; frame = frame; none = refl } }, tt)

  falls_at : (s : Stage) → before.stage ≡ s → (answer : Step) (after : Client)
      → does.falls_at s answer before after → Both Call.Falls calls before answer after
  falls_at stage.Idle is answer after d = reach Call.Falls calls before answer step.Idle after _ d.0 d.1
      (record { told = holds.told; entries = λ e has. none e has; stage = tt }, tt)
  falls_at (stage.Looking asking) is answer after d =
      let asked : question_in calls ≡ Some (put_of asking) = at (stage.Looking asking) is in
      dials Call.Falls (with_tries 2 asking) answer after
      (record { told = holds.told; entries = λ e has. none e has; stage = record { asked = asked; frame = refl; none = refl } }, tt)
      (λ error. (record { told = holds.told; entries = λ e has. none e has; stage = tt }, tt)) d
  falls_at (stage.Dialling asking) is answer after d =
      let was : IsDialling asking (question_in calls) before.cache.entries before.frame before.sequence = at (stage.Dialling asking) is in
      retries asking was.asked was.frame (nat_le asking.tries 1) answer after d
  falls_at (stage.Waiting asking ear) is answer after d =
      let was : IsWaiting asking ear (question_in calls) (heard_in calls) before.frame before.sequence = at (stage.Waiting asking ear) is in
      retries asking was.asked was.frame (nat_le asking.tries 1) answer after d

  -- ---- bytes came

  -- what is known of a reply that is right
  record IsRight (sequence told : ℕ) (framed : Framed) : Type 0 where
    number : framed.sequence ≡ sequence
    commit : ℕ
    tells : does.commit_of framed.message ≡ Some commit
    fresh : told ≤ commit

  commit_if : (older : Bool) (told got : ℕ) → nat_lt got told ≡ older
      → (if older then Some (fault.Older told got) else None) ≡ None → (commit : ℕ) × (Some got ≡ Some commit) × (told ≤ commit)
  commit_if true told got t is = cc
  commit_if false told got t is = (got, refl, grind (arith, t))

  commit_right : (told : ℕ) (message : Message) (got : Option ℕ) → does.commit_fault told message got ≡ None
      → (commit : ℕ) × (got ≡ Some commit) × (told ≤ commit)
  commit_right told message None is = cc
  commit_right told message (Some got) is = commit_if (nat_lt got told) told got refl is

  right_if : (same : Bool) (sequence told : ℕ) (framed : Framed) → (framed.sequence == sequence) ≡ same
      → (if same then does.commit_fault told framed.message (does.commit_of framed.message) else Some (fault.Sequence sequence framed.sequence)) ≡ None
      → IsRight sequence told framed
  right_if true sequence told framed t is =
      let c = commit_right told framed.message (does.commit_of framed.message) is in
      record { number = grind (arith, t); commit = c.0; tells = c.1; fresh = c.2 }
  right_if false sequence told framed t is = cc

  right : (sequence told : ℕ) (framed : Framed) → does.fault_in sequence told framed ≡ None → IsRight sequence told framed
  right sequence told framed is = right_if (framed.sequence == sequence) sequence told framed refl is

  -- what is kept leaves what was told
  told_if : (agent : Bool) (asked : Asked) (verdict : Verdict) (new : Cache)
      → MatchBool agent (new ≡ before.cache) ((new ≡ kept asked verdict before.cache) ⊎ (new ≡ without asked before.cache))
      → new.told ≡ before.cache.told
  told_if true asked verdict new e = ap (λ (c : Cache). c.told) e
  told_if false asked verdict new (inl k) = ap (λ (c : Cache). c.told) k
  told_if false asked verdict new (inr w) = ap (λ (c : Cache). c.told) w

  same_told : (found : Option Verdict) (asked : Asked) (new : Cache) → does.is_kept found asked before.cache new
      → new.told ≡ before.cache.told
  same_told None asked new is = ap (λ (c : Cache). c.told) is
  same_told (Some verdict) asked new is = told_if (is_agent verdict.answer.kind.0) asked verdict new is

  behind : (put : Put) (verdict : Verdict) (entry : Asked × Verdict) → IsSaid (said_in calls) entry
      → IsSaid ((put.asked, verdict) ∷ said_in calls) entry
  behind put verdict entry said = (Contains-tail (put.asked, verdict) (said_in calls) entry said.0, said.1)

  first_or : (put : Put) (verdict : Verdict) (entry : Asked × Verdict) → is_agent verdict.answer.kind.0 ≡ false
      → ((put.asked, verdict) ≡ entry) ⊎ IsSaid (said_in calls) entry → IsSaid ((put.asked, verdict) ∷ said_in calls) entry
  first_or put verdict entry policies (inl same) =
      subst (IsSaid ((put.asked, verdict) ∷ said_in calls)) same (Contains-head (put.asked, verdict) (said_in calls), policies)
  first_or put verdict entry policies (inr said) = behind put verdict entry said

  -- an entry for another question stays
  other_stays : (asked : Asked) (entry : Asked × Verdict) → Contains (without asked before.cache).entries entry
      → IsSaid (said_in calls) entry
  other_stays asked entry has =
      holds.entries entry (Contains-remove_entry (same_asked asked) before.cache.entries entry has)

  among : (put : Put) (verdict : Verdict) (entry : Asked × Verdict) → Contains (kept put.asked verdict before.cache).entries entry
      → ((put.asked, verdict) ≡ entry) ⊎ IsSaid (said_in calls) entry
  among put verdict entry has =
      elim (Contains-cons (put.asked, verdict) (take (before.cache.most - 1) (without put.asked before.cache).entries) entry has) [
        | inl same ↦ inl same
        | inr rest ↦ inr (other_stays put.asked entry
            (Contains-take (before.cache.most - 1) (without put.asked before.cache).entries entry rest))
      ]

  kept_if : (agent : Bool) (put : Put) (verdict : Verdict) (new : Cache) → is_agent verdict.answer.kind.0 ≡ agent
      → MatchBool agent (new ≡ before.cache) ((new ≡ kept put.asked verdict before.cache) ⊎ (new ≡ without put.asked before.cache))
      → (entry : Asked × Verdict) → Contains new.entries entry → IsSaid ((put.asked, verdict) ∷ said_in calls) entry
  kept_if true put verdict new policies e entry has =
      behind put verdict entry (holds.entries entry (subst (λ (c : Cache). Contains c.entries entry) e has))
  kept_if false put verdict new policies (inl k) entry has =
      first_or put verdict entry policies (among put verdict entry (subst (λ (c : Cache). Contains c.entries entry) k has))
  kept_if false put verdict new policies (inr w) entry has =
      behind put verdict entry (other_stays put.asked entry (subst (λ (c : Cache). Contains c.entries entry) w has))

  -- each entry that is kept was said
  kept_said : (found : Option Verdict) (put : Put) (new : Cache) → does.is_kept found put.asked before.cache new
      → (entry : Asked × Verdict) → Contains new.entries entry → IsSaid (and_verdict found (Some put) (said_in calls)) entry
  kept_said None put new is entry has = holds.entries entry (subst (λ (c : Cache). Contains c.entries entry) is has)
  kept_said (Some verdict) put new is entry has = kept_if (is_agent verdict.answer.kind.0) put verdict new refl is entry has

  module _ (bytes : List ℕ) where
    abbrev comes : Step → Call
    comes answer = Call.Comes bytes answer

    comes_no : (answer : Step) (after : Client) → does.IsNotNow answer before after → Both comes calls before answer after
    comes_no answer after d = reach comes calls before answer step.NotNow after before d.0 d.1
        (record { told = holds.told; entries = holds.entries; stage = holds.stage }, tt)

    over : (found : Fault) (answer : Step) (after : Client) → (answer ≡ step.Over found) × (after ≡ raised true (forgotten before))
        → Both comes calls before answer after
    over found answer after d = reach comes calls before answer (step.Over found) after _ d.0 d.1
        (record { told = holds.told; entries = λ e has. none e has; stage = tt }, tt)

    module _ (asking : Asking) (ear : Listening)
        (was : IsWaiting asking ear (question_in calls) (heard_in calls) before.frame before.sequence) where
      concludes : (framed : Framed) → Hears ear.side (ear.bytes ++ bytes) (framed ∷ []) [] → (found : Option Fault)
          → does.fault_in before.sequence before.cache.told framed ≡ found → (answer : Step) (after : Client)
          → does.concludes found asking framed answer before after → Both comes calls before answer after
      concludes framed heard (Some found) is answer after d = over found answer after d
      concludes framed heard None is answer after d =
          let r : IsRight before.sequence before.cache.told framed = right before.sequence before.cache.told framed is in
          let put = put_of asking in
          let whole : Hears Replies (heard_in calls ++ bytes) (framed ∷ []) [] =
          subst (λ (l : Listening). Hears l.side (l.bytes ++ bytes) (framed ∷ []) []) was.heard heard in
          reach comes calls before answer (step.Reply framed.message) after _ d.0 d.2 (
            record {
              told = same_told (does.verdict_of framed.message) (asked_by asking) after.cache d.1 ∙ holds.told;
              entries = λ e has. subst (λ (p : Option Put). IsSaid (and_verdict (does.verdict_of framed.message) p (said_in calls)) e) (sym was.asked)
                  (kept_said (does.verdict_of framed.message) put after.cache d.1 e has);
              stage = tt;
            },
            record {
              bytes = bytes;
              came = refl;
              put = put;
              asked = was.asked;
              framed = framed;
              sent = was.frame ∙ ap (λ (n : ℕ). frame_of n asking) (sym r.number);
              is = refl;
              heard = whole;
              commit = r.commit;
              tells = r.tells;
              fresh = subst (λ (n : ℕ). n ≤ r.commit) holds.told r.fresh;
            },
          )

      hears : (came : Piece) → HearsPiece came ear bytes → (answer : Step) (after : Client) → does.hears came asking answer before after
          → Both comes calls before answer after
      hears (piece.More next) heard answer after d = reach comes calls before answer step.Wait after _ d.0 d.1 (
        record {
          told = holds.told;
          entries = holds.entries;
          stage = record {
            asked = was.asked;
            frame = was.frame;
            heard = heard.0 ∙ ap (λ (l : Listening). record l { bytes = l.bytes ++ bytes }) was.heard;
          };
        },
        tt,
      )
      hears (piece.Whole framed) heard answer after d =
          concludes framed heard (does.fault_in before.sequence before.cache.told framed) refl answer after d
      hears (piece.Wrong refusal) heard answer after d = over (fault_by refusal) answer after d

      comes_if : (fits : Bool) (answer : Step) (after : Client) → does.comes fits asking ear bytes answer before after
          → Both comes calls before answer after
      comes_if true answer after d = hears d.0 d.1 answer after d.2
      comes_if false answer after d = reach comes calls before answer step.BadCount after before d.0 d.1
          (record { told = holds.told; entries = holds.entries; stage = holds.stage }, tt)

    comes_at : (s : Stage) → before.stage ≡ s → (answer : Step) (after : Client)
        → does.comes_at s bytes answer before after → Both comes calls before answer after
    comes_at (stage.Waiting asking ear) is answer after d =
        comes_if asking ear (at (stage.Waiting asking ear) is) (is_fit ear.bytes bytes) answer after d
    comes_at stage.Idle is answer after d = comes_no answer after d
    comes_at (stage.Looking asking) is answer after d = comes_no answer after d
    comes_at (stage.Dialling asking) is answer after d = comes_no answer after d

  -- ---- all calls

  next : (call : Call) (after : Client) → Does call before after
      → Holds (call ∷ calls) after × Means (answer_of call) call calls before after
  next (Call.Tells commit) after d = (
    subst (Holds (Call.Tells commit ∷ calls)) (sym d)
        (record { told = ap (λ (n : ℕ). max n commit) holds.told; entries = holds.entries; stage = holds.stage }),
    tt,
  )
  next (Call.Asks session question simple answer) after d = asks_at session question simple before.stage answer after d
  next (Call.Looks is_up answer) after d = looks_at before.stage refl is_up answer after d
  next (Call.Dials answer) after d = dialled_at before.stage refl answer after d
  next (Call.Comes bytes answer) after d = comes_at bytes before.stage refl answer after d
  next (Call.Falls answer) after d = falls_at before.stage refl answer after d
  next Call.Leaves after d = (
    subst (Holds (Call.Leaves ∷ calls)) (sym d) (record { told = holds.told; entries = λ e has. none e has; stage = tt }),
    tt,
  )

ran : (calls : List Call) (client : Client) → Ran calls client → Holds calls client
ran [] client r = subst (Holds []) (sym r.1) (record { told = refl; entries = λ e has. none e has; stage = tt })
ran (call ∷ calls) client r = (next calls r.0 (ran calls r.0 r.1) call client r.2).0

pub law : (calls : List Call) (call : Call) (before after : Client) → Ran calls before → Does call before after
    → Means (answer_of call) call calls before after
law calls call before after r d = (next calls before (ran calls before r) call after d).1
