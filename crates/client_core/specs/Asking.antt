-- What the calls of a client do and answer.
use Rattle.std.specs.Prelude.{◌≡◌, ◌⊎◌, ℕ, ◌-◌, nat_le, nat_lt, ◌==◌, ◌||◌, Bool, true, false, if◌then◌else◌, MatchBool}
use Rattle.std.specs.Prelude.{List, [], ◌∷◌, ◌++◌, length, max}
use Rattle.std.specs.Prelude.{Option, Some, None}
use Rattle.std.specs.declared.alloc.AllocError.{AllocError}
use Rattle.bucket_eval.specs.declared.answers.Verdict.{Verdict}
use Rattle.cynara_keys.specs.Key.{Question}
use Rattle.cynara_keys.specs.PolicyResult.{is_agent}
use Rattle.answer_cache.specs.Cache.{Asked, IsOfNames, key_text, Cache, answer_in, used, kept, without}
use Rattle.wire_fields.specs.Operation.{number_of}
use Rattle.wire_fields.specs.Message.{operation}
use Rattle.wire_reading.specs.Stream.{Hears, BeginsWrong, IsOpen, wanted}
use Rattle.wire_fields.specs.declared.messages.Framed.{Framed}
use Rattle.wire_fields.specs.declared.messages.Message.{Message}
use Rattle.wire_fields.specs.declared.messages.Message.TheVariants.{Judged, FromAgent, NotResolved, NoAgent, AgentGone}
use Rattle.wire_fields.specs.declared.messages.Message.TheVariants.{AgentFull}
use Rattle.wire_fields.specs.declared.operations.Heard.TheVariants.{Replies}
use Rattle.client_core.specs.Listening.{Listening, is_fit}
use Rattle.client_core.specs.Hearing.{HearsPiece, fault_by}
use Rattle.client_core.specs.Client.{Client, forgotten, raised, asked_by, frame_of, waiting, with_tries}
use Rattle.client_core.specs.declared.ears.Piece.{Piece}
use Rattle.client_core.specs.declared.ears.Piece.TheVariants as piece
use Rattle.client_core.specs.declared.stages.Asking.{Asking}
use Rattle.client_core.specs.declared.stages.Stage.{Stage}
use Rattle.client_core.specs.declared.stages.Stage.TheVariants as stage
use Rattle.client_core.specs.declared.steps.Step.{Step}
use Rattle.client_core.specs.declared.steps.Step.TheVariants as step
use Rattle.client_core.specs.declared.steps.Fault.{Fault}
use Rattle.client_core.specs.declared.steps.Fault.TheVariants as fault

-- the call has no place now
abbrev pub IsNotNow : Step → Client → Client → Type 0
IsNotNow answer old new = (answer ≡ step.NotNow) × (new ≡ old)

-- ---- the question is spelled

-- Its frame is there, and this is to be done next; or no memory was found for it, and nothing is under way.
abbrev pub Spells : Asking → Step → Stage → Step → Client → Client → Type 0
Spells asking next stage answer old new =
    ((answer ≡ next) × (new ≡ record old { frame = frame_of old.sequence asking; stage = stage }))
    ⊎ ((error : AllocError) × (answer ≡ step.Over (fault.Memory error)) × (new ≡ record (forgotten old) { frame = [] }))

-- no connection is there, so one is to be dialled
abbrev pub Dials : Asking → Step → Client → Client → Type 0
Dials asking answer old new = Spells asking step.Dial (stage.Dialling asking) answer (forgotten old) new

abbrev pub is_idle : Stage → Bool
is_idle stage.Idle = true
is_idle other = false

-- ---- a question is asked

-- three dials or connections may fail
abbrev pub first_try : List ℕ → Question → Bool → Asking
first_try session question simple =
    record { session = session; question = question; simple = simple; tries = 3; is_tried = false }

abbrev pub begins : Bool → Asking → Step → Client → Client → Type 0
begins true asking answer old new = (answer ≡ step.Look) × (new ≡ record old { stage = stage.Looking asking })
begins false asking answer old new = Dials asking answer old new

abbrev pub asks_at : Stage → Asking → Step → Client → Client → Type 0
asks_at stage.Idle asking answer old new = begins old.is_linked asking answer old new
asks_at other asking answer old new = IsNotNow answer old new

-- where a connection is there, whether it is up is to be looked at
abbrev pub Asks : List ℕ → Question → Bool → Step → Client → Client → Type 0
Asks session question simple answer old new = asks_at old.stage (first_try session question simple) answer old new

-- ---- the caller looked

-- an entry that is not older than what the client was told is the answer, and is the first from now on
abbrev pub finds : Option Verdict → Asking → Step → Client → Client → Type 0
finds (Some verdict) asking answer old new =
    (answer ≡ step.Kept) × (new ≡ record old { cache = used (asked_by asking) old.cache; stage = stage.Idle })
finds None asking answer old new = Spells asking step.Send (waiting asking) answer
    (record old { stage = stage.Idle }) new

abbrev pub Finds : Asking → Step → Client → Client → Type 0
Finds asking answer old new = finds (answer_in (asked_by asking) old.cache) asking answer old new

-- a connection that is down costs one try
abbrev pub Redials : Asking → Step → Client → Client → Type 0
Redials asking answer old new = Dials (with_tries 2 asking) answer old new

abbrev pub looks : Bool → Asking → Step → Client → Client → Type 0
looks true asking answer old new = Finds asking answer old new
looks false asking answer old new = Redials asking answer old new

abbrev pub looks_at : Stage → Bool → Step → Client → Client → Type 0
looks_at (stage.Looking asking) is_up answer old new = looks is_up asking answer old new
looks_at other is_up answer old new = IsNotNow answer old new

abbrev pub Looks : Bool → Step → Client → Client → Type 0
Looks is_up answer old new = looks_at old.stage is_up answer old new

-- ---- the caller looked, and the connection is up; and nothing but what is kept is asked for

-- the client may answer from what is kept
abbrev pub is_ready : Client → Bool
is_ready client = if client.is_linked then is_idle client.stage else false

-- What a question and then a look come to, where that is what is kept under this text; or nothing is kept under it, and
-- nothing changes.
abbrev pub Recalls : Bool → List ℕ → Client → Client → Type 0
Recalls true text old new =
    (asked : Asked) × IsOfNames asked × (text ≡ key_text asked)
    × ((mid : Client) × Asks asked.session asked.question false step.Look old mid × Looks true step.Kept mid new)
Recalls false text old new =
    (new ≡ old)
    × ((asked : Asked) → IsOfNames asked → text ≡ key_text asked → is_ready old ≡ true
    → answer_in asked old.cache ≡ None)

-- the same for a question that is given by its names
abbrev pub Reuses : Bool → Asked → Client → Client → Type 0
Reuses true asked old new =
    ((verdict : Verdict) × (answer_in asked old.cache ≡ Some verdict))
    × ((mid : Client) × Asks asked.session asked.question false step.Look old mid × Looks true step.Kept mid new)
Reuses false asked old new = (new ≡ old) × (is_ready old ≡ true → answer_in asked old.cache ≡ None)

-- ---- the service was dialled

abbrev pub dialled_at : Stage → Step → Client → Client → Type 0
dialled_at (stage.Dialling asking) answer old new =
    (answer ≡ step.Send) × (new ≡ record old { is_linked = true; stage = waiting asking })
dialled_at other answer old new = IsNotNow answer old new

abbrev pub Dialled : Step → Client → Client → Type 0
Dialled answer old new = dialled_at old.stage answer old new

-- ---- the connection ended, or could not be made

-- the last try failed
abbrev pub retries : Bool → Asking → Step → Client → Client → Type 0
retries true asking answer old new =
    (answer ≡ step.Over fault.Unavailable) × (new ≡ raised asking.is_tried (forgotten old))
retries false asking answer old new =
    (answer ≡ step.Dial)
    × (new ≡ record (forgotten old) { stage = stage.Dialling (with_tries (asking.tries - 1) asking) })

abbrev pub Retries : Asking → Step → Client → Client → Type 0
Retries asking answer old new = retries (nat_le asking.tries 1) asking answer old new

abbrev pub falls_at : Stage → Step → Client → Client → Type 0
falls_at stage.Idle answer old new = (answer ≡ step.Idle) × (new ≡ forgotten old)
falls_at (stage.Looking asking) answer old new = Redials asking answer old new
falls_at (stage.Dialling asking) answer old new = Retries asking answer old new
falls_at (stage.Waiting asking ear) answer old new = Retries asking answer old new

abbrev pub Falls : Step → Client → Client → Type 0
Falls answer old new = falls_at old.stage answer old new

-- ---- the caller gives the connection up

-- whether the frame of the question under way was to be sent
abbrev pub was_tried : Stage → Bool
was_tried (stage.Dialling asking) = asking.is_tried
was_tried (stage.Waiting asking ear) = true
was_tried other = false

abbrev pub left : Client → Client
left client = forgotten (raised (was_tried client.stage) client)

-- ---- bytes came

-- the commit that a reply to a check tells, and none for another message
abbrev pub commit_of : Message → Option ℕ
commit_of (Judged verdict) = Some verdict.commit
commit_of (FromAgent commit kind number allowed) = Some commit
commit_of (NotResolved commit kind) = Some commit
commit_of (NoAgent commit kind) = Some commit
commit_of (AgentGone commit number) = Some commit
commit_of (AgentFull commit kind most) = Some commit
commit_of other = None

abbrev pub commit_fault : ℕ → Message → Option ℕ → Option Fault
commit_fault told message None = Some (fault.Operation (number_of (operation message)))
commit_fault told message (Some got) = if nat_lt got told then Some (fault.Older told got) else None

-- What is wrong with a reply: another sequence number is found first, then an operation that is no answer, and then a
-- commit below the one that the client was told of.
abbrev pub fault_in : ℕ → ℕ → Framed → Option Fault
fault_in sequence told framed =
    if framed.sequence == sequence then commit_fault told framed.message (commit_of framed.message)
    else Some (fault.Sequence sequence framed.sequence)

-- the verdict that the policies gave
abbrev pub verdict_of : Message → Option Verdict
verdict_of (Judged verdict) = Some verdict
verdict_of other = None

abbrev pub is_kept : Option Verdict → Asked → Cache → Cache → Type 0
is_kept None asked old new = new ≡ old
is_kept (Some verdict) asked old new =
    MatchBool (is_agent verdict.answer.kind.0) (new ≡ old) ((new ≡ kept asked verdict old) ⊎ (new ≡ without asked old))

-- A verdict of the policies is kept, or the cache is without an entry for the question, for want of memory. One that an
-- agent has to give is not kept, nor is anything else.
abbrev pub IsKept : Asked → Message → Cache → Cache → Type 0
IsKept asked message old new = is_kept (verdict_of message) asked old new

-- the reply is whole, and nothing is under way
abbrev pub concludes : Option Fault → Asking → Framed → Step → Client → Client → Type 0
concludes (Some found) asking framed answer old new =
    (answer ≡ step.Over found) × (new ≡ raised true (forgotten old))
concludes None asking framed answer old new =
    (answer ≡ step.Reply framed.message) × IsKept (asked_by asking) framed.message old.cache new.cache
    × (new ≡ raised true (record old { cache = new.cache; stage = stage.Idle }))

abbrev pub Concludes : Asking → Framed → Step → Client → Client → Type 0
Concludes asking framed answer old new =
    concludes (fault_in old.sequence old.cache.told framed) asking framed answer old new

abbrev pub hears : Piece → Asking → Step → Client → Client → Type 0
hears (piece.More ear) asking answer old new =
    (answer ≡ step.Wait) × (new ≡ record old { stage = stage.Waiting asking ear })
hears (piece.Whole framed) asking answer old new = Concludes asking framed answer old new
hears (piece.Wrong refusal) asking answer old new =
    (answer ≡ step.Over (fault_by refusal)) × (new ≡ raised true (forgotten old))

-- the bytes go on with the reply, and this comes of it
abbrev pub HearsReply : Asking → Listening → List ℕ → Step → Client → Client → Type 0
HearsReply asking ear bytes answer old new =
    (came : Piece) × HearsPiece came ear bytes × hears came asking answer old new

-- how many bytes may come next, at most
abbrev pub wanted_at : Stage → ℕ
wanted_at (stage.Waiting asking ear) = wanted ear.bytes
wanted_at other = 0

abbrev pub comes : Bool → Asking → Listening → List ℕ → Step → Client → Client → Type 0
comes true asking ear bytes answer old new = HearsReply asking ear bytes answer old new
comes false asking ear bytes answer old new = (answer ≡ step.BadCount) × (new ≡ old)

abbrev pub comes_at : Stage → List ℕ → Step → Client → Client → Type 0
comes_at (stage.Waiting asking ear) bytes answer old new =
    comes (is_fit ear.bytes bytes) asking ear bytes answer old new
comes_at other bytes answer old new = IsNotNow answer old new

abbrev pub Comes : List ℕ → Step → Client → Client → Type 0
Comes bytes answer old new = comes_at old.stage bytes answer old new

-- ---- the client is told of a commit that was acknowledged

abbrev pub told_of : ℕ → Client → Client
told_of commit client = record client { cache = record client.cache { told = max client.cache.told commit } }
