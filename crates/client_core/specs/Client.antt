-- A client's side of a connection: what it keeps.
use Rattle.std.specs.Prelude.{◌≡◌, ℕ, ◌+◌, ◌%◌, ◌^◌, Bool, true, false, if◌then◌else◌, List, []}
use Rattle.answer_cache.specs.Cache.{Asked, Cache, asked_in, empty_cache, with_entries}
use Rattle.wire_reading.specs.Frame.{spelling, with_sequence}
use Rattle.wire_reading.specs.Lent.{asks}
use Rattle.wire_fields.specs.declared.operations.Heard.TheVariants.{Replies}
use Rattle.client_core.specs.Listening.{unheard}
use Rattle.client_core.specs.declared.stages.Asking.{Asking}
use Rattle.client_core.specs.declared.stages.Stage.{Stage}
use Rattle.client_core.specs.declared.stages.Stage.TheVariants.{Idle, Looking, Dialling, Waiting}

-- What it keeps of its answers, the number of the next frame, the frame, whether a connection is there, and how far it
-- has come with a question.
pub record Client : Type 0 where
  pub cache : Cache
  pub sequence : ℕ
  pub frame : List ℕ
  pub is_linked : Bool
  pub stage : Stage

-- before the first question
abbrev pub fresh : ℕ → Client
fresh entries = record { cache = empty_cache entries; sequence = 0; frame = []; is_linked = false; stage = Idle }

-- no connection is there, and no entry; and nothing is under way
abbrev pub forgotten : Client → Client
forgotten client = record client { cache = with_entries [] client.cache; is_linked = false; stage = Idle }

-- numbers go from 0 to 65535, and from there to 0
abbrev pub next_number : ℕ → ℕ
next_number sequence = (sequence + 1) % 2 ^ 16

-- the next frame has another number, where a frame was to be sent
abbrev pub raised : Bool → Client → Client
raised is_tried client =
    record client { sequence = if is_tried then next_number client.sequence else client.sequence }

-- the question in its session
abbrev pub asked_by : Asking → Asked
asked_by asking = asked_in asking.session asking.question

-- the frame of a question
abbrev pub frame_of : ℕ → Asking → List ℕ
frame_of sequence asking = spelling (with_sequence sequence (asks asking.simple asking.question))

-- its frame was to be sent, and nothing of the reply has come
abbrev pub waiting : Asking → Stage
waiting asking = Waiting (record asking { is_tried = true }) (unheard Replies)

-- so many dials or connections may fail yet
abbrev pub with_tries : ℕ → Asking → Asking
with_tries tries asking = record asking { tries = tries }
