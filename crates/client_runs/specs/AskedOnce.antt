-- One check, by a client that is made for it: it has no link, keeps nothing and was told of nothing, and gives its link
-- back.
use Rattle.std.specs.Prelude.{◌≡◌, ◌⊎◌, ℕ, Bool, false, List, [], ◌∷◌, Option, Some, None, Result, Ok, Err}
use Rattle.std.specs.declared.alloc.AllocError.{AllocError}
use Rattle.desk_ports.specs.Faults.{next_count}
use Rattle.link_ports.specs.Traffic.{Traffic}
use Rattle.link_ports.specs.LinkMarks.{LinkMarks}
use Rattle.link_ports.specs.NetCounts.{gave_trouble}
use Rattle.cynara_keys.specs.Key.{Question}
use Rattle.wire_reading.specs.Frame.{spelling, with_sequence}
use Rattle.wire_reading.specs.Lent.{asks}
use Rattle.wire_fields.specs.declared.messages.Framed.{Framed}
use Rattle.client_connection.specs.Asking.{CameOver, Asks}
use Rattle.client_connection.specs.Giving.{Appends, GivesBackAny}
use Rattle.client_connection.specs.declared.faults.Broken.{Broken}
use Rattle.client_connection.specs.declared.faults.Broken.TheVariants.{Lost, Wrong}
use Rattle.client_connection.specs.declared.asking.Outcome.{Outcome}
use Rattle.client_connection.specs.declared.asking.Outcome.TheVariants as outcome
use Rattle.cynara_client.specs.Reply.{reply_of, refusal_of}
use Rattle.cynara_client.specs.declared.refusals.Checked.{Checked}
use Rattle.cynara_client.specs.declared.refusals.ClientRefusal.{ClientRefusal}
use Rattle.cynara_client.specs.declared.refusals.ClientRefusal.TheVariants as refusal

-- the frame of the question, which is the first of its client
abbrev pub first_frame : Bool → Question → List ℕ
first_frame simple question = spelling (with_sequence 0 (asks simple question))

-- what comes of the frame, as an answer
abbrev pub answer_of : {L : Type 0} → Outcome L → Result Checked ClientRefusal
answer_of (outcome.Replied link is_new framed) = reply_of 0 0 framed
answer_of (outcome.Wrong fault) = Err (refusal_of fault)
answer_of (outcome.Unavailable is_tried) = Err refusal.Unavailable
answer_of (outcome.Memory error is_tried) = Err (refusal.Memory error)

-- what was read of one link, as an answer
abbrev pub answer_in : Result Framed Broken → Result Checked ClientRefusal
answer_in (Ok framed) = reply_of 0 0 framed
answer_in (Err (Wrong fault)) = Err (refusal_of fault)
answer_in (Err Lost) = Err refusal.Unavailable

-- the link that the reply came over
abbrev pub link_of : {L : Type 0} → Outcome L → Option L
link_of (outcome.Replied link is_new framed) = Some link
link_of other = None

module _ {N L : Type 0} (link_faults : L → ℕ) (marks : L → LinkMarks) (traffic : L → Option Traffic)
    (faults dials : N → ℕ) (given_back : N → Option (List L)) where
  -- The question went out on links that were dialled, up to three, and this came of it. The link of the reply was given
  -- back, as those were on which no whole reply came.
  pub record AskedOnce (frame : List ℕ) (answer : Result Checked ClientRefusal) (before after : N) : Type 0 where
    pub came_of : Outcome L
    pub between : N
    pub sent : Asks link_faults marks traffic frame faults dials given_back 3 false None came_of before between
    pub given : GivesBackAny faults dials given_back link_faults marks (link_of came_of) between after
    pub answer_is : answer ≡ answer_of came_of

  -- no memory was found before anything was sent
  pub record Unasked (answer : Result Checked ClientRefusal) (before after : N) : Type 0 where
    pub error : AllocError
    pub answer_is : answer ≡ Err (refusal.Memory error)
    pub same : after ≡ before

  abbrev pub AsksOnce : List ℕ → Result Checked ClientRefusal → N → N → Type 0
  AsksOnce frame answer before after = AskedOnce frame answer before after ⊎ Unasked answer before after

  -- The question went out once, over one link, and this was read. The link was dialled and given back. No call of it
  -- failed, and it was up until then.
  pub record AskedOverOne (frame : List ℕ) (read : Result Framed Broken) (before after : N) : Type 0 where
    pub link : L
    pub came : CameOver link_faults marks traffic frame None read link
    pub dialled : dials after ≡ next_count (dials before)
    pub given : Appends (link ∷ []) (given_back before) (given_back after)
    pub unfailed : gave_trouble (marks link) (link_faults link) ≡ false
