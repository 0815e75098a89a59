-- What a check does and answers.
use Rattle.std.specs.Prelude.{◌≡◌, ◌⊎◌, ℕ, Bool, true, false, if◌then◌else◌, List, Option, Some, None, Result, Ok, Err}
use Rattle.std.specs.Prelude.{MatchBool}
use Rattle.std.specs.declared.alloc.AllocError.{AllocError}
use Rattle.link_ports.specs.Traffic.{Traffic}
use Rattle.link_ports.specs.LinkMarks.{LinkMarks}
use Rattle.link_ports.specs.LinkContent.{LinkContent}
use Rattle.bucket_eval.specs.declared.answers.Verdict.{Verdict}
use Rattle.cynara_keys.specs.PolicyResult.{is_agent}
use Rattle.wire_reading.specs.Frame.{spelling, with_sequence}
use Rattle.wire_reading.specs.Lent.{asks}
use Rattle.answer_cache.specs.Cache.{Asked, Cache, answer_in, used, kept, without}
use Rattle.client_connection.specs.Giving.{GivesBackAny}
use Rattle.client_connection.specs.Asking.{Asks}
use Rattle.client_connection.specs.declared.asking.Outcome.{Outcome}
use Rattle.client_connection.specs.declared.asking.Outcome.TheVariants as outcome
use Rattle.cynara_client.specs.State.{State, IsBare, emptied, next_number, number_after}
use Rattle.cynara_client.specs.Refusing.{keeps_link}
use Rattle.cynara_client.specs.Reply.{reply_of, refusal_of}
use Rattle.cynara_client.specs.Looking.{FindsUp, FindsDown}
use Rattle.cynara_client.specs.declared.refusals.Checked.{Checked}
use Rattle.cynara_client.specs.declared.refusals.Checked.TheVariants.{Judged, FromAgent}
use Rattle.cynara_client.specs.declared.refusals.ClientRefusal.{ClientRefusal}
use Rattle.cynara_client.specs.declared.refusals.ClientRefusal.TheVariants as refusal

-- the frame of a check
abbrev pub frame_of : ℕ → Bool → Asked → List ℕ
frame_of sequence simple asked = spelling (with_sequence sequence (asks simple asked.question))

-- A verdict of the policies is kept, or the cache is without an entry for want of memory. One that an agent has to give
-- is not kept.
abbrev pub IsKept : Asked → Verdict → Cache → Cache → Type 0
IsKept asked verdict old new =
    MatchBool (is_agent verdict.answer.kind.0) (new ≡ old) ((new ≡ kept asked verdict old) ⊎ (new ≡ without asked old))

-- what becomes of an answer
abbrev pub IsKeptOf : Asked → Checked → Cache → Cache → Type 0
IsKeptOf asked (Judged verdict) old new = IsKept asked verdict old new
IsKeptOf asked (FromAgent commit kind number allowed) old new = new ≡ old

-- what was kept before, where the link that replied was there; and nothing where it was dialled
abbrev pub cache_on : Bool → Cache → Cache
cache_on is_new cache = if is_new then emptied cache else cache

-- a reply came over this link
abbrev pub replied : {N L : Type 0} → L → Bool → State N L → State N L
replied link is_new old = record old {
  link = Some link;
  cache = cache_on is_new old.cache;
  sequence = next_number old.sequence;
}

-- no link is left, and no entry; the number of the next frame is one higher where one was tried to be sent
abbrev pub closed : {N L : Type 0} → Bool → State N L → State N L
closed is_tried old = record old {
  link = None;
  cache = emptied old.cache;
  sequence = number_after is_tried old.sequence;
}

module _ {L : Type 0} (link_faults : L → ℕ) (marks : L → LinkMarks) where
  module _ {N : Type 0} (faults dials : N → ℕ) (given_back : N → Option (List L)) where
    -- The link is given back, if there is one, and no entry is left.
    pub record Leaves (old new : State N L) : Type 0 where
      pub bare : IsBare old new
      pub gives : GivesBackAny faults dials given_back link_faults marks old.link old.dial new.dial
      pub sequence : new.sequence ≡ old.sequence

    -- What comes of what a reply says: a verdict is kept, and a refusal by the service changes nothing. A reply that is
    -- wrong or too old takes the link.
    abbrev pub Ends : Asked → Result Checked ClientRefusal → State N L → State N L → Type 0
    Ends asked (Ok answer) old new = (new ≡ record old { cache = new.cache })
        × IsKeptOf asked answer old.cache new.cache
    Ends asked (Err refused) old new = MatchBool (keeps_link refused) (new ≡ old) (Leaves old new)

    -- what comes of a frame that was to be sent and answered
    abbrev pub Concludes : Asked → Outcome L → Result Checked ClientRefusal → State N L → State N L → Type 0
    Concludes asked (outcome.Replied link is_new framed) result old new =
        (result ≡ reply_of old.sequence old.cache.told framed) × Ends asked result (replied link is_new old) new
    Concludes asked (outcome.Wrong fault) result old new = (result ≡ Err (refusal_of fault)) × (new ≡ closed true old)
    Concludes asked (outcome.Unavailable is_tried) result old new =
        (result ≡ Err refusal.Unavailable) × (new ≡ closed is_tried old)
    Concludes asked (outcome.Memory error is_tried) result old new =
        (result ≡ Err (refusal.Memory error)) × (new ≡ closed is_tried old)

  module _ (traffic : L → Option Traffic) where
    module _ {N : Type 0} (faults dials : N → ℕ) (given_back : N → Option (List L)) where
      -- the question was to be sent, with so many tries
      pub record Sends (asked : Asked) (simple : Bool) (tries : ℕ) (result : Result Checked ClientRefusal)
          (old new : State N L) : Type 0 where
        pub came_of : Outcome L
        pub dial : N
        pub asks : Asks link_faults marks traffic (frame_of old.sequence simple asked) faults dials given_back
            tries false old.link came_of old.dial dial
        pub concluded : Concludes faults dials given_back asked came_of result (record old { dial = dial }) new

      -- no memory was found to spell the question, and nothing was sent
      pub record FindsNoRoom (result : Result Checked ClientRefusal) (old new : State N L) : Type 0 where
        pub error : AllocError
        pub is : result ≡ Err (refusal.Memory error)
        pub left : Leaves faults dials given_back old new

      abbrev pub Serves : Asked → Bool → ℕ → Result Checked ClientRefusal → State N L → State N L → Type 0
      Serves asked simple tries result old new = Sends asked simple tries result old new ⊎ FindsNoRoom result old new

    module _ (content : L → Option LinkContent) where
      -- The link is up, and there is an entry that is not older than the commit that the client was told of: it is the
      -- answer, nothing is sent, and it is the first entry from now on.
      pub record Hits {N : Type 0} (asked : Asked) (result : Result Checked ClientRefusal)
          (old new : State N L) : Type 0 where
        pub between : State N L
        pub verdict : Verdict
        pub up : FindsUp link_faults marks traffic content old between
        pub found : answer_in asked old.cache ≡ Some verdict
        pub is : result ≡ Ok (Judged verdict)
        pub now : new ≡ record between { cache = used asked between.cache }

      module _ {N : Type 0} (faults dials : N → ℕ) (given_back : N → Option (List L)) where
        -- There is no link, so one is to be dialled; or it is up, and there is no entry; or it is down, and has cost
        -- one try.
        pub data Approaches (asked : Asked) (old between : State N L) (tries : ℕ) : Type 0 where
          without_link : old.link ≡ None → between ≡ old → tries ≡ 3 → Approaches asked old between tries
          over_link : FindsUp link_faults marks traffic content old between → answer_in asked old.cache ≡ None
              → tries ≡ 3
              → Approaches asked old between tries
          past_link : FindsDown link_faults marks traffic content faults dials given_back old between → tries ≡ 2
              → Approaches asked old between tries

        -- no entry answers, and the service is asked
        pub record AsksService (asked : Asked) (simple : Bool) (result : Result Checked ClientRefusal)
            (old new : State N L) : Type 0 where
          pub between : State N L
          pub tries : ℕ
          pub approached : Approaches asked old between tries
          pub served : Serves faults dials given_back asked simple tries result between new

        abbrev pub Checks : Asked → Bool → Result Checked ClientRefusal → State N L → State N L → Type 0
        Checks asked simple result old new = Hits asked result old new ⊎ AsksService asked simple result old new
