-- One try of a question, and all of them.
use Rattle.std.specs.Prelude.{◌≡◌, ℕ, ◌-◌, nat_le, Bool, true, false, List, Option, Some, None, Result}
use Rattle.link_ports.specs.Traffic.{Traffic}
use Rattle.link_ports.specs.LinkMarks.{LinkMarks}
use Rattle.wire_fields.specs.declared.messages.Framed.{Framed}
use Rattle.client_connection.specs.Giving.{GivesBack}
use Rattle.client_connection.specs.Asking.{Asks}
use Rattle.client_connection.specs.parts.Over.{GoesOver}
use Rattle.client_connection.specs.declared.asking.Outcome.{Outcome}
use Rattle.client_connection.specs.declared.asking.Outcome.TheVariants as outcome
use Rattle.client_core.specs.Hearing.{fault_by}
use Rattle.client_core.specs.Client.{Client, forgotten, raised, asked_by, waiting, with_tries}
use Rattle.client_core.specs.Asking.{fault_in, IsKept}
use Rattle.client_core.specs.declared.stages.Asking.{Asking}
use Rattle.client_core.specs.declared.stages.Stage.TheVariants as stage
use Rattle.client_core.specs.declared.steps.Fault.{Fault}
use Rattle.client_core.specs.declared.steps.Fault.TheVariants as fault
use Rattle.cynara_client.specs.State.{State}
use Rattle.cynara_client.specs.Checking.{Concludes}
use Rattle.cynara_client.specs.parts.States.{seen}
use Rattle.cynara_client.specs.declared.refusals.Checked.{Checked}
use Rattle.cynara_client.specs.declared.refusals.ClientRefusal.{ClientRefusal}
use Rattle.cynara_client.specs.declared.trying.Tried.{Tried}
use Rattle.cynara_client.specs.declared.trying.Tried.TheVariants as tried

-- a try was lost, which may have been the last one
abbrev pub gives_up : {L : Type 0} → Bool → Bool → Asking → Tried L → Client → Client → Type 0
gives_up true is_tried asking made old new = (made ≡ tried.Over fault.Unavailable)
    × (new ≡ raised is_tried (forgotten old))
gives_up false is_tried asking made old new =
    (made ≡ tried.Again)
    × (new ≡ record (forgotten old) {
      stage = stage.Dialling
          (with_tries (asking.tries - 1) (record asking { is_tried = is_tried }));
    })

module _ {L : Type 0} (link_faults : L → ℕ) (marks : L → LinkMarks) where
  module _ {N : Type 0} (faults dials : N → ℕ) (given_back : N → Option (List L)) where
    -- a reply is whole: it is the answer, or it is wrong, and the link is given back
    abbrev pub replies : Option Fault → L → Framed → Asking → Tried L → Client → Client → N → N → Type 0
    replies None link framed asking made old new mid after =
        (made ≡ tried.Replied link framed.message)
        × IsKept (asked_by asking) framed.message old.cache new.cache
        × (new ≡ raised true (record old { cache = new.cache; is_linked = true; stage = stage.Idle }))
        × (after ≡ mid)
    replies (Some found) link framed asking made old new mid after =
        (made ≡ tried.Over found)
        × (new ≡ raised true (forgotten old))
        × GivesBack faults dials given_back link_faults marks link mid after

    -- what comes of what came of a frame
    abbrev pub Follows : Outcome L → Asking → Tried L → Client → Client → N → N → Type 0
    Follows (outcome.Replied link is_new framed) asking made old new mid after =
        replies (fault_in old.sequence old.cache.told framed) link framed asking made old new mid after
    Follows (outcome.Wrong refusal) asking made old new mid after =
        (made ≡ tried.Over (fault_by refusal)) × (new ≡ raised true (forgotten old)) × (after ≡ mid)
    Follows (outcome.Unavailable is_tried) asking made old new mid after =
        gives_up (nat_le asking.tries 1) is_tried asking made old new × (after ≡ mid)
    Follows (outcome.Memory error is_tried) asking made old new mid after =
        (made ≡ tried.Over (fault.Memory error)) × (new ≡ raised is_tried (forgotten old)) × (after ≡ mid)

  module _ (traffic : L → Option Traffic) where
    module _ {N : Type 0} (faults dials : N → ℕ) (given_back : N → Option (List L)) where
      -- the frame went over a link that is there or was dialled
      pub record TalksOver (is_new : Bool) (asking : Asking) (base : L) (made : Tried L) (old new : Client)
          (before after : N) : Type 0 where
        pub came_of : Outcome L
        pub mid : N
        pub over : GoesOver link_faults marks traffic old.frame faults dials given_back is_new base came_of before mid
        pub follows : Follows faults dials given_back came_of asking made old new mid after

      -- the frame went over a link that was dialled: the machine was told so
      pub record TalksAnew (asking : Asking) (base : L) (made : Tried L) (old new : Client)
          (before after : N) : Type 0 where
        pub mid : Client
        pub told : mid ≡ record old { is_linked = true; stage = waiting asking }
        pub talks : TalksOver true asking base made mid new before after

      -- the frame was to be sent, over this link or over one that is dialled
      pub record TriesOnce (asking : Asking) (entry : Option L) (made : Tried L) (old new : Client)
          (before after : N) : Type 0 where
        pub came_of : Outcome L
        pub mid : N
        pub asks : Asks link_faults marks traffic old.frame faults dials given_back 1 asking.is_tried entry came_of
            before mid
        pub follows : Follows faults dials given_back came_of asking made old new mid after

      -- the same, with as many tries as there are
      pub record Goes (asking : Asking) (entry : Option L) (result : Result Checked ClientRefusal) (before : N)
          (new : State N L) (old : Client) : Type 0 where
        pub came_of : Outcome L
        pub mid : N
        pub asks : Asks link_faults marks traffic old.frame faults dials given_back asking.tries asking.is_tried entry
            came_of before mid
        pub concluded : Concludes link_faults marks faults dials given_back (asked_by asking) came_of result
            (seen mid entry old) new
