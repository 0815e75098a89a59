-- A frame is sent and answered over a link, or over a new one where that fails.
use Rattle.std.specs.Prelude.{◌≡◌, ◌<◌, ℕ, zero, suc, Bool, true, false, ◌||◌, List, [], ◌∷◌, ◌++◌, length, Option}
use Rattle.std.specs.Prelude.{Some, None, is_some, not, Result, Ok, Err}
use Rattle.desk_ports.specs.Faults.{next_count}
use Rattle.link_ports.specs.Traffic.{Traffic, IsSilent}
use Rattle.link_ports.specs.LinkMarks.{LinkMarks, fresh_marks}
use Rattle.link_ports.specs.NetCounts.{count_after_give_back}
use Rattle.wire_fields.specs.declared.messages.Framed.{Framed}
use Rattle.client_connection.specs.Exchange.{Exchanges}
use Rattle.client_connection.specs.Giving.{Appends}
use Rattle.client_connection.specs.declared.faults.Broken.{Broken}
use Rattle.client_connection.specs.declared.faults.Broken.TheVariants.{Lost, Wrong}
use Rattle.client_connection.specs.declared.asking.Outcome.{Outcome}
use Rattle.client_connection.specs.declared.asking.Outcome.TheVariants as outcome

-- a count that rose so many times, and stands still at the last value
abbrev pub counted : ℕ → ℕ → ℕ
counted zero count = count
counted (suc n) count = counted n (next_count count)

-- ---- tries that were lost: on each a dial failed, `None`, or a link, which was given back

-- the links among them
abbrev pub links_of : {L : Type 0} → List (Option L) → List L
links_of [] = []
links_of (None ∷ lost) = links_of lost
links_of (Some link ∷ lost) = link ∷ links_of lost

-- whether there is one: then the frame was tried to be sent
abbrev pub has_link : {L : Type 0} → List (Option L) → Bool
has_link [] = false
has_link (None ∷ lost) = has_link lost
has_link (Some link ∷ lost) = true

-- The link that is there behind them. After a try that was lost none is.
abbrev pub link_behind : {L : Type 0} → Option L → List (Option L) → Option L
link_behind entry [] = entry
link_behind entry (try ∷ lost) = None

-- how many tries were made: those that were lost, and one more where that was not the end
abbrev pub tries_made : {L : Type 0} → Outcome L → List (Option L) → ℕ
tries_made (outcome.Unavailable is_tried) lost = length lost
tries_made other lost = suc (length lost)

-- how often so many tries dial: each but the first, and the first too where no link was there
abbrev pub dials_in : Bool → ℕ → ℕ
dials_in had zero = zero
dials_in true (suc n) = n
dials_in false (suc n) = suc n

-- The link as it was before the frame: the one that was there, or else one that was dialled. Of the latter all is said
-- that a dialler promises: nothing went over it, no call of it has failed, and it bears no mark.
abbrev pub IsBase : {L : Type 0} → (L → ℕ) → (L → LinkMarks) → (L → Option Traffic) → Option L → L → Type 0
IsBase link_faults marks traffic (Some link) base = base ≡ link
IsBase link_faults marks traffic None base = (marks base ≡ fresh_marks) × (link_faults base ≡ 0)
    × IsSilent (traffic base)

module _ {L : Type 0} (link_faults : L → ℕ) (marks : L → LinkMarks) (traffic : L → Option Traffic)
    (frame : List ℕ) where
  -- the frame went out on a link, and this came over it
  pub record CameOver (entry : Option L) (result : Result Framed Broken) (link : L) : Type 0 where
    pub base : L
    pub is_base : IsBase link_faults marks traffic entry base
    pub exchanged : Exchanges frame result (traffic base) (traffic link)
    pub ends : (marks link).ends ≡ 0

  -- Tries that were lost, one after the other: over the link that was there no whole reply came, nor over those that
  -- were dialled then.
  abbrev pub AreLost : Option L → List (Option L) → Type 0
  AreLost entry [] = Unit {0}
  AreLost entry (None ∷ lost) = (entry ≡ None) × AreLost None lost
  AreLost entry (Some link ∷ lost) = CameOver entry (Err Lost) link × AreLost None lost

  module _ {N : Type 0} (faults dials : N → ℕ) (given_back : N → Option (List L)) where
    -- the dialler counted each try that was lost, and has the links back
    pub record Loses (lost : List (Option L)) (old new : N) : Type 0 where
      pub counted_each : faults new ≡ counted (length lost) (faults old)
      pub given : Appends (links_of lost) (given_back old) (given_back new)

    -- the reply came over this link, which stays out
    pub record Replies (entry : Option L) (lost : List (Option L)) (link : L) (is_new : Bool) (framed : Framed)
        (old new : N) : Type 0 where
      pub came : CameOver (link_behind entry lost) (Ok framed) link
      pub new_link : is_new ≡ not (is_some (link_behind entry lost))
      pub loses : Loses lost old new

    -- what came over the link is no frame, and the link was given back too
    pub record RepliesWrong (entry : Option L) (lost : List (Option L)) (wrong : Broken) (old new : N) : Type 0 where
      pub link : L
      pub came : CameOver (link_behind entry lost) (Err wrong) link
      pub counted_each : faults new ≡ count_after_give_back (marks link) (link_faults link)
          (counted (length lost) (faults old))
      pub given : Appends (links_of lost ++ link ∷ []) (given_back old) (given_back new)

    -- What came of it behind the tries that were lost, which are fewer than there were, or as many. Memory runs out at
    -- a dial alone, where no link is there.
    abbrev pub ComesOf : ℕ → Bool → Option L → List (Option L) → Outcome L → N → N → Type 0
    ComesOf tries before entry lost (outcome.Replied link is_new framed) old new =
        (length lost < tries) × Replies entry lost link is_new framed old new
    ComesOf tries before entry lost (outcome.Wrong refusal) old new =
        (length lost < tries) × RepliesWrong entry lost (Wrong refusal) old new
    ComesOf tries before entry lost (outcome.Unavailable is_tried) old new =
        (length lost ≡ tries) × (is_tried ≡ (before || has_link lost)) × Loses lost old new
    ComesOf tries before entry lost (outcome.Memory error is_tried) old new =
        (length lost < tries) × (link_behind entry lost ≡ None) × (is_tried ≡ (before || has_link lost))
        × Loses lost old new

    -- The frame was to be sent with so many tries, on the link that was there, if one was, and this came of it. Whether
    -- it was tried to be sent before.
    pub record Asks (tries : ℕ) (before : Bool) (entry : Option L) (result : Outcome L) (old new : N) : Type 0 where
      pub lost : List (Option L)
      pub each : AreLost entry lost
      pub came : ComesOf tries before entry lost result old new
      pub dialled : dials new ≡ counted (dials_in (is_some entry) (tries_made result lost)) (dials old)
