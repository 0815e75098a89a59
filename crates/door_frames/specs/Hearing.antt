-- The frames that were heard in the bytes that a connection received, and what is behind them.
use Rattle.std.specs.Prelude.{◌≡◌, ℕ, List, [], ◌∷◌, ◌++◌, Option, Some, None}
use Rattle.wire_reading.specs.Stream.{Feeding, Hears, BeginsWrong, IsOpen}
use Rattle.wire_fields.specs.declared.messages.Framed.{Framed}
use Rattle.wire_fields.specs.declared.refusals.WireRefusal.{WireRefusal}

-- A feeder that was fed these bytes, of which these frames were taken: the frames that wait come behind them, and what
-- is behind those is less than a frame, or wrong where the feeder has failed.
pub record HasHeard (bytes : List ℕ) (taken : List Framed) (feeder : Feeding) : Type 0 where
  pub behind : List ℕ
  pub heard : Hears feeder.heard bytes (taken ++ feeder.waiting) behind
  pub sound : feeder.failed ≡ None → (behind ≡ feeder.partial) × IsOpen feeder.heard behind
  pub wrong : (refusal : WireRefusal) → feeder.failed ≡ Some refusal → BeginsWrong feeder.heard behind refusal

-- a feeder that has not failed holds less than a frame, and what is there of it is right
abbrev pub IsSound : Feeding → Type 0
IsSound feeder = feeder.failed ≡ None → IsOpen feeder.heard feeder.partial

-- Whatever it had heard, it heard these bytes more.
abbrev pub HearsMore : List ℕ → Feeding → Feeding → Type 0
HearsMore more old new =
    (bytes : List ℕ) (taken : List Framed) → HasHeard bytes taken old → HasHeard (bytes ++ more) taken new

-- Whatever it had heard, it heard these bytes more, and this frame was taken.
abbrev pub HandsOut : List ℕ → Framed → Feeding → Feeding → Type 0
HandsOut more framed old new =
    (bytes : List ℕ) (taken : List Framed) → HasHeard bytes taken old
    → HasHeard (bytes ++ more) (taken ++ framed ∷ []) new

-- The feeder has failed with this refusal; no frame waits, and what it had heard before it has heard still.
pub record IsRefused (old new : Feeding) (refusal : WireRefusal) : Type 0 where
  pub failed : new.failed ≡ Some refusal
  pub empty : new.waiting ≡ []
  pub side : new.heard ≡ old.heard
  pub heard : HearsMore [] old new
