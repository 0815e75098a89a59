-- Which message may come behind which.
use Rattle.std.proofs.Common.{inl, inr, List, [], ◌∷◌, ◌++◌}
use Rattle.wire_fields.specs.declared.messages.Framed.{Framed}
use Rattle.wire_fields.specs.declared.messages.Message.{Message}
use Rattle.wire_fields.specs.declared.messages.Message.TheVariants as m
use Rattle.agent_runs.specs.AgentTalk.{IsRegistered, IsRefused, IsQuestion, IsTurn, AreTurns, GoesOn, IsTaken, AreInPlace}

-- ---- one message

pub refused-first : (message : Message) → IsRegistered message → IsRefused message → ⊥
refused-first (m.Registered kind) registered refused = refused
refused-first message registered refused = registered

refused-turn : (message : Message) → IsTurn message → IsRefused message → ⊥
refused-turn (m.KindTaken kind) turn refused = turn
refused-turn message turn refused = refused

pub refused-question : (message : Message) → IsQuestion message → IsRefused message → ⊥
refused-question (m.KindTaken kind) question refused = question
refused-question message question refused = refused

-- ---- behind others

turns-then : (turns : List Framed) (framed : Framed) → AreTurns turns → IsTurn framed.message → AreTurns (turns ++ framed ∷ [])
turns-then [] framed all turn = (turn, tt)
turns-then (first ∷ turns) framed all turn = (all.0, turns-then turns framed all.1 turn)

-- a turn behind messages of which the first is the registration
pub turn-goes_on : (first : Framed) (turns : List Framed) (framed : Framed) → GoesOn (first ∷ turns) → IsTurn framed.message
    → GoesOn (first ∷ (turns ++ framed ∷ []))
turn-goes_on first turns framed goes turn = (goes.0, turns-then turns framed goes.1 turn)

last-turn : (turns : List Framed) (framed : Framed) → AreTurns (turns ++ framed ∷ []) → IsTurn framed.message
last-turn [] framed turns = turns.0
last-turn (turn ∷ turns) framed all = last-turn turns framed all.1

-- no other message is in its place behind the registration
pub misplaced-turn : (first : Framed) (turns : List Framed) (framed : Framed) → GoesOn (first ∷ turns) → (IsTurn framed.message → ⊥)
    → AreInPlace (first ∷ (turns ++ framed ∷ [])) → ⊥
misplaced-turn first turns framed goes none (inl all) = none (last-turn turns framed all.1)
misplaced-turn first turns framed goes none (inr taken) = refused-first first.message goes.0 taken.0

-- an agent hears on behind a message in its place that does not say that the kind is taken
pub place-goes_on : (messages : List Framed) (framed : Framed) → GoesOn messages → (IsRefused framed.message → ⊥)
    → AreInPlace (messages ++ framed ∷ []) → GoesOn (messages ++ framed ∷ [])
place-goes_on messages framed goes none (inl all) = all
place-goes_on [] framed goes none (inr taken) = absurd (none taken.0)
place-goes_on (first ∷ turns) framed goes none (inr taken) = absurd (refused-first first.message goes.0 taken.0)

-- one that does is the only one
pub place-taken : (messages : List Framed) (framed : Framed) → IsRefused framed.message → AreInPlace (messages ++ framed ∷ [])
    → IsTaken (messages ++ framed ∷ [])
place-taken [] framed refused (inl goes) = absurd (refused-first framed.message goes.0 refused)
place-taken (first ∷ turns) framed refused (inl goes) = absurd (refused-turn framed.message (last-turn turns framed goes.1) refused)
place-taken messages framed refused (inr taken) = taken
