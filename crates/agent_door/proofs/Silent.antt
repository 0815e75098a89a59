-- An agent that sends nothing is sent nothing.
use Rattle.std.proofs.Common.{◌≡◌, ◌∙◌, ◌⊎◌, inl, inr, ℕ, List, [], ◌∷◌, ◌++◌, length, refl, sym, ap, subst, arith}
use Rattle.std.specs.List.{flat_map}
use Rattle.wire_reading.specs.Frame.{spelling}
use Rattle.wire_reading.specs.Stream.{Hears, first_of}
use Rattle.wire_fields.specs.declared.messages.Framed.{Framed}
use Rattle.wire_fields.specs.declared.operations.Heard.TheVariants.{AtAgent}
use Rattle.wire_fields.specs.declared.refusals.WireRefusal.{WireRefusal}
use Rattle.wire_fields.specs.declared.refusals.WireRefusal.TheVariants.{TooShort, TooLong, BadOperation, BadField, Trailing}
use Rattle.wire_fields.specs.declared.refusals.WireRefusal.TheVariants.{Memory as NoMemory}
use Rattle.wire_reading.proofs.Hearings.{heard_once}
use Rattle.door_frames.specs.Carried.{Carried}
use Rattle.door_frames.specs.Ending.{faults_after}
use Rattle.door_frames.specs.declared.endings.Ended.{Ended}
use Rattle.door_frames.specs.declared.endings.Ended.TheVariants.{Closed, Cut, Hung, LinkFault, BadFrame, Stopped, Memory, Strayed}
use Rattle.agent_door.specs.Frame.{register_frame}
use Rattle.agent_door.specs.Round.{rounds_frames}
use Rattle.agent_door.specs.Serving.{AgentSide, Serves, Asks, Closes, IsUnregistered, EndsUnregistered, EndsHeeding, HasBegun}
use Rattle.agent_door.specs.Complete.{IsQuiet, Receives, IsUntold}
use Rattle.agent_door.specs.declared.messages.Registration.{Registration}
use Rattle.door_frames.proofs.WholeFrames.{nothing_open, right_whole, partial_not_whole}
use Rattle.agent_door.proofs.Complete.{moves, heard_so, sends_so}

-- no frame is heard in no bytes
never_heard : (bytes : List ℕ) (framed : Framed) (more : List Framed) (rest : List ℕ) → Hears AtAgent bytes (framed ∷ more) rest
    → Hears AtAgent bytes [] [] → ⊥
never_heard bytes framed more rest (behind, some, others) none =
    partial_not_whole framed behind (sym (nothing_open AtAgent) ∙ (ap (first_of AtAgent) (sym none) ∙ some))

-- nor heeded
never_begun : (bytes : List ℕ) (framed : Framed) (heeded : List Framed) → HasBegun bytes (framed ∷ heeded) → Hears AtAgent bytes [] [] → ⊥
never_begun bytes framed heeded (more, rest, some) none = never_heard bytes framed (heeded ++ more) rest some none

never_wrong : (refusal : WireRefusal) (bytes : List ℕ) (framed : Framed) (heeded : List Framed)
    → EndsHeeding bytes (framed ∷ heeded) (BadFrame refusal) → Hears AtAgent bytes [] [] → ⊥
never_wrong (BadOperation number) bytes framed heeded (inl (rest, some, wrong, of_bytes)) none =
    never_heard bytes framed heeded rest some none
never_wrong (BadOperation number) bytes framed heeded (inr (later, more, rest, some, is, place)) none =
    never_heard bytes framed (heeded ++ later ∷ more) rest some none
never_wrong (TooShort count) bytes framed heeded (rest, some, wrong, of_bytes) none = never_heard bytes framed heeded rest some none
never_wrong (TooLong count) bytes framed heeded (rest, some, wrong, of_bytes) none = never_heard bytes framed heeded rest some none
never_wrong (BadField place) bytes framed heeded (rest, some, wrong, of_bytes) none = never_heard bytes framed heeded rest some none
never_wrong (Trailing place) bytes framed heeded (rest, some, wrong, of_bytes) none = never_heard bytes framed heeded rest some none
never_wrong (NoMemory error) bytes framed heeded (rest, some, wrong, of_bytes) none = never_heard bytes framed heeded rest some none

-- so no agent has joined
never_asked : (ended : Ended) (registration : Registration) (start last : AgentSide) (a : Asks registration start last ended)
    → Hears AtAgent a.received [] [] → ⊥
never_asked Closed registration start last a none =
    elim a.asking [
      | Closes.at_end one is whole mark ↦
          never_heard a.received (register_frame registration) (rounds_frames (a.rounds ++ a.open_round)) [] whole none
      | Closes.too_late one is begun ↦
          never_begun a.received (register_frame registration) (rounds_frames (a.rounds ++ a.open_round)) begun none
      | Closes.has_left open_round is begun down ↦
          never_begun a.received (register_frame registration) (rounds_frames (a.rounds ++ a.open_round)) begun none
    ]
never_asked (Cut count) registration start last a none =
    let (one, is, (rest, some, unfinished, length_is, many), mark) = a.asking in
    never_heard a.received (register_frame registration) (rounds_frames (a.rounds ++ a.open_round)) rest some none
never_asked (BadFrame refusal) registration start last a none =
    never_wrong refusal a.received (register_frame registration) (rounds_frames (a.rounds ++ a.open_round)) a.asking.2 none
never_asked LinkFault registration start last a none =
    never_begun a.received (register_frame registration) (rounds_frames (a.rounds ++ a.open_round)) a.asking.1 none
never_asked Memory registration start last a none =
    never_begun a.received (register_frame registration) (rounds_frames (a.rounds ++ a.open_round)) a.asking.1 none
never_asked Stopped registration start last a none =
    never_begun a.received (register_frame registration) (rounds_frames (a.rounds ++ a.open_round)) a.asking.2 none
never_asked (Hung entered now) registration start last a none = absurd a.asking
never_asked (Strayed number found) registration start last a none = absurd a.asking

-- no agent registered
untold_so : (result : Ended) (start now : AgentSide) (u : IsUnregistered result start now) → IsQuiet start now → (r : Receives [] start now)
    → ((result ≡ Closed) × IsUntold start now) ⊎ (result ≡ Memory)
untold_so result start now u quiet r =
    by result refl u.ended_so u.bytes u.faults
  where
    none : Hears AtAgent u.received [] []
    none = heard_so start now [] u.received [] r u.carried

    by : (ended : Ended) → result ≡ ended → EndsUnregistered ended → EndsHeeding u.received [] ended
        → now.faults ≡ faults_after ended start.faults → ((result ≡ Closed) × IsUntold start now) ⊎ (result ≡ Memory)
    by Closed is so bytes counted =
        inl (is, record { sends = sends_so start now [] [] u.received [] r u.carried refl; tally = u.tally; calls = u.calls })
    by (Cut count) is so (rest, some, unfinished, length_is, many) counted =
        let same = (heard_once AtAgent u.received [] [] rest [] some unfinished none (nothing_open AtAgent)).1 in
        absurd (omega (arith, sym (ap length same) ∙ length_is, many))
    by LinkFault is so bytes rose = absurd (moves start.faults start.faults now.faults quiet.faults (omega arith) (omega (arith, rose)))
    by (BadFrame (BadOperation number)) is so (inl (rest, some, wrong, of_bytes)) counted =
        absurd (right_whole AtAgent u.received [] [] rest (BadOperation number) none some wrong of_bytes)
    by (BadFrame (BadOperation number)) is so (inr (framed, more, rest, some, named, place)) counted =
        absurd (never_heard u.received framed more rest some none)
    by (BadFrame (TooShort count)) is so (rest, some, wrong, of_bytes) counted =
        absurd (right_whole AtAgent u.received [] [] rest (TooShort count) none some wrong of_bytes)
    by (BadFrame (TooLong count)) is so (rest, some, wrong, of_bytes) counted =
        absurd (right_whole AtAgent u.received [] [] rest (TooLong count) none some wrong of_bytes)
    by (BadFrame (BadField place)) is so (rest, some, wrong, of_bytes) counted =
        absurd (right_whole AtAgent u.received [] [] rest (BadField place) none some wrong of_bytes)
    by (BadFrame (Trailing place)) is so (rest, some, wrong, of_bytes) counted =
        absurd (right_whole AtAgent u.received [] [] rest (Trailing place) none some wrong of_bytes)
    by (BadFrame (NoMemory error)) is so (rest, some, wrong, of_bytes) counted = absurd of_bytes
    by Memory is so bytes counted = inr is
    by (Hung entered at) is so bytes counted = absurd so
    by Stopped is so bytes counted = absurd so
    by (Strayed number found) is so bytes counted = absurd so

pub silent : (result : Ended) (start now : AgentSide) → Serves result start now → IsQuiet start now → Receives [] start now
    → ((result ≡ Closed) × IsUntold start now) ⊎ (result ≡ Memory)
silent result start now serves quiet r =
    elim serves [
      | Serves.unregistered u ↦ untold_so result start now u quiet r
      | Serves.unjoined u ↦
          let (more, rest, some) = u.bytes in
          absurd (never_heard u.received (register_frame u.registration) more rest some
          (heard_so start now [] u.received (flat_map spelling u.sent) r u.carried))
      | Serves.joined registration last asks is ↦
          absurd (never_asked result registration start last asks
          (heard_so start now [] asks.received (flat_map spelling asks.sent) r
          (subst (λ (x : AgentSide). Carried start.traffic x.traffic asks.received (flat_map spelling asks.sent)) (sym is) asks.carried)))
    ]
