-- A whole connection of an agent.
use Rattle.std.proofs.Common.{◌≡◌, ◌∙◌, ℕ, List, [], ◌∷◌, length, Option, Err, inr, refl, sym, ap, subst, append-nil}
use Rattle.std.specs.List.{flat_map}
use Rattle.link_ports.specs.Traffic.{Traffic}
use Rattle.cynara_keys.specs.declared.results.Kind.{Kind}
use Rattle.agent_table.specs.declared.refusals.RegisterRefusal.{RegisterRefusal}
use Rattle.agent_table.specs.declared.refusals.RegisterRefusal.TheVariants.{Taken as KindTaken, Full}
use Rattle.wire_reading.specs.Frame.{spelling}
use Rattle.wire_reading.specs.Stream.{Feeding, Hears, BeginsWrong, IsOpen, unfed}
use Rattle.wire_fields.specs.declared.messages.Framed.{Framed}
use Rattle.wire_fields.specs.declared.operations.Heard.{Heard}
use Rattle.wire_fields.specs.declared.operations.Heard.TheVariants.{AtAgent}
use Rattle.wire_fields.specs.declared.refusals.WireRefusal.TheVariants.{BadOperation}
use Rattle.server_hall.specs.Tally.{Tally, after_join}
use Rattle.server_hall.specs.Told.{AppendsCalls}
use Rattle.server_hall.specs.declared.calls.HallCall.{HallCall}
use Rattle.server_hall.specs.declared.calls.HallCall.TheVariants.{Join}
use Rattle.door_frames.specs.Carried.{Carried}
use Rattle.door_frames.specs.Hearing.{HasHeard, HearsMore, HandsOut}
use Rattle.door_frames.specs.Ending.{EndsReading, IsAtEnd, faults_after}
use Rattle.door_frames.specs.declared.endings.Ended.{Ended}
use Rattle.door_frames.specs.declared.endings.Ended.TheVariants.{Closed, Cut, Hung, LinkFault, BadFrame, Stopped, Memory, Strayed}
use Rattle.door_frames.proofs.Hearing.{unfed_heard}
use Rattle.agent_door.specs.Frame.{register_frame, taken_frame, IsOutOfPlace}
use Rattle.agent_door.specs.Serving.{AgentSide, agent_side, EndsHeeding, HasHeededAll, EndsUnregistered, IsUnregistered, IsUnjoined}
use Rattle.agent_door.specs.Serving.{TellsRefusal}
use Rattle.agent_door.specs.parts.Talk.{TellsTaken}
use Rattle.agent_door.specs.declared.messages.Registration.{Registration}
use Rattle.agent_door.proofs.Serving.{wrong_frame, unheeded, whole_heard, heeded_all, not_closed, not_cut, not_bad, not_memory}
use Rattle.agent_door.proofs.Serving.{received_and_sent}

-- ---- none registers

none : (start new : AgentSide) (ended : Ended) (bytes : List ℕ) → EndsUnregistered ended → EndsHeeding bytes [] ended
    → (ended ≡ LinkFault → HasHeededAll bytes []) → IsAtEnd ended new.marks
    → new.faults ≡ faults_after ended start.faults → new.tally ≡ start.tally → new.calls ≡ start.calls
    → Carried start.traffic new.traffic bytes [] → new.marks.ends ≡ start.marks.ends → IsUnregistered ended start new
none start new ended bytes so heeding all at_end faults tally calls carried same = record {
  received = bytes;
  ended_so = so;
  bytes = heeding;
  all = all;
  carried = carried;
  tally = tally;
  calls = calls;
  faults = faults;
  at_end = at_end;
  ends = same;
}

none_comes : (start new : AgentSide) (fed : Feeding) (ended : Ended) (bytes : List ℕ) → HasHeard bytes [] fed → fed.waiting ≡ []
    → fed.heard ≡ AtAgent → EndsReading ended fed new.marks start.faults new.faults → new.tally ≡ start.tally → new.calls ≡ start.calls
    → Carried start.traffic new.traffic bytes [] → new.marks.ends ≡ start.marks.ends → IsUnregistered ended start new
none_comes start new fed Closed bytes h empty side (sound, is, mark, still) tally calls carried same =
    none start new Closed bytes tt
    (subst (λ rest. Hears AtAgent bytes [] rest) ((h.sound sound).0 ∙ is) (whole_heard bytes [] fed empty side h))
    (λ fault. absurd (not_closed fault)) mark still tally calls carried same
none_comes start new fed (Cut count) bytes h empty side (sound, is, some, mark, still) tally calls carried same =
    let at = h.sound sound in
    none start new (Cut count) bytes tt (
      h.behind,
      whole_heard bytes [] fed empty side h,
      subst (λ (heard : Heard). IsOpen heard h.behind) side at.1,
      ap length at.0 ∙ sym is,
      some,
    )
    (λ fault. absurd (not_cut count fault)) mark still tally calls carried same
none_comes start new fed LinkFault bytes h empty side (sound, rose) tally calls carried same =
    none start new LinkFault bytes tt (unheeded bytes [] fed side h) (λ fault. heeded_all bytes [] fed empty side sound h) tt rose
    tally calls
    carried same
none_comes start new fed (BadFrame refusal) bytes h empty side (failed, of_bytes, still) tally calls carried same =
    none start new (BadFrame refusal) bytes tt
    (wrong_frame bytes [] refusal (
      h.behind,
      whole_heard bytes [] fed empty side h,
      subst (λ (heard : Heard). BeginsWrong heard h.behind refusal) side (h.wrong refusal failed),
      of_bytes,
    ))
    (λ fault. absurd (not_bad refusal fault)) tt still tally calls carried same
none_comes start new fed Memory bytes h empty side still tally calls carried same =
    none start new Memory bytes tt (unheeded bytes [] fed side h) (λ fault. absurd (not_memory fault)) tt still tally calls carried same
none_comes start new fed (Hung entered now) bytes h empty side wrong tally calls carried same = absurd wrong
none_comes start new fed Stopped bytes h empty side wrong tally calls carried same = absurd wrong
none_comes start new fed (Strayed number found) bytes h empty side wrong tally calls carried same = absurd wrong

-- no frame comes
pub none_heard : (start new : AgentSide) (feeder fed : Feeding) (ended : Ended) (bytes : List ℕ) → feeder ≡ unfed AtAgent
    → HearsMore bytes feeder fed → fed.waiting ≡ [] → fed.heard ≡ feeder.heard
    → EndsReading ended fed new.marks start.faults new.faults → new.tally ≡ start.tally → new.calls ≡ start.calls
    → Carried start.traffic new.traffic bytes [] → new.marks.ends ≡ start.marks.ends → IsUnregistered ended start new
none_heard start new feeder fed ended bytes first hears empty side reading tally calls carried same =
    none_comes start new fed ended bytes
    (subst (λ (x : Feeding). HearsMore bytes x fed) first hears [] [] (unfed_heard AtAgent)) empty
    (side ∙ ap (λ (x : Feeding). x.heard) first) reading tally calls carried same

-- a frame comes that is no registration
pub none_in_place : (start new : AgentSide) (feeder fed : Feeding) (ended : Ended) (bytes : List ℕ) (framed : Framed)
    → feeder ≡ unfed AtAgent
    → HandsOut bytes framed feeder fed → fed.heard ≡ feeder.heard → IsOutOfPlace 0x21 framed ended
    → new.faults ≡ start.faults → new.tally ≡ start.tally → new.calls ≡ start.calls
    → Carried start.traffic new.traffic bytes [] → new.marks.ends ≡ start.marks.ends → IsUnregistered ended start new
none_in_place start new feeder fed ended bytes framed first handed side (number, is) still tally calls carried same =
    let h : HasHeard bytes (framed ∷ []) fed =
    subst (λ (x : Feeding). HandsOut bytes framed x fed) first handed [] [] (unfed_heard AtAgent) in
    let found = unheeded bytes (framed ∷ []) fed (side ∙ ap (λ (x : Feeding). x.heard) first) h in
    subst (λ (e : Ended). IsUnregistered e start new) (sym is)
    (none start new (BadFrame (BadOperation 0x21)) bytes tt (inr (framed, found.0, found.1, found.2, number, refl))
    (λ fault. absurd (not_bad (BadOperation 0x21) fault)) tt still tally calls carried same)

-- ---- one registers

pub registers : (bytes : List ℕ) (framed : Framed) (registration : Registration) (feeder fed : Feeding) → feeder ≡ unfed AtAgent
    → framed ≡ register_frame registration → HandsOut bytes framed feeder fed → HasHeard bytes (register_frame registration ∷ []) fed
registers bytes framed registration feeder fed first is handed =
    subst (λ (x : Framed). HasHeard bytes (x ∷ []) fed) is
    (subst (λ (x : Feeding). HandsOut bytes framed x fed) first handed [] [] (unfed_heard AtAgent))

-- and is not taken in
pub not_joined : (start new : AgentSide) (fed : Feeding) (registration : Registration) (refusal : RegisterRefusal) (ended : Ended)
    (bytes : List ℕ) (sent : List Framed) (between : Option Traffic) → HasHeard bytes (register_frame registration ∷ []) fed
    → fed.heard ≡ AtAgent
    → TellsRefusal registration refusal ended sent
    → Carried start.traffic between bytes [] → Carried between new.traffic [] (flat_map spelling sent)
    → new.tally ≡ after_join (record { kind = registration.kind; result = Err refusal }) start.tally
    → AppendsCalls start.calls (Join (record { kind = registration.kind; result = Err refusal }) ∷ []) new.calls
    → new.faults ≡ faults_after ended start.faults → new.marks.ends ≡ start.marks.ends → IsUnjoined ended start new
not_joined start new fed registration refusal ended bytes sent between h side told one then tally calls faults same = record {
  registration = registration;
  received = bytes;
  refusal = refusal;
  sent = sent;
  told = told;
  bytes = unheeded bytes (register_frame registration ∷ []) fed side h;
  carried = received_and_sent start.traffic between new.traffic bytes (flat_map spelling sent) one then;
  tally = tally;
  calls = calls;
  faults = faults;
  ends = same;
}

-- the refusal is told as `KindTaken`
record IsToldTaken (registration : Registration) (refusal : RegisterRefusal) : Type 0 where
  pub closed : TellsRefusal registration refusal Closed (taken_frame registration ∷ [])
  pub fault : TellsRefusal registration refusal LinkFault []
  pub memory : TellsRefusal registration refusal Memory []

told_taken : (start new : AgentSide) (fed : Feeding) (registration : Registration) (refusal : RegisterRefusal) (ended : Ended)
    (bytes : List ℕ) (between : Option Traffic) (faults : ℕ) → IsToldTaken registration refusal
    → HasHeard bytes (register_frame registration ∷ []) fed → fed.heard ≡ AtAgent
    → TellsTaken registration ended between new.traffic faults new.faults → faults ≡ start.faults
    → Carried start.traffic between bytes []
    → new.tally ≡ after_join (record { kind = registration.kind; result = Err refusal }) start.tally
    → AppendsCalls start.calls (Join (record { kind = registration.kind; result = Err refusal }) ∷ []) new.calls
    → new.marks.ends ≡ start.marks.ends → IsUnjoined ended start new
told_taken start new fed registration refusal Closed bytes between faults is h side (sent, now) still one tally calls same =
    not_joined start new fed registration refusal Closed bytes (taken_frame registration ∷ []) between h side is.closed one
    (subst (λ list. Carried between new.traffic [] list) (sym (append-nil (spelling (taken_frame registration)))) sent)
    tally calls (now ∙ still) same
told_taken start new fed registration refusal LinkFault bytes between faults is h side (unsent, rose) still one tally calls same =
    not_joined start new fed registration refusal LinkFault bytes [] between h side is.fault one unsent
    tally calls (rose ∙ ap (λ count. faults_after LinkFault count) still) same
told_taken start new fed registration refusal Memory bytes between faults is h side (unsent, now) still one tally calls same =
    not_joined start new fed registration refusal Memory bytes [] between h side is.memory one unsent
    tally calls (now ∙ still) same
told_taken start new fed registration refusal (Cut count) bytes between faults is h side (unsent, wrong) still one tally calls same =
    absurd wrong
told_taken start new fed registration refusal (Hung entered at) bytes between faults is h side (unsent, wrong) still one tally calls same =
    absurd wrong
told_taken start new fed registration refusal (BadFrame wire) bytes between faults is h side (unsent, wrong) still one tally calls same =
    absurd wrong
told_taken start new fed registration refusal Stopped bytes between faults is h side (unsent, wrong) still one tally calls same =
    absurd wrong
told_taken start new fed registration refusal (Strayed number found) bytes between faults is h side (unsent, wrong) still one tally calls same =
    absurd wrong

-- since the kind has an agent
taken_is_told : (registration : Registration) (refusal : RegisterRefusal) (kind : Kind) → refusal ≡ KindTaken kind
    → IsToldTaken registration refusal
taken_is_told registration refusal kind is =
    subst (λ (r : RegisterRefusal). IsToldTaken registration r) (sym is) (record { closed = refl; fault = refl; memory = refl })

pub kind_is_taken : (start new : AgentSide) (fed : Feeding) (registration : Registration) (kind : Kind) (refusal : RegisterRefusal)
    (ended : Ended)
    (bytes : List ℕ) (between : Option Traffic) (faults : ℕ) → refusal ≡ KindTaken kind
    → HasHeard bytes (register_frame registration ∷ []) fed → fed.heard ≡ AtAgent
    → TellsTaken registration ended between new.traffic faults new.faults → faults ≡ start.faults
    → Carried start.traffic between bytes []
    → new.tally ≡ after_join (record { kind = registration.kind; result = Err refusal }) start.tally
    → AppendsCalls start.calls (Join (record { kind = registration.kind; result = Err refusal }) ∷ []) new.calls
    → new.marks.ends ≡ start.marks.ends → IsUnjoined ended start new
kind_is_taken start new fed registration kind refusal ended bytes between faults is h side told still one tally calls same =
    told_taken start new fed registration refusal ended bytes between faults (taken_is_told registration refusal kind is) h side told still
    one tally calls same

-- since as many kinds have one as may
pub table_is_full : (start new : AgentSide) (fed : Feeding) (registration : Registration) (refusal : RegisterRefusal) (ended : Ended)
    (bytes : List ℕ) (between : Option Traffic) (faults : ℕ) → refusal ≡ Full
    → HasHeard bytes (register_frame registration ∷ []) fed → fed.heard ≡ AtAgent
    → TellsTaken registration ended between new.traffic faults new.faults → faults ≡ start.faults
    → Carried start.traffic between bytes []
    → new.tally ≡ after_join (record { kind = registration.kind; result = Err refusal }) start.tally
    → AppendsCalls start.calls (Join (record { kind = registration.kind; result = Err refusal }) ∷ []) new.calls
    → new.marks.ends ≡ start.marks.ends → IsUnjoined ended start new
table_is_full start new fed registration refusal ended bytes between faults is h side told still one tally calls same =
    told_taken start new fed registration refusal ended bytes between faults
    (subst (λ (r : RegisterRefusal). IsToldTaken registration r) (sym is) (record { closed = refl; fault = refl; memory = refl }))
    h side told still one tally calls same

-- ---- it leaves

pub parts : (last : AgentSide) (after tally : Tally) (calls : Option (List HallCall)) → tally ≡ after → calls ≡ last.calls
    → agent_side tally calls last.traffic last.marks last.faults ≡ record last { tally = after }
parts last after tally calls counted same =
    ap (λ (t : Tally). agent_side t calls last.traffic last.marks last.faults) counted
    ∙ ap (λ (made : Option (List HallCall)). agent_side after made last.traffic last.marks last.faults) same
