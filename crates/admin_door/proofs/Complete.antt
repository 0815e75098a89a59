-- A connection around which nothing fails is answered whole, and a command during which no call of the disk fails is decided.
use Rattle.std.proofs.Common.{◌≡◌, ◌∙◌, ◌⊎◌, inl, inr, ℕ, List, [], ◌∷◌, ◌++◌, length, Option, Some, refl, sym, ap, subst, append-nil}
use Rattle.std.proofs.Common.{append_assoc, arith, nat_lt, Bool, true, false, cond}
use Rattle.std.proofs.lemmas.List.{append_cancel_left}
use Rattle.desk_ports.specs.Disk.{DiskState}
use Rattle.desk_ports.specs.Faults.{next_count}
use Rattle.link_ports.specs.Traffic.{Traffic}
use Rattle.desk_state.specs.declared.commands.Command.{Command}
use Rattle.wire_messages.specs.Commands.{command_of}
use Rattle.wire_reading.specs.Stream.{Hears, first_of}
use Rattle.wire_fields.specs.declared.messages.Framed.{Framed}
use Rattle.wire_fields.specs.declared.messages.Message.{Message}
use Rattle.wire_fields.specs.declared.operations.Heard.TheVariants.{AtAdmin}
use Rattle.wire_reading.proofs.Hearings.{heard_once}
use Rattle.live_desk.specs.History.{last_commit}
use Rattle.door_frames.proofs.WholeFrames.{nothing_open, right_whole, same_whole, partial_not_whole, carried_so}
use Rattle.door_frames.specs.Carried.{Carried}
use Rattle.door_frames.specs.Ending.{EndsBytes, faults_after}
use Rattle.door_frames.specs.declared.endings.Ended.{Ended}
use Rattle.door_frames.specs.declared.endings.Ended.TheVariants.{Closed, Cut, Hung, LinkFault, BadFrame, Stopped, Memory, Strayed}
use Rattle.admin_door.specs.Side.{AdminSide, with_shown}
use Rattle.admin_door.specs.Settling.{Settles, Unsettles}
use Rattle.admin_door.specs.Answering.{AnswersBy, Answers, Obeys, AnswersUnsettled}
use Rattle.admin_door.specs.Serving.{AdminTalk, Exchange, AreAnswered, StopsAt, IsUnsent, EndsAnswering, EndsFor, Serves}
use Rattle.admin_door.specs.Serving.{frames_of, exchanges_bytes}
use Rattle.admin_door.specs.Complete.{Stays, Receives, AnswersEach, AnswersFront, IsDecided, FindsDamage}
use Rattle.desk_keeper.specs.declared.refusals.KeeperRefusal.{KeeperRefusal}
use Rattle.desk_keeper.specs.declared.refusals.KeeperRefusal.TheVariants as why

-- a count that rises does not stay
moves : (before between after : ℕ) → Stays before after → before ≡ between → after ≡ next_count between → ⊥
moves before between after (below, same) least rises = omega (arith, below, same, least, rises)

-- ---- bytes

-- what is heard of whole frames is a front of them
front_of : (bytes : List ℕ) (some frames : List Framed) (rest : List ℕ) → Hears AtAdmin bytes some rest → Hears AtAdmin bytes frames []
    → (more : List Framed) × (frames ≡ some ++ more)
front_of bytes [] frames rest first all = (frames, refl)
front_of bytes (framed ∷ some) [] rest (behind, first, others) all =
    absurd (partial_not_whole framed behind (sym (nothing_open AtAdmin) ∙ (ap (first_of AtAdmin) (sym all) ∙ first)))
front_of bytes (framed ∷ some) (one ∷ frames) rest (behind, first, others) (left, is, all) =
    let same = same_whole framed one behind left (sym first ∙ is) in
    let later = front_of behind some frames rest others (subst (λ list. Hears AtAdmin list frames []) (sym same.1) all) in
    (later.0, (λ i. sym same.0 i ∷ later.1 i))

-- ---- the connection

-- nothing came behind the frames that were answered whole
record IsAlone (between now : AdminSide) (last : List Exchange) (sent : List ℕ) : Type 0 where
  frames : last ≡ []
  bytes : sent ≡ []
  side : now ≡ between

module _ (between now : AdminSide) (last : List Exchange) (bytes : List ℕ) where
  alone_closed : EndsAnswering Closed between now last bytes → IsAlone between now last bytes
  alone_closed (inl (no_frame, no_byte, is)) = record { frames = no_frame; bytes = no_byte; side = is }
  alone_closed (inr (inl (exchange, is, no_byte, no_reply, refuses))) = let wrong : Closed ≡ Memory = refuses.0 in cc
  alone_closed (inr (inr (exchange, sent, is, byte, answered, broken))) = absurd broken.reason

  alone_stopped : EndsAnswering Stopped between now last bytes → IsAlone between now last bytes
  alone_stopped (inl (no_frame, no_byte, is)) = record { frames = no_frame; bytes = no_byte; side = is }
  alone_stopped (inr (inl (exchange, is, no_byte, no_reply, refuses))) = let wrong : Stopped ≡ Memory = refuses.0 in cc
  alone_stopped (inr (inr (exchange, sent, is, byte, answered, broken))) = absurd broken.reason

module _ (start now : AdminTalk) (Keeps : List Exchange → Type 0) (frames : List Framed) (r : Receives frames start now) where
  -- the bytes that were received are those of the frames
  heard_so : (received sent : List ℕ) → Carried start.traffic now.traffic received sent → Hears AtAdmin received frames []
  heard_so received sent carried =
      let at = carried_so start.traffic now.traffic received sent r.before r.after carried r.told r.told_now in
      subst (λ list. Hears AtAdmin list frames [])
      (sym (append_cancel_left r.before.received received r.bytes (sym (ap (λ (x : Traffic). x.received) at) ∙ r.received))) r.heard

  -- the frames that were answered whole are these
  each_so : (result ended : Ended) (some : List Framed) (s : Serves start now result Keeps)
      → IsAlone s.between now.side s.last s.last_bytes → frames_of s.answered ≡ some → StopsAt ended s.answered
      → AnswersEach ended some start now
  each_so result ended some s alone are stopping =
      let at = carried_so start.traffic now.traffic s.received (exchanges_bytes s.answered ++ s.last_bytes) r.before r.after s.carried
      r.told r.told_now in
      record {
        exchanges = s.answered;
        frames_are = are;
        in_turn = subst (λ (side : AdminSide). AreAnswered start.side s.answered side) (sym alone.side) s.in_turn;
        stopping = stopping;
        before = r.before;
        after = r.after;
        told = r.told;
        told_now = r.told_now;
        sent = ap (λ (x : Traffic). x.sent) at
            ∙ ap (λ list. r.before.sent ++ list)
            (ap (λ list. exchanges_bytes s.answered ++ list) alone.bytes ∙ append-nil (exchanges_bytes s.answered));
      }

  -- no frame is behind them
  frames_alone : (answered last : List Exchange) → last ≡ [] → frames_of answered ++ frames_of last ≡ frames_of answered
  frames_alone answered last none =
      ap (λ (list : List Exchange). frames_of answered ++ frames_of list) none ∙ append-nil (frames_of answered)

  -- what comes of a connection for what caused its end
  abbrev Comes : Ended → Type 0
  Comes cause = ((cause ≡ Closed) × AnswersEach Closed frames start now)
      ⊎ (((cause ≡ Stopped) × AnswersFront Stopped frames start now) ⊎ (cause ≡ Memory))

  module _ (result : Ended) (s : Serves start now result Keeps) (quiet : Stays start.faults now.faults) where
    bytes_for : (cause : Ended) → s.cause ≡ cause → EndsBytes AtAdmin s.received (frames_of s.answered ++ frames_of s.last) cause
    bytes_for cause is =
        subst (λ (e : Ended). EndsBytes AtAdmin s.received (frames_of s.answered ++ frames_of s.last) e) is s.bytes

    ending_for : (cause : Ended) → s.cause ≡ cause → EndsAnswering cause s.between now.side s.last s.last_bytes
    ending_for cause is = subst (λ (e : Ended). EndsAnswering e s.between now.side s.last s.last_bytes) is s.ending

    faults_for : (cause : Ended) → s.cause ≡ cause → now.faults ≡ faults_after cause start.faults
    faults_for cause is = subst (λ (e : Ended). now.faults ≡ faults_after e start.faults) is s.faults

    heard_all : Hears AtAdmin s.received frames []
    heard_all = heard_so s.received (exchanges_bytes s.answered ++ s.last_bytes) s.carried

    by_cause : (cause : Ended) → s.cause ≡ cause → StopsAt cause s.answered → Comes cause
    by_cause Closed is stopping =
        let alone = alone_closed s.between now.side s.last s.last_bytes (ending_for Closed is) in
        let all = heard_once AtAdmin s.received (frames_of s.answered ++ frames_of s.last) frames [] [] (bytes_for Closed is)
        (nothing_open AtAdmin) heard_all (nothing_open AtAdmin) in
        inl (refl, each_so result Closed frames s alone (sym (frames_alone s.answered s.last alone.frames) ∙ all.0) stopping)
    by_cause (Cut count) is stopping =
        let (rest, some, unfinished, length_is, many) = bytes_for (Cut count) is in
        let same = heard_once AtAdmin s.received (frames_of s.answered ++ frames_of s.last) frames rest [] some unfinished heard_all
        (nothing_open AtAdmin) in
        absurd (omega (arith, sym (ap length same.1) ∙ length_is, many))
    by_cause (BadFrame refusal) is stopping =
        let (rest, some, wrong, of_bytes) = bytes_for (BadFrame refusal) is in
        absurd (right_whole AtAdmin s.received frames (frames_of s.answered ++ frames_of s.last) rest refusal heard_all some wrong of_bytes)
    by_cause LinkFault is stopping = absurd (moves start.faults start.faults now.faults quiet refl (faults_for LinkFault is))
    by_cause Stopped is stopping =
        let (more, rest, some) = bytes_for Stopped is in
        let alone = alone_stopped s.between now.side s.last s.last_bytes (ending_for Stopped is) in
        let front = front_of s.received ((frames_of s.answered ++ frames_of s.last) ++ more) frames rest some heard_all in
        inr (inl (
          refl,
          record {
            front = frames_of s.answered;
            more = more ++ front.0;
            frames_are = front.1 ∙ (ap (λ list. (list ++ more) ++ front.0) (frames_alone s.answered s.last alone.frames)
                ∙ append_assoc (frames_of s.answered) more front.0);
            each = each_so result Stopped (frames_of s.answered) s alone refl stopping;
          },
        ))
    by_cause (Hung entered later) is stopping = absurd stopping
    by_cause (Strayed number found) is stopping = absurd stopping
    by_cause Memory is stopping = inr (inr refl)

    -- no call of the link failed, so that a reply was not sent for want of memory
    for_memory : (cause : Ended) → s.cause ≡ cause → IsUnsent cause → cause ≡ Memory
    for_memory Memory is unsent = refl
    for_memory LinkFault is unsent = absurd (moves start.faults start.faults now.faults quiet refl (faults_for LinkFault is))
    for_memory Closed is unsent = absurd unsent
    for_memory (Cut count) is unsent = absurd unsent
    for_memory (BadFrame refusal) is unsent = absurd unsent
    for_memory Stopped is unsent = absurd unsent
    for_memory (Hung entered later) is unsent = absurd unsent
    for_memory (Strayed number found) is unsent = absurd unsent

    -- it ended for its cause
    by_itself : result ≡ s.cause → Comes s.cause
        → ((result ≡ Closed) × AnswersEach Closed frames start now)
        ⊎ (((result ≡ Stopped) × AnswersFront Stopped frames start now) ⊎ (s.cause ≡ Memory))
    by_itself is (inl (closed, each)) = inl (is ∙ closed, each)
    by_itself is (inr (inl (stopped, front))) = inr (inl (is ∙ stopped, front))
    by_itself is (inr (inr memory)) = inr (inr memory)

    by_end : EndsFor result s.cause s.answered s.last
        → ((result ≡ Closed) × AnswersEach Closed frames start now)
        ⊎ (((result ≡ Stopped) × AnswersFront Stopped frames start now) ⊎ (s.cause ≡ Memory))
    by_end (inl (is, stopping, none)) =
        by_itself is (by_cause s.cause refl (subst (λ (e : Ended). StopsAt e s.answered) is stopping))
    by_end (inr (is, unsent)) = inr (inr (for_memory s.cause refl unsent.reason))

pub complete : (result : Ended) (start now : AdminTalk) (Keeps : List Exchange → Type 0) (frames : List Framed)
    (s : Serves start now result Keeps) → Stays start.faults now.faults → Receives frames start now
    → ((result ≡ Closed) × AnswersEach Closed frames start now)
    ⊎ (((result ≡ Stopped) × AnswersFront Stopped frames start now) ⊎ (s.cause ≡ Memory))
complete result start now Keeps frames s quiet r = by_end start now Keeps frames r result s quiet s.stopping

-- ---- a command

-- nothing is counted while it is settled what the folder keeps
shown_count : (newer : Bool) (side : AdminSide) → (cond newer (with_shown side.desk side) side).faults ≡ side.faults
shown_count true side = refl
shown_count false side = refl

settles_count : (told : Option DiskState) (old between : AdminSide) → Settles told old between → between.faults ≡ old.faults
settles_count told old between settles =
    ap (λ (side : AdminSide). side.faults) settles.shown
    ∙ (shown_count (nat_lt (last_commit 0 settles.found.published) settles.found.desk.commit) settles.found
    ∙ ap (λ (side : AdminSide). side.faults) settles.is_found.rest)

module _ (told : Option DiskState) (command : Command) (old now : AdminSide) (replies : List Message)
    (quiet : Stays old.faults now.faults) where
  unsettled_so : (reason : KeeperRefusal) → Unsettles told old now reason → AnswersUnsettled reason replies
      → IsDecided told command old now replies ⊎ FindsDamage told old now replies
  unsettled_so why.StoreFault (undecided, is) answers =
      absurd (moves old.faults old.faults now.faults quiet refl (ap (λ (side : AdminSide). side.faults) is))
  unsettled_so (why.Damaged file line) unsettles answers =
      inr (record { file = file; line = line; unsettled = unsettles; answered = answers })
  unsettled_so (why.Memory error) unsettles answers = absurd answers

  obeys_so : Obeys told command old now replies → IsDecided told command old now replies ⊎ FindsDamage told old now replies
  obeys_so (inl (between, settles, inl done)) = inl (record { between = between; settles = settles; done = inl done })
  obeys_so (inl (between, settles, inr (inl refused))) = inl (record { between = between; settles = settles; done = inr refused })
  obeys_so (inl (between, settles, inr (inr failed))) =
      absurd (moves old.faults between.faults now.faults quiet (sym (settles_count told old between settles))
      (ap (λ (side : AdminSide). side.faults) failed.leaves))
  obeys_so (inr (reason, unsettles, answers)) = unsettled_so reason unsettles answers

pub decided : (told : Option DiskState) (asked : Message) (command : Command) (old now : AdminSide) (replies : List Message)
    → command_of asked ≡ Some command → Answers told asked old now replies → Stays old.faults now.faults
    → IsDecided told command old now replies ⊎ FindsDamage told old now replies
decided told asked command old now replies asks answers quiet =
    obeys_so told command old now replies quiet
    (subst (λ (found : Option Command). AnswersBy told found asked old now replies) asks answers)
