-- Frames that are answered one after the other, and how that ends.
use Rattle.std.proofs.Common.{◌≡◌, ◌∙◌, inl, inr, ℕ, List, [], ◌∷◌, ◌++◌, length, Option, refl, sym, ap, subst, append-nil}
use Rattle.std.proofs.lemmas.Grind.{flat_map-append}
use Rattle.std.proofs.lemmas.List.{map-append}
use Rattle.desk_ports.specs.Disk.{DiskState}
use Rattle.link_ports.specs.Traffic.{Traffic}
use Rattle.link_ports.specs.LinkMarks.{LinkMarks}
use Rattle.wire_reading.specs.Stream.{Feeding, Hears, BeginsWrong, IsOpen, unfed}
use Rattle.wire_fields.specs.declared.messages.Framed.{Framed}
use Rattle.wire_fields.specs.declared.messages.Message.{Message}
use Rattle.wire_fields.specs.declared.messages.Message.TheVariants.{Stop}
use Rattle.wire_fields.specs.declared.operations.Heard.{Heard}
use Rattle.wire_fields.specs.declared.operations.Heard.TheVariants.{AtAdmin}
use Rattle.door_frames.specs.Carried.{Carried}
use Rattle.door_frames.specs.Hearing.{HasHeard, HearsMore, HandsOut}
use Rattle.door_frames.specs.Ending.{EndsReading, EndsBytes, IsAtEnd, faults_after}
use Rattle.door_frames.specs.declared.endings.Ended.{Ended}
use Rattle.door_frames.specs.declared.endings.Ended.TheVariants.{Closed, Cut, Hung, LinkFault, BadFrame, Stopped, Memory, Strayed}
use Rattle.door_frames.proofs.Carrying.{carried_more, carried_same}
use Rattle.door_frames.proofs.Hearing.{unfed_heard}
use Rattle.admin_door.specs.Side.{AdminSide}
use Rattle.admin_door.specs.Answering.{Answers, Refuses}
use Rattle.admin_door.specs.Serving.{AdminTalk, talk_of, Exchange, exchange_of, exchange_bytes, exchanges_bytes, frames_of, replies_bytes}
use Rattle.admin_door.specs.Serving.{IsAnswered, AreAnswered, IsNoStop, AreNoStops, StopsAt, IsUnsent, EndsFor, ended_behind, Serves}
use Rattle.admin_door.specs.parts.Talk.{Stands, IsWhole, IsUnheeded, IsHalfSent, EndsAt}

-- ---- lists of frames

answered-more : (start : AdminSide) (exchanges : List Exchange) (between : AdminSide) (exchange : Exchange) (now : AdminSide)
    → AreAnswered start exchanges between → IsAnswered exchange between now → AreAnswered start (exchanges ++ exchange ∷ []) now
answered-more start [] between exchange now same last =
    (now, subst (λ (side : AdminSide). IsAnswered exchange side now) same last, refl)
answered-more start (first ∷ more) between exchange now (next, one, others) last =
    (next, one, answered-more next more between exchange now others last)

no-stops-more : (exchanges : List Exchange) (exchange : Exchange) → AreNoStops exchanges → IsNoStop exchange.framed.message
    → AreNoStops (exchanges ++ exchange ∷ [])
no-stops-more [] exchange none last = (last, tt)
no-stops-more (first ∷ more) exchange (one, others) last = (one, no-stops-more more exchange others last)

frames-more : (exchanges : List Exchange) (exchange : Exchange)
    → frames_of exchanges ++ exchange.framed ∷ [] ≡ frames_of (exchanges ++ exchange ∷ [])
frames-more exchanges exchange = sym (map-append (λ (one : Exchange). one.framed) exchanges (exchange ∷ []))

bytes-more : (exchanges : List Exchange) (exchange : Exchange)
    → exchanges_bytes exchanges ++ exchange_bytes exchange ≡ exchanges_bytes (exchanges ++ exchange ∷ [])
bytes-more exchanges exchange =
    sym (flat_map-append exchange_bytes exchanges (exchange ∷ [])
    ∙ ap (λ last. exchanges_bytes exchanges ++ last) (append-nil (exchange_bytes exchange)))

-- ---- the link

-- bytes are received, and then bytes are sent
carried-turn : (received bytes sent more : List ℕ) (start old between now : Option Traffic) → Carried start old received sent
    → Carried old between bytes [] → Carried between now [] more → Carried start now (received ++ bytes) (sent ++ more)
carried-turn received bytes sent more start old between now before hears sends =
    let heard = subst (λ list. Carried start between (received ++ bytes) list) (append-nil sent)
    (carried_more received bytes sent [] start old between before hears) in
    subst (λ list. Carried start now list (sent ++ more)) (append-nil (received ++ bytes))
    (carried_more (received ++ bytes) [] sent more start between now heard sends)

-- bytes are received
carried-heard : (received bytes sent : List ℕ) (start old now : Option Traffic) → Carried start old received sent
    → Carried old now bytes [] → Carried start now (received ++ bytes) (sent ++ [])
carried-heard received bytes sent start old now before hears = carried_more received bytes sent [] start old now before hears

-- before the first byte
pub stands-first : (start : AdminTalk) (Keeps : List Exchange → Type 0) → Keeps [] → Stands start start (unfed AtAdmin) Keeps
stands-first start Keeps keeps = record {
  received = [];
  answered = [];
  in_turn = refl;
  no_stops = tt;
  heard = unfed_heard AtAdmin;
  carried = carried_same start.traffic;
  faults = refl;
  ends = refl;
  keeps = keeps;
}

-- ---- one frame more

module _ (start old : AdminTalk) (feeder fed : Feeding) (bytes : List ℕ) (framed : Framed) (told : Option DiskState)
    (traffic : Option Traffic) (marks : LinkMarks) (faults : ℕ) (now : AdminTalk) (Was Is : List Exchange → Type 0)
    (s : Stands start old feeder Was) (hears : Carried old.traffic traffic bytes []) (hands : HandsOut bytes framed feeder fed)
    (same_faults : faults ≡ old.faults) (same_ends : marks.ends ≡ old.marks.ends) where
  abbrev between : AdminTalk
  between = talk_of old.side traffic marks faults

  abbrev pub asked : List Message → Exchange
  asked replies = exchange_of framed told replies

  -- what was said of the frames before is said of this one with them, where it is answered, and where it is not
  abbrev pub AnsweredMore : Type 0
  AnsweredMore = (replies : List Message) → Answers told framed.message old.side now.side replies
      → (list : List Exchange) → Was list → Is (list ++ asked replies ∷ [])

  abbrev pub RefusedMore : Ended → Type 0
  RefusedMore ended = Refuses told framed.message old.side now.side ended → (list : List Exchange) → Was list → Is (list ++ asked [] ∷ [])

  -- it is answered, and the talk goes on
  pub stands-more : IsNoStop framed.message → IsWhole told framed between now → AnsweredMore → Stands start now fed Is
  stands-more no_stop whole more =
      let exchange : Exchange = asked whole.replies in
      record {
        received = s.received ++ bytes;
        answered = s.answered ++ exchange ∷ [];
        in_turn = answered-more start.side s.answered old.side exchange now.side s.in_turn whole.answers;
        no_stops = no-stops-more s.answered exchange s.no_stops no_stop;
        heard = subst (λ frames. HasHeard (s.received ++ bytes) frames fed) (frames-more s.answered exchange)
            (hands s.received (frames_of s.answered) s.heard);
        carried = subst (λ sent. Carried start.traffic now.traffic (s.received ++ bytes) sent) (bytes-more s.answered exchange)
            (carried-turn s.received bytes (exchanges_bytes s.answered) (exchange_bytes exchange) start.traffic old.traffic traffic
            now.traffic s.carried hears whole.sends.carried);
        faults = whole.faults ∙ (same_faults ∙ s.faults);
        ends = ap (λ (m : LinkMarks). m.ends) whole.sends.marks ∙ (same_ends ∙ s.ends);
        keeps = more whole.replies whole.answers s.answered s.keeps;
      }

  module _ (at_admin : fed.heard ≡ AtAdmin) where
    -- the frames that were received, and this one behind them
    hears-framed : (rest : List ℕ) × Hears AtAdmin (s.received ++ bytes) ((frames_of s.answered ++ framed ∷ []) ++ fed.waiting) rest
    hears-framed =
        let heard = hands s.received (frames_of s.answered) s.heard in (
          heard.behind,
          subst (λ (side : Heard). Hears side (s.received ++ bytes) ((frames_of s.answered ++ framed ∷ []) ++ fed.waiting) heard.behind)
              at_admin heard.heard,
        )

    -- it has no answer
    ends-unheeded : (ended : Ended) → IsUnheeded told framed between now ended → ended ≡ Memory → RefusedMore ended
        → Serves start now ended Is
    ends-unheeded ended unheeded is more =
        let heard = hears-framed in
        record {
          received = s.received ++ bytes;
          answered = s.answered;
          between = old.side;
          last = asked [] ∷ [];
          last_bytes = [];
          cause = ended;
          in_turn = s.in_turn;
          ending = inr (inl (asked [], refl, refl, refl, unheeded.refuses));
          stopping = inl (refl, subst (λ (e : Ended). StopsAt e s.answered) (sym is) s.no_stops, (inl refl, tt));
          bytes = subst (λ (e : Ended). EndsBytes AtAdmin (s.received ++ bytes) (frames_of s.answered ++ framed ∷ []) e) (sym is)
              (fed.waiting, heard.0, heard.1);
          carried = carried-turn s.received bytes (exchanges_bytes s.answered) [] start.traffic old.traffic traffic now.traffic
              s.carried hears unheeded.sends.carried;
          faults = unheeded.faults ∙ (same_faults ∙ (s.faults ∙ ap (λ (e : Ended). faults_after e start.faults) (sym is)));
          at_end = subst (λ (e : Ended). IsAtEnd e now.marks) (sym is) tt;
          ends = ap (λ (m : LinkMarks). m.ends) unheeded.sends.marks ∙ (same_ends ∙ s.ends);
          keeps = more unheeded.refuses s.answered s.keeps;
        }

    -- its answer is not sent whole
    half-sent : (ended cause : Ended) (half : IsHalfSent told framed between now cause) → IsUnsent cause
        → EndsFor ended cause s.answered (asked half.replies ∷ [])
        → EndsBytes AtAdmin (s.received ++ bytes) (frames_of s.answered ++ framed ∷ []) cause
        → now.faults ≡ faults_after cause faults → IsAtEnd cause now.marks → AnsweredMore → Serves start now ended Is
    half-sent ended cause half unsent stopping heard counted at_end more =
        let exchange : Exchange = asked half.replies in
        record {
          received = s.received ++ bytes;
          answered = s.answered;
          between = old.side;
          last = exchange ∷ [];
          last_bytes = replies_bytes framed.sequence half.cut_off.sent;
          cause = cause;
          in_turn = s.in_turn;
          ending = inr (inr (
            exchange,
            half.cut_off.sent,
            refl,
            refl,
            half.answers,
            record { next = half.cut_off.next; unsent = half.cut_off.unsent; replies = half.cut_off.parts; reason = unsent },
          ));
          stopping = stopping;
          bytes = heard;
          carried = carried-turn s.received bytes (exchanges_bytes s.answered) (replies_bytes framed.sequence half.cut_off.sent)
              start.traffic old.traffic traffic now.traffic s.carried hears half.cut_off.carried;
          faults = counted ∙ ap (faults_after cause) (same_faults ∙ s.faults);
          at_end = at_end;
          ends = ap (λ (m : LinkMarks). m.ends) half.marks ∙ (same_ends ∙ s.ends);
          keeps = more half.replies half.answers s.answered s.keeps;
        }

    -- whether it is a stop, which is made, or not
    ends-unsent : (ended cause : Ended) (message : Message) (replies : List Message) → framed.message ≡ message → IsUnsent cause
        → StopsAt cause s.answered → ended ≡ ended_behind message cause → EndsFor ended cause s.answered (asked replies ∷ [])
    ends-unsent ended cause Stop replies stop unsent none is =
        inr (is, record { stop = asked replies; last_is = refl; message = stop; no_stops = s.no_stops; reason = unsent })
    ends-unsent ended cause message replies other unsent none is =
        inl (
          is,
          subst (λ (e : Ended). StopsAt e s.answered) (sym is) none,
          (inr (subst (λ (m : Message). IsNoStop m) (sym other) tt), tt),
        )

    ends-half : (ended cause : Ended) → IsHalfSent told framed between now cause → ended ≡ ended_behind framed.message cause
        → AnsweredMore → Serves start now ended Is
    ends-half ended Memory half is more =
        half-sent ended Memory half tt (ends-unsent ended Memory framed.message half.replies refl tt s.no_stops is)
        (fed.waiting, hears-framed.0, hears-framed.1) half.cut_off.faults tt more
    ends-half ended LinkFault half is more =
        half-sent ended LinkFault half tt (ends-unsent ended LinkFault framed.message half.replies refl tt s.no_stops is)
        (fed.waiting, hears-framed.0, hears-framed.1) half.cut_off.faults tt more
    ends-half ended Closed half is more = absurd half.cut_off.faults
    ends-half ended (Cut count) half is more = absurd half.cut_off.faults
    ends-half ended (Hung entered later) half is more = absurd half.cut_off.faults
    ends-half ended (BadFrame refusal) half is more = absurd half.cut_off.faults
    ends-half ended Stopped half is more = absurd half.cut_off.faults
    ends-half ended (Strayed number found) half is more = absurd half.cut_off.faults

    -- it is a stop
    ends-stopped : (ended : Ended) → IsWhole told framed between now → framed.message ≡ Stop → ended ≡ Stopped → AnsweredMore
        → Serves start now ended Is
    ends-stopped ended whole stop is more =
        let exchange : Exchange = asked whole.replies in
        let heard = hears-framed in
        let frames : (frames_of s.answered ++ framed ∷ []) ++ fed.waiting ≡ (frames_of (s.answered ++ exchange ∷ []) ++ []) ++ fed.waiting =
        ap (λ list. list ++ fed.waiting) (frames-more s.answered exchange ∙ sym (append-nil (frames_of (s.answered ++ exchange ∷ [])))) in
        record {
          received = s.received ++ bytes;
          answered = s.answered ++ exchange ∷ [];
          between = now.side;
          last = [];
          last_bytes = [];
          cause = ended;
          in_turn = answered-more start.side s.answered old.side exchange now.side s.in_turn whole.answers;
          ending = inl (refl, refl, refl);
          stopping = inl (
            refl,
            subst (λ (e : Ended). StopsAt e (s.answered ++ exchange ∷ [])) (sym is) (s.answered, exchange, refl, s.no_stops, stop),
            tt,
          );
          bytes = subst
              (λ (e : Ended). EndsBytes AtAdmin (s.received ++ bytes) (frames_of (s.answered ++ exchange ∷ []) ++ []) e) (sym is) (
                fed.waiting,
                heard.0,
                subst (λ list. Hears AtAdmin (s.received ++ bytes) list heard.0) frames heard.1,
              );
          carried = subst (λ sent. Carried start.traffic now.traffic (s.received ++ bytes) sent)
              (bytes-more s.answered exchange ∙ sym (append-nil (exchanges_bytes (s.answered ++ exchange ∷ []))))
              (carried-turn s.received bytes (exchanges_bytes s.answered) (exchange_bytes exchange) start.traffic old.traffic traffic
              now.traffic s.carried hears whole.sends.carried);
          faults = whole.faults ∙ (same_faults ∙ (s.faults ∙ ap (λ (e : Ended). faults_after e start.faults) (sym is)));
          at_end = subst (λ (e : Ended). IsAtEnd e now.marks) (sym is) tt;
          ends = ap (λ (m : LinkMarks). m.ends) whole.sends.marks ∙ (same_ends ∙ s.ends);
          keeps = subst Is (sym (append-nil (s.answered ++ exchange ∷ []))) (more whole.replies whole.answers s.answered s.keeps);
        }

    pub ends-at : (ended : Ended) → EndsAt told framed between now ended → AnsweredMore → RefusedMore ended → Serves start now ended Is
    ends-at ended (inl unheeded) answered refused = ends-unheeded ended unheeded unheeded.refuses.0 refused
    ends-at ended (inr (inl (cause, half, is))) answered refused = ends-half ended cause half is answered
    ends-at ended (inr (inr (whole, stop, is))) answered refused = ends-stopped ended whole stop is answered

-- ---- no frame more

module _ (start old : AdminTalk) (feeder fed : Feeding) (bytes : List ℕ) (traffic : Option Traffic) (marks : LinkMarks) (faults : ℕ)
    (Keeps : List Exchange → Type 0) (s : Stands start old feeder Keeps) (hears : Carried old.traffic traffic bytes [])
    (more : HearsMore bytes feeder fed)
    (at_admin : fed.heard ≡ AtAdmin) (none : fed.waiting ≡ []) (same_ends : marks.ends ≡ old.marks.ends) where
  abbrev behind : List ℕ
  behind = (more s.received (frames_of s.answered) s.heard).behind

  hears-all : Hears AtAdmin (s.received ++ bytes) (frames_of s.answered ++ []) behind
  hears-all =
      let heard = more s.received (frames_of s.answered) s.heard in
      subst (λ list. Hears AtAdmin (s.received ++ bytes) (frames_of s.answered ++ list) heard.behind) none
      (subst (λ (side : Heard). Hears side (s.received ++ bytes) (frames_of s.answered ++ fed.waiting) heard.behind) at_admin heard.heard)

  hears-some : (others : List Framed) × (rest : List ℕ) × Hears AtAdmin (s.received ++ bytes) ((frames_of s.answered ++ []) ++ others) rest
  hears-some = (
    [],
    behind,
    subst (λ list. Hears AtAdmin (s.received ++ bytes) list behind) (sym (append-nil (frames_of s.answered ++ []))) hears-all,
  )

  read-to : (ended : Ended) → StopsAt ended s.answered → EndsBytes AtAdmin (s.received ++ bytes) (frames_of s.answered ++ []) ended
      → faults ≡ faults_after ended old.faults → IsAtEnd ended marks → Serves start (talk_of old.side traffic marks faults) ended Keeps
  read-to ended stopping heard counted at_end = record {
    received = s.received ++ bytes;
    answered = s.answered;
    between = old.side;
    last = [];
    last_bytes = [];
    cause = ended;
    in_turn = s.in_turn;
    ending = inl (refl, refl, refl);
    stopping = inl (refl, stopping, tt);
    bytes = heard;
    carried = carried-heard s.received bytes (exchanges_bytes s.answered) start.traffic old.traffic traffic s.carried hears;
    faults = counted ∙ ap (faults_after ended) s.faults;
    at_end = at_end;
    ends = same_ends ∙ s.ends;
    keeps = subst Keeps (sym (append-nil s.answered)) s.keeps;
  }

  pub ends-reading : (ended : Ended) → EndsReading ended fed marks old.faults faults
      → Serves start (talk_of old.side traffic marks faults) ended Keeps
  ends-reading Closed (sound, empty, mark, still) =
      let at = (more s.received (frames_of s.answered) s.heard).sound sound in
      read-to Closed s.no_stops
      (subst (λ rest. Hears AtAdmin (s.received ++ bytes) (frames_of s.answered ++ []) rest) (at.0 ∙ empty) hears-all)
      still mark
  ends-reading (Cut count) (sound, is, some, mark, still) =
      let at = (more s.received (frames_of s.answered) s.heard).sound sound in
      read-to (Cut count) s.no_stops (
        behind,
        hears-all,
        subst (λ (side : Heard). IsOpen side behind) at_admin at.1,
        ap length at.0 ∙ sym is,
        some,
      ) still mark
  ends-reading (BadFrame refusal) (failed, of_bytes, still) =
      let wrong = (more s.received (frames_of s.answered) s.heard).wrong refusal failed in
      read-to (BadFrame refusal) s.no_stops (
        behind,
        hears-all,
        subst (λ (side : Heard). BeginsWrong side behind refusal) at_admin wrong,
        of_bytes,
      ) still tt
  ends-reading LinkFault (sound, rose) = read-to LinkFault s.no_stops hears-some rose tt
  ends-reading Memory still = read-to Memory s.no_stops hears-some still tt
  ends-reading Stopped ends = absurd ends
  ends-reading (Hung entered later) ends = absurd ends
  ends-reading (Strayed number found) ends = absurd ends
