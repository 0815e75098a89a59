-- What the calls of an administrator keep, and what its answers mean.
use Rattle.std.proofs.Common.{◌≡◌, ◌⊎◌, ℕ, suc, ◌+◌, Bool, true, false, List, [], ◌∷◌, ◌++◌, map, length, Option, Some, None, Result, Ok, Err}
use Rattle.std.proofs.Common.{refl, sym, ap, ◌∙◌, subst, inl, inr, arith, append-nil}
use Rattle.std.specs.Prelude.{nat_lt}
use Rattle.wire_reading.specs.Frame.{spelling, with_sequence}
use Rattle.wire_reading.specs.Stream.{Hears}
use Rattle.wire_fields.specs.declared.messages.Framed.{Framed}
use Rattle.wire_fields.specs.declared.messages.Message.{Message}
use Rattle.wire_fields.specs.declared.operations.Heard.{Heard}
use Rattle.wire_fields.specs.declared.operations.Heard.TheVariants.{Replies}
use Rattle.client_core.specs.Listening.{Listening, unheard, is_fit}
use Rattle.client_core.specs.Hearing.{HearsPiece, fault_by}
use Rattle.client_core.specs.Admin.{Admin, fresh, cut, sent, exchange_of, with_row}
use Rattle.client_core.specs.Admin as does
use Rattle.client_core.specs.AdminReplies.{wanted_of, next_of}
use Rattle.client_core.specs.AdminCalls.{Call, Does, Ran, Put, message_in, heard_in, given_in, IsRequest, IsSent, AreRows, IsReply, Means, answer_of}
use Rattle.client_core.specs.declared.ears.Piece.{Piece}
use Rattle.client_core.specs.declared.ears.Piece.TheVariants as piece
use Rattle.client_core.specs.declared.stages.Exchange.{Exchange}
use Rattle.client_core.specs.declared.stages.AdminStage.{AdminStage}
use Rattle.client_core.specs.declared.stages.AdminStage.TheVariants as stage
use Rattle.client_core.specs.declared.steps.Step.{Step}
use Rattle.client_core.specs.declared.steps.Step.TheVariants as step
use Rattle.client_core.specs.declared.steps.Fault.{Fault}
use Rattle.client_core.specs.declared.steps.Fault.TheVariants as fault
use Rattle.client_core.specs.declared.wanted.Wanted.{Wanted}
use Rattle.client_core.specs.declared.wanted.Next.{Next}
use Rattle.client_core.specs.declared.wanted.Next.TheVariants as next

-- it does not matter how bytes are cut into pieces
abbrev pub Pieces : Type 0
Pieces = (heard : Heard) (bytes more : List ℕ) (ms ns : List Framed) (x y : List ℕ)
    → Hears heard bytes ms x → Hears heard (x ++ more) ns y → Hears heard (bytes ++ more) (ms ++ ns) y

abbrev messages : List Framed → List Message
messages rows = map (λ framed. framed.message) rows

-- ---- lists with one more at the end

rows_push : (wanted : Wanted) (sequence : ℕ) (last : Framed) (n k : ℕ) (rows : List Framed) → k ≡ n + length rows
    → AreRows wanted sequence n rows → next_of wanted sequence k last ≡ next.More → AreRows wanted sequence n (rows ++ last ∷ [])
rows_push wanted sequence last n k [] is are more =
    let same : k ≡ n = omega (arith, is) in (subst (λ (j : ℕ). next_of wanted sequence j last ≡ next.More) same more, tt)
rows_push wanted sequence last n k (row ∷ rows) is are more =
    (are.0, rows_push wanted sequence last (suc n) k rows (omega (arith, is)) are.1 more)

length_push : (last : Framed) (rows : List Framed) → length (rows ++ last ∷ []) ≡ length rows + 1
length_push last [] = refl
length_push last (row ∷ rows) = let on = length_push last rows in omega (arith, on)

messages_push : (last : Framed) (rows : List Framed) → messages (rows ++ last ∷ []) ≡ messages rows ++ last.message ∷ []
messages_push last [] = refl
messages_push last (row ∷ rows) = ap (λ (ms : List Message). row.message ∷ ms) (messages_push last rows)

-- ---- the invariant

record IsUnder (exchange : Exchange) (put : Option Put) (bytes : List ℕ) : Type 0 where
  request : Framed
  is : IsRequest put bytes request
  wanted_is : exchange.wanted ≡ wanted_of request.message
  sequence_is : exchange.sequence ≡ request.sequence

record IsDialling (exchange : Exchange) (put : Option Put) (bytes : List ℕ) : Type 0 where
  under : IsUnder exchange put bytes
  none : exchange.rows ≡ 0

record IsWaiting (exchange : Exchange) (ear : Listening) (put : Option Put) (came : List ℕ) (said : List Message) (bytes : List ℕ) : Type 0 where
  under : IsUnder exchange put bytes
  rows : List Framed
  count : exchange.rows ≡ length rows
  side_is : ear.side ≡ Replies
  hears : Hears Replies came rows ear.bytes
  given : said ≡ messages rows
  are_rows : AreRows exchange.wanted exchange.sequence 0 rows

abbrev IsAt : AdminStage → Option Put → List ℕ → List Message → List ℕ → Type 0
IsAt stage.Idle put came said bytes = Unit {0}
IsAt (stage.Dialling exchange) put came said bytes = IsDialling exchange put bytes
IsAt (stage.Waiting exchange ear) put came said bytes = IsWaiting exchange ear put came said bytes

abbrev Holds : List Call → Admin → Type 0
Holds calls admin = IsAt admin.stage (message_in calls) (heard_in calls) (given_in calls) admin.frame

abbrev Both : (Step → Call) → List Call → Admin → Step → Admin → Type 0
Both make calls before answer after = Holds (make answer ∷ calls) after × Means answer (make answer) calls before after

reach : (make : Step → Call) (calls : List Call) (before : Admin) (answer is : Step) (after same : Admin)
    → answer ≡ is → after ≡ same → Both make calls before is same → Both make calls before answer after
reach make calls before answer is after same a c both =
    subst (λ (s : Step). Both make calls before s after) (sym a) (subst (λ (k : Admin). Both make calls before is k) (sym c) both)

module _ (pieces : Pieces) (calls : List Call) (before : Admin) (holds : Holds calls before) where
  at : (s : AdminStage) → before.stage ≡ s → IsAt s (message_in calls) (heard_in calls) (given_in calls) before.frame
  at s is = subst (λ (s : AdminStage). IsAt s (message_in calls) (heard_in calls) (given_in calls) before.frame) is holds

  -- nothing came of the frame yet
  unheard_yet : (exchange : Exchange) (put : Option Put) (bytes : List ℕ) → IsUnder exchange put bytes → exchange.rows ≡ 0
      → IsWaiting exchange (unheard Replies) put [] [] bytes
  unheard_yet exchange put bytes under none =
      record { under = under; rows = []; count = none; side_is = refl; hears = refl; given = refl; are_rows = tt }

  -- ---- a message is to be sent

  module _ (operation : ℕ) (fields : List ℕ) where
    abbrev sends : Step → Call
    sends answer = Call.Sends operation fields answer

    abbrev put : Put
    put = Put.Bytes operation fields

    begins : (framed : Framed) → IsRequest (Some put) (spelling framed) framed → (is_linked : Bool) (answer : Step) (after : Admin)
        → does.begins is_linked (exchange_of framed) answer (record before { frame = spelling framed }) after → Both sends calls before answer after
    begins framed request true answer after d =
        let under : IsUnder (exchange_of framed) (Some put) (spelling framed) =
        record { request = framed; is = request; wanted_is = refl; sequence_is = refl } in
        reach sends calls before answer step.Send after _ d.0 d.1
        (unheard_yet (exchange_of framed) (Some put) (spelling framed) under refl, record { request = framed; is = request })
    begins framed request false answer after d =
        let under : IsUnder (exchange_of framed) (Some put) (spelling framed) =
        record { request = framed; is = request; wanted_is = refl; sequence_is = refl } in
        reach sends calls before answer step.Dial after _ d.0 d.1 (record { under = under; none = refl }, tt)

    takes : (answer : Step) (after : Admin) → does.Takes operation fields answer before after → Both sends calls before answer after
    takes answer after d =
        let request : IsRequest (Some put) (spelling d.framed) d.framed = record {
          message = put;
          put_is = refl;
          is_of = record { heard = d.heard; sequence = before.sequence; raw = d.spelled };
          frame_is = refl;
        } in
        begins d.framed request before.is_linked answer after d.begun

    reads : before.stage ≡ stage.Idle → (long : Bool) (answer : Step) (after : Admin) → does.reads long operation fields answer before after
        → Both sends calls before answer after
    reads idle true answer after d = reach sends calls before answer step.TooLong after before d.0 d.1 (holds, tt)
    reads idle false answer after (inl d) = takes answer after d
    reads idle false answer after (inr (inl d)) =
        reach sends calls before answer (step.Unfit d.refusal) after _ d.is d.same
        (subst (λ (s : AdminStage). IsAt s (message_in calls) (heard_in calls) (given_in calls) after.frame) (sym idle) tt, tt)
    reads idle false answer after (inr (inr d)) =
        reach sends calls before answer (step.Over (fault.Memory d.error)) after _ d.is d.same (tt, tt)

    sends_no : (answer : Step) (after : Admin) → does.IsNotNow answer before after → Both sends calls before answer after
    sends_no answer after d = reach sends calls before answer step.NotNow after before d.0 d.1 (holds, tt)

    sends_at : (s : AdminStage) → before.stage ≡ s → (answer : Step) (after : Admin) → does.sends_at s operation fields answer before after
        → Both sends calls before answer after
    sends_at stage.Idle is answer after d = reads is (nat_lt 1048573 (length fields)) answer after d
    sends_at (stage.Dialling exchange) is answer after d = sends_no answer after d
    sends_at (stage.Waiting exchange ear) is answer after d = sends_no answer after d

  -- ---- a message is to be sent, which is given by itself

  module _ (message : Message) where
    abbrev says : Step → Call
    says answer = Call.Says message (Ok answer)

    abbrev whole : Framed
    whole = with_sequence before.sequence message

    whole_request : IsRequest (Some (Put.Whole message)) (spelling whole) whole
    whole_request = record { message = Put.Whole message; put_is = refl; is_of = refl; frame_is = refl }

    whole_under : IsUnder (exchange_of whole) (Some (Put.Whole message)) (spelling whole)
    whole_under = record { request = whole; is = whole_request; wanted_is = refl; sequence_is = refl }

    says_begins : (is_linked : Bool) (answer : Step) (after : Admin)
        → does.begins is_linked (exchange_of whole) answer (record before { frame = spelling whole }) after → Both says calls before answer after
    says_begins true answer after d = reach says calls before answer step.Send after _ d.0 d.1 (
      unheard_yet (exchange_of whole) (Some (Put.Whole message)) (spelling whole) whole_under refl,
      record { request = whole; is = whole_request },
    )
    says_begins false answer after d =
        reach says calls before answer step.Dial after _ d.0 d.1 (record { under = whole_under; none = refl }, tt)

    says_idle : before.stage ≡ stage.Idle → (answer : Result Step ℕ) (after : Admin) → does.spells message answer before after
        → Holds (Call.Says message answer ∷ calls) after × Means (does.step_of answer) (Call.Says message answer) calls before after
    says_idle idle (Ok answer) after (inl d) = says_begins before.is_linked answer after d.1
    says_idle idle (Ok answer) after (inr d) =
        reach says calls before answer (step.Over (fault.Memory d.0)) after _ d.1 d.2 (tt, tt)
    says_idle idle (Err n) after d = (
      subst (Holds (Call.Says message (Err n) ∷ calls)) (sym d.1)
          (subst (λ (s : AdminStage). IsAt s (message_in calls) (heard_in calls) (given_in calls) []) (sym idle) tt),
      tt,
    )

    says_no : (answer : Result Step ℕ) (after : Admin) → (answer ≡ Ok step.NotNow) × (after ≡ before)
        → Holds (Call.Says message answer ∷ calls) after × Means (does.step_of answer) (Call.Says message answer) calls before after
    says_no answer after d =
        subst (λ (a : Result Step ℕ). Holds (Call.Says message a ∷ calls) after × Means (does.step_of a) (Call.Says message a) calls before after)
        (sym d.0) (subst (Holds (says step.NotNow ∷ calls)) (sym d.1) holds, tt)

    says_at : (s : AdminStage) → before.stage ≡ s → (answer : Result Step ℕ) (after : Admin) → does.says_at s message answer before after
        → Holds (Call.Says message answer ∷ calls) after × Means (does.step_of answer) (Call.Says message answer) calls before after
    says_at stage.Idle is answer after d = says_idle is answer after d
    says_at (stage.Dialling exchange) is answer after d = says_no answer after d
    says_at (stage.Waiting exchange ear) is answer after d = says_no answer after d

  -- ---- the service was dialled

  dials_no : (answer : Step) (after : Admin) → does.IsNotNow answer before after → Both Call.Dials calls before answer after
  dials_no answer after d = reach Call.Dials calls before answer step.NotNow after before d.0 d.1 (holds, tt)

  dialled_at : (s : AdminStage) → before.stage ≡ s → (answer : Step) (after : Admin) → does.dialled_at s answer before after
      → Both Call.Dials calls before answer after
  dialled_at (stage.Dialling exchange) is answer after d =
      let was : IsDialling exchange (message_in calls) before.frame = at (stage.Dialling exchange) is in
      reach Call.Dials calls before answer step.Send after _ d.0 d.1 (
        unheard_yet exchange (message_in calls) before.frame was.under was.none,
        record { request = was.under.request; is = was.under.is },
      )
  dialled_at stage.Idle is answer after d = dials_no answer after d
  dialled_at (stage.Waiting exchange ear) is answer after d = dials_no answer after d

  -- ---- the connection ended

  falls_at : (s : AdminStage) (answer : Step) (after : Admin) → answer ≡ does.answer_to_fall s → after ≡ cut before
      → Both Call.Falls calls before answer after
  falls_at stage.Idle answer after a c = reach Call.Falls calls before answer step.Idle after _ a c (tt, tt)
  falls_at (stage.Dialling exchange) answer after a c =
      reach Call.Falls calls before answer (step.Over fault.Unavailable) after _ a c (tt, tt)
  falls_at (stage.Waiting exchange ear) answer after a c =
      reach Call.Falls calls before answer (step.Over fault.Unavailable) after _ a c (tt, tt)

  -- ---- bytes came

  module _ (bytes : List ℕ) where
    abbrev comes : Step → Call
    comes answer = Call.Comes bytes answer

    comes_no : (answer : Step) (after : Admin) → does.IsNotNow answer before after → Both comes calls before answer after
    comes_no answer after d = reach comes calls before answer step.NotNow after before d.0 d.1 (holds, tt)

    over : (found : Fault) (answer : Step) (after : Admin) → (answer ≡ step.Over found) × (after ≡ cut before)
        → Both comes calls before answer after
    over found answer after d = reach comes calls before answer (step.Over found) after _ d.0 d.1 (tt, tt)

    module _ (exchange : Exchange) (ear : Listening)
        (was : IsWaiting exchange ear (message_in calls) (heard_in calls) (given_in calls) before.frame) where
      -- the frame stands behind the rows
      behind : (framed : Framed) → Hears ear.side (ear.bytes ++ bytes) (framed ∷ []) []
          → Hears Replies (heard_in calls ++ bytes) (was.rows ++ framed ∷ []) []
      behind framed heard = pieces Replies (heard_in calls) bytes was.rows (framed ∷ []) ear.bytes [] was.hears
          (subst (λ (s : Heard). Hears s (ear.bytes ++ bytes) (framed ∷ []) []) was.side_is heard)

      reply : (framed : Framed) → Hears ear.side (ear.bytes ++ bytes) (framed ∷ []) [] → (follows : Next)
          → next_of exchange.wanted exchange.sequence exchange.rows framed ≡ follows → (answer : Step)
          → heard_in (comes answer ∷ calls) ≡ heard_in calls ++ bytes
          → given_in (comes answer ∷ calls) ≡ given_in calls ++ framed.message ∷ []
          → IsReply (comes answer) calls before framed.message follows
      reply framed heard follows is answer heard_is given_is = record {
        request = was.under.request;
        sent = was.under.is;
        rows = was.rows;
        last = framed;
        is = refl;
        heard = subst (λ (b : List ℕ). Hears Replies b (was.rows ++ framed ∷ []) []) (sym heard_is) (behind framed heard);
        given = given_is ∙ (ap (λ (ms : List Message). ms ++ framed.message ∷ []) was.given ∙ sym (messages_push framed was.rows));
        are_rows = subst (λ (n : ℕ). AreRows (wanted_of was.under.request.message) n 0 was.rows) was.under.sequence_is
            (subst (λ (w : Wanted). AreRows w exchange.sequence 0 was.rows) was.under.wanted_is was.are_rows);
        last_follows = subst (λ (n : ℕ). next_of (wanted_of was.under.request.message) n (length was.rows) framed ≡ follows) was.under.sequence_is
            (subst (λ (w : Wanted). next_of w exchange.sequence (length was.rows) framed ≡ follows) was.under.wanted_is
            (subst (λ (n : ℕ). next_of exchange.wanted exchange.sequence n framed ≡ follows) was.count is));
      }

      concludes : (framed : Framed) → Hears ear.side (ear.bytes ++ bytes) (framed ∷ []) [] → (follows : Next)
          → next_of exchange.wanted exchange.sequence exchange.rows framed ≡ follows → (answer : Step) (after : Admin)
          → does.concludes follows exchange framed answer before after → Both comes calls before answer after
      concludes framed heard next.More is answer after d = reach comes calls before answer (step.Row framed.message) after _ d.0 d.1 (
        record {
          under = record {
            request = was.under.request;
            is = was.under.is;
            wanted_is = was.under.wanted_is;
            sequence_is = was.under.sequence_is;
          };
          rows = was.rows ++ framed ∷ [];
          count = ap (λ (n : ℕ). n + 1) was.count ∙ sym (length_push framed was.rows);
          side_is = refl;
          hears = behind framed heard;
          given = ap (λ (ms : List Message). ms ++ framed.message ∷ []) was.given ∙ sym (messages_push framed was.rows);
          are_rows = rows_push exchange.wanted exchange.sequence framed 0 exchange.rows was.rows (omega (arith, was.count)) was.are_rows is;
        },
        reply framed heard next.More is (step.Row framed.message) refl refl,
      )
      concludes framed heard next.Whole is answer after d = reach comes calls before answer (step.Reply framed.message) after _ d.0 d.1
          (tt, reply framed heard next.Whole is (step.Reply framed.message) refl refl)
      concludes framed heard (next.Wrong found) is answer after d = over found answer after d

      goes_on : (next : Listening) → HearsPiece (piece.More next) ear bytes
          → IsWaiting exchange next (message_in calls) (heard_in calls ++ bytes) (given_in calls) before.frame
      goes_on next heard = record {
        under = was.under;
        rows = was.rows;
        count = was.count;
        side_is = ap (λ (l : Listening). l.side) heard.0 ∙ was.side_is;
        hears = subst (λ (b : List ℕ). Hears Replies (heard_in calls ++ bytes) was.rows b) (sym (ap (λ (l : Listening). l.bytes) heard.0))
            (subst (λ (ms : List Framed). Hears Replies (heard_in calls ++ bytes) ms (ear.bytes ++ bytes)) (append-nil was.rows)
            (pieces Replies (heard_in calls) bytes was.rows [] ear.bytes (ear.bytes ++ bytes) was.hears refl));
        given = was.given;
        are_rows = was.are_rows;
      }

      hears : (came : Piece) → HearsPiece came ear bytes → (answer : Step) (after : Admin) → does.hears came exchange answer before after
          → Both comes calls before answer after
      hears (piece.More next) heard answer after d = reach comes calls before answer step.Wait after _ d.0 d.1 (goes_on next heard, tt)
      hears (piece.Whole framed) heard answer after d =
          concludes framed heard (next_of exchange.wanted exchange.sequence exchange.rows framed) refl answer after d
      hears (piece.Wrong refusal) heard answer after d = over (fault_by refusal) answer after d

      comes_if : (fits : Bool) (answer : Step) (after : Admin) → does.comes fits exchange ear bytes answer before after
          → Both comes calls before answer after
      comes_if true answer after d = hears d.0 d.1 answer after d.2
      comes_if false answer after d = reach comes calls before answer step.BadCount after before d.0 d.1 (holds, tt)

    comes_at : (s : AdminStage) → before.stage ≡ s → (answer : Step) (after : Admin) → does.comes_at s bytes answer before after
        → Both comes calls before answer after
    comes_at (stage.Waiting exchange ear) is answer after d =
        comes_if exchange ear (at (stage.Waiting exchange ear) is) (is_fit ear.bytes bytes) answer after d
    comes_at stage.Idle is answer after d = comes_no answer after d
    comes_at (stage.Dialling exchange) is answer after d = comes_no answer after d

  -- ---- all calls

  each : (call : Call) (after : Admin) → Does call before after
      → Holds (call ∷ calls) after × Means (answer_of call) call calls before after
  each (Call.Sends operation fields answer) after d = sends_at operation fields before.stage refl answer after d
  each (Call.Says message answer) after d = says_at message before.stage refl answer after d
  each (Call.Dials answer) after d = dialled_at before.stage refl answer after d
  each (Call.Comes bytes answer) after d = comes_at bytes before.stage refl answer after d
  each (Call.Falls answer) after d = falls_at before.stage answer after d.0 d.1
  each Call.Leaves after d = (subst (Holds (Call.Leaves ∷ calls)) (sym d) tt, tt)

ran : Pieces → (calls : List Call) (admin : Admin) → Ran calls admin → Holds calls admin
ran pieces [] admin r = subst (Holds []) (sym r) tt
ran pieces (call ∷ calls) admin r = (each pieces calls r.0 (ran pieces calls r.0 r.1) call admin r.2).0

pub law : Pieces → (calls : List Call) (call : Call) (before after : Admin) → Ran calls before → Does call before after
    → Means (answer_of call) call calls before after
law pieces calls call before after r d = (each pieces calls before (ran pieces calls before r) call after d).1
