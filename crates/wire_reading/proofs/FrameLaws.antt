-- Each frame is read exactly as it is spelled, and no spelling begins another.
use Rattle.std.proofs.Common.{◌≡◌, ℕ, ◌+◌, ◌^◌, ◌<◌, ◌≤◌, Bool, true, false, cond, ltb, eqb, List, [], ◌∷◌, ◌++◌}
use Rattle.std.proofs.Common.{length, take, drop, Option, Some, None, Result, Ok, Err, refl, sym, ap, subst, ◌∙◌}
use Rattle.std.proofs.Common.{append_assoc, arith}
use Rattle.std.specs.Int.{w8, w16, w32, to_be_bytes, from_be_bytes}
use Rattle.std.specs.Prelude.{IfOk}
use Rattle.std.specs.List.{find}
use Rattle.std.proofs.Math.Nat.{mod-eq_of_lt}
use Rattle.std.proofs.lemmas.Bool.{ltb-false, le-ltb, eqb-true}
use Rattle.std.proofs.lemmas.List.{take_at, drop_at, take-append-drop, length-append, length-take, length-drop}
use Rattle.std.proofs.lemmas.List.{append-nil, nil_from_length}
use Rattle.wire_fields.specs.declared.messages.Framed.{Framed}
use Rattle.wire_fields.specs.declared.messages.Message.{Message}
use Rattle.wire_fields.specs.declared.operations.Heard.{Heard}
use Rattle.wire_fields.specs.declared.operations.Heard.TheVariants.{AtClient, AtAdmin, AtAgent, Replies, AgentReplies}
use Rattle.wire_fields.specs.declared.operations.Operation.{Operation}
use Rattle.wire_fields.specs.declared.operations.Operation.TheVariants as op
use Rattle.wire_fields.specs.declared.refusals.EncodeRefusal.{EncodeRefusal}
use Rattle.wire_fields.specs.declared.refusals.WireRefusal.{WireRefusal}
use Rattle.wire_fields.specs.declared.refusals.WireRefusal.TheVariants.{TooShort, TooLong, Trailing}
use Rattle.wire_fields.specs.Left.{IsBytes, Left, place, ◌>>=◌}
use Rattle.wire_fields.specs.Format.{number}
use Rattle.wire_fields.specs.Operation.{number_of, operation_of, known_at}
use Rattle.wire_fields.specs.Message.{operation, fields, read}
use Rattle.wire_reading.specs.Frame.{body, spelling, length_of, length_fault, message_at, whole, body_of, unless_fault}
use Rattle.wire_reading.specs.Frame.{frame_of, Answers}
use Rattle.wire_reading.specs.Hearing.{IsHeard}
use Rattle.wire_fields.specs.Right.{IsRight}
use Rattle.wire_fields.proofs.Exact.{IsBytes-drop, IsBytes-take, bind_ok, pass_ok, ok_is, number_exact}
use Rattle.wire_fields.proofs.Exact.{wide8, wide16, wide32}
use Rattle.wire_fields.proofs.RefusalLaws.{find_passes, byte_read}
use Rattle.wire_fields.proofs.MessageLaws.{Says, message_takes, message_again}

number_known : (heard : Heard) (n : ℕ) (o : Operation) → operation_of heard n ≡ Some o → number_of o ≡ n
number_known heard n o is = eqb-true (number_of o) n (find_passes (λ o. eqb (number_of o) n) (known_at heard) o is)

-- a message that is read, of an operation that is known
record Told (heard : Heard) (n : ℕ) (left : Left) (y : Message × Left) : Type 0 where
  says : Says (operation y.0) left y
  numbered : number_of (operation y.0) ≡ n
  known : operation_of heard (number_of (operation y.0)) ≡ Some (operation y.0)

message_told : (heard : Heard) (n : ℕ) (found : Option Operation) → operation_of heard n ≡ found
    → (left : Left) (y : Message × Left)
    → IsBytes left.rest → message_at found n left ≡ Ok y → Told heard n left y
message_told heard n (Some o) is left y fits e =
    let s = message_takes o left y fits e in
    let same : number_of (operation y.0) ≡ n = ap number_of s.operation_is ∙ number_known heard n o is in
    record {
      says = record { operation_is = refl; taken = s.taken; right = s.right };
      numbered = same;
      known = ap (operation_of heard) same ∙ is ∙ ap (λ (o : Operation). Some o) (sym s.operation_is);
    }
message_told heard n None is left y fits e = absurd cc

-- what follows the length was the message's body
record Bodied (heard : Heard) (left : Left) (framed : Framed) : Type 0 where
  parts : left.rest ≡ body framed
  sequence : framed.sequence < 2 ^ 16
  right : IsRight framed.message
  known : operation_of heard (number_of (operation framed.message)) ≡ Some (operation framed.message)

body_takes : (heard : Heard) (left : Left) (framed : Framed) → IsBytes left.rest → body_of heard left ≡ Ok framed
    → Bodied heard left framed
unfolding body_of
body_takes heard left framed fits e =
    let a = bind_ok ((number w16).read left)
    (λ s. (number w8).read s.1 >>= λ o. message_at (operation_of heard o.0) o.0 o.1 >>= λ m. whole s.0 m) framed e in
    let b =
    bind_ok ((number w8).read a.0.1) (λ o. message_at (operation_of heard o.0) o.0 o.1 >>= λ m. whole a.0.0 m) framed
    a.2 in
    let m = bind_ok (message_at (operation_of heard b.0.0) b.0.0 b.0.1) (λ m. whole a.0.0 m) framed b.2 in
    let s = (number_exact w16 (2 ^ 16) wide16).takes left a.0 fits a.1 in
    let o = (number_exact w8 256 wide8).takes a.0.1 b.0 s.0.bytes b.1 in
    let t = message_told heard b.0.0 (operation_of heard b.0.0) refl b.0.1 m.0 o.0.bytes m.1 in
    let made : Framed = record { sequence = a.0.0; message = m.0.0 } in
    let w = pass_ok (eqb (length m.0.1.rest) 0) (Trailing (place m.0.1)) made framed m.2 in
    let none : m.0.1.rest ≡ [] = nil_from_length m.0.1.rest (eqb-true _ _ w.0) in
    let one : to_be_bytes w8 b.0.0 ≡ number_of (operation m.0.0) ∷ [] =
    ap (λ (x : ℕ). x ∷ []) (mod-eq_of_lt o.1 ∙ sym t.numbered) in
    let all : b.0.1.rest ≡ fields m.0.0 =
    t.says.taken.parts ∙ ap (λ (r : List ℕ). fields m.0.0 ++ r) none ∙ append-nil (fields m.0.0) in
    let behind : a.0.1.rest ≡ number_of (operation m.0.0) ∷ fields m.0.0 = o.0.parts ∙ (λ i. one i ++ all i) in
    subst (Bodied heard left) w.1 (record {
      parts = s.0.parts ∙ ap (λ (r : List ℕ). to_be_bytes w16 a.0.0 ++ r) behind;
      sequence = s.1;
      right = t.says.right;
      known = t.known;
    })

fault_free : (fault : Option WireRefusal) (r : Result Framed WireRefusal) (framed : Framed)
    → unless_fault fault r ≡ Ok framed
    → (fault ≡ None) × (r ≡ Ok framed)
fault_free None r framed e = (refl, e)
fault_free (Some fault) r framed e = absurd cc

short_of : (a b : Bool) (n : ℕ) → ltb n 3 ≡ a → ltb 1048576 n ≡ b
    → cond a (Some (TooShort n)) (cond b (Some (TooLong n)) None) ≡ None
    → n ≤ 1048576
short_of true b n first second none = absurd cc
short_of false true n first second none = absurd cc
short_of false false n first second none = ltb-false 1048576 n second

pub frame_takes : (heard : Heard) (frame : List ℕ) (framed : Framed) → IsBytes frame
    → length frame ≡ length_of frame + 4
    → frame_of heard frame ≡ Ok framed → IsHeard heard framed × (frame ≡ spelling framed)
frame_takes heard frame framed fits len e =
    let n = length_of frame in
    let left : Left = record { end = length frame; rest = drop 4 frame } in
    let f = fault_free (length_fault n) (body_of heard left) framed e in
    let b = body_takes heard left framed (IsBytes-drop 4 frame fits) f.1 in
    let small : n ≤ 1048576 = short_of (ltb n 3) (ltb 1048576 n) n refl refl f.0 in
    let size : length (body framed) ≡ n = ap length (sym b.parts) ∙ length-drop 4 frame ∙ omega (arith, len) in
    let front : to_be_bytes w32 n ≡ take 4 frame =
    wide32.back (take 4 frame) (omega (arith, length-take 4 frame, len)) (IsBytes-take 4 frame fits) in (
      record { sequence = b.sequence; right = b.right; known = b.known; short = omega (arith, size, small) },
      sym (take-append-drop 4 frame) ∙ λ i. (sym front ∙ ap (to_be_bytes w32) (sym size)) i ++ b.parts i,
    )

number_small : (o : Operation) → number_of o < 256
number_small op.Check = omega arith
number_small op.SimpleCheck = omega arith
number_small op.SetBucket = omega arith
number_small op.RemoveBucket = omega arith
number_small op.SetPolicies = omega arith
number_small op.Erase = omega arith
number_small op.Layout = omega arith
number_small op.SetTemplate = omega arith
number_small op.UserSet = omega arith
number_small op.UserRemove = omega arith
number_small op.Install = omega arith
number_small op.Uninstall = omega arith
number_small op.Listing = omega arith
number_small op.AdminCheck = omega arith
number_small op.Stop = omega arith
number_small op.InstallHybrid = omega arith
number_small op.Convert = omega arith
number_small op.ReadState = omega arith
number_small op.ReadService = omega arith
number_small op.Register = omega arith
number_small op.AgentAnswer = omega arith
number_small op.Judged = omega arith
number_small op.FromAgent = omega arith
number_small op.NotResolved = omega arith
number_small op.NoAgent = omega arith
number_small op.AgentGone = omega arith
number_small op.AgentFull = omega arith
number_small op.Done = omega arith
number_small op.Refused = omega arith
number_small op.ListRow = omega arith
number_small op.ListEnd = omega arith
number_small op.StoreFault = omega arith
number_small op.StoreDamaged = omega arith
number_small op.StateFile = omega arith
number_small op.StateEnd = omega arith
number_small op.AgentHere = omega arith
number_small op.ServiceEnd = omega arith
number_small op.Registered = omega arith
number_small op.KindTaken = omega arith
number_small op.AgentQuestion = omega arith
number_small op.UnknownNumber = omega arith
number_small op.AgentWithdrawn = omega arith

body_again : (heard : Heard) (framed : Framed) (end : ℕ) → IsHeard heard framed
    → body_of heard (record { end = end; rest = body framed }) ≡ Ok framed
unfolding body_of
body_again heard framed end is =
    let m = framed.message in
    let all : fields m ≡ fields m ++ [] = sym (append-nil (fields m)) in
    let read_all : read (operation m) (record { end = end; rest = fields m })
    ≡ Ok (m, record { end = end; rest = [] }) =
    ap (λ (r : List ℕ). read (operation m) (record { end = end; rest = r })) all ∙ message_again m end [] is.right in
    let small : number_of (operation m) < 256 = number_small (operation m) in
    rw (
      (number_exact w16 (2 ^ 16) wide16).again end framed.sequence (number_of (operation m) ∷ fields m) is.sequence,
      byte_read end (number_of (operation m)) (fields m) small,
      is.known,
      read_all,
    ) refl

body_size : (framed : Framed) → 3 ≤ length (body framed)
body_size framed =
    omega (
      arith,
      length-append (to_be_bytes w16 framed.sequence)
          (number_of (operation framed.message) ∷ fields framed.message),
    )

-- the length in front of a spelling, and that it has no fault
pub spelled_length : (heard : Heard) (framed : Framed) → IsHeard heard framed
    → length_of (spelling framed) ≡ length (body framed)
spelled_length heard framed is =
    let n = length (body framed) in
    let front : take 4 (spelling framed) ≡ to_be_bytes w32 n = take_at (to_be_bytes w32 n) (body framed) 4 refl in
    let small : n < 2 ^ 32 = omega (arith, is.short) in
    ap (from_be_bytes w32) front ∙ wide32.again n small

pub spelled_right : (heard : Heard) (framed : Framed) → IsHeard heard framed
    → length_fault (length_of (spelling framed)) ≡ None
spelled_right heard framed is =
    let n = length (body framed) in
    let not_short : ltb n 3 ≡ false = le-ltb _ _ (body_size framed) in
    let not_long : ltb 1048576 n ≡ false = le-ltb _ _ is.short in
    ap length_fault (spelled_length heard framed is) ∙ rw (not_short, not_long) refl

pub frame_again : (heard : Heard) (framed : Framed) → IsHeard heard framed
    → frame_of heard (spelling framed) ≡ Ok framed
frame_again heard framed is =
    let behind : drop 4 (spelling framed) ≡ body framed =
    drop_at (to_be_bytes w32 (length (body framed))) (body framed) 4 refl in
    ap (λ (fault : Option WireRefusal). unless_fault fault
    (body_of heard (record { end = length (spelling framed); rest = drop 4 (spelling framed) })))
    (spelled_right heard framed is)
    ∙ ap (λ (r : List ℕ). body_of heard (record { end = length (spelling framed); rest = r })) behind
    ∙ body_again heard framed (length (spelling framed)) is

-- ---- no spelling begins another

pub spelling_size : (framed : Framed) → length (spelling framed) ≡ 4 + length (body framed)
spelling_size framed = length-append (to_be_bytes w32 (length (body framed))) (body framed)

same_size : (a b : Framed) (x y : List ℕ) → length (body a) < 2 ^ 32 → length (body b) < 2 ^ 32
    → spelling a ++ x ≡ spelling b ++ y
    → length (body a) ≡ length (body b)
same_size a b x y small_a small_b e =
    let front : (f : Framed) (z : List ℕ) → take 4 (spelling f ++ z) ≡ to_be_bytes w32 (length (body f)) = λ f z.
    ap (take 4) (append_assoc (to_be_bytes w32 (length (body f))) (body f) z)
    ∙ take_at (to_be_bytes w32 (length (body f))) (body f ++ z) 4 refl in
    let same : to_be_bytes w32 (length (body a)) ≡ to_be_bytes w32 (length (body b)) =
    sym (front a x) ∙ ap (take 4) e ∙ front b y in
    sym (wide32.again (length (body a)) small_a) ∙ ap (from_be_bytes w32) same ∙ wide32.again (length (body b)) small_b

-- every operation, whoever hears it
everyone : List Operation
everyone = known_at AtClient ++ (known_at AtAdmin ++ (known_at AtAgent ++ (known_at Replies ++ known_at AgentReplies)))

-- an operation is known by its number
known_by_number : (o : Operation) → find (λ other. eqb (number_of other) (number_of o)) everyone ≡ Some o
unfolding everyone
known_by_number op.Check = refl
known_by_number op.SimpleCheck = refl
known_by_number op.SetBucket = refl
known_by_number op.RemoveBucket = refl
known_by_number op.SetPolicies = refl
known_by_number op.Erase = refl
known_by_number op.Layout = refl
known_by_number op.SetTemplate = refl
known_by_number op.UserSet = refl
known_by_number op.UserRemove = refl
known_by_number op.Install = refl
known_by_number op.Uninstall = refl
known_by_number op.Listing = refl
known_by_number op.AdminCheck = refl
known_by_number op.Stop = refl
known_by_number op.InstallHybrid = refl
known_by_number op.Convert = refl
known_by_number op.ReadState = refl
known_by_number op.ReadService = refl
known_by_number op.Register = refl
known_by_number op.AgentAnswer = refl
known_by_number op.Judged = refl
known_by_number op.FromAgent = refl
known_by_number op.NotResolved = refl
known_by_number op.NoAgent = refl
known_by_number op.AgentGone = refl
known_by_number op.AgentFull = refl
known_by_number op.Done = refl
known_by_number op.Refused = refl
known_by_number op.ListRow = refl
known_by_number op.ListEnd = refl
known_by_number op.StoreFault = refl
known_by_number op.StoreDamaged = refl
known_by_number op.StateFile = refl
known_by_number op.StateEnd = refl
known_by_number op.AgentHere = refl
known_by_number op.ServiceEnd = refl
known_by_number op.Registered = refl
known_by_number op.KindTaken = refl
known_by_number op.AgentQuestion = refl
known_by_number op.UnknownNumber = refl
known_by_number op.AgentWithdrawn = refl

same_operation : (a b : Operation) → number_of a ≡ number_of b → a ≡ b
same_operation a b same = is (sym (known_by_number a)
    ∙ ap (λ (n : ℕ). find (λ other. eqb (number_of other) n) everyone) same ∙ known_by_number b)
  where
    is : Some a ≡ Some b → a ≡ b
    is e = cc

-- the same body has the same operation
body_operation : (a b : Framed) → body a ≡ body b → operation a.message ≡ operation b.message
body_operation a b same =
    let tail : (f : Framed) → drop 2 (body f) ≡ number_of (operation f.message) ∷ fields f.message = λ f.
    drop_at (to_be_bytes w16 f.sequence) (number_of (operation f.message) ∷ fields f.message) 2 refl in
    let both : number_of (operation a.message) ∷ fields a.message ≡ number_of (operation b.message) ∷ fields b.message =
    sym (tail a) ∙ ap (drop 2) same ∙ tail b in
    same_operation (operation a.message) (operation b.message) cc

pub one_spelling : (one other : Heard) (a b : Framed) (x y : List ℕ) → IsHeard one a → IsHeard other b
    → spelling a ++ x ≡ spelling b ++ y
    → (a ≡ b) × (x ≡ y)
one_spelling one other a b x y is_a is_b e =
    let size = same_size a b x y (omega (arith, is_a.short)) (omega (arith, is_b.short)) e in
    let n = length (spelling a) in
    let len : length (spelling b) ≡ n = spelling_size b ∙ ap (λ (k : ℕ). 4 + k) (sym size) ∙ sym (spelling_size a) in
    let same : spelling a ≡ spelling b =
    sym (take_at (spelling a) x n refl) ∙ ap (take n) e ∙ take_at (spelling b) y n len in
    let rest : x ≡ y = sym (drop_at (spelling a) x n refl) ∙ ap (drop n) e ∙ drop_at (spelling b) y n len in
    let behind : (f : Framed) → drop 4 (spelling f) ≡ body f = λ f.
    drop_at (to_be_bytes w32 (length (body f))) (body f) 4 refl in
    let operation_is : operation a.message ≡ operation b.message =
    body_operation a b (sym (behind a) ∙ ap (drop 4) same ∙ behind b) in
    let Known : Operation → Type 0 = λ o. operation_of one (number_of o) ≡ Some o in
    let is : IsHeard one b = record {
      sequence = is_b.sequence;
      right = is_b.right;
      known = subst Known operation_is is_a.known;
      short = is_b.short;
    } in
    (ok_is a b (sym (frame_again one a is_a) ∙ ap (frame_of one) same ∙ frame_again one b is), rest)

-- ---- what a call answers that gives what is read

pub is_found : (heard : Heard) (frame : List ℕ) (answer : Result Framed WireRefusal) → IsBytes frame
    → length frame ≡ length_of frame + 4
    → Answers answer (frame_of heard frame) → IfOk answer (λ framed. IsHeard heard framed × (frame ≡ spelling framed))
is_found heard frame (Ok framed) fits len given = frame_takes heard frame framed fits len given
is_found heard frame (Err refusal) fits len given = tt

pub is_read : (heard : Heard) (frame : List ℕ) (answer : Result Framed WireRefusal) (framed : Framed)
    → IsHeard heard framed
    → frame ≡ spelling framed → Answers answer (frame_of heard frame) → Answers answer (Ok framed)
is_read heard frame answer framed is same given =
    subst (Answers answer) (ap (frame_of heard) same ∙ frame_again heard framed is) given

pub is_read_again : (framed : Framed) (answer : Result (List ℕ) EncodeRefusal)
    → IfOk answer (λ frame. frame ≡ spelling framed)
    → IfOk answer (λ frame. (heard : Heard) → IsHeard heard framed → frame_of heard frame ≡ Ok framed)
is_read_again framed (Ok frame) spelled = λ heard is. ap (frame_of heard) spelled ∙ frame_again heard framed is
is_read_again framed (Err refusal) spelled = tt
