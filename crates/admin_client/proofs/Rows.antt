-- Rows that were read one behind the other, and what the bytes behind them are.
use Rattle.std.proofs.Common.{◌≡◌, ◌∙◌, ◌+◌, ℕ, suc, List, [], ◌∷◌, ◌++◌, length, map, Option, Some, Ok, Err, refl, sym, ap, subst, append_assoc, arith, inl, inr}
use Rattle.link_ports.specs.Traffic.{Traffic, with_received}
use Rattle.std.specs.declared.alloc.AllocError.{AllocError}
use Rattle.wire_reading.proofs.Streams.{hears_more, hears_then}
use Rattle.wire_fields.specs.Operation.{number_of}
use Rattle.wire_fields.specs.Message.{operation}
use Rattle.wire_reading.specs.Stream.{Hears}
use Rattle.wire_fields.specs.declared.messages.Framed.{Framed}
use Rattle.wire_fields.specs.declared.messages.Message.{Message}
use Rattle.wire_fields.specs.declared.operations.Heard.TheVariants.{Replies}
use Rattle.wire_fields.specs.declared.refusals.WireRefusal.{WireRefusal}
use Rattle.wire_fields.specs.declared.refusals.WireRefusal.TheVariants.{TooShort, TooLong, BadOperation, BadField, Trailing, Memory}
use Rattle.client_connection.specs.Reading.{IsRead, Receives}
use Rattle.client_connection.proofs.Sizes.{whole_within}
use Rattle.client_connection.specs.declared.faults.Broken.TheVariants.{Lost, Wrong}
use Rattle.client_connection.specs.declared.faults.ReplyFault.{ReplyFault}
use Rattle.client_connection.specs.declared.faults.ReplyFault.TheVariants as reply_fault
use Rattle.client_core.specs.Hearing.{fault_by}
use Rattle.client_core.specs.AdminCalls.{AreRows}
use Rattle.client_core.specs.AdminReplies.{IsRow, IsLast, IsWrong}
use Rattle.client_core.proofs.Staging.{IsFor, wrong_for}
use Rattle.client_core.specs.declared.steps.Fault.{Fault}
use Rattle.client_core.specs.declared.wanted.Wanted.{Wanted}
use Rattle.admin_client.specs.Answers.{TookBytes, IsWhole, IsBad, IsRefused, IsNoAge, refusal_of}
use Rattle.admin_client.specs.declared.refusals.AdminRefusal.TheVariants as refusal

-- ---- rows

abbrev pub messages : List Framed → List Message
messages rows = map (λ (framed : Framed). framed.message) rows

pub mapped_more : (rows : List Framed) (framed : Framed) → messages (rows ++ framed ∷ []) ≡ messages rows ++ framed.message ∷ []
mapped_more [] framed = refl
mapped_more (row ∷ rows) framed = ap (λ (ms : List Message). row.message ∷ ms) (mapped_more rows framed)

pub rows_length : (rows : List Framed) → length (messages rows) ≡ length rows
rows_length [] = refl
rows_length (row ∷ rows) = ap suc (rows_length rows)

pub length_more : (rows : List Framed) (framed : Framed) → length (rows ++ framed ∷ []) ≡ length rows + 1
length_more [] framed = refl
length_more (row ∷ rows) framed = let on = length_more rows framed in omega (arith, on)

-- one more row
pub one_more : (wanted : Wanted) (sequence before n : ℕ) (rows : List Framed) (framed : Framed) → n ≡ before + length rows
    → AreRows wanted sequence before rows → IsRow wanted sequence n framed
    → AreRows wanted sequence before (rows ++ framed ∷ [])
one_more wanted sequence before n [] framed place rows more =
    let here : n ≡ before = omega (arith, place) in
    (subst (λ (n : ℕ). IsRow wanted sequence n framed) here more, tt)
one_more wanted sequence before n (row ∷ rows) framed place are more =
    (are.0, one_more wanted sequence (suc before) n rows framed (omega (arith, place)) are.1 more)

-- ---- what was taken

-- one more reply was taken
pub took_more : (rows : List Framed) (framed : Framed) (start between end : Option Traffic)
    → TookBytes (λ bytes. Hears Replies bytes rows []) start between → Receives Replies (Ok framed) between end
    → TookBytes (λ bytes. Hears Replies bytes (rows ++ framed ∷ []) []) start end
took_more rows framed start between end one two before told =
    let first = one before told in
    let then = two (with_received first.0 before) first.2 in (
      first.0 ++ then.0,
      hears_then Replies (first.0 ++ then.0) rows then.0 (framed ∷ []) []
          (hears_more Replies first.0 then.0 rows [] first.1) then.1,
      then.2 ∙ ap (λ bytes. Some (record before { received = bytes })) (append_assoc before.received first.0 then.0),
    )

-- the bytes behind rows are no frame
refused_behind : (wanted : Wanted) (sequence : ℕ) (rows : List Framed) (bytes behind : List ℕ) (wrong : WireRefusal)
    → AreRows wanted sequence 0 rows → Hears Replies bytes rows behind → IsRead Replies (Err (Wrong wrong)) behind
    → IsRefused wanted sequence (refusal_of (fault_by wrong)) bytes
refused_behind wanted sequence rows bytes behind (TooShort n) are heard read =
    IsBad.no_frame (TooShort n) behind refl (record { rows = rows; heard = heard; are_rows = are }) read
refused_behind wanted sequence rows bytes behind (TooLong n) are heard read =
    IsBad.no_frame (TooLong n) behind refl (record { rows = rows; heard = heard; are_rows = are }) read
refused_behind wanted sequence rows bytes behind (BadOperation n) are heard read =
    IsBad.no_frame (BadOperation n) behind refl (record { rows = rows; heard = heard; are_rows = are }) read
refused_behind wanted sequence rows bytes behind (BadField n) are heard read =
    IsBad.no_frame (BadField n) behind refl (record { rows = rows; heard = heard; are_rows = are }) read
refused_behind wanted sequence rows bytes behind (Trailing n) are heard read =
    IsBad.no_frame (Trailing n) behind refl (record { rows = rows; heard = heard; are_rows = are }) read
refused_behind wanted sequence rows bytes behind (Memory error) are heard read =
    (behind, record { rows = rows; heard = heard; are_rows = are }, read.within)

pub refused_read : (wanted : Wanted) (sequence : ℕ) (rows : List Framed) (wrong : WireRefusal) (start between end : Option Traffic)
    → AreRows wanted sequence 0 rows → TookBytes (λ bytes. Hears Replies bytes rows []) start between
    → Receives Replies (Err (Wrong wrong)) between end
    → TookBytes (IsRefused wanted sequence (refusal_of (fault_by wrong))) start end
refused_read wanted sequence rows wrong start between end are one two before told =
    let first = one before told in
    let then = two (with_received first.0 before) first.2 in (
      first.0 ++ then.0,
      refused_behind wanted sequence rows (first.0 ++ then.0) then.0 wrong are
          (hears_more Replies first.0 then.0 rows [] first.1) then.1,
      then.2 ∙ ap (λ bytes. Some (record before { received = bytes })) (append_assoc before.received first.0 then.0),
    )

-- the link was lost behind them
pub refused_lost : (wanted : Wanted) (sequence : ℕ) (rows : List Framed) (start between end : Option Traffic)
    → AreRows wanted sequence 0 rows → TookBytes (λ bytes. Hears Replies bytes rows []) start between
    → Receives Replies (Err Lost) between end
    → TookBytes (IsRefused wanted sequence refusal.Unavailable) start end
refused_lost wanted sequence rows start between end are one two before told =
    let first = one before told in
    let then = two (with_received first.0 before) first.2 in (
      first.0 ++ then.0,
      (then.0, record { rows = rows; heard = hears_more Replies first.0 then.0 rows [] first.1; are_rows = are }, then.1),
      then.2 ∙ ap (λ bytes. Some (record before { received = bytes })) (append_assoc before.received first.0 then.0),
    )

-- ---- a reply that is wrong there

-- what it is told as
pub record IsTold (found : Fault) : Type 0 where
  pub as_fault : ReplyFault
  pub is : refusal_of found ≡ refusal.BadReply as_fault
  pub no_age : IsNoAge found

told_for : (sequence : ℕ) (framed : Framed) (found : Fault) → IsFor sequence framed found → IsTold found
told_for sequence framed found (inl is) =
    subst IsTold (sym is) (record { as_fault = reply_fault.Sequence sequence framed.sequence; is = refl; no_age = tt })
told_for sequence framed found (inr is) =
    subst IsTold (sym is) (record { as_fault = reply_fault.Operation (number_of (operation framed.message)); is = refl; no_age = tt })

pub told_as : (wanted : Wanted) (sequence n : ℕ) (framed : Framed) (found : Fault) → IsWrong wanted sequence n framed found → IsTold found
told_as wanted sequence n framed found is = told_for sequence framed found (wrong_for sequence framed found wanted n is)

-- the reply is a wrong one
pub refused_reply : (wanted : Wanted) (sequence : ℕ) (rows : List Framed) (framed : Framed) (found : Fault) (start end : Option Traffic)
    → AreRows wanted sequence 0 rows → IsWrong wanted sequence (length rows) framed found → (told : IsTold found)
    → TookBytes (λ bytes. Hears Replies bytes (rows ++ framed ∷ []) []) start end
    → TookBytes (IsRefused wanted sequence (refusal.BadReply told.as_fault)) start end
refused_reply wanted sequence rows framed found start end are wrong told took before is_told =
    let all = took before is_told in (all.0, IsBad.no_answer rows framed found all.1 are wrong told.is, all.2)

-- it is the last one
pub whole_reply : (wanted : Wanted) (sequence : ℕ) (rows : List Framed) (framed : Framed) (replies : List Message)
    (start end : Option Traffic) → AreRows wanted sequence 0 rows → IsLast wanted sequence (length rows) framed
    → replies ≡ messages (rows ++ framed ∷ [])
    → TookBytes (λ bytes. Hears Replies bytes (rows ++ framed ∷ []) []) start end
    → TookBytes (IsWhole wanted sequence replies) start end
whole_reply wanted sequence rows framed replies start end are whole all took before told =
    let bytes = took before told in (
      bytes.0,
      record {
        rows = rows;
        last = framed;
        heard = bytes.1;
        are_rows = are;
        whole = whole;
        are_all = all;
      },
      bytes.2,
    )

-- no memory was found for a reply that was read
pub refused_memory : (wanted : Wanted) (sequence : ℕ) (rows : List Framed) (framed : Framed) (error : AllocError) (start between end : Option Traffic)
    → AreRows wanted sequence 0 rows → TookBytes (λ bytes. Hears Replies bytes rows []) start between
    → Receives Replies (Ok framed) between end
    → TookBytes (IsRefused wanted sequence (refusal.Memory error)) start end
refused_memory wanted sequence rows framed error start between end are one two before told =
    let first = one before told in
    let then = two (with_received first.0 before) first.2 in (
      first.0 ++ then.0,
      (
        then.0,
        record { rows = rows; heard = hears_more Replies first.0 then.0 rows [] first.1; are_rows = are },
        whole_within Replies then.0 framed then.1,
      ),
      then.2 ∙ ap (λ bytes. Some (record before { received = bytes })) (append_assoc before.received first.0 then.0),
    )
