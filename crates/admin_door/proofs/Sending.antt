-- Replies that are sent one after the other.
use Rattle.std.proofs.Common.{◌≡◌, ◌∙◌, ◌<◌, ◌+◌, ℕ, suc, List, [], ◌∷◌, ◌++◌, length, take, drop, get_or, Option, sym, ap, subst}
use Rattle.std.proofs.Common.{append-nil, drop-cons}
use Rattle.std.proofs.lemmas.Grind.{flat_map-append}
use Rattle.std.proofs.lemmas.List.{take_more, take-append-drop}
use Rattle.link_ports.specs.Traffic.{Traffic}
use Rattle.wire_reading.specs.Frame.{spelling, with_sequence}
use Rattle.wire_fields.specs.declared.messages.Message.{Message}
use Rattle.door_frames.specs.Carried.{Carried}
use Rattle.door_frames.specs.Ending.{EndsSending}
use Rattle.door_frames.specs.declared.endings.Ended.{Ended}
use Rattle.door_frames.proofs.Carrying.{carried_more}
use Rattle.admin_door.specs.Serving.{replies_bytes}
use Rattle.admin_door.specs.Due.{IsCutOff}

abbrev reply_bytes : ℕ → Message → List ℕ
reply_bytes sequence reply = spelling (with_sequence sequence reply)

bytes-more : (sequence : ℕ) (replies : List Message) (i : ℕ) (reply : Message) → i < length replies → reply ≡ get_or replies i reply
    → replies_bytes sequence (take i replies) ++ reply_bytes sequence reply ≡ replies_bytes sequence (take (i + 1) replies)
bytes-more sequence replies i reply within is =
    let one_more : take (i + 1) replies ≡ take i replies ++ reply ∷ [] =
    take_more replies i reply within ∙ ap (λ (last : Message). take i replies ++ last ∷ []) (sym is) in
    sym (ap (replies_bytes sequence) one_more
    ∙ (flat_map-append (reply_bytes sequence) (take i replies) (reply ∷ [])
    ∙ ap (λ last. replies_bytes sequence (take i replies) ++ last) (append-nil (reply_bytes sequence reply))))

-- one reply more is sent
pub sent-more : (sequence : ℕ) (replies : List Message) (i : ℕ) (reply : Message) (start between end : Option Traffic)
    → i < length replies → reply ≡ get_or replies i reply
    → Carried start between [] (replies_bytes sequence (take i replies)) → Carried between end [] (spelling (with_sequence sequence reply))
    → Carried start end [] (replies_bytes sequence (take (i + 1) replies))
sent-more sequence replies i reply start between end within is before then =
    subst (λ bytes. Carried start end [] bytes) (bytes-more sequence replies i reply within is)
    (carried_more [] [] (replies_bytes sequence (take i replies)) (reply_bytes sequence reply) start between end before then)

-- the next reply is not sent
pub cut-off : (ended : Ended) (sequence : ℕ) (replies : List Message) (i : ℕ) (reply : Message) (start between end : Option Traffic)
    (before now after : ℕ) → i < length replies → reply ≡ get_or replies i reply
    → Carried start between [] (replies_bytes sequence (take i replies)) → now ≡ before → Carried between end [] []
    → EndsSending ended now after → IsCutOff ended sequence replies start end before after
cut-off ended sequence replies i reply start between end before now after within is sent same unsent ends = record {
  sent = take i replies;
  next = reply;
  unsent = drop (suc i) replies;
  parts = sym (take-append-drop i replies)
      ∙ ap (λ rest. take i replies ++ rest)
      (drop-cons replies i reply within ∙ ap (λ (one : Message). one ∷ drop (suc i) replies) (sym is));
  carried = subst (λ bytes. Carried start end [] bytes) (append-nil (replies_bytes sequence (take i replies)))
      (carried_more [] [] (replies_bytes sequence (take i replies)) [] start between end sent unsent);
  faults = subst (λ count. EndsSending ended count after) same ends;
}
