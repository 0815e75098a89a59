-- Bytes that are whole frames, and what a link carried of them: what the laws of the doors on connections stand on.
use Rattle.std.proofs.Common.{◌≡◌, ◌∙◌, ℕ, List, [], ◌++◌, Option, Some, sym, subst, append-nil, arith}
use Rattle.link_ports.specs.Traffic.{Traffic}
use Rattle.wire_reading.specs.Stream.{Hears, BeginsWrong, IsOpen, first_of, Front}
use Rattle.wire_fields.specs.declared.messages.Framed.{Framed}
use Rattle.wire_fields.specs.declared.operations.Heard.{Heard}
use Rattle.wire_fields.specs.declared.refusals.WireRefusal.{WireRefusal}
use Rattle.wire_fields.specs.declared.refusals.WireRefusal.TheVariants.{TooShort, TooLong, BadOperation, BadField, Trailing}
use Rattle.wire_fields.specs.declared.refusals.WireRefusal.TheVariants.{Memory as NoMemory}
use Rattle.wire_reading.proofs.Settling.{short_open}
use Rattle.wire_messages.proofs.Refusing.{refused_to_its_end}
use Rattle.door_frames.specs.Carried.{Carried}
use Rattle.door_frames.specs.Ending.{IsOfBytes}

pub same_whole : (a b : Framed) (x y : List ℕ) → Front.Whole a x ≡ Front.Whole b y → (a ≡ b) × (x ≡ y)
same_whole a b x y same = (cc, cc)

pub partial_not_whole : (a : Framed) (x : List ℕ) → Front.Partial ≡ Front.Whole a x → ⊥
partial_not_whole a x same = cc

module _ (heard : Heard) where
  pub nothing_open : IsOpen heard []
  nothing_open = short_open heard [] (omega arith)

  never : (bytes : List ℕ) (frames some : List Framed) (rest : List ℕ) (refusal : WireRefusal) → Hears heard bytes frames []
      → Hears heard bytes some rest → first_of heard rest ≡ Front.Wrong refusal → ⊥
  never bytes frames some rest refusal all first wrong =
      refused_to_its_end heard bytes [] some frames rest [] refusal first wrong
      (subst (λ list. Hears heard list frames []) (sym (append-nil bytes)) all) nothing_open

  -- bytes that are whole frames do not begin with a wrong one behind some of them
  pub right_whole : (bytes : List ℕ) (frames some : List Framed) (rest : List ℕ) (refusal : WireRefusal) → Hears heard bytes frames []
      → Hears heard bytes some rest → BeginsWrong heard rest refusal → IsOfBytes refusal → ⊥
  right_whole bytes frames some rest (NoMemory error) all first wrong of_bytes = absurd of_bytes
  right_whole bytes frames some rest (TooShort count) all first wrong of_bytes =
      never bytes frames some rest (TooShort count) all first wrong
  right_whole bytes frames some rest (TooLong count) all first wrong of_bytes =
      never bytes frames some rest (TooLong count) all first wrong
  right_whole bytes frames some rest (BadOperation number) all first wrong of_bytes =
      never bytes frames some rest (BadOperation number) all first wrong
  right_whole bytes frames some rest (BadField place) all first wrong of_bytes =
      never bytes frames some rest (BadField place) all first wrong
  right_whole bytes frames some rest (Trailing place) all first wrong of_bytes =
      never bytes frames some rest (Trailing place) all first wrong

same_inside : (a b : Traffic) → Some a ≡ Some b → a ≡ b
same_inside a b same = cc

-- what the link carried, where it tells it
pub carried_so : (start now : Option Traffic) (received sent : List ℕ) (before after : Traffic) → Carried start now received sent
    → start ≡ Some before → now ≡ Some after → after ≡ record { received = before.received ++ received; sent = before.sent ++ sent }
carried_so start now received sent before after carried told told_now =
    same_inside after (record { received = before.received ++ received; sent = before.sent ++ sent })
    (sym told_now ∙ carried before told)
