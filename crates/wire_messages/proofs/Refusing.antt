-- A stream that is refused has one refusal, and one list of messages before it.
use Rattle.std.proofs.Common.{◌≡◌, ℕ, List, [], ◌∷◌, ◌++◌, refl, sym, ap, subst, ◌∙◌}
use Rattle.wire_fields.specs.declared.messages.Framed.{Framed}
use Rattle.wire_fields.specs.declared.operations.Heard.{Heard}
use Rattle.wire_fields.specs.declared.refusals.WireRefusal.{WireRefusal}
use Rattle.wire_reading.specs.Stream.{Front, Partial, Wrong, Whole, first_of, Hears, IsOpen}
use Rattle.wire_reading.proofs.Streams.{hears_more, wrong_front}
use Rattle.wire_reading.proofs.Hearings.{same_whole}

same_wrong : (front : Front) (r s : WireRefusal) → front ≡ Wrong r → front ≡ Wrong s → r ≡ s
same_wrong front r s first second = cc

-- the same bytes are refused in one way
refused_once : (heard : Heard) (bytes : List ℕ) (ms ns : List Framed) (x y : List ℕ) (r s : WireRefusal)
    → Hears heard bytes ms x → first_of heard x ≡ Wrong r → Hears heard bytes ns y → first_of heard y ≡ Wrong s
    → (ms ≡ ns) × (r ≡ s)
refused_once heard bytes [] [] x y r s first wrong second wrong_too = (
  refl,
  same_wrong (first_of heard bytes) r s (ap (first_of heard) first ∙ wrong)
      (ap (first_of heard) second ∙ wrong_too),
)
refused_once heard bytes [] (n ∷ ns) x y r s first wrong second wrong_too =
    let refused : first_of heard bytes ≡ Wrong r = ap (first_of heard) first ∙ wrong in
    let whole : first_of heard bytes ≡ Whole n second.0 = second.1 in
    absurd cc
refused_once heard bytes (m ∷ ms) [] x y r s first wrong second wrong_too =
    let refused : first_of heard bytes ≡ Wrong s = ap (first_of heard) second ∙ wrong_too in
    let whole : first_of heard bytes ≡ Whole m first.0 = first.1 in
    absurd cc
refused_once heard bytes (m ∷ ms) (n ∷ ns) x y r s first wrong second wrong_too =
    let same = same_whole (first_of heard bytes) m n first.0 second.0 first.1 second.1 in
    let behind = subst (λ (rest : List ℕ). Hears heard rest ns y) (sym same.1) second.2 in
    let more = refused_once heard first.0 ms ns x y r s first.2 wrong behind wrong_too in
    ((λ i. same.0 i ∷ more.0 i), more.1)

-- bytes that are refused do not end in less than a frame
refused_not_open : (heard : Heard) (bytes : List ℕ) (ms ns : List Framed) (x y : List ℕ) (r : WireRefusal)
    → Hears heard bytes ms x → first_of heard x ≡ Wrong r → Hears heard bytes ns y → IsOpen heard y → ⊥
refused_not_open heard bytes [] [] x y r first wrong second end =
    let refused : first_of heard bytes ≡ Wrong r = ap (first_of heard) first ∙ wrong in
    let partial : first_of heard bytes ≡ Partial = ap (first_of heard) second ∙ end in
    cc
refused_not_open heard bytes [] (n ∷ ns) x y r first wrong second end =
    let refused : first_of heard bytes ≡ Wrong r = ap (first_of heard) first ∙ wrong in
    let whole : first_of heard bytes ≡ Whole n second.0 = second.1 in
    cc
refused_not_open heard bytes (m ∷ ms) [] x y r first wrong second end =
    let partial : first_of heard bytes ≡ Partial = ap (first_of heard) second ∙ end in
    let whole : first_of heard bytes ≡ Whole m first.0 = first.1 in
    cc
refused_not_open heard bytes (m ∷ ms) (n ∷ ns) x y r first wrong second end =
    let same = same_whole (first_of heard bytes) m n first.0 second.0 first.1 second.1 in
    let behind = subst (λ (rest : List ℕ). Hears heard rest ns y) (sym same.1) second.2 in
    refused_not_open heard first.0 ms ns x y r first.2 wrong behind end

pub one_refusal : (heard : Heard) (bytes more others rest : List ℕ) (ms ns : List Framed) (x y : List ℕ)
    (r s : WireRefusal) → bytes ++ more ≡ others ++ rest → Hears heard bytes ms x → first_of heard x ≡ Wrong r
    → Hears heard others ns y → first_of heard y ≡ Wrong s → (ms ≡ ns) × (r ≡ s)
one_refusal heard bytes more others rest ms ns x y r s same first wrong second wrong_too =
    refused_once heard (bytes ++ more) ms ns (x ++ more) (y ++ rest) r s (hears_more heard bytes more ms x first)
    (wrong_front heard x more r wrong)
    (subst (λ (stream : List ℕ). Hears heard stream ns (y ++ rest)) (sym same)
    (hears_more heard others rest ns y second))
    (wrong_front heard y rest s wrong_too)

pub refused_to_its_end : (heard : Heard) (bytes more : List ℕ) (ms ns : List Framed) (x y : List ℕ) (r : WireRefusal)
    → Hears heard bytes ms x → first_of heard x ≡ Wrong r → Hears heard (bytes ++ more) ns y → IsOpen heard y → ⊥
refused_to_its_end heard bytes more ms ns x y r first wrong second end =
    refused_not_open heard (bytes ++ more) ms ns (x ++ more) y r (hears_more heard bytes more ms x first)
    (wrong_front heard x more r wrong) second end
