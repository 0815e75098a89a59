-- Lists of exchanges: their messages, their texts, and how much of these is written in turn.
use Rattle.std.proofs.Common.{◌≡◌, ◌≤◌, ℕ, List, [], ◌∷◌, ◌++◌, length, map, refl, sym, ap, ◌∙◌, arith, append_assoc}
use Rattle.std.proofs.Common.{length-append}
use Rattle.std.specs.Option.{option_to_list}
use Rattle.line_script.specs.declared.steps.Step.{Step}
use Rattle.admin_runs.specs.StepMessage.{message_for}
use Rattle.admin_runs.specs.AdminRun.{Exchange, text_of, texts_of, messages_of, AreInTurn}

pub texts_then : (first second : List Exchange) → texts_of (first ++ second) ≡ texts_of first ++ texts_of second
texts_then [] second = refl
texts_then (exchange ∷ first) second =
    ap (λ texts. text_of exchange ++ texts) (texts_then first second)
    ∙ sym (append_assoc (text_of exchange) (texts_of first) (texts_of second))

pub mapped_then : (first second : List Exchange)
    → map (λ (exchange : Exchange). exchange.message) (first ++ second)
    ≡ map (λ (exchange : Exchange). exchange.message) first ++ map (λ (exchange : Exchange). exchange.message) second
mapped_then [] second = refl
mapped_then (exchange ∷ first) second = ap (λ messages. exchange.message ∷ messages) (mapped_then first second)

pub messages_then : (first second : List Step) → messages_of (first ++ second) ≡ messages_of first ++ messages_of second
messages_then [] second = refl
messages_then (step ∷ first) second =
    ap (λ messages. option_to_list (message_for step) ++ messages) (messages_then first second)
    ∙ sym (append_assoc (option_to_list (message_for step)) (messages_of first) (messages_of second))

-- ---- no message was sent too early

none_behind : (written : List ℕ) (front : List Exchange) (last : Exchange) → front ++ last ∷ [] ≡ []
    → length (texts_of front) ≤ length written
none_behind written [] last same = cc
none_behind written (exchange ∷ front) last same = cc

-- no message was answered
pub in_turn_none : (written : List ℕ) → AreInTurn [] written
in_turn_none written = λ front last same. none_behind written front last (sym same)

one_behind : (written : List ℕ) (exchange : Exchange) (front : List Exchange) (last : Exchange)
    → exchange ∷ [] ≡ front ++ last ∷ []
    → length (texts_of front) ≤ length written
one_behind written exchange [] last same = omega arith
one_behind written exchange (other ∷ front) last same =
    let none : front ++ last ∷ [] ≡ [] = cc in absurd (no_end front last none)
  where
    no_end : (front : List Exchange) (last : Exchange) → front ++ last ∷ [] ≡ [] → ⊥
    no_end [] last same = cc
    no_end (exchange ∷ front) last same = cc

-- one was
pub in_turn_one : (exchange : Exchange) (written : List ℕ) → AreInTurn (exchange ∷ []) written
in_turn_one exchange written = λ front last same. one_behind written exchange front last same

more_behind : (first second : List Exchange) (written : List ℕ) → AreInTurn second written
    → (front : List Exchange) (last : Exchange) → first ++ second ≡ front ++ last ∷ []
    → length (texts_of front) ≤ length (texts_of first ++ written)
more_behind [] second written turn front last same = turn front last same
more_behind (exchange ∷ first) second written turn [] last same = omega arith
more_behind (exchange ∷ first) second written turn (other ∷ front) last same =
    let head : other ≡ exchange = cc in
    let tail : first ++ second ≡ front ++ last ∷ [] = cc in
    let up = more_behind first second written turn front last tail in
    omega (
      arith,
      up,
      ap (λ exchange. length (text_of exchange)) head,
      length-append (text_of other) (texts_of front),
      length-append (text_of exchange ++ texts_of first) written,
      length-append (text_of exchange) (texts_of first),
      length-append (texts_of first) written,
    )

-- these were behind others whose answers are all written
pub in_turn_then : (first second : List Exchange) (written : List ℕ) → AreInTurn second written
    → AreInTurn (first ++ second) (texts_of first ++ written)
in_turn_then first second written turn = λ front last same. more_behind first second written turn front last same
