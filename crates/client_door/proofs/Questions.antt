-- Questions that are the same, and what comes of a call of `ask`.
use Rattle.std.proofs.Common.{◌≡◌, ◌∙◌, ℕ, Bool, true, false, ◌&&◌, List, [], ◌∷◌, Option, refl, ap, subst}
use Rattle.cynara_keys.specs.Text.{same_text}
use Rattle.cynara_keys.specs.Key.{Question, same_question}
use Rattle.cynara_keys.specs.declared.results.Kind.{Kind}
use Rattle.cynara_keys.proofs.Order.{same_text-≡, ≡-same_text}
use Rattle.server_hall.specs.Call.{AskResult}
use Rattle.server_hall.specs.Tally.{Tally, after_ask}
use Rattle.server_hall.specs.Told.{AppendsCalls}
use Rattle.server_hall.specs.declared.calls.HallCall.{HallCall}
use Rattle.server_hall.specs.declared.calls.HallCall.TheVariants.{Ask}
use Rattle.client_door.specs.Asking.{Asked, ask_made}

both : (x y : Bool) → (x && y) ≡ true → (x ≡ true) × (y ≡ true)
both true y is = (refl, is)
both false y is = cc

pub same_questions : (question other : Question) → same_question question other ≡ true → question ≡ other
same_questions question other is =
    let first = both (same_text question.client other.client)
    (same_text question.user other.user && same_text question.privilege other.privilege) is in
    let rest = both (same_text question.user other.user) (same_text question.privilege other.privilege) first.1 in
    let client = same_text-≡ question.client other.client first.0 in
    let user = same_text-≡ question.user other.user rest.0 in
    let privilege = same_text-≡ question.privilege other.privilege rest.1 in
    λ i. record { client = client i; user = user i; privilege = privilege i }

all_true : (x y z : Bool) → x ≡ true → y ≡ true → z ≡ true → (x && (y && z)) ≡ true
all_true x y z one two three = cc

same_as_itself : (question : Question) → same_question question question ≡ true
same_as_itself question =
    all_true (same_text question.client question.client) (same_text question.user question.user)
    (same_text question.privilege question.privilege) (≡-same_text question.client question.client refl)
    (≡-same_text question.user question.user refl) (≡-same_text question.privilege question.privilege refl)

pub other_questions : (question other : Question) → same_question question other ≡ false → question ≡ other → ⊥
other_questions question other differ same =
    let is : same_question question other ≡ true =
    subst (λ (q : Question). same_question question q ≡ true) same (same_as_itself question) in
    apart (same_question question other) is differ
  where
    apart : (b : Bool) → b ≡ true → b ≡ false → ⊥
    apart b is_true is_false = cc

-- one call was made, for the question of which a copy was handed over
pub asked_so : (kind : Kind) (question put : Question) (metadata : List ℕ) (result given : AskResult)
    (tally tally_after : Tally) (calls calls_after : Option (List HallCall)) → put ≡ question → result ≡ given
    → tally_after ≡ after_ask (ask_made kind put metadata result) tally
    → AppendsCalls calls (Ask (ask_made kind put metadata result) ∷ []) calls_after
    → Asked (ask_made kind question metadata given) tally calls tally_after calls_after
asked_so kind question put metadata result given tally tally_after calls calls_after same is counted told =
    let call : ask_made kind put metadata result ≡ ask_made kind question metadata given =
    λ i. record { kind = kind; question = same i; metadata = metadata; result = is i } in
    record {
      counted = counted ∙ ap (λ made. after_ask made tally) call;
      told = subst (λ made. AppendsCalls calls (Ask made ∷ []) calls_after) call told;
    }
