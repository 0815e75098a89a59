-- Where the client of a number stands, from where the first slot of the number stands.
use Rattle.std.proofs.Common.{◌≡◌, ℕ, suc, ◌<◌, ◌≤◌, ◌+◌, ◌==◌, Bool, true, false, not, cond, nat_lt, List, [], ◌∷◌, length, set, Some, None, refl, sym, ap, subst, ◌∙◌, arith}
use Rattle.std.specs.Prelude.{MatchOption}
use Rattle.std.specs.List.{position, position_or_len}
use Rattle.std.proofs.Math.Numerals.{one-add}
use Rattle.std.proofs.lemmas.Bool.{eqb-true, eq-eqb, ltb-true, ltb-false}
use Rattle.desk_world.specs.Client.{Client}
use Rattle.desk_world.specs.World.{client_in, put_client}
use Rattle.desk_world.specs.declared.clients.Slot.{Slot}
use Rattle.desk_world.specs.parts.Slots.{IsPlace, IsAbsent}

place_step : (number : ℕ) (slot : Slot) (slots : List Slot) (at : ℕ) (test : Bool) → (slot.number == number) ≡ test
    → (at < length slots → IsPlace slots number at) → cond (not test) (1 + at) 0 < suc (length slots)
    → IsPlace (slot ∷ slots) number (cond (not test) (1 + at) 0)
place_step number slot slots at true is next low = record {
  in_range = low;
  same = λ other. eqb-true slot.number number is;
  client = λ other. sym (ap (λ test. cond test slot.client (client_in number slots)) is);
  put = λ client.
      ap (λ test. cond test (record { number = number; client = client } ∷ slots) (slot ∷ put_client number client slots)) is;
}
place_step number slot slots at false is next low =
    let rest = next (omega (arith, low)) in
    let here : IsPlace (slot ∷ slots) number (suc at) = record {
      in_range = omega (arith, rest.in_range);
      same = rest.same;
      client = λ other. rest.client other ∙ sym (ap (λ test. cond test slot.client (client_in number slots)) is);
      put = λ client.
          ap (λ test. cond test (record { number = number; client = client } ∷ slots) (slot ∷ put_client number client slots)) is
          ∙ ap (λ list. slot ∷ list) (rest.put client);
    } in
    subst (IsPlace (slot ∷ slots) number) (sym (one-add at)) here

place_is : (number : ℕ) (slots : List Slot) → position_or_len (λ (slot : Slot). slot.number == number) slots < length slots
    → IsPlace slots number (position_or_len (λ (slot : Slot). slot.number == number) slots)
place_is number [] low = absurd (omega (arith, low))
place_is number (slot ∷ slots) low =
    place_step number slot slots (position_or_len (λ (slot : Slot). slot.number == number) slots) (slot.number == number) refl
    (place_is number slots) low

absent_step : (number : ℕ) (slot : Slot) (slots : List Slot) (at : ℕ) (test : Bool) → (slot.number == number) ≡ test
    → (length slots ≤ at → IsAbsent slots number) → suc (length slots) ≤ cond (not test) (1 + at) 0
    → IsAbsent (slot ∷ slots) number
absent_step number slot slots at true is next low = absurd (omega (arith, low))
absent_step number slot slots at false is next low =
    let rest = next (omega (arith, low)) in
    record {
      client = ap (λ test. cond test slot.client (client_in number slots)) is ∙ rest.client;
      put = λ client.
          ap (λ test. cond test (record { number = number; client = client } ∷ slots) (slot ∷ put_client number client slots)) is
          ∙ ap (λ list. slot ∷ list) (rest.put client);
    }

absent_is : (number : ℕ) (slots : List Slot) → length slots ≤ position_or_len (λ (slot : Slot). slot.number == number) slots
    → IsAbsent slots number
absent_is number [] low = record { client = refl; put = λ client. refl }
absent_is number (slot ∷ slots) low =
    absent_step number slot slots (position_or_len (λ (slot : Slot). slot.number == number) slots) (slot.number == number) refl
    (absent_is number slots) low

match_step : (slots : List Slot) (number at : ℕ) (test : Bool) → nat_lt at (length slots) ≡ test
    → (at < length slots → IsPlace slots number at) → (length slots ≤ at → IsAbsent slots number)
    → MatchOption (cond test (Some at) None) (IsAbsent slots number) (IsPlace slots number)
match_step slots number at true is place absent = place (ltb-true at (length slots) is)
match_step slots number at false is place absent = absent (ltb-false at (length slots) is)

pub place_tells : (number : ℕ) (slots : List Slot)
    → MatchOption (position (λ (slot : Slot). slot.number == number) slots) (IsAbsent slots number) (IsPlace slots number)
place_tells number slots =
    let at = position_or_len (λ (slot : Slot). slot.number == number) slots in
    match_step slots number at (nat_lt at (length slots)) refl (place_is number slots) (absent_is number slots)

-- ---- put twice

put_step : (number : ℕ) (client before : Client) (slot : Slot) (slots put : List Slot) (test : Bool)
    → (slot.number == number) ≡ test → put_client number client put ≡ put_client number client slots
    → put_client number client (cond test (record { number = number; client = before } ∷ slots) (slot ∷ put))
    ≡ cond test (record { number = number; client = client } ∷ slots) (slot ∷ put_client number client slots)
put_step number client before slot slots put true is next =
    ap (λ test. cond test (record { number = number; client = client } ∷ slots)
    (record { number = number; client = before } ∷ put_client number client slots)) (eq-eqb number number refl)
put_step number client before slot slots put false is next =
    ap (λ test. cond test (record { number = number; client = client } ∷ put) (slot ∷ put_client number client put)) is
    ∙ ap (λ list. slot ∷ list) next

pub put_twice : (number : ℕ) (client before : Client) (slots : List Slot)
    → put_client number client (put_client number before slots) ≡ put_client number client slots
put_twice number client before [] =
    ap (λ test. cond test (record { number = number; client = client } ∷ [])
    (record { number = number; client = before } ∷ record { number = number; client = client } ∷ []))
    (eq-eqb number number refl)
put_twice number client before (slot ∷ slots) =
    put_step number client before slot slots (put_client number before slots) (slot.number == number) refl
    (put_twice number client before slots)

-- a client whose place is written anew, to be put back changed
pub put_after : (number at : ℕ) (slots : List Slot) (client before : Client) (own : ℕ) → own ≡ number
    → IsPlace slots number at
    → put_client number client (set slots at (record { number = own; client = before })) ≡ put_client number client slots
put_after number at slots client before own same place =
    ap (λ own. put_client number client (set slots at (record { number = own; client = before }))) same
    ∙ (ap (put_client number client) (sym (place.put before)) ∙ put_twice number client before slots)
