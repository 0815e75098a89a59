-- What a filter asks of numbers is what it asks of the fields that have them.
use Rattle.std.proofs.Common.{◌≡◌, ℕ, ◌+◌, Bool, true, false, ◌||◌, ◌&&◌, cond, if◌then◌else◌, eqb, List, [], ◌∷◌, ◌++◌, Option, Some, None, refl, sym, ap, subst, ◌∙◌, true≢false, arith, append_assoc, length-append}
use Rattle.std.specs.List.{list_any, position_or_len, AllZip}
use Rattle.std.specs.Option.{option_map, unwrap_or}
use Rattle.lane_scan.specs.Rows.{Row, numbers_from}
use Rattle.lane_scan.specs.Asked.{is_wanted, selects}
use Rattle.cynara_keys.specs.Text.{same_text}
use Rattle.cynara_keys.specs.Field.{wildcard, field_of, field_admits}
use Rattle.cynara_keys.specs.Key.{filter_admits}
use Rattle.cynara_keys.specs.declared.fields.Field.{Field}
use Rattle.cynara_keys.specs.declared.fields.Field.TheVariants.{Any as AnyField, Exact as ExactField}
use Rattle.cynara_keys.specs.declared.fields.FilterField.{FilterField}
use Rattle.cynara_keys.specs.declared.fields.FilterField.TheVariants.{Every, Any, Exact}
use Rattle.cynara_keys.specs.declared.keys.Filter.{Filter}
use Rattle.cynara_keys.specs.declared.keys.Policy.{Policy}
use Rattle.cynara_keys.proofs.Order.{same_text-≡}
use Rattle.bucket_store.specs.parts.Numbering.{HasNumber, IsNext, found_number, wanted_number, IsAskedNumber, IsRow}
use Rattle.bucket_store.specs.parts.Rows.{PushedRow}
use Rattle.bucket_store.proofs.NameNumbering.{same_numbers, place-within, has-more}

-- ---- one place

module _ (names : List (List ℕ)) (text : List ℕ) (number : ℕ) (has : HasNumber names text number) where
  wild_number : same_text text wildcard ≡ true → number ≡ 0
  wild_number e = has.is ∙ ap (λ b. if b then 0 else position_or_len (same_text text) names + 1) e

  name_number : same_text text wildcard ≡ false → number ≡ position_or_len (same_text text) names + 1
  name_number e = has.is ∙ ap (λ b. if b then 0 else position_or_len (same_text text) names + 1) e

  name_known : same_text text wildcard ≡ false → list_any (same_text text) names ≡ true
  name_known e = sym (ap (λ b. b || list_any (same_text text) names) e) ∙ has.known

  -- 0 stands for the wildcard alone
  zero_admits : eqb number 0 ≡ field_admits Any (field_of text)
  zero_admits = by (same_text text wildcard) refl
    where
      by : (wild : Bool) → same_text text wildcard ≡ wild → eqb number 0 ≡ field_admits Any (field_of text)
      by true e =
          ap (λ n. eqb n 0) (wild_number e)
          ∙ sym (ap (λ b. field_admits Any (if b then AnyField else ExactField text)) e)
      by false e =
          ap (λ n. eqb n 0) (name_number e)
          ∙ (let above : eqb (position_or_len (same_text text) names + 1) 0 ≡ false = grind arith in above)
          ∙ sym (ap (λ b. field_admits Any (if b then AnyField else ExactField text)) e)

  -- the number of a name stands for that name
  name_admits : (name : List ℕ) → list_any (same_text name) names ≡ true
      → eqb number (position_or_len (same_text name) names + 1) ≡ field_admits (Exact name) (field_of text)
  name_admits name known = by (same_text text wildcard) refl
    where
      by : (wild : Bool) → same_text text wildcard ≡ wild
          → eqb number (position_or_len (same_text name) names + 1) ≡ field_admits (Exact name) (field_of text)
      by true e =
          ap (λ n. eqb n (position_or_len (same_text name) names + 1)) (wild_number e)
          ∙ (let below : eqb 0 (position_or_len (same_text name) names + 1) ≡ false = grind arith in below)
          ∙ sym (ap (λ b. field_admits (Exact name) (if b then AnyField else ExactField text)) e)
      by false e =
          ap (λ n. eqb n (position_or_len (same_text name) names + 1)) (name_number e)
          ∙ same_numbers names name text known (name_known e)
          ∙ sym (ap (λ b. field_admits (Exact name) (if b then AnyField else ExactField text)) e)

  -- a name that has no number is no field's
  unknown_admits : (name : List ℕ) → list_any (same_text name) names ≡ false → field_admits (Exact name) (field_of text) ≡ false
  unknown_admits name unknown = by (same_text text wildcard) refl
    where
      tested : (same : Bool) → same_text name text ≡ same → same_text text wildcard ≡ false → same ≡ false
      tested false e other = refl
      tested true e other =
          absurd (true≢false (sym (subst (λ t. list_any (same_text t) names ≡ true) (sym (same_text-≡ name text e)) (name_known other)) ∙ unknown))

      by : (wild : Bool) → same_text text wildcard ≡ wild → field_admits (Exact name) (field_of text) ≡ false
      by true e = ap (λ b. field_admits (Exact name) (if b then AnyField else ExactField text)) e
      by false e =
          ap (λ b. field_admits (Exact name) (if b then AnyField else ExactField text)) e
          ∙ tested (same_text name text) refl e

-- where a name was found
found-known : (names : List (List ℕ)) (name : List ℕ) (known : Bool) → list_any (same_text name) names ≡ known
    → found_number names name ≡ (if known then Some (position_or_len (same_text name) names + 1) else None)
found-known names name true e =
    ap (λ b. option_map (λ place. place + 1) (cond b (Some (position_or_len (same_text name) names)) None))
    (place-within (same_text name) names ∙ e)
found-known names name false e =
    ap (λ b. option_map (λ place. place + 1) (cond b (Some (position_or_len (same_text name) names)) None))
    (place-within (same_text name) names ∙ e)

some_is : {X : Type 0} {x y : X} → Some x ≡ Some y → x ≡ y
some_is {X} {x} {y} e = ap (λ o. unwrap_or o x) e

no_some : {X : Type 0} {x : X} → None ≡ Some x → ⊥
no_some e = cc

pub admits-wanted : (names : List (List ℕ)) (asked : FilterField) (field : Field) (number : ℕ) (want : Option ℕ)
    → wanted_number names asked ≡ Some want → IsAskedNumber names asked field number
    → is_wanted want number ≡ field_admits asked field
admits-wanted names Every field number want is has = ap (λ w. is_wanted w number) (sym (some_is is))
admits-wanted names Any field number want is has =
    ap (λ w. is_wanted w number) (sym (some_is is))
    ∙ zero_admits names has.text number has.has
    ∙ ap (field_admits Any) has.reads
admits-wanted names (Exact name) field number want is has = by (list_any (same_text name) names) refl
  where
    by : (known : Bool) → list_any (same_text name) names ≡ known → is_wanted want number ≡ field_admits (Exact name) field
    by true e =
        ap (λ w. is_wanted w number)
        (sym (some_is (sym (ap (option_map (λ n. Some n)) (found-known names name true e)) ∙ is)))
        ∙ name_admits names has.text number has.has name e
        ∙ ap (field_admits (Exact name)) has.reads
    by false e = absurd (no_some (sym (ap (option_map (λ n. Some n)) (found-known names name false e)) ∙ is))

pub admits-unknown : (names : List (List ℕ)) (asked : FilterField) (field : Field) (number : ℕ)
    → wanted_number names asked ≡ None → IsAskedNumber names asked field number → field_admits asked field ≡ false
admits-unknown names Every field number is has = absurd (no_some (sym is))
admits-unknown names Any field number is has = absurd (no_some (sym is))
admits-unknown names (Exact name) field number is has = by (list_any (same_text name) names) refl
  where
    by : (known : Bool) → list_any (same_text name) names ≡ known → field_admits (Exact name) field ≡ false
    by true e = absurd (no_some (sym is ∙ ap (option_map (λ n. Some n)) (found-known names name true e)))
    by false e = ap (field_admits (Exact name)) (sym has.reads) ∙ unknown_admits names has.text number has.has name e

pub asked-more : (names more : List (List ℕ)) (asked : FilterField) (field : Field) (number : ℕ)
    → IsAskedNumber names asked field number → IsAskedNumber (names ++ more) asked field number
asked-more names more Every field number has = tt
asked-more names more Any field number has =
    record { text = has.text; reads = has.reads; has = has-more names more has.text number has.has }
asked-more names more (Exact name) field number has =
    record { text = has.text; reads = has.reads; has = has-more names more has.text number has.has }

asked-next : (old new : List (List ℕ)) (asked : FilterField) (field : Field) (number : ℕ) → IsNext old new
    → IsAskedNumber old asked field number → IsAskedNumber new asked field number
asked-next old new asked field number next has =
    subst (λ names. IsAskedNumber names asked field number) (sym next.is) (asked-more old next.more asked field number has)

-- ---- whole rows

row-more : (names more : List (List ℕ)) (asked : Filter) (policy : Policy) (row : Row)
    → IsRow names asked policy row → IsRow (names ++ more) asked policy row
row-more names more asked policy row is = record {
  client = asked-more names more asked.client policy.key.client row.client is.client;
  user = asked-more names more asked.user policy.key.user row.user is.user;
  privilege = asked-more names more asked.privilege policy.key.privilege row.privilege is.privilege;
}

pub rows-more : (names more : List (List ℕ)) (asked : Filter) (policies : List Policy) (rows : List Row)
    → AllZip (IsRow names asked) policies rows → AllZip (IsRow (names ++ more) asked) policies rows
rows-more names more asked [] [] all = tt
rows-more names more asked [] (row ∷ rows) all = absurd all
rows-more names more asked (policy ∷ policies) [] all = absurd all
rows-more names more asked (policy ∷ policies) (row ∷ rows) all =
    (row-more names more asked policy row all.0, rows-more names more asked policies rows all.1)

-- a row that was put together number by number
pub row-pushed : (first second third last : List (List ℕ)) (asked : Filter) (policy : Policy) (old new : List Row)
    (client user privilege : ℕ) → IsNext first second → IsNext second third → IsNext third last
    → IsAskedNumber second asked.client policy.key.client client → IsAskedNumber third asked.user policy.key.user user
    → IsAskedNumber last asked.privilege policy.key.privilege privilege
    → new ≡ old ++ record { client = client; user = user; privilege = privilege } ∷ []
    → PushedRow first last asked policy old new
row-pushed first second third last asked policy old new client user privilege one two three c u p pushed = record {
  row = record { client = client; user = user; privilege = privilege };
  is_row = record {
    client =
        asked-next third last asked.client policy.key.client client three
        (asked-next second third asked.client policy.key.client client two c);
    user = asked-next third last asked.user policy.key.user user three u;
    privilege = p;
  };
  pushed = pushed;
  more = one.more ++ (two.more ++ three.more);
  names =
      three.is
      ∙ ap (λ names. names ++ three.more) (two.is ∙ ap (λ names. names ++ two.more) one.is)
      ∙ append_assoc (first ++ one.more) two.more three.more
      ∙ append_assoc first one.more (two.more ++ three.more);
  at_most_three = omega (
    arith,
    length-append one.more (two.more ++ three.more),
    length-append two.more three.more,
    one.at_most_one,
    two.at_most_one,
    three.at_most_one,
  );
}

pub rows-push : (names : List (List ℕ)) (asked : Filter) (policies : List Policy) (rows : List Row) (policy : Policy) (row : Row)
    → AllZip (IsRow names asked) policies rows → IsRow names asked policy row
    → AllZip (IsRow names asked) (policies ++ policy ∷ []) (rows ++ row ∷ [])
rows-push names asked [] [] policy row all is = (is, tt)
rows-push names asked [] (other ∷ rows) policy row all is = absurd all
rows-push names asked (first ∷ policies) [] policy row all is = absurd all
rows-push names asked (first ∷ policies) (other ∷ rows) policy row all is =
    (all.0, rows-push names asked policies rows policy row all.1 is)

-- one more policy and its row
pub rows-pushed : (old_names new_names : List (List ℕ)) (asked : Filter) (policies more : List Policy) (policy : Policy)
    (old new : List Row) → more ≡ policies ++ policy ∷ [] → PushedRow old_names new_names asked policy old new
    → AllZip (IsRow old_names asked) policies old → AllZip (IsRow new_names asked) more new
rows-pushed old_names new_names asked policies more policy old new is pushed all =
    subst (λ l. AllZip (IsRow new_names asked) l new) (sym is)
    (subst (λ l. AllZip (IsRow new_names asked) (policies ++ policy ∷ []) l) (sym pushed.pushed)
    (rows-push new_names asked policies old policy pushed.row
    (subst (λ names. AllZip (IsRow names asked) policies old) (sym pushed.names)
    (rows-more old_names pushed.more asked policies old all))
    pushed.is_row))

-- the rows that are selected are those of the policies that the filter admits
pub selected-numbers : (names : List (List ℕ)) (asked : Filter) (client user privilege : Option ℕ)
    → wanted_number names asked.client ≡ Some client → wanted_number names asked.user ≡ Some user
    → wanted_number names asked.privilege ≡ Some privilege
    → (first : ℕ) (policies : List Policy) (rows : List Row) → AllZip (IsRow names asked) policies rows
    → numbers_from first (selects (client ∷ user ∷ privilege ∷ [])) rows
    ≡ numbers_from first (λ (policy : Policy). filter_admits asked policy.key) policies
selected-numbers names asked client user privilege c u p first [] [] all = refl
selected-numbers names asked client user privilege c u p first [] (row ∷ rows) all = absurd all
selected-numbers names asked client user privilege c u p first (policy ∷ policies) [] all = absurd all
selected-numbers names asked client user privilege c u p first (policy ∷ policies) (row ∷ rows) all =
    let is = all.0 in
    let same : selects (client ∷ user ∷ privilege ∷ []) row ≡ filter_admits asked policy.key =
    λ i.
    admits-wanted names asked.client policy.key.client row.client client c is.client i
    && (admits-wanted names asked.user policy.key.user row.user user u is.user i
    && admits-wanted names asked.privilege policy.key.privilege row.privilege privilege p is.privilege i) in
    let rest = selected-numbers names asked client user privilege c u p (first + 1) policies rows all.1 in
    λ i. if same i then first ∷ rest i else rest i

-- ---- where one place admits nothing

and_none : (a b c : Bool) → (a ≡ false) → a && (b && c) ≡ false
and_none a b c e = ap (λ x. x && (b && c)) e

and_none_2 : (a b c : Bool) → (b ≡ false) → a && (b && c) ≡ false
and_none_2 true b c e = ap (λ x. x && c) e
and_none_2 false b c e = refl

and_none_3 : (a b c : Bool) → (c ≡ false) → a && (b && c) ≡ false
and_none_3 true true c e = e
and_none_3 true false c e = refl
and_none_3 false b c e = refl

none_admitted : (names : List (List ℕ)) (asked : Filter)
    → ((policy : Policy) (row : Row) → IsRow names asked policy row → filter_admits asked policy.key ≡ false)
    → (first : ℕ) (policies : List Policy) (rows : List Row) → AllZip (IsRow names asked) policies rows
    → [] ≡ numbers_from first (λ (policy : Policy). filter_admits asked policy.key) policies
none_admitted names asked none first [] rows all = refl
none_admitted names asked none first (policy ∷ policies) [] all = absurd all
none_admitted names asked none first (policy ∷ policies) (row ∷ rows) all =
    let test = λ (p : Policy). filter_admits asked p.key in
    none_admitted names asked none (first + 1) policies rows all.1
    ∙ sym (λ i. if none policy row all.0 i then first ∷ numbers_from (first + 1) test policies else numbers_from (first + 1) test policies)

module _ (names : List (List ℕ)) (asked : Filter) (policies : List Policy) (rows : List Row)
    (all : AllZip (IsRow names asked) policies rows) where
  pub no-client : wanted_number names asked.client ≡ None → [] ≡ numbers_from 0 (λ (policy : Policy). filter_admits asked policy.key) policies
  no-client is =
      none_admitted names asked
      (λ policy row has.
      and_none (field_admits asked.client policy.key.client) (field_admits asked.user policy.key.user)
      (field_admits asked.privilege policy.key.privilege)
      (admits-unknown names asked.client policy.key.client row.client is has.client))
      0 policies rows all

  pub no-user : wanted_number names asked.user ≡ None → [] ≡ numbers_from 0 (λ (policy : Policy). filter_admits asked policy.key) policies
  no-user is =
      none_admitted names asked
      (λ policy row has.
      and_none_2 (field_admits asked.client policy.key.client) (field_admits asked.user policy.key.user)
      (field_admits asked.privilege policy.key.privilege)
      (admits-unknown names asked.user policy.key.user row.user is has.user))
      0 policies rows all

  pub no-privilege : wanted_number names asked.privilege ≡ None
      → [] ≡ numbers_from 0 (λ (policy : Policy). filter_admits asked policy.key) policies
  no-privilege is =
      none_admitted names asked
      (λ policy row has.
      and_none_3 (field_admits asked.client policy.key.client) (field_admits asked.user policy.key.user)
      (field_admits asked.privilege policy.key.privilege)
      (admits-unknown names asked.privilege policy.key.privilege row.privilege is has.privilege))
      0 policies rows all
