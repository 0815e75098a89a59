-- Results.
use Rattle.std.proofs.Common.{◌≡◌, ℕ, ◌+◌, ◌<◌, Bool, true, false, not, cond, ◌&&◌, ◌||◌, List, [], ◌∷◌, ◌++◌, ◌⊎◌, inl}
use Rattle.std.proofs.Common.{inr, length, take, drop, Option, Some, None, refl, sym, ap, ◌∙◌, append_assoc, arith}
use Rattle.std.specs.Prelude.{◌==◌, nat_le, nat_lt, is_some, codes, position}
use Rattle.std.specs.List.{list_all, list_any}
use Rattle.std.specs.Char.{is_ascii_digit}
use Rattle.std.proofs.lemmas.Bool.{and_parts, and_from, or_cases, leb-true, le-leb, lt-ltb, eqb-true, ne_eqb}
use Rattle.std.proofs.lemmas.Bool.{not_from_false, false_from_ne_true}
use Rattle.std.proofs.lemmas.List.Folds.{list_all-append}
use Rattle.cynara_keys.specs.Text.{same_text, is_visible, is_word_byte}
use Rattle.cynara_keys.specs.BucketName.{is_bucket_name}
use Rattle.cynara_keys.specs.Metadata.{is_metadata}
use Rattle.cynara_keys.specs.PolicyResult.{Ruling, deny, none, bucket, allow, is_agent, may_carry}
use Rattle.cynara_keys.proofs.Order.{same_text-≡, ≡-same_text}
use Rattle.script_words.specs.Words.{◌>>=◌}
use Rattle.script_words.specs.Numbers.{number_of, number_that}
use Rattle.script_words.specs.WordForms.{bucket_at, ruling_at, bucket_result_at, agent_result_at, behind, carrying_at}
use Rattle.script_words.specs.WordForms.{result_at}
use Rattle.line_reasons.specs.parts.Texts.{begins, begins_one, is_behind, begins_behind, cut_at, by_cut}
use Rattle.line_reasons.specs.parts.Forms.{begins_bucket, begins_kind, begins_number, is_agent_pair, begins_agent}
use Rattle.line_reasons.specs.parts.Forms.{begins_result}
use Rattle.line_reasons.proofs.Fronts.{Fronts, Fronts-or, Fronts-same, is_dark}
use Rattle.line_reasons.proofs.TextFronts.{Fronts-texts, Fronts-behind, dark-one, dark-behind}
use Rattle.line_reasons.proofs.Cuts.{Cut, Fronts-cut, cut_at-first, cut_at-parts, cut_of_place, position-cut}
use Rattle.line_reasons.proofs.Runs.{dark_run, dark_all}
use Rattle.line_reasons.proofs.NameFronts.{Fronts-metadata, bucket_name_is, metadata_is, visible_dark}
use Rattle.line_reasons.proofs.NumberFronts.{Fronts-kind, number-dark, that-digits}
use Rattle.line_reasons.proofs.IdentFronts.{Fronts-bucket, bucket-dark}

-- ---- agents

module _ (kind : Bool) where
  metadata_behind : Fronts (λ metadata. kind && is_metadata metadata) (λ metadata. kind && is_metadata metadata)
  metadata_behind = record {
    rest_of = λ front is.
        let both = and_parts kind (is_metadata front) is in
        let more = Fronts-metadata.rest_of front both.1 in
        (more.0, and_from kind (is_metadata (front ++ more.0)) both.0 more.1);
    is_front = λ front rest is.
        let both = and_parts kind (is_metadata (front ++ rest)) is in
        and_from kind (is_metadata front) both.0 (Fronts-metadata.is_front front rest both.1);
  }

no_colon : (digits : List ℕ) → list_all is_ascii_digit digits ≡ true → list_all (λ byte. not (byte == 58)) digits ≡ true
no_colon [] is = refl
no_colon (digit ∷ digits) is =
    let both = and_parts (is_ascii_digit digit) (list_all is_ascii_digit digits) is in
    let high = leb-true digit 57 (and_parts (nat_le 48 digit) (nat_le digit 57) both.0).1 in
    and_from (not (digit == 58)) (list_all (λ byte. not (byte == 58)) digits)
    (not_from_false (digit == 58) (ne_eqb digit 58 (λ same. omega (arith, same, high)))) (no_colon digits both.1)

agent_on : (front : List ℕ) → cut_at 58 front ≡ None → begins_kind front ≡ true
    → (rest : List ℕ) × (by_cut (λ text. false) is_agent_pair (front ++ rest) (cut_at 58 (front ++ rest)) ≡ true)
agent_on front found is =
    let kind = Fronts-kind.rest_of front is in
    let text = front ++ kind.0 in
    let cut = cut_at-first 58 text [] (no_colon text (that-digits is_agent text kind.1)) 58 refl in
    let whole : front ++ (kind.0 ++ 58 ∷ []) ≡ text ++ 58 ∷ [] = sym (append_assoc front kind.0 (58 ∷ [])) in (
      kind.0 ++ 58 ∷ [],
      ap (λ line. by_cut (λ text. false) is_agent_pair line (cut_at 58 line)) whole
          ∙ ap (by_cut (λ text. false) is_agent_pair (text ++ 58 ∷ [])) cut
          ∙ and_from (is_some (number_that is_agent text)) (is_metadata []) kind.1 refl,
    )

pub Fronts-agent : Fronts (λ text. by_cut (λ text. false) is_agent_pair text (cut_at 58 text)) begins_agent
Fronts-agent =
    Fronts-cut 58 (λ text. false) begins_kind is_agent_pair is_agent_pair
    (λ kind. metadata_behind (is_some (number_that is_agent kind)))
    (λ front rest is. cc)
    (λ front more rest is. Fronts-kind.is_front front more
    (and_parts (is_some (number_that is_agent (front ++ more))) (is_metadata rest) is).0)
    agent_on

carries : (kind : ℕ) (metadata : List ℕ) → is_agent kind ≡ true → may_carry kind metadata ≡ true
carries kind metadata is =
    let range = and_parts (nat_le 2 kind) (nat_le kind 65533) is in
    let low = leb-true 2 kind range.0 in
    let high = leb-true kind 65533 range.1 in
    let empty = length metadata == 0 in
    ap (λ b. cond (b || (kind == 1 || kind == 65535)) empty (cond (kind == 65534) (is_bucket_name metadata) true))
    (ne_eqb kind 0 (λ same. omega (arith, same, low)))
    ∙ ap (λ b. cond (b || kind == 65535) empty (cond (kind == 65534) (is_bucket_name metadata) true))
    (ne_eqb kind 1 (λ same. omega (arith, same, low)))
    ∙ ap (λ b. cond b empty (cond (kind == 65534) (is_bucket_name metadata) true))
    (ne_eqb kind 65535 (λ same. omega (arith, same, high)))
    ∙ ap (λ b. cond b (is_bucket_name metadata) true) (ne_eqb kind 65534 (λ same. omega (arith, same, high)))

some_ruling : (b : Bool) (ruling : Ruling) → is_some (cond b (Some ruling) None) ≡ b
some_ruling true ruling = refl
some_ruling false ruling = refl

and_true : (b : Bool) → b && true ≡ b
and_true true = refl
and_true false = refl

ruled : (number : Option ℕ) (metadata : List ℕ)
    → is_some ((number >>= (λ number. cond (is_agent number) (Some number) None)) >>= (λ kind. ruling_at kind metadata))
    ≡ is_some (number >>= (λ number. cond (is_agent number) (Some number) None)) && is_metadata metadata
ruled None metadata = refl
ruled (Some number) metadata = by_case (is_agent number) refl where
  by_case : (agent : Bool) → is_agent number ≡ agent
      → is_some (cond agent (Some number) None >>= (λ kind. ruling_at kind metadata))
      ≡ is_some (cond agent (Some number) None) && is_metadata metadata
  by_case false is = refl
  by_case true is =
      some_ruling (is_metadata metadata && may_carry number metadata) (record { kind = number; metadata = metadata })
      ∙ ap (λ b. is_metadata metadata && b) (carries number metadata is) ∙ and_true (is_metadata metadata)

pub agent_is : (text : List ℕ)
    → is_some (agent_result_at text) ≡ by_cut (λ text. false) is_agent_pair text (cut_at 58 text)
unfolding agent_result_at
agent_is text =
    by_place (position (λ byte. byte == 58) text) ∙ ap (by_cut (λ text. false) is_agent_pair text) (sym (position-cut 58 text)) where
      by_place : (place : Option ℕ)
          → is_some (place >>= (λ colon. number_that is_agent (take colon text) >>= (λ kind. ruling_at kind (drop (colon + 1) text))))
          ≡ by_cut (λ text. false) is_agent_pair text (cut_of_place text place)
      by_place None = refl
      by_place (Some colon) = ruled (number_of (take colon text)) (drop (colon + 1) text)

-- ---- buckets

visible_byte : (byte : ℕ) → 32 < byte → byte < 127 → (byte ≡ 59 → ⊥) → is_visible byte ≡ true
visible_byte byte low high other =
    and_from (nat_lt 32 byte) (nat_lt byte 127 && not (byte == 59)) (lt-ltb 32 byte low)
    (and_from (nat_lt byte 127) (not (byte == 59)) (lt-ltb byte 127 high)
    (not_from_false (byte == 59) (ne_eqb byte 59 other)))

range_visible : (low high byte : ℕ) → 32 < low → high < 127 → (59 < low) ⊎ (high < 59)
    → nat_le low byte && nat_le byte high ≡ true → is_visible byte ≡ true
range_visible low high byte above below apart is =
    let both = and_parts (nat_le low byte) (nat_le byte high) is in
    let from = leb-true low byte both.0 in
    let to = leb-true byte high both.1 in
    visible_byte byte (omega (arith, above, from)) (omega (arith, below, to))
    (λ same. elim apart as (λ _. ⊥) [ inl more ↦ absurd (omega (arith, more, from, same)) | inr less ↦ absurd (omega (arith, less, to, same)) ])

word_byte-visible : (byte : ℕ) → is_word_byte byte ≡ true → is_visible byte ≡ true
word_byte-visible byte is =
    let small = nat_le 97 byte && nat_le byte 122 in
    let large = nat_le 65 byte && nat_le byte 90 in
    let digit = nat_le 48 byte && nat_le byte 57 in
    let marks = byte == 95 || byte == 45 in
    elim (or_cases (small || large) (digit || marks) is) as (λ _. is_visible byte ≡ true) [
      | inl letter ↦ (elim (or_cases small large letter) as (λ _. is_visible byte ≡ true) [
        | inl h ↦ range_visible 97 122 byte (omega arith) (omega arith) (inl (omega arith)) h
        | inr h ↦ range_visible 65 90 byte (omega arith) (omega arith) (inl (omega arith)) h
      ])
      | inr other ↦ (elim (or_cases digit marks other) as (λ _. is_visible byte ≡ true) [
        | inl h ↦ range_visible 48 57 byte (omega arith) (omega arith) (inr (omega arith)) h
        | inr h ↦ (elim (or_cases (byte == 95) (byte == 45) h) as (λ _. is_visible byte ≡ true) [
          | inl same ↦ ap is_visible (eqb-true byte 95 same)
          | inr same ↦ ap is_visible (eqb-true byte 45 same)
        ])
      ])
    ]

visible_all : (text : List ℕ) → list_all is_word_byte text ≡ true → list_all is_visible text ≡ true
visible_all [] is = refl
visible_all (byte ∷ bytes) is =
    let both = and_parts (is_word_byte byte) (list_all is_word_byte bytes) is in
    and_from (is_visible byte) (list_all is_visible bytes) (word_byte-visible byte both.0) (visible_all bytes both.1)

metadata_of-bucket : (name : List ℕ) → is_bucket_name name ≡ true → is_metadata name ≡ true
metadata_of-bucket name is =
    let run = and_parts (nat_le (length name) 64) (list_all is_word_byte name) (sym (bucket_name_is name) ∙ is) in
    metadata_is name ∙ and_from (nat_le (length name) 255) (list_all is_visible name)
    (le-leb (length name) 255 (omega (arith, leb-true (length name) 64 run.0))) (visible_all name run.1)

ruled_bucket : (name : List ℕ) → is_bucket_name name ≡ true → is_some (ruling_at bucket name) ≡ true
ruled_bucket name is =
    some_ruling (is_metadata name && may_carry bucket name) (record { kind = bucket; metadata = name })
    ∙ and_from (is_metadata name) (may_carry bucket name) (metadata_of-bucket name is) is

bucket_result_is : (text : List ℕ) → is_some (bucket_result_at text) ≡ is_some (bucket_at text)
unfolding bucket_result_at
bucket_result_is text = by_root (same_text text (codes ".")) where
  by_name : (name : Bool) → is_bucket_name text && not (length text == 0) ≡ name
      → is_some (cond name (Some text) None >>= (λ name. ruling_at bucket name)) ≡ is_some (cond name (Some text) None)
  by_name true is = ruled_bucket text (and_parts (is_bucket_name text) (not (length text == 0)) is).0
  by_name false is = refl

  by_root : (root : Bool)
      → is_some (cond {A = Option (List ℕ)} root (Some [])
      (cond (is_bucket_name text && not (length text == 0)) (Some text) None) >>= (λ name. ruling_at bucket name))
      ≡ is_some (cond {A = Option (List ℕ)} root (Some [])
      (cond (is_bucket_name text && not (length text == 0)) (Some text) None))
  by_root true = refl
  by_root false = by_name (is_bucket_name text && not (length text == 0)) refl

-- ---- results

turned : (a b : List ℕ) → same_text a b ≡ same_text b a
turned a b = by_case (same_text a b) refl where
  by_case : (same : Bool) → same_text a b ≡ same → same_text a b ≡ same_text b a
  by_case true is = is ∙ sym (≡-same_text b a (sym (same_text-≡ a b is)))
  by_case false is = is ∙ sym (false_from_ne_true (same_text b a) (λ yes.
      let wrong = ≡-same_text a b (sym (same_text-≡ b a yes)) in
      let none : true ≡ false = sym wrong ∙ is in cc))

-- a text does not begin in both ways
apart : (text : List ℕ) → same_text (take 7 text) (codes "bucket:") ≡ true
    → same_text (take 6 text) (codes "agent:") ≡ false
apart [] is = refl
apart (byte ∷ bytes) is =
    let first = and_parts (byte == 98) (same_text (take 6 bytes) (codes "ucket:")) is in
    ap (λ b. b && same_text (take 5 bytes) (codes "gent:"))
    (ne_eqb byte 97 (λ same. omega (arith, same, eqb-true byte 98 first.0)))

carrying_is : (p q : Bool) (name agent : List ℕ) → (p ≡ true → q ≡ false)
    → is_some (carrying_at (cond p (Some name) None) (cond q (Some agent) None))
    ≡ p && is_some (bucket_result_at name) || q && is_some (agent_result_at agent)
carrying_is true true name agent one = (let wrong = one refl in cc)
carrying_is true false name agent one = sym (or_false (is_some (bucket_result_at name))) where
  or_false : (b : Bool) → b || false ≡ b
  or_false true = refl
  or_false false = refl
carrying_is false true name agent one = refl
carrying_is false false name agent one = refl

chosen : (d n a : Bool) (x y z : Ruling) (rest : Option Ruling)
    → is_some (cond d (Some x) (cond n (Some y) (cond a (Some z) rest))) ≡ (d || (n || (a || false))) || is_some rest
chosen true n a x y z rest = refl
chosen false true a x y z rest = refl
chosen false false true x y z rest = refl
chosen false false false x y z rest = refl

pub is_agent_text : List ℕ → Bool
is_agent_text text = by_cut (λ text. false) is_agent_pair text (cut_at 58 text)

plain : ℕ → Ruling
plain kind = record { kind = kind; metadata = [] }

pub result_is : (text : List ℕ) → is_some (result_at text)
    ≡ list_any (same_text text) (codes "deny" ∷ codes "none" ∷ codes "allow" ∷ [])
    || (is_behind (codes "bucket:") (λ text. is_some (bucket_at text)) text
    || is_behind (codes "agent:") (λ text. by_cut (λ text. false) is_agent_pair text (cut_at 58 text)) text)
unfolding result_at plain
result_is text =
    let first = same_text (take 7 text) (codes "bucket:") in
    let second = same_text (take 6 text) (codes "agent:") in
    chosen (same_text text (codes "deny")) (same_text text (codes "none")) (same_text text (codes "allow")) (plain deny)
    (plain none) (plain allow)
    (carrying_at (behind (codes "bucket:") text) (behind (codes "agent:") text))
    ∙ ap (λ b. list_any (same_text text) (codes "deny" ∷ codes "none" ∷ codes "allow" ∷ []) || b)
    (carrying_is first second (drop 7 text) (drop 6 text) (apart text)
    ∙ ap (λ b. b && is_some (bucket_result_at (drop 7 text)) || second && is_some (agent_result_at (drop 6 text)))
    (turned (take 7 text) (codes "bucket:"))
    ∙ ap (λ b. begins (codes "bucket:") text && b || second && is_some (agent_result_at (drop 6 text)))
    (bucket_result_is (drop 7 text))
    ∙ ap (λ b. is_behind (codes "bucket:") (λ text. is_some (bucket_at text)) text || b && is_some
    (agent_result_at (drop 6 text))) (turned (take 6 text) (codes "agent:"))
    ∙ ap (λ b. is_behind (codes "bucket:") (λ text. is_some (bucket_at text)) text || begins (codes "agent:") text && b)
    (agent_is (drop 6 text)))

pub Fronts-result : Fronts (λ text. is_some (result_at text)) begins_result
Fronts-result =
    let agent = λ (text : List ℕ). by_cut (λ text. false) is_agent_pair text (cut_at 58 text) in
    let fixed = codes "deny" ∷ codes "none" ∷ codes "allow" ∷ [] in
    Fronts-same (λ text. is_some (result_at text))
    (λ text. list_any (same_text text) fixed ||
    (is_behind (codes "bucket:") (λ text. is_some (bucket_at text)) text || is_behind (codes "agent:") agent text))
    begins_result result_is
    (Fronts-or (λ text. list_any (same_text text) fixed)
    (λ text. is_behind (codes "bucket:") (λ text. is_some (bucket_at text)) text || is_behind
    (codes "agent:") agent text)
    (begins_one fixed) (λ front. begins_behind (codes "bucket:") begins_bucket front || begins_behind
    (codes "agent:") begins_agent front)
    (Fronts-texts fixed)
    (Fronts-or (is_behind (codes "bucket:") (λ text. is_some (bucket_at text))) (is_behind (codes "agent:") agent)
    (begins_behind (codes "bucket:") begins_bucket) (begins_behind (codes "agent:") begins_agent)
    (Fronts-behind (codes "bucket:") (λ text. is_some (bucket_at text)) begins_bucket Fronts-bucket refl)
    (Fronts-behind (codes "agent:") agent begins_agent Fronts-agent refl)))

agent-dark : (front : List ℕ) → begins_agent front ≡ true → list_all is_dark front ≡ true
agent-dark front is = by_case (cut_at 58 front) refl is where
  by_case : (cut : Cut) → cut_at 58 front ≡ cut → by_cut begins_kind is_agent_pair front cut ≡ true
      → list_all is_dark front ≡ true
  by_case None found is = number-dark 65533 front (and_parts (begins_number 65533 front) _ is).0
  by_case (Some cut) found is =
      let both = and_parts (is_some (number_that is_agent cut.0)) (is_metadata cut.1) is in
      let metadata = sym (metadata_is cut.1) ∙ both.1 in
      ap (list_all is_dark) (cut_at-parts 58 front cut found)
      ∙ list_all-append is_dark cut.0 (58 ∷ cut.1)
      ∙ and_from (list_all is_dark cut.0) (list_all is_dark (58 ∷ cut.1))
      (dark_all is_ascii_digit (λ byte is. lt-ltb 32 byte (omega (arith, leb-true 48 byte (and_parts (nat_le 48 byte) (nat_le byte 57) is).0))) cut.0
      (that-digits is_agent cut.0 both.0))
      (dark_run 255 is_visible visible_dark cut.1 metadata)

pub result-dark : (front : List ℕ) → begins_result front ≡ true → list_all is_dark front ≡ true
result-dark front is =
    let fixed = codes "deny" ∷ codes "none" ∷ codes "allow" ∷ [] in
    elim (or_cases (begins_one fixed front) (begins_behind (codes "bucket:") begins_bucket front || begins_behind (codes "agent:") begins_agent front) is) as (λ _. list_all is_dark front ≡ true) [
      | inl one ↦ dark-one fixed front refl one
      | inr more ↦ (elim (or_cases (begins_behind (codes "bucket:") begins_bucket front) (begins_behind (codes "agent:") begins_agent front) more) as (λ _. list_all is_dark front ≡ true) [
        | inl h ↦ dark-behind (codes "bucket:") begins_bucket refl bucket-dark front h
        | inr h ↦ dark-behind (codes "agent:") begins_agent refl agent-dark front h
      ])
    ]
