-- Names of packages, authors and applications, and names of buckets.
use Rattle.std.proofs.Common.{◌≡◌, ℕ, Bool, true, false, not, cond, ◌&&◌, ◌||◌, List, [], ◌∷◌, ◌++◌, inl, inr, length}
use Rattle.std.proofs.Common.{Option, Some, None, refl, sym, ap, ◌∙◌, arith}
use Rattle.std.specs.Prelude.{◌==◌, nat_le, nat_lt, is_none, is_some, codes, position}
use Rattle.std.specs.List.{list_all}
use Rattle.std.proofs.lemmas.Bool.{and_parts, and_from, or_cases, or_left, or_right, leb-true, lt-ltb, eqb-true}
use Rattle.cynara_keys.specs.Text.{same_text, is_word_byte}
use Rattle.cynara_keys.specs.BucketName.{is_bucket_name}
use Rattle.cynara_keys.proofs.Order.{same_text-≡}
use Rattle.app_registry.specs.Ident.{is_ident_byte, begins_with_mark, byte_fault, ident_fault}
use Rattle.app_registry.specs.declared.idents.IdentRefusal.{IdentRefusal}
use Rattle.app_registry.specs.declared.idents.IdentRefusal.TheVariants.{Empty, TooLong}
use Rattle.script_words.specs.WordForms.{bucket_at, ident_at}
use Rattle.line_reasons.specs.parts.Texts.{is_run}
use Rattle.line_reasons.specs.parts.Forms.{begins_ident, begins_bucket}
use Rattle.line_reasons.proofs.Fronts.{Fronts, is_dark}
use Rattle.line_reasons.proofs.Runs.{short_position, Fronts-closed, as_it_is, run-front, dark_run, some_bytes}
use Rattle.line_reasons.proofs.NameFronts.{bucket_name_is}

-- a text that passes a test
pub tested : (b : Bool) (text : List ℕ) → is_some (cond b (Some text) None) ≡ b
tested true text = refl
tested false text = refl

-- ---- idents

ident_tests : (empty long mark : Bool) (bad : Option ℕ)
    → is_none (cond {A = Option IdentRefusal} empty (Some Empty)
    (cond {A = Option IdentRefusal} long (Some TooLong) (byte_fault (cond mark (Some 0) bad))))
    ≡ not empty && ((not long && is_none bad) && not mark)
ident_tests true long mark bad = refl
ident_tests false true mark bad = refl
ident_tests false false true (Some at) = refl
ident_tests false false true None = refl
ident_tests false false false (Some at) = refl
ident_tests false false false None = refl

pub ident_is : (text : List ℕ) → is_some (ident_at text) ≡ not (length text == 0) && begins_ident text
ident_is text =
    tested (is_none (ident_fault text)) text
    ∙ ident_tests (length text == 0) (nat_lt 100 (length text)) (begins_with_mark text)
    (position (λ byte. not (is_ident_byte byte)) text)
    ∙ ap (λ b. not (length text == 0) && (b && not (begins_with_mark text))) (short_position 100 is_ident_byte text)

ident_begins : (text : List ℕ) → is_some (ident_at text) ≡ true → begins_ident text ≡ true
ident_begins text is = (and_parts (not (length text == 0)) (begins_ident text) (sym (ident_is text) ∙ is)).1

front_of-mark : (front rest : List ℕ) → not (begins_with_mark (front ++ rest)) ≡ true
    → not (begins_with_mark front) ≡ true
front_of-mark [] rest is = refl
front_of-mark (byte ∷ front) rest is = is

ident_front : (front rest : List ℕ) → begins_ident (front ++ rest) ≡ true → begins_ident front ≡ true
ident_front front rest is =
    let both = and_parts (is_run 100 is_ident_byte (front ++ rest)) (not (begins_with_mark (front ++ rest))) is in
    and_from (is_run 100 is_ident_byte front) (not (begins_with_mark front))
    (run-front 100 is_ident_byte front rest both.0)
    (front_of-mark front rest both.1)

ident_on : (front : List ℕ) → begins_ident front ≡ true → (rest : List ℕ) × (is_some (ident_at (front ++ rest)) ≡ true)
ident_on [] is = (97 ∷ [], refl)
ident_on (byte ∷ bytes) is =
    as_it_is (λ text. is_some (ident_at text)) (λ _. true) (byte ∷ bytes)
    (ident_is (byte ∷ bytes) ∙ and_from (not (length (byte ∷ bytes) == 0)) (begins_ident (byte ∷ bytes))
    (some_bytes byte bytes) is)

pub Fronts-ident : Fronts (λ text. is_some (ident_at text)) begins_ident
Fronts-ident = Fronts-closed (λ text. is_some (ident_at text)) begins_ident ident_begins ident_front ident_on

pub word_byte-dark : (byte : ℕ) → is_word_byte byte ≡ true → is_dark byte ≡ true
word_byte-dark byte is =
    let small = nat_le 97 byte && nat_le byte 122 in
    let large = nat_le 65 byte && nat_le byte 90 in
    let digit = nat_le 48 byte && nat_le byte 57 in
    let marks = byte == 95 || byte == 45 in
    elim (or_cases (small || large) (digit || marks) is) as (λ _. is_dark byte ≡ true) [
      | inl letter ↦ (elim (or_cases small large letter) as (λ _. is_dark byte ≡ true) [
        | inl h ↦ lt-ltb 32 byte (omega (arith, leb-true 97 byte (and_parts (nat_le 97 byte) (nat_le byte 122) h).0))
        | inr h ↦ lt-ltb 32 byte (omega (arith, leb-true 65 byte (and_parts (nat_le 65 byte) (nat_le byte 90) h).0))
      ])
      | inr other ↦ (elim (or_cases digit marks other) as (λ _. is_dark byte ≡ true) [
        | inl h ↦ lt-ltb 32 byte (omega (arith, leb-true 48 byte (and_parts (nat_le 48 byte) (nat_le byte 57) h).0))
        | inr h ↦ (elim (or_cases (byte == 95) (byte == 45) h) as (λ _. is_dark byte ≡ true) [
          | inl same ↦ lt-ltb 32 byte (omega (arith, eqb-true byte 95 same))
          | inr same ↦ lt-ltb 32 byte (omega (arith, eqb-true byte 45 same))
        ])
      ])
    ]

ident_byte-dark : (byte : ℕ) → is_ident_byte byte ≡ true → is_dark byte ≡ true
ident_byte-dark byte is = elim (or_cases (is_word_byte byte) (byte == 46) is) as (λ _. is_dark byte ≡ true) [
  | inl word ↦ word_byte-dark byte word
  | inr same ↦ lt-ltb 32 byte (omega (arith, eqb-true byte 46 same))
]

pub ident-dark : (front : List ℕ) → begins_ident front ≡ true → list_all is_dark front ≡ true
ident-dark front is =
    dark_run 100 is_ident_byte ident_byte-dark front
    (and_parts (is_run 100 is_ident_byte front) (not (begins_with_mark front)) is).0

-- ---- buckets

bucket_tests : (root name : Bool) (text : List ℕ)
    → is_some (cond {A = Option (List ℕ)} root (Some []) (cond name (Some text) None)) ≡ root || name
bucket_tests true name text = refl
bucket_tests false true text = refl
bucket_tests false false text = refl

pub bucket_known : (text : List ℕ) → is_some (bucket_at text)
    ≡ same_text text (codes ".") || (is_bucket_name text && not (length text == 0))
bucket_known text = bucket_tests (same_text text (codes ".")) (is_bucket_name text && not (length text == 0)) text

pub bucket_is : (text : List ℕ) → is_some (bucket_at text)
    ≡ same_text text (codes ".") || (is_run 64 is_word_byte text && not (length text == 0))
bucket_is text =
    bucket_known text
    ∙ ap (λ b. same_text text (codes ".") || (b && not (length text == 0))) (bucket_name_is text)

bucket_front : (front rest : List ℕ) → is_some (bucket_at (front ++ rest)) ≡ true → begins_bucket front ≡ true
bucket_front front rest is =
    let text = front ++ rest in
    elim (or_cases (same_text text (codes ".")) (is_run 64 is_word_byte text && not (length text == 0)) (sym (bucket_is text) ∙ is)) as (λ _. begins_bucket front ≡ true) [
      | inl root ↦ of_root front (same_text-≡ text (codes ".") root)
      | inr name ↦ or_right (same_text front (codes ".")) (is_run 64 is_word_byte front)
          (run-front 64 is_word_byte front rest
          (and_parts (is_run 64 is_word_byte text) (not (length text == 0)) name).0)
    ] where
      of_root : (front : List ℕ) → front ++ rest ≡ 46 ∷ [] → begins_bucket front ≡ true
      of_root [] same = refl
      of_root (byte ∷ []) same =
          let first : byte ≡ 46 = cc in
          ap (λ byte. begins_bucket (byte ∷ [])) first
      of_root (byte ∷ next ∷ bytes) same =
          let none : next ∷ (bytes ++ rest) ≡ [] = cc in
          cc

bucket_on : (front : List ℕ) → begins_bucket front ≡ true → (rest : List ℕ)
    × (is_some (bucket_at (front ++ rest)) ≡ true)
bucket_on [] is = (97 ∷ [], refl)
bucket_on (byte ∷ bytes) is =
    let text = byte ∷ bytes in
    as_it_is (λ text. is_some (bucket_at text)) (λ _. true) text
    (bucket_is text ∙ elim (or_cases (same_text text (codes ".")) (is_run 64 is_word_byte text) is) as (λ _. same_text text (codes ".") || (is_run 64 is_word_byte text && not (length text == 0)) ≡ true) [
      | inl root ↦ or_left (same_text text (codes ".")) (is_run 64 is_word_byte text && not (length text == 0)) root
      | inr run ↦ or_right (same_text text (codes ".")) (is_run 64 is_word_byte text && not (length text == 0))
          (and_from (is_run 64 is_word_byte text) (not (length text == 0)) run (some_bytes byte bytes))
    ])

pub Fronts-bucket : Fronts (λ text. is_some (bucket_at text)) begins_bucket
Fronts-bucket = record { rest_of = bucket_on; is_front = bucket_front }

pub bucket-dark : (front : List ℕ) → begins_bucket front ≡ true → list_all is_dark front ≡ true
bucket-dark front is = elim (or_cases (same_text front (codes ".")) (is_run 64 is_word_byte front) is) as (λ _. list_all is_dark front ≡ true) [
  | inl root ↦ ap (list_all is_dark) (same_text-≡ front (codes ".") root)
  | inr run ↦ dark_run 64 is_word_byte word_byte-dark front run
]
