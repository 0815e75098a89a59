-- Names, names of buckets and metadata.
use Rattle.std.proofs.Common.{◌≡◌, ℕ, Bool, true, false, not, cond, ◌&&◌, ◌||◌, List, [], ◌∷◌, ◌++◌, length, Option}
use Rattle.std.proofs.Common.{Some, None, refl, sym, ap, ◌∙◌, arith}
use Rattle.std.specs.Prelude.{◌==◌, nat_le, nat_lt, is_none, position}
use Rattle.std.proofs.lemmas.Bool.{and_parts, and_from, not_from_false, ne_eqb}
use Rattle.cynara_keys.specs.Text.{is_visible, is_word_byte}
use Rattle.cynara_keys.specs.Name.{is_reserved, bad_byte_or, is_name, name_fault}
use Rattle.cynara_keys.specs.BucketName.{bad_byte as bad_bucket_byte, is_bucket_name}
use Rattle.cynara_keys.specs.Metadata.{bad_byte as bad_metadata_byte, is_metadata}
use Rattle.cynara_keys.specs.declared.names.NameRefusal.{NameRefusal}
use Rattle.cynara_keys.specs.declared.names.NameRefusal.TheVariants.{Empty, TooLong, Reserved}
use Rattle.cynara_keys.specs.declared.bucket_names.BucketNameRefusal.{BucketNameRefusal}
use Rattle.cynara_keys.specs.declared.bucket_names.BucketNameRefusal.TheVariants.{TooLong as TooLongBucket}
use Rattle.cynara_keys.specs.declared.metadata_texts.MetadataRefusal.{MetadataRefusal}
use Rattle.cynara_keys.specs.declared.metadata_texts.MetadataRefusal.TheVariants.{TooLong as TooLongMetadata}
use Rattle.line_reasons.specs.parts.Texts.{is_run}
use Rattle.line_reasons.specs.parts.Forms.{may_go_on}
use Rattle.line_reasons.proofs.Fronts.{Fronts, is_dark}
use Rattle.line_reasons.proofs.Runs.{short_position, Fronts-closed, as_it_is, run-front, some_bytes}

-- ---- what the bytes are

name_tests : (empty long : Bool) (bad : Option ℕ) (reserved : Bool)
    → is_none (cond {A = Option NameRefusal} empty (Some Empty)
    (cond {A = Option NameRefusal} long (Some TooLong) (bad_byte_or bad (cond reserved (Some Reserved) None))))
    ≡ not empty && ((not long && is_none bad) && not reserved)
name_tests true long bad reserved = refl
name_tests false true bad reserved = refl
name_tests false false (Some at) reserved = refl
name_tests false false None true = refl
name_tests false false None false = refl

pub name_is : (text : List ℕ) → is_name text
    ≡ not (length text == 0) && (is_run 255 is_visible text && not (is_reserved text))
name_is text =
    name_tests (length text == 0) (nat_lt 255 (length text)) (position (λ byte. not (is_visible byte)) text)
    (is_reserved text)
    ∙ ap (λ b. not (length text == 0) && (b && not (is_reserved text))) (short_position 255 is_visible text)

goes_on_tests : (empty long : Bool) (bad : Option ℕ) (reserved : Bool)
    → may_go_on (cond {A = Option NameRefusal} empty (Some Empty)
    (cond {A = Option NameRefusal} long (Some TooLong) (bad_byte_or bad (cond reserved (Some Reserved) None))))
    ≡ empty || (not long && is_none bad)
goes_on_tests true long bad reserved = refl
goes_on_tests false true bad reserved = refl
goes_on_tests false false (Some at) reserved = refl
goes_on_tests false false None true = refl
goes_on_tests false false None false = refl

pub name_goes_on : (text : List ℕ) → is_run 255 is_visible text ≡ may_go_on (name_fault text)
name_goes_on [] = refl
name_goes_on (byte ∷ bytes) =
    let text = byte ∷ bytes in
    let long = nat_lt 255 (length text) in
    let bad = position (λ byte. not (is_visible byte)) text in
    sym (goes_on_tests (length text == 0) long bad (is_reserved text)
    ∙ ap (λ empty. empty || (not long && is_none bad)) (ne_eqb (length (byte ∷ bytes)) 0 (λ same. omega (arith, same)))
    ∙ short_position 255 is_visible text)

bucket_tests : (long : Bool) (bad : Option ℕ)
    → is_none (cond {A = Option BucketNameRefusal} long (Some TooLongBucket) (bad_bucket_byte bad))
    ≡ not long && is_none bad
bucket_tests true bad = refl
bucket_tests false (Some at) = refl
bucket_tests false None = refl

pub bucket_name_is : (text : List ℕ) → is_bucket_name text ≡ is_run 64 is_word_byte text
bucket_name_is text =
    bucket_tests (nat_lt 64 (length text)) (position (λ byte. not (is_word_byte byte)) text)
    ∙ short_position 64 is_word_byte text

metadata_tests : (long : Bool) (bad : Option ℕ)
    → is_none (cond {A = Option MetadataRefusal} long (Some TooLongMetadata) (bad_metadata_byte bad))
    ≡ not long && is_none bad
metadata_tests true bad = refl
metadata_tests false (Some at) = refl
metadata_tests false None = refl

pub metadata_is : (text : List ℕ) → is_metadata text ≡ is_run 255 is_visible text
metadata_is text =
    metadata_tests (nat_lt 255 (length text)) (position (λ byte. not (is_visible byte)) text)
    ∙ short_position 255 is_visible text

-- ---- names

pub name_run : (text : List ℕ) → is_name text ≡ true → is_run 255 is_visible text ≡ true
name_run text is =
    let some = and_parts (not (length text == 0)) (is_run 255 is_visible text && not (is_reserved text))
    (sym (name_is text) ∙ is) in
    (and_parts (is_run 255 is_visible text) (not (is_reserved text)) some.1).0

pub name_from : (text : List ℕ) → not (length text == 0) ≡ true → is_run 255 is_visible text ≡ true
    → is_reserved text ≡ false
    → is_name text ≡ true
name_from text some run free =
    name_is text ∙ and_from (not (length text == 0)) (is_run 255 is_visible text && not (is_reserved text)) some
    (and_from (is_run 255 is_visible text) (not (is_reserved text)) run (not_from_false (is_reserved text) free))

pub name_on : (front : List ℕ) → is_run 255 is_visible front ≡ true → (rest : List ℕ) × (is_name (front ++ rest) ≡ true)
name_on [] run = (97 ∷ [], refl)
name_on (byte ∷ []) run =
    let both = and_parts (nat_le 1 255) (is_visible byte && true) run in
    (97 ∷ [], name_from (byte ∷ 97 ∷ []) refl both.1 refl)
name_on (byte ∷ next ∷ bytes) run =
    as_it_is is_name (λ _. true) (byte ∷ next ∷ bytes)
    (name_from (byte ∷ next ∷ bytes) (some_bytes byte (next ∷ bytes)) run refl)

pub Fronts-name : Fronts is_name (is_run 255 is_visible)
Fronts-name = Fronts-closed is_name (is_run 255 is_visible) name_run (run-front 255 is_visible) name_on

pub visible_dark : (byte : ℕ) → is_visible byte ≡ true → is_dark byte ≡ true
visible_dark byte is = (and_parts (nat_lt 32 byte) (nat_lt byte 127 && not (byte == 59)) is).0

pub Fronts-metadata : Fronts is_metadata is_metadata
Fronts-metadata =
    Fronts-closed is_metadata is_metadata (λ text is. is)
    (λ front rest is. metadata_is front ∙ run-front 255 is_visible front rest (sym (metadata_is (front ++ rest)) ∙ is))
    (as_it_is is_metadata is_metadata)
