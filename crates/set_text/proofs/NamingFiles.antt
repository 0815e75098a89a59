-- The names of the files of buckets and packages are file names.
use Rattle.std.proofs.Common.{◌≡◌, ℕ, ◌≤◌, Bool, true, false, not, cond, ltb, eqb, List, length, position, Option, Some}
use Rattle.std.proofs.Common.{None, refl, ap, ◌∙◌, arith}
use Rattle.std.proofs.lemmas.Bool.{ltb-false, le-ltb, ne_eqb}
use Rattle.std.proofs.lemmas.Bool.Decides.{nat_tests}
use Rattle.cynara_keys.specs.Text.{is_word_byte}
use Rattle.cynara_keys.specs.BucketName.{bucket_name_fault, bad_byte}
use Rattle.cynara_keys.specs.declared.bucket_names.BucketNameRefusal.TheVariants.{TooLong as NameTooLong}
use Rattle.app_registry.specs.Ident.{is_ident_byte, begins_with_mark, byte_fault, ident_fault}
use Rattle.app_registry.specs.declared.idents.IdentRefusal.TheVariants.{Empty as IdentEmpty, TooLong as IdentTooLong}
use Rattle.app_registry.proofs.Texts.{NonePass, NonePass-weaker, position-none, none_from_position}
use Rattle.desk_ports.specs.FileName.{is_file_name_byte, bad_byte_at, IsFileName}
use Rattle.desk_ports.specs.declared.file_names.FileNameRefusal.TheVariants.{Empty, TooLong}
use Rattle.set_text.specs.FileNames.{bucket_file, load_file}

file_name-none : (text : List ℕ) → eqb (length text) 0 ≡ false → ltb 255 (length text) ≡ false
    → NonePass (λ byte. not (is_file_name_byte byte)) text → IsFileName text
file_name-none text some short known =
    let rest = λ (long : Bool). cond long (Some TooLong)
    (bad_byte_at (position (λ byte. not (is_file_name_byte byte)) text)) in
    ap (λ empty. cond empty (Some Empty) (rest (ltb 255 (length text)))) some
    ∙ ap rest short ∙ ap bad_byte_at (position-none (λ byte. not (is_file_name_byte byte)) text known)

word_in_file_name : (byte : ℕ) → not (is_word_byte byte) ≡ false → not (is_file_name_byte byte) ≡ false
word_in_file_name byte h = grind (arith, nat_tests)

ident_in_file_name : (byte : ℕ) → not (is_ident_byte byte) ≡ false → not (is_file_name_byte byte) ≡ false
ident_in_file_name byte h = grind (arith, nat_tests)

bucket-parts : (b : Bool) (at : Option ℕ) → cond b (Some NameTooLong) (bad_byte at) ≡ None → (b ≡ false) × (at ≡ None)
bucket-parts true at h = cc
bucket-parts false None h = (refl, refl)
bucket-parts false (Some at) h = cc

pub bucket_file-is : (name : List ℕ) → bucket_name_fault name ≡ None → IsFileName (bucket_file name)
bucket_file-is name sound =
    let parts = bucket-parts (ltb 64 (length name)) (position (λ byte. not (is_word_byte byte)) name) sound in
    let short : length name ≤ 64 = ltb-false 64 (length name) parts.0 in
    file_name-none (bucket_file name) (ne_eqb (length (bucket_file name)) 0 (λ none. omega arith))
    (le-ltb 255 (length (bucket_file name)) (omega (arith, short))) (
      refl,
      NonePass-weaker (λ byte. not (is_word_byte byte)) (λ byte. not (is_file_name_byte byte)) word_in_file_name name
          (none_from_position (λ byte. not (is_word_byte byte)) name parts.1),
    )

ident-parts : (a b c : Bool) (at : Option ℕ)
    → cond a (Some IdentEmpty) (cond b (Some IdentTooLong) (byte_fault (cond c (Some 0) at))) ≡ None
    → (b ≡ false) × (at ≡ None)
ident-parts true b c at h = cc
ident-parts false true c at h = cc
ident-parts false false true at h = cc
ident-parts false false false None h = (refl, refl)
ident-parts false false false (Some at) h = cc

pub load_file-is : (name : List ℕ) → ident_fault name ≡ None → IsFileName (load_file name)
load_file-is name sound =
    let parts = ident-parts (eqb (length name) 0) (ltb 100 (length name)) (begins_with_mark name)
    (position (λ byte. not (is_ident_byte byte)) name) sound in
    let short : length name ≤ 100 = ltb-false 100 (length name) parts.0 in
    file_name-none (load_file name) (ne_eqb (length (load_file name)) 0 (λ none. omega arith))
    (le-ltb 255 (length (load_file name)) (omega (arith, short))) (
      refl,
      (
        refl,
        NonePass-weaker (λ byte. not (is_ident_byte byte))
            (λ byte. not (is_file_name_byte byte)) ident_in_file_name name
            (none_from_position (λ byte. not (is_ident_byte byte)) name parts.1),
      ),
    )
