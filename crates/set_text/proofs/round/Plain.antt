-- The texts of fields have no semicolon and no newline in them.
use Rattle.std.proofs.Common.{◌≡◌, ℕ, ◌<◌, ◌^◌, ◌+◌, Bool, true, false, not, cond, ltb, List, [], ◌∷◌, codes, decimal}
use Rattle.std.proofs.Common.{position, Option, Some, None, is_none, refl, arith}
use Rattle.std.specs.Fmt.{digits, digit_glyph}
use Rattle.std.specs.List.{AllByRecursion}
use Rattle.std.proofs.lemmas.Bool.Decides.{nat_tests}
use Rattle.cynara_keys.specs.Text.{is_visible, is_word_byte}
use Rattle.cynara_keys.specs.Name.{name_fault, is_name, bad_byte_or}
use Rattle.cynara_keys.specs.BucketName.{bucket_name_fault, is_bucket_name, bad_byte}
use Rattle.cynara_keys.specs.Metadata.{metadata_fault, is_metadata, bad_byte as bad_metadata_byte}
use Rattle.cynara_keys.specs.Field.{wildcard}
use Rattle.cynara_keys.specs.declared.names.NameRefusal.{NameRefusal}
use Rattle.cynara_keys.specs.declared.names.NameRefusal.TheVariants.{Empty as NameEmpty, TooLong as NameTooLong}
use Rattle.cynara_keys.specs.declared.bucket_names.BucketNameRefusal.TheVariants.{TooLong as BucketNameTooLong}
use Rattle.cynara_keys.specs.declared.metadata_texts.MetadataRefusal.TheVariants.{TooLong as MetadataTooLong}
use Rattle.app_registry.specs.Ident.{is_ident_byte, ident_fault}
use Rattle.app_registry.proofs.Texts.{NonePass, NonePass-weaker, none_from_position, name_fault-decimal, sound_ident}
use Rattle.bucket_store.proofs.Lists.{All-append}
use Rattle.text_lines.specs.Lines.{is_newline}
use Rattle.set_text.specs.Lines.{is_semicolon}
use Rattle.set_text.specs.Numbers.{kind_text}
use Rattle.set_text.specs.Registry.{is_ident}
use Rattle.set_text.proofs.Numbering.{hex_by}
use Rattle.set_text.proofs.round.Fields.{HasNoSemicolon, IsPlain}

pub none-is : {X : Type 0} (fault : Option X) → is_none fault ≡ true → fault ≡ None
none-is None h = refl
none-is (Some fault) h = cc

visible_semicolon : (byte : ℕ) → not (is_visible byte) ≡ false → is_semicolon byte ≡ false
visible_semicolon byte h = grind (arith, nat_tests)

visible_newline : (byte : ℕ) → not (is_visible byte) ≡ false → is_newline byte ≡ false
visible_newline byte h = grind (arith, nat_tests)

word_semicolon : (byte : ℕ) → not (is_word_byte byte) ≡ false → is_semicolon byte ≡ false
word_semicolon byte h = grind (arith, nat_tests)

word_newline : (byte : ℕ) → not (is_word_byte byte) ≡ false → is_newline byte ≡ false
word_newline byte h = grind (arith, nat_tests)

ident_semicolon : (byte : ℕ) → not (is_ident_byte byte) ≡ false → is_semicolon byte ≡ false
ident_semicolon byte h = grind (arith, nat_tests)

ident_newline : (byte : ℕ) → not (is_ident_byte byte) ≡ false → is_newline byte ≡ false
ident_newline byte h = grind (arith, nat_tests)

pub plain-visible : (text : List ℕ) → NonePass (λ byte. not (is_visible byte)) text → IsPlain text
plain-visible text visible = record {
  semicolon = NonePass-weaker (λ byte. not (is_visible byte)) is_semicolon visible_semicolon text visible;
  newline = NonePass-weaker (λ byte. not (is_visible byte)) is_newline visible_newline text visible;
}

-- ---- names

name-parts : (a b : Bool) (at : Option ℕ) (other : Option NameRefusal)
    → cond a (Some NameEmpty) (cond b (Some NameTooLong) (bad_byte_or at other)) ≡ None → at ≡ None
name-parts true b at other h = cc
name-parts false true at other h = cc
name-parts false false None other h = refl
name-parts false false (Some at) other h = cc

pub plain-name : (text : List ℕ) → name_fault text ≡ None → IsPlain text
plain-name text sound =
    plain-visible text
    (none_from_position (λ byte. not (is_visible byte)) text
    (name-parts _ _ (position (λ byte. not (is_visible byte)) text) _ sound))

pub plain-is_name : (text : List ℕ) → is_name text ≡ true → IsPlain text
plain-is_name text is = plain-name text (none-is (name_fault text) is)

bucket-parts : (b : Bool) (at : Option ℕ) → cond b (Some BucketNameTooLong) (bad_byte at) ≡ None → at ≡ None
bucket-parts true at h = cc
bucket-parts false None h = refl
bucket-parts false (Some at) h = cc

pub plain-bucket : (text : List ℕ) → is_bucket_name text ≡ true → IsPlain text
plain-bucket text is =
    let at = position (λ byte. not (is_word_byte byte)) text in
    let words = none_from_position (λ byte. not (is_word_byte byte)) text
    (bucket-parts _ at (none-is (bucket_name_fault text) is)) in
    record {
      semicolon = NonePass-weaker (λ byte. not (is_word_byte byte)) is_semicolon word_semicolon text words;
      newline = NonePass-weaker (λ byte. not (is_word_byte byte)) is_newline word_newline text words;
    }

metadata-parts : (b : Bool) (at : Option ℕ) → cond b (Some MetadataTooLong) (bad_metadata_byte at) ≡ None → at ≡ None
metadata-parts true at h = cc
metadata-parts false None h = refl
metadata-parts false (Some at) h = cc

pub plain-metadata : (text : List ℕ) → is_metadata text ≡ true → IsPlain text
plain-metadata text is =
    let at = position (λ byte. not (is_visible byte)) text in
    plain-visible text
    (none_from_position (λ byte. not (is_visible byte)) text (metadata-parts _ at (none-is (metadata_fault text) is)))

pub plain-ident : (text : List ℕ) → is_ident text ≡ true → IsPlain text
plain-ident text is =
    let sound = (sound_ident text (none-is (ident_fault text) is)).none_wrong in
    record {
      semicolon = NonePass-weaker (λ byte. not (is_ident_byte byte)) is_semicolon ident_semicolon text sound;
      newline = NonePass-weaker (λ byte. not (is_ident_byte byte)) is_newline ident_newline text sound;
    }

pub plain-none : IsPlain []
plain-none = record { semicolon = tt; newline = tt }

pub plain-wildcard : IsPlain wildcard
plain-wildcard = record { semicolon = (refl, tt); newline = (refl, tt) }

-- ---- numbers

pub plain-decimal : (number : ℕ) → number < 2 ^ 64 → IsPlain (decimal number)
plain-decimal number small = plain-name (decimal number) (name_fault-decimal number small)

glyph_semicolon : (few : Bool) (d : ℕ) → ltb d 10 ≡ few → is_semicolon (cond few (48 + d) (87 + d)) ≡ false
glyph_semicolon true d is = grind (arith, nat_tests)
glyph_semicolon false d is = grind (arith, nat_tests)

glyph_newline : (few : Bool) (d : ℕ) → is_newline (cond few (48 + d) (87 + d)) ≡ false
glyph_newline true d = grind (arith, nat_tests)
glyph_newline false d = grind (arith, nat_tests)

pub plain-kind : (kind : ℕ) → kind < 65536 → IsPlain (kind_text kind)
plain-kind kind small = record {
  semicolon = All-append (λ byte. is_semicolon byte ≡ false) (codes "0x") (digits 16 false kind) (refl, (refl, tt))
      (hex_by HasNoSemicolon (λ d low. (glyph_semicolon (ltb d 10) d refl, tt))
      (λ ds d low front. All-append (λ byte. is_semicolon byte ≡ false) ds (digit_glyph false d ∷ []) front
      (glyph_semicolon (ltb d 10) d refl, tt)) kind kind (omega arith) small);
  newline = All-append (λ byte. is_newline byte ≡ false) (codes "0x") (digits 16 false kind) (refl, (refl, tt))
      (hex_by (λ bytes. AllByRecursion (λ byte. is_newline byte ≡ false) bytes)
      (λ d low. (glyph_newline (ltb d 10) d, tt))
      (λ ds d low front. All-append (λ byte. is_newline byte ≡ false) ds (digit_glyph false d ∷ []) front
      (glyph_newline (ltb d 10) d, tt)) kind kind (omega arith) small);
}
