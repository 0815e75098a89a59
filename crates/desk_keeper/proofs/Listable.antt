-- The files of a policy state may stand in the list of a store.
use Rattle.std.proofs.Common.{◌≡◌, ℕ, ◌≤◌, ◌-◌, ◌&&◌, Bool, true, false, not, cond, ltb, eqb, List, [], ◌∷◌, length}
use Rattle.std.proofs.Common.{position, take, Option, Some, None, refl, ap, sym, ◌∙◌, arith, true≢false}
use Rattle.std.proofs.lemmas.Bool.{ltb-false, le-leb, ne_eqb, and_parts, not-false, not_from_false}
use Rattle.std.proofs.Math.Bool.{and-false}
use Rattle.std.proofs.lemmas.Bool.Decides.{nat_tests, Decides-eqb}
use Rattle.std.proofs.lemmas.List.Folds.{list_all-append}
use Rattle.std.proofs.lemmas.Slice.Eq.{ends_is}
use Rattle.std.specs.List.{list_all}
use Rattle.cynara_keys.specs.Text.{is_word_byte}
use Rattle.cynara_keys.specs.BucketName.{bucket_name_fault, bad_byte}
use Rattle.cynara_keys.specs.declared.bucket_names.BucketNameRefusal.TheVariants.{TooLong as NameTooLong}
use Rattle.app_registry.specs.Ident.{is_ident_byte, begins_with_mark, byte_fault, ident_fault}
use Rattle.app_registry.specs.declared.idents.IdentRefusal.TheVariants.{Empty as IdentEmpty, TooLong as IdentTooLong}
use Rattle.app_registry.proofs.Texts.{NonePass, NonePass-weaker, none_from_position}
use Rattle.desk_ports.specs.FileName.{is_file_name_byte}
use Rattle.guard_files.specs.OwnName.{is_backup, is_own, is_primary, is_desk_name, is_listable}
use Rattle.set_text.specs.FileNames.{bucket_file, load_file}

pub and_true : (a b : Bool) → a ≡ true → b ≡ true → (a && b) ≡ true
and_true true b one two = two
and_true false b one two = one

-- a byte of a file name that is no tilde
abbrev stands : ℕ → Bool
stands byte = is_file_name_byte byte && not (eqb byte 126)

all-stand : (text : List ℕ) → NonePass (λ byte. not (stands byte)) text → list_all stands text ≡ true
all-stand [] none = refl
all-stand (byte ∷ text) none = and_true _ _ (not-false (stands byte) none.0) (all-stand text none.1)

all-name : (text : List ℕ) → NonePass (λ byte. not (stands byte)) text → list_all is_file_name_byte text ≡ true
all-name [] none = refl
all-name (byte ∷ text) none =
    and_true _ _ (and_parts (is_file_name_byte byte) (not (eqb byte 126)) (not-false (stands byte) none.0)).0
    (all-name text none.1)

no-tilde : (name : List ℕ) → NonePass (λ byte. not (stands byte)) name → is_backup name ≡ false
unfolding is_backup
no-tilde name none = by_case (is_backup name) refl
  where
    by_case : (r : Bool) → is_backup name ≡ r → is_backup name ≡ false
    by_case false is = is
    by_case true is =
        let ends = (ends_is Decides-eqb name (126 ∷ []) (is_backup name) refl).0 is in
        absurd (true≢false (sym (all-stand name none) ∙ ap (list_all stands) ends
        ∙ list_all-append stands (take (length name - 1) name) (126 ∷ [])
        ∙ and-false (list_all stands (take (length name - 1) name))))

-- a byte in front of such a text
stands-word : (byte : ℕ) → not (is_word_byte byte) ≡ false → not (stands byte) ≡ false
stands-word byte h = grind (arith, nat_tests)

stands-ident : (byte : ℕ) → not (is_ident_byte byte) ≡ false → not (stands byte) ≡ false
stands-ident byte h = grind (arith, nat_tests)

bucket-parts : (b : Bool) (at : Option ℕ) → cond b (Some NameTooLong) (bad_byte at) ≡ None → (b ≡ false) × (at ≡ None)
bucket-parts true at h = cc
bucket-parts false None h = (refl, refl)
bucket-parts false (Some at) h = cc

ident-parts : (a b c : Bool) (at : Option ℕ)
    → cond a (Some IdentEmpty) (cond b (Some IdentTooLong) (byte_fault (cond c (Some 0) at))) ≡ None
    → (b ≡ false) × (at ≡ None)
ident-parts true b c at h = cc
ident-parts false true c at h = cc
ident-parts false false true at h = cc
ident-parts false false false None h = (refl, refl)
ident-parts false false false (Some at) h = cc

-- the file of a bucket
pub listable-bucket : (name : List ℕ) → bucket_name_fault name ≡ None → is_listable (bucket_file name) ≡ true
unfolding is_listable is_own is_primary is_desk_name
listable-bucket name sound =
    let parts = bucket-parts (ltb 64 (length name)) (position (λ byte. not (is_word_byte byte)) name) sound in
    let short : length name ≤ 64 = ltb-false 64 (length name) parts.0 in
    let bytes : NonePass (λ byte. not (stands byte)) (bucket_file name) = (
      refl,
      NonePass-weaker (λ byte. not (is_word_byte byte)) (λ byte. not (stands byte)) stands-word name
          (none_from_position (λ byte. not (is_word_byte byte)) name parts.1),
    ) in
    and_true _ _ (and_true _ _ (and_true _ _ (not_from_false _ (ne_eqb _ 0 (λ none. omega (arith, short))))
    (le-leb (length (bucket_file name)) 254 (omega (arith, short)))) (all-name (bucket_file name) bytes))
    (and_true _ _ refl (and_true _ _ (not_from_false _ (no-tilde (bucket_file name) bytes)) refl))

-- the file of a package
pub listable-load : (name : List ℕ) → ident_fault name ≡ None → is_listable (load_file name) ≡ true
unfolding is_listable is_own is_primary is_desk_name
listable-load name sound =
    let parts = ident-parts (eqb (length name) 0) (ltb 100 (length name)) (begins_with_mark name)
    (position (λ byte. not (is_ident_byte byte)) name) sound in
    let short : length name ≤ 100 = ltb-false 100 (length name) parts.0 in
    let bytes : NonePass (λ byte. not (stands byte)) (load_file name) = (
      refl,
      (
        refl,
        NonePass-weaker (λ byte. not (is_ident_byte byte)) (λ byte. not (stands byte)) stands-ident name
            (none_from_position (λ byte. not (is_ident_byte byte)) name parts.1),
      ),
    ) in
    and_true _ _ (and_true _ _ (and_true _ _ (not_from_false _ (ne_eqb _ 0 (λ none. omega (arith, short))))
    (le-leb (length (load_file name)) 254 (omega (arith, short)))) (all-name (load_file name) bytes))
    (and_true _ _ refl (and_true _ _ (not_from_false _ (no-tilde (load_file name) bytes)) refl))
