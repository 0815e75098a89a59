-- Names that may stand in a list are file names, and so are those of their backups.
use Rattle.std.proofs.Common.{◌≡◌, ◌≤◌, ◌<◌, ℕ, suc, ◌+◌, true, false, not, ◌==◌, List, [], ◌∷◌, ◌++◌, length, Some, None, cond, refl, ◌∙◌, ap, arith, length-append}
use Rattle.std.specs.Prelude.{nat_lt}
use Rattle.std.proofs.lemmas.Bool.{and_parts, and_from, le-ltb, leb-true, not-true, ne_eqb, eqb-false}
use Rattle.std.specs.List.{list_all, position, position_or_len}
use Rattle.desk_ports.specs.FileName.{is_file_name_byte, bad_byte_at, IsFileName}
use Rattle.desk_ports.specs.declared.file_names.FileNameRefusal.TheVariants.{Empty, TooLong}
use Rattle.guard_files.specs.OwnName.{backup_name, is_listable}

no_bad_place : (bytes : List ℕ) → list_all is_file_name_byte bytes ≡ true
    → position_or_len (λ byte. not (is_file_name_byte byte)) bytes ≡ length bytes
no_bad_place [] all = refl
no_bad_place (byte ∷ bytes) all =
    let both = and_parts _ _ all in
    let rest = no_bad_place bytes both.1 in
    let one : 1 + position_or_len (λ byte. not (is_file_name_byte byte)) bytes ≡ suc (length bytes) = omega (arith, rest) in
    ap (λ good. cond (not (not good)) (1 + position_or_len (λ byte. not (is_file_name_byte byte)) bytes) 0) both.0 ∙ one

no_bad_byte : (bytes : List ℕ) → list_all is_file_name_byte bytes ≡ true
    → position (λ byte. not (is_file_name_byte byte)) bytes ≡ None
no_bad_byte bytes all =
    let place = position_or_len (λ byte. not (is_file_name_byte byte)) bytes in
    let past : length bytes ≤ place = omega (arith, no_bad_place bytes all) in
    ap (λ test. cond test (Some place) None) (le-ltb place (length bytes) past)

pub file_name : (bytes : List ℕ) → 0 < length bytes → length bytes ≤ 255 → list_all is_file_name_byte bytes ≡ true
    → IsFileName bytes
file_name bytes some most all =
    let bad = position (λ byte. not (is_file_name_byte byte)) bytes in
    let not_empty : (length bytes == 0) ≡ false = ne_eqb (length bytes) 0 (λ none. omega (arith, none)) in
    ap (λ test. cond test (Some Empty) (cond (nat_lt 255 (length bytes)) (Some TooLong) (bad_byte_at bad))) not_empty
    ∙ ap (λ test. cond test (Some TooLong) (bad_byte_at bad)) (le-ltb 255 (length bytes) most)
    ∙ ap bad_byte_at (no_bad_byte bytes all)

all-append : (first second : List ℕ) → list_all is_file_name_byte first ≡ true
    → list_all is_file_name_byte second ≡ true
    → list_all is_file_name_byte (first ++ second) ≡ true
all-append [] second all more = more
all-append (byte ∷ first) second all more =
    let both = and_parts _ _ all in and_from _ _ both.0 (all-append first second both.1 more)

-- the parts of the test
pub record FileNameOf (name : List ℕ) : Type 0 where
  pub some : 0 < length name
  pub most : length name ≤ 254
  pub bytes : list_all is_file_name_byte name ≡ true

pub listable_file : (name : List ℕ) → is_listable name ≡ true → FileNameOf name
unfolding is_listable
listable_file name is =
    let both = and_parts _ _ is in
    let formed = and_parts _ _ both.0 in
    let long = and_parts _ _ formed.0 in
    let most = leb-true (length name) 254 long.1 in
    let some = eqb-false (length name) 0 (not-true _ long.0) in
    record { some = omega arith; most = most; bytes = formed.1 }

pub IsFileName-listable : (name : List ℕ) → is_listable name ≡ true → IsFileName name
IsFileName-listable name is =
    let of = listable_file name is in file_name name of.some (omega (arith, of.most)) of.bytes

pub IsFileName-backup : (name : List ℕ) → is_listable name ≡ true → IsFileName (backup_name name)
IsFileName-backup name is =
    let of = listable_file name is in
    let long = length-append name (126 ∷ []) in
    file_name (backup_name name) (omega (arith, long)) (omega (arith, long, of.most)) (all-append name (126 ∷ []) of.bytes refl)
