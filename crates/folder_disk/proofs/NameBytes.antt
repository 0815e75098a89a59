-- The bytes of a file name are ASCII, and so its name is a text.
use Rattle.std.proofs.Common.{◌≡◌, ◌≤◌, ◌<◌, ℕ, Bool, true, false, not, ◌==◌, List, length, get_or, Option, Some, None, cond, refl, arith}
use Rattle.std.specs.Prelude.{nat_lt}
use Rattle.std.specs.Str.{IsUtf8}
use Rattle.std.specs.List.{position, position_or_len}
use Rattle.std.proofs.lemmas.Bool.{ltb-false, ltb-true, not-false}
use Rattle.std.proofs.lemmas.List.{get_or_past}
use Rattle.std.proofs.lemmas.List.Sums.{fails_before_first}
use Rattle.std.proofs.lemmas.Str.{IsUtf8-from_ascii}
use Rattle.std.proofs.lemmas.Bool.Decides.{nat_tests}
use Rattle.desk_ports.specs.declared.file_names.FileNameRefusal.{FileNameRefusal}
use Rattle.desk_ports.specs.declared.file_names.FileNameRefusal.TheVariants.{Empty, TooLong}
use Rattle.desk_ports.specs.FileName.{is_file_name_byte, bad_byte_at, IsFileName}

no_fault : (test : Bool) (fault : FileNameRefusal) (rest : Option FileNameRefusal) → cond test (Some fault) rest ≡ None
    → rest ≡ None
no_fault true fault rest is = cc
no_fault false fault rest is = is

no_place : (test : Bool) (place : ℕ) → bad_byte_at (cond test (Some place) None) ≡ None → test ≡ false
no_place true place is = cc
no_place false place is = refl

small_byte : (byte : ℕ) → is_file_name_byte byte ≡ true → byte < 128
small_byte byte is = grind (arith, nat_tests)

pub name_byte : (name : List ℕ) → IsFileName name → (k : ℕ) → k < length name → get_or name k 0 < 128
name_byte name is k within =
    let bad = λ (byte : ℕ). not (is_file_name_byte byte) in
    let place = position_or_len bad name in
    let fault = bad_byte_at (position bad name) in
    let long = nat_lt 255 (length name) in
    let rest = no_fault (length name == 0) Empty (cond long (Some TooLong) fault) is in
    let good = no_place (nat_lt place (length name)) place (no_fault long TooLong fault rest) in
    let none : length name ≤ place = ltb-false place (length name) good in
    let byte = get_or name k 0 in
    small_byte byte (not-false (is_file_name_byte byte) (fails_before_first bad name k 0 (omega arith)))

ascii_at : (name : List ℕ) → IsFileName name → (k : ℕ) (test : Bool) → nat_lt k (length name) ≡ test → get_or name k 0 < 128
ascii_at name is k true within = name_byte name is k (ltb-true k (length name) within)
ascii_at name is k false past =
    let none : get_or name k 0 ≡ 0 = get_or_past name k 0 (ltb-false k (length name) past) in
    omega (arith, none)

pub name_is_text : (name : List ℕ) → IsFileName name → IsUtf8 name
name_is_text name is = IsUtf8-from_ascii name (λ k. ascii_at name is k (nat_lt k (length name)) refl)
