-- The texts of names and keys are short enough for a field.
use Rattle.std.proofs.Common.{◌≡◌, ℕ, ◌^◌, ◌<◌, Bool, true, false, cond, ltb, eqb, List, length, Option, Some, None}
use Rattle.std.proofs.Common.{refl, arith}
use Rattle.std.proofs.lemmas.Bool.{ltb-false}
use Rattle.cynara_keys.specs.Name.{name_fault}
use Rattle.cynara_keys.specs.BucketName.{bucket_name_fault}
use Rattle.cynara_keys.specs.Metadata.{metadata_fault}
use Rattle.app_registry.specs.Ident.{ident_fault}
use Rattle.desk_ports.specs.FileName.{file_name_fault}

none_of : {X : Type 0} (b : Bool) (x : X) (o : Option X) → cond b (Some x) o ≡ None → (b ≡ false) × (o ≡ None)
none_of true x o none = absurd cc
none_of false x o none = (refl, none)

pub name_short : (bytes : List ℕ) → name_fault bytes ≡ None → length bytes < 2 ^ 16
name_short bytes none =
    let first = none_of (eqb (length bytes) 0) _ _ none in
    let second = none_of (ltb 255 (length bytes)) _ _ first.1 in
    omega (arith, ltb-false 255 (length bytes) second.0)

pub bucket_name_short : (bytes : List ℕ) → bucket_name_fault bytes ≡ None → length bytes < 2 ^ 16
bucket_name_short bytes none =
    let first = none_of (ltb 64 (length bytes)) _ _ none in
    omega (arith, ltb-false 64 (length bytes) first.0)

pub metadata_short : (bytes : List ℕ) → metadata_fault bytes ≡ None → length bytes < 2 ^ 16
metadata_short bytes none =
    let first = none_of (ltb 255 (length bytes)) _ _ none in
    omega (arith, ltb-false 255 (length bytes) first.0)

pub ident_short : (bytes : List ℕ) → ident_fault bytes ≡ None → length bytes < 2 ^ 16
ident_short bytes none =
    let first = none_of (eqb (length bytes) 0) _ _ none in
    let second = none_of (ltb 100 (length bytes)) _ _ first.1 in
    omega (arith, ltb-false 100 (length bytes) second.0)

pub file_name_short : (bytes : List ℕ) → file_name_fault bytes ≡ None → length bytes < 2 ^ 16
file_name_short bytes none =
    let first = none_of (eqb (length bytes) 0) _ _ none in
    let second = none_of (ltb 255 (length bytes)) _ _ first.1 in
    omega (arith, ltb-false 255 (length bytes) second.0)
