-- The laws of how texts, fields, keys and results compare, for this crate's comparisons and for the crates above.
use Rattle.std.proofs.Common.{◌≡◌, ℕ, true, List, sym}
use Rattle.std.specs.Cmp.{IsTotalOrder, both_tied}
use Rattle.std.specs.Cmp.Lexicographic.{texts_ties, bytes_decides}
use Rattle.std.specs.Ordering.{is_eq}
use Rattle.std.proofs.lemmas.Cmp.{nat_cmp_total, nat_list_cmp_total, on_total, then_total}
use Rattle.cynara_keys.specs.Text.{same_text, text_cmp}
use Rattle.cynara_keys.specs.Field.{field_text, field_cmp, same_field}
use Rattle.cynara_keys.specs.Key.{key_cmp, same_key}
use Rattle.cynara_keys.specs.PolicyResult.{Ruling, result_cmp}
use Rattle.cynara_keys.specs.declared.fields.Field.{Field}
use Rattle.cynara_keys.specs.Key.{Key}

-- ---- texts

pub same_text-≡ : (a b : List ℕ) → same_text a b ≡ true → a ≡ b
same_text-≡ a b = (bytes_decides a b).0

pub ≡-same_text : (a b : List ℕ) → a ≡ b → same_text a b ≡ true
≡-same_text a b = (bytes_decides a b).1

pub text_total : IsTotalOrder text_cmp
text_total = nat_list_cmp_total

pub text_cmp-equal : (a b : List ℕ) → is_eq (text_cmp a b) ≡ same_text a b
text_cmp-equal a b = sym (texts_ties a b)

-- ---- fields

pub field_total : IsTotalOrder field_cmp
field_total = on_total field_text text_total

pub field_cmp-equal : (a b : Field) → is_eq (field_cmp a b) ≡ same_field a b
field_cmp-equal a b = text_cmp-equal (field_text a) (field_text b)

-- ---- keys

pub key_total : IsTotalOrder key_cmp
key_total =
    then_total (on_total (λ (key : Key). key.client) field_total)
    (then_total (on_total (λ (key : Key). key.user) field_total) (on_total (λ (key : Key). key.privilege) field_total))

pub key_cmp-equal : (a b : Key) → is_eq (key_cmp a b) ≡ same_key a b
key_cmp-equal a b =
    let clients = sym (field_cmp-equal a.client b.client) in
    let users = sym (field_cmp-equal a.user b.user) in
    let privileges = sym (field_cmp-equal a.privilege b.privilege) in
    sym (both_tied _ _ _ _ clients (both_tied _ _ _ _ users privileges))

-- ---- results

pub result_total : IsTotalOrder result_cmp
result_total =
    then_total (on_total (λ (result : Ruling). result.kind) nat_cmp_total)
    (on_total (λ (result : Ruling). result.metadata) text_total)
