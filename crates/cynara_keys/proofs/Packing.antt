-- The texts that are packed into a block stand there at their places.
use Rattle.std.proofs.Common.{◌≡◌, ℕ, suc, ◌+◌, ◌-◌, List, ◌++◌, length, take, drop, None, ap, ◌∙◌, arith}
use Rattle.std.proofs.Math.Seq.{take-append_seam, drop-append-add}
use Rattle.std.proofs.Math.ListN.{length-append}
use Rattle.cynara_keys.specs.Field.{field_of, field_fault}
use Rattle.cynara_keys.specs.Key.{counted_text, packed_texts, packed}
use Rattle.cynara_keys.specs.parts.Packed.{client_in, user_in, privilege_in, key_in, IsPacked}
use Rattle.cynara_keys.proofs.Spelling.{field_text-field_of}

module _ (client user privilege : List ℕ) where
  abbrev block : List ℕ
  block = packed_texts client user privilege

  abbrev at_user : ℕ
  at_user = length client + 4

  abbrev at_privilege : ℕ
  at_privilege = length client + 4 + length user + 2

  client_is : client_in block at_user ≡ client
  client_is =
      let count : length client + 4 - 2 - 2 ≡ length client = omega arith in
      ap (λ n. take n (drop 2 block)) count ∙ take-append_seam client (counted_text user ++ counted_text privilege)

  behind_client : drop at_user block ≡ user ++ counted_text privilege
  behind_client =
      let place : length client + 4 ≡ suc (suc (length client + 2)) = omega arith in
      ap (λ n. drop n block) place ∙ drop-append-add client (counted_text user ++ counted_text privilege) 2

  user_is : user_in block at_user at_privilege ≡ user
  user_is =
      let count : length client + 4 + length user + 2 - 2 - (length client + 4) ≡ length user = omega arith in
      ap (λ n. take n (drop at_user block)) count ∙ ap (take (length user)) behind_client
      ∙ take-append_seam user (counted_text privilege)

  privilege_is : privilege_in block at_privilege ≡ privilege
  privilege_is =
      let place : length client + 4 + length user + 2 ≡ suc (suc (length client + suc (suc (length user + 2)))) = omega arith in
      ap (λ n. drop n block) place
      ∙ drop-append-add client (counted_text user ++ counted_text privilege) (suc (suc (length user + 2)))
      ∙ drop-append-add user (counted_text privilege) 2

  block_length : length block ≡ length client + 4 + length user + 2 + length privilege
  block_length =
      let last : length (user ++ counted_text privilege) ≡ length user + length (counted_text privilege) = length-append user (counted_text privilege) in
      let all : length (client ++ (counted_text user ++ counted_text privilege)) ≡ length client + length (counted_text user ++ counted_text privilege) = length-append client (counted_text user ++ counted_text privilege) in
      omega (arith, last, all)

  pub key_in-packed : key_in block at_user at_privilege
      ≡ record { client = field_of client; user = field_of user; privilege = field_of privilege }
  key_in-packed = λ i. record { client = field_of (client_is i); user = field_of (user_is i); privilege = field_of (privilege_is i) }

  pub IsPacked-texts : field_fault client ≡ None → field_fault user ≡ None → field_fault privilege ≡ None
      → IsPacked block at_user at_privilege
  IsPacked-texts one two three = record {
    begins = omega arith;
    rising = omega arith;
    within = omega (arith, block_length);
    client_fits = ap field_fault client_is ∙ one;
    user_fits = ap field_fault user_is ∙ two;
    privilege_fits = ap field_fault privilege_is ∙ three;
    packed = λ i. packed_texts (client_is i) (user_is i) (privilege_is i);
  }

-- the block is the packed key
pub packed-key_in : (block : List ℕ) (user privilege : ℕ) → IsPacked block user privilege
    → packed (key_in block user privilege) ≡ block
packed-key_in block user privilege is =
    (λ i. packed_texts (field_text-field_of (client_in block user) i) (field_text-field_of (user_in block user privilege) i)
    (field_text-field_of (privilege_in block privilege) i))
    ∙ is.packed
