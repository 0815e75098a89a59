-- The lines of the file of a bucket, written and read.
use Rattle.std.proofs.Common.{◌≡◌, ℕ, ◌+◌, ◌≤◌, Bool, true, false, cond, ◌&&◌, ltb, List, [], ◌∷◌, ◌++◌, length, Option}
use Rattle.std.proofs.Common.{Some, None, is_none, Ok, refl, sym, ap, subst, ◌∙◌, arith, length-append}
use Rattle.std.specs.List.{AllByRecursion}
use Rattle.std.specs.List.Sorted.{IsStrictlySortedBy}
use Rattle.std.proofs.lemmas.Bool.{and_parts}
use Rattle.cynara_keys.specs.Text.{same_text}
use Rattle.cynara_keys.specs.Name.{name_fault}
use Rattle.cynara_keys.specs.Field.{wildcard, field_text, field_of}
use Rattle.cynara_keys.specs.PolicyResult.{Ruling}
use Rattle.cynara_keys.specs.declared.fields.Field.{Field}
use Rattle.cynara_keys.specs.declared.fields.Field.TheVariants.{Any, Exact}
use Rattle.cynara_keys.specs.Key.{Key}
use Rattle.cynara_keys.specs.declared.keys.Policy.{Policy}
use Rattle.cynara_keys.proofs.Order.{same_text-≡}
use Rattle.cynara_keys.proofs.Spelling.{field_of-name, field_fault-name}
use Rattle.bucket_store.specs.Database.{Heading}
use Rattle.bucket_store.specs.Order.{policy_cmp}
use Rattle.bucket_store.specs.Refusal.{most_policies}
use Rattle.bucket_store.proofs.Lists.{All-weaker}
use Rattle.bucket_store.proofs.Sound.{policy_total}
use Rattle.text_lines.specs.Lines.{HasNoNewline}
use Rattle.set_text.specs.Lines.{joined, fields_of, rises_above}
use Rattle.set_text.specs.Buckets.{ruling_of, policy_line, bucket_text, is_field, key_of, key_in, policy_with}
use Rattle.set_text.specs.Buckets.{policy_of_fields, policy_of, has_target, policy_fits, policies_of}
use Rattle.set_text.specs.IsSpelt.{IsField, IsKey, IsPolicy}
use Rattle.set_text.specs.Numbers.{kind_text}
use Rattle.set_text.proofs.Refusing.{some-if}
use Rattle.set_text.proofs.round.Fields.{IsPlain, fields_of-joined, newline-joined, joined-fields_of}
use Rattle.set_text.proofs.round.Plain.{none-is, plain-is_name, plain-wildcard, plain-kind, plain-metadata}
use Rattle.set_text.proofs.round.Results.{ruling-read, ruling-spelled}
use Rattle.set_text.proofs.round.Values.{fit-both, fit-first, fit-second, fit-each, each-fit, rises-fit, fit-rises}
use Rattle.set_text.proofs.round.Values.{few-fit, fit-few, values-read, values-spelled}

-- ---- a field

pub plain-field : (field : Field) → IsField field → IsPlain (field_text field)
plain-field Any is = plain-wildcard
plain-field (Exact name) is = plain-is_name name is

field-is : (field : Field) → IsField field → is_field (field_text field) ≡ true
field-is Any is = refl
field-is (Exact name) is = ap is_none (field_fault-name name (none-is (name_fault name) is))

pub field-read : (field : Field) → IsField field → field_of (field_text field) ≡ field
field-read Any is = refl
field-read (Exact name) is = field_of-name name (none-is (name_fault name) is)

field-spelled : (text : List ℕ) → is_field text ≡ true → (field_text (field_of text) ≡ text) × IsField (field_of text)
field-spelled text h = by (same_text text wildcard) refl h
  where
    by : (same : Bool) → same_text text wildcard ≡ same → is_none (cond same None (name_fault text)) ≡ true
        → (field_text (cond same Any (Exact text)) ≡ text) × IsField (cond same Any (Exact text))
    by true is h = (sym (same_text-≡ text wildcard is), tt)
    by false is h = (refl, h)

-- ---- a key

key-read : (key : Key) → IsKey key
    → key_in (field_text key.client) (field_text key.user) (field_text key.privilege) ≡ Some key
key-read key is =
    let client = field_text key.client in
    let user = field_text key.user in
    let privilege = field_text key.privilege in
    let made = key_of client user privilege in
    ap (λ b. cond (b && (is_field user && is_field privilege)) (Some made) None) (field-is key.client is.client)
    ∙ ap (λ b. cond (b && is_field privilege) (Some made) None) (field-is key.user is.user)
    ∙ ap (λ b. cond b (Some made) None) (field-is key.privilege is.privilege)
    ∙ (λ i. Some (record {
      client = field-read key.client is.client i;
      user = field-read key.user is.user i;
      privilege = field-read key.privilege is.privilege i;
    }))

-- the key that three fields spell
record IsKeyOf (client user privilege : List ℕ) (key : Key) : Type 0 where
  same_client : field_text key.client ≡ client
  same_user : field_text key.user ≡ user
  same_privilege : field_text key.privilege ≡ privilege
  sound : IsKey key

key-spelled : (client user privilege : List ℕ) (key : Key) → key_in client user privilege ≡ Some key
    → IsKeyOf client user privilege key
key-spelled client user privilege key h =
    let made = key_of client user privilege in
    let parts = some-if (is_field client && (is_field user && is_field privilege)) made key h in
    let first = and_parts (is_field client) (is_field user && is_field privilege) parts.0 in
    let others = and_parts (is_field user) (is_field privilege) first.1 in
    let in_client = field-spelled client first.0 in
    let in_user = field-spelled user others.0 in
    let in_privilege = field-spelled privilege others.1 in
    subst (IsKeyOf client user privilege) parts.1 (record {
      same_client = in_client.0;
      same_user = in_user.0;
      same_privilege = in_privilege.0;
      sound = record { client = in_client.1; user = in_user.1; privilege = in_privilege.1 };
    })

-- ---- a line

module _ (policy : Policy) (is : IsPolicy policy) where
  abbrev others : List (List ℕ)
  others =
      field_text policy.key.user
      ∷ field_text policy.key.privilege ∷ kind_text policy.result.kind ∷ policy.result.metadata ∷ []

  others-plain : AllByRecursion IsPlain others
  others-plain = (
    plain-field policy.key.user is.key.user,
    (
      plain-field policy.key.privilege is.key.privilege,
      (
        plain-kind policy.result.kind (omega (arith, is.result.kind)),
        (plain-metadata policy.result.metadata is.result.metadata, tt),
      ),
    ),
  )

  pub policy-newline : HasNoNewline (policy_line policy)
  policy-newline = newline-joined (field_text policy.key.client) others
      (plain-field policy.key.client is.key.client) others-plain

  pub policy-read : policy_of (policy_line policy) ≡ Some policy
  policy-read =
      ap policy_of_fields
      (fields_of-joined (field_text policy.key.client) others
      (plain-field policy.key.client is.key.client) others-plain)
      ∙ ap (λ key. policy_with key (ruling_of (kind_text policy.result.kind) policy.result.metadata))
      (key-read policy.key is.key)
      ∙ ap (policy_with (Some policy.key)) (ruling-read policy.result is.result)

-- a policy was made of a key and a result
record AreParts (key : Option Key) (ruling : Option Ruling) (policy : Policy) : Type 0 where
  same_key : key ≡ Some policy.key
  same_ruling : ruling ≡ Some policy.result

parts-of : (key : Option Key) (ruling : Option Ruling) (policy : Policy) → policy_with key ruling ≡ Some policy
    → AreParts key ruling policy
parts-of None ruling policy h = cc
parts-of (Some key) None policy h = cc
parts-of (Some key) (Some ruling) policy h =
    let made : Policy = record { key = key; result = ruling } in
    let same : made ≡ policy = cc in
    subst (AreParts (Some key) (Some ruling)) same (record { same_key = refl; same_ruling = refl })

pub policy-spelled : (line : List ℕ) (policy : Policy) → policy_of line ≡ Some policy
    → (policy_line policy ≡ line) × IsPolicy policy
policy-spelled line policy h = by (fields_of line) refl h
  where
    by : (fields : List (List ℕ)) → fields_of line ≡ fields → policy_of_fields fields ≡ Some policy
        → (policy_line policy ≡ line) × IsPolicy policy
    by (client ∷ user ∷ privilege ∷ kind ∷ metadata ∷ []) are h =
        let parts = parts-of (key_in client user privilege) (ruling_of kind metadata) policy h in
        let key = key-spelled client user privilege policy.key parts.same_key in
        let result = ruling-spelled kind metadata policy.result parts.same_ruling in (
          (λ i. joined (key.same_client i ∷ key.same_user i ∷ key.same_privilege i
              ∷ result.same_kind i ∷ result.same_metadata i ∷ []))
              ∙ joined-fields_of line (client ∷ user ∷ privilege ∷ kind ∷ metadata ∷ []) are,
          record { key = key.sound; result = result.sound },
        )
    by other are h = cc

-- ---- the file

module _ (headings : List Heading) (earlier : ℕ) where
  counted : (before : List Policy) (policy : Policy)
      → earlier + length (before ++ policy ∷ []) ≡ earlier + length before + 1
  counted before policy = omega (arith, length-append before (policy ∷ []))

  -- what the policies of a bucket keep, with so many in the buckets before
  pub record AreInBucket (policies : List Policy) : Type 0 where
    pub all : AllByRecursion IsPolicy policies
    pub rise : IsStrictlySortedBy policy_cmp policies
    pub targets : AllByRecursion (λ policy. has_target headings policy ≡ true) policies
    pub few : earlier + length policies ≤ most_policies

  -- the policies of a bucket are what their lines give
  pub policies-read : (policies : List Policy) → AreInBucket policies
      → policies_of headings earlier (bucket_text policies) ≡ Ok policies
  policies-read policies are =
      values-read (policy_fits headings earlier) policy_of policy_line policies
      (All-weaker IsPolicy
      (λ policy. HasNoNewline (policy_line policy) × (policy_of (policy_line policy) ≡ Some policy))
      (λ policy is. (policy-newline policy is, policy-read policy is)) policies are.all)
      (fit-both (rises_above policy_cmp)
      (λ before policy. has_target headings policy && ltb (earlier + length before) most_policies) [] policies
      (rises-fit policy_cmp policies are.rise)
      (fit-both (λ before policy. has_target headings policy)
      (λ before policy. ltb (earlier + length before) most_policies) [] policies
      (fit-each (has_target headings) [] policies are.targets)
      (few-fit (λ before. earlier + length before) counted most_policies [] policies (omega (arith, are.few)))))

  -- what the lines give has these lines, and keeps the rules
  pub policies-spelled : earlier ≤ most_policies → (text : List ℕ) (policies : List Policy)
      → policies_of headings earlier text ≡ Ok policies
      → (text ≡ bucket_text policies) × AreInBucket policies
  policies-spelled small text policies h =
      let told = values-spelled
      (policy_fits headings earlier) policy_of policy_line IsPolicy policy-spelled text policies h in
      let rules = fit-second (rises_above policy_cmp)
      (λ before policy. has_target headings policy && ltb
      (earlier + length before) most_policies) [] policies told.fit in (
        told.same,
        record {
          all = told.all;
          rise = fit-rises policy_cmp policy_total policies (fit-first (rises_above policy_cmp)
              (λ before policy. has_target headings policy && ltb
              (earlier + length before) most_policies) [] policies told.fit);
          targets = each-fit (has_target headings) [] policies
              (fit-first (λ before policy. has_target headings policy)
              (λ before policy. ltb (earlier + length before) most_policies)
              [] policies rules);
          few = let most = fit-few (λ before. earlier + length before) counted most_policies [] policies
              (omega (arith, small))
              (fit-second (λ before policy. has_target headings policy)
              (λ before policy. ltb (earlier + length before) most_policies)
              [] policies rules) in omega (arith, most);
        },
      )
