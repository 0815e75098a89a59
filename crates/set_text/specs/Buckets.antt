-- The file `buckets`, which has a line for each bucket, and the file of each bucket, which has a line for each policy.
use Rattle.std.specs.Prelude.{ℕ, ◌+◌, Bool, not, ◌&&◌, ◌||◌, ◌==◌, nat_lt, if◌then◌else◌}
use Rattle.std.specs.Prelude.{List, [], ◌∷◌, length, Option, Some, None, is_none, Result}
use Rattle.std.specs.Option.{option_map}
use Rattle.std.specs.List.{list_any}
use Rattle.cynara_keys.specs.Text.{same_text}
use Rattle.cynara_keys.specs.BucketName.{is_bucket_name}
use Rattle.cynara_keys.specs.Metadata.{is_metadata}
use Rattle.cynara_keys.specs.Field.{field_text, field_of, field_fault}
use Rattle.cynara_keys.specs.PolicyResult.{Ruling, may_carry}
use Rattle.cynara_keys.specs.Key.{Key}
use Rattle.cynara_keys.specs.declared.keys.Policy.{Policy}
use Rattle.bucket_store.specs.Database.{Heading}
use Rattle.bucket_store.specs.Order.{heading_cmp, policy_cmp}
use Rattle.bucket_store.specs.Walk.{points, target}
use Rattle.bucket_store.specs.Refusal.{is_bad, most_buckets, most_policies}
use Rattle.set_text.specs.Numbers.{kind_text, kind_of}
use Rattle.set_text.specs.Lines.{text_of, joined, fields_of, values_of, at_least_one, kept, rises_above}

-- ---- the spelling

abbrev pub heading_line : Heading → List ℕ
heading_line heading =
    joined (heading.name ∷ kind_text heading.fallback.kind ∷ heading.fallback.metadata ∷ [])

abbrev pub buckets_text : List Heading → List ℕ
buckets_text headings = text_of heading_line headings

abbrev pub policy_line : Policy → List ℕ
policy_line policy =
    joined (field_text policy.key.client
    ∷ field_text policy.key.user
    ∷ field_text policy.key.privilege
    ∷ kind_text policy.result.kind
    ∷ policy.result.metadata
    ∷ [])

abbrev pub bucket_text : List Policy → List ℕ
bucket_text policies = text_of policy_line policies

-- ---- the form of a line

-- a kind, and metadata that goes with it
abbrev pub ruling_with : List ℕ → Option ℕ → Option Ruling
ruling_with metadata None = None
ruling_with metadata (Some kind) =
    if is_metadata metadata && may_carry kind metadata then Some (record { kind = kind; metadata = metadata }) else None

abbrev pub ruling_of : List ℕ → List ℕ → Option Ruling
ruling_of kind metadata = ruling_with metadata (kind_of kind)

abbrev pub heading_of_fields : List (List ℕ) → Option Heading
heading_of_fields (name ∷ kind ∷ metadata ∷ []) =
    if is_bucket_name name then option_map (λ fallback. record { name = name; fallback = fallback })
    (ruling_of kind metadata)
    else None
heading_of_fields _ = None

abbrev pub heading_of : List ℕ → Option Heading
heading_of line = heading_of_fields (fields_of line)

-- `*` or a name
abbrev pub is_field : List ℕ → Bool
is_field text = is_none (field_fault text)

abbrev pub key_of : List ℕ → List ℕ → List ℕ → Key
key_of client user privilege =
    record { client = field_of client; user = field_of user; privilege = field_of privilege }

abbrev pub key_in : List ℕ → List ℕ → List ℕ → Option Key
key_in client user privilege =
    if is_field client && (is_field user && is_field privilege) then Some (key_of client user privilege) else None

abbrev pub policy_with : Option Key → Option Ruling → Option Policy
policy_with (Some key) (Some ruling) = Some (record { key = key; result = ruling })
policy_with (Some key) None = None
policy_with None ruling = None

abbrev pub policy_of_fields : List (List ℕ) → Option Policy
policy_of_fields (client ∷ user ∷ privilege ∷ kind ∷ metadata ∷ []) =
    policy_with (key_in client user privilege) (ruling_of kind metadata)
policy_of_fields _ = None

abbrev pub policy_of : List ℕ → Option Policy
policy_of line = policy_of_fields (fields_of line)

-- ---- the rules of a line

-- the root bucket's line is the first
abbrev pub is_root_or_later : List Heading → Heading → Bool
is_root_or_later before heading = not (length before == 0) || length heading.name == 0

-- The names rise from the root's; a fallback is not BUCKET, nor NONE for the root; there are no more buckets than there
-- may be.
abbrev pub heading_fits : List Heading → Heading → Bool
heading_fits before heading =
    rises_above heading_cmp before heading
    && (is_root_or_later before heading && (not (is_bad heading) && nat_lt (length before) most_buckets))

abbrev pub read_heading : List Heading → List ℕ → Option Heading
read_heading before line = kept (heading_fits before) (heading_of line)

abbrev pub headings_of : List ℕ → Result (List Heading) ℕ
headings_of text = at_least_one (values_of read_heading text)

-- a policy that points to a bucket points to one of these
abbrev pub has_target : List Heading → Policy → Bool
has_target headings policy =
    not (points policy) || list_any (λ heading. same_text heading.name (target policy)) headings

-- The keys rise; the bucket that a policy points to is there; with those of the files before, there are no more
-- policies than there may be.
abbrev pub policy_fits : List Heading → ℕ → List Policy → Policy → Bool
policy_fits headings earlier before policy =
    rises_above policy_cmp before policy
    && (has_target headings policy && nat_lt (earlier + length before) most_policies)

abbrev pub read_policy : List Heading → ℕ → List Policy → List ℕ → Option Policy
read_policy headings earlier before line = kept (policy_fits headings earlier before) (policy_of line)

-- the policies in the file of a bucket, of a database with these buckets and so many policies in the files before
abbrev pub policies_of : List Heading → ℕ → List ℕ → Result (List Policy) ℕ
policies_of headings earlier text = values_of (read_policy headings earlier) text
