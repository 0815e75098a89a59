-- What one word of a line says.
use Rattle.std.specs.Prelude.{ℕ, ◌+◌, Bool, true, false, not, ◌&&◌, nat_le, ◌==◌, if◌then◌else◌, List, [], ◌∷◌, length}
use Rattle.std.specs.Prelude.{take, drop, find, position, Option, Some, None, is_none, option_map, codes}
use Rattle.cynara_keys.specs.Text.{same_text}
use Rattle.cynara_keys.specs.Name.{is_name}
use Rattle.cynara_keys.specs.BucketName.{is_bucket_name}
use Rattle.cynara_keys.specs.Metadata.{is_metadata}
use Rattle.cynara_keys.specs.Field.{field_of, field_fault, filter_field_of, filter_field_fault}
use Rattle.cynara_keys.specs.PolicyResult.{Ruling, deny, none, bucket, allow, is_agent, may_carry}
use Rattle.cynara_keys.specs.declared.fields.Field.{Field}
use Rattle.cynara_keys.specs.declared.fields.FilterField.{FilterField}
use Rattle.smack_rules.specs.Modes.{modes_of, is_request}
use Rattle.smack_rules.specs.Rule.{is_label}
use Rattle.smack_rules.specs.declared.modes.Modes.{Modes}
use Rattle.app_registry.specs.Ident.{ident_fault}
use Rattle.app_registry.specs.declared.installs.Scope.{Scope}
use Rattle.app_registry.specs.declared.installs.Scope.TheVariants.{Everyone, One}
use Rattle.app_registry.specs.declared.users.UserType.{UserType}
use Rattle.app_registry.specs.declared.users.UserType.TheVariants.{System, Admin, Normal, Guest}
use Rattle.script_words.specs.Words.{◌>>=◌}
use Rattle.script_words.specs.Numbers.{number_that}

-- ---- of the policy database

-- `.`, the root bucket, whose name is empty, or the name of another bucket
abbrev pub bucket_at : List ℕ → Option (List ℕ)
bucket_at text =
    if same_text text (codes ".") then Some []
    else (if is_bucket_name text && not (length text == 0) then Some text else None)

-- a name
abbrev pub name_at : List ℕ → Option (List ℕ)
name_at text = if is_name text then Some text else None

-- `*` or a name
abbrev pub field_at : List ℕ → Option Field
field_at text = if is_none (field_fault text) then Some (field_of text) else None

-- `#`, `*` or a name
abbrev pub filter_field_at : List ℕ → Option FilterField
filter_field_at text = if is_none (filter_field_fault text) then Some (filter_field_of text) else None

-- `deep` or `flat`: whether other buckets are followed
abbrev pub depth_at : List ℕ → Option Bool
depth_at text = if same_text text (codes "deep") then Some true else
    (if same_text text (codes "flat") then Some false else None)

-- ---- results

-- a result of a kind with metadata that it may have
abbrev pub ruling_at : ℕ → List ℕ → Option Ruling
ruling_at kind metadata =
    if is_metadata metadata && may_carry kind metadata then Some (record { kind = kind; metadata = metadata }) else None

-- `BUCKET`, behind `bucket:`
unfoldable pub bucket_result_at : List ℕ → Option Ruling
bucket_result_at text = do
  name ← bucket_at text
  ruling_at bucket name

-- `KIND:METADATA`, behind `agent:`
unfoldable pub agent_result_at : List ℕ → Option Ruling
agent_result_at text = do
  colon ← position (λ byte. byte == 58) text
  kind ← number_that is_agent (take colon text)
  ruling_at kind (drop (colon + 1) text)

-- what stands behind the front of a text, where the text begins so
abbrev pub behind : List ℕ → List ℕ → Option (List ℕ)
behind front text = if same_text (take (length front) text) front then Some (drop (length front) text) else None

-- what stands behind `bucket:`, and what stands behind `agent:`
abbrev pub carrying_at : Option (List ℕ) → Option (List ℕ) → Option Ruling
carrying_at (Some name) agent = bucket_result_at name
carrying_at None (Some agent) = agent_result_at agent
carrying_at None None = None

-- `deny`, `none`, `allow`, `bucket:BUCKET` or `agent:KIND:METADATA`
unfoldable pub result_at : List ℕ → Option Ruling
result_at text =
    if same_text text (codes "deny") then ruling_at deny []
    else (if same_text text (codes "none") then ruling_at none []
    else (if same_text text (codes "allow") then ruling_at allow []
    else carrying_at (behind (codes "bucket:") text) (behind (codes "agent:") text)))

-- ---- of users and packages

-- the number of a user
abbrev pub uid_at : List ℕ → Option ℕ
uid_at text = number_that (λ uid. nat_le uid 4294967295) text

abbrev pub user_type_text : UserType → List ℕ
user_type_text System = codes "system"
user_type_text Admin = codes "admin"
user_type_text Normal = codes "normal"
user_type_text Guest = codes "guest"

abbrev pub user_type_at : List ℕ → Option UserType
user_type_at text = find (λ kind. same_text text (user_type_text kind)) (System ∷ Admin ∷ Normal ∷ Guest ∷ [])

-- `*` for everyone, or the number of a user
abbrev pub scope_at : List ℕ → Option Scope
scope_at text = if same_text text (codes "*") then Some Everyone else option_map One (uid_at text)

-- `hybrid` or `plain`: whether each application of a package has a label of its own
abbrev pub package_kind_at : List ℕ → Option Bool
package_kind_at text =
    if same_text text (codes "hybrid") then Some true else (if same_text text (codes "plain") then Some false else None)

-- `own`, or `admin`, behind which the number of a user stands: whether it does
abbrev pub setter_named : List ℕ → Option Bool
setter_named text =
    if same_text text (codes "own") then Some false else (if same_text text (codes "admin") then Some true else None)

-- the name of a package, an author or an application
abbrev pub ident_at : List ℕ → Option (List ℕ)
ident_at text = if is_none (ident_fault text) then Some text else None

-- `-` for none, or the name of an author
abbrev pub author_at : List ℕ → Option (Option (List ℕ))
author_at text = if same_text text (codes "-") then Some None else option_map Some (ident_at text)

-- ---- of Smack

abbrev pub label_at : List ℕ → Option (List ℕ)
label_at text = if is_label text then Some text else None

-- modes that may be asked for
abbrev pub request_at : List ℕ → Option Modes
request_at text = do
  modes ← modes_of text
  if is_request modes then Some modes else None
