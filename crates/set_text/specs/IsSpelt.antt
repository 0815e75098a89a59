-- What the names, numbers and results of a policy state are made of. Their types keep it, so every state that a program
-- holds is such; contracts, which see names as lists of bytes, say it here.
use Rattle.std.specs.Prelude.{◌≤◌, ℕ, List, None, Option, Some, IsTrue}
use Rattle.std.specs.List.{AllByRecursion}
use Rattle.std.specs.List.Sorted.{IsStrictlySortedBy}
use Rattle.cynara_keys.specs.Text.{text_cmp}
use Rattle.cynara_keys.specs.BucketName.{is_bucket_name}
use Rattle.cynara_keys.specs.Metadata.{is_metadata}
use Rattle.cynara_keys.specs.Name.{is_name}
use Rattle.cynara_keys.specs.PolicyResult.{Ruling, may_carry}
use Rattle.cynara_keys.specs.declared.fields.Field.{Field}
use Rattle.cynara_keys.specs.declared.fields.Field.TheVariants.{Any, Exact}
use Rattle.cynara_keys.specs.Key.{Key}
use Rattle.cynara_keys.specs.declared.keys.Policy.{Policy}
use Rattle.bucket_store.specs.Database.{Heading, Placed}
use Rattle.app_registry.specs.declared.installs.Install.{Install}
use Rattle.app_registry.specs.declared.installs.Scope.{Scope}
use Rattle.app_registry.specs.declared.installs.Scope.TheVariants.{Everyone, One}
use Rattle.app_registry.specs.declared.users.User.{User}
use Rattle.desk_state.specs.DeskState.{DeskState}
use Rattle.set_text.specs.Numbers.{last_kind}
use Rattle.set_text.specs.Registry.{last_uid, is_ident}

pub record IsRuling (ruling : Ruling) : Type 0 where
  pub kind : ruling.kind ≤ last_kind
  pub metadata : IsTrue (is_metadata ruling.metadata)
  pub carried : IsTrue (may_carry ruling.kind ruling.metadata)

abbrev pub IsField : Field → Type 0
IsField Any = Unit {0}
IsField (Exact name) = IsTrue (is_name name)

pub record IsKey (key : Key) : Type 0 where
  pub client : IsField key.client
  pub user : IsField key.user
  pub privilege : IsField key.privilege

pub record IsHeading (heading : Heading) : Type 0 where
  pub name : IsTrue (is_bucket_name heading.name)
  pub fallback : IsRuling heading.fallback

pub record IsPolicy (policy : Policy) : Type 0 where
  pub key : IsKey policy.key
  pub result : IsRuling policy.result

abbrev pub IsAuthor : Option (List ℕ) → Type 0
IsAuthor None = Unit {0}
IsAuthor (Some author) = IsTrue (is_ident author)

abbrev pub IsScope : Scope → Type 0
IsScope Everyone = Unit {0}
IsScope (One uid) = uid ≤ last_uid

pub record IsInstall (install : Install) : Type 0 where
  pub «package» : IsTrue (is_ident install.package)
  pub author : IsAuthor install.author
  pub app : IsTrue (is_ident install.app)
  pub scope : IsScope install.scope
  pub privileges : AllByRecursion (λ name. IsTrue (is_name name)) install.privileges
  pub rising : IsStrictlySortedBy text_cmp install.privileges

pub record IsSpelt (desk : DeskState) : Type 0 where
  pub buckets : AllByRecursion IsHeading desk.database.buckets
  pub policies : AllByRecursion (λ (placed : Placed). IsPolicy placed.policy) desk.database.policies
  pub users : AllByRecursion (λ (user : User). user.uid ≤ last_uid) desk.registry.users
  pub installs : AllByRecursion IsInstall desk.registry.installs
