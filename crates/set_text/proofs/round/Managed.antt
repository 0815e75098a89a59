-- What users and installs decide, as policies that have a text of their own.
use Rattle.std.proofs.Common.{◌≡◌, ℕ, ◌<◌, ◌≤◌, ◌^◌, Bool, true, false, cond, decimal, List, [], ◌∷◌, map, Some, None, is_none, Ok, refl, ap}
use Rattle.std.proofs.Common.{◌∙◌, arith}
use Rattle.std.specs.List.{AllByRecursion}
use Rattle.cynara_keys.specs.BucketName.{is_bucket_name}
use Rattle.cynara_keys.specs.Metadata.{is_metadata}
use Rattle.cynara_keys.specs.Name.{is_name, name_fault}
use Rattle.cynara_keys.specs.PolicyResult.{bucket, allow}
use Rattle.cynara_keys.specs.declared.fields.Field.{Field}
use Rattle.cynara_keys.specs.declared.fields.Field.TheVariants.{Any, Exact}
use Rattle.cynara_keys.specs.declared.keys.Policy.{Policy}
use Rattle.cynara_keys.proofs.Order.{key_total}
use Rattle.app_registry.specs.Ident.{ident_fault}
use Rattle.app_registry.specs.Label.{package_label, app_label, install_label}
use Rattle.app_registry.specs.Manifest.{scope_field, grant, install_grants, grants, manifest_rows}
use Rattle.app_registry.specs.Registry.{RegistryLists}
use Rattle.app_registry.specs.declared.installs.Install.{Install}
use Rattle.app_registry.specs.declared.installs.Scope.{Scope}
use Rattle.app_registry.specs.declared.installs.Scope.TheVariants.{Everyone, One}
use Rattle.app_registry.specs.declared.users.User.{User}
use Rattle.app_registry.specs.declared.users.UserType.{UserType}
use Rattle.app_registry.specs.declared.users.UserType.TheVariants.{System, Admin, Normal, Guest}
use Rattle.app_registry.proofs.Rising.{AllByRecursion-rising}
use Rattle.app_registry.proofs.Texts.{name_fault-decimal, name_fault-package_label, name_fault-app_label}
use Rattle.bucket_store.proofs.Lists.{All-weaker, All-map}
use Rattle.bucket_store.proofs.Sound.{policy_total}
use Rattle.desk_state.specs.Layout.{manifests, type_bucket, link, user_link, main_policies, manifest_policies}
use Rattle.text_lines.specs.Lines.{HasNoNewline}
use Rattle.set_text.specs.Buckets.{policy_line, bucket_text, policy_of}
use Rattle.set_text.specs.IsSpelt.{IsField, IsKey, IsScope, IsInstall, IsPolicy}
use Rattle.set_text.specs.Lines.{kept, values_of}
use Rattle.set_text.specs.Registry.{last_uid}
use Rattle.set_text.proofs.round.Lists.{flat-all}
use Rattle.set_text.proofs.round.Plain.{none-is}
use Rattle.set_text.proofs.round.PolicyLines.{policy-newline, policy-read}
use Rattle.set_text.proofs.round.Tests.{same-ok}
use Rattle.set_text.proofs.round.Values.{fit-each, values-read}

-- ---- policies with one text are one list

alone-read : (policies : List Policy) → AllByRecursion IsPolicy policies
    → values_of (λ before line. kept (λ policy. true) (policy_of line)) (bucket_text policies) ≡ Ok policies
alone-read policies all =
    values-read (λ before policy. true) policy_of policy_line policies
    (All-weaker IsPolicy (λ policy. HasNoNewline (policy_line policy) × (policy_of (policy_line policy) ≡ Some policy))
    (λ policy is. (policy-newline policy is, policy-read policy is)) policies all)
    (fit-each (λ policy. true) [] policies
    (All-weaker IsPolicy (λ policy. true ≡ true) (λ policy is. refl) policies all))

pub text-once : (policies others : List Policy) → AllByRecursion IsPolicy policies → AllByRecursion IsPolicy others
    → bucket_text policies ≡ bucket_text others → policies ≡ others
text-once policies others first second same =
    same-ok policies others (values_of (λ before line. kept (λ policy. true) (policy_of line)) (bucket_text policies))
    (alone-read policies first)
    (ap (values_of (λ before line. kept (λ policy. true) (policy_of line))) same ∙ alone-read others second)

-- ---- the policies of users

link-is : (user : Field) (target : List ℕ) → IsField user → is_metadata target ≡ true → is_bucket_name target ≡ true
    → IsPolicy (link user target)
link-is user target field text bucket = record {
  key = record { client = tt; user = field; privilege = tt };
  result = record { kind = omega arith; metadata = text; carried = bucket };
}

decimal-is : (number : ℕ) → number < 2 ^ 64 → is_name (decimal number) ≡ true
decimal-is number small = ap is_none (name_fault-decimal number small)

user_link-is : (user : User) → user.uid ≤ last_uid → IsPolicy (user_link user)
user_link-is user small =
    let field : IsField (Exact (decimal user.uid)) = decimal-is user.uid (omega (arith, small)) in
    link-is (Exact (decimal user.uid)) (type_bucket user.kind) field (text user.kind) (name user.kind)
  where
    text : (kind : UserType) → is_metadata (type_bucket kind) ≡ true
    text System = refl
    text Admin = refl
    text Normal = refl
    text Guest = refl

    name : (kind : UserType) → is_bucket_name (type_bucket kind) ≡ true
    name System = refl
    name Admin = refl
    name Normal = refl
    name Guest = refl

pub main-are : (registry : RegistryLists) → AllByRecursion (λ (user : User). user.uid ≤ last_uid) registry.users
    → AllByRecursion IsPolicy (main_policies registry)
main-are registry users =
    AllByRecursion-rising policy_total IsPolicy (link Any manifests ∷ map user_link registry.users) (
      link-is Any manifests tt refl refl,
      All-map IsPolicy user_link registry.users
          (All-weaker (λ (user : User). user.uid ≤ last_uid)
          (λ user. IsPolicy (user_link user)) user_link-is registry.users users),
    )

-- ---- the policies of installs

scope-is : (scope : Scope) → IsScope scope → IsField (scope_field scope)
scope-is Everyone is = tt
scope-is (One uid) is = decimal-is uid (omega (arith, is))

-- the label of an install is a name
label-is : (install : Install) → ident_fault install.«package» ≡ None → ident_fault install.app ≡ None → name_fault (install_label install) ≡ None
label-is install sound own = by install.hybrid
  where
    by : (b : Bool) → name_fault (cond b (app_label install.«package» install.app) (package_label install.«package»)) ≡ None
    by true = name_fault-app_label install.«package» install.app sound own
    by false = name_fault-package_label install.«package» sound

grants-are : (install : Install) → IsInstall install → AllByRecursion IsKey (install_grants install)
grants-are install is =
    All-map IsKey (grant (Exact (install_label install)) (scope_field install.scope)) install.privileges
    (All-weaker (λ name. is_name name ≡ true)
    (λ name. IsKey (grant (Exact (install_label install)) (scope_field install.scope) name))
    (λ name named. record {
      client = ap is_none (label-is install (none-is (ident_fault install.«package») is.«package») (none-is (ident_fault install.app) is.app));
      user = scope-is install.scope is.scope;
      privilege = named;
    }) install.privileges is.privileges)

pub manifests-are : (registry : RegistryLists) → AllByRecursion IsInstall registry.installs
    → AllByRecursion IsPolicy (manifest_policies registry)
manifests-are registry installs =
    All-map IsPolicy (λ key. record { key = key; result = record { kind = allow; metadata = [] } })
    (manifest_rows registry)
    (All-weaker IsKey (λ key. IsPolicy (record { key = key; result = record { kind = allow; metadata = [] } }))
    (λ key is. record { key = is; result = record { kind = omega arith; metadata = refl; carried = refl } })
    (manifest_rows registry)
    (AllByRecursion-rising key_total IsKey (grants registry.installs)
    (flat-all IsKey install_grants registry.installs
    (All-weaker IsInstall
    (λ install. AllByRecursion IsKey (install_grants install)) grants-are registry.installs installs))))
