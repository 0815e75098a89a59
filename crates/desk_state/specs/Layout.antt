-- The seven buckets that security-manager fills, and what stands in those two of them that users and installs alone
-- decide. Their links and fallbacks are this project's profile.
use Rattle.std.specs.Prelude.{ℕ, Bool, ◌||◌, List, [], ◌∷◌, ◌++◌, map, decimal, codes}
use Rattle.std.specs.List.{filter, fold, list_any}
use Rattle.std.specs.Ordering.{is_lt, is_gt}
use Rattle.cynara_keys.specs.Text.{same_text, text_cmp}
use Rattle.cynara_keys.specs.PolicyResult.{deny, bucket, allow}
use Rattle.cynara_keys.specs.declared.fields.Field.{Field}
use Rattle.cynara_keys.specs.declared.fields.Field.TheVariants.{Any, Exact}
use Rattle.cynara_keys.specs.declared.keys.Policy.{Policy}
use Rattle.bucket_store.specs.Database.{Database, Heading, Placed, root, has_bucket}
use Rattle.bucket_store.specs.Order.{heading_cmp, placed_cmp, policy_cmp, put}
use Rattle.app_registry.specs.Registry.{RegistryLists}
use Rattle.app_registry.specs.Manifest.{manifest_rows}
use Rattle.app_registry.specs.Rising.{rising}
use Rattle.app_registry.specs.declared.users.User.{User}
use Rattle.app_registry.specs.declared.users.UserType.{UserType}
use Rattle.app_registry.specs.declared.users.UserType.TheVariants.{System, Admin, Normal, Guest}

-- ---- the names

-- for each user, the bucket of the user's type; for everyone else, the manifests
abbrev pub main : List ℕ
main = codes "MAIN"

-- what the installs grant
abbrev pub manifests : List ℕ
manifests = codes "MANIFESTS"

-- what the administrator decides for all types
abbrev pub admin : List ℕ
admin = codes "ADMIN"

-- what the administrator decides for a type
abbrev pub type_bucket : UserType → List ℕ
type_bucket System = codes "USER_TYPE_SYSTEM"
type_bucket Admin = codes "USER_TYPE_ADMIN"
type_bucket Normal = codes "USER_TYPE_NORMAL"
type_bucket Guest = codes "USER_TYPE_GUEST"

abbrev pub type_buckets : List (List ℕ)
type_buckets = type_bucket System ∷ type_bucket Admin ∷ type_bucket Normal ∷ type_bucket Guest ∷ []

abbrev pub built_in : List (List ℕ)
built_in = main ∷ manifests ∷ admin ∷ type_buckets

abbrev pub is_built_in : List ℕ → Bool
is_built_in name = list_any (same_text name) built_in

-- the two whose policies no command sets
abbrev pub is_managed : List ℕ → Bool
is_managed name = same_text name main || same_text name manifests

-- ---- the layout

abbrev pub heading : List ℕ → ℕ → Heading
heading name kind = record { name = name; fallback = record { kind = kind; metadata = [] } }

abbrev pub headings : List Heading
headings = heading main deny ∷ heading manifests deny ∷ heading admin allow
    ∷ map (λ name. heading name allow) type_buckets

-- a policy that sends the questions of these users to a bucket
abbrev pub link : Field → List ℕ → Policy
link user target =
    record {
      key = record { client = Any; user = user; privilege = Any };
      result = record { kind = bucket; metadata = target };
    }

-- the policy that sends all questions of a bucket to another one
abbrev pub all_to : List ℕ → List ℕ → Placed
all_to from target = record { bucket = from; policy = link Any target }

abbrev pub links : List Placed
links = all_to root main ∷ all_to main manifests ∷ map (λ name. all_to name admin) type_buckets

-- the seven buckets made, and the policies put that link them; all others stay
abbrev pub laid_out : Database → Database
laid_out database = record {
  buckets = fold (λ buckets heading. put heading_cmp heading buckets) database.buckets headings;
  policies = fold (λ policies placed. put placed_cmp placed policies) database.policies links;
}

-- Once laid out, the built-in buckets are not removed; before, none of them can be made.
abbrev pub has_layout : Database → Bool
has_layout database = has_bucket main database

-- ---- the two buckets that users and installs decide

-- `MAIN`: a user goes to the bucket of the user's type, and everyone else to the manifests
abbrev pub user_link : User → Policy
user_link user = link (Exact (decimal user.uid)) (type_bucket user.kind)

abbrev pub main_policies : RegistryLists → List Policy
main_policies registry = rising policy_cmp (link Any manifests ∷ map user_link registry.users)

-- `MANIFESTS`: each grant of an install is allowed
abbrev pub manifest_policies : RegistryLists → List Policy
manifest_policies registry =
    map (λ key. record { key = key; result = record { kind = allow; metadata = [] } }) (manifest_rows registry)

-- these policies, in order, in place of all that a bucket has
abbrev pub with_own : List ℕ → List Policy → List Placed → List Placed
with_own name policies placed =
    filter (λ other. is_lt (text_cmp other.bucket name)) placed
    ++ (map (λ policy. record { bucket = name; policy = policy }) policies
    ++ filter (λ other. is_gt (text_cmp other.bucket name)) placed)

-- the database with these two buckets as the registry gives them
abbrev pub settled : RegistryLists → Database → Database
settled registry database = record {
  buckets = database.buckets;
  policies = with_own manifests (manifest_policies registry) (with_own main (main_policies registry) database.policies);
}
