-- The files of a state, put one behind the other.
use Rattle.std.proofs.Common.{◌≡◌, ℕ, ◌+◌, ◌<◌, true, List, [], ◌∷◌, ◌++◌, length, map, take, get_or, refl, sym, ap}
use Rattle.std.proofs.Common.{subst, ◌∙◌, append_assoc}
use Rattle.std.specs.List.{AllByRecursion, filter, flat_map}
use Rattle.std.proofs.lemmas.List.{take_more, map-append}
use Rattle.cynara_keys.specs.Text.{same_text}
use Rattle.cynara_keys.specs.declared.keys.Policy.{Policy}
use Rattle.cynara_keys.proofs.Order.{≡-same_text}
use Rattle.app_registry.specs.Install.{is_of_package}
use Rattle.app_registry.specs.Registry.{RegistryLists, has_package, packages}
use Rattle.app_registry.specs.declared.installs.Install.{Install}
use Rattle.bucket_store.specs.Bucket.{Bucket}
use Rattle.bucket_store.specs.Database.{Database, Heading, Placed, heading_of, placed_of, database_of}
use Rattle.bucket_store.specs.WellFormed.{IsKept}
use Rattle.bucket_store.proofs.Lists.{All-weaker, All-map}
use Rattle.desk_ports.specs.FileMap.{NamesRise, names_of}
use Rattle.desk_state.specs.DeskState.{DeskState}
use Rattle.desk_state.specs.IsDesk.{IsDesk}
use Rattle.set_text.specs.Buckets.{bucket_text}
use Rattle.set_text.specs.FileNames.{bucket_file}
use Rattle.set_text.specs.Files.{file, policies_in, file_of, bucket_files, files}
use Rattle.set_text.specs.IsSpelt.{IsHeading, IsPolicy}
use Rattle.set_text.proofs.round.BucketFiles.{own-policies}
use Rattle.set_text.proofs.round.Lists.{each-there, flat-all}
use Rattle.set_text.proofs.round.OneSet.{unplaced}
use Rattle.set_text.proofs.round.SetNames.{names-are, names-rise, packages-rise, once-all}

pub map-more : {X Y : Type 0} (f : X → Y) (xs : List X) (i : ℕ) (x : X) → i < length xs → x ≡ get_or xs i x
    → map f (take i xs) ++ f x ∷ [] ≡ map f (take (i + 1) xs)
map-more f xs i x within at =
    sym (ap (map f) (take_more xs i x within ∙ ap (λ (other : _). take i xs ++ other ∷ []) (sym at)) ∙ map-append f
    (take i xs) (x ∷ []))

pub two-more : {X : Type 0} (old : List X) (a b : X) → (old ++ a ∷ []) ++ b ∷ [] ≡ old ++ (a ∷ b ∷ [])
two-more old a b = append_assoc old (a ∷ []) (b ∷ [])

pub three-more : {X : Type 0} (old : List X) (a b c : X)
    → ((old ++ a ∷ []) ++ b ∷ []) ++ c ∷ [] ≡ old ++ (a ∷ b ∷ c ∷ [])
three-more old a b c = ap (λ front. front ++ c ∷ []) (two-more old a b) ∙ append_assoc old (a ∷ b ∷ []) (c ∷ [])

pub four-parts : {X : Type 0} (a b c d : List X) → ((a ++ b) ++ c) ++ d ≡ a ++ (b ++ (c ++ d))
four-parts a b c d = append_assoc (a ++ b) c d ∙ append_assoc a b (c ++ d)

-- each package of the installs is there
pub packages-there : (registry : RegistryLists)
    → AllByRecursion (λ name. has_package registry name ≡ true) (packages registry.installs)
packages-there registry =
    each registry.installs
    (each-there (λ (install other : Install). is_of_package install.«package» other)
    (λ install. ≡-same_text install.«package» install.«package» refl) registry.installs)
  where
    each : (installs : List Install)
        → AllByRecursion (λ (install : Install). has_package registry install.«package» ≡ true) installs
        → AllByRecursion (λ name. has_package registry name ≡ true) (packages installs)
    each [] all = tt
    each (first ∷ installs) all =
        once-all (λ name. has_package registry name ≡ true) first.«package»
        (map (λ (install : Install). install.«package») installs)
        all.0 (All-map (λ name. has_package registry name ≡ true)
        (λ (install : Install). install.«package») installs all.1)

module _ (desk : DeskState) (buckets : List Bucket) (view : database_of buckets ≡ desk.database) where
  abbrev Owned : Bucket → Type 0
  Owned bucket = filter (λ (placed : Placed). same_text placed.bucket bucket.name)
      (flat_map placed_of buckets) ≡ placed_of bucket

  each-file : (some : List Bucket) → AllByRecursion Owned some
      → map file_of some
      ≡ map (λ (heading : Heading). file (bucket_file heading.name)
      (bucket_text (policies_in (database_of buckets) heading.name)))
      (map heading_of some)
  each-file [] all = refl
  each-file (bucket ∷ some) all =
      let policies : policies_in (database_of buckets) bucket.name ≡ bucket.policies =
      ap (map (λ (placed : Placed). placed.policy)) all.0 ∙ unplaced bucket.name bucket.policies in
      let rest = each-file some all.1 in
      λ i. file (bucket_file bucket.name) (bucket_text (sym policies i)) ∷ rest i

  -- the files of the buckets are those of the database that they are
  pub bucket-files-are : IsKept buckets → map file_of buckets ≡ bucket_files desk
  bucket-files-are kept =
      each-file buckets (own-policies buckets kept.names_rise)
      ∙ ap (λ (database : Database).
      map (λ (heading : Heading). file (bucket_file heading.name)
      (bucket_text (policies_in database heading.name))) database.buckets) view

  pub headings-spelt : AllByRecursion (λ (bucket : Bucket). IsHeading (heading_of bucket)) buckets
      → AllByRecursion IsHeading desk.database.buckets
  headings-spelt all =
      subst (λ (database : Database). AllByRecursion IsHeading database.buckets) view
      (All-map IsHeading heading_of buckets all)

  pub policies-spelt : AllByRecursion (λ (bucket : Bucket). AllByRecursion IsPolicy bucket.policies) buckets
      → AllByRecursion (λ (placed : Placed). IsPolicy placed.policy) desk.database.policies
  policies-spelt all =
      subst (λ (database : Database). AllByRecursion
      (λ (placed : Placed). IsPolicy placed.policy) database.policies) view
      (flat-all (λ (placed : Placed). IsPolicy placed.policy) placed_of buckets
      (All-weaker (λ (bucket : Bucket). AllByRecursion IsPolicy bucket.policies)
      (λ (bucket : Bucket). AllByRecursion (λ (placed : Placed). IsPolicy placed.policy) (placed_of bucket))
      (λ bucket policies. All-map (λ (placed : Placed). IsPolicy placed.policy)
      (λ (policy : Policy). record { bucket = bucket.name; policy = policy }) bucket.policies policies) buckets all))

pub files-rise : (desk : DeskState) → IsDesk desk → NamesRise (names_of (files desk))
files-rise desk is =
    subst NamesRise (sym (names-are desk))
    (names-rise desk.database.buckets (packages desk.registry.installs) is.database.names_rise
    (packages-rise desk.registry.installs is.registry.installs_rise))
