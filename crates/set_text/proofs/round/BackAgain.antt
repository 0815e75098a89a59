-- The files of a state read back as the state.
use Rattle.std.proofs.Common.{◌≡◌, ℕ, ◌+◌, ◌≤◌, ◌⊎◌, inl, inr, Bool, true, false, not, cond, ltb, ◌&&◌, ◌||◌, ◌==◌}
use Rattle.std.proofs.Common.{List, [], ◌∷◌, ◌++◌, length, map, Option, Some, None, is_some, Result, Ok, refl, sym, ap}
use Rattle.std.proofs.Common.{◌∙◌, arith, append_assoc, append-nil}
use Rattle.std.specs.List.{AllByRecursion, list_any, flat_map, filter}
use Rattle.std.specs.List.Sorted.{IsStrictlySortedBy}
use Rattle.std.specs.Option.{option_or}
use mathlib.Core.Bool.{or-true}
use Rattle.std.proofs.lemmas.Bool.{ltb-false, eq-eqb}
use Rattle.std.proofs.lemmas.List.Sums.{sum_by-append}
use Rattle.cynara_keys.specs.Text.{same_text}
use Rattle.cynara_keys.specs.PolicyResult.{Ruling, deny}
use Rattle.cynara_keys.specs.declared.keys.Policy.{Policy}
use Rattle.cynara_keys.specs.declared.limits.Counted.TheVariants.{Users}
use Rattle.cynara_keys.proofs.Order.{≡-same_text}
use Rattle.app_registry.specs.Registry.{RegistryLists, packages}
use Rattle.app_registry.specs.declared.refusals.RegistryRefusal.TheVariants.{Limit}
use Rattle.app_registry.specs.Limits.{most_users}
use Rattle.bucket_store.specs.Bucket.{Bucket}
use Rattle.bucket_store.specs.Database.{Database, Heading, Placed, has_bucket, placed_of, database_of}
use Rattle.bucket_store.specs.Order.{policy_cmp}
use Rattle.bucket_store.specs.Refusal.{most_policies}
use Rattle.bucket_store.specs.Walk.{points, target}
use Rattle.bucket_store.specs.WellFormed.{IsRooted}
use Rattle.bucket_store.proofs.Lists.{All-weaker, All-both, All-map, All-filter}
use Rattle.bucket_store.proofs.Sound.{any-none, cycle-sound}
use Rattle.desk_ports.specs.declared.file_sets.SetFile.{SetFile}
use Rattle.desk_state.specs.DeskState.{DeskState, package_rules}
use Rattle.desk_state.specs.IsDesk.{IsDesk, IsBare, IsLaidOut}
use Rattle.desk_state.specs.Layout.{main, manifests, built_in, is_managed, has_layout, main_policies, manifest_policies}
use Rattle.desk_state.proofs.Commanding.{laid}
use Rattle.desk_state.proofs.Keeping.{laid-owned}
use Rattle.desk_state.proofs.Owning.{own, in_bucket}
use Rattle.set_text.specs.Buckets.{bucket_text, has_target, policies_of}
use Rattle.set_text.specs.Fault.{Fault, with_value, in_file, bytes_in, unlike, whole}
use Rattle.set_text.specs.FileNames as name
use Rattle.set_text.specs.FileNames.{bucket_file, load_file, is_bucket_file, is_load_file, is_other_file, fixed_files}
use Rattle.set_text.specs.Files.{files}
use Rattle.set_text.specs.IsSpelt.{IsSpelt, IsPolicy}
use Rattle.set_text.specs.Reading.{policy_count, buckets_behind, is_laid_out, is_bare, layout_fault, managed_fault}
use Rattle.set_text.specs.Reading.{fallback_fault, load_fault, read_of}
use Rattle.set_text.specs.Registry.{is_ident, installs_of, users_of}
use Rattle.set_text.specs.Stamp.{commits_of}
use Rattle.set_text.specs.Buckets.{headings_of}
use Rattle.set_text.specs.Template.{load_text, template_lines_of}
use Rattle.set_text.proofs.round.BucketFiles.{length-policies}
use Rattle.set_text.proofs.round.HeadingLines.{headings-fit, headings-read}
use Rattle.set_text.proofs.round.InstallRules.{installs-read}
use Rattle.set_text.proofs.round.Lists.{each-there, none-passes, passes-all}
use Rattle.set_text.proofs.round.OneSet.{unplaced}
use Rattle.set_text.proofs.round.OtherLines.{stamp-read, template-lines-read}
use Rattle.set_text.proofs.round.PolicyLines.{policies-read}
use Rattle.set_text.proofs.round.Reads.{IsRead, facts-read}
use Rattle.set_text.proofs.round.Regrouped.{filled, own-rises, database-again}
use Rattle.set_text.proofs.round.SetBytes.{bytes-bucket, bytes-load, bytes-apps, bytes-buckets, bytes-stamp}
use Rattle.set_text.proofs.round.SetBytes.{bytes-template, bytes-users}
use Rattle.set_text.proofs.round.SetNames.{bucket_names, load_names, names-are, packages-named, other-names}
use Rattle.set_text.proofs.round.SetNames.{bucket-names, load-names, none-odd}
use Rattle.set_text.proofs.round.Tests.{none-when}
use Rattle.set_text.proofs.round.UserLines.{users-read}

-- ---- the files of the buckets

-- the file of a bucket is what it has in a list of policies, which keep the rules
record IsFilled (set : List SetFile) (headings : List Heading) (policies : List Placed)
    (heading : Heading) : Type 0 where
  same : bytes_in set (bucket_file heading.name) ≡ bucket_text (filled policies heading).policies
  all : AllByRecursion IsPolicy (filled policies heading).policies
  rise : IsStrictlySortedBy policy_cmp (filled policies heading).policies
  targets : AllByRecursion (λ policy. has_target headings policy ≡ true) (filled policies heading).policies

module _ (set : List SetFile) (headings : List Heading) (policies : List Placed) where
  abbrev go_on : List Bucket → Heading → List Heading → List Policy → Result (List Bucket) Fault
  go_on before heading later own =
      buckets_behind set headings
      (before ++ record { name = heading.name; fallback = heading.fallback; policies = own } ∷ []) later

  buckets-read : (before : List Bucket) (later : List Heading) → AllByRecursion (IsFilled set headings policies) later
      → policy_count before + policy_count (map (filled policies) later) ≤ most_policies
      → buckets_behind set headings before later ≡ Ok (before ++ map (filled policies) later)
  buckets-read before [] all few = ap (λ (buckets : List Bucket). Ok buckets) (sym (append-nil before))
  buckets-read before (heading ∷ later) all few =
      let bucket = filled policies heading in
      let size = λ (bucket : Bucket). length bucket.policies in
      let more : policy_count (before ++ bucket ∷ []) ≡ policy_count before + (0 + length bucket.policies) =
      sum_by-append size before (bucket ∷ []) in
      let rest : policy_count (bucket ∷ map (filled policies) later)
      ≡ 0 + length bucket.policies + policy_count (map (filled policies) later) =
      sum_by-append size (bucket ∷ []) (map (filled policies) later) in
      ap (λ bytes. with_value (in_file (bucket_file heading.name) (policies_of headings (policy_count before) bytes))
      (go_on before heading later)) all.0.same
      ∙ ap (λ result. with_value (in_file (bucket_file heading.name) result) (go_on before heading later))
      (policies-read headings (policy_count before) bucket.policies (record {
        all = all.0.all;
        rise = all.0.rise;
        targets = all.0.targets;
        few = omega (arith, few, rest);
      }))
      ∙ buckets-read (before ++ bucket ∷ []) later all.1 (omega (arith, few, rest, more))
      ∙ ap (λ (buckets : List Bucket). Ok buckets) (append_assoc before (bucket ∷ []) (map (filled policies) later))

-- ---- no fault of the whole

unlike-none : (set : List SetFile) (name text : List ℕ) → bytes_in set name ≡ text → unlike set name text ≡ None
unlike-none set name text is = ap (λ b. cond b None (Some (whole name))) (≡-same_text (bytes_in set name) text is)

both-none : (first second : Option Fault) → first ≡ None → second ≡ None → option_or first second ≡ None
both-none first second one other = ap (λ fault. option_or fault second) one ∙ other

target-there : (headings : List Heading) (policy : Policy)
    → (points policy ≡ true → list_any (λ (heading : Heading). same_text heading.name (target policy)) headings ≡ true)
    → has_target headings policy ≡ true
target-there headings policy there = by (points policy) refl
  where
    by : (pointed : Bool) → points policy ≡ pointed
        → (not pointed || list_any (λ (heading : Heading). same_text heading.name (target policy)) headings) ≡ true
    by true is = there is
    by false is = refl

module _ (desk : DeskState) (is : IsDesk desk) (spelt : IsSpelt desk) where
  abbrev set : List SetFile
  set = files desk

  abbrev headings : List Heading
  headings = desk.database.buckets

  abbrev loads : List (List ℕ)
  loads = packages desk.registry.installs

  idents : AllByRecursion (λ name. is_ident name ≡ true) loads
  idents = packages-named desk.registry.installs spelt.installs

  headings-there : AllByRecursion (λ (heading : Heading). has_bucket heading.name desk.database ≡ true) headings
  headings-there =
      each-there (λ (heading other : Heading). same_text other.name heading.name)
      (λ heading. ≡-same_text heading.name heading.name refl) headings

  -- ---- the buckets

  own-policies : (name : List ℕ)
      → AllByRecursion IsPolicy (map (λ (placed : Placed). placed.policy) (own name desk.database.policies))
  own-policies name =
      All-map IsPolicy (λ (placed : Placed). placed.policy) (own name desk.database.policies)
      (All-filter (λ (placed : Placed). IsPolicy placed.policy)
      (λ (placed : Placed). same_text placed.bucket name) desk.database.policies
      spelt.policies)

  own-targets : (name : List ℕ)
      → AllByRecursion (λ policy. has_target headings policy ≡ true)
      (map (λ (placed : Placed). placed.policy) (own name desk.database.policies))
  own-targets name =
      All-map (λ policy. has_target headings policy ≡ true) (λ (placed : Placed). placed.policy)
      (own name desk.database.policies)
      (All-weaker (IsRooted desk.database) (λ (placed : Placed). has_target headings placed.policy ≡ true)
      (λ placed rooted. target-there headings placed.policy rooted.target) (own name desk.database.policies)
      (All-filter (IsRooted desk.database) (λ (placed : Placed). same_text placed.bucket name) desk.database.policies
      is.database.sound.rooted))

  filled-all : AllByRecursion (IsFilled set headings desk.database.policies) headings
  filled-all =
      All-weaker (λ (heading : Heading). has_bucket heading.name desk.database ≡ true)
      (IsFilled set headings desk.database.policies)
      (λ heading there. record {
        same = bytes-bucket desk heading.name there;
        all = own-policies heading.name;
        rise = own-rises heading.name desk.database.policies is.database.keys_rise;
        targets = own-targets heading.name;
      }) headings headings-there

  abbrev buckets : List Bucket
  buckets = map (filled desk.database.policies) headings

  database-is : database_of buckets ≡ desk.database
  database-is =
      database-again desk.database is.database.names_rise is.database.keys_rise
      (All-weaker (IsRooted desk.database) (λ (placed : Placed). has_bucket placed.bucket desk.database ≡ true)
      (λ placed rooted. rooted.own) desk.database.policies is.database.sound.rooted)

  few : policy_count buckets ≤ most_policies
  few =
      let count = length-policies buckets in
      let same : length (flat_map placed_of buckets) ≡ length desk.database.policies =
      ap (λ (database : Database). length database.policies) database-is in
      omega (arith, count, same, is.database.sound.policies)

  -- ---- the layout

  laid-or-bare : IsBare desk ⊎ IsLaidOut desk → (is_laid_out desk.database || is_bare desk) ≡ true
  laid-or-bare (inr out) =
      ap (λ b. b || is_bare desk) (passes-all (λ name. has_bucket name desk.database) built_in out.buckets)
  laid-or-bare (inl bare) =
      ap (λ b. is_laid_out desk.database || b)
      (ap (λ b. not b && ((length desk.registry.users == 0) && (length desk.registry.installs == 0)))
      (any-none (λ name. has_bucket name desk.database) built_in bare.no_bucket)
      ∙ ap (λ (registry : RegistryLists). (length registry.users == 0) && (length registry.installs == 0)) bare.nobody)
      ∙ or-true (is_laid_out desk.database)

  no-layout-fault : layout_fault desk ≡ None
  no-layout-fault =
      ap (λ found. cond (is_some found || not (is_laid_out desk.database || is_bare desk))
      (Some (whole name.buckets)) None)
      (cycle-sound desk.database is.database.sound)
      ∙ ap (λ b. cond (not b) (Some (whole name.buckets)) None) (laid-or-bare is.layout)

  managed-text : (name : List ℕ) (policies : List Policy) → has_bucket name desk.database ≡ true
      → own name desk.database.policies ≡ map (in_bucket name) policies
      → unlike set (bucket_file name) (bucket_text policies) ≡ None
  managed-text name policies there owned =
      unlike-none set (bucket_file name) (bucket_text policies)
      (bytes-bucket desk name there
      ∙ ap bucket_text (ap (map (λ (placed : Placed). placed.policy)) owned ∙ unplaced name policies))

  no-managed-fault : managed_fault set desk ≡ None
  no-managed-fault = by (has_layout desk.database) refl
    where
      by : (has : Bool) → has_layout desk.database ≡ has
          → cond has (option_or (unlike set (bucket_file main) (bucket_text (main_policies desk.registry)))
          (unlike set (bucket_file manifests) (bucket_text (manifest_policies desk.registry)))) None ≡ None
      by true has =
          let out = laid desk is has in
          let owned = laid-owned desk out in
          both-none (unlike set (bucket_file main) (bucket_text (main_policies desk.registry)))
          (unlike set (bucket_file manifests) (bucket_text (manifest_policies desk.registry)))
          (managed-text main (main_policies desk.registry) has owned.main)
          (managed-text manifests (manifest_policies desk.registry) out.buckets.1.0 owned.manifests)
      by false has = refl

  abbrev is_wrong : Heading → Bool
  is_wrong heading = is_managed heading.name && not (heading.fallback.kind == deny)

  denies-here : (heading : Heading)
      → (is_managed heading.name ≡ true → heading.fallback ≡ record { kind = deny; metadata = [] })
      → is_wrong heading ≡ false
  denies-here heading denies = by (is_managed heading.name) refl
    where
      by : (managed : Bool) → is_managed heading.name ≡ managed
          → (managed && not (heading.fallback.kind == deny)) ≡ false
      by true is = ap not (eq-eqb heading.fallback.kind deny (ap (λ (ruling : Ruling). ruling.kind) (denies is)))
      by false is = refl

  none-wrong : IsBare desk ⊎ IsLaidOut desk → AllByRecursion (λ heading. is_wrong heading ≡ false) headings
  none-wrong (inr out) =
      All-weaker (λ (heading : Heading). is_managed heading.name ≡ true
      → heading.fallback ≡ record { kind = deny; metadata = [] })
      (λ heading. is_wrong heading ≡ false) denies-here headings out.denies
  none-wrong (inl bare) =
      All-weaker (λ (heading : Heading). (same_text heading.name main ≡ false) ×
      (same_text heading.name manifests ≡ false))
      (λ heading. is_wrong heading ≡ false)
      (λ heading apart i. (apart.0 i || apart.1 i) && not (heading.fallback.kind == deny)) headings
      (All-both (λ (heading : Heading). same_text heading.name main ≡ false)
      (λ (heading : Heading). same_text heading.name manifests ≡ false) headings
      (none-passes (λ (heading : Heading). same_text heading.name main) headings bare.no_bucket.0)
      (none-passes (λ (heading : Heading). same_text heading.name manifests) headings bare.no_bucket.1.0))

  no-fallback-fault : fallback_fault desk ≡ None
  no-fallback-fault =
      ap (λ b. cond b (Some (whole name.buckets)) None) (any-none is_wrong headings (none-wrong is.layout))

  no-load-fault : (names : List (List ℕ))
      → AllByRecursion (λ name. list_any (λ other. same_text other name) loads ≡ true) names
      → load_fault set desk names ≡ None
  no-load-fault [] there = refl
  no-load-fault (name ∷ names) there =
      both-none (unlike set (load_file name) (load_text (package_rules desk name))) (load_fault set desk names)
      (unlike-none set (load_file name) (load_text (package_rules desk name)) (bytes-load desk name there.0))
      (no-load-fault names there.1)

  -- ---- all of it

  facts : IsRead set desk
  facts = record {
    commits = desk.commit ∷ [];
    headings = headings;
    buckets = buckets;
    other_names = none-odd is_other_file fixed_files set
        (ap (filter is_other_file) (names-are desk) ∙ other-names headings spelt.buckets loads idents);
    stamp = ap commits_of (bytes-stamp desk) ∙ stamp-read desk.commit is.commit;
    lines = ap headings_of (bytes-buckets desk)
        ∙ headings-read headings spelt.buckets (headings-fit desk.database is.database) is.database.sound.root;
    bucket_names = none-odd is_bucket_file (bucket_names headings) set
        (ap (filter is_bucket_file) (names-are desk) ∙ bucket-names headings spelt.buckets loads idents);
    policies = buckets-read set headings desk.database.policies [] headings filled-all (omega (arith, few));
    users = ap users_of (bytes-users desk)
        ∙ users-read desk.registry.users spelt.users is.registry.users_rise
        (ltb-false most_users (length desk.registry.users)
        (none-when (ltb most_users (length desk.registry.users)) (Limit Users most_users) is.registry.users_fit));
    installs = ap (installs_of desk.registry.users) (bytes-apps desk)
        ∙ installs-read desk.registry.users desk.registry.installs spelt.installs is.registry;
    load_names = none-odd is_load_file (load_names loads) set
        (ap (filter is_load_file) (names-are desk) ∙ load-names headings spelt.buckets loads idents);
    template = ap template_lines_of (bytes-template desk) ∙ template-lines-read desk.template is.template;
    commit = refl;
    database = database-is;
    layout = no-layout-fault;
    managed = no-managed-fault;
    fallbacks = no-fallback-fault;
    loads = no-load-fault loads
        (each-there (λ name other. same_text other name) (λ name. ≡-same_text name name refl) loads);
  }

pub written-is-read : (desk : DeskState) → IsDesk desk → IsSpelt desk → read_of (files desk) ≡ Ok desk
written-is-read desk is spelt = facts-read (files desk) desk (facts desk is spelt)
