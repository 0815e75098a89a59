-- What is read is a policy state, of names and numbers as the types of these keep them.
use Rattle.std.proofs.Common.{◌≡◌, ℕ, ◌≤◌, ◌⊎◌, inl, inr, Bool, true, false, not, cond, ◌&&◌, ◌||◌, ◌==◌, List, [], ◌∷◌}
use Rattle.std.proofs.Common.{length, map, Option, Some, None, is_some, Ok, refl, sym, ap, subst, ◌∙◌, arith}
use Rattle.std.specs.List.{AllByRecursion, list_any}
use Rattle.std.specs.Option.{option_or}
use Rattle.std.proofs.lemmas.Bool.{true≢false, and_parts, eqb-true}
use Rattle.cynara_keys.specs.Text.{same_text}
use Rattle.cynara_keys.specs.PolicyResult.{Ruling, deny, may_carry}
use Rattle.cynara_keys.specs.declared.keys.Policy.{Policy}
use Rattle.cynara_keys.proofs.Order.{same_text-≡}
use Rattle.app_registry.specs.Rules.{IsRegistry}
use Rattle.app_registry.specs.declared.users.User.{User}
use Rattle.bucket_store.specs.Bucket.{Bucket}
use Rattle.bucket_store.specs.Database.{Database, Heading, Placed, has_bucket, heading_of, placed_of, database_of}
use Rattle.bucket_store.specs.Refusal.{cycle}
use Rattle.bucket_store.specs.WellFormed.{IsWellFormed}
use Rattle.bucket_store.proofs.Lists.{All-weaker, All-both, All-map}
use Rattle.bucket_store.proofs.Sound.{any-map, well_formed}
use Rattle.desk_ports.specs.declared.file_sets.SetFile.{SetFile}
use Rattle.desk_state.specs.DeskState.{DeskState}
use Rattle.desk_state.specs.IsDesk.{IsDesk, IsBare, IsLaidOut}
use Rattle.desk_state.specs.Limits.{last_commit}
use Rattle.desk_state.specs.Layout.{main, manifests, built_in, is_managed, main_policies, manifest_policies}
use Rattle.desk_state.proofs.Owning.{own, in_bucket, IsOwned, IsOwned-settled}
use Rattle.set_text.specs.Buckets.{bucket_text}
use Rattle.set_text.specs.Fault.{bytes_in, unlike, whole}
use Rattle.set_text.specs.FileNames as name
use Rattle.set_text.specs.FileNames.{bucket_file}
use Rattle.set_text.specs.IsSpelt.{IsRuling, IsHeading, IsInstall, IsSpelt, IsPolicy}
use Rattle.set_text.specs.Reading.{is_laid_out, is_bare, layout_fault, read_of}
use Rattle.set_text.proofs.round.BucketFiles.{IsBucketOf, AreBuckets, buckets-are, rise, kept, own-policies}
use Rattle.set_text.proofs.round.HeadingLines.{AreHeadings, headings-spelled}
use Rattle.set_text.proofs.round.InstallRules.{installs-spelled}
use Rattle.set_text.proofs.round.Lists.{some-with, flat-all, all-passes, none-passes}
use Rattle.set_text.proofs.round.Managed.{text-once, main-are, manifests-are}
use Rattle.set_text.proofs.round.OtherLines.{stamp-spelled, template-lines-spelled}
use Rattle.set_text.proofs.round.Reads.{IsRead, read-facts}
use Rattle.set_text.proofs.round.Tests.{neither, not-false, not-true, none-when}
use Rattle.set_text.proofs.round.UserLines.{users-spelled}

-- ---- faults that are not there

no-one : {X : Type 0} (one : Option X) → is_some one ≡ false → one ≡ None
no-one None h = refl
no-one (Some x) h = absurd (true≢false h)

pub both-absent : {X : Type 0} (first second : Option X) → option_or first second ≡ None
    → (first ≡ None) × (second ≡ None)
both-absent None second h = (refl, h)
both-absent (Some x) second h = cc

-- a file that is not unlike a text is this text
pub like : (set : List SetFile) (name text : List ℕ) → unlike set name text ≡ None → bytes_in set name ≡ text
like set name text h = by (same_text (bytes_in set name) text) refl h
  where
    by : (same : Bool) → same_text (bytes_in set name) text ≡ same → cond same None (Some (whole name)) ≡ None
        → bytes_in set name ≡ text
    by true is h = same_text-≡ (bytes_in set name) text is
    by false is h = cc

-- ---- the layout

record IsLaid (desk : DeskState) : Type 0 where
  no_cycle : cycle desk.database ≡ None
  laid : (is_laid_out desk.database || is_bare desk) ≡ true

laid-when : (desk : DeskState) → layout_fault desk ≡ None → IsLaid desk
laid-when desk h =
    let parts = neither (is_some (cycle desk.database)) (not (is_laid_out desk.database || is_bare desk))
    (none-when (is_some (cycle desk.database) || not (is_laid_out desk.database || is_bare desk))
    (whole name.buckets) h) in
    record {
      no_cycle = no-one (cycle desk.database) parts.0;
      laid = not-false (is_laid_out desk.database || is_bare desk) parts.1;
    }

empty-when : {X : Type 0} (xs : List X) → (length xs == 0) ≡ true → xs ≡ []
empty-when [] h = refl
empty-when (x ∷ xs) h = let none = eqb-true (length (x ∷ xs)) 0 h in absurd (omega (arith, none))

bare-when : (desk : DeskState) → is_bare desk ≡ true → IsBare desk
bare-when desk h =
    let parts = and_parts (not (list_any (λ name. has_bucket name desk.database) built_in))
    ((length desk.registry.users == 0) && (length desk.registry.installs == 0)) h in
    let others = and_parts (length desk.registry.users == 0) (length desk.registry.installs == 0) parts.1 in
    let users = empty-when desk.registry.users others.0 in
    let installs = empty-when desk.registry.installs others.1 in
    record {
      no_bucket = none-passes (λ name. has_bucket name desk.database) built_in
          (not-true (list_any (λ name. has_bucket name desk.database) built_in) parts.0);
      nobody = (λ i. record { users = users i; installs = installs i });
    }

-- ---- the fallbacks of the two buckets

no-metadata : (ruling : Ruling) → IsRuling ruling → ruling.kind ≡ deny → ruling ≡ record { kind = deny; metadata = [] }
no-metadata ruling is kind =
    let carried : may_carry deny ruling.metadata ≡ true = ap (λ (kind : ℕ). may_carry kind ruling.metadata) (sym kind)
    ∙ is.carried in
    let none : ruling.metadata ≡ [] = empty-when ruling.metadata carried in
    (λ i. record { kind = kind i; metadata = none i })

denied : (heading : Heading) → IsHeading heading
    → (is_managed heading.name && not (heading.fallback.kind == deny)) ≡ false
    → is_managed heading.name ≡ true → heading.fallback ≡ record { kind = deny; metadata = [] }
denied heading is good managed =
    let kind : not (heading.fallback.kind == deny) ≡ false =
    ap (λ b. b && not (heading.fallback.kind == deny)) (sym managed) ∙ good in
    no-metadata heading.fallback is.fallback
    (eqb-true heading.fallback.kind deny (not-false (heading.fallback.kind == deny) kind))

denies-when : (headings : List Heading) → AllByRecursion IsHeading headings
    → list_any (λ (heading : Heading). is_managed heading.name && not (heading.fallback.kind == deny)) headings ≡ false
    → AllByRecursion (λ (heading : Heading). is_managed heading.name ≡ true
    → heading.fallback ≡ record { kind = deny; metadata = [] })
    headings
denies-when headings all none =
    All-weaker (λ (heading : Heading).
    IsHeading heading × ((is_managed heading.name && not (heading.fallback.kind == deny)) ≡ false))
    (λ (heading : Heading). is_managed heading.name ≡ true → heading.fallback ≡ record { kind = deny; metadata = [] })
    (λ heading both. denied heading both.0 both.1) headings
    (All-both IsHeading (λ (heading : Heading).
    (is_managed heading.name && not (heading.fallback.kind == deny)) ≡ false) headings all
    (none-passes (λ (heading : Heading). is_managed heading.name && not (heading.fallback.kind == deny)) headings none))

-- ---- the policies of the two buckets

module _ (set : List SetFile) (text : List ℕ) (headings : List Heading) (buckets : List Bucket)
    (heads : AreHeadings text headings)
    (are : AreBuckets set headings buckets) where
  -- a bucket whose file is the text of policies has these
  pub owned : (name : List ℕ) (policies : List Policy) → has_bucket name (database_of buckets) ≡ true
      → AllByRecursion IsPolicy policies → bytes_in set (bucket_file name) ≡ bucket_text policies
      → own name (database_of buckets).policies ≡ map (in_bucket name) policies
  owned name policies has all same =
      let found = some-with (λ (bucket : Bucket). same_text bucket.name name)
      (λ (bucket : Bucket). IsBucketOf set headings bucket
      × (own bucket.name (database_of buckets).policies ≡ placed_of bucket)) buckets
      (sym (any-map (λ (heading : Heading). same_text heading.name name) heading_of buckets) ∙ has)
      (All-both (IsBucketOf set headings)
      (λ (bucket : Bucket). own bucket.name (database_of buckets).policies ≡ placed_of bucket) buckets
      are.all (own-policies buckets (rise set text headings buckets heads are))) in
      let bucket = found.0 in
      let named : bucket.name ≡ name = same_text-≡ bucket.name name found.1 in
      let texts : bucket_text bucket.policies ≡ bucket_text policies =
      sym found.2.0.same ∙ ap (λ (name : List ℕ). bytes_in set (bucket_file name)) named ∙ same in
      let one : bucket.policies ≡ policies = text-once bucket.policies policies found.2.0.all all texts in
      ap (λ (name : List ℕ). own name (database_of buckets).policies) (sym named)
      ∙ found.2.1
      ∙ (λ i. map (in_bucket (named i)) (one i))

-- ---- the state

pub record IsState (desk : DeskState) : Type 0 where
  pub sound : IsDesk desk
  pub spelt : IsSpelt desk

module _ (set : List SetFile) (desk : DeskState) (is : IsRead set desk) where
  abbrev pub heads : AreHeadings (bytes_in set name.buckets) is.headings
  heads = headings-spelled (bytes_in set name.buckets) is.headings is.lines

  abbrev pub are : AreBuckets set is.headings is.buckets
  are = buckets-are set is.headings is.buckets is.policies

  users : AllByRecursion (λ (user : User). user.uid ≤ 4294967295) desk.registry.users
  users = (users-spelled (bytes_in set name.users) desk.registry.users is.users).all

  apps : AllByRecursion IsInstall desk.registry.installs × IsRegistry desk.registry.users desk.registry.installs
  apps =
      let told = installs-spelled desk.registry.users (bytes_in set name.users)
      (bytes_in set name.apps) desk.registry.installs
      (users-spelled (bytes_in set name.users) desk.registry.users is.users) is.installs in
      (told.1, told.2)

  pub headings-same : desk.database.buckets ≡ is.headings
  headings-same = ap (λ (database : Database). database.buckets) (sym is.database) ∙ are.headed

  headings-all : AllByRecursion IsHeading desk.database.buckets
  headings-all = subst (AllByRecursion IsHeading) (sym headings-same) heads.all

  well : IsWellFormed desk.database
  well =
      subst IsWellFormed is.database
      (well_formed is.buckets (kept set (bytes_in set name.buckets) is.headings is.buckets heads are
      (ap cycle is.database ∙ (laid-when desk is.layout).no_cycle)))

  laid-out : is_laid_out desk.database ≡ true → IsLaidOut desk
  laid-out all =
      let there = all-passes (λ name. has_bucket name desk.database) built_in all in
      let both : option_or (unlike set (bucket_file main) (bucket_text (main_policies desk.registry)))
      (unlike set (bucket_file manifests) (bucket_text (manifest_policies desk.registry))) ≡ None =
      sym (ap (λ b. cond b (option_or (unlike set (bucket_file main) (bucket_text (main_policies desk.registry)))
      (unlike set (bucket_file manifests)
      (bucket_text (manifest_policies desk.registry)))) None) there.0) ∙ is.managed in
      let texts = both-absent (unlike set (bucket_file main) (bucket_text (main_policies desk.registry)))
      (unlike set (bucket_file manifests) (bucket_text (manifest_policies desk.registry))) both in
      let owner = owned set (bytes_in set name.buckets) is.headings is.buckets heads are in
      let has = λ (name : List ℕ) (yes : has_bucket name desk.database ≡ true). ap (has_bucket name) is.database
      ∙ yes in
      let owns : IsOwned desk.registry (database_of is.buckets).policies = record {
        main = owner main (main_policies desk.registry) (has main there.0) (main-are desk.registry users)
            (like set (bucket_file main) (bucket_text (main_policies desk.registry)) texts.0);
        manifests = owner manifests (manifest_policies desk.registry) (has manifests there.1.0)
            (manifests-are desk.registry apps.0)
            (like set (bucket_file manifests) (bucket_text (manifest_policies desk.registry)) texts.1);
      } in
      record {
        buckets = there;
        denies = denies-when desk.database.buckets headings-all (none-when
            (list_any (λ (heading : Heading). is_managed heading.name && not
            (heading.fallback.kind == deny)) desk.database.buckets)
            (whole name.buckets) is.fallbacks);
        settled = IsOwned-settled desk.registry desk.database well.keys_rise
            (subst (λ (database : Database). IsOwned desk.registry database.policies) is.database owns);
      }

  arranged : (laid : Bool) → is_laid_out desk.database ≡ laid → (laid || is_bare desk) ≡ true
      → IsBare desk ⊎ IsLaidOut desk
  arranged true there h = inr (laid-out there)
  arranged false absent h = inl (bare-when desk h)

  placed-all : AllByRecursion (λ (placed : Placed). IsPolicy placed.policy) desk.database.policies
  placed-all =
      subst (λ (database : Database). AllByRecursion
      (λ (placed : Placed). IsPolicy placed.policy) database.policies) is.database
      (flat-all (λ (placed : Placed). IsPolicy placed.policy) placed_of is.buckets
      (All-weaker (IsBucketOf set is.headings)
      (λ (bucket : Bucket). AllByRecursion (λ (placed : Placed). IsPolicy placed.policy) (placed_of bucket))
      (λ bucket of. All-map (λ (placed : Placed). IsPolicy placed.policy)
      (λ (policy : Policy). record { bucket = bucket.name; policy = policy })
      bucket.policies of.all) is.buckets are.all))

  pub state-from : IsState desk
  state-from = record {
    sound = record {
      database = well;
      registry = apps.1;
      template = (template-lines-spelled (bytes_in set name.template) desk.template is.template).1;
      commit = subst (λ (commit : ℕ). commit ≤ last_commit) is.commit
          (stamp-spelled (bytes_in set name.stamp) is.commits is.stamp).1;
      layout = arranged (is_laid_out desk.database) refl (laid-when desk is.layout).laid;
    };
    spelt = record { buckets = headings-all; policies = placed-all; users = users; installs = apps.0 };
  }

pub read-is-desk : (set : List SetFile) (desk : DeskState) → read_of set ≡ Ok desk → IsDesk desk
read-is-desk set desk h = (state-from set desk (read-facts set desk h)).sound

pub read-is-spelt : (set : List SetFile) (desk : DeskState) → read_of set ≡ Ok desk → IsSpelt desk
read-is-spelt set desk h = (state-from set desk (read-facts set desk h)).spelt
