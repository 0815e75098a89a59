-- A set that reads as a state is the set of files of this state.
use Rattle.std.proofs.Common.{◌≡◌, ℕ, true, List, [], ◌∷◌, ◌++◌, map, None, Ok, refl, sym, ap, subst, ◌∙◌}
use Rattle.std.specs.List.{AllByRecursion, list_any, flat_map, filter}
use Rattle.cynara_keys.specs.Text.{same_text}
use Rattle.cynara_keys.specs.declared.keys.Policy.{Policy}
use Rattle.cynara_keys.proofs.Order.{≡-same_text}
use Rattle.app_registry.specs.Registry.{packages}
use Rattle.bucket_store.specs.Bucket.{Bucket}
use Rattle.bucket_store.specs.Database.{Database, Heading, Placed, has_bucket, heading_of, placed_of, database_of}
use Rattle.bucket_store.proofs.Lists.{All-weaker, All-both, All-map, All-append}
use Rattle.desk_ports.specs.FileMap.{NamesRise, names_of}
use Rattle.desk_ports.specs.declared.file_sets.SetFile.{SetFile}
use Rattle.desk_state.specs.DeskState.{DeskState, package_rules}
use Rattle.set_text.specs.Buckets.{buckets_text, bucket_text}
use Rattle.set_text.specs.Fault.{bytes_in, unlike}
use Rattle.set_text.specs.FileNames as name
use Rattle.set_text.specs.FileNames.{fixed_files, bucket_file, load_file, is_bucket_file, is_load_file, is_other_file}
use Rattle.set_text.specs.Files.{policies_in, files}
use Rattle.set_text.specs.Reading.{load_fault, read_of}
use Rattle.set_text.specs.Registry.{is_ident}
use Rattle.set_text.specs.Stamp.{stamp_text}
use Rattle.set_text.specs.Template.{load_text}
use Rattle.set_text.proofs.round.BucketFiles.{IsBucketOf, rise, own-policies}
use Rattle.set_text.proofs.round.Desks.{IsState, both-absent, like, heads, are, headings-same, state-from}
use Rattle.set_text.proofs.round.InstallRules.{installs-spelled}
use Rattle.set_text.proofs.round.Lists.{each-there}
use Rattle.set_text.proofs.round.OtherLines.{stamp-spelled, template-lines-spelled}
use Rattle.set_text.proofs.round.Reads.{IsRead, read-facts}
use Rattle.set_text.proofs.round.SetBytes.{bytes-bucket, bytes-load, bytes-apps, bytes-buckets, bytes-stamp}
use Rattle.set_text.proofs.round.SetBytes.{bytes-template, bytes-users, same-files}
use Rattle.set_text.proofs.round.SetNames.{bucket_names, load_names, last_names, all_names, names-are, names-rise}
use Rattle.set_text.proofs.round.SetNames.{packages-rise, packages-named, other-names, bucket-names, load-names}
use Rattle.set_text.proofs.round.SetNames.{odd-none, known-by-sorts}
use Rattle.set_text.proofs.round.UserLines.{users-spelled}

pub unplaced : (name : List ℕ) (policies : List Policy)
    → map (λ (placed : Placed). placed.policy)
    (map (λ (policy : Policy). record { bucket = name; policy = policy }) policies) ≡ policies
unplaced name [] = refl
unplaced name (policy ∷ policies) = ap (λ rest. policy ∷ rest) (unplaced name policies)

loads-like : (set : List SetFile) (desk : DeskState) (names : List (List ℕ)) → load_fault set desk names ≡ None
    → AllByRecursion (λ name. bytes_in set (load_file name) ≡ load_text (package_rules desk name)) names
loads-like set desk [] h = tt
loads-like set desk (name ∷ names) h =
    let parts = both-absent (unlike set (load_file name) (load_text (package_rules desk name)))
    (load_fault set desk names) h in
    (like set (load_file name) (load_text (package_rules desk name)) parts.0, loads-like set desk names parts.1)

module _ (set : List SetFile) (desk : DeskState) (is : IsRead set desk) (rise-set : NamesRise (names_of set)) where
  abbrev state : IsState desk
  state = state-from set desk is

  abbrev headings : List Heading
  headings = desk.database.buckets

  abbrev loads : List (List ℕ)
  loads = packages desk.registry.installs

  abbrev idents : AllByRecursion (λ name. is_ident name ≡ true) loads
  idents = packages-named desk.registry.installs state.spelt.installs

  -- ---- the names

  buckets-wanted : bucket_names is.headings ≡ bucket_names headings
  buckets-wanted = ap bucket_names (sym (headings-same set desk is))

  rise-all : NamesRise (all_names headings loads)
  rise-all =
      names-rise headings loads state.sound.database.names_rise
      (packages-rise desk.registry.installs state.sound.registry.installs_rise)

  names : names_of set ≡ all_names headings loads
  names =
      known-by-sorts (names_of set) (all_names headings loads) rise-set rise-all
      (sym (odd-none is_other_file fixed_files set is.other_names) ∙ sym
      (other-names headings state.spelt.buckets loads idents))
      (sym (odd-none is_bucket_file (bucket_names is.headings) set is.bucket_names) ∙ buckets-wanted
      ∙ sym (bucket-names headings state.spelt.buckets loads idents))
      (sym (odd-none is_load_file (load_names loads) set is.load_names)
      ∙ sym (load-names headings state.spelt.buckets loads idents))

  -- ---- the bytes

  abbrev SameBytes : List ℕ → Type 0
  SameBytes name = bytes_in set name ≡ bytes_in (files desk) name

  bucket-texts : AllByRecursion (λ (heading : Heading).
      bytes_in set (bucket_file heading.name) ≡ bucket_text (policies_in desk.database heading.name)) headings
  bucket-texts =
      subst (λ (database : Database). AllByRecursion (λ (heading : Heading).
      bytes_in set (bucket_file heading.name) ≡ bucket_text
      (policies_in database heading.name)) database.buckets) is.database
      (All-map (λ (heading : Heading).
      bytes_in set (bucket_file heading.name) ≡ bucket_text
      (policies_in (database_of is.buckets) heading.name)) heading_of is.buckets
      (All-weaker (λ (bucket : Bucket). IsBucketOf set is.headings bucket
      × (filter (λ (placed : Placed). same_text placed.bucket bucket.name)
      (flat_map placed_of is.buckets) ≡ placed_of bucket))
      (λ (bucket : Bucket). bytes_in set (bucket_file bucket.name) ≡ bucket_text
      (policies_in (database_of is.buckets) bucket.name))
      (λ bucket both. both.0.same
      ∙ ap bucket_text (sym
      (ap (map (λ (placed : Placed). placed.policy)) both.1 ∙ unplaced bucket.name bucket.policies))) is.buckets
      (All-both (IsBucketOf set is.headings)
      (λ (bucket : Bucket). filter (λ (placed : Placed). same_text placed.bucket bucket.name)
      (flat_map placed_of is.buckets)
      ≡ placed_of bucket) is.buckets (are set desk is).all
      (own-policies is.buckets
      (rise set (bytes_in set name.buckets) is.headings is.buckets (heads set desk is) (are set desk is))))))

  bucket-bytes : AllByRecursion SameBytes (bucket_names headings)
  bucket-bytes =
      All-map SameBytes (λ (heading : Heading). bucket_file heading.name) headings
      (All-weaker (λ (heading : Heading).
      (bytes_in set (bucket_file heading.name) ≡ bucket_text (policies_in desk.database heading.name))
      × (has_bucket heading.name desk.database ≡ true)) (λ (heading : Heading). SameBytes (bucket_file heading.name))
      (λ heading both. both.0 ∙ sym (bytes-bucket desk heading.name both.1)) headings
      (All-both (λ (heading : Heading).
      bytes_in set (bucket_file heading.name) ≡ bucket_text (policies_in desk.database heading.name))
      (λ (heading : Heading). has_bucket heading.name desk.database ≡ true) headings bucket-texts
      (each-there (λ (heading other : Heading). same_text other.name heading.name)
      (λ heading. ≡-same_text heading.name heading.name refl) headings)))

  load-bytes : AllByRecursion SameBytes (load_names loads)
  load-bytes =
      All-map SameBytes load_file loads
      (All-weaker (λ name. (bytes_in set (load_file name) ≡ load_text (package_rules desk name))
      × (list_any (λ other. same_text other name) loads ≡ true)) (λ name. SameBytes (load_file name))
      (λ name both. both.0 ∙ sym (bytes-load desk name both.1)) loads
      (All-both (λ name. bytes_in set (load_file name) ≡ load_text (package_rules desk name))
      (λ name. list_any (λ other. same_text other name) loads ≡ true) loads (loads-like set desk loads is.loads)
      (each-there (λ name other. same_text other name) (λ name. ≡-same_text name name refl) loads)))

  apps-bytes : SameBytes name.apps
  apps-bytes =
      (installs-spelled desk.registry.users (bytes_in set name.users) (bytes_in set name.apps) desk.registry.installs
      (users-spelled (bytes_in set name.users) desk.registry.users is.users) is.installs).0 ∙ sym (bytes-apps desk)

  buckets-bytes : SameBytes name.buckets
  buckets-bytes = (heads set desk is).same ∙ ap buckets_text (sym (headings-same set desk is))
      ∙ sym (bytes-buckets desk)

  stamp-bytes : SameBytes name.stamp
  stamp-bytes =
      (stamp-spelled (bytes_in set name.stamp) is.commits is.stamp).0 ∙ ap stamp_text is.commit ∙ sym (bytes-stamp desk)

  template-bytes : SameBytes name.template
  template-bytes =
      (template-lines-spelled (bytes_in set name.template) desk.template is.template).0 ∙ sym (bytes-template desk)

  users-bytes : SameBytes name.users
  users-bytes = (users-spelled (bytes_in set name.users) desk.registry.users is.users).same ∙ sym (bytes-users desk)

  all-bytes : AllByRecursion SameBytes (all_names headings loads)
  all-bytes =
      All-append SameBytes (bucket_names headings)
      (name.apps ∷ name.buckets ∷ (load_names loads ++ last_names)) bucket-bytes (
        apps-bytes,
        (
          buckets-bytes,
          All-append SameBytes (load_names loads) last_names load-bytes
              (stamp-bytes, (template-bytes, (users-bytes, tt))),
        ),
      )

  same-set : set ≡ files desk
  same-set =
      same-files set (files desk) (names ∙ sym (names-are desk)) rise-set
      (subst (AllByRecursion SameBytes) (sym names) all-bytes)

pub read-is-written : (set : List SetFile) (desk : DeskState) → NamesRise (names_of set) → read_of set ≡ Ok desk
    → set ≡ files desk
read-is-written set desk rise-set h = same-set set desk (read-facts set desk h) rise-set
