-- The bytes of each of a state's files.
use Rattle.std.proofs.Common.{◌≡◌, ℕ, Bool, true, false, cond, ◌||◌, List, [], ◌∷◌, ◌++◌, map, refl, sym, ap, subst}
use Rattle.std.proofs.Common.{◌∙◌}
use Rattle.std.specs.declared.cmp.Ordering.TheVariants.{Less}
use Rattle.std.specs.List.{AllByRecursion, list_any}
use Rattle.std.specs.List.Sorted.{IsStrictlySortedBy}
use Rattle.std.specs.Ordering.{is_eq}
use Rattle.std.proofs.lemmas.Bool.{true≢false}
use Rattle.cynara_keys.specs.Text.{same_text, text_cmp}
use Rattle.cynara_keys.proofs.Order.{same_text-≡, ≡-same_text, text_cmp-equal}
use Rattle.app_registry.specs.Registry.{packages}
use Rattle.bucket_store.specs.Database.{Heading, has_bucket}
use Rattle.desk_ports.specs.FileMap.{NamesRise, names_of}
use Rattle.desk_ports.specs.declared.file_sets.SetFile.{SetFile}
use Rattle.desk_state.specs.DeskState.{DeskState, package_rules}
use Rattle.rule_templates.specs.Template.{template_text}
use Rattle.set_text.specs.Buckets.{buckets_text, bucket_text}
use Rattle.set_text.specs.Fault.{bytes_in}
use Rattle.set_text.specs.FileNames as name
use Rattle.set_text.specs.FileNames.{bucket_file, load_file}
use Rattle.set_text.specs.Files.{file, policies_in, load_files, files}
use Rattle.set_text.specs.Registry.{users_text, apps_text}
use Rattle.set_text.specs.Stamp.{stamp_text}
use Rattle.set_text.specs.Template.{load_text}

-- ---- a file for each element of a list

module _ {X : Type 0} (key : X → List ℕ) (named : List ℕ → List ℕ) (text : List ℕ → List ℕ) where
  abbrev one : X → SetFile
  one x = file (named (key x)) (text (key x))

  -- the file of another sort
  past : (name : List ℕ) → ((own : List ℕ) → same_text (named own) name ≡ false) → (xs : List X) (set : List SetFile)
      → bytes_in (map one xs ++ set) name ≡ bytes_in set name
  past name apart [] set = refl
  past name apart (x ∷ xs) set =
      ap (λ b. cond b (text (key x)) (bytes_in (map one xs ++ set) name)) (apart (key x)) ∙ past name apart xs set

  among : ((a b : List ℕ) → same_text (named a) (named b) ≡ same_text a b)
      → (name : List ℕ) (xs : List X) (set : List SetFile)
      → list_any (λ x. same_text (key x) name) xs ≡ true → bytes_in (map one xs ++ set) (named name) ≡ text name
  among apart name [] set there = absurd (true≢false (sym there))
  among apart name (x ∷ xs) set there =
      ap (λ b. cond b (text (key x)) (bytes_in (map one xs ++ set) (named name))) (apart (key x) name)
      ∙ by (same_text (key x) name) refl there (among apart name xs set)
    where
      by : (same : Bool) → same_text (key x) name ≡ same → (same || list_any (λ x. same_text (key x) name) xs) ≡ true
          → (list_any (λ x. same_text (key x) name) xs ≡ true → bytes_in (map one xs ++ set) (named name) ≡ text name)
          → cond same (text (key x)) (bytes_in (map one xs ++ set) (named name)) ≡ text name
      by true is there rest = ap text (same_text-≡ (key x) name is)
      by false is there rest = rest there

-- ---- the files of a state

module _ (desk : DeskState) where
  abbrev last : List SetFile
  last = file name.stamp (stamp_text desk.commit)
      ∷ file name.template (template_text desk.template) ∷ file name.users (users_text desk.registry.users) ∷ []

  abbrev middle : List SetFile
  middle = file name.apps (apps_text desk.registry.installs)
      ∷ file name.buckets (buckets_text desk.database.buckets) ∷ (load_files desk ++ last)

  abbrev bucket_bytes : List ℕ → List ℕ
  bucket_bytes name = bucket_text (policies_in desk.database name)

  abbrev load_bytes : List ℕ → List ℕ
  load_bytes name = load_text (package_rules desk name)

  past-buckets : (name : List ℕ) → ((own : List ℕ) → same_text (bucket_file own) name ≡ false)
      → bytes_in (files desk) name ≡ bytes_in middle name
  past-buckets name apart =
      past (λ (heading : Heading). heading.name) bucket_file bucket_bytes name apart desk.database.buckets middle

  past-loads : (name : List ℕ) → ((own : List ℕ) → same_text (load_file own) name ≡ false)
      → bytes_in (load_files desk ++ last) name ≡ bytes_in last name
  past-loads name apart = past (λ (name : List ℕ). name) load_file load_bytes name apart
      (packages desk.registry.installs) last

  pub bytes-bucket : (name : List ℕ) → has_bucket name desk.database ≡ true
      → bytes_in (files desk) (bucket_file name) ≡ bucket_text (policies_in desk.database name)
  bytes-bucket name there =
      among (λ (heading : Heading). heading.name) bucket_file bucket_bytes
      (λ a b. refl) name desk.database.buckets middle there

  pub bytes-load : (name : List ℕ) → list_any (λ other. same_text other name) (packages desk.registry.installs) ≡ true
      → bytes_in (files desk) (load_file name) ≡ load_text (package_rules desk name)
  bytes-load name there =
      past-buckets (load_file name) (λ own. refl)
      ∙ among (λ (name : List ℕ). name) load_file load_bytes (λ a b. refl) name
      (packages desk.registry.installs) last there

  pub bytes-apps : bytes_in (files desk) name.apps ≡ apps_text desk.registry.installs
  bytes-apps = past-buckets name.apps (λ own. refl)

  pub bytes-buckets : bytes_in (files desk) name.buckets ≡ buckets_text desk.database.buckets
  bytes-buckets = past-buckets name.buckets (λ own. refl)

  pub bytes-stamp : bytes_in (files desk) name.stamp ≡ stamp_text desk.commit
  bytes-stamp = past-buckets name.stamp (λ own. refl) ∙ past-loads name.stamp (λ own. refl)

  pub bytes-template : bytes_in (files desk) name.template ≡ template_text desk.template
  bytes-template = past-buckets name.template (λ own. refl) ∙ past-loads name.template (λ own. refl)

  pub bytes-users : bytes_in (files desk) name.users ≡ users_text desk.registry.users
  bytes-users = past-buckets name.users (λ own. refl) ∙ past-loads name.users (λ own. refl)

-- ---- sets with the same names and the same bytes

behind-head : (name bytes : List ℕ) (set : List SetFile) (names : List (List ℕ))
    → AllByRecursion (λ other. text_cmp name other ≡ Less) names
    → AllByRecursion (λ other. bytes_in (file name bytes ∷ set) other ≡ bytes_in set other) names
behind-head name bytes set [] all = tt
behind-head name bytes set (other ∷ names) all = (
  ap (λ b. cond b bytes (bytes_in set other)) (sym (text_cmp-equal name other) ∙ ap is_eq all.0),
  behind-head name bytes set names all.1,
)

without-head : (set others : List SetFile) (first second : SetFile) (names : List (List ℕ))
    → AllByRecursion (λ other. bytes_in (first ∷ set) other ≡ bytes_in set other) names
    → AllByRecursion (λ other. bytes_in (second ∷ others) other ≡ bytes_in others other) names
    → AllByRecursion (λ other. bytes_in (first ∷ set) other ≡ bytes_in (second ∷ others) other) names
    → AllByRecursion (λ other. bytes_in set other ≡ bytes_in others other) names
without-head set others first second [] one two same = tt
without-head set others first second (name ∷ names) one two same =
    (sym one.0 ∙ same.0 ∙ two.0, without-head set others first second names one.1 two.1 same.1)

head-name : (a b : List ℕ) (xs ys : List (List ℕ)) → a ∷ xs ≡ b ∷ ys → (a ≡ b) × (xs ≡ ys)
head-name a b xs ys h = (cc, cc)

bytes-own : (file : SetFile) (set : List SetFile) → bytes_in (file ∷ set) file.name ≡ file.bytes
bytes-own file set = ap (λ b. cond b file.bytes (bytes_in set file.name)) (≡-same_text file.name file.name refl)

pub same-files : (set others : List SetFile) → names_of set ≡ names_of others → NamesRise (names_of set)
    → AllByRecursion (λ name. bytes_in set name ≡ bytes_in others name) (names_of set) → set ≡ others
unfolding IsStrictlySortedBy
same-files [] [] names rise same = refl
same-files [] (second ∷ others) names rise same = cc
same-files (first ∷ set) [] names rise same = cc
same-files (first ∷ set) (second ∷ others) names rise same =
    let parts = head-name first.name second.name (names_of set) (names_of others) names in
    let bytes : first.bytes ≡ second.bytes =
    sym (bytes-own first set) ∙ same.0 ∙ ap (bytes_in (second ∷ others)) parts.0 ∙ bytes-own second others in
    let below : AllByRecursion (λ other. text_cmp second.name other ≡ Less) (names_of set) =
    subst (λ name. AllByRecursion (λ other. text_cmp name other ≡ Less) (names_of set)) parts.0 rise.0 in
    let rest = same-files set others parts.1 rise.1
    (without-head set others first second (names_of set) (behind-head first.name first.bytes set (names_of set) rise.0)
    (behind-head second.name second.bytes others (names_of set) below) same.1) in
    (λ i. record { name = parts.0 i; bytes = bytes i } ∷ rest i)
