-- The names of a state's files: they rise, and those of each sort are those that are wanted.
use Rattle.std.proofs.Common.{◌≡◌, ℕ, Bool, true, false, not, cond, ◌||◌, List, [], ◌∷◌, ◌++◌, map, None, refl, sym, ap}
use Rattle.std.proofs.Common.{subst, ◌∙◌, append-nil}
use Rattle.std.specs.declared.cmp.Ordering.{Ordering}
use Rattle.std.specs.declared.cmp.Ordering.TheVariants.{Less, Equal, Greater}
use Rattle.std.specs.List.{AllByRecursion, list_any, filter, dedup_from}
use Rattle.std.specs.List.Sorted.{IsStrictlySortedBy}
use Rattle.std.specs.Option.{option_map}
use Rattle.std.specs.Ordering.{is_eq, is_gt, ordering_then}
use Rattle.std.proofs.lemmas.Bool.{true≢false}
use Rattle.std.proofs.lemmas.Cmp.{tied_itself}
use Rattle.std.proofs.lemmas.List.{map-append}
use Rattle.std.proofs.lemmas.List.Elements.{filter-append}
use Rattle.cynara_keys.specs.Text.{same_text, text_cmp}
use Rattle.cynara_keys.proofs.Order.{same_text-≡, ≡-same_text, text_total, text_cmp-equal}
use Rattle.app_registry.specs.Install.{install_cmp}
use Rattle.app_registry.specs.Registry.{packages}
use Rattle.app_registry.specs.declared.installs.Install.{Install}
use Rattle.app_registry.proofs.Filters.{option_map-none}
use Rattle.app_registry.proofs.Rising.{all_tied, same_from_tied}
use Rattle.bucket_store.specs.Database.{Heading}
use Rattle.bucket_store.specs.Order.{heading_cmp}
use Rattle.bucket_store.proofs.Lists.{All-weaker, All-map, All-append, filter-all, filter-none}
use Rattle.bucket_store.proofs.Searching.{strictly-append}
use Rattle.desk_ports.specs.FileMap.{NamesRise, names_of}
use Rattle.desk_ports.specs.declared.file_sets.SetFile.{SetFile}
use Rattle.desk_state.specs.DeskState.{DeskState, package_rules}
use Rattle.rule_templates.specs.Template.{template_text}
use Rattle.set_text.specs.Buckets.{buckets_text, bucket_text}
use Rattle.set_text.specs.Fault.{odd_by, odd_name, whole}
use Rattle.set_text.specs.FileNames as name
use Rattle.set_text.specs.FileNames.{fixed_files, bucket_file, load_file, is_bucket_file, is_load_file, is_other_file}
use Rattle.set_text.specs.Files.{file, policies_in, bucket_files, load_files, files}
use Rattle.set_text.specs.IsSpelt.{IsHeading, IsInstall}
use Rattle.set_text.specs.Reading.{odd_file}
use Rattle.set_text.specs.Registry.{is_ident, users_text, apps_text}
use Rattle.set_text.specs.Stamp.{stamp_text}
use Rattle.set_text.specs.Template.{load_text}

-- ---- the names of packages

-- each is not behind the next
abbrev pub NoneBehind : List ℕ → List (List ℕ) → Type 0
NoneBehind name [] = Unit {0}
NoneBehind name (next ∷ names) = (is_gt (text_cmp name next) ≡ false) × NoneBehind next names

record RiseFrom (name : List ℕ) (names : List (List ℕ)) : Type 0 where
  rise : IsStrictlySortedBy text_cmp (dedup_from same_text name names)
  above : (other : List ℕ) → text_cmp other name ≡ Less
      → AllByRecursion (λ next. text_cmp other next ≡ Less) (dedup_from same_text name names)

before-next : (name next : List ℕ) → is_gt (text_cmp name next) ≡ false → same_text next name ≡ false
    → text_cmp name next ≡ Less
before-next name next level apart = by (text_cmp name next) refl level
  where
    by : (o : Ordering) → text_cmp name next ≡ o → is_gt o ≡ false → o ≡ Less
    by Less is level = refl
    by Equal is level =
        let same : name ≡ next = same_text-≡ name next (sym (text_cmp-equal name next) ∙ ap is_eq is) in
        absurd (true≢false (sym (≡-same_text next name (sym same)) ∙ apart))
    by Greater is level = absurd (true≢false level)

once-rise : (name : List ℕ) (names : List (List ℕ)) → NoneBehind name names → RiseFrom name names
unfolding IsStrictlySortedBy
once-rise name [] level = record { rise = (tt, tt); above = λ other below. (below, tt) }
once-rise name (next ∷ names) level =
    by (same_text next name) refl (λ same. once-rise name names (subst (λ other. NoneBehind other names) same level.1))
    (once-rise next names level.1)
  where
    by : (same : Bool) → same_text next name ≡ same → (next ≡ name → RiseFrom name names) → RiseFrom next names
        → RiseFrom name (next ∷ names)
    by true is goes_on begins =
        let rest = goes_on (same_text-≡ next name is) in
        let list : dedup_from same_text name names ≡ dedup_from same_text name (next ∷ names) =
        ap (λ b. cond b (dedup_from same_text name names) (name ∷ dedup_from same_text next names)) (sym is) in
        record {
          rise = subst (IsStrictlySortedBy text_cmp) list rest.rise;
          above = λ other below. subst (AllByRecursion (λ next. text_cmp other next ≡ Less)) list
              (rest.above other below);
        }
    by false is goes_on begins =
        let less = before-next name next level.0 is in
        let list : name ∷ dedup_from same_text next names ≡ dedup_from same_text name (next ∷ names) =
        ap (λ b. cond b (dedup_from same_text name names) (name ∷ dedup_from same_text next names)) (sym is) in
        record {
          rise = subst (IsStrictlySortedBy text_cmp) list (begins.above name less, begins.rise);
          above = λ other below. subst (AllByRecursion (λ next. text_cmp other next ≡ Less)) list
              (below, begins.above other (text_total.trans other name next below less));
        }

not-behind : (o p : Ordering) → ordering_then o p ≡ Less → is_gt o ≡ false
not-behind Less p h = refl
not-behind Equal p h = refl
not-behind Greater p h = cc

level-names : (first : Install) (installs : List Install) → IsStrictlySortedBy install_cmp (first ∷ installs)
    → NoneBehind first.«package» (map (λ (install : Install). install.«package») installs)
unfolding IsStrictlySortedBy
level-names first [] rise = tt
level-names first (next ∷ installs) rise =
    (not-behind (text_cmp first.«package» next.«package») _ rise.0.0, level-names next installs rise.1)

pub packages-rise : (installs : List Install) → IsStrictlySortedBy install_cmp installs
    → IsStrictlySortedBy text_cmp (packages installs)
unfolding IsStrictlySortedBy
packages-rise [] rise = tt
packages-rise (first ∷ installs) rise =
    (once-rise first.«package» (map (λ (install : Install). install.«package») installs)
    (level-names first installs rise)).rise

pub once-all : (P : List ℕ → Type 0) (name : List ℕ) (names : List (List ℕ)) → P name → AllByRecursion P names
    → AllByRecursion P (dedup_from same_text name names)
once-all P name [] here all = (here, tt)
once-all P name (next ∷ names) here all =
    by (same_text next name) (once-all P name names here all.1) (once-all P next names all.0 all.1)
  where
    by : (same : Bool) → AllByRecursion P (dedup_from same_text name names)
        → AllByRecursion P (dedup_from same_text next names)
        → AllByRecursion P (cond same (dedup_from same_text name names) (name ∷ dedup_from same_text next names))
    by true goes_on begins = goes_on
    by false goes_on begins = (here, begins)

pub packages-named : (installs : List Install) → AllByRecursion IsInstall installs
    → AllByRecursion (λ name. is_ident name ≡ true) (packages installs)
packages-named [] all = tt
packages-named (first ∷ installs) all =
    once-all (λ name. is_ident name ≡ true) first.«package»
    (map (λ (install : Install). install.«package») installs) all.0.«package»
    (All-map (λ name. is_ident name ≡ true) (λ (install : Install). install.«package») installs
    (All-weaker IsInstall (λ (install : Install). is_ident install.«package» ≡ true)
    (λ install is. is.«package») installs all.1))

-- ---- all names

abbrev pub bucket_names : List Heading → List (List ℕ)
bucket_names headings = map (λ (heading : Heading). bucket_file heading.name) headings

abbrev pub load_names : List (List ℕ) → List (List ℕ)
load_names packages = map load_file packages

abbrev pub last_names : List (List ℕ)
last_names = name.stamp ∷ name.template ∷ name.users ∷ []

abbrev pub all_names : List Heading → List (List ℕ) → List (List ℕ)
all_names headings packages = bucket_names headings ++ (name.apps ∷ name.buckets ∷ (load_names packages ++ last_names))

bucket-names-of : (headings : List Heading) (make : Heading → List ℕ)
    → names_of (map (λ (heading : Heading). record { name = bucket_file heading.name; bytes = make heading }) headings)
    ≡ bucket_names headings
bucket-names-of [] make = refl
bucket-names-of (heading ∷ headings) make = ap (λ names. bucket_file heading.name ∷ names)
    (bucket-names-of headings make)

load-names-of : (packages : List (List ℕ)) (make : List ℕ → List ℕ)
    → names_of (map (λ name. record { name = load_file name; bytes = make name }) packages) ≡ load_names packages
load-names-of [] make = refl
load-names-of (name ∷ packages) make = ap (λ names. load_file name ∷ names) (load-names-of packages make)

-- ---- they rise

buckets-rise : (headings : List Heading) → IsStrictlySortedBy heading_cmp headings → NamesRise (bucket_names headings)
unfolding IsStrictlySortedBy
buckets-rise [] rise = tt
buckets-rise (heading ∷ headings) rise = (
  All-map (λ other. text_cmp (bucket_file heading.name) other ≡ Less)
      (λ (heading : Heading). bucket_file heading.name) headings rise.0,
  buckets-rise headings rise.1,
)

loads-rise : (packages : List (List ℕ)) → IsStrictlySortedBy text_cmp packages → NamesRise (load_names packages)
unfolding IsStrictlySortedBy
loads-rise [] rise = tt
loads-rise (package_name ∷ packages) rise = (
  All-map (λ other. text_cmp (load_file package_name) other ≡ Less) load_file packages rise.0,
  loads-rise packages rise.1,
)

all-loads : (P : List ℕ → Type 0) → ((name : List ℕ) → P (load_file name)) → (packages : List (List ℕ))
    → AllByRecursion P (load_names packages)
all-loads P each [] = tt
all-loads P each (name ∷ packages) = (each name, all-loads P each packages)

all-buckets : (P : List ℕ → Type 0) → ((name : List ℕ) → P (bucket_file name)) → (headings : List Heading)
    → AllByRecursion P (bucket_names headings)
all-buckets P each [] = tt
all-buckets P each (heading ∷ headings) = (each heading.name, all-buckets P each headings)

-- below all names from a place on
abbrev Below : List ℕ → List (List ℕ) → Type 0
Below name names = AllByRecursion (λ other. text_cmp name other ≡ Less) names

behind-loads : (name : List ℕ) (packages : List (List ℕ)) → Below name (load_names packages) → Below name last_names
    → Below name (load_names packages ++ last_names)
behind-loads name packages loads last = All-append (λ other. text_cmp name other ≡ Less)
    (load_names packages) last_names loads last

later-rise : (packages : List (List ℕ)) → IsStrictlySortedBy text_cmp packages
    → NamesRise (load_names packages ++ last_names)
unfolding IsStrictlySortedBy
later-rise packages rise =
    strictly-append text_total (load_names packages) last_names (loads-rise packages rise)
    ((refl, (refl, tt)), ((refl, tt), (tt, tt)))
    (all-loads (λ name. Below name last_names) (λ name. (refl, (refl, (refl, tt)))) packages)

pub names-rise : (headings : List Heading) (packages : List (List ℕ)) → IsStrictlySortedBy heading_cmp headings
    → IsStrictlySortedBy text_cmp packages → NamesRise (all_names headings packages)
unfolding IsStrictlySortedBy
names-rise headings packages first second =
    strictly-append text_total (bucket_names headings) (name.apps ∷ name.buckets ∷ (load_names packages ++ last_names))
    (buckets-rise headings first) (
      (
        refl,
        behind-loads name.apps packages (all-loads (λ other. text_cmp name.apps other ≡ Less) (λ other. refl) packages)
            (refl, (refl, (refl, tt))),
      ),
      (
        behind-loads name.buckets packages
            (all-loads (λ other. text_cmp name.buckets other ≡ Less) (λ other. refl) packages)
            (refl, (refl, (refl, tt))),
        later-rise packages second,
      ),
    )
    (all-buckets (λ own. Below own (name.apps ∷ name.buckets ∷ (load_names packages ++ last_names)))
    (λ own. (
      refl,
      (
        refl,
        behind-loads (bucket_file own) packages
            (all-loads (λ other. text_cmp (bucket_file own) other ≡ Less) (λ other. refl) packages)
            (refl, (refl, (refl, tt))),
      ),
    )) headings)

pub names-are : (desk : DeskState)
    → names_of (files desk) ≡ all_names desk.database.buckets (packages desk.registry.installs)
names-are desk =
    let named = λ (file : SetFile). file.name in
    let last : List SetFile = file name.stamp (stamp_text desk.commit)
    ∷ file name.template (template_text desk.template) ∷ file name.users (users_text desk.registry.users) ∷ [] in
    let middle : List SetFile = file name.apps (apps_text desk.registry.installs)
    ∷ file name.buckets (buckets_text desk.database.buckets) ∷ (load_files desk ++ last) in
    map-append named (bucket_files desk) middle
    ∙ (λ i. bucket-names-of desk.database.buckets (λ heading. bucket_text (policies_in desk.database heading.name)) i
    ++ (name.apps ∷ name.buckets ∷ map-append named (load_files desk) last i))
    ∙ (λ i. bucket_names desk.database.buckets
    ++ (name.apps
    ∷ name.buckets
    ∷ (load-names-of (packages desk.registry.installs) (λ name. load_text (package_rules desk name)) i ++ last_names)))

-- ---- the names of each sort

module _ (headings : List Heading) (named : AllByRecursion IsHeading headings) (packages : List (List ℕ))
    (idents : AllByRecursion (λ name. is_ident name ≡ true) packages) where
  -- a bucket's name is no load file's
  not-load : (name : List ℕ) → is_load_file (bucket_file name) ≡ false
  not-load [] = refl
  not-load (byte ∷ bytes) = refl

  bucket-yes : AllByRecursion (λ name. is_bucket_file name ≡ true) (bucket_names headings)
  bucket-yes =
      All-map (λ name. is_bucket_file name ≡ true) (λ (heading : Heading). bucket_file heading.name) headings
      (All-weaker IsHeading (λ (heading : Heading). is_bucket_file (bucket_file heading.name) ≡ true)
      (λ heading is. is.name) headings named)

  load-yes : AllByRecursion (λ name. is_load_file name ≡ true) (load_names packages)
  load-yes = All-map (λ name. is_load_file name ≡ true) load_file packages idents

  bucket-no : AllByRecursion (λ name. is_load_file name ≡ false) (bucket_names headings)
  bucket-no = all-buckets (λ name. is_load_file name ≡ false) not-load headings

  bucket-other : AllByRecursion (λ name. is_other_file name ≡ false) (bucket_names headings)
  bucket-other =
      All-weaker (λ name. is_bucket_file name ≡ true) (λ name. is_other_file name ≡ false)
      (λ name is. ap (λ b. not (b || is_load_file name)) is) (bucket_names headings) bucket-yes

  load-no : AllByRecursion (λ name. is_bucket_file name ≡ false) (load_names packages)
  load-no = all-loads (λ name. is_bucket_file name ≡ false) (λ name. refl) packages

  load-other : AllByRecursion (λ name. is_other_file name ≡ false) (load_names packages)
  load-other = All-map (λ name. is_other_file name ≡ false) load_file packages
      (All-weaker (λ name. is_ident name ≡ true) (λ name. is_other_file (load_file name) ≡ false)
      (λ name is. ap not is) packages idents)

  pub other-names : filter is_other_file (all_names headings packages) ≡ fixed_files
  other-names =
      filter-append is_other_file (bucket_names headings)
      (name.apps ∷ name.buckets ∷ (load_names packages ++ last_names))
      ∙ (λ i. filter-none is_other_file (bucket_names headings) bucket-other i
      ++ (name.apps ∷ name.buckets ∷ filter-append is_other_file (load_names packages) last_names i))
      ∙ (λ i. name.apps ∷ name.buckets ∷ (filter-none is_other_file (load_names packages) load-other i ++ last_names))

  pub bucket-names : filter is_bucket_file (all_names headings packages) ≡ bucket_names headings
  bucket-names =
      filter-append is_bucket_file (bucket_names headings)
      (name.apps ∷ name.buckets ∷ (load_names packages ++ last_names))
      ∙ (λ i. filter-all is_bucket_file (bucket_names headings) bucket-yes i
      ++ filter-append is_bucket_file (load_names packages) last_names i)
      ∙ (λ i. bucket_names headings ++ (filter-none is_bucket_file (load_names packages) load-no i ++ []))
      ∙ append-nil (bucket_names headings)

  pub load-names : filter is_load_file (all_names headings packages) ≡ load_names packages
  load-names =
      filter-append is_load_file (bucket_names headings)
      (name.apps ∷ name.buckets ∷ (load_names packages ++ last_names))
      ∙ (λ i. filter-none is_load_file (bucket_names headings) bucket-no i
      ++ filter-append is_load_file (load_names packages) last_names i)
      ∙ (λ i. filter-all is_load_file (load_names packages) load-yes i ++ [])
      ∙ append-nil (load_names packages)

-- ---- the odd one out

odd-itself : (names : List (List ℕ)) → odd_name names names ≡ None
odd-itself [] = refl
odd-itself (name ∷ names) =
    ap (λ o. odd_by o name name (odd_name names names)) (tied_itself text_total name) ∙ odd-itself names

-- the files of a sort are those that are wanted
pub none-odd : (is_of_sort : List ℕ → Bool) (wanted : List (List ℕ)) (set : List SetFile)
    → filter is_of_sort (names_of set) ≡ wanted → odd_file is_of_sort wanted set ≡ None
none-odd is_of_sort wanted set is =
    ap (λ names. option_map whole (odd_name wanted names)) is ∙ ap (option_map whole) (odd-itself wanted)

same-names : (names others : List (List ℕ)) → odd_name names others ≡ None → names ≡ others
same-names [] [] h = refl
same-names [] (other ∷ others) h = cc
same-names (name ∷ names) [] h = cc
same-names (name ∷ names) (other ∷ others) h = by (text_cmp name other) refl h (same-names names others)
  where
    by : (o : Ordering) → text_cmp name other ≡ o → odd_by o name other (odd_name names others) ≡ None
        → (odd_name names others ≡ None → names ≡ others) → name ∷ names ≡ other ∷ others
    by Less is h rest = cc
    by Equal is h rest =
        let first = same_text-≡ name other (sym (text_cmp-equal name other) ∙ ap is_eq is) in
        let later = rest h in
        λ i. first i ∷ later i
    by Greater is h rest = cc

pub odd-none : (is_of_sort : List ℕ → Bool) (wanted : List (List ℕ)) (set : List SetFile)
    → odd_file is_of_sort wanted set ≡ None → wanted ≡ filter is_of_sort (names_of set)
odd-none is_of_sort wanted set h =
    same-names wanted (filter is_of_sort (names_of set))
    (option_map-none whole (odd_name wanted (filter is_of_sort (names_of set))) h)

-- ---- rising names with the same files of each sort

module _ (test : List ℕ → Bool) where
  abbrev among : (List ℕ → Bool) → List (List ℕ) → Bool
  among sort names = list_any test (filter sort names)

  both-sorts : (d a b c : Bool) → (d || (a || (b || c))) ≡ (a || ((d || b) || (d || c)))
  both-sorts true true b c = refl
  both-sorts true false b c = refl
  both-sorts false a b c = refl

  first-sort : (d a b c : Bool) → (d || (a || (b || c))) ≡ (a || ((d || b) || c))
  first-sort true true b c = refl
  first-sort true false b c = refl
  first-sort false a b c = refl

  second-sort : (d a b c : Bool) → (d || (a || (b || c))) ≡ (a || (b || (d || c)))
  second-sort true true b c = refl
  second-sort true false true c = refl
  second-sort true false false c = refl
  second-sort false a b c = refl

  no-sort : (d a b c : Bool) → (d || (a || (b || c))) ≡ ((d || a) || (b || c))
  no-sort true a b c = refl
  no-sort false a b c = refl

  by-sorts : (names : List (List ℕ))
      → list_any test names ≡ (among is_other_file names || (among is_bucket_file names || among is_load_file names))
  by-sorts [] = refl
  by-sorts (name ∷ names) =
      ap (λ b. test name || b) (by-sorts names) ∙ by (is_bucket_file name) (is_load_file name)
    where
      by : (bucket load : Bool)
          → (test name || (among is_other_file names || (among is_bucket_file names || among is_load_file names)))
          ≡ (list_any test (cond (not (bucket || load)) (name ∷ filter is_other_file names)
          (filter is_other_file names))
          || (list_any test (cond bucket (name ∷ filter is_bucket_file names) (filter is_bucket_file names))
          || list_any test (cond load (name ∷ filter is_load_file names) (filter is_load_file names))))
      by true true = both-sorts (test name) (among is_other_file names) (among is_bucket_file names)
          (among is_load_file names)
      by true false = first-sort (test name) (among is_other_file names) (among is_bucket_file names)
          (among is_load_file names)
      by false true = second-sort (test name) (among is_other_file names) (among is_bucket_file names)
          (among is_load_file names)
      by false false = no-sort (test name) (among is_other_file names) (among is_bucket_file names)
          (among is_load_file names)

pub known-by-sorts : (names others : List (List ℕ)) → NamesRise names → NamesRise others
    → filter is_other_file names ≡ filter is_other_file others
    → filter is_bucket_file names ≡ filter is_bucket_file others
    → filter is_load_file names ≡ filter is_load_file others → names ≡ others
known-by-sorts names others first second other bucket load =
    same_from_tied text_total (λ name. Unit {0})
    (λ x y p q tied. same_text-≡ x y (sym (text_cmp-equal x y) ∙ ap is_eq tied)) names others (each names) (each others)
    (all_tied text_total names others first second (λ q.
    by-sorts (λ x. is_eq (text_cmp q x)) names
    ∙ (λ i. list_any (λ x. is_eq (text_cmp q x)) (other i)
    || (list_any (λ x. is_eq (text_cmp q x)) (bucket i) || list_any (λ x. is_eq (text_cmp q x)) (load i)))
    ∙ sym (by-sorts (λ x. is_eq (text_cmp q x)) others)))
  where
    each : (xs : List (List ℕ)) → AllByRecursion (λ name. Unit {0}) xs
    each [] = tt
    each (x ∷ xs) = (tt, each xs)
