-- How the parts of a set of files lead to what it says.
use Rattle.std.proofs.Common.{◌≡◌, ℕ, Bool, true, false, ◌||◌, not, cond, List, [], ◌∷◌, map, Option, Some, None}
use Rattle.std.proofs.Common.{is_some, Result, Ok, Err, refl, ap, ◌∙◌}
use Rattle.std.specs.List.{AllByRecursion, list_any}
use Rattle.std.specs.Option.{option_or}
use Rattle.std.proofs.lemmas.List.Elements.{recursion_from_All, All-from_recursion}
use Rattle.std.proofs.lemmas.List.Filters.{All-dedup}
use Rattle.cynara_keys.specs.Text.{same_text}
use Rattle.cynara_keys.proofs.Order.{≡-same_text}
use Rattle.bucket_store.specs.Bucket.{Bucket}
use Rattle.bucket_store.specs.Database.{Heading, heading_of}
use Rattle.bucket_store.specs.Refusal.{cycle}
use Rattle.bucket_store.proofs.Lists.{All-weaker}
use Rattle.app_registry.specs.Install.{is_of_package}
use Rattle.app_registry.specs.Registry.{RegistryLists, has_package, packages}
use Rattle.app_registry.specs.declared.installs.Install.{Install}
use Rattle.app_registry.specs.declared.users.User.{User}
use Rattle.desk_ports.specs.declared.file_sets.SetFile.{SetFile}
use Rattle.desk_state.specs.DeskState.{DeskState, package_rules}
use Rattle.rule_templates.specs.declared.lines.TemplateLine.{TemplateLine}
use Rattle.set_text.specs.Fault.{Fault, whole, unless, with_value, in_file, bytes_in, unlike}
use Rattle.set_text.specs.FileNames as name
use Rattle.set_text.specs.FileNames.{bucket_file, load_file, is_bucket_file, is_load_file, is_other_file, fixed_files}
use Rattle.set_text.specs.Reading.{odd_file, buckets_behind, layout_fault, managed_fault, fallback_fault, load_fault}
use Rattle.set_text.specs.Reading.{is_laid_out, is_bare, only, read_of}
use Rattle.set_text.specs.Registry.{users_of, installs_of}
use Rattle.set_text.specs.Template.{load_text}
use Rattle.set_text.specs.Refusal.{Refuses}
use Rattle.set_text.specs.declared.refusals.TextRefusal.{TextRefusal}
use Rattle.set_text.specs.parts.Names.{RefusesTest}
use Rattle.set_text.specs.parts.Parts.{stamp_part, headings_part, registry_part, template_part, layout_fault_of}
use Rattle.set_text.specs.parts.Parts.{managed_fault_of, fallback_fault_of, beside}
use Rattle.set_text.specs.parts.Stages.{desk_of, joint_fault, with_template, with_buckets}
use Rattle.set_text.proofs.ReadingFaults.{skip-test, skip-part, stop-test, stop-part}

with_value-same : {X Y : Type 0} (part : Result X Fault) (first second : X → Result Y Fault)
    → ((value : X) → first value ≡ second value)
    → with_value part first ≡ with_value part second
with_value-same (Ok value) first second same = same value
with_value-same (Err fault) first second same = refl

unless-or : {X : Type 0} (first second : Option Fault) (later : Result X Fault)
    → unless first (unless second later) ≡ unless (option_or first second) later
unless-or None second later = refl
unless-or (Some fault) second later = refl

-- ---- the stages of a reading

abbrev tested : List SetFile → DeskState → Result DeskState Fault
tested set desk =
    unless (layout_fault desk) (
    unless (managed_fault set desk) (
    unless (fallback_fault desk) (
    unless (load_fault set desk (packages desk.registry.installs)) (Ok desk))))

tested-joint : (set : List SetFile) (desk : DeskState) → tested set desk ≡ unless (joint_fault set desk) (Ok desk)
tested-joint set desk =
    let last = load_fault set desk (packages desk.registry.installs) in
    ap (λ later. unless (layout_fault desk) (unless (managed_fault set desk) later))
    (unless-or (fallback_fault desk) last (Ok desk))
    ∙ ap (unless (layout_fault desk))
    (unless-or (managed_fault set desk) (option_or (fallback_fault desk) last) (Ok desk))
    ∙ unless-or (layout_fault desk) (option_or (managed_fault set desk) (option_or (fallback_fault desk) last))
    (Ok desk)

-- what is behind the users and the installs
abbrev behind_installs : List SetFile → List ℕ → List Bucket → List User → List Install → Result DeskState Fault
behind_installs set commits buckets users installs =
    unless (odd_file is_load_file (map load_file (packages installs)) set) (
    with_value (template_part set) (λ template.
    tested set (desk_of (only commits) buckets (record { users = users; installs = installs }) template)))

abbrev behind_buckets : List SetFile → List ℕ → List Bucket → Result DeskState Fault
behind_buckets set commits buckets =
    with_value (in_file name.users (users_of (bytes_in set name.users))) (λ users.
    with_value (in_file name.apps (installs_of users (bytes_in set name.apps))) (λ installs.
    behind_installs set commits buckets users installs))

abbrev behind_headings : List SetFile → List ℕ → List Heading → Result DeskState Fault
behind_headings set commits headings =
    unless (odd_file is_bucket_file (map (λ (heading : Heading). bucket_file heading.name) headings) set) (
    with_value (buckets_behind set headings [] headings) (λ buckets. behind_buckets set commits buckets))

installs-same : (set : List SetFile) (commit : ℕ) (buckets : List Bucket) (users : List User) (installs : List Install)
    → behind_installs set (commit ∷ []) buckets users installs
    ≡ with_template set commit buckets (record { users = users; installs = installs })
installs-same set commit buckets users installs =
    let registry : RegistryLists = record { users = users; installs = installs } in
    ap (unless (odd_file is_load_file (map load_file (packages installs)) set))
    (with_value-same (template_part set) (λ template. tested set (desk_of commit buckets registry template))
    (λ template. unless (joint_fault set (desk_of commit buckets registry template))
    (Ok (desk_of commit buckets registry template)))
    (λ template. tested-joint set (desk_of commit buckets registry template)))

module _ (set : List SetFile) (commit : ℕ) (buckets : List Bucket) where
  abbrev registry_with : List User → Result (List Install) Fault → Result RegistryLists Fault
  registry_with users installs = with_value installs (λ installs. Ok (record { users = users; installs = installs }))

  installs-at : (users : List User) (installs : Result (List Install) Fault)
      → with_value installs (λ installs. behind_installs set (commit ∷ []) buckets users installs)
      ≡ with_value (registry_with users installs) (λ registry. with_template set commit buckets registry)
  installs-at users (Ok installs) = installs-same set commit buckets users installs
  installs-at users (Err fault) = refl

  users-at : (read : List User → Result (List Install) Fault) (users : Result (List User) Fault)
      → with_value users (λ users. with_value (read users)
      (λ installs. behind_installs set (commit ∷ []) buckets users installs))
      ≡ with_value (with_value users (λ users. registry_with users (read users)))
      (λ registry. with_template set commit buckets registry)
  users-at read (Ok users) = installs-at users (read users)
  users-at read (Err fault) = refl

  buckets-same : behind_buckets set (commit ∷ []) buckets
      ≡ with_value (registry_part set) (λ registry. with_template set commit buckets registry)
  buckets-same =
      users-at (λ users. in_file name.apps (installs_of users (bytes_in set name.apps)))
      (in_file name.users (users_of (bytes_in set name.users)))

-- the first parts
pub to-buckets : (set : List SetFile) (commit : ℕ) (headings : List Heading) → odd_file is_other_file fixed_files set
    ≡ None
    → stamp_part set ≡ Ok (commit ∷ []) → headings_part set ≡ Ok headings → read_of set
    ≡ with_buckets set commit headings
to-buckets set commit headings fixed stamp heads =
    let odd = odd_file is_bucket_file (map (λ (heading : Heading). bucket_file heading.name) headings) set in
    ap (λ fault. unless fault (with_value (stamp_part set) (λ commits. with_value (headings_part set) (λ headings.
    behind_headings set commits headings)))) fixed
    ∙ ap (λ part. with_value part
    (λ commits. with_value (headings_part set) (λ headings. behind_headings set commits headings))) stamp
    ∙ ap (λ part. with_value part (λ headings. behind_headings set (commit ∷ []) headings)) heads
    ∙ ap (unless odd) (with_value-same (buckets_behind set headings [] headings)
    (λ buckets. behind_buckets set (commit ∷ []) buckets)
    (λ buckets. with_value (registry_part set) (λ registry. with_template set commit buckets registry))
    (buckets-same set commit))

pub to-template : (set : List SetFile) (commit : ℕ) (headings : List Heading) (buckets : List Bucket)
    (registry : RegistryLists)
    → odd_file is_bucket_file (map (λ (heading : Heading). bucket_file heading.name) headings) set ≡ None
    → buckets_behind set headings [] headings ≡ Ok buckets → registry_part set ≡ Ok registry
    → with_buckets set commit headings ≡ with_template set commit buckets registry
to-template set commit headings buckets registry none read own =
    ap (λ fault. unless fault (with_value (buckets_behind set headings [] headings) (λ buckets.
    with_value (registry_part set) (λ registry. with_template set commit buckets registry)))) none
    ∙ ap (λ part. with_value part
    (λ buckets. with_value (registry_part set) (λ registry. with_template set commit buckets registry))) read
    ∙ ap (λ part. with_value part (λ registry. with_template set commit buckets registry)) own

-- where one of these parts is refused
module _ (refusal : TextRefusal) (set : List SetFile) (commit : ℕ) (headings : List Heading) where
  abbrev odd_bucket : Option Fault
  odd_bucket = odd_file is_bucket_file (map (λ (heading : Heading). bucket_file heading.name) headings) set

  abbrev with_registry : List Bucket → Result DeskState Fault
  with_registry buckets = with_value (registry_part set) (λ registry. with_template set commit buckets registry)

  abbrev behind_names : Result DeskState Fault
  behind_names = with_value (buckets_behind set headings [] headings) (λ buckets. with_registry buckets)

  pub stop-names : RefusesTest refusal odd_bucket → Refuses refusal (with_buckets set commit headings)
  stop-names refuses = stop-test refusal odd_bucket behind_names refuses

  pub stop-buckets : odd_bucket ≡ None → Refuses refusal (buckets_behind set headings [] headings)
      → Refuses refusal (with_buckets set commit headings)
  stop-buckets none refuses =
      skip-test refusal odd_bucket behind_names none
      (stop-part refusal (buckets_behind set headings [] headings) (λ buckets. with_registry buckets) refuses)

  pub stop-registry : (buckets : List Bucket) → odd_bucket ≡ None → buckets_behind set headings [] headings ≡ Ok buckets
      → Refuses refusal (registry_part set) → Refuses refusal (with_buckets set commit headings)
  stop-registry buckets none read refuses =
      skip-test refusal odd_bucket behind_names none
      (skip-part refusal (buckets_behind set headings [] headings) buckets (λ buckets. with_registry buckets) read
      (stop-part refusal (registry_part set) (λ registry. with_template set commit buckets registry) refuses))

pub to-desk : (set : List SetFile) (commit : ℕ) (buckets : List Bucket) (registry : RegistryLists)
    (template : List TemplateLine)
    → odd_file is_load_file (map load_file (packages registry.installs)) set ≡ None → template_part set ≡ Ok template
    → joint_fault set (desk_of commit buckets registry template) ≡ None
    → with_template set commit buckets registry ≡ Ok (desk_of commit buckets registry template)
to-desk set commit buckets registry template none read joint =
    let later : List TemplateLine → Result DeskState Fault = λ template.
    unless (joint_fault set (desk_of commit buckets registry template))
    (Ok (desk_of commit buckets registry template)) in
    ap (λ fault. unless fault (with_value (template_part set) later)) none
    ∙ ap (λ part. with_value part later) read
    ∙ ap (λ fault. unless fault (Ok (desk_of commit buckets registry template))) joint

-- ---- what the parts say together

first-none : (first second : Option Fault) → option_or first second ≡ None → first ≡ None
first-none None second h = refl
first-none (Some fault) second h = cc

untested : (a b : Bool) (fault : Fault) → cond (a || b) (Some fault) None ≡ None → a ≡ false
untested true b fault h = cc
untested false b fault h = refl

-- a state whose parts agree has no cycle
pub joint-cycle : (set : List SetFile) (desk : DeskState) → joint_fault set desk ≡ None
    → is_some (cycle desk.database) ≡ false
joint-cycle set desk joint =
    untested (is_some (cycle desk.database)) (not (is_laid_out desk.database || is_bare desk)) (whole name.buckets)
    (first-none (layout_fault desk) _ joint)

load-same : (set : List SetFile) (commit : ℕ) (buckets : List Bucket) (registry : RegistryLists)
    (template : List TemplateLine)
    (names : List (List ℕ)) → load_fault set (desk_of commit buckets registry template) names
    ≡ load_fault set (beside registry template) names
load-same set commit buckets registry template [] = refl
load-same set commit buckets registry template (own ∷ names) =
    ap (option_or (unlike set (load_file own) (load_text (package_rules (beside registry template) own))))
    (load-same set commit buckets registry template names)

-- where the first three tests find nothing, the load files alone are against the state
pub joint-load : (set : List SetFile) (commit : ℕ) (headings : List Heading) (buckets : List Bucket)
    (registry : RegistryLists)
    (template : List TemplateLine) → map heading_of buckets ≡ headings → layout_fault_of headings buckets registry
    ≡ None
    → managed_fault_of set headings registry ≡ None → fallback_fault_of headings ≡ None
    → joint_fault set (desk_of commit buckets registry template)
    ≡ load_fault set (beside registry template) (packages registry.installs)
joint-load set commit headings buckets registry template headed first second third =
    let desk = desk_of commit buckets registry template in
    let last = load_fault set desk (packages registry.installs) in
    let no_layout : layout_fault desk ≡ None = ap (λ list. layout_fault_of list buckets registry) headed ∙ first in
    let no_managed : managed_fault set desk ≡ None = ap (λ list. managed_fault_of set list registry) headed ∙ second in
    let no_fallback : fallback_fault desk ≡ None = ap fallback_fault_of headed ∙ third in
    ap (λ fault. option_or fault (option_or (managed_fault set desk) (option_or (fallback_fault desk) last))) no_layout
    ∙ ap (λ fault. option_or fault (option_or (fallback_fault desk) last)) no_managed
    ∙ ap (λ fault. option_or fault last) no_fallback
    ∙ load-same set commit buckets registry template (packages registry.installs)

-- ---- packages that are there

or-true : (b : Bool) → (b || true) ≡ true
or-true true = refl
or-true false = refl

own-packages : (installs : List Install)
    → AllByRecursion (λ own. list_any (is_of_package own) installs ≡ true)
    (map (λ (install : Install). install.«package») installs)
own-packages [] = tt
own-packages (first ∷ installs) = (
  ap (λ b. b || list_any (is_of_package first.«package») installs) (≡-same_text first.«package» first.«package» refl),
  All-weaker (λ own. list_any (is_of_package own) installs ≡ true)
      (λ own. list_any (is_of_package own) (first ∷ installs) ≡ true)
      (λ own there. ap (λ b. is_of_package own first || b) there ∙ or-true (is_of_package own first))
      (map (λ (install : Install). install.«package») installs) (own-packages installs),
)

pub packages-there : (registry : RegistryLists)
    → AllByRecursion (λ own. has_package registry own ≡ true) (packages registry.installs)
packages-there registry =
    let names = map (λ (install : Install). install.«package») registry.installs in
    recursion_from_All (λ own. has_package registry own ≡ true) (packages registry.installs)
    (All-dedup same_text (λ own. has_package registry own ≡ true) names
    (All-from_recursion (λ own. has_package registry own ≡ true) names (own-packages registry.installs)))
