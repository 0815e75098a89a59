-- That a set reads as a policy state, as the facts that this rests on.
use Rattle.std.proofs.Common.{◌≡◌, ℕ, List, [], map, Option, Some, None, Result, Ok, Err, refl, ap, subst, ◌∙◌}
use Rattle.bucket_store.specs.Bucket.{Bucket}
use Rattle.bucket_store.specs.Database.{Heading, database_of}
use Rattle.app_registry.specs.Registry.{packages}
use Rattle.app_registry.specs.declared.installs.Install.{Install}
use Rattle.app_registry.specs.declared.users.User.{User}
use Rattle.rule_templates.specs.declared.lines.TemplateLine.{TemplateLine}
use Rattle.desk_ports.specs.declared.file_sets.SetFile.{SetFile}
use Rattle.desk_state.specs.DeskState.{DeskState}
use Rattle.set_text.specs.Fault.{Fault, unless, with_value, in_file, bytes_in}
use Rattle.set_text.specs.FileNames as name
use Rattle.set_text.specs.FileNames.{bucket_file, load_file, is_bucket_file, is_load_file, is_other_file, fixed_files}
use Rattle.set_text.specs.Stamp.{commits_of}
use Rattle.set_text.specs.Buckets.{headings_of}
use Rattle.set_text.specs.Registry.{users_of, installs_of}
use Rattle.set_text.specs.Template.{template_lines_of}
use Rattle.set_text.specs.Reading.{odd_file, buckets_behind, layout_fault, managed_fault, fallback_fault, load_fault}
use Rattle.set_text.specs.Reading.{only, read_of}

-- the steps of a reading, each with what came of those before it
pub record IsRead (set : List SetFile) (desk : DeskState) : Type 0 where
  pub commits : List ℕ
  pub headings : List Heading
  pub buckets : List Bucket
  pub other_names : odd_file is_other_file fixed_files set ≡ None
  pub stamp : commits_of (bytes_in set name.stamp) ≡ Ok commits
  pub lines : headings_of (bytes_in set name.buckets) ≡ Ok headings
  pub bucket_names : odd_file is_bucket_file (map (λ (heading : Heading). bucket_file heading.name) headings) set ≡ None
  pub policies : buckets_behind set headings [] headings ≡ Ok buckets
  pub users : users_of (bytes_in set name.users) ≡ Ok desk.registry.users
  pub installs : installs_of desk.registry.users (bytes_in set name.apps) ≡ Ok desk.registry.installs
  pub load_names : odd_file is_load_file (map load_file (packages desk.registry.installs)) set ≡ None
  pub template : template_lines_of (bytes_in set name.template) ≡ Ok desk.template
  pub commit : only commits ≡ desk.commit
  pub database : database_of buckets ≡ desk.database
  pub layout : layout_fault desk ≡ None
  pub managed : managed_fault set desk ≡ None
  pub fallbacks : fallback_fault desk ≡ None
  pub loads : load_fault set desk (packages desk.registry.installs) ≡ None

-- ---- the reading, step by step

module _ (set : List SetFile) where
  abbrev made : List ℕ → List Bucket → List User → List Install → List TemplateLine → DeskState
  made commits buckets users installs template = record {
    commit = only commits;
    database = database_of buckets;
    registry = record { users = users; installs = installs };
    template = template;
  }

  abbrev whole_desk : DeskState → Result DeskState Fault
  whole_desk desk =
      unless (layout_fault desk)
      (unless (managed_fault set desk)
      (unless (fallback_fault desk) (unless (load_fault set desk (packages desk.registry.installs)) (Ok desk))))

  abbrev from_template : List ℕ → List Bucket → List User → List Install → Result DeskState Fault
  from_template commits buckets users installs =
      with_value (in_file name.template (template_lines_of (bytes_in set name.template)))
      (λ template. whole_desk (made commits buckets users installs template))

  abbrev from_loads : List ℕ → List Bucket → List User → List Install → Result DeskState Fault
  from_loads commits buckets users installs =
      unless (odd_file is_load_file (map load_file (packages installs)) set)
      (from_template commits buckets users installs)

  abbrev from_installs : List ℕ → List Bucket → List User → Result DeskState Fault
  from_installs commits buckets users =
      with_value (in_file name.apps (installs_of users (bytes_in set name.apps)))
      (λ installs. from_loads commits buckets users installs)

  abbrev from_users : List ℕ → List Bucket → Result DeskState Fault
  from_users commits buckets =
      with_value (in_file name.users (users_of (bytes_in set name.users)))
      (λ users. from_installs commits buckets users)

  abbrev from_policies : List ℕ → List Heading → Result DeskState Fault
  from_policies commits headings =
      with_value (buckets_behind set headings [] headings) (λ buckets. from_users commits buckets)

  abbrev from_bucket_names : List ℕ → List Heading → Result DeskState Fault
  from_bucket_names commits headings =
      unless (odd_file is_bucket_file (map (λ (heading : Heading). bucket_file heading.name) headings) set)
      (from_policies commits headings)

  abbrev from_headings : List ℕ → Result DeskState Fault
  from_headings commits =
      with_value (in_file name.buckets (headings_of (bytes_in set name.buckets)))
      (λ headings. from_bucket_names commits headings)

  abbrev from_stamp : Result DeskState Fault
  from_stamp = with_value (in_file name.stamp (commits_of (bytes_in set name.stamp))) (λ commits. from_headings commits)

  -- ---- from the reading to the facts

  without-fault : {X : Type 0} (fault : Option Fault) (later : Result X Fault) (x : X) → unless fault later ≡ Ok x
      → (fault ≡ None) × (later ≡ Ok x)
  without-fault (Some fault) later x h = cc
  without-fault None later x h = (refl, h)

  had-value : {X Y : Type 0} (result : Result X Fault) (later : X → Result Y Fault) (y : Y)
      → with_value result later ≡ Ok y
      → (x : X) × (result ≡ Ok x) × (later x ≡ Ok y)
  had-value (Err fault) later y h = cc
  had-value (Ok x) later y h = (x, refl, h)

  abbrev right : DeskState → Result DeskState Fault
  right desk = Ok desk

  same-ok : (a b : DeskState) → right a ≡ right b → a ≡ b
  same-ok a b h = cc

  was-read : {X : Type 0} (file : List ℕ) (result : Result X ℕ) (x : X) → in_file file result ≡ Ok x → result ≡ Ok x
  was-read file (Ok y) x h = (let same : y ≡ x = cc in ap (λ (x : _). Ok x) same)
  was-read file (Err line) x h = cc

  pub read-facts : (desk : DeskState) → read_of set ≡ Ok desk → IsRead set desk
  read-facts desk h =
      let others = without-fault (odd_file is_other_file fixed_files set) from_stamp desk h in
      let stamp = had-value (in_file name.stamp (commits_of (bytes_in set name.stamp)))
      (λ commits. from_headings commits) desk others.1 in
      let commits = stamp.0 in
      let lines = had-value (in_file name.buckets (headings_of (bytes_in set name.buckets)))
      (λ headings. from_bucket_names commits headings) desk stamp.2 in
      let headings = lines.0 in
      let bucket_names = without-fault
      (odd_file is_bucket_file (map (λ (heading : Heading). bucket_file heading.name) headings) set)
      (from_policies commits headings) desk lines.2 in
      let policies = had-value (buckets_behind set headings [] headings)
      (λ buckets. from_users commits buckets) desk bucket_names.1 in
      let buckets = policies.0 in
      let users = had-value (in_file name.users (users_of (bytes_in set name.users)))
      (λ users. from_installs commits buckets users) desk policies.2 in
      let installs = had-value (in_file name.apps (installs_of users.0 (bytes_in set name.apps)))
      (λ installs. from_loads commits buckets users.0 installs) desk users.2 in
      let load_names = without-fault (odd_file is_load_file (map load_file (packages installs.0)) set)
      (from_template commits buckets users.0 installs.0) desk installs.2 in
      let template = had-value (in_file name.template (template_lines_of (bytes_in set name.template)))
      (λ template. whole_desk (made commits buckets users.0 installs.0 template)) desk load_names.1 in
      let own = made commits buckets users.0 installs.0 template.0 in
      let layout = without-fault (layout_fault own)
      (unless (managed_fault set own)
      (unless (fallback_fault own)
      (unless (load_fault set own (packages own.registry.installs)) (Ok own)))) desk template.2 in
      let managed = without-fault (managed_fault set own)
      (unless (fallback_fault own)
      (unless (load_fault set own (packages own.registry.installs)) (Ok own))) desk layout.1 in
      let fallbacks = without-fault (fallback_fault own)
      (unless (load_fault set own (packages own.registry.installs)) (Ok own)) desk managed.1 in
      let loads = without-fault (load_fault set own (packages own.registry.installs)) (Ok own) desk fallbacks.1 in
      let same : own ≡ desk = same-ok own desk loads.1 in
      subst (IsRead set) {x = own} {y = desk} same (record {
        commits = commits;
        headings = headings;
        buckets = buckets;
        other_names = others.0;
        stamp = was-read name.stamp (commits_of (bytes_in set name.stamp)) commits stamp.1;
        lines = was-read name.buckets (headings_of (bytes_in set name.buckets)) headings lines.1;
        bucket_names = bucket_names.0;
        policies = policies.1;
        users = was-read name.users (users_of (bytes_in set name.users)) users.0 users.1;
        installs = was-read name.apps (installs_of users.0 (bytes_in set name.apps)) installs.0 installs.1;
        load_names = load_names.0;
        template = was-read name.template (template_lines_of (bytes_in set name.template)) template.0 template.1;
        commit = refl {a = only commits};
        database = refl {a = database_of buckets};
        layout = layout.0;
        managed = managed.0;
        fallbacks = fallbacks.0;
        loads = loads.0;
      })

  -- ---- from the facts to the reading

  pub facts-read : (desk : DeskState) → IsRead set desk → read_of set ≡ Ok desk
  facts-read desk is =
      let commits = is.commits in
      let headings = is.headings in
      let buckets = is.buckets in
      let users = desk.registry.users in
      let installs = desk.registry.installs in
      let same : made commits buckets users installs desk.template ≡ desk =
      (λ i. record desk { commit = is.commit i; database = is.database i }) in
      ap (λ fault. unless fault from_stamp) is.other_names
      ∙ ap (λ result. with_value (in_file name.stamp result) (λ commits. from_headings commits)) is.stamp
      ∙ ap (λ result. with_value (in_file name.buckets result)
      (λ headings. from_bucket_names commits headings)) is.lines
      ∙ ap (λ fault. unless fault (from_policies commits headings)) is.bucket_names
      ∙ ap (λ result. with_value result (λ buckets. from_users commits buckets)) is.policies
      ∙ ap (λ result. with_value (in_file name.users result) (λ users. from_installs commits buckets users)) is.users
      ∙ ap (λ result. with_value (in_file name.apps result)
      (λ installs. from_loads commits buckets users installs)) is.installs
      ∙ ap (λ fault. unless fault (from_template commits buckets users installs)) is.load_names
      ∙ ap (λ result. with_value (in_file name.template result)
      (λ template. whole_desk (made commits buckets users installs template)))
      is.template
      ∙ ap whole_desk same
      ∙ ap (λ fault. unless fault (unless (managed_fault set desk)
      (unless (fallback_fault desk) (unless (load_fault set desk (packages installs)) (Ok desk))))) is.layout
      ∙ ap (λ fault. unless fault
      (unless (fallback_fault desk) (unless (load_fault set desk (packages installs)) (Ok desk)))) is.managed
      ∙ ap (λ fault. unless fault (unless (load_fault set desk (packages installs)) (Ok desk))) is.fallbacks
      ∙ ap (λ fault. unless fault (Ok desk)) is.loads
