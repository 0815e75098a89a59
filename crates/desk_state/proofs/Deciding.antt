-- Which rule of a command is the first to be broken, by what the database and the registry answer.
use Rattle.std.proofs.Common.{◌≡◌, ℕ, ◌==◌, Bool, true, false, cond, not, nat_lt, length, find, map, List, [], ◌∷◌, Option, Some, None, Result, Ok, Err, refl, sym, ap, ◌∙◌, subst}
use Rattle.std.specs.Option.{option_map, option_or}
use Rattle.cynara_keys.specs.declared.limits.Counted.{Counted}
use Rattle.cynara_keys.specs.declared.limits.Counted.TheVariants.{Commits, Users, Packages, Installs, Grants, Buckets, Policies}
use Rattle.std.specs.List.{list_any, flat_map}
use Rattle.cynara_keys.specs.Text.{same_text}
use Rattle.bucket_store.specs.Database.{Database, Heading, root, has_bucket}
use Rattle.bucket_store.specs.Walk.{is_on_cycle}
use Rattle.bucket_store.specs.Refusal as store
use Rattle.bucket_store.specs.Refusal.{Request, most_buckets, most_policies}
use Rattle.bucket_store.specs.declared.refusals.StoreRefusal.TheVariants as stored
use Rattle.bucket_store.specs.declared.refusals.StoreRefusal.{StoreRefusal}
use Rattle.app_registry.specs.Refusal as registry
use Rattle.app_registry.specs.declared.refusals.RegistryRefusal.TheVariants as registered
use Rattle.app_registry.specs.declared.refusals.RegistryRefusal.{RegistryRefusal}
use Rattle.desk_state.specs.DeskState.{DeskState}
use Rattle.bucket_store.specs.Change.{with_changes}
use Rattle.bucket_store.specs.Refusal.{named_by}
use Rattle.bucket_store.specs.declared.policy_changes.Change.{Change}
use Rattle.app_registry.specs.Install.{is_install_of}
use Rattle.app_registry.specs.Registry.{RegistryLists, has_user, has_package, packages, grant_count, with_user, with_install}
use Rattle.app_registry.specs.declared.installs.Install.{Install}
use Rattle.app_registry.specs.declared.installs.Scope.{Scope}
use Rattle.app_registry.specs.declared.installs.Scope.TheVariants.{Everyone, One}
use Rattle.app_registry.specs.Limits.{most_users, most_packages, most_installs, most_grants}
use Rattle.app_registry.specs.declared.users.User.{User}
use Rattle.app_registry.specs.declared.users.UserType.{UserType}
use Rattle.desk_state.specs.declared.commands.Command.TheVariants.{Layout, UserSet, UserRemove, Install as InstallCommand, Uninstall, Convert}
use Rattle.desk_state.specs.Layout.{has_layout, settled, laid_out}
use Rattle.desk_state.specs.parts.Linking.{link_changes}
use Rattle.bucket_store.specs.WellFormed.{IsSound}
use Rattle.bucket_store.proofs.Sound.{limit-sound, cycle-sound}
use Rattle.desk_state.specs.Next.{request, leads_to, next, next_registry, erased_by}
use Rattle.desk_state.specs.Rules.{first_of, reserved, layout_there, no_layout, fault, Refuses, of_store, of_registry, registry_rule, registry_limit, commit_limit}
use Rattle.desk_state.specs.parts.Stepping.{IsAllowed, Steps, Answers, stored_refusal, registered_refusal, or_last, moved, settled_fault, Settles}
use Rattle.desk_state.specs.declared.commands.Command.{Command}
use Rattle.desk_state.specs.declared.desks.Applied.{Applied}
use Rattle.desk_state.specs.Limits.{last_commit}
use Rattle.desk_state.specs.declared.refusals.Refusal.{Refusal}
use Rattle.desk_state.specs.declared.refusals.Refusal.TheVariants.{NoLayout, NoBucket, RootBucket, BadKind, Limit, Cycle, Memory}

-- ---- the rules as answers of tests

abbrev no_bucket : Option (List ℕ) → Option StoreRefusal
no_bucket name = option_map (λ name. stored.NoBucket name) name

abbrev root_bucket : Bool → Option StoreRefusal
root_bucket broken = cond broken (Some stored.RootBucket) None

abbrev bad_kind : Option Heading → Option StoreRefusal
bad_kind heading = option_map (λ heading. stored.BadKind (record { 0 = heading.fallback.kind })) heading

abbrev limits : Bool → Bool → Option StoreRefusal
limits buckets policies =
    cond buckets (Some (stored.Limit Buckets most_buckets)) (cond policies (Some (stored.Limit Policies most_policies)) None)

abbrev cycle : Option (List ℕ) → Option StoreRefusal
cycle name = option_map (λ name. stored.Cycle name) name

-- what the database tests, and what a desk tests around it
abbrev store_rules : Option (List ℕ) → Bool → Option Heading → Bool → Bool → Option (List ℕ) → Option StoreRefusal
store_rules a b k s p c = store.first_of (no_bucket a ∷ root_bucket b ∷ bad_kind k ∷ limits s p ∷ cycle c ∷ [])

abbrev desk_rules : Option (List ℕ) → Bool → Option Heading → Option Refusal → Bool → Option Refusal → Bool → Bool → Option (List ℕ) → Option Refusal
desk_rules a b k rule last count s p c =
    first_of (None ∷ None ∷ None ∷ option_map of_store (no_bucket a) ∷ option_map of_store (root_bucket b) ∷ option_map of_store (bad_kind k)
    ∷ rule ∷ cond last (Some (Limit Commits last_commit)) None ∷ count ∷ option_map of_store (limits s p) ∷ option_map of_store (cycle c) ∷ [])

abbrev last_or : Bool → Refusal → Refusal
last_or last refusal = cond last (Limit Commits last_commit) refusal

abbrev answered : Bool → StoreRefusal → Refusal
answered last (stored.Limit counted most) = last_or last (Limit counted most)
answered last (stored.Cycle name) = last_or last (Cycle name)
answered last (stored.NoBucket name) = NoBucket name
answered last stored.RootBucket = RootBucket
answered last (stored.BadKind kind) = BadKind kind
answered last (stored.Memory error) = Memory error

same : {X : Type 0} {x y : X} → Some x ≡ Some y → x ≡ y
same h = cc

-- a refusal of the database is the desk's, but for limits and cycles behind the last commit number
store_first : (a : Option (List ℕ)) (b : Bool) (k : Option Heading) (last s p : Bool) (c : Option (List ℕ)) (refusal : StoreRefusal)
    → store_rules a b k s p c ≡ Some refusal → desk_rules a b k None last None s p c ≡ Some (answered last refusal)
store_first (Some name) b k last s p c refusal is = ap (λ r. Some (answered last r)) (same is)
store_first None true k last s p c refusal is = ap (λ r. Some (answered last r)) (same is)
store_first None false (Some kind) last s p c refusal is = ap (λ r. Some (answered last r)) (same is)
store_first None false None true true p c refusal is = ap (λ r. Some (answered true r)) (same is)
store_first None false None false true p c refusal is = ap (λ r. Some (answered false r)) (same is)
store_first None false None true false true c refusal is = ap (λ r. Some (answered true r)) (same is)
store_first None false None false false true c refusal is = ap (λ r. Some (answered false r)) (same is)
store_first None false None true false false (Some name) refusal is = ap (λ r. Some (answered true r)) (same is)
store_first None false None false false false (Some name) refusal is = ap (λ r. Some (answered false r)) (same is)
store_first None false None last false false None refusal is = cc

-- no refusal of the database: the desk has none but for its commit number
store_none : (a : Option (List ℕ)) (b : Bool) (k : Option Heading) (last s p : Bool) (c : Option (List ℕ))
    → store_rules a b k s p c ≡ None → desk_rules a b k None last None s p c ≡ cond last (Some (Limit Commits last_commit)) None
store_none (Some name) b k last s p c is = cc
store_none None true k last s p c is = cc
store_none None false (Some kind) last s p c is = cc
store_none None false None last true p c is = cc
store_none None false None last false true c is = cc
store_none None false None last false false (Some name) is = cc
store_none None false None true false false None is = refl
store_none None false None false false false None is = refl

-- a database that stays as it is breaks no rule
pub quiet : (database : Database) → IsSound database → store.fault database (leads_to database) ≡ None
quiet database sound =
    λ i. store.first_of (None ∷ None ∷ None ∷ limit-sound database sound i ∷ cycle-sound database sound i ∷ [])

-- ---- commands on the database

-- A command that the registry has no rule for, at a desk where the layout has nothing against it.
pub record IsOnDatabase (desk : DeskState) (command : Command) : Type 0 where
  pub allowed : IsAllowed desk command
  pub rule : registry_rule desk.registry command ≡ None
  pub count : registry_limit desk.registry command ≡ None

module _ (desk : DeskState) (command : Command) where
  abbrev asked : Request
  asked = request desk command

  -- the fault, with the rules that are known to hold left out
  abbrev fault_from : Option Refusal → Option Refusal → Option Refusal → Option RegistryRefusal → Option RegistryRefusal → Option Refusal
  fault_from reserved there known rule count =
      first_of (reserved ∷ there ∷ known
      ∷ option_map of_store (store.no_bucket asked.named desk.database)
      ∷ option_map of_store (store.root_bucket asked.removed)
      ∷ option_map of_store (store.bad_kind asked.headed)
      ∷ option_map of_registry rule
      ∷ commit_limit desk.commit
      ∷ option_map of_registry count
      ∷ option_map of_store (store.limit asked.next)
      ∷ option_map of_store (store.cycle asked.next) ∷ [])

  plain : IsOnDatabase desk command → fault desk command ≡ fault_from None None None None None
  plain on = λ i. fault_from (on.allowed.unreserved i) (on.allowed.there i) (on.allowed.known i) (on.rule i) (on.count i)

  first : IsOnDatabase desk command → (refusal : StoreRefusal) → store.fault desk.database asked ≡ Some refusal
      → fault desk command ≡ Some (answered (desk.commit == last_commit) refusal)
  first on refusal is =
      plain on
      ∙ store_first (find (λ name. not (has_bucket name desk.database)) asked.named) (list_any (same_text root) asked.removed)
      (find store.is_bad asked.headed) (desk.commit == last_commit) (nat_lt most_buckets (length asked.next.buckets))
      (nat_lt most_policies (length asked.next.policies))
      (find (is_on_cycle asked.next) (map (λ (heading : Heading). heading.name) asked.next.buckets)) refusal is

  none : IsOnDatabase desk command → store.fault desk.database asked ≡ None → fault desk command ≡ commit_limit desk.commit
  none on is =
      plain on
      ∙ store_none (find (λ name. not (has_bucket name desk.database)) asked.named) (list_any (same_text root) asked.removed)
      (find store.is_bad asked.headed) (desk.commit == last_commit) (nat_lt most_buckets (length asked.next.buckets))
      (nat_lt most_policies (length asked.next.policies))
      (find (is_on_cycle asked.next) (map (λ (heading : Heading). heading.name) asked.next.buckets)) is

  memory : IsAllowed desk command → first_of (layout_there (has_layout desk.database) command ∷ no_layout (has_layout desk.database) command ∷ []) ≡ None
  memory allowed = λ i. first_of (allowed.there i ∷ allowed.known i ∷ [])

  limited : (last : Bool) (counted : Counted) (most : ℕ) → fault desk command ≡ Some (last_or last (Limit counted most))
      → Refuses desk command (last_or last (Limit counted most))
  limited true counted most is = is
  limited false counted most is = is

  cycled : (last : Bool) (name : List ℕ) → fault desk command ≡ Some (last_or last (Cycle name)) → Refuses desk command (last_or last (Cycle name))
  cycled true name is = is
  cycled false name is = is

  -- what the database refuses, the desk refuses
  pub refused_by_store : IsOnDatabase desk command → (refusal : StoreRefusal) → store.Refuses desk.database asked refusal
      → Refuses desk command (stored_refusal desk.commit refusal)
  refused_by_store on (stored.Memory error) is = memory on.allowed
  refused_by_store on (stored.Limit counted most) is = limited (desk.commit == last_commit) counted most (first on (stored.Limit counted most) is)
  refused_by_store on (stored.Cycle name) is = cycled (desk.commit == last_commit) name (first on (stored.Cycle name) is)
  refused_by_store on (stored.NoBucket name) is = first on (stored.NoBucket name) is
  refused_by_store on stored.RootBucket is = first on stored.RootBucket is
  refused_by_store on (stored.BadKind kind) is = first on (stored.BadKind kind) is

  -- what the database accepts, the desk accepts up to the last commit number
  pub stepped_by_store : IsOnDatabase desk command → store.fault desk.database asked ≡ None → (after : DeskState) (count : ℕ)
      → after ≡ next desk command → count ≡ erased_by desk command → (answer : Result Applied Refusal)
      → Steps desk after count answer → Answers desk command answer
  stepped_by_store on is after count follows counts (Ok applied) step =
      record { next = step.next ∙ follows; erased = step.erased ∙ counts; accepted = none on is ∙ step.room }
  stepped_by_store on is after count follows counts (Err (Memory error)) step = memory on.allowed
  stepped_by_store on is after count follows counts (Err refusal) step = none on is ∙ step

-- ---- commands on users and installs

-- no refusal names a limit
abbrev pub KeepsRefusal : ℕ → Option RegistryRefusal → Type 0
KeepsRefusal commit rule = (refusal : RegistryRefusal) → rule ≡ Some refusal → registered_refusal commit refusal ≡ of_registry refusal

-- each refusal names a limit
abbrev pub IsLimit : ℕ → Option RegistryRefusal → Type 0
IsLimit commit count =
    (refusal : RegistryRefusal) → count ≡ Some refusal → registered_refusal commit refusal ≡ or_last commit (of_registry refusal)

-- A command that changes the registry, at a desk where the layout has nothing against it.
pub record IsOnRegistry (desk : DeskState) (command : Command) : Type 0 where
  pub allowed : IsAllowed desk command
  pub rule : KeepsRefusal desk.commit (registry_rule desk.registry command)
  pub count : IsLimit desk.commit (registry_limit desk.registry command)
  pub request : request desk command ≡ leads_to (settled (next_registry desk.registry command) desk.database)

abbrev registry_rules : Option RegistryRefusal → Bool → Option RegistryRefusal → Option Refusal → Option Refusal → Option Refusal
registry_rules rule last count limit cycle =
    first_of (None ∷ None ∷ None ∷ None ∷ None ∷ None ∷ option_map of_registry rule ∷ cond last (Some (Limit Commits last_commit)) None
    ∷ option_map of_registry count ∷ limit ∷ cycle ∷ [])

either : (rule count : Option RegistryRefusal) (last : Bool) (limit cycle : Option Refusal) (refusal : RegistryRefusal) (answer : Refusal)
    → option_or rule count ≡ Some refusal → (rule ≡ Some refusal → answer ≡ of_registry refusal)
    → (count ≡ Some refusal → answer ≡ last_or last (of_registry refusal))
    → registry_rules rule last count limit cycle ≡ Some answer
either (Some broken) count last limit cycle refusal answer is kept limited =
    ap (λ r. Some (of_registry r)) (same is) ∙ ap Some (sym (kept is))
either None (Some broken) true limit cycle refusal answer is kept limited = ap Some (sym (limited is))
either None (Some broken) false limit cycle refusal answer is kept limited =
    ap (λ r. Some (of_registry r)) (same is) ∙ ap Some (sym (limited is))
either None None last limit cycle refusal answer is kept limited = cc

module _ (desk : DeskState) (command : Command) where
  abbrev around : Option Refusal → Option Refusal → Option Refusal → Request → Option Refusal
  around reserved there known asked =
      first_of (reserved ∷ there ∷ known
      ∷ option_map of_store (store.no_bucket asked.named desk.database)
      ∷ option_map of_store (store.root_bucket asked.removed)
      ∷ option_map of_store (store.bad_kind asked.headed)
      ∷ option_map of_registry (registry_rule desk.registry command)
      ∷ commit_limit desk.commit
      ∷ option_map of_registry (registry_limit desk.registry command)
      ∷ option_map of_store (store.limit asked.next)
      ∷ option_map of_store (store.cycle asked.next) ∷ [])

  plain_registry : IsOnRegistry desk command
      → fault desk command
      ≡ registry_rules (registry_rule desk.registry command) (desk.commit == last_commit) (registry_limit desk.registry command)
      (option_map of_store (store.limit (settled (next_registry desk.registry command) desk.database)))
      (option_map of_store (store.cycle (settled (next_registry desk.registry command) desk.database)))
  plain_registry on = λ i. around (on.allowed.unreserved i) (on.allowed.there i) (on.allowed.known i) (on.request i)

  first_registry : IsOnRegistry desk command → (refusal : RegistryRefusal)
      → option_or (registry_rule desk.registry command) (registry_limit desk.registry command) ≡ Some refusal
      → fault desk command ≡ Some (registered_refusal desk.commit refusal)
  first_registry on refusal is =
      plain_registry on
      ∙ either (registry_rule desk.registry command) (registry_limit desk.registry command) (desk.commit == last_commit)
      (option_map of_store (store.limit (settled (next_registry desk.registry command) desk.database)))
      (option_map of_store (store.cycle (settled (next_registry desk.registry command) desk.database)))
      refusal (registered_refusal desk.commit refusal) is (on.rule refusal) (on.count refusal)

  -- what the registry refuses, the desk refuses
  pub refused_by_registry : IsOnRegistry desk command → (refusal : RegistryRefusal)
      → registry.Refuses refusal (option_or (registry_rule desk.registry command) (registry_limit desk.registry command))
      → Refuses desk command (registered_refusal desk.commit refusal)
  refused_by_registry on (registered.Memory error) is = memory desk command on.allowed
  refused_by_registry on (registered.Limit counted most) is =
      limited desk command (desk.commit == last_commit) counted most (first_registry on (registered.Limit counted most) is)
  refused_by_registry on refusal is = first_registry on refusal is

  settled-plain : IsOnRegistry desk command
      → option_or (registry_rule desk.registry command) (registry_limit desk.registry command) ≡ None
      → fault desk command ≡ settled_fault desk (next_registry desk.registry command)
  settled-plain on is =
      plain_registry on
      ∙ at (registry_rule desk.registry command) (registry_limit desk.registry command) is (desk.commit == last_commit)
    where
      at : (rule count : Option RegistryRefusal) → option_or rule count ≡ None → (last : Bool)
          → registry_rules rule last count (option_map of_store (store.limit (settled (next_registry desk.registry command) desk.database)))
          (option_map of_store (store.cycle (settled (next_registry desk.registry command) desk.database)))
          ≡ first_of (cond last (Some (Limit Commits last_commit)) None
          ∷ option_map of_store (store.limit (settled (next_registry desk.registry command) desk.database))
          ∷ option_map of_store (store.cycle (settled (next_registry desk.registry command) desk.database)) ∷ [])
      at (Some broken) count is last = cc
      at None (Some broken) is last = cc
      at None None is true = refl
      at None None is false = refl

  -- what the registry accepts, the desk accepts where the two buckets can follow
  pub stepped_by_registry : IsOnRegistry desk command
      → option_or (registry_rule desk.registry command) (registry_limit desk.registry command) ≡ None
      → moved desk (settled (next_registry desk.registry command) desk.database) (next_registry desk.registry command) desk.template
      ≡ next desk command
      → 0 ≡ erased_by desk command → (answer : Result Applied Refusal)
      → Settles desk (next_registry desk.registry command) answer → Answers desk command answer
  stepped_by_registry on is follows counts (Ok applied) step =
      record { next = step.next ∙ follows; erased = step.erased ∙ counts; accepted = settled-plain on is ∙ step.accepted }
  stepped_by_registry on is follows counts (Err (Memory error)) step = memory desk command on.allowed
  stepped_by_registry on is follows counts (Err refusal) step = settled-plain on is ∙ step

-- ---- the two buckets made to follow

settles_first : (a : Option (List ℕ)) (b : Bool) (k : Option Heading) (last s p : Bool) (c : Option (List ℕ)) (refusal : StoreRefusal)
    → no_bucket a ≡ None → root_bucket b ≡ None → bad_kind k ≡ None → store_rules a b k s p c ≡ Some refusal
    → first_of (cond last (Some (Limit Commits last_commit)) None ∷ option_map of_store (limits s p) ∷ option_map of_store (cycle c) ∷ [])
    ≡ Some (answered last refusal)
settles_first (Some name) b k last s p c refusal named rooted kinds is = cc
settles_first None true k last s p c refusal named rooted kinds is = cc
settles_first None false (Some kind) last s p c refusal named rooted kinds is = cc
settles_first None false None true true p c refusal named rooted kinds is = ap (λ r. Some (answered true r)) (same is)
settles_first None false None false true p c refusal named rooted kinds is = ap (λ r. Some (answered false r)) (same is)
settles_first None false None true false true c refusal named rooted kinds is = ap (λ r. Some (answered true r)) (same is)
settles_first None false None false false true c refusal named rooted kinds is = ap (λ r. Some (answered false r)) (same is)
settles_first None false None true false false (Some name) refusal named rooted kinds is = ap (λ r. Some (answered true r)) (same is)
settles_first None false None false false false (Some name) refusal named rooted kinds is = ap (λ r. Some (answered false r)) (same is)
settles_first None false None last false false None refusal named rooted kinds is = cc

settles_none : (a : Option (List ℕ)) (b : Bool) (k : Option Heading) (last s p : Bool) (c : Option (List ℕ))
    → store_rules a b k s p c ≡ None
    → first_of (cond last (Some (Limit Commits last_commit)) None ∷ option_map of_store (limits s p) ∷ option_map of_store (cycle c) ∷ [])
    ≡ cond last (Some (Limit Commits last_commit)) None
settles_none (Some name) b k last s p c is = cc
settles_none None true k last s p c is = cc
settles_none None false (Some kind) last s p c is = cc
settles_none None false None last true p c is = cc
settles_none None false None last false true c is = cc
settles_none None false None last false false (Some name) is = cc
settles_none None false None true false false None is = refl
settles_none None false None false false false None is = refl

module _ (desk : DeskState) (registry : RegistryLists) (changes : List Change)
    (named : store.no_bucket (flat_map named_by changes) desk.database ≡ None)
    (follows : with_changes changes desk.database ≡ settled registry desk.database) where
  abbrev wanted : Request
  wanted = store.set_policies changes desk.database

  -- what is tested behind the last commit number, at the database that the changes lead to
  tested-is : settled_fault desk registry
      ≡ first_of (commit_limit desk.commit ∷ option_map of_store (store.limit (with_changes changes desk.database))
      ∷ option_map of_store (store.cycle (with_changes changes desk.database)) ∷ [])
  tested-is =
      λ i. first_of (commit_limit desk.commit ∷ option_map of_store (store.limit (sym follows i)) ∷ option_map of_store (store.cycle (sym follows i)) ∷ [])

  settled_first : (refusal : StoreRefusal) → store.fault desk.database (store.set_policies changes desk.database) ≡ Some refusal
      → settled_fault desk registry ≡ Some (answered (desk.commit == last_commit) refusal)
  settled_first refusal is =
      tested-is
      ∙ settles_first (find (λ name. not (has_bucket name desk.database)) (flat_map named_by changes)) false None (desk.commit == last_commit)
      (nat_lt most_buckets (length (with_changes changes desk.database).buckets))
      (nat_lt most_policies (length (with_changes changes desk.database).policies))
      (find (is_on_cycle (with_changes changes desk.database)) (map (λ (heading : Heading). heading.name) (with_changes changes desk.database).buckets))
      refusal named refl refl is

  settled-limited : (last : Bool) (counted : Counted) (most : ℕ) → settled_fault desk registry ≡ Some (last_or last (Limit counted most))
      → Settles desk registry (Err (last_or last (Limit counted most)))
  settled-limited true counted most is = is
  settled-limited false counted most is = is

  settled-cycled : (last : Bool) (name : List ℕ) → settled_fault desk registry ≡ Some (last_or last (Cycle name))
      → Settles desk registry (Err (last_or last (Cycle name)))
  settled-cycled true name is = is
  settled-cycled false name is = is

  pub unsettled : (refusal : StoreRefusal) → store.Refuses desk.database (store.set_policies changes desk.database) refusal
      → Settles desk registry (Err (stored_refusal desk.commit refusal))
  unsettled (stored.Memory error) is = tt
  unsettled (stored.Limit counted most) is = settled-limited (desk.commit == last_commit) counted most (settled_first (stored.Limit counted most) is)
  unsettled (stored.Cycle name) is = settled-cycled (desk.commit == last_commit) name (settled_first (stored.Cycle name) is)
  unsettled (stored.NoBucket name) is = settled_first (stored.NoBucket name) is
  unsettled stored.RootBucket is = settled_first stored.RootBucket is
  unsettled (stored.BadKind kind) is = settled_first (stored.BadKind kind) is

  settled_none : store.fault desk.database (store.set_policies changes desk.database) ≡ None
      → settled_fault desk registry ≡ commit_limit desk.commit
  settled_none is =
      tested-is
      ∙ settles_none (find (λ name. not (has_bucket name desk.database)) (flat_map named_by changes)) false None (desk.commit == last_commit)
      (nat_lt most_buckets (length (with_changes changes desk.database).buckets))
      (nat_lt most_policies (length (with_changes changes desk.database).policies))
      (find (is_on_cycle (with_changes changes desk.database)) (map (λ (heading : Heading). heading.name) (with_changes changes desk.database).buckets)) is

  pub settles : store.fault desk.database (store.set_policies changes desk.database) ≡ None → (after : DeskState)
      → after ≡ moved desk (settled registry desk.database) registry desk.template → (answer : Result Applied Refusal)
      → Steps desk after 0 answer → Settles desk registry answer
  settles is after same (Ok applied) step =
      record { next = step.next ∙ same; erased = step.erased; accepted = settled_none is ∙ step.room }
  settles is after same (Err (Memory error)) step = tt
  settles is after same (Err refusal) step = settled_none is ∙ step

-- ---- what the registry's rules and limits name

or-none : (rule : Option RegistryRefusal) → option_or rule None ≡ rule
or-none None = refl
or-none (Some refusal) = refl

keeps-or : (commit : ℕ) (one other : Option RegistryRefusal) → KeepsRefusal commit one → KeepsRefusal commit other
    → KeepsRefusal commit (option_or one other)
keeps-or commit None other first second = second
keeps-or commit (Some refusal) other first second = first

limit-or : (commit : ℕ) (one other : Option RegistryRefusal) → IsLimit commit one → IsLimit commit other → IsLimit commit (option_or one other)
limit-or commit None other first second = second
limit-or commit (Some refusal) other first second = first

over-limit : (commit : ℕ) (counted : Counted) (most count : ℕ) → IsLimit commit (registry.over counted most count)
over-limit commit counted most count = at (nat_lt most count)
  where
    at : (b : Bool) → IsLimit commit (cond b (Some (registered.Limit counted most)) None)
    at true refusal is =
        subst (λ r. registered_refusal commit r ≡ or_last commit (of_registry r)) (same is) refl
    at false refusal is = cc

kept : (commit : ℕ) (known : RegistryRefusal) → registered_refusal commit known ≡ of_registry known → KeepsRefusal commit (Some known)
kept commit known is refusal same_refusal =
    subst (λ r. registered_refusal commit r ≡ of_registry r) (same same_refusal) is

nothing : (commit : ℕ) → KeepsRefusal commit None
nothing commit refusal is = cc

no-limit : (commit : ℕ) → IsLimit commit None
no-limit commit refusal is = cc

unknown-kept : (commit : ℕ) (users : List User) (uid : ℕ) → KeepsRefusal commit (registry.unknown_user users uid)
unknown-kept commit users uid = at (has_user users uid)
  where
    at : (b : Bool) → KeepsRefusal commit (cond b None (Some (registered.UnknownUser uid)))
    at true = nothing commit
    at false = kept commit (registered.UnknownUser uid) refl

scope-kept : (commit : ℕ) (users : List User) (scope : Scope) → KeepsRefusal commit (registry.unknown_scope users scope)
scope-kept commit users Everyone = nothing commit
scope-kept commit users (One uid) = unknown-kept commit users uid

owner-kept : (commit : ℕ) (lists : RegistryLists) (install : Install) → KeepsRefusal commit (registry.owner_fault lists install)
owner-kept commit lists install =
    keeps-or commit (registry.unknown_scope lists.users install.scope)
    (option_or (registry.other_package lists.installs install)
    (option_or (registry.other_author lists.installs install) (registry.other_kind lists.installs install)))
    (scope-kept commit lists.users install.scope)
    (keeps-or commit (registry.other_package lists.installs install)
    (option_or (registry.other_author lists.installs install) (registry.other_kind lists.installs install))
    (packaged (find (registry.is_elsewhere install) lists.installs))
    (keeps-or commit (registry.other_author lists.installs install) (registry.other_kind lists.installs install)
    (authored (find (registry.is_by_another install) lists.installs)) (kinded (find (registry.is_of_other_kind install) lists.installs))))
  where
    packaged : (other : Option Install) → KeepsRefusal commit (option_map (λ (one : Install). registered.OtherPackage one.package) other)
    packaged None = nothing commit
    packaged (Some other) = kept commit (registered.OtherPackage other.package) refl

    authored : (other : Option Install) → KeepsRefusal commit (option_map (λ (one : Install). registered.OtherAuthor one.author) other)
    authored None = nothing commit
    authored (Some other) = kept commit (registered.OtherAuthor other.author) refl

    kinded : (other : Option Install) → KeepsRefusal commit (option_map (λ (one : Install). registered.OtherHybrid one.hybrid) other)
    kinded None = nothing commit
    kinded (Some other) = kept commit (registered.OtherHybrid other.hybrid) refl

installs-limit : (commit : ℕ) (installs : List Install) → IsLimit commit (registry.installs_limit installs)
installs-limit commit installs =
    limit-or commit (registry.over Packages most_packages (length (packages installs)))
    (option_or (registry.over Installs most_installs (length installs)) (registry.over Grants most_grants (grant_count installs)))
    (over-limit commit Packages most_packages (length (packages installs)))
    (limit-or commit (registry.over Installs most_installs (length installs)) (registry.over Grants most_grants (grant_count installs))
    (over-limit commit Installs most_installs (length installs)) (over-limit commit Grants most_grants (grant_count installs)))

module _ (desk : DeskState) where
  pub on_user_set : (uid : ℕ) (kind : UserType) → IsAllowed desk (UserSet uid kind) → IsOnRegistry desk (UserSet uid kind)
  on_user_set uid kind allowed = record {
    allowed = allowed;
    rule = nothing desk.commit;
    count = over-limit desk.commit Users most_users (length (with_user desk.registry uid kind).users);
    request = refl;
  }

  pub on_user_remove : (uid : ℕ) → IsAllowed desk (UserRemove uid) → IsOnRegistry desk (UserRemove uid)
  on_user_remove uid allowed = record {
    allowed = allowed;
    rule = unknown-kept desk.commit desk.registry.users uid;
    count = no-limit desk.commit;
    request = refl;
  }

  pub on_install : (install : Install) → IsAllowed desk (InstallCommand install) → IsOnRegistry desk (InstallCommand install)
  on_install install allowed = record {
    allowed = allowed;
    rule = owner-kept desk.commit desk.registry install;
    count = installs-limit desk.commit (with_install desk.registry install).installs;
    request = refl;
  }

  pub on_uninstall : (app : List ℕ) (scope : Scope) → IsAllowed desk (Uninstall app scope) → IsOnRegistry desk (Uninstall app scope)
  on_uninstall app scope allowed = record {
    allowed = allowed;
    rule = at (list_any (is_install_of app scope) desk.registry.installs);
    count = no-limit desk.commit;
    request = refl;
  }
    where
      at : (b : Bool) → KeepsRefusal desk.commit (cond b None (Some registered.NotInstalled))
      at true = nothing desk.commit
      at false = kept desk.commit registered.NotInstalled refl

  pub on_convert : (name : List ℕ) (hybrid : Bool) → IsAllowed desk (Convert name hybrid) → IsOnRegistry desk (Convert name hybrid)
  on_convert name hybrid allowed = record {
    allowed = allowed;
    rule = at (has_package desk.registry name);
    count = no-limit desk.commit;
    request = refl;
  }
    where
      at : (b : Bool) → KeepsRefusal desk.commit (cond b None (Some registered.NotInstalled))
      at true = nothing desk.commit
      at false = kept desk.commit registered.NotInstalled refl

-- a command about the registry is allowed only with the layout
pub laid_known : (has : Bool) → cond (not has) (Some NoLayout) None ≡ None → has ≡ true
laid_known true known = refl
laid_known false known = cc

pub or_nothing : (rule : Option RegistryRefusal) → option_or rule None ≡ rule
or_nothing rule = or-none rule

-- an application that is uninstalled was installed
pub was_installed : (b : Bool) → cond b None (Some registered.NotInstalled) ≡ None → b ≡ true
was_installed true known = refl
was_installed false known = cc

-- ---- the layout

module _ (desk : DeskState) (allowed : IsAllowed desk Layout) where
  behind-commit : (last : Bool) (limit cycle : Option Refusal)
      → first_of (cond last (Some (Limit Commits last_commit)) None ∷ None ∷ limit ∷ cycle ∷ [])
      ≡ first_of (cond last (Some (Limit Commits last_commit)) None ∷ limit ∷ cycle ∷ [])
  behind-commit true limit cycle = refl
  behind-commit false limit cycle = refl

  pub layout_fault : fault desk Layout
      ≡ first_of (commit_limit desk.commit ∷ option_map of_store (store.limit (laid_out desk.database)) ∷ option_map of_store (store.cycle (laid_out desk.database)) ∷ [])
  layout_fault =
      plain desk Layout (record { allowed = allowed; rule = refl; count = refl })
      ∙ behind-commit (desk.commit == last_commit) (option_map of_store (store.limit (laid_out desk.database))) (option_map of_store (store.cycle (laid_out desk.database)))

  pub layout_full : (desk.commit == last_commit) ≡ false → nat_lt most_buckets (length (laid_out desk.database).buckets) ≡ true
      → fault desk Layout ≡ Some (Limit Buckets most_buckets)
  layout_full last full =
      layout_fault
      ∙ (λ i. first_of (cond (last i) (Some (Limit Commits last_commit)) None
      ∷ option_map of_store (cond (full i) (Some (stored.Limit Buckets most_buckets)) (cond (nat_lt most_policies (length (laid_out desk.database).policies)) (Some (stored.Limit Policies most_policies)) None))
      ∷ option_map of_store (store.cycle (laid_out desk.database)) ∷ []))

  module _ (housed : Database) (named : store.no_bucket (flat_map named_by link_changes) housed ≡ None)
      (follows : with_changes link_changes housed ≡ laid_out desk.database) where
    layout_at : fault desk Layout
        ≡ first_of (commit_limit desk.commit ∷ option_map of_store (store.limit (with_changes link_changes housed)) ∷ option_map of_store (store.cycle (with_changes link_changes housed)) ∷ [])
    layout_at =
        layout_fault
        ∙ (λ i. first_of (commit_limit desk.commit ∷ option_map of_store (store.limit (sym follows i)) ∷ option_map of_store (store.cycle (sym follows i)) ∷ []))

    layout_first : (refusal : StoreRefusal) → store.fault housed (store.set_policies link_changes housed) ≡ Some refusal
        → fault desk Layout ≡ Some (answered (desk.commit == last_commit) refusal)
    layout_first refusal is =
        layout_at
        ∙ settles_first (find (λ name. not (has_bucket name housed)) (flat_map named_by link_changes)) false None (desk.commit == last_commit)
        (nat_lt most_buckets (length (with_changes link_changes housed).buckets))
        (nat_lt most_policies (length (with_changes link_changes housed).policies))
        (find (is_on_cycle (with_changes link_changes housed)) (map (λ (heading : Heading). heading.name) (with_changes link_changes housed).buckets))
        refusal named refl refl is

    pub layout_refused : (refusal : StoreRefusal) → store.Refuses housed (store.set_policies link_changes housed) refusal
        → Refuses desk Layout (stored_refusal desk.commit refusal)
    layout_refused (stored.Memory error) is = memory desk Layout allowed
    layout_refused (stored.Limit counted most) is =
        limited desk Layout (desk.commit == last_commit) counted most (layout_first (stored.Limit counted most) is)
    layout_refused (stored.Cycle name) is = cycled desk Layout (desk.commit == last_commit) name (layout_first (stored.Cycle name) is)
    layout_refused (stored.NoBucket name) is = layout_first (stored.NoBucket name) is
    layout_refused stored.RootBucket is = layout_first stored.RootBucket is
    layout_refused (stored.BadKind kind) is = layout_first (stored.BadKind kind) is

    layout_none : store.fault housed (store.set_policies link_changes housed) ≡ None → fault desk Layout ≡ commit_limit desk.commit
    layout_none is =
        layout_at
        ∙ settles_none (find (λ name. not (has_bucket name housed)) (flat_map named_by link_changes)) false None (desk.commit == last_commit)
        (nat_lt most_buckets (length (with_changes link_changes housed).buckets))
        (nat_lt most_policies (length (with_changes link_changes housed).policies))
        (find (is_on_cycle (with_changes link_changes housed)) (map (λ (heading : Heading). heading.name) (with_changes link_changes housed).buckets)) is

    pub layout_stepped : store.fault housed (store.set_policies link_changes housed) ≡ None → (after : DeskState)
        → after ≡ next desk Layout → (answer : Result Applied Refusal) → Steps desk after 0 answer → Answers desk Layout answer
    layout_stepped is after follows_to (Ok applied) step =
        record { next = step.next ∙ follows_to; erased = step.erased; accepted = layout_none is ∙ step.room }
    layout_stepped is after follows_to (Err (Memory error)) step = memory desk Layout allowed
    layout_stepped is after follows_to (Err refusal) step = layout_none is ∙ step
