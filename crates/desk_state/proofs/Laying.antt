-- What a layout makes of a database that has none.
use Rattle.std.proofs.Common.{◌≡◌, ◌⊎◌, inl, inr, ℕ, ◌+◌, ◌<◌, ◌≤◌, Bool, true, false, not, cond, ◌||◌, List, [], ◌∷◌, ◌++◌, length, Option, Some, None, refl, sym, ap, ◌∙◌, subst, arith}
use Rattle.std.specs.declared.cmp.Ordering.{Ordering}
use Rattle.std.specs.declared.cmp.Ordering.TheVariants.{Less, Equal, Greater}
use Rattle.std.specs.Option.{option_map}
use Rattle.std.specs.List.{AllByRecursion, filter, fold, list_any, flat_map}
use Rattle.std.specs.Ordering.{is_lt, is_gt, is_eq}
use Rattle.std.proofs.lemmas.Bool.{true≢false}
use Rattle.std.proofs.lemmas.List.Folds.{list_any-append}
use Rattle.std.proofs.lemmas.List.Elements.{filter-append}
use Rattle.std.proofs.Math.ListN.{length-append}
use Rattle.cynara_keys.specs.Text.{same_text}
use Rattle.cynara_keys.proofs.Order.{same_text-≡, ≡-same_text, text_cmp-equal}
use Rattle.bucket_store.specs.Database.{Database, Heading, Placed, root, has_bucket}
use Rattle.bucket_store.specs.Order.{heading_cmp, placed_cmp, put}
use Rattle.bucket_store.specs.Change.{with_bucket, after_change}
use Rattle.bucket_store.specs.Refusal as store
use Rattle.bucket_store.specs.Refusal.{Request, named_by, no_bucket, most_buckets}
use Rattle.bucket_store.specs.WellFormed.{IsWellFormed, IsSound, IsRooted}
use Rattle.bucket_store.specs.declared.refusals.StoreRefusal.TheVariants as stored
use Rattle.bucket_store.specs.declared.refusals.StoreRefusal.{StoreRefusal}
use Rattle.cynara_keys.specs.declared.fields.Field.TheVariants.{Any}
use Rattle.bucket_store.proofs.Heading.{Sound-with}
use Rattle.bucket_store.proofs.Lists.{filter-none}
use Rattle.bucket_store.proofs.Sound.{limit-sound, cycle-sound}
use Rattle.app_registry.specs.Registry.{RegistryLists, no_entries}
use Rattle.app_registry.specs.declared.users.UserType.TheVariants.{System, Admin, Normal, Guest}
use Rattle.desk_state.specs.DeskState.{DeskState}
use Rattle.desk_state.specs.IsDesk.{IsBare, IsLaidOut, IsDesk}
use Rattle.desk_state.specs.Layout.{main, manifests, admin, type_bucket, has_layout, heading, headings, laid_out}
use Rattle.desk_state.specs.Rules.{layout_there}
use Rattle.desk_state.specs.parts.Linking.{with_headings, link_changes, set_link, IsMemory}
use Rattle.desk_state.specs.parts.Stepping.{IsArranged, moved}
use Rattle.desk_state.specs.declared.commands.Command.TheVariants.{Layout}
use Rattle.desk_state.proofs.Filters.{filter-turn}
use Rattle.desk_state.proofs.Keeping.{absent-with, has-with, Denies, denies-with}
use Rattle.desk_state.proofs.Owning.{own, in_bucket, IsOwned, IsOwned-settled, own-apart}

-- ---- a desk that may be laid out has no layout

not_there : (has : Bool) → layout_there has Layout ≡ None → has ≡ false
not_there true h = cc
not_there false h = refl

pub bare : (desk : DeskState) → IsDesk desk → layout_there (has_layout desk.database) Layout ≡ None → IsBare desk
bare desk is there = at is.layout
  where
    at : IsBare desk ⊎ IsLaidOut desk → IsBare desk
    at (inl none) = none
    at (inr laid) = absurd (true≢false (sym laid.buckets.0 ∙ not_there (has_layout desk.database) there))

-- ---- how many elements a put makes

length-put : (x : Heading) (list : List Heading)
    → length (put heading_cmp x list)
    ≡ length (filter (λ (other : Heading). is_lt (heading_cmp other x)) list)
    + (length (filter (λ (other : Heading). is_gt (heading_cmp other x)) list) + 1)
length-put x list =
    length-append (filter (λ (other : Heading). is_lt (heading_cmp other x)) list) (x ∷ filter (λ (other : Heading). is_gt (heading_cmp other x)) list)
    ∙ omega arith

around-most : (x : Heading) (list : List Heading)
    → length (filter (λ (other : Heading). is_lt (heading_cmp other x)) list)
    + length (filter (λ (other : Heading). is_gt (heading_cmp other x)) list) ≤ length list
around-most x [] = omega arith
around-most x (y ∷ list) = at (heading_cmp y x) (around-most x list)
  where
    at : (o : Ordering)
        → length (filter (λ (other : Heading). is_lt (heading_cmp other x)) list) + length (filter (λ (other : Heading). is_gt (heading_cmp other x)) list) ≤ length list
        → length (cond (is_lt o) (y ∷ filter (λ (other : Heading). is_lt (heading_cmp other x)) list) (filter (λ (other : Heading). is_lt (heading_cmp other x)) list))
        + length (cond (is_gt o) (y ∷ filter (λ (other : Heading). is_gt (heading_cmp other x)) list) (filter (λ (other : Heading). is_gt (heading_cmp other x)) list)) ≤ length (y ∷ list)
    at Less rest = omega (arith, rest)
    at Equal rest = omega (arith, rest)
    at Greater rest = omega (arith, rest)

pub put-most : (x : Heading) (list : List Heading) → length (put heading_cmp x list) ≤ length list + 1
put-most x list =
    let is = length-put x list in
    let most = around-most x list in
    omega (arith, is, most)

around-all : (x : Heading) (list : List Heading) → list_any (λ (other : Heading). same_text other.name x.name) list ≡ false
    → length (filter (λ (other : Heading). is_lt (heading_cmp other x)) list)
    + length (filter (λ (other : Heading). is_gt (heading_cmp other x)) list) ≡ length list
around-all x [] none = omega arith
around-all x (y ∷ list) none = first (same_text y.name x.name) refl none (around-all x list)
  where
    at : (o : Ordering) → is_eq o ≡ false
        → length (filter (λ (other : Heading). is_lt (heading_cmp other x)) list) + length (filter (λ (other : Heading). is_gt (heading_cmp other x)) list) ≡ length list
        → length (cond (is_lt o) (y ∷ filter (λ (other : Heading). is_lt (heading_cmp other x)) list) (filter (λ (other : Heading). is_lt (heading_cmp other x)) list))
        + length (cond (is_gt o) (y ∷ filter (λ (other : Heading). is_gt (heading_cmp other x)) list) (filter (λ (other : Heading). is_gt (heading_cmp other x)) list)) ≡ length (y ∷ list)
    at Less apart rest = omega (arith, rest)
    at Equal apart rest = absurd (true≢false apart)
    at Greater apart rest = omega (arith, rest)

    first : (b : Bool) → same_text y.name x.name ≡ b → (b || list_any (λ (other : Heading). same_text other.name x.name) list) ≡ false
        → (list_any (λ (other : Heading). same_text other.name x.name) list ≡ false
        → length (filter (λ (other : Heading). is_lt (heading_cmp other x)) list) + length (filter (λ (other : Heading). is_gt (heading_cmp other x)) list) ≡ length list)
        → length (filter (λ (other : Heading). is_lt (heading_cmp other x)) (y ∷ list)) + length (filter (λ (other : Heading). is_gt (heading_cmp other x)) (y ∷ list)) ≡ length (y ∷ list)
    first true same h rest = absurd (true≢false h)
    first false same h rest = at (heading_cmp y x) (text_cmp-equal y.name x.name ∙ same) (rest h)

put-new : (x : Heading) (list : List Heading) → list_any (λ (other : Heading). same_text other.name x.name) list ≡ false
    → length (put heading_cmp x list) ≡ length list + 1
put-new x list none =
    let is = length-put x list in
    let all = around-all x list none in
    omega (arith, is, all)

-- ---- headings put in turn

-- the bucket of no heading is that of a later one
abbrev AreApart : List Heading → Type 0
AreApart [] = Unit {0}
AreApart (heading ∷ headings) = AllByRecursion (λ (other : Heading). same_text heading.name other.name ≡ false) headings × AreApart headings

headings-apart : AreApart headings
headings-apart = (
  (refl, (refl, (refl, (refl, (refl, (refl, tt)))))),
  (
    (refl, (refl, (refl, (refl, (refl, tt))))),
    (
      (refl, (refl, (refl, (refl, tt)))),
      (
        (refl, (refl, (refl, tt))),
        (
          (refl, (refl, tt)),
          ((refl, tt), (tt, tt)),
        ),
      ),
    ),
  ),
)

abbrev put_all : List Heading → List Heading → List Heading
put_all buckets headings = fold (λ buckets heading. put heading_cmp heading buckets) buckets headings

abbrev of_buckets : List Heading → Database
of_buckets buckets = record { buckets = buckets; policies = [] }

abbrev Absent : List Heading → Heading → Type 0
Absent buckets heading = has_bucket heading.name (of_buckets buckets) ≡ false

still-absent : (heading : Heading) (buckets headings : List Heading)
    → AllByRecursion (λ (other : Heading). same_text heading.name other.name ≡ false) headings
    → AllByRecursion (Absent buckets) headings → AllByRecursion (Absent (put heading_cmp heading buckets)) headings
still-absent heading buckets [] apart absent = tt
still-absent heading buckets (other ∷ headings) apart absent =
    (absent-with heading other.name (of_buckets buckets) apart.0 absent.0, still-absent heading buckets headings apart.1 absent.1)

length-all : (headings buckets : List Heading) → AreApart headings → AllByRecursion (Absent buckets) headings
    → length (put_all buckets headings) ≡ length buckets + length headings
length-all [] buckets apart absent = omega arith
length-all (heading ∷ headings) buckets apart absent =
    let rest = length-all headings (put heading_cmp heading buckets) apart.1 (still-absent heading buckets headings apart.0 absent.1) in
    let one = put-new heading buckets absent.0 in
    omega (arith, rest, one)

stays-there : (name : List ℕ) (headings buckets : List Heading) → has_bucket name (of_buckets buckets) ≡ true
    → has_bucket name (of_buckets (put_all buckets headings)) ≡ true
stays-there name [] buckets has = has
stays-there name (heading ∷ headings) buckets has =
    stays-there name headings (put heading_cmp heading buckets) (has-with heading name (of_buckets buckets) has)

put-there : (heading : Heading) (buckets : List Heading) → has_bucket heading.name (of_buckets (put heading_cmp heading buckets)) ≡ true
put-there heading buckets =
    let below = filter (λ (other : Heading). is_lt (heading_cmp other heading)) buckets in
    let above = filter (λ (other : Heading). is_gt (heading_cmp other heading)) buckets in
    let test : Heading → Bool = λ other. same_text other.name heading.name in
    list_any-append test below (heading ∷ above)
    ∙ ap (λ b. list_any test below || (b || list_any test above)) (≡-same_text heading.name heading.name refl)
    ∙ any (list_any test below)
  where
    any : (b : Bool) → (b || true) ≡ true
    any true = refl
    any false = refl

all-there : (headings buckets : List Heading) → AllByRecursion (λ (heading : Heading). has_bucket heading.name (of_buckets (put_all buckets headings)) ≡ true) headings
all-there [] buckets = tt
all-there (heading ∷ headings) buckets =
    (stays-there heading.name headings (put heading_cmp heading buckets) (put-there heading buckets), all-there headings (put heading_cmp heading buckets))

all-deny : (headings buckets : List Heading) → AllByRecursion Denies headings → AllByRecursion Denies buckets → AllByRecursion Denies (put_all buckets headings)
all-deny [] buckets new old = old
all-deny (heading ∷ headings) buckets new old = all-deny headings (put heading_cmp heading buckets) new.1 (denies-with heading buckets new.0 old)

headings-deny : AllByRecursion Denies headings
headings-deny =
    ((λ managed. refl), ((λ managed. refl), ((λ managed. absurd (true≢false (sym managed))), ((λ managed. absurd (true≢false (sym managed))), ((λ managed. absurd (true≢false (sym managed))), ((λ managed. absurd (true≢false (sym managed))), ((λ managed. absurd (true≢false (sym managed))), tt)))))))

-- ---- a desk without a layout

module _ (desk : DeskState) (is : IsDesk desk) (none : IsBare desk) where
  absent : AllByRecursion (Absent desk.database.buckets) headings
  absent =
      (none.no_bucket.0, (none.no_bucket.1.0, (none.no_bucket.1.1.0, (none.no_bucket.1.1.1.0, (none.no_bucket.1.1.1.1.0, (none.no_bucket.1.1.1.1.1.0, (none.no_bucket.1.1.1.1.1.1.0, tt)))))))

  pub length-laid_out : length (laid_out desk.database).buckets ≡ length desk.database.buckets + 7
  length-laid_out = length-all headings desk.database.buckets headings-apart absent

  unmanaged : (buckets : List Heading) → list_any (λ (other : Heading). same_text other.name main) buckets ≡ false
      → list_any (λ (other : Heading). same_text other.name manifests) buckets ≡ false → AllByRecursion Denies buckets
  unmanaged [] mains manifest = tt
  unmanaged (heading ∷ buckets) mains manifest = (
    (λ managed. absurd (neither (same_text heading.name main) (same_text heading.name manifests) (first (same_text heading.name main) _ mains) (first (same_text heading.name manifests) _ manifest) managed)),
    unmanaged buckets (later (same_text heading.name main) _ mains) (later (same_text heading.name manifests) _ manifest),
  )
    where
      first : (a b : Bool) → (a || b) ≡ false → a ≡ false
      first true b h = absurd (true≢false h)
      first false b h = refl

      later : (a b : Bool) → (a || b) ≡ false → b ≡ false
      later true b h = absurd (true≢false h)
      later false b h = h

      neither : (a b : Bool) → a ≡ false → b ≡ false → (a || b) ≡ true → ⊥
      neither true b one other h = true≢false one
      neither false b one other h = true≢false (sym h ∙ other)

  -- no policy is in a bucket that is not there
  own-absent : (name : List ℕ) → has_bucket name desk.database ≡ false → own name desk.database.policies ≡ []
  own-absent name missing =
      filter-none (λ (placed : Placed). same_text placed.bucket name) desk.database.policies (each desk.database.policies is.database.sound.rooted)
    where
      each : (policies : List Placed) → AllByRecursion (IsRooted desk.database) policies
          → AllByRecursion (λ (placed : Placed). same_text placed.bucket name ≡ false) policies
      each [] rooted = tt
      each (placed ∷ policies) rooted = (at (same_text placed.bucket name) refl, each policies rooted.1)
        where
          at : (b : Bool) → same_text placed.bucket name ≡ b → b ≡ false
          at true same =
              absurd (true≢false (sym rooted.0.own ∙ ap (λ bucket. has_bucket bucket desk.database) (same_text-≡ placed.bucket name same) ∙ missing))
          at false same = refl

  own-set : (name target : List ℕ) (policies : List Placed) → own name policies ≡ []
      → own name (after_change policies (set_link name target)) ≡ in_bucket name (record { key = record { client = Any; user = Any; privilege = Any }; result = record { kind = 65534; metadata = target } }) ∷ []
  own-set name target policies empty =
      let new : Placed = in_bucket name (record { key = record { client = Any; user = Any; privilege = Any }; result = record { kind = 65534; metadata = target } }) in
      let below = filter (λ (other : Placed). is_lt (placed_cmp other new)) policies in
      let above = filter (λ (other : Placed). is_gt (placed_cmp other new)) policies in
      let no_below : own name below ≡ [] =
      filter-turn (λ (placed : Placed). same_text placed.bucket name) (λ (other : Placed). is_lt (placed_cmp other new)) policies
      ∙ ap (filter (λ (other : Placed). is_lt (placed_cmp other new))) empty in
      let no_above : own name above ≡ [] =
      filter-turn (λ (placed : Placed). same_text placed.bucket name) (λ (other : Placed). is_gt (placed_cmp other new)) policies
      ∙ ap (filter (λ (other : Placed). is_gt (placed_cmp other new))) empty in
      filter-append (λ (placed : Placed). same_text placed.bucket name) below (new ∷ above)
      ∙ (λ i. no_below i ++ cond (≡-same_text name name refl i) (new ∷ no_above i) (no_above i))

  pub arranged : IsWellFormed (laid_out desk.database) → IsArranged (moved desk (laid_out desk.database) desk.registry desk.template)
  arranged well =
      let policies = desk.database.policies in
      let first = after_change policies (set_link root main) in
      let second = after_change first (set_link main manifests) in
      let third = after_change second (set_link (type_bucket System) admin) in
      let fourth = after_change third (set_link (type_bucket Admin) admin) in
      let fifth = after_change fourth (set_link (type_bucket Normal) admin) in
      let owned : IsOwned no_entries (laid_out desk.database).policies = record {
        main =
            own-apart main (set_link (type_bucket Guest) admin) refl fifth ∙ own-apart main (set_link (type_bucket Normal) admin) refl fourth
            ∙ own-apart main (set_link (type_bucket Admin) admin) refl third ∙ own-apart main (set_link (type_bucket System) admin) refl second
            ∙ own-set main manifests first (own-apart main (set_link root main) refl policies ∙ own-absent main none.no_bucket.0);
        manifests =
            own-apart manifests (set_link (type_bucket Guest) admin) refl fifth ∙ own-apart manifests (set_link (type_bucket Normal) admin) refl fourth
            ∙ own-apart manifests (set_link (type_bucket Admin) admin) refl third ∙ own-apart manifests (set_link (type_bucket System) admin) refl second
            ∙ own-apart manifests (set_link main manifests) refl first ∙ own-apart manifests (set_link root main) refl policies
            ∙ own-absent manifests none.no_bucket.1.0;
      } in
      let there = all-there headings desk.database.buckets in
      inr (record {
        buckets =
            (there.0, (there.1.0, (there.1.1.0, (there.1.1.1.0, (there.1.1.1.1.0, (there.1.1.1.1.1.0, (there.1.1.1.1.1.1.0, tt)))))));
        denies = all-deny headings desk.database.buckets headings-deny (unmanaged desk.database.buckets none.no_bucket.0 none.no_bucket.1.0);
        settled =
            IsOwned-settled desk.registry (laid_out desk.database) well.keys_rise
            (subst (λ (registry : RegistryLists). IsOwned registry (laid_out desk.database).policies) (sym none.nobody) owned);
      })

  pub named : no_bucket (flat_map named_by link_changes) (with_headings desk.database) ≡ None
  named =
      let there = all-there headings desk.database.buckets in
      let has_root = stays-there root headings desk.database.buckets is.database.sound.root in
      let has_main = there.0 in
      let has_admin = there.1.1.0 in
      λ i. option_map (λ (name : List ℕ). stored.NoBucket name)
      (cond (not (has_root i)) (Some root) (cond (not (has_main i)) (Some main) (cond (not (has_main i)) (Some main) (cond (not (there.1.0 i)) (Some manifests)
      (cond (not (there.1.1.1.0 i)) (Some (type_bucket System)) (cond (not (has_admin i)) (Some admin)
      (cond (not (there.1.1.1.1.0 i)) (Some (type_bucket Admin)) (cond (not (has_admin i)) (Some admin)
      (cond (not (there.1.1.1.1.1.0 i)) (Some (type_bucket Normal)) (cond (not (has_admin i)) (Some admin)
      (cond (not (there.1.1.1.1.1.1.0 i)) (Some (type_bucket Guest)) (cond (not (has_admin i)) (Some admin) None))))))))))))

-- ---- one bucket for which there is room

-- a bucket with a fallback that may stand is refused for want of room alone
pub with-room : (heading : Heading) (database : Database) → IsSound database → store.is_bad heading ≡ false
    → length database.buckets < most_buckets → store.fault database (store.set_bucket heading.name heading.fallback database) ≡ None
with-room heading database sound good room =
    let most = put-most heading database.buckets in
    let more : length (with_bucket heading database).buckets ≤ most_buckets = omega (arith, most, room) in
    let after = Sound-with heading database good more sound in
    λ i. store.first_of (None ∷ None ∷ option_map (λ (bad : Heading). stored.BadKind (record { 0 = bad.fallback.kind })) (cond (good i) (Some heading) None)
    ∷ limit-sound (with_bucket heading database) after i ∷ cycle-sound (with_bucket heading database) after i ∷ [])

clash : {fault : Option StoreRefusal} {refusal : StoreRefusal} → fault ≡ None → fault ≡ Some refusal → ⊥
clash none some = cc

-- a request without a fault is refused for want of memory alone
pub only-memory : (database : Database) (request : Request) → store.fault database request ≡ None → (refusal : StoreRefusal)
    → store.Refuses database request refusal → IsMemory refusal
only-memory database request none (stored.Memory error) is = tt
only-memory database request none (stored.NoBucket name) is = clash none is
only-memory database request none stored.RootBucket is = clash none is
only-memory database request none (stored.BadKind kind) is = clash none is
only-memory database request none (stored.Limit counted most) is = clash none is
only-memory database request none (stored.Cycle name) is = clash none is
