-- What `MAIN` has after a user is set or removed.
use Rattle.std.proofs.Common.{◌≡◌, ℕ, ◌<◌, ◌^◌, ◌==◌, Bool, true, false, not, cond, ◌&&◌, List, [], ◌∷◌, ◌++◌, map, decimal, refl, sym, ap, ◌∙◌, arith}
use Rattle.std.specs.declared.cmp.Ordering.{Ordering}
use Rattle.std.specs.declared.cmp.Ordering.TheVariants.{Less, Equal, Greater}
use Rattle.std.specs.List.{AllByRecursion, filter}
use Rattle.std.specs.List.Sorted.{IsStrictlySortedBy}
use Rattle.std.specs.Ordering.{is_lt, is_gt, is_eq, nat_cmp, ordering_reverse}
use Rattle.std.proofs.lemmas.Bool.{true≢false}
use Rattle.std.proofs.lemmas.Bool.Decides.{nat_tests}
use Rattle.std.proofs.lemmas.Fmt.{decimal_injective}
use Rattle.cynara_keys.specs.Text.{same_text}
use Rattle.cynara_keys.specs.Field.{field_text, same_field, wildcard}
use Rattle.cynara_keys.specs.Key.{key_cmp, same_key}
use Rattle.cynara_keys.specs.declared.fields.Field.TheVariants.{Any}
use Rattle.cynara_keys.specs.Key.{Key}
use Rattle.cynara_keys.specs.declared.keys.Policy.{Policy}
use Rattle.cynara_keys.proofs.Order.{same_text-≡, ≡-same_text, key_cmp-equal}
use Rattle.bucket_store.specs.Database.{Placed}
use Rattle.bucket_store.specs.Order.{placed_cmp, policy_cmp}
use Rattle.bucket_store.specs.Change.{after_change}
use Rattle.bucket_store.proofs.Lists.{filter-map}
use Rattle.bucket_store.proofs.Sound.{policy_total}
use Rattle.app_registry.specs.Registry.{RegistryLists, user_cmp}
use Rattle.app_registry.specs.Rising.{placed}
use Rattle.app_registry.specs.declared.users.User.{User}
use Rattle.app_registry.proofs.Orders.{user_total}
use Rattle.app_registry.proofs.Rising.{rising_rises}
use Rattle.app_registry.proofs.Texts.{decimal-no_wildcard}
use Rattle.desk_state.specs.Layout.{main, manifests, link, user_link, main_policies}
use Rattle.desk_state.specs.parts.Following.{user_key, set_user, delete_user}
use Rattle.desk_state.proofs.Filters.{filter-within, three-parts, rises-up}
use Rattle.desk_state.proofs.Known.{rising-at, first_at}
use Rattle.desk_state.proofs.Owning.{own, in_bucket}
use Rattle.desk_state.proofs.Settling.{at_key, fold-at, own-known, tied-bucket}

-- the key ties with that of the user of this number
abbrev pub names : Key → ℕ → Bool
names key uid = is_eq (key_cmp key (user_key uid))

-- the links of users at a key
abbrev pub links_at : Key → List User → List Policy
links_at key users = first_at policy_total (at_key key) (map user_link users)

split : (a b : Bool) → (a && b) ≡ true → (a ≡ true) × (b ≡ true)
split true b h = (refl, h)
split false b h = absurd (true≢false (sym h))

-- the user's number is in the key
pub same-user : (key other : Key) → is_eq (key_cmp key other) ≡ true → field_text key.user ≡ field_text other.user
same-user key other tied =
    let same : same_key key other ≡ true = sym (key_cmp-equal key other) ∙ tied in
    let later = (split (same_field key.client other.client) (same_field key.user other.user && same_field key.privilege other.privilege) same).1 in
    same_text-≡ (field_text key.user) (field_text other.user)
    (split (same_field key.user other.user) (same_field key.privilege other.privilege) later).0

module _ (key : Key) (uid : ℕ) (fits : uid < 2 ^ 64) (named : names key uid ≡ true) where
  -- a key names one user at most
  other-user : (other : ℕ) → other < 2 ^ 64 → (other ≡ uid → ⊥) → names key other ≡ false
  other-user other small differs = at (names key other) refl
    where
      at : (b : Bool) → names key other ≡ b → b ≡ false
      at true is =
          absurd (differs (decimal_injective other uid small fits (sym (same-user key (user_key other) is) ∙ same-user key (user_key uid) named)))
      at false is = refl

  -- and not everyone else
  not-everyone : is_eq (key_cmp key (link Any manifests).key) ≡ false
  not-everyone = at (is_eq (key_cmp key (link Any manifests).key)) refl
    where
      at : (b : Bool) → is_eq (key_cmp key (link Any manifests).key) ≡ b → b ≡ false
      at true is =
          absurd (true≢false (sym (≡-same_text (decimal uid) wildcard (sym (same-user key (user_key uid) named) ∙ same-user key (link Any manifests).key is))
          ∙ decimal-no_wildcard uid))
      at false is = refl

-- ---- the first link

links-skip : (key : Key) (users others : List User) → AllByRecursion (λ (user : User). names key user.uid ≡ false) users
    → links_at key (users ++ others) ≡ links_at key others
links-skip key [] others all = refl
links-skip key (user ∷ users) others all =
    ap (λ b. cond b (user_link user ∷ []) (links_at key (users ++ others))) all.0 ∙ links-skip key users others all.1

links-front : (key : Key) (front users others : List User) → links_at key users ≡ links_at key others
    → links_at key (front ++ users) ≡ links_at key (front ++ others)
links-front key [] users others same = same
links-front key (user ∷ front) users others same =
    ap (λ rest. cond (names key user.uid) (user_link user ∷ []) rest) (links-front key front users others same)

links-none : (key : Key) (users : List User) → AllByRecursion (λ (user : User). names key user.uid ≡ false) users → links_at key users ≡ []
links-none key [] all = refl
links-none key (user ∷ users) all = ap (λ b. cond b (user_link user ∷ []) (links_at key users)) all.0 ∙ links-none key users all.1

-- ---- users around a number

all-passing : (test : User → Bool) (P : User → Type 0) → ((user : User) → test user ≡ true → P user) → (users : List User)
    → AllByRecursion P (filter test users)
all-passing test P passing [] = tt
all-passing test P passing (user ∷ users) = at (test user) refl (all-passing test P passing users)
  where
    at : (b : Bool) → test user ≡ b → AllByRecursion P (filter test users) → AllByRecursion P (cond b (user ∷ filter test users) (filter test users))
    at true is rest = (passing user is, rest)
    at false is rest = rest

less-is : (a b : ℕ) → is_lt (nat_cmp a b) ≡ true → a < b
less-is a b h = grind (arith, nat_tests)

equal-is : (a b : ℕ) → is_eq (nat_cmp a b) ≡ true → a ≡ b
equal-is a b h = grind (arith, nat_tests)

abbrev below : User → List User → List User
below user users = filter (λ (other : User). is_lt (user_cmp other user)) users

abbrev above : User → List User → List User
above user users = filter (λ (other : User). is_lt (user_cmp user other)) users

abbrev level : User → List User → List User
level user users = filter (λ (other : User). is_eq (user_cmp other user)) users

turned : (o : Ordering) → is_lt (ordering_reverse o) ≡ is_gt o
turned Less = refl
turned Equal = refl
turned Greater = refl

around : (user : User) (users : List User) → IsStrictlySortedBy user_cmp users
    → below user users ++ (level user users ++ above user users) ≡ users
around user users rise =
    ap (λ list. below user users ++ (level user users ++ list))
    (λ i. filter (λ (other : User). (ap is_lt (user_total.antisymm user other) ∙ turned (user_cmp other user)) i) users)
    ∙ three-parts (λ (other : User). user_cmp other user) users (rises-up user_total user users rise)

-- the links with a user set
links-set : (key : Key) (user : User) (users : List User) → user.uid < 2 ^ 64 → IsStrictlySortedBy user_cmp users
    → links_at key (placed user_cmp user users) ≡ cond (names key user.uid) (user_link user ∷ []) (links_at key users)
links-set key user users fits rise = at (names key user.uid) refl
  where
    at : (b : Bool) → names key user.uid ≡ b
        → links_at key (placed user_cmp user users) ≡ cond b (user_link user ∷ []) (links_at key users)
    at true is =
        links-skip key (below user users) (user ∷ above user users)
        (all-passing (λ (other : User). is_lt (user_cmp other user)) (λ (other : User). names key other.uid ≡ false)
        (λ other less.
        let smaller : other.uid < user.uid = less-is other.uid user.uid less in
        other-user key user.uid fits is other.uid (omega (arith, smaller, fits)) (λ same. absurd (omega (arith, smaller, same)))) users)
        ∙ ap (λ b. cond b (user_link user ∷ []) (links_at key (above user users))) is
    at false is =
        links-front key (below user users) (user ∷ above user users) (level user users ++ above user users)
        (ap (λ b. cond b (user_link user ∷ []) (links_at key (above user users))) is
        ∙ sym (links-skip key (level user users) (above user users)
        (all-passing (λ (other : User). is_eq (user_cmp other user)) (λ (other : User). names key other.uid ≡ false)
        (λ other same. ap (names key) (equal-is other.uid user.uid same) ∙ is) users)))
        ∙ ap (links_at key) (around user users rise)

eqb-is : (a b : ℕ) → (a == b) ≡ true → a ≡ b
eqb-is a b h = grind (arith, nat_tests)

eqb-apart : (a b : ℕ) → not (a == b) ≡ true → a ≡ b → ⊥
eqb-apart a b h same = absurd (grind (arith, nat_tests))

-- the links without a user
links-removed : (key : Key) (uid : ℕ) (users : List User) → uid < 2 ^ 64
    → AllByRecursion (λ (user : User). user.uid < 2 ^ 64) users
    → links_at key (filter (λ (user : User). not (user.uid == uid)) users) ≡ cond (names key uid) [] (links_at key users)
links-removed key uid users fits all = at (names key uid) refl
  where
    kept-none : names key uid ≡ true → (others : List User) → AllByRecursion (λ (user : User). user.uid < 2 ^ 64) others
        → links_at key (filter (λ (user : User). not (user.uid == uid)) others) ≡ []
    kept-none is [] small = refl
    kept-none is (user ∷ others) small = here (not (user.uid == uid)) refl (kept-none is others small.1)
      where
        here : (b : Bool) → not (user.uid == uid) ≡ b → links_at key (filter (λ (one : User). not (one.uid == uid)) others) ≡ []
            → links_at key (cond b (user ∷ filter (λ (one : User). not (one.uid == uid)) others) (filter (λ (one : User). not (one.uid == uid)) others)) ≡ []
        here true differs rest =
            ap (λ b. cond b (user_link user ∷ []) (links_at key (filter (λ (one : User). not (one.uid == uid)) others)))
            (other-user key uid fits is user.uid small.0 (eqb-apart user.uid uid differs)) ∙ rest
        here false same rest = rest

    kept-all : names key uid ≡ false → (others : List User)
        → links_at key (filter (λ (user : User). not (user.uid == uid)) others) ≡ links_at key others
    kept-all is [] = refl
    kept-all is (user ∷ others) = here (user.uid == uid) refl (kept-all is others)
      where
        here : (b : Bool) → (user.uid == uid) ≡ b
            → links_at key (filter (λ (one : User). not (one.uid == uid)) others) ≡ links_at key others
            → links_at key (cond (not b) (user ∷ filter (λ (one : User). not (one.uid == uid)) others) (filter (λ (one : User). not (one.uid == uid)) others))
            ≡ cond (names key user.uid) (user_link user ∷ []) (links_at key others)
        here true same rest =
            rest ∙ ap (λ b. cond b (user_link user ∷ []) (links_at key others)) (sym (ap (names key) (eqb-is user.uid uid same) ∙ is))
        here false differs rest = ap (λ list. cond (names key user.uid) (user_link user ∷ []) list) rest

    at : (b : Bool) → names key uid ≡ b
        → links_at key (filter (λ (user : User). not (user.uid == uid)) users) ≡ cond b [] (links_at key users)
    at true is = kept-none is users all
    at false is = kept-all is users

-- ---- `MAIN` at a key

abbrev everyone_or : Key → List Policy → List Policy
everyone_or key links = cond (is_eq (key_cmp key (link Any manifests).key)) (link Any manifests ∷ []) links

mains-at : (key : Key) (registry : RegistryLists)
    → filter (λ (placed : Placed). is_eq (placed_cmp placed (in_bucket main (at_key key)))) (map (in_bucket main) (main_policies registry))
    ≡ map (in_bucket main) (everyone_or key (links_at key registry.users))
mains-at key registry =
    filter-map (λ (placed : Placed). is_eq (placed_cmp placed (in_bucket main (at_key key)))) (in_bucket main) (main_policies registry)
    ∙ ap (map (in_bucket main)) (rising-at policy_total (at_key key) (link Any manifests ∷ map user_link registry.users))

was-main : (key : Key) (registry : RegistryLists) (policies : List Placed)
    → own main policies ≡ map (in_bucket main) (main_policies registry)
    → filter (λ (placed : Placed). is_eq (placed_cmp placed (in_bucket main (at_key key)))) policies
    ≡ map (in_bucket main) (everyone_or key (links_at key registry.users))
was-main key registry policies owned =
    sym (filter-within (λ (placed : Placed). is_eq (placed_cmp placed (in_bucket main (at_key key)))) (λ (placed : Placed). same_text placed.bucket main)
    (λ placed tied. ≡-same_text placed.bucket main (tied-bucket placed (in_bucket main (at_key key)) tied)) policies)
    ∙ ap (filter (λ (placed : Placed). is_eq (placed_cmp placed (in_bucket main (at_key key))))) owned
    ∙ mains-at key registry

pub main-rises : (registry : RegistryLists) → IsStrictlySortedBy policy_cmp (main_policies registry)
main-rises registry = rising_rises policy_total (link Any manifests ∷ map user_link registry.users)

module _ (before after : RegistryLists) (policies : List Placed)
    (owned : own main policies ≡ map (in_bucket main) (main_policies before)) where
  -- one user set
  pub main-set : (user : User) → user.uid < 2 ^ 64 → IsStrictlySortedBy user_cmp before.users
      → after.users ≡ placed user_cmp user before.users
      → IsStrictlySortedBy placed_cmp (after_change policies (set_user user.uid user.kind))
      → own main (after_change policies (set_user user.uid user.kind)) ≡ map (in_bucket main) (main_policies after)
  main-set user fits rise is more =
      own-known main (after_change policies (set_user user.uid user.kind)) (main_policies after) more (main-rises after) at
    where
      chosen : (key : Key) (b : Bool) → names key user.uid ≡ b
          → cond b (in_bucket main (user_link user) ∷ []) (map (in_bucket main) (everyone_or key (links_at key before.users)))
          ≡ map (in_bucket main) (everyone_or key (cond b (user_link user ∷ []) (links_at key before.users)))
      chosen key true named =
          ap (λ b. map (in_bucket main) (cond b (link Any manifests ∷ []) (user_link user ∷ []))) (sym (not-everyone key user.uid fits named))
      chosen key false named = refl

      at : (key : Key)
          → filter (λ (placed : Placed). is_eq (placed_cmp placed (in_bucket main (at_key key)))) (after_change policies (set_user user.uid user.kind))
          ≡ filter (λ (placed : Placed). is_eq (placed_cmp placed (in_bucket main (at_key key)))) (map (in_bucket main) (main_policies after))
      at key =
          fold-at (in_bucket main (at_key key)) (set_user user.uid user.kind ∷ []) policies
          ∙ ap (λ old. cond (names key user.uid) (in_bucket main (user_link user) ∷ []) old) (was-main key before policies owned)
          ∙ chosen key (names key user.uid) refl
          ∙ ap (λ links. map (in_bucket main) (everyone_or key links)) (sym (links-set key user before.users fits rise))
          ∙ ap (λ users. map (in_bucket main) (everyone_or key (links_at key users))) (sym is)
          ∙ sym (mains-at key after)

  -- one user removed
  pub main-removed : (uid : ℕ) → uid < 2 ^ 64 → AllByRecursion (λ (user : User). user.uid < 2 ^ 64) before.users
      → after.users ≡ filter (λ (user : User). not (user.uid == uid)) before.users
      → IsStrictlySortedBy placed_cmp (after_change policies (delete_user uid))
      → own main (after_change policies (delete_user uid)) ≡ map (in_bucket main) (main_policies after)
  main-removed uid fits all is more =
      own-known main (after_change policies (delete_user uid)) (main_policies after) more (main-rises after) at
    where
      chosen : (key : Key) (b : Bool) → names key uid ≡ b
          → cond b [] (map (in_bucket main) (everyone_or key (links_at key before.users)))
          ≡ map (in_bucket main) (everyone_or key (cond b [] (links_at key before.users)))
      chosen key true named =
          ap (λ b. map (in_bucket main) (cond b (link Any manifests ∷ []) [])) (sym (not-everyone key uid fits named))
      chosen key false named = refl

      at : (key : Key)
          → filter (λ (placed : Placed). is_eq (placed_cmp placed (in_bucket main (at_key key)))) (after_change policies (delete_user uid))
          ≡ filter (λ (placed : Placed). is_eq (placed_cmp placed (in_bucket main (at_key key)))) (map (in_bucket main) (main_policies after))
      at key =
          fold-at (in_bucket main (at_key key)) (delete_user uid ∷ []) policies
          ∙ ap (λ old. cond (names key uid) [] old) (was-main key before policies owned)
          ∙ chosen key (names key uid) refl
          ∙ ap (λ links. map (in_bucket main) (everyone_or key links)) (sym (links-removed key uid before.users fits all))
          ∙ ap (λ users. map (in_bucket main) (everyone_or key (links_at key users))) (sym is)
          ∙ sym (mains-at key after)
