-- The lines of `users`, written and read.
use Rattle.std.proofs.Common.{◌≡◌, ℕ, ◌+◌, ◌≤◌, Bool, true, false, cond, ltb, find, decimal, List, [], ◌∷◌, ◌++◌}
use Rattle.std.proofs.Common.{length, Option, Some, None, Ok, refl, sym, ap, subst, ◌∙◌, arith, length-append}
use Rattle.std.specs.List.{AllByRecursion}
use Rattle.std.specs.List.Sorted.{IsStrictlySortedBy}
use Rattle.std.proofs.lemmas.Bool.{le-leb}
use Rattle.cynara_keys.specs.Text.{same_text}
use Rattle.cynara_keys.proofs.Order.{same_text-≡}
use Rattle.app_registry.specs.Registry.{user_cmp}
use Rattle.app_registry.specs.Limits.{most_users}
use Rattle.app_registry.specs.declared.users.User.{User}
use Rattle.app_registry.specs.declared.users.UserType.{UserType}
use Rattle.app_registry.specs.declared.users.UserType.TheVariants.{System, Admin, Normal, Guest}
use Rattle.app_registry.proofs.Orders.{user_total}
use Rattle.bucket_store.proofs.Lists.{All-weaker}
use Rattle.text_lines.specs.Lines.{HasNoNewline}
use Rattle.set_text.specs.Lines.{joined, fields_of, rises_above}
use Rattle.set_text.specs.Numbers.{decimal_of}
use Rattle.set_text.specs.Registry.{last_uid, type_word, user_line, users_text, types, type_of, user_with}
use Rattle.set_text.specs.Registry.{user_of_fields, user_of, user_fits, users_of}
use Rattle.set_text.proofs.Numbering.{decimal_of-decimal, decimal_of-text}
use Rattle.set_text.proofs.round.Fields.{IsPlain, fields_of-joined, newline-joined, joined-fields_of}
use Rattle.set_text.proofs.round.Plain.{plain-name, plain-decimal}
use Rattle.set_text.proofs.round.Values.{fit-both, fit-first, fit-second, rises-fit, fit-rises, few-fit, fit-few}
use Rattle.set_text.proofs.round.Values.{values-read, values-spelled}

-- what was found passes the test
pub found-passes : {X : Type 0} (test : X → Bool) (xs : List X) (x : X) → find test xs ≡ Some x → test x ≡ true
found-passes test [] x h = cc
found-passes test (y ∷ xs) x h = by (test y) refl h (found-passes test xs x)
  where
    by : (b : Bool) → test y ≡ b → cond b (Some y) (find test xs) ≡ Some x → (find test xs ≡ Some x → test x ≡ true)
        → test x ≡ true
    by true is h rest = let same : y ≡ x = cc in ap test (sym same) ∙ is
    by false is h rest = rest h

-- ---- a line

type-plain : (kind : UserType) → IsPlain (type_word kind)
type-plain System = plain-name (type_word System) refl
type-plain Admin = plain-name (type_word Admin) refl
type-plain Normal = plain-name (type_word Normal) refl
type-plain Guest = plain-name (type_word Guest) refl

type-read : (kind : UserType) → type_of (type_word kind) ≡ Some kind
type-read System = refl
type-read Admin = refl
type-read Normal = refl
type-read Guest = refl

type-spelled : (word : List ℕ) (kind : UserType) → type_of word ≡ Some kind → type_word kind ≡ word
type-spelled word kind h =
    same_text-≡ (type_word kind) word (found-passes (λ kind. same_text (type_word kind) word) types kind h)

module _ (user : User) (small : user.uid ≤ last_uid) where
  uid-plain : IsPlain (decimal user.uid)
  uid-plain = plain-decimal user.uid (omega (arith, small))

  pub user-newline : HasNoNewline (user_line user)
  user-newline = newline-joined (decimal user.uid) (type_word user.kind ∷ []) uid-plain (type-plain user.kind, tt)

  pub user-read : user_of (user_line user) ≡ Some user
  user-read =
      ap user_of_fields (fields_of-joined (decimal user.uid) (type_word user.kind ∷ []) uid-plain
      (type-plain user.kind, tt))
      ∙ ap (λ uid. user_with uid (type_of (type_word user.kind)))
      (decimal_of-decimal last_uid user.uid (le-leb user.uid last_uid small) (omega (arith, small)))
      ∙ ap (user_with (Some user.uid)) (type-read user.kind)

record AreParts (uid : Option ℕ) (kind : Option UserType) (user : User) : Type 0 where
  same_uid : uid ≡ Some user.uid
  same_kind : kind ≡ Some user.kind

parts-of : (uid : Option ℕ) (kind : Option UserType) (user : User) → user_with uid kind ≡ Some user
    → AreParts uid kind user
parts-of None kind user h = cc
parts-of (Some uid) None user h = cc
parts-of (Some uid) (Some kind) user h =
    let made : User = record { uid = uid; kind = kind } in
    let same : made ≡ user = cc in
    subst (AreParts (Some uid) (Some kind)) same (record { same_uid = refl; same_kind = refl })

pub user-spelled : (line : List ℕ) (user : User) → user_of line ≡ Some user
    → (user_line user ≡ line) × (user.uid ≤ last_uid)
user-spelled line user h = by (fields_of line) refl h
  where
    by : (fields : List (List ℕ)) → fields_of line ≡ fields → user_of_fields fields ≡ Some user
        → (user_line user ≡ line) × (user.uid ≤ last_uid)
    by (uid ∷ kind ∷ []) are h =
        let parts = parts-of (decimal_of last_uid uid) (type_of kind) user h in
        let number = decimal_of-text last_uid uid user.uid parts.same_uid in
        let word = type-spelled kind user.kind parts.same_kind in
        ((λ i. joined (number.0 i ∷ word i ∷ [])) ∙ joined-fields_of line (uid ∷ kind ∷ []) are, number.1)
    by other are h = cc

-- ---- the file

counted : (before : List User) (user : User) → length (before ++ user ∷ []) ≡ length before + 1
counted before user = omega (arith, length-append before (user ∷ []))

-- the users of a state are what their lines give
pub users-read : (users : List User) → AllByRecursion (λ (user : User). user.uid ≤ last_uid) users
    → IsStrictlySortedBy user_cmp users
    → length users ≤ most_users → users_of (users_text users) ≡ Ok users
users-read users all rise few =
    values-read user_fits user_of user_line users
    (All-weaker (λ (user : User). user.uid ≤ last_uid)
    (λ (user : User). HasNoNewline (user_line user) × (user_of (user_line user) ≡ Some user))
    (λ user small. (user-newline user small, user-read user small)) users all)
    (fit-both (rises_above user_cmp) (λ before user. ltb (length before) most_users) [] users
    (rises-fit user_cmp users rise)
    (few-fit (λ before. length before) counted most_users [] users (omega (arith, few))))

-- what the lines give has these lines, and keeps the rules
pub record AreUsers (text : List ℕ) (users : List User) : Type 0 where
  pub same : text ≡ users_text users
  pub all : AllByRecursion (λ (user : User). user.uid ≤ last_uid) users
  pub rise : IsStrictlySortedBy user_cmp users
  pub few : length users ≤ most_users

pub users-spelled : (text : List ℕ) (users : List User) → users_of text ≡ Ok users → AreUsers text users
users-spelled text users h =
    let told = values-spelled user_fits user_of user_line
    (λ (user : User). user.uid ≤ last_uid) user-spelled text users h in
    record {
      same = told.same;
      all = told.all;
      rise = fit-rises user_cmp user_total users
          (fit-first (rises_above user_cmp) (λ before user. ltb (length before) most_users) [] users told.fit);
      few = let most = fit-few (λ before. length before) counted most_users [] users (omega arith)
          (fit-second (rises_above user_cmp)
          (λ before user. ltb (length before) most_users) [] users told.fit) in omega (arith, most);
    }
