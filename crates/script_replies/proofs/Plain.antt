-- The rules of open shares take nothing away.
use Rattle.std.proofs.Common.{◌≡◌, ℕ, Bool, true, false, not, cond, ◌&&◌, ◌||◌, List, [], ◌∷◌, Option, Some, None, refl}
use Rattle.std.proofs.Common.{sym, ap, ◌∙◌}
use Rattle.std.specs.Prelude.{find, option_map, reverse}
use Rattle.std.specs.Str.{bytes_eq}
use Rattle.std.proofs.lemmas.Bool.{and_parts, and_from}
use Rattle.std.proofs.lemmas.List.{reverse-append}
use Rattle.std.proofs.lemmas.List.Folds.{list_all-append}
use Rattle.cynara_keys.proofs.Order.{same_text-≡}
use Rattle.smack_rules.specs.declared.modes.Modes.{Modes}
use Rattle.smack_rules.specs.declared.rule.Rule.{Rule}
use Rattle.smack_rules.specs.declared.rule.Rule.TheVariants.{Set, Adjust}
use Rattle.smack_rules.specs.Modes.{union, without, no_access, is_empty}
use Rattle.smack_rules.specs.Rule.{is_pair}
use Rattle.smack_rules.specs.Effective.{looking_back, effective_from, effective}
use Rattle.smack_rules.specs.Decision.{is_hat, is_floor}
use Rattle.app_registry.specs.Install.{is_of_app}
use Rattle.app_registry.specs.Label.{install_label, label_of, package_label, app_label}
use Rattle.app_registry.specs.Registry.{RegistryLists, package_of}
use Rattle.app_registry.specs.declared.installs.Install.{Install}
use Rattle.private_sharing.specs.Rules.{given, share_rules, rules}
use Rattle.private_sharing.specs.declared.shares.Share.{Share}
use Rattle.script_replies.specs.parts.Plain.{is_plain, are_plain}

-- ---- labels of packages are none of those that cases name

install-plain : (install : Install) → is_hat (install_label install) ≡ false
install-plain install = by_kind install.hybrid where
  by_kind : (hybrid : Bool) → is_hat
      (cond hybrid (app_label install.package install.app) (package_label install.package)) ≡ false
  by_kind true = refl
  by_kind false = refl

given-plain : (name : List ℕ) («package» own other : Option (List ℕ))
    → ((label : List ℕ) → own ≡ Some label → is_hat label ≡ false)
    → ((label : List ℕ) → other ≡ Some label → is_hat label ≡ false)
    → are_plain (given name «package» own other) ≡ true
given-plain name (Some «package») (Some own) (Some other) plain plain_other =
    λ i. (not (plain own refl i) && true) && ((not (plain_other other refl i) && true) && true)
given-plain name (Some «package») (Some own) None plain plain_other = refl
given-plain name (Some «package») None other plain plain_other = refl
given-plain name None own other plain plain_other = refl

label-plain : (registry : RegistryLists) (app label : List ℕ) → label_of registry app ≡ Some label
    → is_hat label ≡ false
label-plain registry app label is = by_install (find (is_of_app app) registry.installs) is where
  by_install : (found : Option Install) → option_map install_label found ≡ Some label → is_hat label ≡ false
  by_install None is = cc
  by_install (Some install) is =
      let same : install_label install ≡ label = cc in
      ap is_hat (sym same) ∙ install-plain install

pub rules-plain : (registry : RegistryLists) (shares : List Share) → are_plain (rules registry shares) ≡ true
rules-plain registry [] = refl
rules-plain registry (share ∷ shares) =
    list_all-append is_plain (share_rules registry share) (rules registry shares)
    ∙ and_from (are_plain (share_rules registry share)) (are_plain (rules registry shares))
    (given-plain share.name (package_of registry share.owner) (label_of registry share.owner)
    (label_of registry share.target)
    (label-plain registry share.owner) (label-plain registry share.target))
    (rules-plain registry shares)

-- ---- what they give

or_assoc : (a b c : Bool) → (a || b) || c ≡ a || (b || c)
or_assoc true b c = refl
or_assoc false b c = refl

or_false : (a : Bool) → a || false ≡ a
or_false true = refl
or_false false = refl

union-assoc : (x y z : Modes) → union (union x y) z ≡ union x (union y z)
union-assoc x y z = λ i. record {
  read = or_assoc x.read y.read z.read i;
  write = or_assoc x.write y.write z.write i;
  execute = or_assoc x.execute y.execute z.execute i;
  append = or_assoc x.append y.append z.append i;
  transmute = or_assoc x.transmute y.transmute z.transmute i;
  lock = or_assoc x.lock y.lock z.lock i;
  bring_up = or_assoc x.bring_up y.bring_up z.bring_up i;
}

union-none : (x : Modes) → x ≡ union x no_access
union-none x = λ i. record {
  read = sym (or_false x.read) i;
  write = sym (or_false x.write) i;
  execute = sym (or_false x.execute) i;
  append = sym (or_false x.append) i;
  transmute = sym (or_false x.transmute) i;
  lock = sym (or_false x.lock) i;
  bring_up = sym (or_false x.bring_up) i;
}

letters : (r w x a t l u : Bool) → not (r || w || x || a || t || l || u) ≡ true
    → (r ≡ false) × (w ≡ false) × (x ≡ false) × (a ≡ false) × (t ≡ false) × (l ≡ false) × (u ≡ false)
letters false false false false false false false is = (refl, refl, refl, refl, refl, refl, refl)
letters true w x a t l u is = cc
letters false true x a t l u is = cc
letters false false true a t l u is = cc
letters false false false true t l u is = cc
letters false false false false true l u is = cc
letters false false false false false true u is = cc
letters false false false false false false true is = cc

all_of : (a b : Bool) → b ≡ false → a && not b ≡ a
all_of true b is = ap not is
all_of false b is = refl

-- nothing is taken away
without-empty : (m deny : Modes) → is_empty deny ≡ true → without m deny ≡ m
without-empty m deny none =
    let e = letters deny.read deny.write deny.execute deny.append deny.transmute deny.lock deny.bring_up none in
    λ i. record {
      read = all_of m.read deny.read e.0 i;
      write = all_of m.write deny.write e.1 i;
      execute = all_of m.execute deny.execute e.2 i;
      append = all_of m.append deny.append e.3 i;
      transmute = all_of m.transmute deny.transmute e.4 i;
      lock = all_of m.lock deny.lock e.5 i;
      bring_up = all_of m.bring_up deny.bring_up e.6 i;
    }

module _ (start : Modes) (s o : List ℕ) where
  -- plain rules, newest first, give modes beside those that a pair started with
  back-plain : (newest : List Rule) → are_plain newest ≡ true
      → looking_back start s o newest ≡ union start (looking_back no_access s o newest)
  back-plain [] plain = union-none start
  back-plain (Set subject object modes ∷ earlier) plain = cc
  back-plain (Adjust subject object allow deny ∷ earlier) plain =
      let both = and_parts (is_plain (Adjust subject object allow deny)) (are_plain earlier) plain in
      let none = (and_parts (is_empty deny) (not (is_hat subject) && not (is_floor object)) both.0).0 in
      by_pair (is_pair subject object s o) none (back-plain earlier both.1)
    where
      by_pair : (pair : Bool) → is_empty deny ≡ true
          → looking_back start s o earlier ≡ union start (looking_back no_access s o earlier)
          → cond pair (without (union (looking_back start s o earlier) allow) deny) (looking_back start s o earlier)
          ≡ union start (cond pair (without (union (looking_back no_access s o earlier) allow) deny)
          (looking_back no_access s o earlier))
      by_pair true none later =
          without-empty (union (looking_back start s o earlier) allow) deny none
          ∙ ap (λ m. union m allow) later
          ∙ union-assoc start (looking_back no_access s o earlier) allow
          ∙ ap (union start) (sym (without-empty (union (looking_back no_access s o earlier) allow) deny none))
      by_pair false none later = later

reverse-plain : (xs : List Rule) → are_plain xs ≡ true → are_plain (reverse xs) ≡ true
reverse-plain [] plain = refl
reverse-plain (x ∷ xs) plain =
    let both = and_parts (is_plain x) (are_plain xs) plain in
    ap are_plain (reverse-append (x ∷ []) xs)
    ∙ list_all-append is_plain (reverse xs) (x ∷ [])
    ∙ and_from (are_plain (reverse xs)) (is_plain x && true) (reverse-plain xs both.1)
    (and_from (is_plain x) true both.0 refl)

pub effective-plain : (start : Modes) (given : List Rule) (s o : List ℕ) → are_plain given ≡ true
    → effective_from start given s o ≡ union start (effective given s o)
effective-plain start given s o plain = back-plain start s o (reverse given) (reverse-plain given plain)

-- ---- and what they do not

not_of : (b : Bool) → not b ≡ true → b ≡ false
not_of true is = cc
not_of false is = refl

-- a label that passes a test is none that does not
other-subject : (subject s : List ℕ) (test : List ℕ → Bool) → test subject ≡ false → test s ≡ true
    → bytes_eq subject s ≡ false
other-subject subject s test fails passes = by_case (bytes_eq subject s) refl where
  by_case : (same : Bool) → bytes_eq subject s ≡ same → bytes_eq subject s ≡ false
  by_case true is =
      let equal : test subject ≡ test s = ap test (same_text-≡ subject s is) in
      let none : false ≡ true = sym fails ∙ (equal ∙ passes) in
      cc
  by_case false is = is

and_false : (b : Bool) → b && false ≡ false
and_false true = refl
and_false false = refl

-- no plain rule is for a subject that is the hat, or an object that is the floor
module _ (s o : List ℕ) where
  hat-back : is_hat s ≡ true → (newest : List Rule) → are_plain newest ≡ true
      → looking_back no_access s o newest ≡ no_access
  hat-back hat [] plain = refl
  hat-back hat (Set subject object modes ∷ earlier) plain = cc
  hat-back hat (Adjust subject object allow deny ∷ earlier) plain =
      let both = and_parts (is_plain (Adjust subject object allow deny)) (are_plain earlier) plain in
      let labels = (and_parts (is_empty deny) (not (is_hat subject) && not (is_floor object)) both.0).1 in
      let subject_is = not_of (is_hat subject) (and_parts (not (is_hat subject)) (not (is_floor object)) labels).0 in
      let rest = looking_back no_access s o earlier in
      ap (λ same. cond (same && bytes_eq object o) (without (union rest allow) deny) rest)
      (other-subject subject s is_hat subject_is hat)
      ∙ hat-back hat earlier both.1

  floor-back : is_floor o ≡ true → (newest : List Rule) → are_plain newest ≡ true
      → looking_back no_access s o newest ≡ no_access
  floor-back floor [] plain = refl
  floor-back floor (Set subject object modes ∷ earlier) plain = cc
  floor-back floor (Adjust subject object allow deny ∷ earlier) plain =
      let both = and_parts (is_plain (Adjust subject object allow deny)) (are_plain earlier) plain in
      let labels = (and_parts (is_empty deny) (not (is_hat subject) && not (is_floor object)) both.0).1 in
      let object_is = not_of (is_floor object) (and_parts (not (is_hat subject)) (not (is_floor object)) labels).1 in
      let rest = looking_back no_access s o earlier in
      ap (λ same. cond same (without (union rest allow) deny) rest)
      (ap (λ same. bytes_eq subject s && same) (other-subject object o is_floor object_is floor) ∙ and_false
      (bytes_eq subject s))
      ∙ floor-back floor earlier both.1

  pub hat-plain : (given : List Rule) → are_plain given ≡ true → is_hat s ≡ true → effective given s o ≡ no_access
  hat-plain given plain hat = hat-back hat (reverse given) (reverse-plain given plain)

  pub floor-plain : (given : List Rule) → are_plain given ≡ true → is_floor o ≡ true → effective given s o ≡ no_access
  floor-plain given plain floor = floor-back floor (reverse given) (reverse-plain given plain)
