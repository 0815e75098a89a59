-- Texts in which no byte is wrong: idents, the labels made of them, and numbers.
use Rattle.std.proofs.Common.{◌≡◌, ℕ, ◌+◌, ◌/◌, ◌%◌, ◌^◌, ◌<◌, ◌≤◌, ◌==◌, ◌||◌, Bool, true, false, not, cond, ltb, eqb, List, [], ◌∷◌, ◌++◌, codes, decimal, length, Some, None, Option, position, zero, suc, refl, ap, ◌∙◌, subst, arith}
use Rattle.std.specs.List.{AllByRecursion, position_or_len}
use Rattle.std.proofs.lemmas.Bool.{ltb-false}
use Rattle.std.proofs.lemmas.Bool.Decides.{nat_tests}
use Rattle.std.proofs.lemmas.List.{length-append}
use Rattle.std.proofs.lemmas.Fmt.{decimal_by_steps, decimal_nonempty, length-decimal-le}
use Rattle.std.specs.Fmt.{digits, digits_onto, digit_glyph}
use Rattle.cynara_keys.specs.Text.{is_visible, same_text}
use Rattle.cynara_keys.specs.Field.{wildcard}
use Rattle.cynara_keys.proofs.Order.{same_text-≡}
use Rattle.cynara_keys.specs.Name.{name_fault, bad_byte_or, is_reserved}
use Rattle.cynara_keys.specs.declared.names.NameRefusal.TheVariants.{Empty as NameEmpty, TooLong as NameTooLong, Reserved}
use Rattle.smack_rules.specs.Label.{is_label_byte, label_fault, byte_fault as label_byte_fault}
use Rattle.smack_rules.specs.declared.label.LabelRefusal.TheVariants.{Empty as LabelEmpty, TooLong as LabelTooLong}
use Rattle.app_registry.specs.declared.idents.IdentRefusal.TheVariants.{Empty, TooLong}
use Rattle.app_registry.specs.Ident.{is_ident_byte, begins_with_mark, byte_fault, ident_fault}
use Rattle.app_registry.specs.Label.{package_label, app_label}

-- no element passes the test
abbrev pub NonePass : (ℕ → Bool) → List ℕ → Type 0
NonePass p = AllByRecursion (λ x. p x ≡ false)

position_or_len-none : (p : ℕ → Bool) (xs : List ℕ) → NonePass p xs → position_or_len p xs ≡ length xs
position_or_len-none p [] none = refl
position_or_len-none p (x ∷ xs) none =
    ap (λ b. cond (not b) (1 + position_or_len p xs) 0) none.0 ∙ (let rest = position_or_len-none p xs none.1 in omega (arith, rest))

ltb_itself : (n : ℕ) → ltb n n ≡ false
ltb_itself n = grind (arith, nat_tests)

pub position-none : (p : ℕ → Bool) (xs : List ℕ) → NonePass p xs → position p xs ≡ None
position-none p xs none =
    ap (λ n. cond (ltb n (length xs)) (Some n) None) (position_or_len-none p xs none)
    ∙ ap (λ b. cond b (Some (length xs)) None) (ltb_itself (length xs))

at_head : (b : Bool) (n m : ℕ) → suc n ≤ cond (not b) (1 + m) 0 → (b ≡ false) × (n ≤ m)
at_head true n m h = absurd (omega arith)
at_head false n m h = (refl, omega arith)

none_within : (p : ℕ → Bool) (xs : List ℕ) → length xs ≤ position_or_len p xs → NonePass p xs
none_within p [] h = tt
none_within p (x ∷ xs) h =
    let here = at_head (p x) (length xs) (position_or_len p xs) h in (here.0, none_within p xs here.1)

cond_none : (b : Bool) (n : ℕ) → cond b (Some n) None ≡ None → b ≡ false
cond_none true n h = cc
cond_none false n h = refl

pub none_from_position : (p : ℕ → Bool) (xs : List ℕ) → position p xs ≡ None → NonePass p xs
none_from_position p xs absent = none_within p xs (ltb-false _ _ (cond_none (ltb (position_or_len p xs) (length xs)) _ absent))

pub NonePass-weaker : (p q : ℕ → Bool) → ((x : ℕ) → p x ≡ false → q x ≡ false) → (xs : List ℕ) → NonePass p xs → NonePass q xs
NonePass-weaker p q f [] none = tt
NonePass-weaker p q f (x ∷ xs) none = (f x none.0, NonePass-weaker p q f xs none.1)

-- what may stand in an ident may stand in a label
is_label_byte-ident : (byte : ℕ) → not (is_ident_byte byte) ≡ false → not (is_label_byte byte) ≡ false
is_label_byte-ident byte h = grind (arith, nat_tests)

is_visible-ident : (byte : ℕ) → not (is_ident_byte byte) ≡ false → not (is_visible byte) ≡ false
is_visible-ident byte h = grind (arith, nat_tests)

NonePass-append : (p : ℕ → Bool) (xs ys : List ℕ) → NonePass p xs → NonePass p ys → NonePass p (xs ++ ys)
NonePass-append p [] ys front back = back
NonePass-append p (x ∷ xs) ys front back = (front.0, NonePass-append p xs ys front.1 back)

-- a text with no fault of a name
name_fault-none : (text : List ℕ) → eqb (length text) 0 ≡ false → ltb 255 (length text) ≡ false
    → NonePass (λ byte. not (is_visible byte)) text → is_reserved text ≡ false → name_fault text ≡ None
name_fault-none text some short visible free =
    let last = cond (is_reserved text) (Some Reserved) None in
    let bad = position (λ byte. not (is_visible byte)) text in
    let rest = λ (long : Bool). cond long (Some NameTooLong) (bad_byte_or bad last) in
    ap (λ empty. cond empty (Some NameEmpty) (rest (ltb 255 (length text)))) some
    ∙ ap rest short
    ∙ ap (λ at. bad_byte_or at last) (position-none _ _ visible)
    ∙ ap (λ reserved. cond reserved (Some Reserved) None) free

-- ---- numbers in decimal

-- the marks that are no names
abbrev is_mark : ℕ → Bool
is_mark byte = byte == 42 || byte == 35

abbrev Digits : ℕ → List ℕ → Type 0
Digits n ds = NonePass (λ byte. not (is_visible byte)) ds × NonePass is_mark ds

visible_digit : (d : ℕ) → d < 10 → not (is_visible (48 + d)) ≡ false
visible_digit d h = grind (arith, nat_tests)

no_mark : (d : ℕ) → d < 10 → is_mark (48 + d) ≡ false
no_mark d h = grind (arith, nat_tests)

decimal_digits : (n : ℕ) → n < 2 ^ 64 → Digits n (decimal n)
decimal_digits n h =
    decimal_by_steps Digits (λ d small. ((visible_digit d small, tt), (no_mark d small, tt)))
    (λ d ds large front.
    let small : d % 10 < 10 = omega arith in (
      NonePass-append (λ byte. not (is_visible byte)) ds ((48 + d % 10) ∷ []) front.0 (visible_digit (d % 10) small, tt),
      NonePass-append is_mark ds ((48 + d % 10) ∷ []) front.1 (no_mark (d % 10) small, tt),
    )) n h

not_reserved : (text : List ℕ) → NonePass is_mark text → is_reserved text ≡ false
not_reserved [] none = refl
not_reserved (byte ∷ []) none = none.0
not_reserved (byte ∷ next ∷ text) none = refl

pub name_fault-decimal : (n : ℕ) → n < 2 ^ 64 → name_fault (decimal n) ≡ None
name_fault-decimal n h =
    let digits = decimal_digits n h in
    let some : 0 < length (decimal n) = decimal_nonempty n h in
    let short : length (decimal n) ≤ 20 = length-decimal-le 20 n (omega arith) (omega arith) h in
    name_fault-none (decimal n) (grind (arith, nat_tests)) (grind (arith, nat_tests)) digits.0 (not_reserved _ digits.1)

-- whatever the number, no digit is the wildcard
abbrev NoStar : List ℕ → Type 0
NoStar = NonePass (λ byte. byte == 42)

glyph_no_star : (few : Bool) (d : ℕ) → (cond few (48 + d) (87 + d) == 42) ≡ false
glyph_no_star true d = grind (arith, nat_tests)
glyph_no_star false d = grind (arith, nat_tests)

no_star_either : (b : Bool) (xs ys : List ℕ) → NoStar xs → NoStar ys → NoStar (cond b xs ys)
no_star_either true xs ys first second = first
no_star_either false xs ys first second = second

digits_onto-no_star : (k n : ℕ) (acc : List ℕ) → NoStar acc → NoStar (digits_onto k 10 false n acc)
digits_onto-no_star zero n acc none = none
digits_onto-no_star (suc k) n acc none =
    let more : NoStar (digit_glyph false (n % 10) ∷ acc) = (glyph_no_star (ltb (n % 10) 10) (n % 10), none) in
    no_star_either (n / 10 == 0) (digit_glyph false (n % 10) ∷ acc) (digits_onto k 10 false (n / 10) (digit_glyph false (n % 10) ∷ acc))
    more (digits_onto-no_star k (n / 10) (digit_glyph false (n % 10) ∷ acc) more)

decimal-no_star : (n : ℕ) → NoStar (decimal n)
unfolding digits
decimal-no_star n = digits_onto-no_star 64 n [] tt

no_star_text : (text : List ℕ) (same : Bool) → same_text text wildcard ≡ same → NoStar text → same ≡ false
no_star_text text true is none =
    let star : NoStar wildcard = subst NoStar (same_text-≡ text wildcard is) none in star.0
no_star_text text false is none = refl

pub decimal-no_wildcard : (n : ℕ) → same_text (decimal n) wildcard ≡ false
decimal-no_wildcard n = no_star_text (decimal n) (same_text (decimal n) wildcard) refl (decimal-no_star n)

-- what the fault of an ident tests
pub record IsSoundIdent (name : List ℕ) : Type 0 where
  pub short : length name ≤ 100
  pub none_wrong : NonePass (λ byte. not (is_ident_byte byte)) name

tested : (empty long marked : Bool) (bad : Option ℕ)
    → cond empty (Some Empty) (cond long (Some TooLong) (byte_fault (cond marked (Some 0) bad))) ≡ None
    → (long ≡ false) × (bad ≡ None)
tested true long marked bad h = cc
tested false true marked bad h = cc
tested false false true bad h = cc
tested false false false (Some at) h = cc
tested false false false None h = (refl, refl)

pub sound_ident : (name : List ℕ) → ident_fault name ≡ None → IsSoundIdent name
sound_ident name sound =
    let tests = tested _ _ (begins_with_mark name) (position (λ byte. not (is_ident_byte byte)) name) sound in
    record { short = ltb-false _ _ tests.0; none_wrong = none_from_position _ name tests.1 }

-- a text with no fault of a label
label_fault-none : (text : List ℕ) → eqb (length text) 0 ≡ false → ltb 255 (length text) ≡ false
    → NonePass (λ byte. not (is_label_byte byte)) text → label_byte_fault text None ≡ None → label_fault text ≡ None
label_fault-none text some short right free =
    let bad = position (λ byte. not (is_label_byte byte)) text in
    let rest = λ (long : Bool). cond long (Some LabelTooLong) (label_byte_fault text bad) in
    ap (λ empty. cond empty (Some LabelEmpty) (rest (ltb 255 (length text)))) some
    ∙ ap rest short
    ∙ ap (label_byte_fault text) (position-none (λ byte. not (is_label_byte byte)) text right)
    ∙ free

-- the front of the label of a package, and then the name
labelled : (p : ℕ → Bool) (name : List ℕ) → NonePass p (codes "User::Pkg::") → NonePass p name → NonePass p (package_label name)
labelled p name front behind = NonePass-append p (codes "User::Pkg::") name front behind

module _ (name : List ℕ) (sound : ident_fault name ≡ None) where
  some : eqb (length (package_label name)) 0 ≡ false
  some = grind (arith, nat_tests)

  short : ltb 255 (length (package_label name)) ≡ false
  short = let ident = sound_ident name sound in grind (arith, nat_tests, ident.short)

  all_label_bytes : NonePass (λ byte. not (is_label_byte byte)) (package_label name)
  all_label_bytes =
      labelled (λ byte. not (is_label_byte byte)) name
      (refl, (refl, (refl, (refl, (refl, (refl, (refl, (refl, (refl, (refl, (refl, tt)))))))))))
      (NonePass-weaker _ (λ byte. not (is_label_byte byte)) is_label_byte-ident name (sound_ident name sound).none_wrong)

  all_visible : NonePass (λ byte. not (is_visible byte)) (package_label name)
  all_visible =
      labelled (λ byte. not (is_visible byte)) name
      (refl, (refl, (refl, (refl, (refl, (refl, (refl, (refl, (refl, (refl, (refl, tt)))))))))))
      (NonePass-weaker _ (λ byte. not (is_visible byte)) is_visible-ident name (sound_ident name sound).none_wrong)

  pub label_fault-package_label : label_fault (package_label name) ≡ None
  label_fault-package_label = label_fault-none (package_label name) some short all_label_bytes refl

  pub name_fault-package_label : name_fault (package_label name) ≡ None
  name_fault-package_label = name_fault-none (package_label name) some short all_visible refl

-- the label of a package, what parts, and then the name of the application
with_app : (p : ℕ → Bool) (name app : List ℕ) → NonePass p (package_label name) → NonePass p (codes "::App::") → NonePass p app
    → NonePass p (app_label name app)
with_app p name app front parts behind =
    NonePass-append p (package_label name) (codes "::App::" ++ app) front (NonePass-append p (codes "::App::") app parts behind)

module _ (name app : List ℕ) (sound : ident_fault name ≡ None) (own : ident_fault app ≡ None) where
  some_app : eqb (length (app_label name app)) 0 ≡ false
  some_app = grind (arith, nat_tests)

  short_app : ltb 255 (length (app_label name app)) ≡ false
  short_app =
      let first = sound_ident name sound in
      let second = sound_ident app own in
      let both = length-append name (codes "::App::" ++ app) in
      grind (arith, nat_tests, first.short, second.short, both)

  app_label_bytes : NonePass (λ byte. not (is_label_byte byte)) (app_label name app)
  app_label_bytes =
      with_app (λ byte. not (is_label_byte byte)) name app (all_label_bytes name sound)
      (refl, (refl, (refl, (refl, (refl, (refl, (refl, tt)))))))
      (NonePass-weaker _ (λ byte. not (is_label_byte byte)) is_label_byte-ident app (sound_ident app own).none_wrong)

  app_visible : NonePass (λ byte. not (is_visible byte)) (app_label name app)
  app_visible =
      with_app (λ byte. not (is_visible byte)) name app (all_visible name sound)
      (refl, (refl, (refl, (refl, (refl, (refl, (refl, tt)))))))
      (NonePass-weaker _ (λ byte. not (is_visible byte)) is_visible-ident app (sound_ident app own).none_wrong)

  pub label_fault-app_label : label_fault (app_label name app) ≡ None
  label_fault-app_label = label_fault-none (app_label name app) some_app short_app app_label_bytes refl

  pub name_fault-app_label : name_fault (app_label name app) ≡ None
  name_fault-app_label = name_fault-none (app_label name app) some_app short_app app_visible refl
