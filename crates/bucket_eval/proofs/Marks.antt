-- Policies by the marks of their keys.
use Rattle.std.proofs.Common.{◌≡◌, ℕ, ◌<◌, ◌%◌, ◌==◌, Bool, true, false, cond, nat_lt, nat_le, List, [], ◌∷◌, zero, suc}
use Rattle.std.proofs.Common.{slice_get, get_or, option_and_then, Option, None, Some, Ok, is_some, refl, sym, ap, ◌∙◌}
use Rattle.std.proofs.Common.{subst, arith, ◌≢◌}
use Rattle.std.proofs.Math.Seq.{get_or-append_seam}
use Rattle.std.specs.declared.cmp.Ordering.TheVariants.{Equal}
use Rattle.std.specs.Cmp.{first_so, second_so}
use Rattle.std.specs.List.{position}
use Rattle.std.specs.List.Sorted.{IsStrictlySortedBy}
use Rattle.std.specs.Ordering.{is_eq}
use Rattle.std.proofs.lemmas.Bool.{false≢true, and_from, ltb-true, eqb-true, eq-eqb}
use Rattle.std.proofs.lemmas.List.Elements.{recursion_from_All}
use Rattle.std.proofs.lemmas.List.Quantifiers.{position-Some}
use Rattle.std.proofs.lemmas.Option.{get_or_from_slice_get, same_Some, slice_get-get_or, slice_get_within}
use Rattle.cynara_keys.specs.Field.{field_matches, field_text, wildcard}
use Rattle.cynara_keys.specs.declared.fields.Field.{Field}
use Rattle.cynara_keys.specs.declared.fields.Field.TheVariants.{Any, Exact}
use Rattle.cynara_keys.specs.Key.{Key, Question, key_cmp, key_matches, same_key}
use Rattle.cynara_keys.specs.Text.{same_text}
use Rattle.cynara_keys.specs.declared.keys.Policy.{Policy}
use Rattle.cynara_keys.proofs.Order.{key_cmp-equal, key_total, same_text-≡, ≡-same_text}
use Rattle.bucket_store.specs.Order.{policy_cmp}
use Rattle.bucket_store.specs.parts.Search.{StandsAt}
use Rattle.bucket_store.proofs.Searching.{searched}
use Rattle.bucket_eval.specs.declared.numbers.Numbers.{Numbers}
use Rattle.bucket_eval.specs.parts.Numbers.{IsMarked, IsTable, KeepsNumbers, if_small, join, joined, mark_of, number_of}
use Rattle.bucket_eval.specs.parts.Shapes.{FitsAt, fits, is_wild, shape_of, sought, sought_field}
use Rattle.bucket_eval.specs.parts.Marks.{AreNumbers, sought_mark}
use Rattle.bucket_eval.proofs.ByShape.{client-wild, equal-same, misfit, privilege-wild, user-wild}

-- ---- numbers of texts

record Small (o : Option ℕ) (number : ℕ) : Type 0 where
  is : o ≡ Some number
  small : number < 262144

small-of : (o : Option ℕ) (number : ℕ) → option_and_then if_small o ≡ Some number → Small o number
small-of None number is = cc
small-of (Some place) number is = by-size (nat_lt place 262144) refl is
  where
    by-size : (fits : Bool) → nat_lt place 262144 ≡ fits → cond fits (Some place) None ≡ Some number
        → Small (Some place) number
    by-size true less some =
        let same : place ≡ number = same_Some _ _ some in
        record { is = some; small = subst (λ n. n < 262144) same (ltb-true place 262144 less) }
    by-size false less some = cc

pub number-small : (names : List (List ℕ)) (text : List ℕ) (number : ℕ) → number_of names text ≡ Some number
    → number < 262144
number-small names text number is = (small-of (position (same_text text) names) number is).small

text-at : (names : List (List ℕ)) (text : List ℕ) (number : ℕ) → number_of names text ≡ Some number
    → text ≡ get_or names number []
text-at names text number is =
    let found = position-Some (same_text text) names number [] (small-of (position (same_text text) names) number is).is in
    same_text-≡ text (get_or names number []) found.1

-- texts of one number are the same
pub same-number : (names : List (List ℕ)) (one other : List ℕ) (number : ℕ) → number_of names one ≡ Some number
    → number_of names other ≡ Some number → one ≡ other
same-number names one other number is other_is =
    text-at names one number is ∙ sym (text-at names other number other_is)

-- ---- marks

record Parts (client user privilege : Option ℕ) (mark : ℕ) : Type 0 where
  first : ℕ
  second : ℕ
  third : ℕ
  client_is : client ≡ Some first
  user_is : user ≡ Some second
  privilege_is : privilege ≡ Some third
  mark_is : joined first second third ≡ mark

parts-of : (client user privilege : Option ℕ) (mark : ℕ) → join client user privilege ≡ Some mark
    → Parts client user privilege mark
parts-of None user privilege mark is = cc
parts-of (Some c) None privilege mark is = cc
parts-of (Some c) (Some u) None mark is = cc
parts-of (Some c) (Some u) (Some p) mark is = record {
  first = c;
  second = u;
  third = p;
  client_is = refl;
  user_is = refl;
  privilege_is = refl;
  mark_is = same_Some _ _ is;
}

record Same (a b c d e f : ℕ) : Type 0 where
  first : a ≡ d
  second : b ≡ e
  third : c ≡ f

joined-same : (a b c d e f : ℕ) → joined a b c ≡ joined d e f → b < 262144 → c < 262144 → e < 262144 → f < 262144
    → Same a b c d e f
joined-same a b c d e f is lb lc le lf = record {
  first = omega arith;
  second = omega arith;
  third = omega arith;
}

-- what has a mark keeps it
pub mark-kept : (old new : List (List ℕ)) (key : Key) (mark : ℕ) → KeepsNumbers old new → mark_of old key ≡ Some mark
    → mark_of new key ≡ Some mark
mark-kept old new key mark kept is =
    let parts = parts-of (number_of old (field_text key.client)) (number_of old (field_text key.user))
    (number_of old (field_text key.privilege)) mark is in
    (λ i. join (kept (field_text key.client) parts.first parts.client_is i)
    (kept (field_text key.user) parts.second parts.user_is i)
    (kept (field_text key.privilege) parts.third parts.privilege_is i))
    ∙ ap Some parts.mark_is

-- the mark of a key whose texts were given numbers in turn
pub mark-made : (first second third : List (List ℕ)) (client user privilege : Option ℕ) (key : Key) (mark : ℕ)
    → client ≡ number_of first (field_text key.client) → user ≡ number_of second (field_text key.user)
    → privilege ≡ number_of third (field_text key.privilege) → KeepsNumbers first second → KeepsNumbers second third
    → join client user privilege ≡ Some mark → mark_of third key ≡ Some mark
mark-made first second third client user privilege key mark client_is user_is privilege_is one two is =
    let parts = parts-of client user privilege mark is in
    (λ i. join
    (two (field_text key.client) parts.first (one (field_text key.client) parts.first (sym client_is ∙ parts.client_is)) i)
    (two (field_text key.user) parts.second (sym user_is ∙ parts.user_is) i)
    ((sym privilege_is ∙ parts.privilege_is) i))
    ∙ ap Some parts.mark_is

-- keys of one mark tie
pub marks-tie : (names : List (List ℕ)) (key other : Key) (mark : ℕ) → mark_of names key ≡ Some mark
    → mark_of names other ≡ Some mark → key_cmp key other ≡ Equal
marks-tie names key other mark is other_is =
    let one = parts-of (number_of names (field_text key.client)) (number_of names (field_text key.user))
    (number_of names (field_text key.privilege)) mark is in
    let two = parts-of (number_of names (field_text other.client)) (number_of names (field_text other.user))
    (number_of names (field_text other.privilege)) mark other_is in
    let same = joined-same one.first one.second one.third two.first two.second two.third (one.mark_is ∙ sym two.mark_is)
    (number-small names _ one.second one.user_is) (number-small names _ one.third one.privilege_is)
    (number-small names _ two.second two.user_is) (number-small names _ two.third two.privilege_is) in
    let client : field_text key.client ≡ field_text other.client =
    same-number names _ _ one.first one.client_is (two.client_is ∙ ap Some (sym same.first)) in
    let user : field_text key.user ≡ field_text other.user =
    same-number names _ _ one.second one.user_is (two.user_is ∙ ap Some (sym same.second)) in
    let privilege : field_text key.privilege ≡ field_text other.privilege =
    same-number names _ _ one.third one.privilege_is (two.privilege_is ∙ ap Some (sym same.third)) in
    equal-same (key_cmp key other)
    (key_cmp-equal key other
    ∙ and_from _ _ (≡-same_text _ _ client) (and_from _ _ (≡-same_text _ _ user) (≡-same_text _ _ privilege)))

-- keys that tie have one mark
pub tied-marks : (names : List (List ℕ)) (key other : Key) → is_eq (key_cmp key other) ≡ true
    → mark_of names key ≡ mark_of names other
tied-marks names key other ties =
    let same : same_key key other ≡ true = sym (key_cmp-equal key other) ∙ ties in
    let client : field_text key.client ≡ field_text other.client = same_text-≡ _ _ (first_so _ _ same) in
    let user : field_text key.user ≡ field_text other.user = same_text-≡ _ _ (first_so _ _ (second_so _ _ same)) in
    let privilege : field_text key.privilege ≡ field_text other.privilege =
    same_text-≡ _ _ (second_so _ _ (second_so _ _ same)) in
    λ i. join (number_of names (client i)) (number_of names (user i)) (number_of names (privilege i))

-- ---- the sought mark

field-number : (names : List (List ℕ)) (wild : Bool) (name : List ℕ) (star own : Option ℕ)
    → star ≡ number_of names wildcard → own ≡ number_of names name
    → cond wild star own ≡ number_of names (field_text (sought_field wild name))
field-number names true name star own star_is own_is = star_is
field-number names false name star own star_is own_is = own_is

pub sought-mark-is : (names : List (List ℕ)) (question : Question) (numbers : Numbers) (shape : ℕ)
    → AreNumbers names question numbers → sought_mark numbers shape ≡ mark_of names (sought question shape)
sought-mark-is names question numbers shape are =
    λ i. join
    (field-number names (nat_le 4 shape) question.client numbers.wildcard numbers.client are.wildcard are.client i)
    (field-number names (nat_le 2 (shape % 4)) question.user numbers.wildcard numbers.user are.wildcard are.user i)
    (field-number names (shape % 2 == 1) question.privilege numbers.wildcard numbers.privilege are.wildcard are.privilege i)

-- what stands in a list of eight
pub eight : {X : Type 0} (f : ℕ → X) (a b c d e g h i : X) → a ≡ f 0 → b ≡ f 1 → c ≡ f 2 → d ≡ f 3 → e ≡ f 4 → g ≡ f 5
    → h ≡ f 6 → i ≡ f 7 → (shape : ℕ) → shape < 8
    → slice_get (a ∷ (b ∷ (c ∷ (d ∷ (e ∷ (g ∷ (h ∷ (i ∷ [])))))))) shape ≡ Some (f shape)
eight f a b c d e g h i ea eb ec ed ee eg eh ei zero less = ap Some ea
eight f a b c d e g h i ea eb ec ed ee eg eh ei (suc zero) less = ap Some eb
eight f a b c d e g h i ea eb ec ed ee eg eh ei (suc (suc zero)) less = ap Some ec
eight f a b c d e g h i ea eb ec ed ee eg eh ei (suc (suc (suc zero))) less = ap Some ed
eight f a b c d e g h i ea eb ec ed ee eg eh ei (suc (suc (suc (suc zero)))) less = ap Some ee
eight f a b c d e g h i ea eb ec ed ee eg eh ei (suc (suc (suc (suc (suc zero))))) less = ap Some eg
eight f a b c d e g h i ea eb ec ed ee eg eh ei (suc (suc (suc (suc (suc (suc zero)))))) less = ap Some eh
eight f a b c d e g h i ea eb ec ed ee eg eh ei (suc (suc (suc (suc (suc (suc (suc zero))))))) less = ap Some ei
eight f a b c d e g h i ea eb ec ed ee eg eh ei (suc (suc (suc (suc (suc (suc (suc (suc n)))))))) less =
    absurd (omega arith)

-- ---- where the policy of a mark stands

module _ (names : List (List ℕ)) (policies : List Policy) (places : ℕ → Option ℕ) (table : IsTable names policies places)
    (question : Question) (shape : ℕ) where
  pub placed-stands : (mark place : ℕ) → IsStrictlySortedBy policy_cmp policies
      → mark_of names (sought question shape) ≡ Some mark → places mark ≡ Some place
      → StandsAt (λ policy. key_cmp policy.key (sought question shape)) policies place
  placed-stands mark place rising sought_is is =
      let has = table.sound mark place is in
      let ties : key_cmp has.policy.key (sought question shape) ≡ Equal =
      marks-tie names has.policy.key (sought question shape) mark has.is sought_is in
      (searched key_total (λ (policy : Policy). policy.key) (sought question shape) policies rising (Ok place)
      (slice_get_within policies place has.policy has.there)
      (λ d. subst (λ (policy : Policy). key_cmp policy.key (sought question shape) ≡ Equal)
      (sym (get_or_from_slice_get policies place has.policy d has.there)) ties)).0

  -- a policy that ties with the sought key has its mark, which leads to a place
  none-fits : ((mark : ℕ) → mark_of names (sought question shape) ≡ Some mark → places mark ≡ None)
      → FitsAt question shape policies None
  none-fits nowhere =
      recursion_from_All (λ policy. fits question shape policy ≡ false) policies
      (λ k d within. misfit question shape (get_or policies k d)
      (apart (get_or policies k d) (is_eq (key_cmp (get_or policies k d).key (sought question shape))) refl
      (table.complete k (get_or policies k d) (slice_get-get_or policies k d within))))
    where
      apart : (policy : Policy) (ties : Bool) → is_eq (key_cmp policy.key (sought question shape)) ≡ ties
          → IsMarked names places policy → ties ≡ false
      apart policy true is marked =
          let own : mark_of names (sought question shape) ≡ Some marked.mark =
          sym (tied-marks names policy.key (sought question shape) is) ∙ marked.is in
          absurd (false≢true (sym (ap is_some (nowhere marked.mark own)) ∙ marked.leads))
      apart policy false is marked = refl

  pub unmarked-fits : mark_of names (sought question shape) ≡ None → FitsAt question shape policies None
  unmarked-fits none = none-fits (λ mark is. let no : None ≡ Some mark = sym none ∙ is in cc)

  pub unplaced-fits : (mark : ℕ) → mark_of names (sought question shape) ≡ Some mark → places mark ≡ None
      → FitsAt question shape policies None
  unplaced-fits mark sought_is none =
      none-fits (λ other is. ap places (same_Some _ _ (sym is ∙ sought_is)) ∙ none)

  -- what stands at the place ties with the sought key
  pub placed-ties : (mark place : ℕ) (policy : Policy) → mark_of names (sought question shape) ≡ Some mark
      → places mark ≡ Some place → slice_get policies place ≡ Some policy
      → is_eq (key_cmp policy.key (sought question shape)) ≡ true
  placed-ties mark place policy sought_is is there =
      let has = table.sound mark place is in
      let same : has.policy ≡ policy = same_Some _ _ (sym has.there ∙ there) in
      subst (λ (p : Policy). is_eq (key_cmp p.key (sought question shape)) ≡ true) same
      (ap is_eq (marks-tie names has.policy.key (sought question shape) mark has.is sought_is))

-- ---- shapes

field-fits : (field : Field) (name : List ℕ) (wild : Bool) → wild ≡ is_wild field
    → same_text (field_text field) (field_text (sought_field wild name)) ≡ true → field_matches field name ≡ true
field-fits Any name wild is same = refl
field-fits (Exact own) name true is same = cc
field-fits (Exact own) name false is same = same

-- a key of the shape that ties with the sought one matches the question
pub tied-matches : (key : Key) (question : Question) (shape : ℕ) → shape_of key ≡ shape
    → is_eq (key_cmp key (sought question shape)) ≡ true → key_matches key question ≡ true
tied-matches key question shape shaped ties =
    let client = is_wild key.client in
    let user = is_wild key.user in
    let privilege = is_wild key.privilege in
    let same : same_key key (sought question shape) ≡ true =
    sym (key_cmp-equal key (sought question shape)) ∙ ties in
    and_from _ _
    (field-fits key.client question.client (nat_le 4 shape)
    (ap (nat_le 4) (sym shaped) ∙ client-wild client user privilege) (first_so _ _ same))
    (and_from _ _
    (field-fits key.user question.user (nat_le 2 (shape % 4))
    (ap (λ n. nat_le 2 (n % 4)) (sym shaped) ∙ user-wild client user privilege) (first_so _ _ (second_so _ _ same)))
    (field-fits key.privilege question.privilege (shape % 2 == 1)
    (ap (λ n. n % 2 == 1) (sym shaped) ∙ privilege-wild client user privilege) (second_so _ _ (second_so _ _ same))))

pub shape-fits : (policy : Policy) (question : Question) (shape : ℕ) → shape_of policy.key ≡ shape
    → is_eq (key_cmp policy.key (sought question shape)) ≡ true → fits question shape policy ≡ true
shape-fits policy question shape shaped ties =
    and_from _ _ (tied-matches policy.key question shape shaped ties) (eq-eqb _ _ shaped)

pub shape-misfits : (policy : Policy) (question : Question) (shape : ℕ) → shape_of policy.key ≢ shape
    → fits question shape policy ≡ false
shape-misfits policy question shape apart = by-fit (fits question shape policy) refl
  where
    by-fit : (fit : Bool) → fits question shape policy ≡ fit → fit ≡ false
    by-fit true is = absurd (apart (eqb-true _ _ (second_so _ _ is)))
    by-fit false is = refl

-- the policy at the place of one that fits matches
pub fits-matches : (question : Question) (shape : ℕ) (policies : List Policy) (place : ℕ) (policy : Policy)
    → FitsAt question shape policies (Some place) → policy ≡ get_or policies place policy
    → key_matches policy.key question ≡ true
fits-matches question shape policies place policy at is =
    let same : policy ≡ at.element =
    is ∙ (λ i. get_or (at.parts i) (sym at.length_front i) policy)
    ∙ get_or-append_seam at.front at.element at.back policy in
    subst (λ (p : Policy). key_matches p.key question ≡ true) (sym same) (first_so _ _ at.passes)
