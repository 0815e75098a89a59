-- A refusal in a frame is read exactly as it is spelled.
use Rattle.std.proofs.Common.{◌≡◌, ℕ, zero, suc, ◌^◌, ◌<◌, ◌≤◌, Bool, true, false, cond, ltb, eqb, List, [], ◌∷◌, ◌++◌}
use Rattle.std.proofs.Common.{length, Option, Some, None, Ok, refl, sym, ap, subst, ◌∙◌, arith}
use Rattle.std.specs.Prelude.{is_some, unwrap_or}
use Rattle.std.specs.List.{find}
use Rattle.std.specs.Int.{w8, w64, to_be_bytes}
use Rattle.std.proofs.Math.Nat.{mod-eq_of_lt}
use Rattle.std.proofs.lemmas.Bool.{ltb-true, lt-ltb, eqb-true}
use Rattle.std.proofs.lemmas.List.{nil_from_length}
use Rattle.cynara_keys.specs.Text.{same_text}
use Rattle.cynara_keys.specs.declared.limits.Counted.{Counted}
use Rattle.cynara_keys.specs.declared.limits.Counted.TheVariants.{Commits, Users, Packages, Installs, Grants, Buckets}
use Rattle.cynara_keys.specs.declared.limits.Counted.TheVariants.{Policies}
use Rattle.desk_state.specs.declared.refusals.Refusal.{Refusal}
use Rattle.desk_state.specs.declared.refusals.Refusal.TheVariants as refusal
use Rattle.wire_fields.specs.declared.rules.Rule.{Rule}
use Rattle.wire_fields.specs.declared.rules.Rule.TheVariants.{Reserved, LayoutThere, NoLayout, NoBucket, RootBucket}
use Rattle.wire_fields.specs.declared.rules.Rule.TheVariants.{BadKind, UnknownUser, OtherPackage, OtherAuthor}
use Rattle.wire_fields.specs.declared.rules.Rule.TheVariants.{OtherHybrid, NotInstalled, Limit, Cycle}
use Rattle.wire_fields.specs.Left.{IsBytes, Left, Reading, ◌>>=◌}
use Rattle.wire_fields.specs.Format.{Format, number, text, tested, made, ◌⊗◌}
use Rattle.wire_fields.specs.Field as field
use Rattle.wire_fields.specs.Refused.{no_text, zero_value, value_below, yes_value, counted_text, counted_of}
use Rattle.wire_fields.specs.Refused.{all_counted, which, rule_number, all_rules, rule_of, plain, read_rule, rule_at}
use Rattle.wire_fields.specs.Refused.{refusal_spelled, refused}
use Rattle.wire_fields.specs.Right as right
use Rattle.wire_fields.proofs.Exact.{bind_ok, ok_is, Takes, Takes-then, IsExact, number_exact, wide8, wide64}
use Rattle.wire_fields.proofs.Exact.{text_exact, tested_exact, seen_exact, pair_exact}
use Rattle.wire_fields.proofs.FieldLaws.{exact_as, bucket_exact, ident_exact, author_exact, same_is}

found_here : {X : Type 0} (p : X → Bool) (b : Bool) (y x : X) (later : Option X) → p y ≡ b
    → (later ≡ Some x → p x ≡ true)
    → cond b (Some y) later ≡ Some x → p x ≡ true
found_here p true y x later is behind e = let same : y ≡ x = cc in subst (λ z. p z ≡ true) same is
found_here p false y x later is behind e = behind e

-- what is found passes the test
pub find_passes : {X : Type 0} (p : X → Bool) (xs : List X) (x : X) → find p xs ≡ Some x → p x ≡ true
find_passes p [] x e = absurd cc
find_passes p (y ∷ ys) x e = found_here p (p y) y x (find p ys) refl (find_passes p ys x) e

-- ---- texts and values of rules

no_text_exact : IsExact no_text (λ bytes. bytes ≡ [])
no_text_exact =
    exact_as no_text (tested_exact (λ bytes. eqb (length bytes) 0) text text_exact)
    (λ bytes good. nil_from_length bytes (eqb-true _ _ good.1)) (λ bytes none. rw none (omega arith, refl))

zero_exact : IsExact zero_value (λ n. n ≡ 0)
zero_exact =
    exact_as zero_value (tested_exact (λ n. eqb n 0) (number w64) (number_exact w64 (2 ^ 64) wide64))
    (λ n good. eqb-true n 0 good.1)
    (λ n none. rw none (omega arith, refl))

below_exact : (limit : ℕ) → limit ≤ 2 ^ 64 → IsExact (value_below limit) (λ n. n < limit)
below_exact limit small =
    exact_as (value_below limit) (tested_exact (λ n. ltb n limit) (number w64) (number_exact w64 (2 ^ 64) wide64))
    (λ n good. ltb-true n limit good.1) (λ n less. (omega arith, lt-ltb n limit less))

yes_there : (n : ℕ) → (n < 2 ^ 64) × (ltb n 2 ≡ true) → ((cond (eqb n 1) 1 0) ≡ n) × Unit {0}
yes_there zero right = (refl, tt)
yes_there (suc zero) right = (refl, tt)
yes_there (suc (suc n)) right = absurd (omega (arith, ltb-true _ _ right.1))

yes_back : (b : Bool) → Unit {0} → ((cond b 1 0 < 2 ^ 64) × (ltb (cond b 1 0) 2 ≡ true)) × (eqb (cond b 1 0) 1 ≡ b)
yes_back true right = ((omega arith, refl), refl)
yes_back false right = ((omega arith, refl), refl)

yes_exact : IsExact yes_value (λ b. Unit {0})
yes_exact = seen_exact (λ n. eqb n 1) (λ b. cond b 1 0) (tested (λ n. ltb n 2) (number w64))
    (tested_exact (λ n. ltb n 2) (number w64) (number_exact w64 (2 ^ 64) wide64))
    {Good = λ b. Unit {0}} yes_there yes_back

plain_exact : IsExact plain (λ x. (x.0 ≡ []) × (x.1 ≡ 0))
plain_exact = pair_exact no_text zero_value no_text_exact zero_exact

word_there : (bytes : List ℕ) (found : Option Counted) → counted_of bytes ≡ found → is_some found ≡ true
    → counted_text (unwrap_or found Commits) ≡ bytes
word_there bytes (Some counted) is some =
    sym (same_is bytes (counted_text counted) (find_passes (λ counted. same_text bytes (counted_text counted))
    all_counted counted is))
word_there bytes None is some = absurd cc

word_short : (bytes : List ℕ) (found : Option Counted) → counted_of bytes ≡ found → is_some found ≡ true
    → length bytes < 2 ^ 16
word_short bytes found is some = rw (← word_there bytes found is some) (short (unwrap_or found Commits))
  where
    short : (counted : Counted) → length (counted_text counted) < 2 ^ 16
    short Commits = omega arith
    short Users = omega arith
    short Packages = omega arith
    short Installs = omega arith
    short Grants = omega arith
    short Buckets = omega arith
    short Policies = omega arith

word_back : (counted : Counted) → counted_of (counted_text counted) ≡ Some counted
word_back Commits = refl
word_back Users = refl
word_back Packages = refl
word_back Installs = refl
word_back Grants = refl
word_back Buckets = refl
word_back Policies = refl

which_exact : IsExact which (λ counted. Unit {0})
which_exact =
    seen_exact (λ bytes. unwrap_or (counted_of bytes) Commits) counted_text
    (tested (λ bytes. is_some (counted_of bytes)) text)
    (tested_exact (λ bytes. is_some (counted_of bytes)) text text_exact) {Good = λ counted. Unit {0}}
    (λ bytes good. (word_there bytes (counted_of bytes) refl good.1, tt))
    (λ counted good. (
      (
        word_short (counted_text counted) (counted_of (counted_text counted)) refl (ap is_some (word_back counted)),
        ap is_some (word_back counted),
      ),
      ap (λ (found : Option Counted). unwrap_or found Commits) (word_back counted),
    ))

-- ---- rules

-- the refusal is spelled as the rule's number and what was taken
abbrev Behind : Rule → Left → Refusal × Left → Type 0
Behind rule left y =
    (rest : List ℕ) × (refusal_spelled y.0 ≡ rule_number rule ∷ rest) × Takes left rest y.1 × right.IsTold y.0

rule_taken : (rule : Rule) {X : Type 0} (of : X → Refusal) (format : Format X) {P : X → Type 0} → IsExact format P
    → ((x : X) → P x → (refusal_spelled (of x) ≡ rule_number rule ∷ format.spelled x) × right.IsTold (of x))
    → (left : Left) (y : Refusal × Left) → IsBytes left.rest → made of format left ≡ Ok y → Behind rule left y
rule_taken rule {X} of format exact says left y fits e =
    let a = bind_ok (format.read left) (λ x. Ok (of x.0, x.1)) y e in
    let t = exact.takes left a.0 fits a.1 in
    let told = says a.0.0 t.1 in
    let read : Refusal × Left = (of a.0.0, a.0.1) in
    subst (Behind rule left) (ok_is read y a.2) (format.spelled a.0.0, told.0, t.0, told.1)

rule_takes : (rule : Rule) (left : Left) (y : Refusal × Left) → IsBytes left.rest → read_rule rule left ≡ Ok y
    → Behind rule left y
rule_takes Reserved =
    rule_taken Reserved (λ x. refusal.Reserved x.0) (field.bucket ⊗ zero_value)
    (pair_exact field.bucket zero_value bucket_exact zero_exact)
    (λ x good. (ap (λ (v : ℕ). 1 ∷ (field.bucket ⊗ zero_value).spelled (x.0, v)) (sym good.1), good.0))
rule_takes LayoutThere = rule_taken LayoutThere (λ x. refusal.LayoutThere) plain plain_exact
    (λ x good. (ap (λ (v : List ℕ × ℕ). 2 ∷ plain.spelled v) (λ i. (sym good.0 i, sym good.1 i)), tt))
rule_takes NoLayout = rule_taken NoLayout (λ x. refusal.NoLayout) plain plain_exact
    (λ x good. (ap (λ (v : List ℕ × ℕ). 3 ∷ plain.spelled v) (λ i. (sym good.0 i, sym good.1 i)), tt))
rule_takes NoBucket =
    rule_taken NoBucket (λ x. refusal.NoBucket x.0) (field.bucket ⊗ zero_value)
    (pair_exact field.bucket zero_value bucket_exact zero_exact)
    (λ x good. (ap (λ (v : ℕ). 4 ∷ (field.bucket ⊗ zero_value).spelled (x.0, v)) (sym good.1), good.0))
rule_takes RootBucket = rule_taken RootBucket (λ x. refusal.RootBucket) plain plain_exact
    (λ x good. (ap (λ (v : List ℕ × ℕ). 5 ∷ plain.spelled v) (λ i. (sym good.0 i, sym good.1 i)), tt))
rule_takes BadKind =
    rule_taken BadKind (λ x. refusal.BadKind (record { 0 = x.1 })) (no_text ⊗ value_below 65536)
    (pair_exact no_text (value_below 65536) no_text_exact (below_exact 65536 (omega arith)))
    (λ x good. (
      ap (λ (t : List ℕ). 6 ∷ (no_text ⊗ value_below 65536).spelled (t, x.1)) (sym good.0),
      omega (arith, good.1),
    ))
rule_takes UnknownUser =
    rule_taken UnknownUser (λ x. refusal.UnknownUser x.1) (no_text ⊗ value_below 4294967296)
    (pair_exact no_text (value_below 4294967296) no_text_exact (below_exact 4294967296 (omega arith)))
    (λ x good. (
      ap (λ (t : List ℕ). 7 ∷ (no_text ⊗ value_below 4294967296).spelled (t, x.1)) (sym good.0),
      omega (arith, good.1),
    ))
rule_takes OtherPackage =
    rule_taken OtherPackage (λ x. refusal.OtherPackage x.0) (field.ident ⊗ zero_value)
    (pair_exact field.ident zero_value ident_exact zero_exact)
    (λ x good. (ap (λ (v : ℕ). 8 ∷ (field.ident ⊗ zero_value).spelled (x.0, v)) (sym good.1), good.0))
rule_takes OtherAuthor =
    rule_taken OtherAuthor (λ x. refusal.OtherAuthor x.0) (field.author ⊗ zero_value)
    (pair_exact field.author zero_value author_exact zero_exact)
    (λ x good. (ap (λ (v : ℕ). 9 ∷ (field.author ⊗ zero_value).spelled (x.0, v)) (sym good.1), good.0))
rule_takes OtherHybrid =
    rule_taken OtherHybrid (λ x. refusal.OtherHybrid x.1) (no_text ⊗ yes_value)
    (pair_exact no_text yes_value no_text_exact yes_exact)
    (λ x good. (ap (λ (t : List ℕ). 14 ∷ (no_text ⊗ yes_value).spelled (t, x.1)) (sym good.0), tt))
rule_takes NotInstalled = rule_taken NotInstalled (λ x. refusal.NotInstalled) plain plain_exact
    (λ x good. (ap (λ (v : List ℕ × ℕ). 10 ∷ plain.spelled v) (λ i. (sym good.0 i, sym good.1 i)), tt))
rule_takes Limit =
    rule_taken Limit (λ x. refusal.Limit x.0 x.1) (which ⊗ number w64)
    (pair_exact which (number w64) which_exact (number_exact w64 (2 ^ 64) wide64))
    (λ x good. (refl, good.1))
rule_takes Cycle =
    rule_taken Cycle (λ x. refusal.Cycle x.0) (field.bucket ⊗ zero_value)
    (pair_exact field.bucket zero_value bucket_exact zero_exact)
    (λ x good. (ap (λ (v : ℕ). 12 ∷ (field.bucket ⊗ zero_value).spelled (x.0, v)) (sym good.1), good.0))

pub byte_read : (end n : ℕ) (rest : List ℕ) → n < 256
    → (number w8).read (record { end = end; rest = n ∷ rest }) ≡ Ok (n, record { end = end; rest = rest })
byte_read end n rest small =
    let one : to_be_bytes w8 n ≡ n ∷ [] = ap (λ (b : ℕ). b ∷ []) (mod-eq_of_lt small) in
    ap (λ (bytes : List ℕ). (number w8).read (record { end = end; rest = bytes ++ rest })) (sym one)
    ∙ (number_exact w8 256 wide8).again end n rest small

told : (n : ℕ) → n < 256 → (rule : Rule) → rule_of n ≡ Some rule → {X : Type 0} (of : X → Refusal) (format : Format X)
    {P : X → Type 0} → IsExact format P → ((left : Left) → read_rule rule left ≡ made of format left)
    → (end : ℕ) (x : X) → P x
    → (rest : List ℕ) → refused.read (record { end = end; rest = n ∷ (format.spelled x ++ rest) })
    ≡ Ok (of x, record { end = end; rest = rest })
told n small rule is of format exact reads end x good rest =
    let left : Left = record { end = end; rest = n ∷ (format.spelled x ++ rest) } in
    let next : Left = record { end = end; rest = format.spelled x ++ rest } in
    let first : refused.read left ≡ rule_at (rule_of n) left next =
    ap (λ (read : Reading ℕ). read >>= λ n. rule_at (rule_of n.0) left n.1)
    (byte_read end n (format.spelled x ++ rest) small) in
    let second : rule_at (rule_of n) left next ≡ made of format next =
    ap (λ (rule : Option Rule). rule_at rule left next) is ∙ reads next in
    let third : made of format next ≡ Ok (of x, record { end = end; rest = rest }) =
    ap (λ (read : Reading _). read >>= λ x. Ok (of x.0, x.1)) (exact.again end x rest good) in
    first ∙ second ∙ third

refusal_again : (end : ℕ) (x : Refusal) (rest : List ℕ) → right.IsTold x
    → refused.read (record { end = end; rest = refusal_spelled x ++ rest }) ≡ Ok (x, record { end = end; rest = rest })
refusal_again end (refusal.Reserved name) rest good =
    told 1 (omega arith) Reserved refl (λ x. refusal.Reserved x.0) (field.bucket ⊗ zero_value)
    (pair_exact field.bucket zero_value bucket_exact zero_exact) (λ left. refl) end (name, 0) (good, refl) rest
refusal_again end refusal.LayoutThere rest good =
    told 2 (omega arith) LayoutThere refl (λ x. refusal.LayoutThere) plain plain_exact (λ left. refl) end ([], 0)
    (refl, refl) rest
refusal_again end refusal.NoLayout rest good =
    told 3 (omega arith) NoLayout refl (λ x. refusal.NoLayout) plain plain_exact (λ left. refl) end ([], 0) (refl, refl)
    rest
refusal_again end (refusal.NoBucket name) rest good =
    told 4 (omega arith) NoBucket refl (λ x. refusal.NoBucket x.0) (field.bucket ⊗ zero_value)
    (pair_exact field.bucket zero_value bucket_exact zero_exact) (λ left. refl) end (name, 0) (good, refl) rest
refusal_again end refusal.RootBucket rest good =
    told 5 (omega arith) RootBucket refl (λ x. refusal.RootBucket) plain plain_exact (λ left. refl) end ([], 0)
    (refl, refl) rest
refusal_again end (refusal.BadKind kind) rest good =
    told 6 (omega arith) BadKind refl (λ x. refusal.BadKind (record { 0 = x.1 })) (no_text ⊗ value_below 65536)
    (pair_exact no_text (value_below 65536) no_text_exact (below_exact 65536 (omega arith))) (λ left. refl) end
    ([], kind.0) (refl, omega (arith, good)) rest
refusal_again end (refusal.UnknownUser uid) rest good =
    told 7 (omega arith) UnknownUser refl (λ x. refusal.UnknownUser x.1) (no_text ⊗ value_below 4294967296)
    (pair_exact no_text (value_below 4294967296) no_text_exact (below_exact 4294967296 (omega arith))) (λ left. refl)
    end ([], uid) (refl, omega (arith, good)) rest
refusal_again end (refusal.OtherPackage name) rest good =
    told 8 (omega arith) OtherPackage refl (λ x. refusal.OtherPackage x.0) (field.ident ⊗ zero_value)
    (pair_exact field.ident zero_value ident_exact zero_exact) (λ left. refl) end (name, 0) (good, refl) rest
refusal_again end (refusal.OtherAuthor name) rest good =
    told 9 (omega arith) OtherAuthor refl (λ x. refusal.OtherAuthor x.0) (field.author ⊗ zero_value)
    (pair_exact field.author zero_value author_exact zero_exact) (λ left. refl) end (name, 0) (good, refl) rest
refusal_again end (refusal.OtherHybrid hybrid) rest good =
    told 14 (omega arith) OtherHybrid refl (λ x. refusal.OtherHybrid x.1) (no_text ⊗ yes_value)
    (pair_exact no_text yes_value no_text_exact yes_exact) (λ left. refl) end ([], hybrid) (refl, tt) rest
refusal_again end refusal.NotInstalled rest good =
    told 10 (omega arith) NotInstalled refl (λ x. refusal.NotInstalled) plain plain_exact (λ left. refl) end ([], 0)
    (refl, refl) rest
refusal_again end (refusal.Limit counted limit) rest good =
    told 11 (omega arith) Limit refl (λ x. refusal.Limit x.0 x.1) (which ⊗ number w64)
    (pair_exact which (number w64) which_exact (number_exact w64 (2 ^ 64) wide64)) (λ left. refl) end (counted, limit)
    (tt, good) rest
refusal_again end (refusal.Cycle name) rest good =
    told 12 (omega arith) Cycle refl (λ x. refusal.Cycle x.0) (field.bucket ⊗ zero_value)
    (pair_exact field.bucket zero_value bucket_exact zero_exact) (λ left. refl) end (name, 0) (good, refl) rest
refusal_again end (refusal.Memory error) rest good = absurd good

rule_known : (n : ℕ) (rule : Rule) → rule_of n ≡ Some rule → n ≡ rule_number rule
rule_known n rule is =
    sym (eqb-true (rule_number rule) n (find_passes (λ rule. eqb (rule_number rule) n) all_rules rule is))

rule_at_takes : (n : ℕ) (found : Option Rule) → rule_of n ≡ found → (left next : Left) (y : Refusal × Left)
    → IsBytes next.rest
    → rule_at found left next ≡ Ok y
    → (rest : List ℕ) × (refusal_spelled y.0 ≡ n ∷ rest) × Takes next rest y.1 × right.IsTold y.0
rule_at_takes n (Some rule) is left next y fits e =
    let t = rule_takes rule next y fits e in
    (t.0, rw (rule_known n rule is) t.1, t.2, t.3)
rule_at_takes n None is left next y fits e = absurd cc

pub refused_exact : IsExact refused right.IsTold
refused_exact = record { takes = taken; again = refusal_again }
  where
    taken : (left : Left) (y : Refusal × Left) → IsBytes left.rest → refused.read left ≡ Ok y
        → Takes left (refusal_spelled y.0) y.1 × right.IsTold y.0
    taken left y fits e =
        let a = bind_ok ((number w8).read left) (λ n. rule_at (rule_of n.0) left n.1) y e in
        let s = (number_exact w8 256 wide8).takes left a.0 fits a.1 in
        let t = rule_at_takes a.0.0 (rule_of a.0.0) refl left a.0.1 y s.0.bytes a.2 in
        let one : to_be_bytes w8 a.0.0 ≡ a.0.0 ∷ [] = ap (λ (b : ℕ). b ∷ []) (mod-eq_of_lt s.1) in
        let both = Takes-then left (to_be_bytes w8 a.0.0) a.0.1 t.0 y.1 s.0 t.2 in
        let is : to_be_bytes w8 a.0.0 ++ t.0 ≡ refusal_spelled y.0 = ap (λ (b : List ℕ). b ++ t.0) one ∙ sym t.1 in
        (subst (λ (bytes : List ℕ). Takes left bytes y.1) is both, t.3)
