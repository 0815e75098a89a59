-- Formats that are read exactly as they are spelled, and how they are built of one another.
use Rattle.std.proofs.Common.{◌≡◌, ℕ, zero, suc, ◌+◌, ◌^◌, ◌<◌, ◌≤◌, Bool, true, false, cond, ltb, eqb, List, [], ◌∷◌}
use Rattle.std.proofs.Common.{◌++◌, length, take, drop, Result, Ok, Err, refl, sym, ap, subst, ◌∙◌}
use Rattle.std.proofs.Common.{append_assoc, arith, inl, inr}
use Rattle.std.specs.Prelude.{◌⊎◌}
use Rattle.std.specs.List.{flat_map, AllByRecursion}
use Rattle.std.specs.Int.{Width, w8, w16, w32, w64, byte_len, from_be_bytes, to_be_bytes}
use Rattle.std.proofs.Math.Nat.{mod-eq_of_lt}
use Rattle.std.proofs.lemmas.Bool.{cases_lt, ltb-false, ltb-true, le-ltb}
use Rattle.std.proofs.lemmas.List.{take_at, drop_at, take-append-drop, length-append, length-take, get_or-drop}
use Rattle.std.proofs.lemmas.List.{get_or-take, get_or_past}
use Rattle.std.proofs.lemmas.List.Concat.{flat_map-cons}
use Rattle.std.proofs.lemmas.Nat.{be_bytes_2, be_bytes_4, be_bytes_8, from_be_bytes-to_be_bytes_2}
use Rattle.std.proofs.lemmas.Nat.{from_be_bytes-to_be_bytes_4, from_be_bytes-to_be_bytes_8}
use Rattle.wire_fields.specs.declared.refusals.WireRefusal.{WireRefusal}
use Rattle.wire_fields.specs.declared.refusals.WireRefusal.TheVariants.{BadField}
use Rattle.wire_fields.specs.Left.{IsBytes, Left, place, wrong, ◌>>=◌}
use Rattle.wire_fields.specs.Format.{Format, behind, number, sized, text, tested, seen, ◌⊗◌, leading, nothing, flag}
use Rattle.wire_fields.specs.Format.{flagged, behind_flag, either, each, counted}

pub IsBytes-drop : (n : ℕ) (bytes : List ℕ) → IsBytes bytes → IsBytes (drop n bytes)
IsBytes-drop n bytes h i = rw get_or-drop (h (n + i))

pub IsBytes-take : (n : ℕ) (bytes : List ℕ) → IsBytes bytes → IsBytes (take n bytes)
IsBytes-take n bytes h i =
    elim (cases_lt i n) [
      | inl lt ↦ rw (get_or-take n bytes i 0 lt) (h i)
      | inr le ↦ rw (get_or_past (take n bytes) i 0 (omega (arith, length-take n bytes))) (omega arith)
    ]

-- the value of a step that did not fail
pub bind_ok : {A B : Type 0} (r : Result A WireRefusal) (f : A → Result B WireRefusal) (y : B) → (r >>= f) ≡ Ok y
    → (x : A) × (r ≡ Ok x) × (f x ≡ Ok y)
bind_ok (Ok x) f y e = (x, refl, e)
bind_ok (Err refusal) f y e = absurd cc

-- a test that did not fail
pub guard_ok : {A : Type 0} (b : Bool) (refusal : WireRefusal) (x y : A) → cond b (Err refusal) (Ok x) ≡ Ok y
    → (b ≡ false) × (x ≡ y)
guard_ok true refusal x y e = absurd cc
guard_ok false refusal x y e = (refl, cc)

-- a test that passed
pub pass_ok : {A : Type 0} (b : Bool) (refusal : WireRefusal) (x y : A) → cond b (Ok x) (Err refusal) ≡ Ok y
    → (b ≡ true) × (x ≡ y)
pass_ok true refusal x y e = (refl, cc)
pass_ok false refusal x y e = absurd cc

abbrev done : {A : Type 0} → A → Result A WireRefusal
done x = Ok x

pub ok_is : {A : Type 0} (x y : A) → done x ≡ done y → x ≡ y
ok_is x y e = cc

-- a text was taken from the front, and bytes are left
pub record Takes (before : Left) (text : List ℕ) (after : Left) : Type 0 where
  pub parts : before.rest ≡ text ++ after.rest
  pub same_end : after.end ≡ before.end
  pub bytes : IsBytes after.rest

pub Takes-then : (a : Left) (x : List ℕ) (b : Left) (y : List ℕ) (c : Left) → Takes a x b → Takes b y c
    → Takes a (x ++ y) c
Takes-then a x b y c p q = record {
  parts = p.parts ∙ ap (λ (t : List ℕ). x ++ t) q.parts ∙ sym (append_assoc x y c.rest);
  same_end = q.same_end ∙ p.same_end;
  bytes = q.bytes;
}

-- What is read is what is spelled at the front, and such as it must be; and what is such is read from its spelling.
pub record IsExact {X : Type 0} (format : Format X) (Right : X → Type 0) : Type 0 where
  pub takes : (left : Left) (x : X × Left) → IsBytes left.rest → format.read left ≡ Ok x
      → Takes left (format.spelled x.0) x.1 × Right x.0
  pub again : (end : ℕ) (x : X) (rest : List ℕ) → Right x
      → format.read (record { end = end; rest = format.spelled x ++ rest }) ≡ Ok (x, record { end = end; rest = rest })

-- ---- numbers

pub record IsWide (w : Width) (limit : ℕ) : Type 0 where
  pub len : (n : ℕ) → length (to_be_bytes w n) ≡ byte_len w
  pub back : (bytes : List ℕ) → length bytes ≡ byte_len w → IsBytes bytes
      → to_be_bytes w (from_be_bytes w bytes) ≡ bytes
  pub again : (n : ℕ) → n < limit → from_be_bytes w (to_be_bytes w n) ≡ n
  pub below : (bytes : List ℕ) → IsBytes bytes → from_be_bytes w bytes < limit

one_byte : (bytes : List ℕ) → length bytes ≡ 1 → IsBytes bytes → to_be_bytes w8 (from_be_bytes w8 bytes) ≡ bytes
one_byte [] len fits = absurd (omega arith)
one_byte (b ∷ []) len fits = ap (λ (x : ℕ). x ∷ []) (mod-eq_of_lt (fits 0))
one_byte (b ∷ c ∷ bytes) len fits = absurd (omega arith)

pub wide8 : IsWide w8 256
wide8 = record {
  len = λ n. refl;
  back = one_byte;
  again = λ n lt. mod-eq_of_lt lt;
  below = λ bytes fits. fits 0;
}

pub wide16 : IsWide w16 (2 ^ 16)
wide16 = record {
  len = λ n. refl;
  back = λ bytes len fits. be_bytes_2 bytes _ len fits refl;
  again = λ n lt. from_be_bytes-to_be_bytes_2 n lt;
  below = λ bytes fits. omega (arith, fits 0, fits 1);
}

pub wide32 : IsWide w32 (2 ^ 32)
wide32 = record {
  len = λ n. refl;
  back = λ bytes len fits. be_bytes_4 bytes _ len fits refl;
  again = λ n lt. from_be_bytes-to_be_bytes_4 n lt;
  below = λ bytes fits. omega (arith, fits 0, fits 1, fits 2, fits 3);
}

pub wide64 : IsWide w64 (2 ^ 64)
wide64 = record {
  len = λ n. refl;
  back = λ bytes len fits. be_bytes_8 bytes _ len fits refl;
  again = λ n lt. from_be_bytes-to_be_bytes_8 n lt;
  below = λ bytes fits. omega (arith, fits 0, fits 1, fits 2, fits 3, fits 4, fits 5, fits 6, fits 7);
}

number_takes : (w : Width) (limit : ℕ) → IsWide w limit → (left : Left) (x : ℕ × Left) → IsBytes left.rest
    → (number w).read left ≡ Ok x → Takes left (to_be_bytes w x.0) x.1 × (x.0 < limit)
number_takes w limit wide left x fits e =
    let n = byte_len w in
    let read : ℕ × Left = (from_be_bytes w (take n left.rest), behind n left) in
    let g = guard_ok (ltb (length left.rest) n) (BadField (place left)) read x e in
    let long : n ≤ length left.rest = ltb-false _ _ g.0 in
    let front : to_be_bytes w (from_be_bytes w (take n left.rest)) ≡ take n left.rest =
    wide.back (take n left.rest) (omega (arith, length-take n left.rest)) (IsBytes-take n left.rest fits) in
    subst (λ (x : ℕ × Left). Takes left (to_be_bytes w x.0) x.1 × (x.0 < limit)) g.1 (
      record {
        parts = sym (ap (λ (t : List ℕ). t ++ drop n left.rest) front ∙ take-append-drop n left.rest);
        same_end = refl;
        bytes = IsBytes-drop n left.rest fits;
      },
      wide.below (take n left.rest) (IsBytes-take n left.rest fits),
    )

number_again : (w : Width) (limit : ℕ) → IsWide w limit → (end n : ℕ) (rest : List ℕ) → n < limit
    → (number w).read (record { end = end; rest = to_be_bytes w n ++ rest }) ≡ Ok (n, record { end = end; rest = rest })
number_again w limit wide end n rest lt =
    let len = wide.len n in
    let long : ltb (length (to_be_bytes w n ++ rest)) (byte_len w) ≡ false =
    le-ltb _ _ (omega (arith, length-append (to_be_bytes w n) rest)) in
    rw (
      long,
      take_at (to_be_bytes w n) rest (byte_len w) len,
      drop_at (to_be_bytes w n) rest (byte_len w) len,
      wide.again n lt,
    ) refl

pub number_exact : (w : Width) (limit : ℕ) → IsWide w limit → IsExact (number w) (λ n. n < limit)
number_exact w limit wide = record { takes = number_takes w limit wide; again = number_again w limit wide }

-- ---- texts

sized_takes : (w : Width) (limit : ℕ) → IsWide w limit → (left : Left) (x : List ℕ × Left) → IsBytes left.rest
    → (sized w).read left ≡ Ok x
    → Takes left ((sized w).spelled x.0) x.1 × (length x.0 < limit)
sized_takes w limit wide left x fits e =
    let b = bind_ok ((number w).read left)
    (λ count. cond (ltb (length count.1.rest) count.0) (wrong left)
    (Ok (take count.0 count.1.rest, behind count.0 count.1))) x e in
    let n = b.0.0 in
    let next = b.0.1 in
    let t = number_takes w limit wide left b.0 fits b.1 in
    let read : List ℕ × Left = (take n next.rest, behind n next) in
    let g = guard_ok (ltb (length next.rest) n) (BadField (place left)) read x b.2 in
    let long : n ≤ length next.rest = ltb-false _ _ g.0 in
    let len : length (take n next.rest) ≡ n = omega (arith, length-take n next.rest) in
    let second : Takes next (take n next.rest) (behind n next) = record {
      parts = sym (take-append-drop n next.rest);
      same_end = refl;
      bytes = IsBytes-drop n next.rest t.0.bytes;
    } in
    let both = Takes-then left (to_be_bytes w n) next (take n next.rest) (behind n next) t.0 second in
    let whole : Takes left ((sized w).spelled (take n next.rest)) (behind n next) =
    subst (λ (k : ℕ). Takes left (to_be_bytes w k ++ take n next.rest) (behind n next)) (sym len) both in
    subst (λ (x : List ℕ × Left). Takes left ((sized w).spelled x.0) x.1 × (length x.0 < limit)) g.1
    (whole, subst (λ (k : ℕ). k < limit) (sym len) t.1)

sized_again : (w : Width) (limit : ℕ) → IsWide w limit → (end : ℕ) (bytes rest : List ℕ) → length bytes < limit
    → (sized w).read (record { end = end; rest = (sized w).spelled bytes ++ rest })
    ≡ Ok (bytes, record { end = end; rest = rest })
sized_again w limit wide end bytes rest lt =
    let regrouped : (sized w).spelled bytes ++ rest ≡ to_be_bytes w (length bytes) ++ (bytes ++ rest) =
    append_assoc (to_be_bytes w (length bytes)) bytes rest in
    let long : ltb (length (bytes ++ rest)) (length bytes) ≡ false =
    le-ltb _ _ (omega (arith, length-append bytes rest)) in
    ap (λ (r : List ℕ). (sized w).read (record { end = end; rest = r })) regrouped
    ∙ rw (
      number_again w limit wide end (length bytes) (bytes ++ rest) lt,
      long,
      take_at bytes rest (length bytes) refl,
      drop_at bytes rest (length bytes) refl,
    ) refl

pub sized_exact : (w : Width) (limit : ℕ) → IsWide w limit → IsExact (sized w) (λ bytes. length bytes < limit)
sized_exact w limit wide = record { takes = sized_takes w limit wide; again = sized_again w limit wide }

pub text_exact : IsExact text (λ bytes. length bytes < 2 ^ 16)
text_exact = sized_exact w16 (2 ^ 16) wide16

-- ---- fields made of others

module _ {X : Type 0} (passes : X → Bool) (format : Format X) {Right : X → Type 0} (exact : IsExact format Right) where
  abbrev Passes : X → Type 0
  Passes x = Right x × (passes x ≡ true)

  tested_takes : (left : Left) (x : X × Left) → IsBytes left.rest → (tested passes format).read left ≡ Ok x
      → Takes left (format.spelled x.0) x.1 × Passes x.0
  tested_takes left x fits e =
      let b = bind_ok (format.read left) (λ x. cond (passes x.0) (Ok x) (wrong left)) x e in
      let g = pass_ok (passes b.0.0) (BadField (place left)) b.0 x b.2 in
      let t = exact.takes left b.0 fits b.1 in
      subst (λ (x : X × Left). Takes left (format.spelled x.0) x.1 × Passes x.0) g.1 (t.0, (t.1, g.0))

  tested_again : (end : ℕ) (x : X) (rest : List ℕ) → Passes x
      → (tested passes format).read (record { end = end; rest = format.spelled x ++ rest })
      ≡ Ok (x, record { end = end; rest = rest })
  tested_again end x rest right = rw (exact.again end x rest right.0, right.1) refl

  pub tested_exact : IsExact (tested passes format) (λ x. Right x × (passes x ≡ true))
  tested_exact = record { takes = tested_takes; again = tested_again }

module _ {X Y : Type 0} (of : X → Y) (plain : Y → X) (format : Format X) {Right : X → Type 0}
    (exact : IsExact format Right)
    {Good : Y → Type 0} (there : (x : X) → Right x → (plain (of x) ≡ x) × Good (of x))
    (back : (y : Y) → Good y → Right (plain y) × (of (plain y) ≡ y)) where
  seen_takes : (left : Left) (y : Y × Left) → IsBytes left.rest → (seen of plain format).read left ≡ Ok y
      → Takes left (format.spelled (plain y.0)) y.1 × Good y.0
  seen_takes left y fits e =
      let b = bind_ok (format.read left) (λ x. Ok (of x.0, x.1)) y e in
      let t = exact.takes left b.0 fits b.1 in
      let good = there b.0.0 t.1 in
      let taken : Takes left (format.spelled (plain (of b.0.0))) b.0.1 =
      subst (λ (x : X). Takes left (format.spelled x) b.0.1) (sym good.0) t.0 in
      let read : Y × Left = (of b.0.0, b.0.1) in
      subst (λ (y : Y × Left). Takes left (format.spelled (plain y.0)) y.1 × Good y.0) (ok_is read y b.2)
      (taken, good.1)

  seen_again : (end : ℕ) (y : Y) (rest : List ℕ) → Good y
      → (seen of plain format).read (record { end = end; rest = format.spelled (plain y) ++ rest })
      ≡ Ok (y, record { end = end; rest = rest })
  seen_again end y rest good =
      let right = back y good in
      let read : (seen of plain format).read (record { end = end; rest = format.spelled (plain y) ++ rest })
      ≡ Ok (of (plain y), record { end = end; rest = rest }) = rw (exact.again end (plain y) rest right.0) refl in
      read ∙ ap (λ (y : Y). Ok (y, record { end = end; rest = rest })) right.1

  pub seen_exact : IsExact (seen of plain format) Good
  seen_exact = record { takes = seen_takes; again = seen_again }

module _ {X Y : Type 0} (first : Format X) (second : X → Format Y) {P : X → Type 0} {Q : X → Y → Type 0}
    (exact : IsExact first P) (exact_then : (x : X) → P x → IsExact (second x) (Q x)) where
  leading_takes : (left : Left) (x : (X × Y) × Left) → IsBytes left.rest → (leading first second).read left ≡ Ok x
      → Takes left ((leading first second).spelled x.0) x.1 × (P x.0.0 × Q x.0.0 x.0.1)
  leading_takes left x fits e =
      let a = bind_ok (first.read left) (λ x. (second x.0).read x.1 >>= λ y. Ok ((x.0, y.0), y.1)) x e in
      let b = bind_ok ((second a.0.0).read a.0.1) (λ y. Ok ((a.0.0, y.0), y.1)) x a.2 in
      let s = exact.takes left a.0 fits a.1 in
      let t = (exact_then a.0.0 s.1).takes a.0.1 b.0 s.0.bytes b.1 in
      let both = Takes-then left (first.spelled a.0.0) a.0.1 ((second a.0.0).spelled b.0.0) b.0.1 s.0 t.0 in
      let read : (X × Y) × Left = ((a.0.0, b.0.0), b.0.1) in
      subst (λ (x : (X × Y) × Left). Takes left ((leading first second).spelled x.0) x.1 × (P x.0.0 × Q x.0.0 x.0.1))
      (ok_is read x b.2)
      (both, (s.1, t.1))

  leading_again : (end : ℕ) (x : X × Y) (rest : List ℕ) → P x.0 × Q x.0 x.1
      → (leading first second).read (record { end = end; rest = (leading first second).spelled x ++ rest })
      ≡ Ok (x, record { end = end; rest = rest })
  leading_again end x rest right =
      let regrouped : (leading first second).spelled x ++ rest ≡ first.spelled x.0
      ++ ((second x.0).spelled x.1 ++ rest) =
      append_assoc (first.spelled x.0) ((second x.0).spelled x.1) rest in
      ap (λ (r : List ℕ). (leading first second).read (record { end = end; rest = r })) regrouped
      ∙ rw (
        exact.again end x.0 ((second x.0).spelled x.1 ++ rest) right.0,
        (exact_then x.0 right.0).again end x.1 rest right.1,
      ) refl

  pub leading_exact : IsExact (leading first second) (λ x. P x.0 × Q x.0 x.1)
  leading_exact = record { takes = leading_takes; again = leading_again }

pub pair_exact : {X Y : Type 0} (first : Format X) (second : Format Y) {P : X → Type 0} {Q : Y → Type 0}
    → IsExact first P → IsExact second Q → IsExact (first ⊗ second) (λ x. P x.0 × Q x.1)
pair_exact first second {P} {Q} p q = leading_exact first (λ x. second) {P = P} {Q = λ x y. Q y} p (λ x right. q)

pub nothing_exact : IsExact nothing (λ x. Unit {0})
nothing_exact = record {
  takes = λ left x fits e. subst (λ (y : Unit {0} × Left). Takes left [] y.1 × Unit {0}) (ok_is (tt, left) x e)
      (record { parts = refl; same_end = refl; bytes = fits }, tt);
  again = λ end x rest right. refl;
}

bit_there : (n : ℕ) → (n < 256) × (ltb n 2 ≡ true) → ((cond (eqb n 1) 1 0) ≡ n) × Unit {0}
bit_there zero right = (refl, tt)
bit_there (suc zero) right = (refl, tt)
bit_there (suc (suc n)) right = absurd (omega (arith, ltb-true _ _ right.1))

bit_back : (b : Bool) → Unit {0} → ((cond b 1 0 < 256) × (ltb (cond b 1 0) 2 ≡ true)) × (eqb (cond b 1 0) 1 ≡ b)
bit_back true right = ((omega arith, refl), refl)
bit_back false right = ((omega arith, refl), refl)

pub flag_exact : IsExact flag (λ b. Unit {0})
flag_exact = seen_exact (λ n. eqb n 1) (λ b. cond b 1 0) (tested (λ n. ltb n 2) (number w8))
    (tested_exact (λ n. ltb n 2) (number w8) (number_exact w8 256 wide8)) {Good = λ b. Unit {0}} bit_there bit_back

-- ---- the one form or the other

abbrev pub OneOf : {X Y : Type 0} → (X → Type 0) → (Y → Type 0) → X ⊎ Y → Type 0
OneOf P Q (inl x) = P x
OneOf P Q (inr y) = Q y

module _ {X Y : Type 0} (one : Format X) (other : Format Y) {P : X → Type 0} {Q : Y → Type 0} (exact : IsExact one P)
    (exact_other : IsExact other Q) where
  branch_takes : (sign : Bool) (left : Left) (x : (X ⊎ Y) × Left) → IsBytes left.rest
      → behind_flag one other sign left ≡ Ok x
      → (rest : List ℕ) × (flagged one other x.0 ≡ flag.spelled sign ++ rest) × Takes left rest x.1 × OneOf P Q x.0
  branch_takes true left x fits e =
      let a = bind_ok (one.read left) (λ x. Ok (inl x.0, x.1)) x e in
      let t = exact.takes left a.0 fits a.1 in
      let read : (X ⊎ Y) × Left = (inl a.0.0, a.0.1) in
      subst (λ (x : (X ⊎ Y) × Left). (rest : List ℕ) × (flagged one other x.0 ≡ flag.spelled true ++ rest)
      × Takes left rest x.1 × OneOf P Q x.0)
      (ok_is read x a.2) (one.spelled a.0.0, refl, t.0, t.1)
  branch_takes false left x fits e =
      let a = bind_ok (other.read left) (λ x. Ok (inr x.0, x.1)) x e in
      let t = exact_other.takes left a.0 fits a.1 in
      let read : (X ⊎ Y) × Left = (inr a.0.0, a.0.1) in
      subst (λ (x : (X ⊎ Y) × Left). (rest : List ℕ) × (flagged one other x.0 ≡ flag.spelled false ++ rest)
      × Takes left rest x.1 × OneOf P Q x.0)
      (ok_is read x a.2) (other.spelled a.0.0, refl, t.0, t.1)

  either_takes : (left : Left) (x : (X ⊎ Y) × Left) → IsBytes left.rest → (either one other).read left ≡ Ok x
      → Takes left (flagged one other x.0) x.1 × OneOf P Q x.0
  either_takes left x fits e =
      let a = bind_ok (flag.read left) (λ sign. behind_flag one other sign.0 sign.1) x e in
      let s = flag_exact.takes left a.0 fits a.1 in
      let t = branch_takes a.0.0 a.0.1 x s.0.bytes a.2 in
      let both = Takes-then left (flag.spelled a.0.0) a.0.1 t.0 x.1 s.0 t.2 in
      (subst (λ (bytes : List ℕ). Takes left bytes x.1) (sym t.1) both, t.3)

  either_again : (end : ℕ) (x : X ⊎ Y) (rest : List ℕ) → OneOf P Q x
      → (either one other).read (record { end = end; rest = flagged one other x ++ rest })
      ≡ Ok (x, record { end = end; rest = rest })
  either_again end (inl x) rest right =
      rw (flag_exact.again end true (one.spelled x ++ rest) tt, exact.again end x rest right) refl
  either_again end (inr y) rest right =
      rw (flag_exact.again end false (other.spelled y ++ rest) tt, exact_other.again end y rest right) refl

  pub either_exact : IsExact (either one other) (OneOf P Q)
  either_exact = record { takes = either_takes; again = either_again }

-- ---- so many of one form

module _ {X : Type 0} (format : Format X) {P : X → Type 0} (exact : IsExact format P) where
  each_takes : (count : ℕ) (left : Left) (x : List X × Left) → IsBytes left.rest → each format count left ≡ Ok x
      → Takes left (flat_map format.spelled x.0) x.1 × (length x.0 ≡ count) × AllByRecursion P x.0
  unfolding each
  each_takes zero left x fits e =
      subst (λ (x : List X × Left). Takes left (flat_map format.spelled x.0) x.1 × (length x.0 ≡ 0)
      × AllByRecursion P x.0)
      (ok_is ([], left) x e) (record { parts = refl; same_end = refl; bytes = fits }, refl, tt)
  each_takes (suc count) left x fits e =
      let a =
      bind_ok (format.read left) (λ first. each format count first.1 >>= λ others. Ok (first.0 ∷ others.0, others.1)) x
      e in
      let b = bind_ok (each format count a.0.1) (λ others. Ok (a.0.0 ∷ others.0, others.1)) x a.2 in
      let s = exact.takes left a.0 fits a.1 in
      let t = each_takes count a.0.1 b.0 s.0.bytes b.1 in
      let both = Takes-then left (format.spelled a.0.0) a.0.1 (flat_map format.spelled b.0.0) b.0.1 s.0 t.0 in
      let read : List X × Left = (a.0.0 ∷ b.0.0, b.0.1) in
      subst (λ (x : List X × Left). Takes left (flat_map format.spelled x.0) x.1 × (length x.0 ≡ suc count)
      × AllByRecursion P x.0)
      (ok_is read x b.2) (rw flat_map-cons both, ap suc t.1, (s.1, t.2))

  each_again : (end : ℕ) (xs : List X) (rest : List ℕ) → AllByRecursion P xs
      → each format (length xs) (record { end = end; rest = flat_map format.spelled xs ++ rest })
      ≡ Ok (xs, record { end = end; rest = rest })
  unfolding each
  each_again end [] rest right = refl
  each_again end (x ∷ xs) rest right =
      let regrouped : flat_map format.spelled (x ∷ xs) ++ rest ≡ format.spelled x
      ++ (flat_map format.spelled xs ++ rest) =
      ap (λ (t : List ℕ). t ++ rest) (flat_map-cons format.spelled x xs)
      ∙ append_assoc (format.spelled x) (flat_map format.spelled xs) rest in
      ap (λ (r : List ℕ). each format (suc (length xs)) (record { end = end; rest = r })) regrouped
      ∙ rw (exact.again end x (flat_map format.spelled xs ++ rest) right.0, each_again end xs rest right.1) refl

  abbrev pub FewOf : List X → Type 0
  FewOf xs = (length xs < 2 ^ 32) × AllByRecursion P xs

  counted_takes : (left : Left) (x : List X × Left) → IsBytes left.rest → (counted format).read left ≡ Ok x
      → Takes left ((counted format).spelled x.0) x.1 × FewOf x.0
  counted_takes left x fits e =
      let a = bind_ok ((number w32).read left) (λ count. each format count.0 count.1) x e in
      let s = (number_exact w32 (2 ^ 32) wide32).takes left a.0 fits a.1 in
      let t = each_takes a.0.0 a.0.1 x s.0.bytes a.2 in
      let both = Takes-then left (to_be_bytes w32 a.0.0) a.0.1 (flat_map format.spelled x.0) x.1 s.0 t.0 in (
        subst (λ (n : ℕ). Takes left (to_be_bytes w32 n ++ flat_map format.spelled x.0) x.1) (sym t.1) both,
        (subst (λ (n : ℕ). n < 2 ^ 32) (sym t.1) s.1, t.2),
      )

  counted_again : (end : ℕ) (xs : List X) (rest : List ℕ) → FewOf xs
      → (counted format).read (record { end = end; rest = (counted format).spelled xs ++ rest })
      ≡ Ok (xs, record { end = end; rest = rest })
  counted_again end xs rest right =
      let regrouped : (counted format).spelled xs ++ rest ≡ to_be_bytes w32 (length xs)
      ++ (flat_map format.spelled xs ++ rest) =
      append_assoc (to_be_bytes w32 (length xs)) (flat_map format.spelled xs) rest in
      ap (λ (r : List ℕ). (counted format).read (record { end = end; rest = r })) regrouped
      ∙ rw ((number_exact w32 (2 ^ 32) wide32).again end (length xs) (flat_map format.spelled xs ++ rest) right.0)
      (each_again end xs rest right.1)

  pub counted_exact : IsExact (counted format) (λ xs. (length xs < 2 ^ 32) × AllByRecursion P xs)
  counted_exact = record { takes = counted_takes; again = counted_again }
