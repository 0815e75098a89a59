-- The rows of columns.
use Rattle.std.proofs.Common.{◌≡◌, ℕ, zero, suc, ◌<◌, List, [], ◌∷◌, ◌++◌, length, take, drop, map, bit_and, get_or, refl, sym, ap, ◌∙◌, arith, length-take, length-drop, length-append}
use Rattle.std.proofs.lemmas.List.{get_or_default}
use Rattle.std.specs.Simd.Lanes.{mask_l}
use Rattle.lane_scan.specs.Rows.{Row}
use Rattle.lane_scan.specs.parts.Columns.{rows_of, AreColumns}
use Rattle.lane_scan.specs.parts.Tests.{passes, meets}
use Rattle.lane_scan.specs.declared.tests_of_rows.RowTest.{RowTest}
use Rattle.lane_scan.proofs.Masks.{mask-rows}

pub length-rows : (xs ys zs : List ℕ) → length ys ≡ length xs → length zs ≡ length xs → length (rows_of xs ys zs) ≡ length xs
length-rows [] ys zs e f = refl
length-rows (x ∷ xs) [] zs e f = absurd (omega arith)
length-rows (x ∷ xs) (y ∷ ys) [] e f = absurd (omega arith)
length-rows (x ∷ xs) (y ∷ ys) (z ∷ zs) e f = ap suc (length-rows xs ys zs (omega arith) (omega arith))

pub rows-push : (xs ys zs : List ℕ) (x y z : ℕ) → length ys ≡ length xs → length zs ≡ length xs
    → rows_of (xs ++ x ∷ []) (ys ++ y ∷ []) (zs ++ z ∷ []) ≡ rows_of xs ys zs ++ record { client = x; user = y; privilege = z } ∷ []
rows-push [] [] [] a b c e f = refl
rows-push [] (y ∷ ys) zs a b c e f = absurd (omega arith)
rows-push [] [] (z ∷ zs) a b c e f = absurd (omega arith)
rows-push (x ∷ xs) [] zs a b c e f = absurd (omega arith)
rows-push (x ∷ xs) (y ∷ ys) [] a b c e f = absurd (omega arith)
rows-push (x ∷ xs) (y ∷ ys) (z ∷ zs) a b c e f =
    ap (λ rows. record { client = x; user = y; privilege = z } ∷ rows) (rows-push xs ys zs a b c (omega arith) (omega arith))

pub rows-drop : (n : ℕ) (xs ys zs : List ℕ) → length ys ≡ length xs → length zs ≡ length xs
    → drop n (rows_of xs ys zs) ≡ rows_of (drop n xs) (drop n ys) (drop n zs)
rows-drop zero xs ys zs e f = refl
rows-drop (suc n) [] ys zs e f = refl
rows-drop (suc n) (x ∷ xs) [] zs e f = absurd (omega arith)
rows-drop (suc n) (x ∷ xs) (y ∷ ys) [] e f = absurd (omega arith)
rows-drop (suc n) (x ∷ xs) (y ∷ ys) (z ∷ zs) e f = rows-drop n xs ys zs (omega arith) (omega arith)

pub rows-take : (n : ℕ) (xs ys zs : List ℕ) → length ys ≡ length xs → length zs ≡ length xs
    → take n (rows_of xs ys zs) ≡ rows_of (take n xs) (take n ys) (take n zs)
rows-take zero xs ys zs e f = refl
rows-take (suc n) [] ys zs e f = refl
rows-take (suc n) (x ∷ xs) [] zs e f = absurd (omega arith)
rows-take (suc n) (x ∷ xs) (y ∷ ys) [] e f = absurd (omega arith)
rows-take (suc n) (x ∷ xs) (y ∷ ys) (z ∷ zs) e f =
    ap (λ rows. record { client = x; user = y; privilege = z } ∷ rows) (rows-take n xs ys zs (omega arith) (omega arith))

-- a row's numbers stand at its place in the columns
pub rows-at : (n : ℕ) (xs ys zs : List ℕ) (row : Row) → length ys ≡ length xs → length zs ≡ length xs → n < length xs
    → get_or (rows_of xs ys zs) n row ≡ record { client = get_or xs n 0; user = get_or ys n 0; privilege = get_or zs n 0 }
rows-at n [] ys zs row e f within = absurd (omega arith)
rows-at n (x ∷ xs) [] zs row e f within = absurd (omega arith)
rows-at n (x ∷ xs) (y ∷ ys) [] row e f within = absurd (omega arith)
rows-at zero (x ∷ xs) (y ∷ ys) (z ∷ zs) row e f within = refl
rows-at (suc n) (x ∷ xs) (y ∷ ys) (z ∷ zs) row e f within = rows-at n xs ys zs row (omega arith) (omega arith) (omega arith)

-- the columns of a list of rows are as long as the list
pub columns-long : {xs ys zs : List ℕ} {rows : List Row} → AreColumns xs ys zs → rows_of xs ys zs ≡ rows
    → (length xs ≡ length rows) × (length ys ≡ length rows) × (length zs ≡ length rows)
columns-long {xs} {ys} {zs} {rows} columns is =
    let long : length rows ≡ length xs = ap length (sym is) ∙ length-rows xs ys zs columns.as_many_users columns.as_many_privileges in
    (sym long, columns.as_many_users ∙ sym long, columns.as_many_privileges ∙ sym long)

-- a row of a list, by its columns
pub columns-at : {xs ys zs : List ℕ} {rows : List Row} (n : ℕ) (row : Row) → AreColumns xs ys zs → rows_of xs ys zs ≡ rows
    → n < length rows
    → get_or rows n row ≡ record { client = get_or xs n 0; user = get_or ys n 0; privilege = get_or zs n 0 }
columns-at {xs} {ys} {zs} {rows} n row columns is within =
    ap (λ l. get_or l n row) (sym is)
    ∙ rows-at n xs ys zs row columns.as_many_users columns.as_many_privileges (omega (arith, (columns-long columns is).0))

-- the tests of a part of the columns, each of its own, as one test of the rows there
pub columns-masks : {xs ys zs : List ℕ} {rows : List Row} (at n : ℕ) (test : RowTest) → AreColumns xs ys zs → rows_of xs ys zs ≡ rows
    → bit_and (mask_l (map (passes test.client) (take n (drop at xs))))
    (bit_and (mask_l (map (passes test.user) (take n (drop at ys)))) (mask_l (map (passes test.privilege) (take n (drop at zs)))))
    ≡ mask_l (map (meets test) (take n (drop at rows)))
columns-masks {xs} {ys} {zs} {rows} at n test columns is =
    let e = columns.as_many_users in
    let f = columns.as_many_privileges in
    let e1 : length (drop at ys) ≡ length (drop at xs) = omega (arith, length-drop at xs, length-drop at ys, e) in
    let f1 : length (drop at zs) ≡ length (drop at xs) = omega (arith, length-drop at xs, length-drop at zs, f) in
    let e2 : length (take n (drop at ys)) ≡ length (take n (drop at xs)) = omega (arith, length-take n (drop at xs), length-take n (drop at ys), e1) in
    let f2 : length (take n (drop at zs)) ≡ length (take n (drop at xs)) = omega (arith, length-take n (drop at xs), length-take n (drop at zs), f1) in
    mask-rows (passes test.client) (passes test.user) (passes test.privilege) (take n (drop at xs)) (take n (drop at ys)) (take n (drop at zs)) e2 f2
    ∙ ap (λ l. mask_l (map (meets test) l))
    (sym (rows-take n (drop at xs) (drop at ys) (drop at zs) e1 f1) ∙ ap (take n) (sym (rows-drop at xs ys zs e f)) ∙ ap (λ l. take n (drop at l)) is)

known_at : (xs : List ℕ) (n x : ℕ) → n < length xs → x ≡ get_or xs n x → x ≡ get_or xs n 0
known_at xs n x within is = is ∙ get_or_default xs n x 0 within

-- a row that was read number by number
pub row-is : {xs ys zs : List ℕ} {rows : List Row} {x y z : ℕ} (n : ℕ) (row : Row) → AreColumns xs ys zs → rows_of xs ys zs ≡ rows
    → n < length rows → x ≡ get_or xs n x → y ≡ get_or ys n y → z ≡ get_or zs n z
    → ◌≡◌ {A = Row} (record { client = x; user = y; privilege = z }) (get_or rows n row)
row-is {xs} {ys} {zs} {rows} {x} {y} {z} n row columns is within px py pz =
    let long = columns-long columns is in
    let ex = known_at xs n x (omega (arith, long.0)) px in
    let ey = known_at ys n y (omega (arith, long.1)) py in
    let ez = known_at zs n z (omega (arith, long.2)) pz in
    (λ i. record { client = ex i; user = ey i; privilege = ez i }) ∙ sym (columns-at n row columns is within)

module _ {xs ys zs : List ℕ} {rows : List Row} (columns : AreColumns xs ys zs) (is : rows_of xs ys zs ≡ rows) where
  pub columns-pushed : (x y z : ℕ) → length rows < 65536 → AreColumns (xs ++ x ∷ []) (ys ++ y ∷ []) (zs ++ z ∷ [])
  columns-pushed x y z room =
      let long = columns-long columns is in
      let cut = length-append xs (x ∷ []) in
      record {
        as_many_users = omega (arith, cut, length-append ys (y ∷ []), columns.as_many_users);
        as_many_privileges = omega (arith, cut, length-append zs (z ∷ []), columns.as_many_privileges);
        bound = omega (arith, cut, long.0, room);
      }

  pub rows-pushed : (x y z : ℕ)
      → rows_of (xs ++ x ∷ []) (ys ++ y ∷ []) (zs ++ z ∷ []) ≡ rows ++ record { client = x; user = y; privilege = z } ∷ []
  rows-pushed x y z =
      rows-push xs ys zs x y z columns.as_many_users columns.as_many_privileges
      ∙ ap (λ l. l ++ record { client = x; user = y; privilege = z } ∷ []) is
