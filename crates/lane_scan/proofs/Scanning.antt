-- Rows gone over from a place on: what was found, and then what is found in the rows that are left, is what is found in
-- all of them.
use Rattle.std.proofs.Common.{◌≡◌, ℕ, suc, ◌+◌, ◌<◌, ◌≤◌, Bool, true, false, if◌then◌else◌, List, [], ◌∷◌, ◌++◌, map, length, take, drop, get_or, sym, ap, ◌∙◌, arith, append_assoc, append-nil, drop-cons}
use Rattle.std.proofs.lemmas.Simd.{chunk-drop, length-chunk}
use Rattle.std.proofs.lemmas.List.{drop_all, length-map}
use Rattle.std.specs.Simd.Lanes.{mask_l}
use Rattle.lane_scan.specs.Rows.{Row, numbers_from}
use Rattle.lane_scan.specs.parts.Found.{IsLonger, HasMarked}
use Rattle.lane_scan.proofs.Numbers.{numbers-append, numbers-map}

pub record IsScanned (test : Row → Bool) (rows : List Row) (from at : ℕ) (old now : List ℕ) : Type 0 where
  pub longer : IsLonger old now
  pub joins : now ++ numbers_from at test (drop at rows) ≡ old ++ numbers_from from test (drop from rows)

pub longer-more : {old now : List ℕ} (more : List ℕ) → IsLonger old now → IsLonger old (now ++ more)
longer-more {old} {now} more longer = record {
  more = longer.more ++ more;
  is = ap (λ l. l ++ more) longer.is ∙ append_assoc old longer.more more;
}

pub longer-then : {old now later : List ℕ} → IsLonger old now → IsLonger now later → IsLonger old later
longer-then {old} {now} {later} first second = record {
  more = first.more ++ second.more;
  is = second.is ∙ ap (λ l. l ++ second.more) first.is ∙ append_assoc old first.more second.more;
}

module _ {test : Row → Bool} {rows : List Row} {from at : ℕ} {old now : List ℕ} (h : IsScanned test rows from at old now) where
  next_row : (row : Row) → at < length rows
      → numbers_from at test (drop at rows)
      ≡ (if test (get_or rows at row) then at ∷ numbers_from (at + 1) test (drop (at + 1) rows) else numbers_from (at + 1) test (drop (at + 1) rows))
  next_row row within =
      ap (numbers_from at test) (drop-cons rows at row within)
      ∙ ap (λ n. if test (get_or rows at row) then at ∷ numbers_from (at + 1) test (drop n rows) else numbers_from (at + 1) test (drop n rows))
      (let e : suc at ≡ at + 1 = omega arith in e)

  pub scanned-row : (row : Row) → at < length rows → test (get_or rows at row) ≡ true
      → IsScanned test rows from (at + 1) old (now ++ at ∷ [])
  scanned-row row within passes = record {
    longer = longer-more (at ∷ []) h.longer;
    joins =
        append_assoc now (at ∷ []) (numbers_from (at + 1) test (drop (at + 1) rows))
        ∙ ap (λ l. now ++ l)
        (sym (next_row row within
        ∙ ap (λ b. if b then at ∷ numbers_from (at + 1) test (drop (at + 1) rows) else numbers_from (at + 1) test (drop (at + 1) rows)) passes))
        ∙ h.joins;
  }

  pub scanned-other : (row : Row) → at < length rows → test (get_or rows at row) ≡ false → IsScanned test rows from (at + 1) old now
  scanned-other row within fails = record {
    longer = h.longer;
    joins =
        ap (λ l. now ++ l)
        (sym (next_row row within
        ∙ ap (λ b. if b then at ∷ numbers_from (at + 1) test (drop (at + 1) rows) else numbers_from (at + 1) test (drop (at + 1) rows)) fails))
        ∙ h.joins;
  }

  -- a whole chunk of n rows
  pub scanned-chunk : (n marks : ℕ) (new : List ℕ) → at + n ≤ length rows → n ≤ 64
      → marks ≡ mask_l (map test (take n (drop at rows))) → HasMarked marks at now new
      → IsScanned test rows from (at + n) old new
  scanned-chunk n marks new within small is found =
      let chunk = take n (drop at rows) in
      let long : length chunk ≡ n = length-chunk at n rows within in
      let new_is : new ≡ now ++ numbers_from at test chunk =
      found (map test chunk) is (omega (arith, length-map chunk test, long, small)) ∙ ap (λ l. now ++ l) (numbers-map test at chunk) in
      let rest = numbers_from (at + n) test (drop (at + n) rows) in
      record {
        longer = longer-then h.longer (record { more = numbers_from at test chunk; is = new_is });
        joins =
            ap (λ l. l ++ rest) new_is
            ∙ append_assoc now (numbers_from at test chunk) rest
            ∙ ap (λ l. now ++ l)
            (sym (ap (numbers_from at test) (chunk-drop at n rows)
            ∙ numbers-append test at chunk (drop (at + n) rows)
            ∙ ap (λ k. numbers_from at test chunk ++ numbers_from (at + k) test (drop (at + n) rows)) long))
            ∙ h.joins;
      }

  pub scanned-end : length rows ≤ at → now ≡ old ++ numbers_from from test (drop from rows)
  scanned-end past =
      sym (append-nil now) ∙ ap (λ l. now ++ numbers_from at test l) (sym (drop_all at rows past)) ∙ h.joins
