-- What stays of the sheets where buckets stay.
use Rattle.std.proofs.Common.{◌≡◌, ℕ, ◌+◌, ◌<◌, Bool, true, false, not, zero, suc, List, [], ◌∷◌, length, slice_get, Option, None, Some}
use Rattle.std.proofs.Common.{refl, sym, ◌∙◌, arith}
use Rattle.std.specs.Cmp.{first_so, second_so}
use Rattle.std.proofs.lemmas.Bool.{eqb-true}
use Rattle.std.proofs.lemmas.Option.{same_Some, slice_get_within}
use Rattle.cynara_keys.specs.Key.{Key}
use Rattle.cynara_keys.specs.PolicyResult.{Ruling, same_result}
use Rattle.cynara_keys.specs.Text.{same_text}
use Rattle.cynara_keys.specs.declared.keys.Policy.{Policy}
use Rattle.cynara_keys.proofs.Order.{same_text-≡}
use Rattle.bucket_store.specs.Bucket.{Bucket}
use Rattle.bucket_eval.specs.declared.sheets.Sheet.{Sheet}
use Rattle.bucket_eval.specs.parts.Sheets.{IsSheetOf, TargetsAt}
use Rattle.bucket_eval.specs.parts.Stays.{AreNamedAlike, Stayed}
use Rattle.bucket_eval.proofs.Tabling.{sheet-moved}

pub same-result : (a b : Ruling) → same_result a b ≡ true → a ≡ b
same-result a b same =
    let kind : a.kind ≡ b.kind = eqb-true a.kind b.kind (first_so _ _ same) in
    let metadata : a.metadata ≡ b.metadata = same_text-≡ a.metadata b.metadata (second_so _ _ same) in
    λ i. record { kind = kind i; metadata = metadata i }

-- what a test for a difference tells
unless : {P : Type 0} (same differs : Bool) → (same ≡ true → P) → differs ≡ not same → differs ≡ false → P
unless true differs holds is off = holds refl
unless false differs holds is off = let both : true ≡ false = sym is ∙ off in cc

pub same-texts : (a b : List ℕ) (differs : Bool) → differs ≡ not (same_text a b) → differs ≡ false → a ≡ b
same-texts a b differs is off = unless (same_text a b) differs (same_text-≡ a b) is off

pub same-results : (a b : Ruling) (differs : Bool) → differs ≡ not (same_result a b) → differs ≡ false → a ≡ b
same-results a b differs is off = unless (same_result a b) differs (same-result a b) is off

pub same-fields : (a b : Key) → a.client ≡ b.client → a.user ≡ b.user → a.privilege ≡ b.privilege → a ≡ b
same-fields a b client user privilege = λ i. record { client = client i; user = user i; privilege = privilege i }

-- ---- lists that are alike place by place

abbrev pub AlikeTo : {X : Type 0} → List X → List X → ℕ → Type 0
AlikeTo {X} xs ys count = (k : ℕ) → k < count → slice_get xs k ≡ slice_get ys k

pub alike-all : {X : Type 0} (xs ys : List X) → length xs ≡ length ys → AlikeTo xs ys (length xs) → xs ≡ ys
alike-all [] [] count alike = refl
alike-all [] (y ∷ ys) count alike = absurd (omega (arith, count))
alike-all (x ∷ xs) [] count alike = absurd (omega (arith, count))
alike-all (x ∷ xs) (y ∷ ys) count alike =
    let head : x ≡ y = same_Some x y (alike 0 (omega arith)) in
    let rest : xs ≡ ys = alike-all xs ys (omega (arith, count)) (λ k less. alike (suc k) (omega (arith, less))) in
    λ i. head i ∷ rest i

-- ---- buckets that are named alike

abbrev pub NamedTo : List Bucket → List Bucket → ℕ → Type 0
NamedTo before buckets count =
    (k : ℕ) (old bucket : Bucket) → k < count → slice_get before k ≡ Some old → slice_get buckets k ≡ Some bucket
    → old.name ≡ bucket.name

pub named-all : (before buckets : List Bucket) → length before ≡ length buckets → NamedTo before buckets (length before)
    → AreNamedAlike before buckets
named-all before buckets count named = record {
  count = count;
  names = λ at old bucket one other. named at old bucket (slice_get_within before at old one) one other;
}

record There (buckets : List Bucket) (at : ℕ) : Type 0 where
  bucket : Bucket
  is : slice_get buckets at ≡ Some bucket

there : (buckets : List Bucket) (at : ℕ) → at < length buckets → There buckets at
there [] at less = absurd (omega (arith, less))
there (b ∷ buckets) zero less = record { bucket = b; is = refl }
there (b ∷ buckets) (suc at) less =
    let rest = there buckets at (omega (arith, less)) in record { bucket = rest.bucket; is = rest.is }

module _ (before buckets : List Bucket) (alike : AreNamedAlike before buckets) where
  targets-alike : (policy : Policy) (at : Option ℕ) → TargetsAt before policy at → TargetsAt buckets policy at
  targets-alike policy None is = is
  targets-alike policy (Some at) is =
      let within = slice_get_within before at is.bucket is.there in
      let count = alike.count in
      let found = there buckets at (omega (arith, within, count)) in
      record {
        points = is.points;
        bucket = found.bucket;
        there = found.is;
        name = sym (alike.names at is.bucket found.bucket is.there found.is) ∙ is.name;
      }

  -- the sheet of a bucket that stayed is still its sheet
  pub sheet-stayed : (names : List (List ℕ)) (old bucket : Bucket) (sheet : Sheet) → Stayed old bucket
      → IsSheetOf names before old sheet → IsSheetOf names buckets bucket sheet
  sheet-stayed names old bucket sheet stayed is =
      sheet-moved before buckets targets-alike names bucket old sheet stayed.policies stayed.fallback is
