-- The lines of `buckets`, written and read.
use Rattle.std.proofs.Common.{◌≡◌, ℕ, ◌+◌, ◌≤◌, true, false, not, cond, ◌&&◌, ◌||◌, ◌==◌, ltb, List, [], ◌∷◌, ◌++◌}
use Rattle.std.proofs.Common.{length, Some, None, Ok, refl, sym, ap, subst, ◌∙◌, arith, length-append}
use Rattle.std.specs.declared.cmp.Ordering.TheVariants.{Less}
use Rattle.std.specs.Option.{option_map}
use Rattle.std.specs.List.{AllByRecursion, list_any}
use Rattle.std.specs.List.Sorted.{IsStrictlySortedBy}
use Rattle.std.specs.Cmp.{IsTotalOrder}
use Rattle.std.proofs.lemmas.Bool.{true≢false, ne_eqb, eqb-true}
use Rattle.std.proofs.lemmas.Cmp.{on_total}
use Rattle.cynara_keys.specs.Text.{same_text, text_cmp}
use Rattle.cynara_keys.specs.BucketName.{is_bucket_name}
use Rattle.cynara_keys.specs.PolicyResult.{Ruling}
use Rattle.cynara_keys.proofs.Order.{text_total}
use Rattle.bucket_store.specs.Database.{Database, Heading, root}
use Rattle.bucket_store.specs.Order.{heading_cmp}
use Rattle.bucket_store.specs.Refusal.{is_bad, most_buckets}
use Rattle.bucket_store.specs.WellFormed.{IsWellFormed}
use Rattle.bucket_store.proofs.Lists.{All-weaker}
use Rattle.text_lines.specs.Lines.{HasNoNewline}
use Rattle.set_text.specs.Lines.{joined, fields_of, values_of, at_least_one, rises_above}
use Rattle.set_text.specs.Buckets.{ruling_of, heading_line, buckets_text, heading_of_fields, heading_of}
use Rattle.set_text.specs.Buckets.{is_root_or_later, heading_fits, read_heading, headings_of}
use Rattle.set_text.specs.IsSpelt.{IsHeading}
use Rattle.set_text.specs.Numbers.{kind_text}
use Rattle.set_text.proofs.round.Fields.{IsPlain, fields_of-joined, newline-joined, joined-fields_of}
use Rattle.set_text.proofs.round.Plain.{plain-bucket, plain-kind, plain-metadata}
use Rattle.set_text.proofs.round.Results.{some-when, some-made, ruling-read, ruling-spelled}
use Rattle.set_text.proofs.round.Tests.{not-true}
use Rattle.set_text.proofs.round.Values.{AllFit, fit-both, fit-first, fit-second, fit-each, each-fit, rises-fit}
use Rattle.set_text.proofs.round.Values.{fit-rises, few-fit, fit-few, values-read, values-spelled, some-line}

pub heading_total : IsTotalOrder heading_cmp
heading_total = on_total (λ (heading : Heading). heading.name) text_total

abbrev headed : List ℕ → Ruling → Heading
headed name fallback = record { name = name; fallback = fallback }

-- ---- one line

module _ (heading : Heading) (is : IsHeading heading) where
  abbrev others : List (List ℕ)
  others = kind_text heading.fallback.kind ∷ heading.fallback.metadata ∷ []

  others-plain : AllByRecursion IsPlain others
  others-plain = (
    plain-kind heading.fallback.kind (omega (arith, is.fallback.kind)),
    (plain-metadata heading.fallback.metadata is.fallback.metadata, tt),
  )

  pub heading-newline : HasNoNewline (heading_line heading)
  heading-newline = newline-joined heading.name others (plain-bucket heading.name is.name) others-plain

  pub heading-read : heading_of (heading_line heading) ≡ Some heading
  heading-read =
      ap heading_of_fields (fields_of-joined heading.name others (plain-bucket heading.name is.name) others-plain)
      ∙ ap (λ b. cond b (option_map (headed heading.name)
      (ruling_of (kind_text heading.fallback.kind) heading.fallback.metadata)) None) is.name
      ∙ ap (option_map (headed heading.name)) (ruling-read heading.fallback is.fallback)

pub heading-spelled : (line : List ℕ) (heading : Heading) → heading_of line ≡ Some heading
    → (heading_line heading ≡ line) × IsHeading heading
heading-spelled line heading h = by (fields_of line) refl h
  where
    by : (fields : List (List ℕ)) → fields_of line ≡ fields → heading_of_fields fields ≡ Some heading
        → (heading_line heading ≡ line) × IsHeading heading
    by (name ∷ kind ∷ metadata ∷ []) are h =
        let named = some-when (is_bucket_name name) (option_map (headed name) (ruling_of kind metadata)) heading h in
        let made = some-made (headed name) (ruling_of kind metadata) heading named.1 in
        let told = ruling-spelled kind metadata made.0 made.1 in
        subst (λ (heading : Heading). (heading_line heading ≡ line) × IsHeading heading) made.2 (
          (λ i. joined (name ∷ told.same_kind i ∷ told.same_metadata i ∷ []))
              ∙ joined-fields_of line (name ∷ kind ∷ metadata ∷ []) are,
          record { name = named.0; fallback = told.sound },
        )
    by other are h = cc

-- ---- the rules

counted : (before : List Heading) (heading : Heading) → length (before ++ heading ∷ []) ≡ length before + 1
counted before heading = omega (arith, length-append before (heading ∷ []))

not-first : (before : List Heading) (heading next : Heading) → is_root_or_later (before ++ heading ∷ []) next ≡ true
not-first before heading next =
    ap (λ b. not b || length next.name == 0)
    (ne_eqb (length (before ++ heading ∷ [])) 0 (λ none. omega (arith, none, counted before heading)))

later-fit : (before : List Heading) (heading : Heading) (headings : List Heading)
    → AllFit is_root_or_later (before ++ heading ∷ []) headings
later-fit before heading [] = tt
later-fit before heading (next ∷ headings) =
    (not-first before heading next, later-fit (before ++ heading ∷ []) next headings)

none-root : (byte : ℕ) (bytes : List ℕ) (headings : List Heading)
    → AllByRecursion (λ (next : Heading). text_cmp (byte ∷ bytes) next.name ≡ Less) headings
    → list_any (λ (next : Heading). same_text next.name root) headings ≡ false
none-root byte bytes [] all = refl
none-root byte bytes (next ∷ headings) all =
    ap (λ b. b || list_any (λ (next : Heading). same_text next.name root) headings) (other next.name all.0)
    ∙ none-root byte bytes headings all.1
  where
    other : (name : List ℕ) → text_cmp (byte ∷ bytes) name ≡ Less → same_text name root ≡ false
    other [] below = cc
    other (first ∷ name) below = refl

-- the root's name is the least
root-first : (heading : Heading) (headings : List Heading) → IsStrictlySortedBy heading_cmp (heading ∷ headings)
    → list_any (λ (heading : Heading). same_text heading.name root) (heading ∷ headings) ≡ true
    → (length heading.name == 0) ≡ true
unfolding IsStrictlySortedBy
root-first heading headings rise there = by heading.name refl
  where
    by : (name : List ℕ) → heading.name ≡ name → (length name == 0) ≡ true
    by [] is = refl
    by (byte ∷ bytes) is =
        let below : AllByRecursion (λ (next : Heading). text_cmp (byte ∷ bytes) next.name ≡ Less) headings =
        subst (λ (name : List ℕ). AllByRecursion
        (λ (next : Heading). text_cmp name next.name ≡ Less) headings) is rise.0 in
        absurd (true≢false (sym there
        ∙ ap (λ (name : List ℕ). same_text name root || list_any
        (λ (next : Heading). same_text next.name root) headings) is
        ∙ none-root byte bytes headings below))

root-fit : (headings : List Heading) → IsStrictlySortedBy heading_cmp headings
    → list_any (λ (heading : Heading). same_text heading.name root) headings ≡ true
    → AllFit is_root_or_later [] headings
root-fit [] rise there = tt
root-fit (heading ∷ headings) rise there = (root-first heading headings rise there, later-fit [] heading headings)

pub headings-fit : (database : Database) → IsWellFormed database → AllFit heading_fits [] database.buckets
headings-fit database is =
    let headings = database.buckets in
    fit-both (rises_above heading_cmp)
    (λ before heading. is_root_or_later before heading &&
    (not (is_bad heading) && ltb (length before) most_buckets)) [] headings
    (rises-fit heading_cmp headings is.names_rise)
    (fit-both is_root_or_later (λ before heading. not (is_bad heading) && ltb (length before) most_buckets) [] headings
    (root-fit headings is.names_rise is.sound.root)
    (fit-both (λ before heading. not (is_bad heading)) (λ before heading. ltb (length before) most_buckets) [] headings
    (fit-each (λ heading. not (is_bad heading)) [] headings
    (All-weaker (λ (heading : Heading). is_bad heading ≡ false) (λ (heading : Heading). not (is_bad heading) ≡ true)
    (λ heading good. ap not good) headings is.sound.fallbacks))
    (few-fit (λ before. length before) counted most_buckets [] headings (omega (arith, is.sound.buckets)))))

-- ---- the file

headings-some : (headings : List Heading) → AllByRecursion IsHeading headings → AllFit heading_fits [] headings
    → values_of read_heading (buckets_text headings) ≡ Ok headings
headings-some headings all fit =
    values-read heading_fits heading_of heading_line headings
    (All-weaker IsHeading
    (λ heading. HasNoNewline (heading_line heading) × (heading_of (heading_line heading) ≡ Some heading))
    (λ heading is. (heading-newline heading is, heading-read heading is)) headings all) fit

-- the headings of a state are what their lines give
pub headings-read : (headings : List Heading) → AllByRecursion IsHeading headings → AllFit heading_fits [] headings
    → list_any (λ (heading : Heading). same_text heading.name root) headings ≡ true
    → headings_of (buckets_text headings) ≡ Ok headings
headings-read [] all fit there = absurd (true≢false (sym there))
headings-read (heading ∷ headings) all fit there = ap at_least_one (headings-some (heading ∷ headings) all fit)

-- what the lines give has these lines, and keeps the rules
pub record AreHeadings (text : List ℕ) (headings : List Heading) : Type 0 where
  pub same : text ≡ buckets_text headings
  pub all : AllByRecursion IsHeading headings
  pub rise : IsStrictlySortedBy heading_cmp headings
  pub root : list_any (λ (heading : Heading). same_text heading.name root) headings ≡ true
  pub fallbacks : AllByRecursion (λ (heading : Heading). is_bad heading ≡ false) headings
  pub few : length headings ≤ most_buckets

empty-root : (name : List ℕ) → (length name == 0) ≡ true → same_text name root ≡ true
empty-root [] h = refl
empty-root (byte ∷ bytes) h = let none = eqb-true (length (byte ∷ bytes)) 0 h in absurd (omega (arith, none))

first-root : (heading : Heading) (headings : List Heading) → AllFit is_root_or_later [] (heading ∷ headings)
    → list_any (λ (heading : Heading). same_text heading.name root) (heading ∷ headings) ≡ true
first-root heading headings fit =
    ap (λ b. b || list_any (λ (heading : Heading). same_text heading.name root) headings)
    (empty-root heading.name fit.0)

pub headings-spelled : (text : List ℕ) (headings : List Heading) → headings_of text ≡ Ok headings
    → AreHeadings text headings
headings-spelled text headings h =
    let some = some-line (values_of read_heading text) headings h in
    let told = values-spelled heading_fits heading_of heading_line IsHeading heading-spelled text headings some.0 in
    let rules = fit-second (rises_above heading_cmp)
    (λ before heading. is_root_or_later before heading &&
    (not (is_bad heading) && ltb (length before) most_buckets)) [] headings told.fit in
    let good = fit-second is_root_or_later
    (λ before heading. not (is_bad heading) && ltb (length before) most_buckets) [] headings rules in
    let roots = fit-first is_root_or_later
    (λ before heading. not (is_bad heading) && ltb (length before) most_buckets) [] headings rules in
    record {
      same = told.same;
      all = told.all;
      rise = fit-rises heading_cmp heading_total headings (fit-first (rises_above heading_cmp)
          (λ before heading. is_root_or_later before heading &&
          (not (is_bad heading) && ltb (length before) most_buckets)) [] headings told.fit);
      root = subst (λ (list : List Heading). list_any
          (λ (heading : Heading). same_text heading.name root) list ≡ true) (sym some.3)
          (first-root some.1 some.2 (subst (AllFit is_root_or_later []) some.3 roots));
      fallbacks = All-weaker (λ (heading : Heading). not (is_bad heading) ≡ true)
          (λ (heading : Heading). is_bad heading ≡ false)
          (λ heading good. not-true (is_bad heading) good) headings
          (each-fit (λ heading. not (is_bad heading)) [] headings
          (fit-first (λ before heading. not (is_bad heading))
          (λ before heading. ltb (length before) most_buckets) [] headings good));
      few = let most = fit-few (λ before. length before) counted most_buckets [] headings (omega arith)
          (fit-second (λ before heading. not (is_bad heading))
          (λ before heading. ltb (length before) most_buckets) [] headings good) in omega (arith, most);
    }
