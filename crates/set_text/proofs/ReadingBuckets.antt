-- What holds of the buckets that a set of files gives.
use Rattle.std.proofs.Common.{◌≡◌, ℕ, ◌+◌, ◌≤◌, Bool, true, false, not, ◌||◌, ◌==◌, nat_lt, List, [], ◌∷◌, ◌++◌, length}
use Rattle.std.proofs.Common.{map, Result, Ok, Err, refl, sym, ap, ◌∙◌, subst, arith, length-append, append_assoc}
use Rattle.std.proofs.Common.{append-nil}
use Rattle.std.specs.List.{AllByRecursion, list_any}
use Rattle.std.specs.List.Sorted.{IsStrictlySortedBy}
use Rattle.std.proofs.lemmas.Bool.{and_parts, ltb-true, eqb-true}
use Rattle.std.proofs.lemmas.List.{map-append}
use Rattle.std.proofs.lemmas.List.Sums.{sum_by-append}
use Rattle.cynara_keys.specs.Text.{same_text}
use Rattle.cynara_keys.specs.declared.keys.Policy.{Policy}
use Rattle.cynara_keys.proofs.Order.{text_total}
use Rattle.bucket_store.specs.Bucket.{Bucket}
use Rattle.bucket_store.specs.Database.{Heading, root, heading_of}
use Rattle.bucket_store.specs.Order.{heading_cmp, policy_cmp}
use Rattle.bucket_store.specs.Refusal.{is_bad, most_buckets, most_policies}
use Rattle.bucket_store.proofs.Lists.{All-append}
use Rattle.bucket_store.proofs.Sound.{policy_total}
use Rattle.desk_ports.specs.declared.file_sets.SetFile.{SetFile}
use Rattle.set_text.specs.Buckets as word
use Rattle.set_text.specs.Buckets.{read_heading, headings_of, heading_fits, is_root_or_later, read_policy, policies_of}
use Rattle.set_text.specs.Buckets.{policy_of, policy_fits, has_target}
use Rattle.set_text.specs.Fault.{Fault, with_value, in_file, bytes_in}
use Rattle.set_text.specs.FileNames.{bucket_file}
use Rattle.set_text.specs.Lines.{rises_above, values_of, at_least_one}
use Rattle.set_text.specs.Reading.{policy_count, with_policies, buckets_behind}
use Rattle.set_text.specs.parts.Kept.{AreHeadings, ArePolicies, AreBuckets, AreSound}
use Rattle.set_text.proofs.ReadingRising.{sorted-above}
use Rattle.set_text.proofs.ReadingValues.{kept-some, values_of-keep, at_least_one-some}
use Rattle.app_registry.proofs.Rising.{rises-nil}
use Rattle.std.proofs.lemmas.Cmp.{on_total}
use Rattle.std.specs.Cmp.{IsTotalOrder}

heading_total : IsTotalOrder heading_cmp
heading_total = on_total (λ (heading : Heading). heading.name) text_total

-- ---- headings

not-true : (b : Bool) → not b ≡ true → b ≡ false
not-true true h = cc
not-true false h = refl

first-of-more : (before : List Heading) (added : Heading) → AreHeadings before → is_root_or_later before added ≡ true
    → (heading : Heading) (others : List Heading) → before ++ added ∷ [] ≡ heading ∷ others
    → (length heading.name == 0) ≡ true
first-of-more [] added are root heading others parts =
    let same : added ≡ heading = cc in ap (λ (heading : Heading). length heading.name == 0) (sym same) ∙ root
first-of-more (first ∷ before) added are root heading others parts =
    let same : first ≡ heading = cc in
    ap (λ (heading : Heading). length heading.name == 0) (sym same) ∙ are.rooted first before refl

headings-more : (before : List Heading) (heading : Heading) → AreHeadings before → heading_fits before heading ≡ true
    → AreHeadings (before ++ heading ∷ [])
headings-more before heading are fits =
    let rises = and_parts (rises_above heading_cmp before heading) _ fits in
    let roots = and_parts (is_root_or_later before heading) _ rises.1 in
    let others = and_parts (not (is_bad heading)) (nat_lt (length before) most_buckets) roots.1 in
    let room = ltb-true (length before) most_buckets others.1 in
    record {
      rise = sorted-above heading_total before heading are.rise rises.0;
      sound = All-append (λ (heading : Heading). is_bad heading ≡ false) before (heading ∷ []) are.sound
          (not-true (is_bad heading) others.0, tt);
      few = omega (arith, length-append before (heading ∷ []), room);
      rooted = first-of-more before heading are roots.0;
    }

no-headings : AreHeadings []
no-headings = record {
  rise = rises-nil heading_total;
  sound = tt;
  few = omega arith;
  rooted = λ heading others parts. cc;
}

pub headings-are : (text : List ℕ) (headings : List Heading) → headings_of text ≡ Ok headings → AreHeadings headings
headings-are text headings is =
    values_of-keep read_heading AreHeadings
    (λ before line heading are reads. headings-more before heading are
    (kept-some (heading_fits before) (word.heading_of line) heading reads).1)
    text headings no-headings (at_least_one-some (values_of read_heading text) headings is)

some-nonempty : {X : Type 0} (read : Result (List X) ℕ) → at_least_one read ≡ Ok [] → ⊥
some-nonempty (Ok []) h = cc
some-nonempty (Ok (value ∷ values)) h = cc
some-nonempty (Err line) h = cc

empty-name : (name : List ℕ) → (length name == 0) ≡ true → same_text name root ≡ true
empty-name [] h = refl
empty-name (byte ∷ name) h = absurd (omega (arith, eqb-true (length (byte ∷ name)) 0 h))

pub headings-root : (text : List ℕ) (headings : List Heading) → headings_of text ≡ Ok headings
    → list_any (λ (heading : Heading). same_text heading.name root) headings ≡ true
headings-root text [] is = absurd (some-nonempty (values_of read_heading text) is)
headings-root text (heading ∷ headings) is =
    ap (λ b. b || list_any (λ (heading : Heading). same_text heading.name root) headings)
    (empty-name heading.name ((headings-are text (heading ∷ headings) is).rooted heading headings refl))

-- ---- the policies of a bucket

policies-more : (headings : List Heading) (earlier : ℕ) (before : List Policy) (policy : Policy)
    → ArePolicies headings earlier before → policy_fits headings earlier before policy ≡ true
    → ArePolicies headings earlier (before ++ policy ∷ [])
policies-more headings earlier before policy are fits =
    let rises = and_parts (rises_above policy_cmp before policy) _ fits in
    let others = and_parts (has_target headings policy) (nat_lt (earlier + length before) most_policies) rises.1 in
    let room = ltb-true (earlier + length before) most_policies others.1 in
    record {
      rise = sorted-above policy_total before policy are.rise rises.0;
      targets = All-append (λ policy. has_target headings policy ≡ true) before (policy ∷ []) are.targets
          (others.0, tt);
      few = omega (arith, length-append before (policy ∷ []), room);
    }

pub policies-are : (headings : List Heading) (earlier : ℕ) (text : List ℕ) (policies : List Policy)
    → earlier ≤ most_policies
    → policies_of headings earlier text ≡ Ok policies → ArePolicies headings earlier policies
policies-are headings earlier text policies within is =
    values_of-keep (read_policy headings earlier) (ArePolicies headings earlier)
    (λ before line policy are reads.
    policies-more headings earlier before policy are
    (kept-some (policy_fits headings earlier before) (policy_of line) policy reads).1)
    text policies (record { rise = rises-nil policy_total; targets = tt; few = omega (arith, within) }) is

-- ---- all buckets

pub in_file-ok : {X : Type 0} (name : List ℕ) (read : Result X ℕ) (value : X) → in_file name read ≡ Ok value → read
    ≡ Ok value
in_file-ok name (Ok found) value h = let same : found ≡ value = cc in ap (λ x. Ok x) same
in_file-ok name (Err line) value h = cc

with_value-ok : {X Y : Type 0} (read : Result X Fault) (later : X → Result Y Fault) (result : Y)
    → with_value read later ≡ Ok result
    → (value : X) × (read ≡ Ok value) × (later value ≡ Ok result)
with_value-ok (Ok value) later result h = (value, refl, h)
with_value-ok (Err fault) later result h = cc

-- the buckets that a set gives have these headings, and keep the rules of a database
pub record AreRead (headings before later : List Heading) (buckets : List Bucket) : Type 0 where
  pub headed : map heading_of buckets ≡ before ++ later
  pub kept : AreBuckets headings buckets

pub buckets-are : (set : List SetFile) (headings : List Heading) (before : List Bucket) (later : List Heading)
    (buckets : List Bucket)
    → AreBuckets headings before → buckets_behind set headings before later ≡ Ok buckets
    → AreRead headings (map heading_of before) later buckets
buckets-are set headings before [] buckets are h =
    let same : before ≡ buckets = cc in
    record {
      headed = sym (ap (map heading_of) same) ∙ sym (append-nil (map heading_of before));
      kept = subst (AreBuckets headings) same are;
    }
buckets-are set headings before (heading ∷ later) buckets are h =
    let text = bytes_in set (bucket_file heading.name) in
    let step = with_value-ok (in_file (bucket_file heading.name) (policies_of headings (policy_count before) text))
    (λ policies. buckets_behind set headings (before ++ with_policies heading policies ∷ []) later) buckets h in
    let policies = step.0 in
    let added = with_policies heading policies in
    let own = policies-are headings (policy_count before) text policies are.few
    (in_file-ok (bucket_file heading.name) (policies_of headings (policy_count before) text) policies step.1) in
    let rest = buckets-are set headings (before ++ added ∷ []) later buckets (record {
      rise = All-append (λ (bucket : Bucket). IsStrictlySortedBy policy_cmp bucket.policies) before
          (added ∷ []) are.rise (own.rise, tt);
      targets = All-append (λ (bucket : Bucket). AllByRecursion
          (λ policy. has_target headings policy ≡ true) bucket.policies) before
          (added ∷ []) are.targets (own.targets, tt);
      few = omega (arith, sum_by-append (λ (bucket : Bucket). length bucket.policies) before (added ∷ []), own.few);
    }) step.2 in
    record {
      headed = rest.headed
          ∙ ap (λ list. list ++ later) (map-append heading_of before (added ∷ []))
          ∙ append_assoc (map heading_of before) (heading ∷ []) later;
      kept = rest.kept;
    }

-- all buckets of a set are sound
pub sound-of : (set : List SetFile) (text : List ℕ) (headings : List Heading) (buckets : List Bucket)
    → headings_of text ≡ Ok headings → buckets_behind set headings [] headings ≡ Ok buckets → AreSound headings buckets
sound-of set text headings buckets heads_read buckets_read =
    let read = buckets-are set headings [] headings buckets
    (record { rise = tt; targets = tt; few = omega arith }) buckets_read in
    record {
      headings_are = headings-are text headings heads_read;
      root_there = headings-root text headings heads_read;
      buckets_are = read.kept;
      headed = read.headed;
    }
