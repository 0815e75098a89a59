use Rattle.std.proofs.Common.{◌≡◌, List, Option, None, MatchResult, true, subst, sym, ap, ◌∙◌}
use Rattle.std.specs.List.{AllByRecursion}
use Rattle.std.specs.List.Sorted.{IsStrictlySortedBy}
use Rattle.bucket_store.specs.Bucket.{Bucket}
use Rattle.bucket_store.specs.Database.{database_of}
use Rattle.bucket_store.specs.Order.{bucket_cmp, heading_cmp}
use Rattle.bucket_store.specs.WellFormed.{IsRooted}
use Rattle.app_registry.specs.Registry.{has_package}
use Rattle.set_text.specs.Fault.{Fault}
use Rattle.set_text.specs.Reading.{load_fault}
use Rattle.set_text.specs.parts.Names.{RefusesTest}
use Rattle.set_text.specs.parts.Parts.{layout_fault_of, managed_fault_of, fallback_fault_of, beside}
use Rattle.set_text.proofs.ReadingKept.{buckets-rise, rooted-of}
use Rattle.set_text.proofs.ReadingStages.{joint-load, packages-there}
use Rattle.set_text.proofs.reading.test_together.Goals as goal

pub test_layout-requires-clause-buckets : goal.test_layout-requires-clause-buckets
test_layout-requires-clause-buckets c =
    let sound = c.requires.sound in
    subst (IsStrictlySortedBy bucket_cmp) (sym c.deref-2.ensures.value)
    (buckets-rise c.args.parts.now.buckets.items
    (subst (IsStrictlySortedBy heading_cmp) (sym sound.headed) sound.headings_are.rise))

pub test_layout-requires-clause-rooted : goal.test_layout-requires-clause-rooted
test_layout-requires-clause-rooted c =
    let sound = c.requires.sound in
    subst (λ (list : List Bucket). AllByRecursion (IsRooted (database_of list)) (database_of list).policies)
    (sym c.deref-2.ensures.value)
    (rooted-of c.args.parts.now.headings.items c.args.parts.now.buckets.items sound.headed sound.buckets_are)

pub test_rules-requires-clause-installed : goal.test_rules-requires-clause-installed
test_rules-requires-clause-installed c =
    let registry = c.args.parts.now.registry in
    subst (AllByRecursion (λ name. has_package registry name ≡ true)) (sym c.requires.packages)
    (packages-there registry)

pub returns : goal.returns
returns c =
    let files = c.args.files.now in
    let headings = c.args.parts.now.headings.items in
    let buckets = c.args.parts.now.buckets.items in
    let registry = c.args.parts.now.registry in
    let template = c.args.template.now in
    let first = (λ i. layout_fault_of (sym c.deref.ensures.value i) (sym c.deref-2.ensures.value i) registry)
    ∙ c.in_ok-test_layout.ensures in
    let second = (λ i. managed_fault_of files (sym c.deref-3.ensures.value i) registry)
    ∙ c.in_ok-test_managed.ensures in
    let third = (λ i. fallback_fault_of (sym c.deref-4.ensures.value i)) ∙ c.in_ok-test_fallbacks.ensures in
    let joint = joint-load files c.args.parts.now.commit headings buckets registry template c.requires.sound.headed
    first second third
    ∙ sym (ap (load_fault files (beside registry template)) c.requires.packages) in
    subst (λ (fault : Option Fault). MatchResult c.test_rules.result (λ done. fault ≡ None)
    (λ refusal. RefusesTest refusal fault))
    (sym joint) c.test_rules.ensures
