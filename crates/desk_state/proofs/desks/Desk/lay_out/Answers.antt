use Rattle.std.proofs.Common.{◌≡◌, ℕ, ◌<◌, ◌==◌, suc, nat_lt, Bool, true, false, List, [], ◌∷◌, None, length, map, refl, sym, ap, ◌∙◌, subst, arith}
use Rattle.std.specs.List.{flat_map}
use Rattle.std.proofs.lemmas.Bool.Decides.{nat_tests}
use Rattle.bucket_store.specs.Bucket.{Bucket}
use Rattle.bucket_store.specs.Change.{with_changes}
use Rattle.bucket_store.specs.Database.{Database, heading_of}
use Rattle.bucket_store.specs.Refusal as store
use Rattle.bucket_store.specs.Refusal.{named_by, no_bucket, most_buckets}
use Rattle.bucket_store.specs.WellFormed.{IsWellFormed}
use Rattle.bucket_store.specs.declared.policy_changes.Change.{Change}
use Rattle.desk_state.specs.Layout.{laid_out}
use Rattle.desk_state.specs.Rules.{Refuses}
use Rattle.desk_state.specs.declared.commands.Command.TheVariants.{Layout}
use Rattle.desk_state.specs.Limits.{last_commit}
use Rattle.desk_state.specs.parts.Linking.{with_headings, link_changes}
use Rattle.desk_state.specs.parts.Stepping.{IsArranged, moved}
use Rattle.desk_state.proofs.Deciding.{layout_full, layout_refused, layout_stepped}
use Rattle.desk_state.proofs.Laying.{bare, named, arranged, length-laid_out}
use Rattle.desk_state.proofs.desks.Desk.lay_out.Goals as goal

not-last : (commit last : ℕ) → (commit ≡ last → ⊥) → (commit == last) ≡ false
not-last commit last apart = at (commit == last) refl
  where
    eqb-is : (a b : ℕ) → (a == b) ≡ true → a ≡ b
    eqb-is a b h = grind (arith, nat_tests)

    at : (b : Bool) → (commit == last) ≡ b → b ≡ false
    at true is = absurd (apart (eqb-is commit last is))
    at false is = refl

over-most : (count : ℕ) → most_buckets < count → nat_lt most_buckets count ≡ true
over-most count more = grind (arith, nat_tests)

same-length : (buckets : List Bucket) → length (map heading_of buckets) ≡ length buckets
same-length [] = refl
same-length (bucket ∷ buckets) = ap suc (same-length buckets)

as-many : (buckets : List Bucket) (database : Database) → (map heading_of buckets) ≡ database.buckets → length buckets ≡ length database.buckets
as-many buckets database same = sym (same-length buckets) ∙ ap length same

pub returns-then-buckets-gt-MOST_BUCKETS : goal.returns-then-buckets-gt-MOST_BUCKETS
returns-then-buckets-gt-MOST_BUCKETS c =
    let desk = c.args.self.now in
    let is = c.database.ensures.desk in
    let none = bare desk is c.requires.there in
    let last : (desk.commit == last_commit) ≡ false =
    not-last desk.commit last_commit (λ same. c.if-commit-eq-LAST_COMMIT.false (c.commit.ensures.commit ∙ same)) in
    let same : length c.buckets.result.now ≡ length desk.database.buckets =
    as-many c.buckets.result.now desk.database
    (ap (λ (database : Database). database.buckets) (c.buckets.ensures.buckets ∙ c.database.ensures.database)) in
    let count = length-laid_out desk is none in
    let more : most_buckets < length (laid_out desk.database).buckets =
    omega (arith, c.if-buckets-gt-MOST_BUCKETS.true, same, count) in
    layout_full desk c.requires last (over-most (length (laid_out desk.database).buckets) more)

pub returns-in-Err-set_policies : goal.returns-in-Err-set_policies
returns-in-Err-set_policies c =
    let desk = c.args.self.now in
    let is = c.database.ensures.desk in
    let none = bare desk is c.requires.there in
    let housed : c.in-Ok.database ≡ with_headings desk.database = c.in-Ok.ensures.next ∙ ap with_headings c.database-2.ensures.database in
    let changes : c.deref.result.now ≡ link_changes = c.deref.ensures.value ∙ c.in-Ok-link_changes.ensures in
    let refused =
    subst (λ (list : List Change). store.Refuses c.in-Ok.database (store.set_policies list c.in-Ok.database) c.in-Err-set_policies.refusal) changes
    c.in-Err-set_policies.ensures.refused in
    subst (Refuses desk Layout) (sym c.refused_by_store-in-Err-set_policies.ensures)
    (layout_refused desk c.requires c.in-Ok.database
    (subst (λ (database : Database). no_bucket (flat_map named_by link_changes) database ≡ None) (sym housed) (named desk is none))
    (ap (with_changes link_changes) housed) c.in-Err-set_policies.refusal refused)

pub on_database-requires : goal.on_database-requires
on_database-requires c =
    let desk = c.args.self.now in
    let is = c.database.ensures.desk in
    let none = bare desk is c.requires.there in
    let housed : c.in-Ok.database ≡ with_headings desk.database = c.in-Ok.ensures.next ∙ ap with_headings c.database-2.ensures.database in
    let changes : c.deref.result.now ≡ link_changes = c.deref.ensures.value ∙ c.in-Ok-link_changes.ensures in
    let next : c.in-Ok-set_policies.database ≡ laid_out desk.database =
    c.in-Ok-set_policies.ensures.next ∙ (λ i. with_changes (changes i) (housed i)) in
    subst (λ (database : Database). IsArranged (moved desk database desk.registry desk.template)) (sym next)
    (arranged desk is none (subst IsWellFormed next c.buckets-2.ensures.well_formed))

pub returns : goal.returns
returns c =
    let desk = c.args.self.now in
    let is = c.database.ensures.desk in
    let none = bare desk is c.requires.there in
    let housed : c.in-Ok.database ≡ with_headings desk.database = c.in-Ok.ensures.next ∙ ap with_headings c.database-2.ensures.database in
    let changes : c.deref.result.now ≡ link_changes = c.deref.ensures.value ∙ c.in-Ok-link_changes.ensures in
    let next : c.in-Ok-set_policies.database ≡ laid_out desk.database =
    c.in-Ok-set_policies.ensures.next ∙ (λ i. with_changes (changes i) (housed i)) in
    let accepted =
    subst (λ (list : List Change). store.fault c.in-Ok.database (store.set_policies list c.in-Ok.database) ≡ None) changes
    c.in-Ok-set_policies.ensures.accepted in
    layout_stepped desk c.requires c.in-Ok.database
    (subst (λ (database : Database). no_bucket (flat_map named_by link_changes) database ≡ None) (sym housed) (named desk is none))
    (ap (with_changes link_changes) housed) accepted (moved desk c.in-Ok-set_policies.database desk.registry desk.template)
    (ap (λ (database : Database). moved desk database desk.registry desk.template) next) c.on_database.result c.on_database.ensures
