-- Each field is read exactly as it is spelled.
use Rattle.std.proofs.Common.{◌≡◌, ℕ, zero, suc, ◌^◌, ◌<◌, Bool, true, false, cond, ltb, eqb, ◌&&◌, ◌||◌, List, [], ◌∷◌}
use Rattle.std.proofs.Common.{◌++◌, length, Option, Some, None, Result, Ok, Err, refl, sym, ap, subst, ◌∙◌}
use Rattle.std.proofs.Common.{append_assoc, arith, inl, inr, take, ◌-◌, ◌≤◌, length-append}
use Rattle.std.proofs.Math.Seq.{take-append_seam}
use Rattle.std.specs.Prelude.{◌⊎◌, is_none}
use Rattle.std.specs.Result.{result_unwrap_or}
use Rattle.std.specs.List.{AllByRecursion, flat_map}
use Rattle.std.specs.Int.{w8, w16, w32, w64, to_be_bytes}
use Rattle.std.specs.Cmp.Lexicographic as texts
use Rattle.std.proofs.lemmas.Bool.{ltb-true, lt-ltb, eqb-true}
use Rattle.std.proofs.lemmas.Cmp.{nat_list_eq_equiv}
use Rattle.std.proofs.lemmas.List.Concat.{flat_map-cons}
use Rattle.cynara_keys.specs.Text.{same_text}
use Rattle.cynara_keys.specs.Name.{is_name, name_fault}
use Rattle.cynara_keys.specs.BucketName.{is_bucket_name, bucket_name_fault}
use Rattle.cynara_keys.specs.Metadata.{is_metadata, metadata_fault}
use Rattle.cynara_keys.specs.Field as keys
use Rattle.cynara_keys.specs.PolicyResult.{Ruling, may_carry, is_agent}
use Rattle.cynara_keys.specs.declared.fields.Field.{Field}
use Rattle.cynara_keys.specs.declared.fields.Field.TheVariants.{Any, Exact}
use Rattle.cynara_keys.specs.declared.fields.FilterField.{FilterField}
use Rattle.cynara_keys.specs.declared.fields.FilterField.TheVariants.{Every, Any as AnyStored, Exact as ExactStored}
use Rattle.cynara_keys.specs.Key.{Key, counted_text, packed_texts}
use Rattle.bucket_store.specs.declared.policy_changes.Change.{Change}
use Rattle.bucket_store.specs.declared.policy_changes.Change.TheVariants.{Set, Delete}
use Rattle.app_registry.specs.Ident.{ident_fault}
use Rattle.app_registry.specs.declared.installs.Scope.{Scope}
use Rattle.app_registry.specs.declared.installs.Scope.TheVariants.{Everyone, One}
use Rattle.app_registry.specs.declared.users.UserType.{UserType}
use Rattle.app_registry.specs.declared.users.UserType.TheVariants.{System, Admin, Normal, Guest}
use Rattle.desk_ports.specs.FileName.{file_name_fault}
use Rattle.rule_templates.specs.declared.lines.TemplateLine.{TemplateLine}
use Rattle.rule_templates.specs.declared.templates.TemplateRefusal.{TemplateRefusal}
use Rattle.rule_templates.specs.Template.{template_of, template_text}
use Rattle.wire_fields.specs.Left.{IsBytes, Left, ◌>>=◌}
use Rattle.wire_fields.specs.Format.{Format, number, text, sized, tested, ◌⊗◌, leading, nothing, either, counted}
use Rattle.wire_fields.specs.Field as field
use Rattle.wire_fields.specs.Field.{is_field_text, is_filter_text, is_ident, is_file_text, is_file_part, is_most}
use Rattle.wire_fields.specs.Field.{is_author_text, author_of, author_text, is_text_of, is_template_text, user_type_of}
use Rattle.wire_fields.specs.Field.{user_type_number, change_of, of_change, some_or, or_none, scope_of, scope_uid}
use Rattle.wire_fields.specs.Field.{comes_after, rising_names}
use Rattle.wire_fields.specs.Right as right
use Rattle.wire_fields.proofs.Exact.{bind_ok, ok_is, Takes, Takes-then, IsExact, number_exact, wide8, wide16, wide32}
use Rattle.wire_fields.proofs.Exact.{wide64, sized_exact, text_exact, tested_exact, seen_exact, leading_exact}
use Rattle.wire_fields.proofs.Exact.{pair_exact, nothing_exact, either_exact, OneOf, counted_exact}
use Rattle.wire_fields.proofs.Lengths.{name_short, bucket_name_short, metadata_short, ident_short, file_name_short}

-- the same law, for what the value is said in other words
pub exact_as : {X : Type 0} (format : Format X) {P Q : X → Type 0} → IsExact format P → ((x : X) → P x → Q x)
    → ((x : X) → Q x → P x) → IsExact format Q
exact_as format exact there back = record {
  takes = λ left x fits e. let t = exact.takes left x fits e in (t.0, there x.0 t.1);
  again = λ end x rest right. exact.again end x rest (back x right);
}

pub none_is : {X : Type 0} (o : Option X) → is_none o ≡ true → o ≡ None
none_is None is = refl
none_is (Some x) is = absurd cc

pub and_both : (a b : Bool) → (a && b) ≡ true → (a ≡ true) × (b ≡ true)
and_both true b both = (refl, both)
and_both false b both = absurd cc

pub same_is : (a b : List ℕ) → same_text a b ≡ true → a ≡ b
same_is a b same = texts.same_text a b (sym same)

-- ---- texts that pass a test

short_exact : (passes : List ℕ → Bool) → ((bytes : List ℕ) → passes bytes ≡ true → length bytes < 2 ^ 16)
    → IsExact (tested passes text) (λ bytes. passes bytes ≡ true)
short_exact passes short =
    exact_as (tested passes text) (tested_exact passes text text_exact) (λ bytes right. right.1)
    (λ bytes right. (short bytes right, right))

pub name_exact : IsExact field.name right.IsName
name_exact = short_exact is_name (λ bytes is. name_short bytes (none_is (name_fault bytes) is))

pub bucket_exact : IsExact field.bucket right.IsBucket
bucket_exact = short_exact is_bucket_name (λ bytes is. bucket_name_short bytes (none_is (bucket_name_fault bytes) is))

pub ident_exact : IsExact field.ident right.IsIdent
ident_exact = short_exact is_ident (λ bytes is. ident_short bytes (none_is (ident_fault bytes) is))

pub file_name_exact : IsExact field.file_name (λ bytes. is_file_text bytes ≡ true)
file_name_exact = short_exact is_file_text (λ bytes is. file_name_short bytes (none_is (file_name_fault bytes) is))

few_there : (bytes : List ℕ) → is_file_part bytes ≡ true → length bytes ≤ 65536
few_there bytes passes = (let below : length bytes < 65537 = ltb-true _ _ passes in omega (arith, below))

few_back : (bytes : List ℕ) → length bytes ≤ 65536 → is_file_part bytes ≡ true
few_back bytes few = lt-ltb _ _ (omega (arith, few))

pub file_part_exact : IsExact field.file_part (λ bytes. length bytes ≤ 65536)
file_part_exact =
    exact_as field.file_part (tested_exact is_file_part (sized w32) (sized_exact w32 (2 ^ 32) wide32))
    (λ bytes right. few_there bytes right.1) (λ bytes few. (omega (arith, few), few_back bytes few))

-- ---- fields of keys

wild_or_name : (wild : Bool) (bytes : List ℕ) → same_text bytes keys.wildcard ≡ wild
    → is_none (cond wild None (name_fault bytes)) ≡ true
    → (keys.field_text (cond wild Any (Exact bytes)) ≡ bytes) × right.IsField (cond wild Any (Exact bytes))
wild_or_name true bytes same passes = (sym (same_is bytes keys.wildcard same), tt)
wild_or_name false bytes same passes = (refl, passes)

field_there : (bytes : List ℕ) → is_field_text bytes ≡ true
    → (keys.field_text (keys.field_of bytes) ≡ bytes) × right.IsField (keys.field_of bytes)
field_there bytes passes = wild_or_name (same_text bytes keys.wildcard) bytes refl passes

not_wild : (wild : Bool) (bytes : List ℕ) → same_text bytes keys.wildcard ≡ wild → is_name bytes ≡ true → wild ≡ false
not_wild false bytes same name = refl
not_wild true bytes same name =
    let is : is_name keys.wildcard ≡ true =
    subst (λ (b : List ℕ). is_name b ≡ true) (same_is bytes keys.wildcard same) name in
    absurd cc

field_back : (field : Field) → right.IsField field
    → (is_field_text (keys.field_text field) ≡ true) × (keys.field_of (keys.field_text field) ≡ field)
field_back Any good = (refl, refl)
field_back (Exact name) good =
    let tame = not_wild (same_text name keys.wildcard) name refl good in
    (rw tame good, rw tame refl)

field_text_short : (bytes : List ℕ) → is_field_text bytes ≡ true → length bytes < 2 ^ 16
field_text_short bytes passes = shorter (same_text bytes keys.wildcard) bytes refl passes
  where
    shorter : (wild : Bool) (bytes : List ℕ) → same_text bytes keys.wildcard ≡ wild
        → is_none (cond wild None (name_fault bytes)) ≡ true → length bytes < 2 ^ 16
    shorter true bytes same passes = rw (same_is bytes keys.wildcard same) (omega arith)
    shorter false bytes same passes = name_short bytes (none_is (name_fault bytes) passes)

pub field_text_exact : IsExact field.field_text right.IsFieldText
field_text_exact = short_exact is_field_text field_text_short

pub field_exact : IsExact field.field right.IsField
field_exact =
    seen_exact keys.field_of keys.field_text field.field_text field_text_exact {Good = right.IsField} field_there
    field_back

front_of : (front behind whole : List ℕ) → whole ≡ front ++ behind → take (length whole - length behind) whole ≡ front
front_of front behind whole is =
    let count : length whole - length behind ≡ length front = omega (arith, ap length is, length-append front behind) in
    ap (λ n. take n whole) count ∙ ap (take (length front)) is ∙ take-append_seam front behind

-- three texts that were read one behind the other stand packed at the front of what was left
pub key_front : (a b c d : Left) (front rest client user privilege : List ℕ) → IsBytes front → front ≡ a.rest
    → rest ≡ d.rest → field.field_text.read a ≡ Ok (client, b) → field.field_text.read b ≡ Ok (user, c)
    → field.field_text.read c ≡ Ok (privilege, d)
    → (length rest ≤ length front) × (take (length front - length rest) front ≡ packed_texts client user privilege)
key_front a b c d front rest client user privilege fits is_front is_rest one two three =
    let first = (field_text_exact.takes a (client, b) (subst IsBytes is_front fits) one).0 in
    let second = (field_text_exact.takes b (user, c) first.bytes two).0 in
    let third = (field_text_exact.takes c (privilege, d) second.bytes three).0 in
    let behind = Takes-then b (counted_text user) c (counted_text privilege) d second third in
    let all = Takes-then a (counted_text client) b (counted_text user ++ counted_text privilege) d first behind in
    let parts : front ≡ packed_texts client user privilege ++ rest =
    is_front ∙ all.parts ∙ ap (λ (t : List ℕ). packed_texts client user privilege ++ t) (sym is_rest) in (
      omega (arith, ap length parts, length-append (packed_texts client user privilege) rest),
      front_of (packed_texts client user privilege) rest front parts,
    )

-- the field of such a text is right
pub field_right : (text : List ℕ) → keys.field_fault text ≡ None → right.IsField (keys.field_of text)
field_right text fits = (field_there text (ap is_none fits)).1

every_or_field : (all : Bool) (wild : Bool) (bytes : List ℕ) → same_text bytes keys.every ≡ all
    → same_text bytes keys.wildcard ≡ wild
    → is_none (cond all None (cond wild None (name_fault bytes))) ≡ true
    → (keys.filter_field_text (cond all Every (cond wild AnyStored (ExactStored bytes))) ≡ bytes)
    × right.IsFilterField (cond all Every (cond wild AnyStored (ExactStored bytes)))
every_or_field true wild bytes all is passes = (sym (same_is bytes keys.every all), tt)
every_or_field false true bytes all is passes = (sym (same_is bytes keys.wildcard is), tt)
every_or_field false false bytes all is passes = (refl, passes)

filter_short : (all : Bool) (wild : Bool) (bytes : List ℕ) → same_text bytes keys.every ≡ all
    → same_text bytes keys.wildcard ≡ wild
    → is_none (cond all None (cond wild None (name_fault bytes))) ≡ true → length bytes < 2 ^ 16
filter_short true wild bytes all is passes = rw (same_is bytes keys.every all) (omega arith)
filter_short false true bytes all is passes = rw (same_is bytes keys.wildcard is) (omega arith)
filter_short false false bytes all is passes = name_short bytes (none_is (name_fault bytes) passes)

not_every : (all : Bool) (bytes : List ℕ) → same_text bytes keys.every ≡ all → is_name bytes ≡ true → all ≡ false
not_every false bytes same name = refl
not_every true bytes same name =
    let is : is_name keys.every ≡ true =
    subst (λ (b : List ℕ). is_name b ≡ true) (same_is bytes keys.every same) name in
    absurd cc

filter_back : (field : FilterField) → right.IsFilterField field
    → (is_filter_text (keys.filter_field_text field) ≡ true)
    × (keys.filter_field_of (keys.filter_field_text field) ≡ field)
filter_back Every good = (refl, refl)
filter_back AnyStored good = (refl, refl)
filter_back (ExactStored name) good =
    let some = not_every (same_text name keys.every) name refl good in
    let tame = not_wild (same_text name keys.wildcard) name refl good in
    (rw (some, tame) good, rw (some, tame) refl)

pub filter_field_exact : IsExact field.filter_field right.IsFilterField
filter_field_exact =
    seen_exact keys.filter_field_of keys.filter_field_text (tested is_filter_text text)
    (short_exact is_filter_text (λ bytes passes. filter_short (same_text bytes keys.every)
    (same_text bytes keys.wildcard) bytes refl refl passes))
    {Good = right.IsFilterField}
    (λ bytes passes. every_or_field (same_text bytes keys.every) (same_text bytes keys.wildcard) bytes refl refl passes)
    filter_back

pub question_exact : IsExact field.question right.IsQuestion
question_exact =
    seen_exact _ _ (field.name ⊗ (field.name ⊗ field.name))
    (pair_exact field.name (field.name ⊗ field.name) name_exact
    (pair_exact field.name field.name name_exact name_exact))
    {Good = right.IsQuestion} (λ x good. (refl, good)) (λ y good. (good, refl))

pub key_exact : IsExact field.key right.IsKey
key_exact =
    seen_exact _ _ (field.field ⊗ (field.field ⊗ field.field))
    (pair_exact field.field (field.field ⊗ field.field) field_exact
    (pair_exact field.field field.field field_exact field_exact))
    {Good = right.IsKey} (λ x good. (refl, good)) (λ y good. (good, refl))

pub filter_exact : IsExact field.filter right.IsFilter
filter_exact =
    seen_exact _ _ (field.filter_field ⊗ (field.filter_field ⊗ field.filter_field))
    (pair_exact field.filter_field (field.filter_field ⊗ field.filter_field) filter_field_exact
    (pair_exact field.filter_field field.filter_field filter_field_exact filter_field_exact))
    {Good = right.IsFilter} (λ x good. (refl, good)) (λ y good. (good, refl))

-- ---- results

pub kind_exact : IsExact field.kind right.IsKind
kind_exact =
    seen_exact _ _ (number w16) (number_exact w16 (2 ^ 16) wide16) {Good = right.IsKind} (λ x good. (refl, good))
    (λ y good. (good, refl))

pub agent_kind_exact : IsExact field.agent_kind (λ kind. right.IsKind kind × (is_agent kind.0 ≡ true))
agent_kind_exact = tested_exact _ field.kind kind_exact

metadata_exact : (kind : ℕ)
    → IsExact (field.metadata_of kind) (λ bytes. (is_metadata bytes && may_carry kind bytes) ≡ true)
metadata_exact kind =
    short_exact (λ bytes. is_metadata bytes && may_carry kind bytes) (λ bytes passes.
    metadata_short bytes (none_is (metadata_fault bytes)
    (and_both (is_metadata bytes) (may_carry kind bytes) passes).0))

pub ruling_exact : IsExact field.ruling right.IsRuling
ruling_exact =
    seen_exact _ _ (leading (number w16) field.metadata_of)
    (leading_exact (number w16) field.metadata_of {Q = λ kind bytes. (is_metadata bytes && may_carry kind bytes) ≡ true}
    (number_exact w16 (2 ^ 16) wide16) (λ kind small. metadata_exact kind))
    {Good = right.IsRuling} (λ x good. (refl, good)) (λ y good. (good, refl))

pub policy_exact : IsExact field.policy right.IsPolicy
policy_exact =
    seen_exact _ _ (field.key ⊗ field.ruling) (pair_exact field.key field.ruling key_exact ruling_exact)
    {Good = right.IsPolicy}
    (λ x good. (refl, good)) (λ y good. (good, refl))

abbrev Parts : Type 0
Parts = ((List ℕ × Key) × Ruling) ⊎ (List ℕ × Key)

abbrev AreParts : Parts → Type 0
AreParts =
    OneOf (λ x. (right.IsBucket x.0.0 × right.IsKey x.0.1) × right.IsRuling x.1)
    (λ x. right.IsBucket x.0 × right.IsKey x.1)

change_there : (x : Parts) → AreParts x → (of_change (change_of x) ≡ x) × right.IsChange (change_of x)
change_there (inl x) good = (refl, good)
change_there (inr x) good = (refl, good)

change_back : (change : Change) → right.IsChange change
    → AreParts (of_change change) × (change_of (of_change change) ≡ change)
change_back (Set bucket key result) good = (good, refl)
change_back (Delete bucket key) good = (good, refl)

pub change_exact : IsExact field.change right.IsChange
change_exact =
    seen_exact change_of of_change (either ((field.bucket ⊗ field.key) ⊗ field.ruling) (field.bucket ⊗ field.key))
    (either_exact ((field.bucket ⊗ field.key) ⊗ field.ruling) (field.bucket ⊗ field.key)
    (pair_exact (field.bucket ⊗ field.key) field.ruling (pair_exact field.bucket field.key bucket_exact key_exact)
    ruling_exact)
    (pair_exact field.bucket field.key bucket_exact key_exact))
    {Good = right.IsChange} change_there change_back

pub changes_exact : IsExact (counted field.change) right.AreChanges
changes_exact = counted_exact field.change change_exact

-- ---- optional fields

abbrev pub SomeIs : {X : Type 0} → (X → Type 0) → Option X → Type 0
SomeIs P None = Unit {0}
SomeIs P (Some x) = P x

some_there : {X : Type 0} (P : X → Type 0) (x : X ⊎ Unit {0}) → OneOf P (λ none. Unit {0}) x
    → (or_none (some_or x) ≡ x) × SomeIs P (some_or x)
some_there P (inl x) good = (refl, good)
some_there P (inr none) good = (refl, tt)

some_back : {X : Type 0} (P : X → Type 0) (o : Option X) → SomeIs P o
    → OneOf P (λ none. Unit {0}) (or_none o) × (some_or (or_none o) ≡ o)
some_back P (Some x) good = (good, refl)
some_back P None good = (tt, refl)

optional_exact : {X : Type 0} (format : Format X) (P : X → Type 0) → IsExact format P
    → IsExact (field.optional format) (SomeIs P)
optional_exact format P exact =
    seen_exact some_or or_none (either format nothing) (either_exact format nothing exact nothing_exact)
    {Good = SomeIs P}
    (some_there P) (some_back P)

-- ---- verdicts

row_exact : IsExact field.row right.IsRow
row_exact =
    seen_exact _ _ (field.field_text ⊗ (field.field_text ⊗ field.field_text))
    (pair_exact field.field_text (field.field_text ⊗ field.field_text) field_text_exact
    (pair_exact field.field_text field.field_text field_text_exact field_text_exact))
    {Good = right.IsRow} (λ x good. (refl, good)) (λ y good. (good, refl))

optional_row_exact : IsExact (field.optional field.row) right.IsOptionalRow
optional_row_exact = exact_as (field.optional field.row) (optional_exact field.row right.IsRow row_exact) there back
  where
    there : (o : Option _) → SomeIs right.IsRow o → right.IsOptionalRow o
    there None good = tt
    there (Some row) good = good

    back : (o : Option _) → right.IsOptionalRow o → SomeIs right.IsRow o
    back None good = tt
    back (Some row) good = good

pub verdict_exact : IsExact field.verdict right.IsRightVerdict
verdict_exact =
    seen_exact _ _ (number w64 ⊗ (field.ruling ⊗ (field.bucket ⊗ field.optional field.row)))
    (pair_exact (number w64) (field.ruling ⊗ (field.bucket ⊗ field.optional field.row))
    (number_exact w64 (2 ^ 64) wide64)
    (pair_exact field.ruling (field.bucket ⊗ field.optional field.row) ruling_exact
    (pair_exact field.bucket (field.optional field.row) bucket_exact optional_row_exact)))
    {Good = right.IsRightVerdict} (λ x good. (refl, good)) (λ y good. (good, refl))

most_small : (a b : Bool) (n : ℕ) → eqb n 1024 ≡ a → eqb n 4294967295 ≡ b → (a || b) ≡ true → n < 2 ^ 32
most_small true b n one other passes = rw (eqb-true n 1024 one) (omega arith)
most_small false true n one other passes = rw (eqb-true n 4294967295 other) (omega arith)
most_small false false n one other passes = absurd cc

pub most_exact : IsExact field.most (λ n. is_most n ≡ true)
most_exact =
    exact_as field.most (tested_exact is_most (number w32) (number_exact w32 (2 ^ 32) wide32)) (λ n good. good.1)
    (λ n passes. (most_small (eqb n 1024) (eqb n 4294967295) n refl refl passes, passes))

-- ---- users and installs

user_there : (n : ℕ) → (n < 256) × (ltb n 4 ≡ true) → (user_type_number (user_type_of n) ≡ n) × Unit {0}
user_there zero good = (refl, tt)
user_there (suc zero) good = (refl, tt)
user_there (suc (suc zero)) good = (refl, tt)
user_there (suc (suc (suc zero))) good = (refl, tt)
user_there (suc (suc (suc (suc n)))) good = absurd (omega (arith, ltb-true _ _ good.1))

user_back : (kind : UserType) → Unit {0}
    → ((user_type_number kind < 256) × (ltb (user_type_number kind) 4 ≡ true))
    × (user_type_of (user_type_number kind) ≡ kind)
user_back System good = ((omega arith, refl), refl)
user_back Admin good = ((omega arith, refl), refl)
user_back Normal good = ((omega arith, refl), refl)
user_back Guest good = ((omega arith, refl), refl)

pub user_type_exact : IsExact field.user_type (λ kind. Unit {0})
user_type_exact =
    seen_exact user_type_of user_type_number (tested (λ n. ltb n 4) (number w8))
    (tested_exact (λ n. ltb n 4) (number w8) (number_exact w8 256 wide8)) {Good = λ kind. Unit {0}} user_there user_back

not_zero_by : (b : Bool) (n : ℕ) → eqb (suc n) 0 ≡ b → b ≡ false
not_zero_by true n is = absurd (omega (arith, eqb-true (suc n) 0 is))
not_zero_by false n is = refl

not_zero : (n : ℕ) → eqb (suc n) 0 ≡ false
not_zero n = not_zero_by (eqb (suc n) 0) n refl

-- a text that is not empty is an author where it is an ident
author_ident : (byte : ℕ) (bytes : List ℕ) → is_author_text (byte ∷ bytes) ≡ is_ident (byte ∷ bytes)
author_ident byte bytes = ap (λ (b : Bool). b || is_ident (byte ∷ bytes)) (not_zero (length bytes))

author_short : (bytes : List ℕ) → is_author_text bytes ≡ true → length bytes < 2 ^ 16
author_short [] passes = omega arith
author_short (byte ∷ bytes) passes =
    ident_short (byte ∷ bytes) (none_is (ident_fault (byte ∷ bytes)) (sym (author_ident byte bytes) ∙ passes))

author_there : (bytes : List ℕ) → is_author_text bytes ≡ true
    → (author_text (author_of bytes) ≡ bytes) × right.IsAuthor (author_of bytes)
author_there [] passes = (refl, tt)
author_there (byte ∷ bytes) passes = (refl, sym (author_ident byte bytes) ∙ passes)

author_back : (author : Option (List ℕ)) → right.IsAuthor author
    → (is_author_text (author_text author) ≡ true) × (author_of (author_text author) ≡ author)
author_back None good = (refl, refl)
author_back (Some []) good = absurd cc
author_back (Some (byte ∷ bytes)) good = (author_ident byte bytes ∙ good, refl)

pub author_exact : IsExact field.author right.IsAuthor
author_exact =
    seen_exact author_of author_text (tested is_author_text text) (short_exact is_author_text author_short)
    {Good = right.IsAuthor}
    author_there author_back

scope_there : (o : Option ℕ) → SomeIs right.IsNumber4 o → (scope_uid (scope_of o) ≡ o) × right.IsScope (scope_of o)
scope_there None good = (refl, tt)
scope_there (Some uid) good = (refl, good)

scope_back : (scope : Scope) → right.IsScope scope
    → SomeIs right.IsNumber4 (scope_uid scope) × (scope_of (scope_uid scope) ≡ scope)
scope_back Everyone good = (tt, refl)
scope_back (One uid) good = (good, refl)

pub scope_exact : IsExact field.scope right.IsScope
scope_exact =
    seen_exact scope_of scope_uid (field.optional (number w32))
    (optional_exact (number w32) right.IsNumber4 (number_exact w32 (2 ^ 32) wide32)) {Good = right.IsScope} scope_there
    scope_back

-- ---- names that rise

rising_take : (last : Option (List ℕ)) (count : ℕ) (left : Left) (x : List (List ℕ) × Left) → IsBytes left.rest
    → rising_names last count left ≡ Ok x
    → Takes left (flat_map field.name.spelled x.0) x.1 × (length x.0 ≡ count)
    × (AllByRecursion right.IsName x.0 × right.AreRising last x.0)
unfolding rising_names
rising_take last zero left x fits e =
    subst (λ (x : List (List ℕ) × Left). Takes left (flat_map field.name.spelled x.0) x.1 × (length x.0 ≡ 0)
    × (AllByRecursion right.IsName x.0 × right.AreRising last x.0))
    (ok_is ([], left) x e) (record { parts = refl; same_end = refl; bytes = fits }, refl, (tt, tt))
rising_take last (suc count) left x fits e =
    let one = tested (comes_after last) field.name in
    let a =
    bind_ok (one.read left) (λ first. rising_names (Some first.0) count first.1
    >>= λ others. Ok (first.0 ∷ others.0, others.1)) x e in
    let b = bind_ok (rising_names (Some a.0.0) count a.0.1) (λ others. Ok (a.0.0 ∷ others.0, others.1)) x a.2 in
    let s = (tested_exact (comes_after last) field.name name_exact).takes left a.0 fits a.1 in
    let t = rising_take (Some a.0.0) count a.0.1 b.0 s.0.bytes b.1 in
    let both = Takes-then left (field.name.spelled a.0.0) a.0.1 (flat_map field.name.spelled b.0.0) b.0.1 s.0 t.0 in
    let read : List (List ℕ) × Left = (a.0.0 ∷ b.0.0, b.0.1) in
    subst (λ (x : List (List ℕ) × Left). Takes left (flat_map field.name.spelled x.0) x.1 × (length x.0 ≡ suc count)
    × (AllByRecursion right.IsName x.0 × right.AreRising last x.0))
    (ok_is read x b.2) (rw flat_map-cons both, ap suc t.1, ((s.1.0, t.2.0), (s.1.1, t.2.1)))

rising_again : (end : ℕ) (last : Option (List ℕ)) (names : List (List ℕ)) (rest : List ℕ)
    → AllByRecursion right.IsName names → right.AreRising last names
    → rising_names last (length names) (record { end = end; rest = flat_map field.name.spelled names ++ rest })
    ≡ Ok (names, record { end = end; rest = rest })
unfolding rising_names
rising_again end last [] rest all rise = refl
rising_again end last (name ∷ names) rest all rise =
    let regrouped : flat_map field.name.spelled (name ∷ names) ++ rest ≡ field.name.spelled name
    ++ (flat_map field.name.spelled names ++ rest) =
    ap (λ (t : List ℕ). t ++ rest) (flat_map-cons field.name.spelled name names)
    ∙ append_assoc (field.name.spelled name) (flat_map field.name.spelled names) rest in
    ap (λ (r : List ℕ). rising_names last (suc (length names)) (record { end = end; rest = r })) regrouped
    ∙ rw (
      (tested_exact (comes_after last) field.name name_exact).again end name (flat_map field.name.spelled names ++ rest)
          (all.0, rise.0),
      rising_again end (Some name) names rest all.1 rise.1,
    ) refl

pub privileges_exact : IsExact field.privileges right.ArePrivileges
privileges_exact = record { takes = taken; again = again }
  where
    taken : (left : Left) (x : List (List ℕ) × Left) → IsBytes left.rest → field.privileges.read left ≡ Ok x
        → Takes left (field.privileges.spelled x.0) x.1 × right.ArePrivileges x.0
    taken left x fits e =
        let a = bind_ok ((number w32).read left) (λ count. rising_names None count.0 count.1) x e in
        let s = (number_exact w32 (2 ^ 32) wide32).takes left a.0 fits a.1 in
        let t = rising_take None a.0.0 a.0.1 x s.0.bytes a.2 in
        let both = Takes-then left (to_be_bytes w32 a.0.0) a.0.1 (flat_map field.name.spelled x.0) x.1 s.0 t.0 in (
          subst (λ (n : ℕ). Takes left (to_be_bytes w32 n ++ flat_map field.name.spelled x.0) x.1) (sym t.1) both,
          (subst (λ (n : ℕ). n < 2 ^ 32) (sym t.1) s.1, t.2),
        )

    again : (end : ℕ) (names : List (List ℕ)) (rest : List ℕ) → right.ArePrivileges names
        → field.privileges.read (record { end = end; rest = field.privileges.spelled names ++ rest })
        ≡ Ok (names, record { end = end; rest = rest })
    again end names rest good =
        let regrouped : field.privileges.spelled names ++ rest ≡ to_be_bytes w32 (length names)
        ++ (flat_map field.name.spelled names ++ rest) =
        append_assoc (to_be_bytes w32 (length names)) (flat_map field.name.spelled names) rest in
        ap (λ (r : List ℕ). field.privileges.read (record { end = end; rest = r })) regrouped
        ∙ rw ((number_exact w32 (2 ^ 32) wide32).again end (length names) (flat_map field.name.spelled names ++ rest)
        good.0) (rising_again end None names rest good.1.0 good.1.1)

pub install_exact : (hybrid : Bool) → IsExact (field.install hybrid) (right.IsInstall hybrid)
install_exact hybrid =
    seen_exact _ _ (field.ident ⊗ (field.author ⊗ (field.ident ⊗ (field.scope ⊗ field.privileges))))
    (pair_exact field.ident (field.author ⊗ (field.ident ⊗ (field.scope ⊗ field.privileges))) ident_exact
    (pair_exact field.author (field.ident ⊗ (field.scope ⊗ field.privileges)) author_exact
    (pair_exact field.ident (field.scope ⊗ field.privileges) ident_exact
    (pair_exact field.scope field.privileges scope_exact privileges_exact))))
    {Good = right.IsInstall hybrid} (λ x good. (refl, (refl, good)))
    (λ y good. (good.1, λ i. record y { hybrid = sym good.0 i }))

-- ---- templates

template_found : (bytes : List ℕ) (read : Result (List TemplateLine) TemplateRefusal) → template_of bytes ≡ read
    → is_text_of bytes read ≡ true → length bytes < 2 ^ 16
    → (template_text (result_unwrap_or read []) ≡ bytes) × right.IsTemplate (result_unwrap_or read [])
template_found bytes (Ok lines) is passes short =
    let same = same_is (template_text lines) bytes passes in
    (same, (rw same short, rw same is))
template_found bytes (Err refusal) is passes short = absurd cc

template_there : (bytes : List ℕ) → (length bytes < 2 ^ 16) × (is_template_text bytes ≡ true)
    → (template_text (result_unwrap_or (template_of bytes) []) ≡ bytes)
    × right.IsTemplate (result_unwrap_or (template_of bytes) [])
template_there bytes good = template_found bytes (template_of bytes) refl good.1 good.0

template_back : (lines : List TemplateLine) → right.IsTemplate lines
    → ((length (template_text lines) < 2 ^ 16) × (is_template_text (template_text lines) ≡ true))
    × (result_unwrap_or (template_of (template_text lines)) [] ≡ lines)
template_back lines good =
    let same : is_template_text (template_text lines) ≡ true =
    ap (λ (read : Result (List TemplateLine) TemplateRefusal). is_text_of (template_text lines) read) good.1
    ∙ nat_list_eq_equiv.refl (template_text lines) in
    ((good.0, same), ap (λ (read : Result (List TemplateLine) TemplateRefusal). result_unwrap_or read []) good.1)

pub template_exact : IsExact field.template right.IsTemplate
template_exact =
    seen_exact _ template_text (tested is_template_text text) (tested_exact is_template_text text text_exact)
    {Good = right.IsTemplate}
    template_there template_back
