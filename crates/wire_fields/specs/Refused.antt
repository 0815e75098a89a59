-- The refusal of a command in a frame: the number of the rule, a text and a value, each of which some rules have.
use Rattle.std.specs.Prelude.{ℕ, Bool, nat_lt, ◌==◌, if◌then◌else◌, List, [], ◌∷◌, length, Option, Some, None, is_some}
use Rattle.std.specs.Prelude.{codes, find, unwrap_or}
use Rattle.std.specs.Int.{w8, w64}
use Rattle.cynara_keys.specs.Text.{same_text}
use Rattle.cynara_keys.specs.declared.limits.Counted.{Counted}
use Rattle.cynara_keys.specs.declared.limits.Counted.TheVariants.{Commits, Users, Packages, Installs, Grants, Buckets}
use Rattle.cynara_keys.specs.declared.limits.Counted.TheVariants.{Policies}
use Rattle.desk_state.specs.declared.refusals.Refusal.{Refusal}
use Rattle.desk_state.specs.declared.refusals.Refusal.TheVariants as refusal
use Rattle.wire_fields.specs.declared.rules.Rule.{Rule}
use Rattle.wire_fields.specs.declared.rules.Rule.TheVariants.{Reserved, LayoutThere, NoLayout, NoBucket, RootBucket}
use Rattle.wire_fields.specs.declared.rules.Rule.TheVariants.{BadKind, UnknownUser, OtherPackage, OtherAuthor}
use Rattle.wire_fields.specs.declared.rules.Rule.TheVariants.{OtherHybrid, NotInstalled, Limit, Cycle}
use Rattle.wire_fields.specs.Left.{Left, Reading, wrong, ◌>>=◌}
use Rattle.wire_fields.specs.Format.{Format, number, text, tested, seen, made, ◌⊗◌}
use Rattle.wire_fields.specs.Field.{bucket, ident, author}

-- ---- the text and the value of a rule

abbrev pub no_text : Format (List ℕ)
no_text = tested (λ bytes. length bytes == 0) text

abbrev pub zero_value : Format ℕ
zero_value = tested (λ n. n == 0) (number w64)

abbrev pub value_below : ℕ → Format ℕ
value_below limit = tested (λ n. nat_lt n limit) (number w64)

-- 1 for yes and 0 for no, in eight bytes
abbrev pub yes_value : Format Bool
yes_value = seen (λ n. n == 1) (λ b. if b then 1 else 0) (tested (λ n. nat_lt n 2) (number w64))

-- what a limit counts, as a word
abbrev pub counted_text : Counted → List ℕ
counted_text Commits = codes "commits"
counted_text Users = codes "users"
counted_text Packages = codes "packages"
counted_text Installs = codes "installs"
counted_text Grants = codes "grants"
counted_text Buckets = codes "buckets"
counted_text Policies = codes "policies"

abbrev pub all_counted : List Counted
all_counted = Commits ∷ Users ∷ Packages ∷ Installs ∷ Grants ∷ Buckets ∷ Policies ∷ []

abbrev pub counted_of : List ℕ → Option Counted
counted_of bytes = find (λ which. same_text bytes (counted_text which)) all_counted

abbrev pub which : Format Counted
which =
    seen (λ bytes. unwrap_or (counted_of bytes) Commits) counted_text
    (tested (λ bytes. is_some (counted_of bytes)) text)

-- ---- the rules

abbrev pub rule_number : Rule → ℕ
rule_number Reserved = 1
rule_number LayoutThere = 2
rule_number NoLayout = 3
rule_number NoBucket = 4
rule_number RootBucket = 5
rule_number BadKind = 6
rule_number UnknownUser = 7
rule_number OtherPackage = 8
rule_number OtherAuthor = 9
rule_number OtherHybrid = 14
rule_number NotInstalled = 10
rule_number Limit = 11
rule_number Cycle = 12

abbrev pub all_rules : List Rule
all_rules =
    Reserved ∷ LayoutThere ∷ NoLayout ∷ NoBucket ∷ RootBucket ∷ BadKind
    ∷ UnknownUser ∷ OtherPackage ∷ OtherAuthor ∷ NotInstalled ∷ Limit ∷ Cycle ∷ OtherHybrid ∷ []

abbrev pub rule_of : ℕ → Option Rule
rule_of n = find (λ rule. rule_number rule == n) all_rules

-- a rule without text and value
abbrev pub plain : Format (List ℕ × ℕ)
plain = no_text ⊗ zero_value

-- what is read as a refusal by the rule, behind its number
abbrev pub read_rule : Rule → Left → Reading Refusal
read_rule Reserved = made (λ x. refusal.Reserved x.0) (bucket ⊗ zero_value)
read_rule LayoutThere = made (λ x. refusal.LayoutThere) plain
read_rule NoLayout = made (λ x. refusal.NoLayout) plain
read_rule NoBucket = made (λ x. refusal.NoBucket x.0) (bucket ⊗ zero_value)
read_rule RootBucket = made (λ x. refusal.RootBucket) plain
read_rule BadKind = made (λ x. refusal.BadKind (record { 0 = x.1 })) (no_text ⊗ value_below 65536)
read_rule UnknownUser = made (λ x. refusal.UnknownUser x.1) (no_text ⊗ value_below 4294967296)
read_rule OtherPackage = made (λ x. refusal.OtherPackage x.0) (ident ⊗ zero_value)
read_rule OtherAuthor = made (λ x. refusal.OtherAuthor x.0) (author ⊗ zero_value)
read_rule OtherHybrid = made (λ x. refusal.OtherHybrid x.1) (no_text ⊗ yes_value)
read_rule NotInstalled = made (λ x. refusal.NotInstalled) plain
read_rule Limit = made (λ x. refusal.Limit x.0 x.1) (which ⊗ number w64)
read_rule Cycle = made (λ x. refusal.Cycle x.0) (bucket ⊗ zero_value)

abbrev pub rule_at : Option Rule → Left → Left → Reading Refusal
rule_at (Some rule) left next = read_rule rule next
rule_at None left next = wrong left

-- want of memory is told in no frame
abbrev pub refusal_spelled : Refusal → List ℕ
refusal_spelled (refusal.Reserved name) = 1 ∷ (bucket ⊗ zero_value).spelled (name, 0)
refusal_spelled refusal.LayoutThere = 2 ∷ plain.spelled ([], 0)
refusal_spelled refusal.NoLayout = 3 ∷ plain.spelled ([], 0)
refusal_spelled (refusal.NoBucket name) = 4 ∷ (bucket ⊗ zero_value).spelled (name, 0)
refusal_spelled refusal.RootBucket = 5 ∷ plain.spelled ([], 0)
refusal_spelled (refusal.BadKind kind) = 6 ∷ (no_text ⊗ value_below 65536).spelled ([], kind.0)
refusal_spelled (refusal.UnknownUser uid) = 7 ∷ (no_text ⊗ value_below 4294967296).spelled ([], uid)
refusal_spelled (refusal.OtherPackage name) = 8 ∷ (ident ⊗ zero_value).spelled (name, 0)
refusal_spelled (refusal.OtherAuthor name) = 9 ∷ (author ⊗ zero_value).spelled (name, 0)
refusal_spelled (refusal.OtherHybrid hybrid) = 14 ∷ (no_text ⊗ yes_value).spelled ([], hybrid)
refusal_spelled refusal.NotInstalled = 10 ∷ plain.spelled ([], 0)
refusal_spelled (refusal.Limit counted limit) = 11 ∷ (which ⊗ number w64).spelled (counted, limit)
refusal_spelled (refusal.Cycle name) = 12 ∷ (bucket ⊗ zero_value).spelled (name, 0)
refusal_spelled (refusal.Memory error) = []

abbrev pub refused : Format Refusal
refused = record {
  spelled = refusal_spelled;
  read = λ left. (number w8).read left >>= λ n. rule_at (rule_of n.0) left n.1;
}
