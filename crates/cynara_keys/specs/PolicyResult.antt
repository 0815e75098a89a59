-- What a policy decides: a kind, and metadata where the kind has some.
use Rattle.std.specs.Prelude.{ℕ, Bool, true, ◌||◌, ◌&&◌, nat_le, ◌==◌, if◌then◌else◌, List, length}
use Rattle.std.specs.declared.cmp.Ordering.{Ordering}
use Rattle.std.specs.Ordering.{on, then_cmp, nat_cmp, eq_of_both}
use Rattle.cynara_keys.specs.Text.{same_text, text_cmp}
use Rattle.cynara_keys.specs.BucketName.{is_bucket_name}

-- The numbers of the kinds are this project's profile.
abbrev pub deny : ℕ
deny = 0

abbrev pub none : ℕ
none = 1

abbrev pub bucket : ℕ
bucket = 65534

abbrev pub allow : ℕ
allow = 65535

abbrev pub first_agent : ℕ
first_agent = 2

abbrev pub last_agent : ℕ
last_agent = 65533

abbrev pub is_agent : ℕ → Bool
is_agent kind = nat_le first_agent kind && nat_le kind last_agent

-- a result, as contracts see it
pub record Ruling : Type 0 where
  pub kind : ℕ
  pub metadata : List ℕ

-- DENY, NONE and ALLOW have no metadata, and that of BUCKET is a bucket's name
abbrev pub may_carry : ℕ → List ℕ → Bool
may_carry kind metadata =
    if kind == deny || (kind == none || kind == allow) then length metadata == 0
    else (if kind == bucket then is_bucket_name metadata else true)

-- results are in the order of their kinds, and then of their metadata
abbrev pub result_cmp : Ruling → Ruling → Ordering
result_cmp = then_cmp (on (λ result. result.kind) nat_cmp) (on (λ result. result.metadata) text_cmp)

abbrev pub same_result : Ruling → Ruling → Bool
same_result = eq_of_both (on (λ result. result.kind) ◌==◌) (on (λ result. result.metadata) same_text)
