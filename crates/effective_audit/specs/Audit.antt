-- What the applications of a user may do at all.
use Rattle.std.specs.Prelude.{◌≡◌, ◌*◌, ◌==◌, nat_lt, true, ℕ, Bool, List}
use Rattle.std.specs.Prelude.{length, map, min, Option, Some, None, if◌then◌else◌}
use Rattle.std.specs.List.{filter, flat_map}
use Rattle.cynara_keys.specs.Key.{Question}
use Rattle.cynara_keys.specs.PolicyResult.{allow}
use Rattle.bucket_store.specs.Database.{Database, root}
use Rattle.bucket_eval.specs.Evaluation.{answer}
use Rattle.effective_audit.specs.declared.audits.Pair.{Pair}
use Rattle.effective_audit.specs.declared.audits.AuditRefusal.{AuditRefusal}
use Rattle.effective_audit.specs.declared.audits.AuditRefusal.TheVariants.{TooMany, Memory}

abbrev pub asked : List ℕ → List ℕ → List ℕ → Question
asked user client privilege = record { client = client; user = user; privilege = privilege }

-- whether the database allows it: the answer of the root bucket, with the buckets that policies point to, is ALLOW
abbrev pub allows : Database → List ℕ → List ℕ → List ℕ → Bool
allows database user client privilege = (answer database root (asked user client privilege) true).result.kind == allow

abbrev pub pair_of : List ℕ → List ℕ → Pair
pair_of client privilege = record { client = client; privilege = privilege }

-- the privileges that the application is allowed, in the order of those asked about
abbrev pub allowed_to : Database → List ℕ → List (List ℕ) → List ℕ → List Pair
allowed_to database user privileges client = map (pair_of client) (filter (allows database user client) privileges)

-- the allowed pairs, in the order of the applications and then of the privileges
abbrev pub audited : Database → List ℕ → List (List ℕ) → List (List ℕ) → List Pair
audited database user clients privileges = flat_map (allowed_to database user privileges) clients

-- ---- how many may be asked about

abbrev pub most_pairs : ℕ
most_pairs = 65536

-- a product, or the greatest number that is told where it is greater
abbrev pub told : ℕ → ℕ
told product = min product 18446744073709551615

abbrev pub fault : List (List ℕ) → List (List ℕ) → Option AuditRefusal
fault clients privileges =
    if nat_lt most_pairs (length clients * length privileges) then Some
    (TooMany (told (length clients * length privileges))) else None

-- the refusal names the fault; memory is wanting only where there is none
abbrev pub Refuses : AuditRefusal → Option AuditRefusal → Type 0
Refuses (Memory error) fault = fault ≡ None
Refuses refusal fault = fault ≡ Some refusal
