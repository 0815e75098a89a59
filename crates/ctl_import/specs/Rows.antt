-- Which policies of a data base stand in the script.
use Rattle.std.specs.Prelude.{ℕ, Bool, ◌&&◌, ◌==◌, not, if◌then◌else◌, List, Option, Some, None, is_none}
use Rattle.std.specs.List.{list_any}
use Rattle.std.specs.Str.{bytes_eq}
use Rattle.cynara_keys.specs.Field.{field_fault}
use Rattle.cynara_keys.specs.Metadata.{is_metadata}
use Rattle.cynara_keys.specs.PolicyResult.{none, bucket, is_agent}
use Rattle.ctl_import.specs.declared.headings.Heading.{Heading}
use Rattle.ctl_import.specs.declared.fields.Ruling.{Ruling}
use Rattle.ctl_import.specs.declared.policies.Reason.{Reason}
use Rattle.ctl_import.specs.declared.policies.Reason.TheVariants as reason
use Rattle.ctl_import.specs.declared.policies.Row.{Row}

-- whether a bucket has this name in the data base
abbrev pub has_bucket : List Heading → List ℕ → Bool
has_bucket headings name = list_any (λ heading. bytes_eq heading.name name) headings

-- each text of the key is `*` or a name
abbrev pub is_key : Row → Bool
is_key row =
    is_none (field_fault row.client.now)
    && (is_none (field_fault row.user.now) && is_none (field_fault row.privilege.now))

-- what stands against a result: `none`, a bucket that is not there, or metadata that no agent can be given
abbrev pub result_against : List Heading → Ruling → Option Reason
result_against headings ruling =
    if ruling.kind.0 == none then Some reason.None
    else (if ruling.kind.0 == bucket && not (has_bucket headings ruling.metadata.now) then Some reason.Bucket
    else (if is_agent ruling.kind.0 && not (is_metadata ruling.metadata.now) then Some reason.Metadata else None))

-- why the policy cannot stand in a script
abbrev pub reason_against : List Heading → Row → Option Reason
reason_against headings row =
    if is_key row then result_against headings row.ruling else Some reason.Key
