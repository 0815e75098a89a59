-- The fields of messages: how each is spelled and read.
use Rattle.std.specs.Prelude.{ℕ, zero, suc, Bool, true, false, ◌&&◌, ◌||◌, nat_lt, ◌==◌, if◌then◌else◌, List, [], ◌∷◌}
use Rattle.std.specs.Prelude.{◌++◌, length, Option, Some, None, is_none, Result, Ok, Err, ◌⊎◌}
use Rattle.std.specs.List.{flat_map}
use Rattle.std.specs.Result.{result_unwrap_or}
use Rattle.std.specs.Int.{w8, w16, w32, w64, to_be_bytes}
use Rattle.std.specs.Ordering.{is_lt}
use Rattle.std.proofs.Common.{inl, inr}
use Rattle.cynara_keys.specs.Text.{same_text, text_cmp}
use Rattle.cynara_keys.specs.Name.{is_name}
use Rattle.cynara_keys.specs.BucketName.{is_bucket_name}
use Rattle.cynara_keys.specs.Metadata.{is_metadata}
use Rattle.cynara_keys.specs.Field as keys
use Rattle.cynara_keys.specs.PolicyResult.{Ruling, may_carry, is_agent}
use Rattle.cynara_keys.specs.declared.fields.Field.{Field}
use Rattle.cynara_keys.specs.declared.fields.FilterField.{FilterField}
use Rattle.cynara_keys.specs.Key.{Key}
use Rattle.cynara_keys.specs.declared.keys.Filter.{Filter}
use Rattle.cynara_keys.specs.declared.keys.Policy.{Policy}
use Rattle.cynara_keys.specs.Key.{Question}
use Rattle.cynara_keys.specs.declared.results.Kind.{Kind}
use Rattle.bucket_store.specs.declared.policy_changes.Change.{Change}
use Rattle.bucket_store.specs.declared.policy_changes.Change.TheVariants.{Set, Delete}
use Rattle.bucket_eval.specs.declared.answers.Row.{Row}
use Rattle.bucket_eval.specs.declared.answers.Verdict.{Verdict}
use Rattle.app_registry.specs.Ident.{ident_fault}
use Rattle.app_registry.specs.declared.installs.Install.{Install}
use Rattle.app_registry.specs.declared.installs.Scope.{Scope}
use Rattle.app_registry.specs.declared.installs.Scope.TheVariants.{Everyone, One}
use Rattle.app_registry.specs.declared.users.UserType.{UserType}
use Rattle.app_registry.specs.declared.users.UserType.TheVariants.{System, Admin, Normal, Guest}
use Rattle.desk_ports.specs.FileName.{file_name_fault}
use Rattle.rule_templates.specs.declared.lines.TemplateLine.{TemplateLine}
use Rattle.rule_templates.specs.declared.templates.TemplateRefusal.{TemplateRefusal}
use Rattle.rule_templates.specs.Template.{template_of, template_text}
use Rattle.wire_fields.specs.Limits.{most_part_bytes}
use Rattle.wire_fields.specs.Left.{Left, Reading, ◌>>=◌}
use Rattle.wire_fields.specs.Format.{Format, number, text, sized, tested, seen, ◌⊗◌, leading, nothing, either}

-- ---- names and keys

-- the name of a client, a user or a privilege
abbrev pub name : Format (List ℕ)
name = tested is_name text

abbrev pub bucket : Format (List ℕ)
bucket = tested is_bucket_name text

abbrev pub is_field_text : List ℕ → Bool
is_field_text bytes = is_none (keys.field_fault bytes)

abbrev pub is_filter_text : List ℕ → Bool
is_filter_text bytes = is_none (keys.filter_field_fault bytes)

-- `*` or a name, as its text
abbrev pub field_text : Format (List ℕ)
field_text = tested is_field_text text

-- `*` or a name
abbrev pub field : Format Field
field = seen keys.field_of keys.field_text field_text

-- `#`, `*` or a name
abbrev pub filter_field : Format FilterField
filter_field = seen keys.filter_field_of keys.filter_field_text (tested is_filter_text text)

abbrev pub question : Format Question
question = seen (λ x. record { client = x.0; user = x.1.0; privilege = x.1.1 })
    (λ question. (question.client, (question.user, question.privilege)))
    (name ⊗ (name ⊗ name))

abbrev pub key : Format Key
key =
    seen (λ x. record { client = x.0; user = x.1.0; privilege = x.1.1 })
    (λ key. (key.client, (key.user, key.privilege)))
    (field ⊗ (field ⊗ field))

abbrev pub filter : Format Filter
filter = seen (λ x. record { client = x.0; user = x.1.0; privilege = x.1.1 })
    (λ filter. (filter.client, (filter.user, filter.privilege)))
    (filter_field ⊗ (filter_field ⊗ filter_field))

-- ---- results

abbrev pub kind : Format Kind
kind = seen (λ n. record { 0 = n }) (λ kind. kind.0) (number w16)

-- the kind of an agent
abbrev pub agent_kind : Format Kind
agent_kind = tested (λ kind. is_agent kind.0) kind

-- what a result of this kind may have
abbrev pub metadata_of : ℕ → Format (List ℕ)
metadata_of kind = tested (λ bytes. is_metadata bytes && may_carry kind bytes) text

-- a kind, and the metadata that it may have
abbrev pub ruling : Format Ruling
ruling = seen (λ x. record { kind = x.0; metadata = x.1 }) (λ ruling. (ruling.kind, ruling.metadata))
    (leading (number w16) metadata_of)

abbrev pub policy : Format Policy
policy = seen (λ x. record { key = x.0; result = x.1 }) (λ policy. (policy.key, policy.result)) (key ⊗ ruling)

-- a change of a policy: with a flag of 1 it is set, with a flag of 0 deleted
abbrev pub change_of : ((List ℕ × Key) × Ruling) ⊎ (List ℕ × Key) → Change
change_of (inl x) = Set x.0.0 x.0.1 x.1
change_of (inr x) = Delete x.0 x.1

abbrev pub of_change : Change → ((List ℕ × Key) × Ruling) ⊎ (List ℕ × Key)
of_change (Set bucket key result) = inl ((bucket, key), result)
of_change (Delete bucket key) = inr (bucket, key)

abbrev pub change : Format Change
change = seen change_of of_change (either ((bucket ⊗ key) ⊗ ruling) (bucket ⊗ key))

-- ---- verdicts

-- the texts of a policy's key
abbrev pub row : Format Row
row =
    seen (λ x. record { client = x.0; user = x.1.0; privilege = x.1.1 })
    (λ row. (row.client, (row.user, row.privilege)))
    (field_text ⊗ (field_text ⊗ field_text))

abbrev pub some_or : {X : Type 0} → X ⊎ Unit {0} → Option X
some_or (inl x) = Some x
some_or (inr none) = None

abbrev pub or_none : {X : Type 0} → Option X → X ⊎ Unit {0}
or_none (Some x) = inl x
or_none None = inr tt

-- behind a flag of 1 a value, and nothing behind a flag of 0
abbrev pub optional : {X : Type 0} → Format X → Format (Option X)
optional format = seen some_or or_none (either format nothing)

abbrev pub verdict : Format Verdict
verdict = seen
    (λ x. record {
      commit = x.0;
      answer = record {
        kind = record { 0 = x.1.0.kind };
        metadata = x.1.0.metadata;
        cause = record { bucket = x.1.1.0; row = x.1.1.1 };
      };
    })
    (λ verdict. (
      verdict.commit,
      (
        record { kind = verdict.answer.kind.0; metadata = verdict.answer.metadata },
        (verdict.answer.cause.bucket, verdict.answer.cause.row),
      ),
    ))
    (number w64 ⊗ (ruling ⊗ (bucket ⊗ optional row)))

-- how many open questions there may be, and how many numbers of questions
abbrev pub is_most : ℕ → Bool
is_most n = n == 1024 || n == 4294967295

abbrev pub most : Format ℕ
most = tested is_most (number w32)

-- ---- users and installs

abbrev pub user_type_of : ℕ → UserType
user_type_of n = if n == 0 then System else (if n == 1 then Admin else (if n == 2 then Normal else Guest))

abbrev pub user_type_number : UserType → ℕ
user_type_number System = 0
user_type_number Admin = 1
user_type_number Normal = 2
user_type_number Guest = 3

abbrev pub user_type : Format UserType
user_type = seen user_type_of user_type_number (tested (λ n. nat_lt n 4) (number w8))

-- the name of a package or an application
abbrev pub is_ident : List ℕ → Bool
is_ident bytes = is_none (ident_fault bytes)

abbrev pub ident : Format (List ℕ)
ident = tested is_ident text

-- the name of an author, and no bytes for none
abbrev pub is_author_text : List ℕ → Bool
is_author_text bytes = length bytes == 0 || is_ident bytes

abbrev pub author_of : List ℕ → Option (List ℕ)
author_of [] = None
author_of (byte ∷ bytes) = Some (byte ∷ bytes)

abbrev pub author_text : Option (List ℕ) → List ℕ
author_text None = []
author_text (Some author) = author

abbrev pub author : Format (Option (List ℕ))
author = seen author_of author_text (tested is_author_text text)

-- behind a flag of 1 the one user, and every user with a flag of 0
abbrev pub scope_of : Option ℕ → Scope
scope_of None = Everyone
scope_of (Some uid) = One uid

abbrev pub scope_uid : Scope → Option ℕ
scope_uid Everyone = None
scope_uid (One uid) = Some uid

abbrev pub scope : Format Scope
scope = seen scope_of scope_uid (optional (number w32))

-- a name behind another, if there is one
abbrev pub comes_after : Option (List ℕ) → List ℕ → Bool
comes_after None next = true
comes_after (Some last) next = is_lt (text_cmp last next)

-- so many names, each behind the one before it
unfoldable pub rising_names : Option (List ℕ) → ℕ → Left → Reading (List (List ℕ))
rising_names last zero left = Ok ([], left)
rising_names last (suc count) left = do
  first ← (tested (comes_after last) name).read left
  others ← rising_names (Some first.0) count first.1
  Ok (first.0 ∷ others.0, others.1)

-- a number of four bytes, and so many names that rise
abbrev pub privileges : Format (List (List ℕ))
privileges = record {
  spelled = λ names. to_be_bytes w32 (length names) ++ flat_map name.spelled names;
  read = λ left. (number w32).read left >>= λ count. rising_names None count.0 count.1;
}

-- an install into a package of a kind, which the operation tells
abbrev pub install : Bool → Format Install
install hybrid = seen
    (λ x. record {
      «package» = x.0;
      author = x.1.0;
      app = x.1.1.0;
      scope = x.1.1.1.0;
      privileges = x.1.1.1.1;
      hybrid = hybrid;
    })
    (λ install. (install.package, (install.author, (install.app, (install.scope, install.privileges)))))
    (ident ⊗ (author ⊗ (ident ⊗ (scope ⊗ privileges))))

-- ---- files and templates

abbrev pub is_file_text : List ℕ → Bool
is_file_text bytes = is_none (file_name_fault bytes)

abbrev pub file_name : Format (List ℕ)
file_name = tested is_file_text text

-- few enough bytes of a file for one reply
abbrev pub is_file_part : List ℕ → Bool
is_file_part bytes = nat_lt (length bytes) (suc most_part_bytes)

abbrev pub file_part : Format (List ℕ)
file_part = tested is_file_part (sized w32)

-- whether a text is the one spelling of the template that it is read as
abbrev pub is_text_of : List ℕ → Result (List TemplateLine) TemplateRefusal → Bool
is_text_of bytes (Ok lines) = same_text (template_text lines) bytes
is_text_of bytes (Err refusal) = false

abbrev pub is_template_text : List ℕ → Bool
is_template_text bytes = is_text_of bytes (template_of bytes)

abbrev pub template : Format (List TemplateLine)
template = seen (λ bytes. result_unwrap_or (template_of bytes) []) template_text (tested is_template_text text)
