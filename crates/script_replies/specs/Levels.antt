-- What lines on levels and audits are answered.
use Rattle.std.specs.Prelude.{ℕ, Bool, true, false, List, [], ◌++◌, length, Option, Some, None}
use Rattle.std.specs.List.{flat_map, filter_map}
use Rattle.cynara_keys.specs.Key.{Key}
use Rattle.cynara_keys.specs.Text.{text_cmp}
use Rattle.app_registry.specs.Manifest.{manifest_rows}
use Rattle.app_registry.specs.Registry.{RegistryLists}
use Rattle.app_registry.specs.Rising.{rising}
use Rattle.desk_state.specs.DeskState.{DeskState}
use Rattle.desk_state.specs.declared.refusals.Refusal.TheVariants as refusal
use Rattle.policy_levels.specs.Levels.{exact_name}
use Rattle.policy_levels.specs.declared.refusals.LevelRefusal.{LevelRefusal}
use Rattle.policy_levels.specs.declared.refusals.LevelRefusal.TheVariants as level
use Rattle.policy_levels.specs.declared.rows.LevelRow.{LevelRow}
use Rattle.effective_audit.specs.Audit.{audited, fault}
use Rattle.effective_audit.specs.declared.audits.Pair.{Pair}
use Rattle.effective_audit.specs.declared.audits.AuditRefusal.{AuditRefusal}
use Rattle.effective_audit.specs.declared.audits.AuditRefusal.TheVariants as audit
use Rattle.line_answers.specs.Answers.{refusal_text, level_text, levels_text, allowed_text, pairs_text}
use Rattle.line_answers.specs.Answers.{not_administrator_text, too_many_text}

-- why a request for a level is refused; want of memory is no refusal
abbrev pub level_refusal_text : LevelRefusal → List ℕ
level_refusal_text level.NoLayout = refusal_text refusal.NoLayout
level_refusal_text (level.UnknownUser uid) = refusal_text (refusal.UnknownUser uid)
level_refusal_text (level.NotAdministrator kind) = not_administrator_text kind
level_refusal_text (level.Memory error) = []

-- a refusal names a rule; no line answers want of memory
abbrev pub names_level_rule : LevelRefusal → Bool
names_level_rule (level.Memory error) = false
names_level_rule broken = true

abbrev pub level_row_text : LevelRow → List ℕ
level_row_text row = level_text row.client row.privilege row.level

-- the levels, a line each, and how many they are
abbrev pub level_rows_text : List LevelRow → List ℕ
level_rows_text rows = flat_map level_row_text rows ++ levels_text (length rows)

-- ---- audits

-- the applications, by their labels, and the privileges that keys name
abbrev pub clients_in : List Key → List (List ℕ)
clients_in keys = filter_map (λ key. exact_name key.client) keys

abbrev pub privileges_in : List Key → List (List ℕ)
privileges_in keys = filter_map (λ key. exact_name key.privilege) keys

-- an audit is of the applications and the privileges that installs name, each once and in rising order
abbrev pub audited_clients : RegistryLists → List (List ℕ)
audited_clients registry = rising text_cmp (clients_in (manifest_rows registry))

abbrev pub audited_privileges : RegistryLists → List (List ℕ)
audited_privileges registry = rising text_cmp (privileges_in (manifest_rows registry))

abbrev pub pair_text : Pair → List ℕ
pair_text pair = allowed_text pair.client pair.privilege

-- the pairs, a line each, and how many they are
abbrev pub pair_rows_text : List Pair → List ℕ
pair_rows_text pairs = flat_map pair_text pairs ++ pairs_text (length pairs)

-- what is allowed among these names, unless they are too many
abbrev pub audit_text : DeskState → List ℕ → List (List ℕ) → List (List ℕ) → Option AuditRefusal → List ℕ
audit_text desk user clients privileges None = pair_rows_text (audited desk.database user clients privileges)
audit_text desk user clients privileges (Some (audit.TooMany product)) = too_many_text product
audit_text desk user clients privileges (Some (audit.Memory error)) = []

abbrev pub audit_among : DeskState → List ℕ → List (List ℕ) → List (List ℕ) → List ℕ
audit_among desk user clients privileges = audit_text desk user clients privileges (fault clients privileges)

abbrev pub audit_reply : DeskState → List ℕ → List ℕ
audit_reply desk user = audit_among desk user (audited_clients desk.registry) (audited_privileges desk.registry)
