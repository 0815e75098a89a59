-- The forms of words: which words have a form, and what such a word can begin with.
use Rattle.std.specs.Prelude.{ℕ, Bool, true, false, not, ◌&&◌, ◌||◌, nat_lt, nat_le, ◌==◌, if◌then◌else◌, List, [], ◌∷◌}
use Rattle.std.specs.Prelude.{length, Option, Some, None, is_some, codes}
use Rattle.cynara_keys.specs.Text.{same_text, is_visible, is_word_byte}
use Rattle.cynara_keys.specs.Metadata.{is_metadata}
use Rattle.cynara_keys.specs.PolicyResult.{is_agent, last_agent}
use Rattle.cynara_keys.specs.Limits.{most_name_bytes, most_bucket_name_bytes}
use Rattle.cynara_keys.specs.declared.names.NameRefusal.{NameRefusal}
use Rattle.cynara_keys.specs.declared.names.NameRefusal.TheVariants.{Empty, TooLong, BadByte, Reserved, Memory}
use Rattle.smack_rules.specs.Limits.{most_label_bytes}
use Rattle.smack_rules.specs.Limits.{most_mode_word_bytes}
use Rattle.smack_rules.specs.Label.{is_label_byte, begins_with_dash}
use Rattle.smack_rules.specs.Modes.{is_mode_byte, stands_in, letters_that, is_empty, modes_of}
use Rattle.app_registry.specs.Limits.{most_ident_bytes}
use Rattle.app_registry.specs.Ident.{is_ident_byte, begins_with_mark}
use Rattle.rule_templates.specs.Placeholder.{begins_with_tilde}
use Rattle.rule_templates.specs.TemplateLine.{word_of}
use Rattle.level_requests.specs.Level.{level_at}
use Rattle.script_words.specs.Numbers.{number_that}
use Rattle.script_words.specs.WordForms.{bucket_at, name_at, field_at, filter_field_at, depth_at, result_at, uid_at}
use Rattle.script_words.specs.WordForms.{user_type_at, scope_at, package_kind_at, setter_named, ident_at, author_at}
use Rattle.script_words.specs.WordForms.{label_at, request_at}
use Rattle.line_reasons.specs.declared.forms.Form.{Form}
use Rattle.line_reasons.specs.declared.forms.Form.TheVariants.{Bucket, Field, Name, Names, FilterField, Depth, Result}
use Rattle.line_reasons.specs.declared.forms.Form.TheVariants.{Uid, UserType, Scope, PackageKind, Setter, Level, Ident}
use Rattle.line_reasons.specs.declared.forms.Form.TheVariants.{Author, Label, Request, TemplateLabel, Modes, MoreModes}
use Rattle.line_reasons.specs.parts.Texts.{begins, begins_one, is_behind, begins_behind, is_run, cut_at, by_cut}

-- ---- which words have a form

abbrev pub is_word : Form → List ℕ → Bool
is_word Bucket text = is_some (bucket_at text)
is_word Field text = is_some (field_at text)
is_word Name text = is_some (name_at text)
is_word Names text = is_some (name_at text)
is_word FilterField text = is_some (filter_field_at text)
is_word Depth text = is_some (depth_at text)
is_word Result text = is_some (result_at text)
is_word Uid text = is_some (uid_at text)
is_word UserType text = is_some (user_type_at text)
is_word Scope text = is_some (scope_at text)
is_word PackageKind text = is_some (package_kind_at text)
is_word Setter text = is_some (setter_named text)
is_word Level text = is_some (level_at text)
is_word Ident text = is_some (ident_at text)
is_word Author text = is_some (author_at text)
is_word Label text = is_some (label_at text)
is_word Request text = is_some (request_at text)
is_word TemplateLabel text = is_some (word_of text)
is_word Modes text = is_some (modes_of text)
is_word MoreModes text = is_some (modes_of text)

-- ---- what a word can begin with

abbrev pub begins_bucket : List ℕ → Bool
begins_bucket front = same_text front (codes ".") || is_run most_bucket_name_bytes is_word_byte front

-- more bytes can make a name of what has this fault: of no bytes, and of `*` and `#` alone
abbrev pub may_go_on : Option NameRefusal → Bool
may_go_on None = true
may_go_on (Some Empty) = true
may_go_on (Some Reserved) = true
may_go_on (Some TooLong) = false
may_go_on (Some (BadByte at)) = false
may_go_on (Some (Memory error)) = false

-- `*` and `#`, which are no names, are fronts of names
abbrev pub begins_name : List ℕ → Bool
begins_name front = is_run most_name_bytes is_visible front

abbrev pub begins_ident : List ℕ → Bool
begins_ident front = is_run most_ident_bytes is_ident_byte front && not (begins_with_mark front)

-- no byte, or a number up to the greatest
abbrev pub begins_number : ℕ → List ℕ → Bool
begins_number most [] = true
begins_number most (digit ∷ digits) = is_some (number_that (λ number. nat_le number most) (digit ∷ digits))

abbrev pub begins_uid : List ℕ → Bool
begins_uid front = begins_number 4294967295 front

abbrev pub begins_with_zero : List ℕ → Bool
begins_with_zero [] = false
begins_with_zero (byte ∷ bytes) = byte == 48

-- each number up to the last but 0 begins the number of an agent, 1 that of agent 10
abbrev pub begins_kind : List ℕ → Bool
begins_kind front = begins_number last_agent front && not (begins_with_zero front)

-- the kind of an agent and its metadata
abbrev pub is_agent_pair : List ℕ → List ℕ → Bool
is_agent_pair kind metadata = is_some (number_that is_agent kind) && is_metadata metadata

-- `KIND:METADATA`
abbrev pub begins_agent : List ℕ → Bool
begins_agent front = by_cut begins_kind is_agent_pair front (cut_at 58 front)

-- `bucket:BUCKET`
abbrev pub is_bucket_result : List ℕ → Bool
is_bucket_result text = is_behind (codes "bucket:") (λ text. is_some (bucket_at text)) text

abbrev pub begins_bucket_result : List ℕ → Bool
begins_bucket_result front = begins_behind (codes "bucket:") begins_bucket front

-- `agent:KIND:METADATA`
abbrev pub is_agent_text : List ℕ → Bool
is_agent_text text = by_cut (λ text. false) is_agent_pair text (cut_at 58 text)

abbrev pub is_agent_result : List ℕ → Bool
is_agent_result text = is_behind (codes "agent:") is_agent_text text

abbrev pub begins_agent_result : List ℕ → Bool
begins_agent_result front = begins_behind (codes "agent:") begins_agent front

-- `deny`, `none`, `allow`, or a text behind `bucket:` or `agent:`
abbrev pub begins_result : List ℕ → Bool
begins_result front =
    begins_one (codes "deny" ∷ codes "none" ∷ codes "allow" ∷ []) front
    || (begins_bucket_result front || begins_agent_result front)

abbrev pub begins_label : List ℕ → Bool
begins_label front = is_run most_label_bytes is_label_byte front && not (begins_with_dash front)

abbrev pub placeholder_texts : List (List ℕ)
placeholder_texts = codes "~PROCESS~" ∷ codes "~PATH_RW~" ∷ codes "~PATH_RO~" ∷ codes "~AUTHOR~" ∷ []

abbrev pub begins_placeholder : List ℕ → Bool
begins_placeholder front = begins_one placeholder_texts front

abbrev pub begins_tilde : List ℕ → Bool
begins_tilde text = begins_with_tilde text

-- a placeholder where it begins with `~`, and else a label
abbrev pub begins_template_label : List ℕ → Bool
begins_template_label front =
    if begins_with_tilde front then begins_one placeholder_texts front else begins_label front

abbrev pub begins_modes : List ℕ → Bool
begins_modes front = is_run most_mode_word_bytes is_mode_byte front

-- modes without `b`, with a letter or with room for one
abbrev pub begins_request : List ℕ → Bool
begins_request front =
    (begins_modes front && not (stands_in front 98))
    && (not (is_empty (letters_that (stands_in front))) || nat_lt (length front) most_mode_word_bytes)

abbrev pub begins_word : Form → List ℕ → Bool
begins_word Bucket front = begins_bucket front
begins_word Field front = begins_name front
begins_word Name front = begins_name front
begins_word Names front = begins_name front
begins_word FilterField front = begins_name front
begins_word Depth front = begins_one (codes "deep" ∷ codes "flat" ∷ []) front
begins_word Result front = begins_result front
begins_word Uid front = begins_uid front
begins_word UserType front = begins_one (codes "system" ∷ codes "admin" ∷ codes "normal" ∷ codes "guest" ∷ []) front
begins_word Scope front = begins front (codes "*") || begins_uid front
begins_word PackageKind front = begins_one (codes "hybrid" ∷ codes "plain" ∷ []) front
begins_word Setter front = begins_one (codes "own" ∷ codes "admin" ∷ []) front
begins_word Level front = begins_one (codes "allow" ∷ codes "ask" ∷ codes "deny" ∷ codes "unset" ∷ []) front
begins_word Ident front = begins_ident front
begins_word Author front = begins front (codes "-") || begins_ident front
begins_word Label front = begins_label front
begins_word Request front = begins_request front
begins_word TemplateLabel front = begins_template_label front
begins_word Modes front = begins_modes front
begins_word MoreModes front = begins_modes front

-- ---- forms at the end of a line

-- a form whose word may be absent
abbrev pub may_lack : Form → Bool
may_lack Names = true
may_lack MoreModes = true
may_lack form = false

-- a form of any number of words
abbrev pub repeats : Form → Bool
repeats Names = true
repeats form = false

-- behind `own` the number of no user stands
abbrev pub leaves_out : Form → List ℕ → Bool
leaves_out Setter word = same_text word (codes "own")
leaves_out form word = false
