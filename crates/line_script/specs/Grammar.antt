-- The lines of a script, as one function from the place in the script and the bytes of a line to its step.
use Rattle.std.specs.Prelude.{ℕ, Bool, true, false, nat_le, ◌==◌, if◌then◌else◌, List, [], ◌∷◌, ◌++◌, length, Option}
use Rattle.std.specs.Prelude.{Some, None, option_map, codes}
use Rattle.std.specs.List.{list_all}
use Rattle.std.specs.Result.{result_ok}
use Rattle.cynara_keys.specs.Text.{same_text, text_cmp}
use Rattle.cynara_keys.specs.Name.{is_name}
use Rattle.bucket_store.specs.declared.policy_changes.Change.{Change}
use Rattle.bucket_store.specs.declared.policy_changes.Change.TheVariants.{Set as SetPolicy, Delete}
use Rattle.app_registry.specs.Rising.{rising}
use Rattle.rule_templates.specs.Template.{with_one_more}
use Rattle.rule_templates.specs.declared.lines.TemplateLine.{TemplateLine}
use Rattle.desk_state.specs.declared.commands.Command.TheVariants as command
use Rattle.level_requests.specs.Level.{level_at}
use Rattle.level_requests.specs.declared.requests.Setter.{Setter}
use Rattle.level_requests.specs.declared.requests.Setter.TheVariants.{Own, Administrator}
use Rattle.script_words.specs.Words.{words_of, word, end_of, ◌>>=◌}
use Rattle.script_words.specs.Phrases.{key_at, question_at, filter_at}
use Rattle.script_words.specs.WordForms.{bucket_at, name_at, depth_at, result_at, uid_at, user_type_at, scope_at}
use Rattle.script_words.specs.WordForms.{package_kind_at, setter_named, ident_at, author_at, label_at, request_at}
use Rattle.script_words.specs.Verbs.{verb_at, is_known_in}
use Rattle.line_script.specs.Block.{Block, outside, batch, template, failed}
use Rattle.script_words.specs.declared.places.Place.{Place}
use Rattle.script_words.specs.declared.verbs.Verb.{Verb}
use Rattle.script_words.specs.declared.verbs.Verb.TheVariants as verb
use Rattle.line_script.specs.declared.steps.Step.{Step}
use Rattle.line_script.specs.declared.steps.Step.TheVariants as step

-- ---- several words

-- the number of the user for whom an administrator sets a level
unfoldable pub target_at : Bool → List (List ℕ) → Option (Setter × List (List ℕ))
target_at false words = Some (Own, words)
target_at true words = do
  target ← word uid_at words
  Some (Administrator target.0, target.1)

-- `own`, or `admin UID`
unfoldable pub setter_at : List (List ℕ) → Option (Setter × List (List ℕ))
setter_at words = do
  named ← word setter_named words
  target_at named.0 named.1

-- any number of names, to the end of the line
abbrev pub names_at : List (List ℕ) → Option (List (List ℕ))
names_at words = if list_all is_name words then Some words else None

-- ---- lines, each behind its first word

-- `set BUCKET CLIENT USER PRIVILEGE RESULT`
unfoldable pub set_at : List (List ℕ) → Option Change
set_at words = do
  bucket ← word bucket_at words
  key ← key_at bucket.1
  result ← word result_at key.1
  ended ← end_of result.1
  Some (SetPolicy bucket.0 key.0 result.0)

-- `unset BUCKET CLIENT USER PRIVILEGE`
unfoldable pub unset_at : List (List ℕ) → Option Change
unset_at words = do
  bucket ← word bucket_at words
  key ← key_at bucket.1
  ended ← end_of key.1
  Some (Delete bucket.0 key.0)

-- `bucket BUCKET RESULT`
unfoldable pub set_bucket_at : List (List ℕ) → Option Step
set_bucket_at words = do
  bucket ← word bucket_at words
  fallback ← word result_at bucket.1
  ended ← end_of fallback.1
  Some (step.Command (command.SetBucket bucket.0 fallback.0))

-- `drop BUCKET`
unfoldable pub drop_at : List (List ℕ) → Option Step
drop_at words = do
  bucket ← word bucket_at words
  ended ← end_of bucket.1
  Some (step.Command (command.RemoveBucket bucket.0))

-- `erase BUCKET FILTER FILTER FILTER`
unfoldable pub erase_at : List (List ℕ) → Option Step
erase_at words = do
  bucket ← word bucket_at words
  filter ← filter_at bucket.1
  ended ← end_of filter.1
  Some (step.Command (command.Erase bucket.0 filter.0))

-- `layout`
unfoldable pub layout_at : List (List ℕ) → Option Step
layout_at words = do
  ended ← end_of words
  Some (step.Command command.Layout)

-- `user UID TYPE`
unfoldable pub user_at : List (List ℕ) → Option Step
user_at words = do
  uid ← word uid_at words
  kind ← word user_type_at uid.1
  ended ← end_of kind.1
  Some (step.Command (command.UserSet uid.0 kind.0))

-- `nouser UID`
unfoldable pub nouser_at : List (List ℕ) → Option Step
nouser_at words = do
  uid ← word uid_at words
  ended ← end_of uid.1
  Some (step.Command (command.UserRemove uid.0))

-- `install PACKAGE AUTHOR APP SCOPE` and any number of privileges, whose order and repeats say nothing. Behind `hybrid`
-- the same words install into a hybrid package.
unfoldable pub install_at : Bool → List (List ℕ) → Option Step
install_at hybrid words = do
  name ← word ident_at words
  author ← word author_at name.1
  app ← word ident_at author.1
  scope ← word scope_at app.1
  privileges ← names_at scope.1
  Some (step.Command (command.Install (record {
    «package» = name.0;
    author = author.0;
    app = app.0;
    scope = scope.0;
    privileges = rising text_cmp privileges;
    hybrid = hybrid;
  })))

-- `convert PACKAGE KIND`
unfoldable pub convert_at : List (List ℕ) → Option Step
convert_at words = do
  name ← word ident_at words
  hybrid ← word package_kind_at name.1
  ended ← end_of hybrid.1
  Some (step.Command (command.Convert name.0 hybrid.0))

-- `remove APP SCOPE`
unfoldable pub remove_at : List (List ℕ) → Option Step
remove_at words = do
  app ← word ident_at words
  scope ← word scope_at app.1
  ended ← end_of scope.1
  Some (step.Command (command.Uninstall app.0 scope.0))

-- `list BUCKET FILTER FILTER FILTER`
unfoldable pub list_at : List (List ℕ) → Option Step
list_at words = do
  bucket ← word bucket_at words
  filter ← filter_at bucket.1
  ended ← end_of filter.1
  Some (step.List bucket.0 filter.0)

-- `check CLIENT USER PRIVILEGE`
unfoldable pub check_at : List (List ℕ) → Option Step
check_at words = do
  question ← question_at words
  ended ← end_of question.1
  Some (step.Check question.0)

-- `from BUCKET MODE CLIENT USER PRIVILEGE`
unfoldable pub from_at : List (List ℕ) → Option Step
from_at words = do
  bucket ← word bucket_at words
  deep ← word depth_at bucket.1
  question ← question_at deep.1
  ended ← end_of question.1
  Some (step.From bucket.0 deep.0 question.0)

-- `access SUBJECT OBJECT MODES`
unfoldable pub access_at : List (List ℕ) → Option Step
access_at words = do
  subject ← word label_at words
  object ← word label_at subject.1
  asked ← word request_at object.1
  ended ← end_of asked.1
  Some (step.Access subject.0 object.0 asked.0)

-- `level CALLER own CLIENT PRIVILEGE LEVEL`, or `level CALLER admin UID CLIENT PRIVILEGE LEVEL`
unfoldable pub level_line_at : List (List ℕ) → Option Step
level_line_at words = do
  caller ← word uid_at words
  setter ← setter_at caller.1
  client ← word name_at setter.1
  privilege ← word name_at client.1
  level ← word level_at privilege.1
  ended ← end_of level.1
  Some (step.Level (record {
    caller = caller.0;
    by = setter.0;
    client = client.0;
    privilege = privilege.0;
    level = level.0;
  }))

-- `levels UID`
unfoldable pub levels_at : List (List ℕ) → Option Step
levels_at words = do
  uid ← word uid_at words
  ended ← end_of uid.1
  Some (step.Levels uid.0)

-- `audit USER`, any name
unfoldable pub audit_at : List (List ℕ) → Option Step
audit_at words = do
  user ← word name_at words
  ended ← end_of user.1
  Some (step.Audit user.0)

-- `share OWNER TARGET NAME`
unfoldable pub share_at : List (List ℕ) → Option Step
share_at words = do
  owner ← word ident_at words
  target ← word ident_at owner.1
  name ← word ident_at target.1
  ended ← end_of name.1
  Some (step.Share owner.0 target.0 name.0)

-- `unshare OWNER TARGET NAME`
unfoldable pub unshare_at : List (List ℕ) → Option Step
unshare_at words = do
  owner ← word ident_at words
  target ← word ident_at owner.1
  name ← word ident_at target.1
  ended ← end_of name.1
  Some (step.Unshare owner.0 target.0 name.0)

-- `shares`
unfoldable pub shares_at : List (List ℕ) → Option Step
shares_at words = do
  ended ← end_of words
  Some step.Shares

-- `status`
unfoldable pub status_at : List (List ℕ) → Option Step
status_at words = do
  ended ← end_of words
  Some step.Status

-- `stop`
unfoldable pub stop_at : List (List ℕ) → Option Step
stop_at words = do
  ended ← end_of words
  Some step.Stop

-- ---- the lines that a first word opens

-- lines that are one command outside a block, and one of several changes within a batch
unfoldable pub change_at : Verb → List (List ℕ) → Option Change
change_at verb.Set words = set_at words
change_at verb.Unset words = unset_at words
change_at verb words = None

-- one change alone
abbrev pub change_step : Change → Step
change_step change = step.Command (command.SetPolicies (change ∷ []))

unfoldable pub line_at : Verb → List (List ℕ) → Option Step
line_at verb.Set words = option_map change_step (set_at words)
line_at verb.Unset words = option_map change_step (unset_at words)
line_at verb.Bucket words = set_bucket_at words
line_at verb.Drop words = drop_at words
line_at verb.Erase words = erase_at words
line_at verb.Layout words = layout_at words
line_at verb.User words = user_at words
line_at verb.NoUser words = nouser_at words
line_at verb.Install words = install_at false words
line_at verb.Hybrid words = install_at true words
line_at verb.Convert words = convert_at words
line_at verb.Remove words = remove_at words
line_at verb.List words = list_at words
line_at verb.Check words = check_at words
line_at verb.From words = from_at words
line_at verb.Access words = access_at words
line_at verb.Level words = level_line_at words
line_at verb.Levels words = levels_at words
line_at verb.Audit words = audit_at words
line_at verb.Share words = share_at words
line_at verb.Unshare words = unshare_at words
line_at verb.Shares words = shares_at words
line_at verb.Status words = status_at words
line_at verb.Stop words = stop_at words

-- the change that a line is
unfoldable pub lone_change : List ℕ → Option Change
lone_change line = do
  first ← word verb_at (words_of line)
  change_at first.0 first.1

-- the step of a line that stands alone, if its first word is known in a script for this place
unfoldable pub lone_step : Place → List ℕ → Option Step
lone_step place line = do
  first ← word verb_at (words_of line)
  if is_known_in place first.0 then line_at first.0 first.1 else None

-- ---- a script, line by line

-- a line without bytes, or with `#` at the front
abbrev pub is_skipped : List ℕ → Bool
is_skipped [] = true
is_skipped (byte ∷ bytes) = byte == 35

-- a line outside a block
unfoldable pub outside_at : Place → List ℕ → Option (Block × Step)
outside_at place line =
    if is_skipped line then Some (outside place, step.Nothing)
    else (if same_text line (codes "batch") then Some (batch place [], step.Nothing)
    else (if same_text line (codes "template") then Some (template place [], step.Nothing)
    else option_map (λ read. (outside place, read)) (lone_step place line)))

-- a line of a batch behind these changes
unfoldable pub batch_at : Place → List Change → List ℕ → Option (Block × Step)
batch_at place changes line =
    if is_skipped line then Some (batch place changes, step.Nothing)
    else (if same_text line (codes "end") then Some (outside place, step.Command (command.SetPolicies changes))
    else option_map (λ change. (batch place (changes ++ change ∷ []), step.Nothing)) (lone_change line))

-- a line of a template behind these lines
unfoldable pub template_at : Place → List TemplateLine → List ℕ → Option (Block × Step)
template_at place lines line =
    if same_text line (codes "end") then Some (outside place, step.Command (command.SetTemplate lines))
    else option_map (λ more. (template place more, step.Nothing)) (result_ok (with_one_more lines line))

-- the step of a line of any length, and where the script is behind it
unfoldable pub any_length_step_at : Block → List ℕ → Option (Block × Step)
any_length_step_at (outside place) line = outside_at place line
any_length_step_at (batch place changes) line = batch_at place changes line
any_length_step_at (template place lines) line = template_at place lines line
any_length_step_at failed line = None

-- The step of a line and where the script is behind it, or nothing where the line is outside the grammar. A line has at
-- most 65535 bytes.
unfoldable pub step_at : Block → List ℕ → Option (Block × Step)
step_at block line = if nat_le (length line) 65535 then any_length_step_at block line else None
