-- The lines that line_script reads, as lines of forms.
use Rattle.std.proofs.Common.{◌≡◌, ℕ, Bool, true, false, cond, ◌&&◌, List, [], ◌∷◌, Option, Some, None, refl, sym, ap}
use Rattle.std.proofs.Common.{◌∙◌}
use Rattle.std.specs.Prelude.{is_some, option_map, codes}
use Rattle.std.specs.List.{list_all}
use Rattle.cynara_keys.specs.Text.{same_text}
use Rattle.cynara_keys.specs.Name.{is_name}
use Rattle.cynara_keys.specs.Key.{Key}
use Rattle.cynara_keys.specs.Key.{Question}
use Rattle.cynara_keys.specs.declared.keys.Filter.{Filter}
use Rattle.bucket_store.specs.declared.policy_changes.Change.{Change}
use Rattle.script_words.specs.Words.{word, end_of, ◌>>=◌}
use Rattle.level_requests.specs.Level.{level_at}
use Rattle.level_requests.specs.declared.requests.Setter.{Setter}
use Rattle.level_requests.specs.declared.requests.Setter.TheVariants.{Own, Administrator}
use Rattle.script_words.specs.WordForms.{bucket_at, name_at, field_at, filter_field_at, depth_at, result_at, uid_at}
use Rattle.script_words.specs.WordForms.{user_type_at, scope_at, package_kind_at, ident_at, author_at, label_at}
use Rattle.script_words.specs.WordForms.{request_at}
use Rattle.line_script.specs.Grammar.{names_at, set_at, unset_at, set_bucket_at, drop_at, erase_at, layout_at, user_at}
use Rattle.line_script.specs.Grammar.{nouser_at, install_at, convert_at, remove_at, list_at, check_at, from_at}
use Rattle.line_script.specs.Grammar.{access_at, target_at, setter_at, level_line_at, levels_at, audit_at, share_at}
use Rattle.line_script.specs.Grammar.{unshare_at, shares_at, status_at, stop_at, change_at, change_step, line_at}
use Rattle.script_words.specs.Phrases.{key_at, question_at, filter_at}
use Rattle.script_words.specs.declared.verbs.Verb.{Verb}
use Rattle.script_words.specs.declared.verbs.Verb.TheVariants as verb
use Rattle.line_reasons.specs.declared.forms.Form.{Form}
use Rattle.line_reasons.specs.declared.forms.Form.TheVariants.{Bucket, Field, Name, Names, FilterField, Depth, Result}
use Rattle.line_reasons.specs.declared.forms.Form.TheVariants.{Uid, UserType, Scope, PackageKind, Setter as SetterForm}
use Rattle.line_reasons.specs.declared.forms.Form.TheVariants.{Level as LevelForm, Ident, Author, Label, Request}
use Rattle.line_reasons.specs.parts.Forms.{is_word, may_lack}
use Rattle.line_reasons.specs.parts.Runs.{behind_form}
use Rattle.line_reasons.specs.parts.Grounds.{verb_forms, changes_policies, forms_if}
use Rattle.line_reasons.proofs.IdentFronts.{tested}
use Rattle.line_reasons.proofs.Words.{holds_left, fits}

module _ {A B : Type 0} (form : Form) (forms : List Form) (reading : List ℕ → Option A)
    (reads : (text : List ℕ) → is_some (reading text) ≡ is_word form text)
    (must : may_lack form ≡ false)
    (plain : (text : List ℕ) → behind_form form forms text ≡ forms) (next : A × List (List ℕ) → Option B) where
  by_word : ((value : A) (left : List (List ℕ)) → is_some (next (value, left)) ≡ fits forms left)
      → (text : List ℕ) (rest : List (List ℕ)) (found : Option A) → is_some found ≡ is_word form text
      → is_some (option_map (λ value. (value, rest)) found >>= next)
      ≡ holds_left (λ left. fits left rest) (cond (is_word form text) (Some forms) None)
  by_word later text rest None is = ap (λ b. holds_left (λ left. fits left rest) (cond b (Some forms) None)) is
  by_word later text rest (Some value) is =
      later value rest ∙ ap (λ b. holds_left (λ left. fits left rest) (cond b (Some forms) None)) is

  -- one word of a line
  pub then_word : ((value : A) (left : List (List ℕ)) → is_some (next (value, left)) ≡ fits forms left)
      → (words : List (List ℕ)) → is_some (word reading words >>= next) ≡ fits (form ∷ forms) words
  then_word later [] = sym must
  then_word later (text ∷ rest) =
      by_word later text rest (reading text) (reads text)
      ∙ ap (λ left. holds_left (λ left. fits left rest) (cond (is_word form text) (Some left) None)) (sym (plain text))

-- the same within a phrase of several words
module _ {A B C : Type 0} (m : Option A) (f : A → Option B) (g : B → Option C) where
  pub nested : (m >>= f) >>= g ≡ m >>= (λ x. f x >>= g)
  nested = elim m as (λ m. (m >>= f) >>= g ≡ m >>= (λ x. f x >>= g)) [ None ↦ refl | Some x ↦ refl ]

pub ended : {B : Type 0} (value : B) (words : List (List ℕ))
    → is_some (end_of words >>= (λ _. Some value)) ≡ fits [] words
unfolding end_of
ended value [] = refl
ended value (text ∷ rest) = refl

module _ {A B C : Type 0} (form : Form) (forms : List Form) (reading : List ℕ → Option A)
    (reads : (text : List ℕ) → is_some (reading text) ≡ is_word form text)
    (must : may_lack form ≡ false)
    (plain : (text : List ℕ) → behind_form form forms text ≡ forms) (inner : A × List (List ℕ) → Option B) (next : B → Option C) where
  pub then_inner : ((value : A) (left : List (List ℕ)) → is_some (inner (value, left) >>= next) ≡ fits forms left)
      → (words : List (List ℕ)) → is_some ((word reading words >>= inner) >>= next) ≡ fits (form ∷ forms) words
  then_inner later words =
      ap is_some (nested (word reading words) inner next)
      ∙ then_word form forms reading reads must plain (λ read. inner read >>= next) later words

-- ---- phrases

module _ {C : Type 0} (forms : List Form) where
  key_then : (next : Key × List (List ℕ) → Option C)
      → ((key : Key) (left : List (List ℕ)) → is_some (next (key, left)) ≡ fits forms left)
      → (words : List (List ℕ)) → is_some (key_at words >>= next) ≡ fits (Field ∷ Field ∷ Field ∷ forms) words
  unfolding key_at
  key_then next later words =
      then_inner Field (Field ∷ Field ∷ forms) field_at (λ text. refl) refl (λ text. refl) _ next
      (λ client left. then_inner Field (Field ∷ forms) field_at (λ text. refl) refl (λ text. refl) _ next
      (λ user left. then_inner Field forms field_at (λ text. refl) refl (λ text. refl) _ next
      (λ privilege left. later _ left) left) left) words

  question_then : (next : Question × List (List ℕ) → Option C)
      → ((question : Question) (left : List (List ℕ)) → is_some (next (question, left)) ≡ fits forms left)
      → (words : List (List ℕ)) → is_some (question_at words >>= next) ≡ fits (Name ∷ Name ∷ Name ∷ forms) words
  unfolding question_at
  question_then next later words =
      then_inner Name (Name ∷ Name ∷ forms) name_at (λ text. refl) refl (λ text. refl) _ next
      (λ client left. then_inner Name (Name ∷ forms) name_at (λ text. refl) refl (λ text. refl) _ next
      (λ user left. then_inner Name forms name_at (λ text. refl) refl (λ text. refl) _ next
      (λ privilege left. later _ left) left) left) words

  filter_then : (next : Filter × List (List ℕ) → Option C)
      → ((filter : Filter) (left : List (List ℕ)) → is_some (next (filter, left)) ≡ fits forms left)
      → (words : List (List ℕ)) → is_some (filter_at words >>= next)
      ≡ fits (FilterField ∷ FilterField ∷ FilterField ∷ forms) words
  unfolding filter_at
  filter_then next later words =
      then_inner FilterField (FilterField ∷ FilterField ∷ forms) filter_field_at (λ text. refl) refl
      (λ text. refl) _ next
      (λ client left. then_inner FilterField (FilterField ∷ forms) filter_field_at (λ text. refl) refl
      (λ text. refl) _ next
      (λ user left. then_inner FilterField forms filter_field_at (λ text. refl) refl (λ text. refl) _ next
      (λ privilege left. later _ left) left) left) words

-- `own`, or `admin` and the number of a user
module _ {C : Type 0} (forms : List Form) (next : Setter × List (List ℕ) → Option C)
    (later : (setter : Setter) (left : List (List ℕ)) → is_some (next (setter, left)) ≡ fits forms left) where
  -- what a word names that may be one of the two, and the words behind it
  abbrev named_by : List (List ℕ) → Bool → Bool → Option (Bool × List (List ℕ))
  named_by rest own admin = option_map (λ named. (named, rest)) (cond own (Some false) (cond admin (Some true) None))

  setter_by : (text : List ℕ) (rest : List (List ℕ)) (own admin : Bool)
      → is_some ((named_by rest own admin >>= (λ named. target_at named.0 named.1)) >>= next)
      ≡ holds_left (λ left. fits left rest)
      (cond (is_some (cond own (Some false) (cond admin (Some true) None))) (Some (cond own forms (Uid ∷ forms))) None)
  unfolding target_at
  setter_by text rest true admin = later Own rest
  setter_by text rest false true =
      then_inner Uid forms uid_at (λ text. refl) refl (λ text. refl) _ next
      (λ target left. later (Administrator target) left) rest
  setter_by text rest false false = refl

  setter_then : (words : List (List ℕ)) → is_some (setter_at words >>= next) ≡ fits (SetterForm ∷ Uid ∷ forms) words
  unfolding setter_at
  setter_then [] = refl
  setter_then (text ∷ rest) = setter_by text rest (same_text text (codes "own")) (same_text text (codes "admin"))

names_fit : (words : List (List ℕ)) → fits (Names ∷ []) words ≡ list_all is_name words
names_fit [] = refl
names_fit (text ∷ words) =
    ap (λ b. holds_left (λ left. fits left words) (cond b (Some (Names ∷ [])) None)) (tested (is_name text) text)
    ∙ by_case (names_fit words) (is_name text) where
      by_case : fits (Names ∷ []) words ≡ list_all is_name words → (b : Bool)
          → holds_left (λ left. fits left words) (cond b (Some (Names ∷ [])) None) ≡ b && list_all is_name words
      by_case later true = later
      by_case later false = refl

names_then : {B : Type 0} (next : List (List ℕ) → B) (words : List (List ℕ))
    → is_some (names_at words >>= (λ names. Some (next names))) ≡ fits (Names ∷ []) words
names_then next words = by_case (list_all is_name words) ∙ sym (names_fit words) where
  by_case : (b : Bool) → is_some (cond b (Some words) None >>= (λ names. Some (next names))) ≡ b
  by_case true = refl
  by_case false = refl

-- ---- lines

set_fits : (words : List (List ℕ)) → is_some (set_at words) ≡ fits (verb_forms verb.Set) words
unfolding set_at
set_fits words =
    then_word Bucket (Field ∷ Field ∷ Field ∷ Result ∷ []) bucket_at (λ text. refl) refl (λ text. refl) _
    (λ bucket left. key_then (Result ∷ []) _
    (λ key left. then_word Result [] result_at (λ text. refl) refl (λ text. refl) _
    (λ result left. ended _ left) left) left) words

unset_fits : (words : List (List ℕ)) → is_some (unset_at words) ≡ fits (verb_forms verb.Unset) words
unfolding unset_at
unset_fits words =
    then_word Bucket (Field ∷ Field ∷ Field ∷ []) bucket_at (λ text. refl) refl (λ text. refl) _
    (λ bucket left. key_then [] _ (λ key left. ended _ left) left) words

bucket_fits : (words : List (List ℕ)) → is_some (set_bucket_at words) ≡ fits (verb_forms verb.Bucket) words
unfolding set_bucket_at
bucket_fits words =
    then_word Bucket (Result ∷ []) bucket_at (λ text. refl) refl (λ text. refl) _
    (λ bucket left. then_word Result [] result_at (λ text. refl) refl (λ text. refl) _
    (λ result left. ended _ left) left) words

drop_fits : (words : List (List ℕ)) → is_some (drop_at words) ≡ fits (verb_forms verb.Drop) words
unfolding drop_at
drop_fits words = then_word Bucket [] bucket_at (λ text. refl) refl (λ text. refl) _ (λ bucket left. ended _ left) words

erase_fits : (words : List (List ℕ)) → is_some (erase_at words) ≡ fits (verb_forms verb.Erase) words
unfolding erase_at
erase_fits words =
    then_word Bucket (FilterField ∷ FilterField ∷ FilterField ∷ []) bucket_at (λ text. refl) refl (λ text. refl) _
    (λ bucket left. filter_then [] _ (λ filter left. ended _ left) left) words

user_fits : (words : List (List ℕ)) → is_some (user_at words) ≡ fits (verb_forms verb.User) words
unfolding user_at
user_fits words =
    then_word Uid (UserType ∷ []) uid_at (λ text. refl) refl (λ text. refl) _
    (λ uid left. then_word UserType [] user_type_at (λ text. refl) refl (λ text. refl) _
    (λ kind left. ended _ left) left) words

nouser_fits : (words : List (List ℕ)) → is_some (nouser_at words) ≡ fits (verb_forms verb.NoUser) words
unfolding nouser_at
nouser_fits words = then_word Uid [] uid_at (λ text. refl) refl (λ text. refl) _ (λ uid left. ended _ left) words

install_fits : (hybrid : Bool) (words : List (List ℕ))
    → is_some (install_at hybrid words) ≡ fits (verb_forms verb.Install) words
unfolding install_at
install_fits hybrid words =
    then_word Ident (Author ∷ Ident ∷ Scope ∷ Names ∷ []) ident_at (λ text. refl) refl (λ text. refl) _
    (λ name left. then_word Author (Ident ∷ Scope ∷ Names ∷ []) author_at (λ text. refl) refl (λ text. refl) _
    (λ author left. then_word Ident (Scope ∷ Names ∷ []) ident_at (λ text. refl) refl (λ text. refl) _
    (λ app left. then_word Scope (Names ∷ []) scope_at (λ text. refl) refl (λ text. refl) _
    (λ scope left. names_then _ left) left) left) left) words

convert_fits : (words : List (List ℕ)) → is_some (convert_at words) ≡ fits (verb_forms verb.Convert) words
unfolding convert_at
convert_fits words =
    then_word Ident (PackageKind ∷ []) ident_at (λ text. refl) refl (λ text. refl) _
    (λ name left. then_word PackageKind [] package_kind_at (λ text. refl) refl (λ text. refl) _
    (λ hybrid left. ended _ left) left) words

remove_fits : (words : List (List ℕ)) → is_some (remove_at words) ≡ fits (verb_forms verb.Remove) words
unfolding remove_at
remove_fits words =
    then_word Ident (Scope ∷ []) ident_at (λ text. refl) refl (λ text. refl) _
    (λ app left. then_word Scope [] scope_at (λ text. refl) refl (λ text. refl) _
    (λ scope left. ended _ left) left) words

list_fits : (words : List (List ℕ)) → is_some (list_at words) ≡ fits (verb_forms verb.List) words
unfolding list_at
list_fits words =
    then_word Bucket (FilterField ∷ FilterField ∷ FilterField ∷ []) bucket_at (λ text. refl) refl (λ text. refl) _
    (λ bucket left. filter_then [] _ (λ filter left. ended _ left) left) words

check_fits : (words : List (List ℕ)) → is_some (check_at words) ≡ fits (verb_forms verb.Check) words
unfolding check_at
check_fits words = question_then [] _ (λ question left. ended _ left) words

from_fits : (words : List (List ℕ)) → is_some (from_at words) ≡ fits (verb_forms verb.From) words
unfolding from_at
from_fits words =
    then_word Bucket (Depth ∷ Name ∷ Name ∷ Name ∷ []) bucket_at (λ text. refl) refl (λ text. refl) _
    (λ bucket left. then_word Depth (Name ∷ Name ∷ Name ∷ []) depth_at (λ text. refl) refl (λ text. refl) _
    (λ deep left. question_then [] _ (λ question left. ended _ left) left) left) words

access_fits : (words : List (List ℕ)) → is_some (access_at words) ≡ fits (verb_forms verb.Access) words
unfolding access_at
access_fits words =
    then_word Label (Label ∷ Request ∷ []) label_at (λ text. refl) refl (λ text. refl) _
    (λ subject left. then_word Label (Request ∷ []) label_at (λ text. refl) refl (λ text. refl) _
    (λ object left. then_word Request [] request_at (λ text. refl) refl (λ text. refl) _
    (λ asked left. ended _ left) left) left) words

level_fits : (words : List (List ℕ)) → is_some (level_line_at words) ≡ fits (verb_forms verb.Level) words
unfolding level_line_at
level_fits words =
    then_word Uid (SetterForm ∷ Uid ∷ Name ∷ Name ∷ LevelForm ∷ []) uid_at (λ text. refl) refl (λ text. refl) _
    (λ caller left. setter_then (Name ∷ Name ∷ LevelForm ∷ []) _
    (λ setter left. then_word Name (Name ∷ LevelForm ∷ []) name_at (λ text. refl) refl (λ text. refl) _
    (λ client left. then_word Name (LevelForm ∷ []) name_at (λ text. refl) refl (λ text. refl) _
    (λ privilege left. then_word LevelForm [] level_at (λ text. refl) refl (λ text. refl) _
    (λ level left. ended _ left) left) left) left) left) words

levels_fit : (words : List (List ℕ)) → is_some (levels_at words) ≡ fits (verb_forms verb.Levels) words
unfolding levels_at
levels_fit words = then_word Uid [] uid_at (λ text. refl) refl (λ text. refl) _ (λ uid left. ended _ left) words

audit_fits : (words : List (List ℕ)) → is_some (audit_at words) ≡ fits (verb_forms verb.Audit) words
unfolding audit_at
audit_fits words = then_word Name [] name_at (λ text. refl) refl (λ text. refl) _ (λ user left. ended _ left) words

share_fits : (words : List (List ℕ)) → is_some (share_at words) ≡ fits (verb_forms verb.Share) words
unfolding share_at
share_fits words =
    then_word Ident (Ident ∷ Ident ∷ []) ident_at (λ text. refl) refl (λ text. refl) _
    (λ owner left. then_word Ident (Ident ∷ []) ident_at (λ text. refl) refl (λ text. refl) _
    (λ target left. then_word Ident [] ident_at (λ text. refl) refl (λ text. refl) _
    (λ name left. ended _ left) left) left) words

unshare_fits : (words : List (List ℕ)) → is_some (unshare_at words) ≡ fits (verb_forms verb.Unshare) words
unfolding unshare_at
unshare_fits words =
    then_word Ident (Ident ∷ Ident ∷ []) ident_at (λ text. refl) refl (λ text. refl) _
    (λ owner left. then_word Ident (Ident ∷ []) ident_at (λ text. refl) refl (λ text. refl) _
    (λ target left. then_word Ident [] ident_at (λ text. refl) refl (λ text. refl) _
    (λ name left. ended _ left) left) left) words

shares_fit : (words : List (List ℕ)) → is_some (shares_at words) ≡ fits [] words
unfolding shares_at
shares_fit words = ended _ words

layout_fits : (words : List (List ℕ)) → is_some (layout_at words) ≡ fits [] words
unfolding layout_at
layout_fits words = ended _ words

status_fits : (words : List (List ℕ)) → is_some (status_at words) ≡ fits [] words
unfolding status_at
status_fits words = ended _ words

stop_fits : (words : List (List ℕ)) → is_some (stop_at words) ≡ fits [] words
unfolding stop_at
stop_fits words = ended _ words

stepped : (change : Option Change) → is_some (option_map change_step change) ≡ is_some change
stepped None = refl
stepped (Some change) = refl

-- the words behind each first word
pub line_fits : (verb : Verb) (words : List (List ℕ)) → is_some (line_at verb words) ≡ fits (verb_forms verb) words
unfolding line_at
line_fits verb.Set words = stepped (set_at words) ∙ set_fits words
line_fits verb.Unset words = stepped (unset_at words) ∙ unset_fits words
line_fits verb.Bucket words = bucket_fits words
line_fits verb.Drop words = drop_fits words
line_fits verb.Erase words = erase_fits words
line_fits verb.Layout words = layout_fits words
line_fits verb.User words = user_fits words
line_fits verb.NoUser words = nouser_fits words
line_fits verb.Install words = install_fits false words
line_fits verb.Hybrid words = install_fits true words
line_fits verb.Convert words = convert_fits words
line_fits verb.Remove words = remove_fits words
line_fits verb.List words = list_fits words
line_fits verb.Check words = check_fits words
line_fits verb.From words = from_fits words
line_fits verb.Access words = access_fits words
line_fits verb.Level words = level_fits words
line_fits verb.Levels words = levels_fit words
line_fits verb.Audit words = audit_fits words
line_fits verb.Share words = share_fits words
line_fits verb.Unshare words = unshare_fits words
line_fits verb.Shares words = shares_fit words
line_fits verb.Status words = status_fits words
line_fits verb.Stop words = stop_fits words

pub change_fits : (verb : Verb) (words : List (List ℕ)) → is_some (change_at verb words)
    ≡ holds_left (λ forms. fits forms words) (forms_if (changes_policies verb) (verb_forms verb))
unfolding change_at
change_fits verb.Set words = set_fits words
change_fits verb.Unset words = unset_fits words
change_fits verb.Bucket words = refl
change_fits verb.Drop words = refl
change_fits verb.Erase words = refl
change_fits verb.Layout words = refl
change_fits verb.User words = refl
change_fits verb.NoUser words = refl
change_fits verb.Install words = refl
change_fits verb.Hybrid words = refl
change_fits verb.Convert words = refl
change_fits verb.Remove words = refl
change_fits verb.List words = refl
change_fits verb.Check words = refl
change_fits verb.From words = refl
change_fits verb.Access words = refl
change_fits verb.Level words = refl
change_fits verb.Levels words = refl
change_fits verb.Audit words = refl
change_fits verb.Share words = refl
change_fits verb.Unshare words = refl
change_fits verb.Shares words = refl
change_fits verb.Status words = refl
change_fits verb.Stop words = refl
