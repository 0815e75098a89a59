-- The fronts of the words of each form.
use Rattle.std.proofs.Common.{◌≡◌, ℕ, ◌<◌, ltb, arith, Bool, true, false, cond, ◌||◌, List, [], ◌∷◌, ◌++◌, inl, inr}
use Rattle.std.proofs.Common.{Option, Some, None, refl, sym, ap, ◌∙◌}
use Rattle.std.specs.Prelude.{◌==◌, is_some, is_none, codes, option_map}
use Rattle.std.specs.List.{list_all, list_any}
use Rattle.std.specs.Str.{bytes_eq}
use Rattle.std.proofs.lemmas.Bool.{and_parts, or_cases, or_right, ltb-false, agree_below_at}
use Rattle.cynara_keys.specs.Text.{same_text, is_visible}
use Rattle.cynara_keys.specs.Name.{is_name, name_fault}
use Rattle.cynara_keys.specs.Field.{field_fault, field_of, filter_field_fault, filter_field_of}
use Rattle.cynara_keys.specs.declared.fields.Field.{Field as KeyField}
use Rattle.cynara_keys.specs.declared.fields.FilterField.{FilterField as KeyFilterField}
use Rattle.cynara_keys.specs.declared.names.NameRefusal.{NameRefusal}
use Rattle.cynara_keys.proofs.Order.{same_text-≡}
use Rattle.smack_rules.specs.Rule.{is_label}
use Rattle.smack_rules.specs.Modes.{is_mode_byte}
use Rattle.app_registry.specs.declared.installs.Scope.TheVariants.{Everyone, One}
use Rattle.app_registry.specs.declared.users.UserType.TheVariants.{System, Admin, Normal, Guest}
use Rattle.rule_templates.specs.declared.placeholders.Placeholder.{Placeholder}
use Rattle.rule_templates.specs.declared.placeholders.Placeholder.TheVariants as placeholder
use Rattle.rule_templates.specs.declared.lines.Word.TheVariants.{Fixed, OfPackage}
use Rattle.rule_templates.specs.Placeholder.{placeholder_of, begins_with_tilde}
use Rattle.rule_templates.specs.TemplateLine.{word_of}
use Rattle.level_requests.specs.Level.{level_at}
use Rattle.level_requests.specs.declared.levels.Level.TheVariants.{Allow, Ask, Deny, Unset}
use Rattle.script_words.specs.WordForms.{name_at, field_at, filter_field_at, depth_at, result_at, uid_at, user_type_at}
use Rattle.script_words.specs.WordForms.{scope_at, package_kind_at, setter_named, ident_at, author_at, label_at}
use Rattle.line_reasons.specs.declared.forms.Form.{Form}
use Rattle.line_reasons.specs.declared.forms.Form.TheVariants.{Bucket, Field, Name, Names, FilterField, Depth, Result}
use Rattle.line_reasons.specs.declared.forms.Form.TheVariants.{Uid, UserType, Scope, PackageKind, Setter, Level, Ident}
use Rattle.line_reasons.specs.declared.forms.Form.TheVariants.{Author, Label, Request, TemplateLabel, Modes, MoreModes}
use Rattle.line_reasons.specs.parts.Texts.{begins, begins_one}
use Rattle.line_reasons.specs.parts.Forms.{is_word, begins_word, begins_name, begins_uid, begins_ident, begins_label}
use Rattle.line_reasons.specs.parts.Forms.{begins_modes, placeholder_texts, begins_template_label}
use Rattle.line_reasons.proofs.Fronts.{Fronts, WordFronts, Fronts-or, Fronts-same, Fronts-front, is_dark}
use Rattle.line_reasons.proofs.TextFronts.{Fronts-text, Fronts-texts, dark-front, dark-one}
use Rattle.line_reasons.proofs.Runs.{dark_run}
use Rattle.line_reasons.proofs.NameFronts.{Fronts-name, visible_dark}
use Rattle.line_reasons.proofs.LabelFronts.{Fronts-label, label-dark, Fronts-modes}
use Rattle.line_reasons.proofs.RequestFronts.{Fronts-request}
use Rattle.line_reasons.proofs.NumberFronts.{Fronts-uid, number-dark}
use Rattle.line_reasons.proofs.IdentFronts.{tested, Fronts-bucket, bucket-dark, Fronts-ident, ident-dark}
use Rattle.line_reasons.proofs.ResultFronts.{Fronts-result, result-dark}

-- one text more, which is itself a front
module _ (text : List ℕ) (known fronts : List ℕ → Bool) (parts : Fronts known fronts) (within : fronts text ≡ true) where
  Fronts-special : Fronts (λ line. same_text line text || known line) fronts
  Fronts-special = record {
    rest_of = λ front is. (let found = parts.rest_of front is in (found.0, or_right (same_text (front ++ found.0) text) (known (front ++ found.0)) found.1));
    is_front = λ front rest is. elim (or_cases (same_text (front ++ rest) text) (known (front ++ rest)) is) as (λ _. fronts front ≡ true) [
      | inl same ↦ Fronts-front known fronts parts front rest (ap fronts (same_text-≡ (front ++ rest) text same) ∙ within)
      | inr h ↦ parts.is_front front rest h
    ];
  }

-- ---- names

pub name_known : (text : List ℕ) → is_some (name_at text) ≡ is_name text
name_known text = tested (is_name text) text

some_field : (b : Bool) (field : KeyField) → is_some (cond b (Some field) None) ≡ b
some_field true field = refl
some_field false field = refl

some_filter : (b : Bool) (field : KeyFilterField) → is_some (cond b (Some field) None) ≡ b
some_filter true field = refl
some_filter false field = refl

no_fault : (special : Bool) (fault : Option NameRefusal) → is_none (cond special None fault) ≡ special || is_none fault
no_fault true fault = refl
no_fault false fault = refl

pub field_tested : (text : List ℕ) → is_some (field_at text) ≡ is_none (field_fault text)
field_tested text = some_field (is_none (field_fault text)) (field_of text)

pub field_known : (text : List ℕ) → is_some (field_at text) ≡ same_text text (codes "*") || is_name text
field_known text = field_tested text ∙ no_fault (same_text text (codes "*")) (name_fault text)

pub filter_known : (text : List ℕ)
    → is_some (filter_field_at text) ≡ same_text text (codes "#") || (same_text text (codes "*") || is_name text)
filter_known text =
    some_filter (is_none (filter_field_fault text)) (filter_field_of text)
    ∙ no_fault (same_text text (codes "#")) (field_fault text)
    ∙ ap (λ b. same_text text (codes "#") || b) (no_fault (same_text text (codes "*")) (name_fault text))

pub filter_tested : (text : List ℕ)
    → is_some (filter_field_at text) ≡ same_text text (codes "#") || is_some (field_at text)
filter_tested text =
    some_filter (is_none (filter_field_fault text)) (filter_field_of text)
    ∙ no_fault (same_text text (codes "#")) (field_fault text)
    ∙ ap (λ b. same_text text (codes "#") || b) (sym (field_tested text))

Fronts-field-name : Fronts (λ text. same_text text (codes "*") || is_name text) begins_name
Fronts-field-name = Fronts-special (codes "*") is_name begins_name Fronts-name refl

-- ---- fixed words

pub depth_known : (text : List ℕ)
    → is_some (depth_at text) ≡ list_any (same_text text) (codes "deep" ∷ codes "flat" ∷ [])
depth_known text = by_case (same_text text (codes "deep")) (same_text text (codes "flat")) where
  by_case : (deep flat : Bool) → is_some (cond deep (Some true) (cond flat (Some false) None)) ≡ deep || (flat || false)
  by_case true flat = refl
  by_case false true = refl
  by_case false false = refl

pub kind_known : (text : List ℕ)
    → is_some (package_kind_at text) ≡ list_any (same_text text) (codes "hybrid" ∷ codes "plain" ∷ [])
kind_known text = by_case (same_text text (codes "hybrid")) (same_text text (codes "plain")) where
  by_case : (hybrid plain : Bool)
      → is_some (cond hybrid (Some true) (cond plain (Some false) None)) ≡ hybrid || (plain || false)
  by_case true plain = refl
  by_case false true = refl
  by_case false false = refl

pub setter_known : (text : List ℕ)
    → is_some (setter_named text) ≡ list_any (same_text text) (codes "own" ∷ codes "admin" ∷ [])
setter_known text = by_case (same_text text (codes "own")) (same_text text (codes "admin")) where
  by_case : (own admin : Bool) → is_some (cond own (Some false) (cond admin (Some true) None)) ≡ own || (admin || false)
  by_case true admin = refl
  by_case false true = refl
  by_case false false = refl

pub level_known : (text : List ℕ)
    → is_some (level_at text) ≡ list_any (same_text text)
    (codes "allow" ∷ codes "ask" ∷ codes "deny" ∷ codes "unset" ∷ [])
unfolding level_at
level_known text = by_case (same_text text (codes "allow")) (same_text text (codes "ask")) (same_text text (codes "deny")) (same_text text (codes "unset")) where
  by_case : (a b c d : Bool) → is_some
      (cond a (Some Allow) (cond b (Some Ask) (cond c (Some Deny) (cond d (Some Unset) None))))
      ≡ a || (b || (c || (d || false)))
  by_case true b c d = refl
  by_case false true c d = refl
  by_case false false true d = refl
  by_case false false false true = refl
  by_case false false false false = refl

pub type_known : (text : List ℕ)
    → is_some (user_type_at text) ≡ list_any (same_text text)
    (codes "system" ∷ codes "admin" ∷ codes "normal" ∷ codes "guest" ∷ [])
type_known text = by_case (same_text text (codes "system")) (same_text text (codes "admin")) (same_text text (codes "normal")) (same_text text (codes "guest")) where
  by_case : (a b c d : Bool) → is_some
      (cond a (Some System) (cond b (Some Admin) (cond c (Some Normal) (cond d (Some Guest) None))))
      ≡ a || (b || (c || (d || false)))
  by_case true b c d = refl
  by_case false true c d = refl
  by_case false false true d = refl
  by_case false false false true = refl
  by_case false false false false = refl

-- ---- `*` or a user, `-` or an author

pub scope_known : (text : List ℕ) → is_some (scope_at text) ≡ same_text text (codes "*") || is_some (uid_at text)
scope_known text = by_case (same_text text (codes "*")) (uid_at text) where
  by_case : (everyone : Bool) (uid : Option ℕ)
      → is_some (cond everyone (Some Everyone) (option_map One uid)) ≡ everyone || is_some uid
  by_case true uid = refl
  by_case false None = refl
  by_case false (Some uid) = refl

pub author_known : (text : List ℕ) → is_some (author_at text) ≡ same_text text (codes "-") || is_some (ident_at text)
author_known text = by_case (same_text text (codes "-")) (ident_at text) where
  by_case : (free : Bool) (author : Option (List ℕ))
      → is_some (cond {A = Option (Option (List ℕ))} free (Some None) (option_map Some author)) ≡ free || is_some author
  by_case true author = refl
  by_case false None = refl
  by_case false (Some author) = refl

-- ---- words of templates

pub placeholder_known : (text : List ℕ) → is_some (placeholder_of text) ≡ list_any (same_text text) placeholder_texts
placeholder_known text = by_case (bytes_eq text (codes "~PROCESS~")) (bytes_eq text (codes "~PATH_RW~")) (bytes_eq text (codes "~PATH_RO~")) (bytes_eq text (codes "~AUTHOR~")) where
  by_case : (a b c d : Bool) → is_some
      (cond a (Some placeholder.Process)
      (cond b (Some placeholder.PathRw) (cond c (Some placeholder.PathRo) (cond d (Some placeholder.Author) None))))
      ≡ a || (b || (c || (d || false)))
  by_case true b c d = refl
  by_case false true c d = refl
  by_case false false true d = refl
  by_case false false false true = refl
  by_case false false false false = refl

pub word_known : (text : List ℕ) → is_some (word_of text)
    ≡ cond (begins_with_tilde text) (list_any (same_text text) placeholder_texts) (is_label text)
word_known text = by_case (begins_with_tilde text) (placeholder_of text) (is_label text)
    ∙ ap (λ b. cond (begins_with_tilde text) b (is_label text)) (placeholder_known text) where
      by_case : (tilde : Bool) (known : Option Placeholder) (label : Bool)
          → is_some (cond tilde (option_map OfPackage known) (cond label (Some (Fixed text)) None))
          ≡ cond tilde (is_some known) label
      by_case true None label = refl
      by_case true (Some known) label = refl
      by_case false known true = refl
      by_case false known false = refl

Fronts-template-label : Fronts
    (λ text. cond (begins_with_tilde text) (list_any (same_text text) placeholder_texts)
    (is_label text)) begins_template_label
Fronts-template-label = record { rest_of = on; is_front = back } where
  on-by : (byte : ℕ) (bytes : List ℕ) (tilde : Bool)
      → cond tilde (begins_one placeholder_texts (byte ∷ bytes)) (begins_label (byte ∷ bytes)) ≡ true
      → (rest : List ℕ) × (cond tilde (list_any (same_text ((byte ∷ bytes) ++ rest)) placeholder_texts)
      (is_label ((byte ∷ bytes) ++ rest)) ≡ true)
  on-by byte bytes true is = (Fronts-texts placeholder_texts).rest_of (byte ∷ bytes) is
  on-by byte bytes false is = Fronts-label.rest_of (byte ∷ bytes) is

  on : (front : List ℕ) → begins_template_label front ≡ true
      → (rest : List ℕ) × (cond (begins_with_tilde (front ++ rest))
      (list_any (same_text (front ++ rest)) placeholder_texts) (is_label (front ++ rest)) ≡ true)
  on [] is = (97 ∷ [], refl)
  on (byte ∷ bytes) is = on-by byte bytes (byte == 126) is

  back-by : (byte : ℕ) (bytes rest : List ℕ) (tilde : Bool)
      → cond tilde (list_any (same_text ((byte ∷ bytes) ++ rest)) placeholder_texts) (is_label ((byte ∷ bytes) ++ rest))
      ≡ true
      → cond tilde (begins_one placeholder_texts (byte ∷ bytes)) (begins_label (byte ∷ bytes)) ≡ true
  back-by byte bytes rest true is = (Fronts-texts placeholder_texts).is_front (byte ∷ bytes) rest is
  back-by byte bytes rest false is = Fronts-label.is_front (byte ∷ bytes) rest is

  back : (front rest : List ℕ) → cond (begins_with_tilde (front ++ rest))
      (list_any (same_text (front ++ rest)) placeholder_texts) (is_label (front ++ rest)) ≡ true
      → begins_template_label front ≡ true
  back [] rest is = refl
  back (byte ∷ bytes) rest is = back-by byte bytes rest (byte == 126) is

template_label-dark : (front : List ℕ) → begins_template_label front ≡ true → list_all is_dark front ≡ true
template_label-dark front is = by_case (begins_with_tilde front) is where
  by_case : (tilde : Bool) → cond tilde (begins_one placeholder_texts front) (begins_label front) ≡ true
      → list_all is_dark front ≡ true
  by_case true is = dark-one placeholder_texts front refl is
  by_case false is = label-dark front is

-- ---- no blanks

name-dark : (front : List ℕ) → begins_name front ≡ true → list_all is_dark front ≡ true
name-dark front is = dark_run 255 is_visible visible_dark front is

lower_dark : (byte : ℕ) → is_mode_byte byte ≡ true → is_dark byte ≡ true
lower_dark byte is = by_case (ltb 32 byte) refl where
  by_case : (above : Bool) → ltb 32 byte ≡ above → is_dark byte ≡ true
  by_case true dark = dark
  by_case false low =
      let below : byte < 33 = omega (arith, ltb-false 32 byte low) in
      let none : is_mode_byte byte ≡ false = agree_below_at is_mode_byte (λ byte. false) 33 byte refl below in
      cc

modes-dark : (front : List ℕ) → begins_modes front ≡ true → list_all is_dark front ≡ true
modes-dark front is = dark_run 64 is_mode_byte lower_dark front is

or-dark : (text : List ℕ) (fronts : List ℕ → Bool) → list_all is_dark text ≡ true
    → ((front : List ℕ) → fronts front ≡ true → list_all is_dark front ≡ true) → (front : List ℕ)
    → begins front text || fronts front ≡ true → list_all is_dark front ≡ true
or-dark text fronts dark inner front is = elim (or_cases (begins front text) (fronts front) is) as (λ _. list_all is_dark front ≡ true) [
  | inl one ↦ dark-front front text one dark
  | inr other ↦ inner front other
]

result_some : is_some (result_at []) ≡ false
unfolding result_at
result_some = refl

level_some : is_some (level_at []) ≡ false
unfolding level_at
level_some = refl

pub form_fronts : (form : Form) → WordFronts (is_word form) (begins_word form)
form_fronts Bucket = record { parts = Fronts-bucket; dark = bucket-dark; some = refl; starts = refl }
form_fronts Field = record {
  parts = Fronts-same (λ text. is_some (field_at text))
      (λ text. same_text text (codes "*") || is_name text) begins_name field_known Fronts-field-name;
  dark = name-dark;
  some = refl;
  starts = refl;
}
form_fronts Name = record { parts = Fronts-same (λ text. is_some (name_at text)) is_name begins_name name_known Fronts-name; dark = name-dark; some = refl; starts = refl }
form_fronts Names = record { parts = Fronts-same (λ text. is_some (name_at text)) is_name begins_name name_known Fronts-name; dark = name-dark; some = refl; starts = refl }
form_fronts FilterField = record {
  parts = Fronts-same (λ text. is_some (filter_field_at text))
      (λ text. same_text text (codes "#") || (same_text text (codes "*") || is_name text)) begins_name filter_known
      (Fronts-special (codes "#") (λ text. same_text text (codes "*") || is_name text) begins_name Fronts-field-name refl);
  dark = name-dark;
  some = refl;
  starts = refl;
}
form_fronts Depth = record {
  parts = Fronts-same (λ text. is_some (depth_at text))
      (λ text. list_any (same_text text) (codes "deep" ∷ codes "flat" ∷ []))
      (begins_one (codes "deep" ∷ codes "flat" ∷ [])) depth_known
      (Fronts-texts (codes "deep" ∷ codes "flat" ∷ []));
  dark = λ front is. dark-one (codes "deep" ∷ codes "flat" ∷ []) front refl is;
  some = refl;
  starts = refl;
}
form_fronts Result = record { parts = Fronts-result; dark = result-dark; some = result_some; starts = refl }
form_fronts Uid = record { parts = Fronts-uid; dark = number-dark 4294967295; some = refl; starts = refl }
form_fronts UserType = record {
  parts = Fronts-same (λ text. is_some (user_type_at text))
      (λ text. list_any (same_text text) (codes "system" ∷ codes "admin" ∷ codes "normal" ∷ codes "guest" ∷ []))
      (begins_one (codes "system" ∷ codes "admin" ∷ codes "normal" ∷ codes "guest" ∷ [])) type_known
      (Fronts-texts (codes "system" ∷ codes "admin" ∷ codes "normal" ∷ codes "guest" ∷ []));
  dark = λ front is. dark-one (codes "system" ∷ codes "admin" ∷ codes "normal" ∷ codes "guest" ∷ []) front refl is;
  some = refl;
  starts = refl;
}
form_fronts PackageKind = record {
  parts = Fronts-same (λ text. is_some (package_kind_at text))
      (λ text. list_any (same_text text) (codes "hybrid" ∷ codes "plain" ∷ []))
      (begins_one (codes "hybrid" ∷ codes "plain" ∷ [])) kind_known
      (Fronts-texts (codes "hybrid" ∷ codes "plain" ∷ []));
  dark = λ front is. dark-one (codes "hybrid" ∷ codes "plain" ∷ []) front refl is;
  some = refl;
  starts = refl;
}
form_fronts Setter = record {
  parts = Fronts-same (λ text. is_some (setter_named text))
      (λ text. list_any (same_text text) (codes "own" ∷ codes "admin" ∷ []))
      (begins_one (codes "own" ∷ codes "admin" ∷ [])) setter_known
      (Fronts-texts (codes "own" ∷ codes "admin" ∷ []));
  dark = λ front is. dark-one (codes "own" ∷ codes "admin" ∷ []) front refl is;
  some = refl;
  starts = refl;
}
form_fronts Level = record {
  parts = Fronts-same (λ text. is_some (level_at text))
      (λ text. list_any (same_text text) (codes "allow" ∷ codes "ask" ∷ codes "deny" ∷ codes "unset" ∷ []))
      (begins_one (codes "allow" ∷ codes "ask" ∷ codes "deny" ∷ codes "unset" ∷ [])) level_known
      (Fronts-texts (codes "allow" ∷ codes "ask" ∷ codes "deny" ∷ codes "unset" ∷ []));
  dark = λ front is. dark-one (codes "allow" ∷ codes "ask" ∷ codes "deny" ∷ codes "unset" ∷ []) front refl is;
  some = level_some;
  starts = refl;
}
form_fronts Scope = record {
  parts = Fronts-same (λ text. is_some (scope_at text)) (λ text. same_text text (codes "*") || is_some (uid_at text))
      (λ front. begins front (codes "*") || begins_uid front) scope_known
      (Fronts-or (λ text. same_text text (codes "*")) (λ text. is_some (uid_at text))
      (λ front. begins front (codes "*")) begins_uid (Fronts-text (codes "*")) Fronts-uid);
  dark = or-dark (codes "*") begins_uid refl (number-dark 4294967295);
  some = refl;
  starts = refl;
}
form_fronts Ident = record { parts = Fronts-ident; dark = ident-dark; some = refl; starts = refl }
form_fronts Author = record {
  parts = Fronts-same (λ text. is_some (author_at text)) (λ text. same_text text (codes "-") || is_some (ident_at text))
      (λ front. begins front (codes "-") || begins_ident front) author_known
      (Fronts-or (λ text. same_text text (codes "-")) (λ text. is_some (ident_at text))
      (λ front. begins front (codes "-")) begins_ident (Fronts-text (codes "-")) Fronts-ident);
  dark = or-dark (codes "-") begins_ident refl ident-dark;
  some = refl;
  starts = refl;
}
form_fronts Label = record { parts = Fronts-same (λ text. is_some (label_at text)) is_label begins_label (λ text. tested (is_label text) text) Fronts-label; dark = label-dark; some = refl; starts = refl }
form_fronts Request = record {
  parts = Fronts-request;
  dark = λ front is. modes-dark front (and_parts (begins_modes front) _ (and_parts _ _ is).0).0;
  some = refl;
  starts = refl;
}
form_fronts TemplateLabel = record {
  parts = Fronts-same (λ text. is_some (word_of text))
      (λ text. cond (begins_with_tilde text) (list_any (same_text text) placeholder_texts)
      (is_label text)) begins_template_label word_known Fronts-template-label;
  dark = template_label-dark;
  some = refl;
  starts = refl;
}
form_fronts Modes = record { parts = Fronts-modes; dark = modes-dark; some = refl; starts = refl }
form_fronts MoreModes = record { parts = Fronts-modes; dark = modes-dark; some = refl; starts = refl }
