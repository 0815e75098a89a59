-- Which lines are known where, and what they can begin with.
use Rattle.std.specs.Prelude.{ℕ, Bool, true, false, not, ◌&&◌, ◌||◌, List, [], ◌∷◌, Option, Some, None, codes}
use Rattle.std.specs.List.{list_any, list_all}
use Rattle.cynara_keys.specs.Text.{same_text}
use Rattle.smack_rules.specs.Words.{is_blank}
use Rattle.line_script.specs.Grammar.{is_skipped}
use Rattle.script_words.specs.Verbs.{verb_text, verbs, verb_at, is_known_in}
use Rattle.script_words.specs.declared.places.Place.{Place}
use Rattle.script_words.specs.declared.verbs.Verb.{Verb}
use Rattle.script_words.specs.declared.verbs.Verb.TheVariants as verb
use Rattle.line_script.specs.declared.spots.Spot.{Spot}
use Rattle.line_script.specs.declared.spots.Spot.TheVariants as spot
use Rattle.line_reasons.specs.declared.forms.Form.{Form}
use Rattle.line_reasons.specs.declared.forms.Form.TheVariants.{Bucket, Field, Name, Names, FilterField, Depth, Result}
use Rattle.line_reasons.specs.declared.forms.Form.TheVariants.{Uid, UserType, Scope, PackageKind, Setter, Level, Ident}
use Rattle.line_reasons.specs.declared.forms.Form.TheVariants.{Author, Label, Request, TemplateLabel, Modes, MoreModes}
use Rattle.line_reasons.specs.declared.grounds.Ground.{Ground}
use Rattle.line_reasons.specs.declared.grounds.Ground.TheVariants.{Outside, Batch, Template, Rules}
use Rattle.line_reasons.specs.parts.Texts.{begins, cut_at, by_cut}
use Rattle.line_reasons.specs.parts.Runs.{may_end_with, is_line_of, begins_line_of}

-- ---- lines with a first word of their own

-- the forms of the words behind each first word
abbrev pub verb_forms : Verb → List Form
verb_forms verb.Set = Bucket ∷ Field ∷ Field ∷ Field ∷ Result ∷ []
verb_forms verb.Unset = Bucket ∷ Field ∷ Field ∷ Field ∷ []
verb_forms verb.Bucket = Bucket ∷ Result ∷ []
verb_forms verb.Drop = Bucket ∷ []
verb_forms verb.Erase = Bucket ∷ FilterField ∷ FilterField ∷ FilterField ∷ []
verb_forms verb.Layout = []
verb_forms verb.User = Uid ∷ UserType ∷ []
verb_forms verb.NoUser = Uid ∷ []
verb_forms verb.Install = Ident ∷ Author ∷ Ident ∷ Scope ∷ Names ∷ []
verb_forms verb.Hybrid = Ident ∷ Author ∷ Ident ∷ Scope ∷ Names ∷ []
verb_forms verb.Convert = Ident ∷ PackageKind ∷ []
verb_forms verb.Remove = Ident ∷ Scope ∷ []
verb_forms verb.List = Bucket ∷ FilterField ∷ FilterField ∷ FilterField ∷ []
verb_forms verb.Check = Name ∷ Name ∷ Name ∷ []
verb_forms verb.From = Bucket ∷ Depth ∷ Name ∷ Name ∷ Name ∷ []
verb_forms verb.Access = Label ∷ Label ∷ Request ∷ []
verb_forms verb.Level = Uid ∷ Setter ∷ Uid ∷ Name ∷ Name ∷ Level ∷ []
verb_forms verb.Levels = Uid ∷ []
verb_forms verb.Audit = Name ∷ []
verb_forms verb.Share = Ident ∷ Ident ∷ Ident ∷ []
verb_forms verb.Unshare = Ident ∷ Ident ∷ Ident ∷ []
verb_forms verb.Shares = []
verb_forms verb.Status = []
verb_forms verb.Stop = []

-- the first words that are known within a batch
abbrev pub changes_policies : Verb → Bool
changes_policies verb.Set = true
changes_policies verb.Unset = true
changes_policies verb.Bucket = false
changes_policies verb.Drop = false
changes_policies verb.Erase = false
changes_policies verb.Layout = false
changes_policies verb.User = false
changes_policies verb.NoUser = false
changes_policies verb.Install = false
changes_policies verb.Hybrid = false
changes_policies verb.Convert = false
changes_policies verb.Remove = false
changes_policies verb.List = false
changes_policies verb.Check = false
changes_policies verb.From = false
changes_policies verb.Access = false
changes_policies verb.Level = false
changes_policies verb.Levels = false
changes_policies verb.Audit = false
changes_policies verb.Share = false
changes_policies verb.Unshare = false
changes_policies verb.Shares = false
changes_policies verb.Status = false
changes_policies verb.Stop = false

-- Whether a first word is known: outside a block in a script for a place, or within a batch, where no place is given.
abbrev pub is_verb_in : Option Place → Verb → Bool
is_verb_in (Some place) verb = is_known_in place verb
is_verb_in None verb = changes_policies verb

-- the forms that a first word asks for
abbrev pub forms_if : Bool → List Form → Option (List Form)
forms_if true forms = Some forms
forms_if false forms = None

abbrev pub forms_of : Option Place → Option Verb → Option (List Form)
forms_of outside None = None
forms_of outside (Some verb) = forms_if (is_verb_in outside verb) (verb_forms verb)

abbrev pub is_line_with : Option (List Form) → List ℕ → Bool
is_line_with None rest = false
is_line_with (Some forms) rest = is_line_of false forms rest

abbrev pub begins_line_with : Option (List Form) → List ℕ → Bool
begins_line_with None rest = false
begins_line_with (Some forms) rest = begins_line_of false forms rest

-- a first word that is known, alone or with the words behind it
abbrev pub is_verb_alone : Option Place → List ℕ → Bool
is_verb_alone outside line = may_end_with (forms_of outside (verb_at line))

abbrev pub is_verb_with : Option Place → List ℕ → List ℕ → Bool
is_verb_with outside first rest = is_line_with (forms_of outside (verb_at first)) rest

abbrev pub is_verb_line : Option Place → List ℕ → Bool
is_verb_line outside line = by_cut (is_verb_alone outside) (is_verb_with outside) line (cut_at 32 line)

-- a first word can begin so
abbrev pub can_be : Option Place → List ℕ → Verb → Bool
can_be outside front verb = is_verb_in outside verb && begins front (verb_text verb)

abbrev pub begins_verb : Option Place → List ℕ → Bool
begins_verb outside front = list_any (can_be outside front) verbs

abbrev pub begins_verb_with : Option Place → List ℕ → List ℕ → Bool
begins_verb_with outside first rest = begins_line_with (forms_of outside (verb_at first)) rest

abbrev pub begins_verb_line : Option Place → List ℕ → Bool
begins_verb_line outside front = by_cut (begins_verb outside) (begins_verb_with outside) front (cut_at 32 front)

-- ---- rule lines

abbrev pub template_forms : List Form
template_forms = TemplateLabel ∷ TemplateLabel ∷ Modes ∷ MoreModes ∷ []

abbrev pub rule_forms : List Form
rule_forms = Label ∷ Label ∷ Modes ∷ MoreModes ∷ []

-- ---- lines where they stand

abbrev pub is_line : Ground → List ℕ → Bool
is_line (Outside place) line =
    is_skipped line
    || (same_text line (codes "batch") || (same_text line (codes "template") || is_verb_line (Some place) line))
is_line Batch line = is_skipped line || (same_text line (codes "end") || is_verb_line None line)
is_line (Template is_full) line = same_text line (codes "end") || (not is_full && is_line_of true template_forms line)
is_line Rules line = list_all is_blank line || is_line_of true rule_forms line

abbrev pub begins_line : Ground → List ℕ → Bool
begins_line (Outside place) front =
    is_skipped front
    || (begins front (codes "batch") || (begins front (codes "template") || begins_verb_line (Some place) front))
begins_line Batch front = is_skipped front || (begins front (codes "end") || begins_verb_line None front)
begins_line (Template is_full) front = begins front (codes "end") ||
    (not is_full && begins_line_of true template_forms front)
begins_line Rules front = begins_line_of true rule_forms front

-- where a line of a script stands
abbrev pub ground_of : Spot → Ground
ground_of (spot.Outside place) = Outside place
ground_of spot.Batch = Batch
ground_of (spot.Template is_full) = Template is_full
