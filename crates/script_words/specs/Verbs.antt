-- The first words of lines.
use Rattle.std.specs.Prelude.{ℕ, Bool, true, false, List, [], ◌∷◌, Option, find, codes}
use Rattle.cynara_keys.specs.Text.{same_text}
use Rattle.script_words.specs.declared.verbs.Verb.{Verb}
use Rattle.script_words.specs.declared.verbs.Verb.TheVariants.{Set, Check, Unset, Bucket, Drop, Erase, List as ListRows}
use Rattle.script_words.specs.declared.verbs.Verb.TheVariants.{From, Layout, User, NoUser, Install, Hybrid, Convert}
use Rattle.script_words.specs.declared.verbs.Verb.TheVariants.{Remove, Access, Level, Levels, Audit, Share, Unshare}
use Rattle.script_words.specs.declared.verbs.Verb.TheVariants.{Shares, Status, Stop}
use Rattle.script_words.specs.declared.places.Place.{Place}
use Rattle.script_words.specs.declared.places.Place.TheVariants.{Local, Admin}

-- the word of each
abbrev pub verb_text : Verb → List ℕ
verb_text Set = codes "set"
verb_text Check = codes "check"
verb_text Unset = codes "unset"
verb_text Bucket = codes "bucket"
verb_text Drop = codes "drop"
verb_text Erase = codes "erase"
verb_text ListRows = codes "list"
verb_text From = codes "from"
verb_text Layout = codes "layout"
verb_text User = codes "user"
verb_text NoUser = codes "nouser"
verb_text Install = codes "install"
verb_text Hybrid = codes "hybrid"
verb_text Convert = codes "convert"
verb_text Remove = codes "remove"
verb_text Access = codes "access"
verb_text Level = codes "level"
verb_text Levels = codes "levels"
verb_text Audit = codes "audit"
verb_text Share = codes "share"
verb_text Unshare = codes "unshare"
verb_text Shares = codes "shares"
verb_text Status = codes "status"
verb_text Stop = codes "stop"

abbrev pub verbs : List Verb
verbs =
    Set ∷ Check ∷ Unset ∷ Bucket ∷ Drop ∷ Erase ∷ ListRows ∷ From ∷ Layout ∷ User ∷ NoUser ∷ Install ∷ Hybrid ∷ Convert
    ∷ Remove ∷ Access ∷ Level ∷ Levels ∷ Audit ∷ Share ∷ Unshare ∷ Shares ∷ Status ∷ Stop ∷ []

-- what the first word of a line says
unfoldable pub verb_at : List ℕ → Option Verb
verb_at text = find (λ verb. same_text text (verb_text verb)) verbs

-- Whether a line with this first word is known in a script for this place.
abbrev pub is_known_in : Place → Verb → Bool
is_known_in Local Stop = false
is_known_in Local verb = true
is_known_in Admin Access = false
is_known_in Admin Level = false
is_known_in Admin Levels = false
is_known_in Admin Audit = false
is_known_in Admin Share = false
is_known_in Admin Unshare = false
is_known_in Admin Shares = false
is_known_in Admin Status = false
is_known_in Admin verb = true
