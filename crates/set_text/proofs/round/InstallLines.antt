-- The lines of `apps`, written and read.
use Rattle.std.proofs.Common.{◌≡◌, ℕ, ◌==◌, Bool, true, false, not, cond, ◌&&◌, decimal, List, [], ◌∷◌, Option, Some, None, refl}
use Rattle.std.proofs.Common.{sym, ap, subst, ◌∙◌, arith}
use Rattle.std.specs.declared.cmp.Ordering.TheVariants.{Less}
use Rattle.std.specs.Option.{option_map}
use Rattle.std.specs.List.{AllByRecursion, list_all}
use Rattle.std.specs.List.Sorted.{IsStrictlySortedBy}
use Rattle.std.specs.Ordering.{is_lt}
use Rattle.std.proofs.lemmas.Bool.{and_parts, le-leb}
use Rattle.std.proofs.lemmas.Bool.Decides.{nat_tests}
use Rattle.cynara_keys.specs.Text.{same_text, text_cmp}
use Rattle.cynara_keys.specs.Name.{is_name}
use Rattle.cynara_keys.specs.Field.{wildcard}
use Rattle.cynara_keys.proofs.Order.{same_text-≡, text_total}
use Rattle.app_registry.specs.declared.installs.Install.{Install}
use Rattle.app_registry.specs.declared.installs.Scope.{Scope}
use Rattle.app_registry.specs.declared.installs.Scope.TheVariants.{Everyone, One}
use Rattle.app_registry.specs.Ident.{is_ident_byte, ident_fault}
use Rattle.app_registry.proofs.Texts.{decimal-no_wildcard, sound_ident}
use Rattle.bucket_store.proofs.Lists.{All-weaker}
use Rattle.bucket_store.proofs.Searching.{lt-Less}
use Rattle.text_lines.specs.Lines.{HasNoNewline}
use Rattle.set_text.specs.IsSpelt.{IsAuthor, IsScope, IsInstall}
use Rattle.set_text.specs.Lines.{joined, fields_of}
use Rattle.set_text.specs.Numbers.{decimal_of}
use Rattle.set_text.specs.Registry.{last_uid, author_text, package_text, scope_text, install_line, is_ident, is_author, author_of}
use Rattle.set_text.specs.Registry.{is_marked, name_in}
use Rattle.set_text.specs.Registry.{scope_of, are_rising, are_privileges, install_of_fields, install_of}
use Rattle.set_text.proofs.Numbering.{decimal_of-decimal, decimal_of-text}
use Rattle.set_text.proofs.round.Fields.{IsPlain, fields_of-joined, newline-joined, joined-fields_of}
use Rattle.set_text.proofs.round.Plain.{none-is, plain-is_name, plain-ident, plain-none, plain-wildcard, plain-decimal}
use Rattle.set_text.proofs.round.Results.{some-when, some-made}

-- ---- the author

author-plain : (author : Option (List ℕ)) → IsAuthor author → IsPlain (author_text author)
author-plain None is = plain-none
author-plain (Some author) is = plain-ident author is

author-is : (author : Option (List ℕ)) → IsAuthor author → is_author (author_text author) ≡ true
author-is None is = refl
author-is (Some []) is = refl
author-is (Some (byte ∷ bytes)) is = is

author-read : (author : Option (List ℕ)) → IsAuthor author → author_of (author_text author) ≡ author
author-read None is = refl
author-read (Some []) is = (let wrong : is_ident [] ≡ true = is in cc)
author-read (Some (byte ∷ bytes)) is = refl

author-spelled : (text : List ℕ) → is_author text ≡ true
    → (author_text (author_of text) ≡ text) × IsAuthor (author_of text)
author-spelled [] is = (refl, tt)
author-spelled (byte ∷ bytes) is = (refl, is)

-- ---- the scope

scope-plain : (scope : Scope) → IsScope scope → IsPlain (scope_text scope)
scope-plain Everyone is = plain-wildcard
scope-plain (One uid) is = plain-decimal uid (omega (arith, is))

scope-read : (scope : Scope) → IsScope scope → scope_of (scope_text scope) ≡ Some scope
scope-read Everyone is = refl
scope-read (One uid) is =
    ap (λ b. cond b (Some Everyone) (option_map (λ uid. One uid) (decimal_of last_uid (decimal uid))))
    (decimal-no_wildcard uid)
    ∙ ap (option_map (λ uid. One uid)) (decimal_of-decimal last_uid uid (le-leb uid last_uid is) (omega (arith, is)))

scope-spelled : (text : List ℕ) (scope : Scope) → scope_of text ≡ Some scope → (scope_text scope ≡ text) × IsScope scope
scope-spelled text scope h = by (same_text text wildcard) refl h
  where
    by : (same : Bool) → same_text text wildcard ≡ same
        → cond same (Some Everyone) (option_map (λ uid. One uid) (decimal_of last_uid text)) ≡ Some scope
        → (scope_text scope ≡ text) × IsScope scope
    by true is h =
        let all : Everyone ≡ scope = cc in
        subst (λ (scope : Scope). (scope_text scope ≡ text) × IsScope scope) all
        (sym (same_text-≡ text wildcard is), tt)
    by false is h =
        let made = some-made (λ (uid : ℕ). One uid) (decimal_of last_uid text) scope h in
        subst (λ (scope : Scope). (scope_text scope ≡ text) × IsScope scope) made.2
        (decimal_of-text last_uid text made.0 made.1)

-- ---- the privileges

names-are : (names : List (List ℕ)) → AllByRecursion (λ name. is_name name ≡ true) names → list_all is_name names ≡ true
names-are [] all = refl
names-are (name ∷ names) all = ap (λ b. b && list_all is_name names) all.0 ∙ names-are names all.1

are-names : (names : List (List ℕ)) → list_all is_name names ≡ true → AllByRecursion (λ name. is_name name ≡ true) names
are-names [] all = tt
are-names (name ∷ names) all =
    let parts = and_parts (is_name name) (list_all is_name names) all in (parts.0, are-names names parts.1)

rising-is : (names : List (List ℕ)) → IsStrictlySortedBy text_cmp names → are_rising names ≡ true
unfolding IsStrictlySortedBy
rising-is [] rise = refl
rising-is (name ∷ []) rise = refl
rising-is (name ∷ next ∷ names) rise =
    ap (λ o. is_lt o && are_rising (next ∷ names)) rise.0.0 ∙ rising-is (next ∷ names) rise.1

is-rising : (names : List (List ℕ)) → are_rising names ≡ true → IsStrictlySortedBy text_cmp names
unfolding IsStrictlySortedBy
is-rising [] rise = tt
is-rising (name ∷ []) rise = (tt, tt)
is-rising (name ∷ next ∷ names) rise =
    let parts = and_parts (is_lt (text_cmp name next)) (are_rising (next ∷ names)) rise in
    let less : text_cmp name next ≡ Less = lt-Less (text_cmp name next) parts.0 in
    let later = is-rising (next ∷ names) parts.1 in (
      (
        less,
        All-weaker (λ other. text_cmp next other ≡ Less) (λ other. text_cmp name other ≡ Less)
            (λ other above. text_total.trans name next other less above) names later.0,
      ),
      later,
    )

-- ---- the package and its kind

-- what may stand in an ident is no `+`
no_plus : (byte : ℕ) → not (is_ident_byte byte) ≡ false → (byte == 43) ≡ false
no_plus byte h = grind (arith, nat_tests)

plus-plain : (name : List ℕ) → IsPlain name → IsPlain (43 ∷ name)
plus-plain name plain = record { semicolon = (refl, plain.semicolon); newline = (refl, plain.newline) }

package-plain : (hybrid : Bool) (name : List ℕ) → is_ident name ≡ true → IsPlain (package_text hybrid name)
package-plain true name is = plus-plain name (plain-ident name is)
package-plain false name is = plain-ident name is

-- the text of a package says its name and its kind
package-read : (hybrid : Bool) (name : List ℕ) → is_ident name ≡ true
    → (name_in (package_text hybrid name) ≡ name) × (is_marked (package_text hybrid name) ≡ hybrid)
package-read true name is = (refl, refl)
package-read false [] is = (refl, refl)
package-read false (byte ∷ bytes) is =
    let other = no_plus byte (sound_ident (byte ∷ bytes) (none-is (ident_fault (byte ∷ bytes)) is)).none_wrong.0 in
    (ap (λ b. cond b bytes (byte ∷ bytes)) other, other)

-- and no other text does
package-spelled : (text : List ℕ) → package_text (is_marked text) (name_in text) ≡ text
package-spelled [] = refl
package-spelled (byte ∷ bytes) = by (byte == 43) refl
  where
    same : (byte == 43) ≡ true → byte ≡ 43
    same h = grind (arith, nat_tests)

    by : (b : Bool) → (byte == 43) ≡ b → package_text b (cond b bytes (byte ∷ bytes)) ≡ byte ∷ bytes
    by true is = ap (λ first. first ∷ bytes) (sym (same is))
    by false is = refl

-- ---- a line

abbrev made : List ℕ → List ℕ → List ℕ → List (List ℕ) → Scope → Install
made «package» author app privileges scope = record {
  «package» = name_in «package»;
  author = author_of author;
  app = app;
  scope = scope;
  privileges = privileges;
  hybrid = is_marked «package»;
}

abbrev is_form : List ℕ → List ℕ → List ℕ → List (List ℕ) → Bool
is_form «package» author app privileges = is_ident (name_in «package») &&
    (is_author author && (is_ident app && are_privileges privileges))

module _ (install : Install) (is : IsInstall install) where
  abbrev author : List ℕ
  author = author_text install.author

  -- the text of the package
  abbrev named : List ℕ
  named = package_text install.hybrid install.«package»

  told : (name_in named ≡ install.«package») × (is_marked named ≡ install.hybrid)
  told = package-read install.hybrid install.«package» is.«package»

  abbrev others : List (List ℕ)
  others = author ∷ install.app ∷ scope_text install.scope ∷ install.privileges

  others-plain : AllByRecursion IsPlain others
  others-plain = (
    author-plain install.author is.author,
    (
      plain-ident install.app is.app,
      (
        scope-plain install.scope is.scope,
        All-weaker (λ name. is_name name ≡ true) IsPlain plain-is_name install.privileges is.privileges,
      ),
    ),
  )

  pub install-newline : HasNoNewline (install_line install)
  install-newline =
      newline-joined named others (package-plain install.hybrid install.«package» is.«package») others-plain

  form : is_form named author install.app install.privileges ≡ true
  form =
      ap (λ name. is_ident name && (is_author author && (is_ident install.app && are_privileges install.privileges))) told.0
      ∙ ap (λ b. b && (is_author author && (is_ident install.app && are_privileges install.privileges))) is.«package»
      ∙ ap (λ b. b && (is_ident install.app && are_privileges install.privileges)) (author-is install.author is.author)
      ∙ ap (λ b. b && are_privileges install.privileges) is.app
      ∙ ap (λ b. b && are_rising install.privileges) (names-are install.privileges is.privileges)
      ∙ rising-is install.privileges is.rising

  pub install-read : install_of (install_line install) ≡ Some install
  install-read =
      ap install_of_fields
      (fields_of-joined named others (package-plain install.hybrid install.«package» is.«package») others-plain)
      ∙ ap (λ b. cond b (option_map (made named author install.app install.privileges)
      (scope_of (scope_text install.scope))) None) form
      ∙ ap (option_map (made named author install.app install.privileges))
      (scope-read install.scope is.scope)
      ∙ (λ i. Some (record install {
        «package» = told.0 i;
        author = author-read install.author is.author i;
        hybrid = told.1 i;
      }))

pub install-spelled : (line : List ℕ) (install : Install) → install_of line ≡ Some install
    → (install_line install ≡ line) × IsInstall install
install-spelled line install h = by (fields_of line) refl h
  where
    by : (fields : List (List ℕ)) → fields_of line ≡ fields → install_of_fields fields ≡ Some install
        → (install_line install ≡ line) × IsInstall install
    by («package» ∷ author ∷ app ∷ scope ∷ privileges) are h =
        let make = made «package» author app privileges in
        let formed = some-when (is_form «package» author app privileges) (option_map make (scope_of scope)) install h in
        let parts = and_parts (is_ident (name_in «package»))
        (is_author author && (is_ident app && are_privileges privileges)) formed.0 in
        let more = and_parts (is_author author) (is_ident app && are_privileges privileges) parts.1 in
        let last = and_parts (is_ident app) (are_privileges privileges) more.1 in
        let names = and_parts (list_all is_name privileges) (are_rising privileges) last.1 in
        let found = some-made make (scope_of scope) install formed.1 in
        let by_author = author-spelled author more.0 in
        let for_scope = scope-spelled scope found.0 found.1 in
        subst (λ (install : Install). (install_line install ≡ line) × IsInstall install) found.2 (
          (λ i. joined (package-spelled «package» i ∷ by_author.0 i ∷ app ∷ for_scope.0 i ∷ privileges))
              ∙ joined-fields_of line («package» ∷ author ∷ app ∷ scope ∷ privileges) are,
          record {
            «package» = parts.0;
            author = by_author.1;
            app = last.0;
            scope = for_scope.1;
            privileges = are-names privileges names.0;
            rising = is-rising privileges names.1;
          },
        )
    by other are h = cc
