-- The two versions of a list file.
use Rattle.std.proofs.Common.{◌≡◌, ◌≢◌, ℕ, Bool, true, false, not, List, ◌∷◌, ◌++◌, length, drop, Option, Some, None, Ok, inl, inr, cond, refl, sym, ◌∙◌, ap, subst, Bor, arith}
use Rattle.std.proofs.lemmas.Bool.{and_parts, both_ways, cases_Bool, true≢false}
use Rattle.std.proofs.lemmas.Bool.Decides.{Decides-eqb}
use Rattle.std.proofs.lemmas.List.{drop-append-le}
use Rattle.std.proofs.lemmas.Slice.Eq.{starts_is}
use Rattle.std.specs.Prelude.{nat_eq, MatchOption}
use Rattle.std.specs.Option.{option_map}
use Rattle.std.specs.List.{list_all, starts_with}
use lib.Chars.{codes}
use Rattle.desk_ports.specs.declared.file_sets.SetFile.{SetFile}
use Rattle.desk_ports.specs.FileMap.{FileMap}
use Rattle.guard_files.specs.OwnName.{list_name, primary_name, is_listable}
use Rattle.guard_files.specs.ListFile.{list_text, lines_of, are_listable, names_in, Version, One, Two, Listing, version_text, version_line, listing_text, saved_list, said, listing, listed, version_of, is_one, is_old_list, IsCurrent}
use Rattle.guard_files.specs.Recovery.{set_named, set_listed, primary_set}
use Rattle.guard_files.proofs.Lists.{lines_of-names, names_in-text, text-names_in}

-- what it tells that a text begins with the version's line
begins : (bytes : List ℕ) → starts_with nat_eq bytes version_text ≡ true
    → bytes ≡ version_text ++ drop (length version_text) bytes
begins bytes is = (starts_is Decides-eqb bytes version_text (starts_with nat_eq bytes version_text) refl).0 is

begins-line : (rest : List ℕ) → starts_with nat_eq (version_text ++ rest) version_text ≡ true
begins-line rest = (starts_is Decides-eqb (version_text ++ rest) version_text (starts_with nat_eq (version_text ++ rest) version_text) refl).1 rest refl

behind_line : (rest : List ℕ) → drop (length version_text) (version_text ++ rest) ≡ rest
behind_line rest = drop-append-le (length version_text) version_text rest (omega arith)

-- no name that may stand in a list is the version's line
line_unlistable : is_listable (codes "version 2") ≡ false
unfolding is_listable
line_unlistable = refl

begins_not : (names : List (List ℕ)) → list_all is_listable names ≡ true
    → starts_with nat_eq (list_text names) version_text ≡ false
begins_not names all = elim (cases_Bool (starts_with nat_eq (list_text names) version_text)) [
  | inl is ↦
      let rest = drop (length version_text) (list_text names) in
      let lines : names ≡ codes "version 2" ∷ lines_of rest = sym (lines_of-names names all) ∙ ap lines_of (begins (list_text names) is) in
      absurd (both_ways (is_listable (codes "version 2")) line_unlistable (and_parts _ _ (ap (list_all is_listable) (sym lines) ∙ all)).0)
  | inr none ↦ none
]

-- the spelling of a listing reads back
listing_of : (version : Version) (names : List (List ℕ)) → are_listable names ≡ true
    → listing (listing_text (record { version = version; names = names })) ≡ Some (record { version = version; names = names })
unfolding listing
listing_of One names may =
    ap (λ test. cond test (said Two (names_in (drop (length version_text) (list_text names)))) (said One (names_in (list_text names))))
    (begins_not names (and_parts _ _ may).0)
    ∙ ap (said One) (names_in-text names may)
listing_of Two names may =
    ap (λ test. cond test (said Two (names_in (drop (length version_text) (version_text ++ list_text names)))) (said One (names_in (version_text ++ list_text names))))
    (begins-line (list_text names))
    ∙ ap (said Two) (ap names_in (behind_line (list_text names)) ∙ names_in-text names may)

pub listing-text : (read : Listing) → are_listable read.names ≡ true → listing (listing_text read) ≡ Some read
listing-text read may = listing_of read.version read.names may

said_is : (version : Version) (found : Option (List (List ℕ))) (read : Listing) → said version found ≡ Some read
    → (found ≡ Some read.names) × (version ≡ read.version)
said_is version None read is = absurd (cc)
said_is version (Some names) read is =
    let same : record { version = version; names = names } ≡ read = cc in
    (ap (λ (read : Listing). Some read.names) same, ap (λ (read : Listing). read.version) same)

-- and a list file is the one spelling of what it says
pub text-listing : (bytes : List ℕ) (read : Listing) → listing bytes ≡ Some read
    → (listing_text read ≡ bytes) × (are_listable read.names ≡ true)
unfolding listing
text-listing bytes read is = at_line (starts_with nat_eq bytes version_text) refl is
  where
    at_line : (test : Bool) → starts_with nat_eq bytes version_text ≡ test
        → cond test (said Two (names_in (drop (length version_text) bytes))) (said One (names_in bytes)) ≡ Some read
        → (listing_text read ≡ bytes) × (are_listable read.names ≡ true)
    at_line true there is =
        let parts = said_is Two (names_in (drop (length version_text) bytes)) read is in
        let spelled = text-names_in (drop (length version_text) bytes) read.names parts.0 in (
          ap (λ version. version_line version ++ list_text read.names) (sym parts.1)
              ∙ ap (λ rest. version_text ++ rest) spelled.0 ∙ sym (begins bytes there),
          spelled.1,
        )
    at_line false absent is =
        let parts = said_is One (names_in bytes) read is in
        let spelled = text-names_in bytes read.names parts.0 in
        (ap (λ version. version_line version ++ list_text read.names) (sym parts.1) ∙ spelled.0, spelled.1)

-- the names of a list file
said-names : (version : Version) (found : Option (List (List ℕ)))
    → option_map (λ (read : Listing). read.names) (said version found) ≡ found
said-names version None = refl
said-names version (Some names) = refl

pub listed-text : (names : List (List ℕ)) → are_listable names ≡ true → listed (saved_list names) ≡ Some names
unfolding listed
listed-text names may =
    ap (option_map (λ (read : Listing). read.names)) (listing-text (record { version = Two; names = names }) may)

pub listed-listable : (bytes : List ℕ) (names : List (List ℕ)) → listed bytes ≡ Some names → are_listable names ≡ true
unfolding listed
listed-listable bytes names is = at_read (listing bytes) refl is
  where
    at_read : (found : Option Listing) → listing bytes ≡ found
        → option_map (λ (read : Listing). read.names) found ≡ Some names → are_listable names ≡ true
    at_read None none is = absurd (cc)
    at_read (Some read) some is =
        let same : read.names ≡ names = cc in ap are_listable (sym same) ∙ (text-listing bytes read some).1

listed-behind : (bytes : List ℕ) → starts_with nat_eq bytes version_text ≡ true
    → listed bytes ≡ names_in (drop (length version_text) bytes)
unfolding listed listing
listed-behind bytes is =
    ap (λ test. option_map (λ (read : Listing). read.names) (cond test (said Two (names_in (drop (length version_text) bytes))) (said One (names_in bytes)))) is
    ∙ said-names Two (names_in (drop (length version_text) bytes))

listed-plain : (bytes : List ℕ) → starts_with nat_eq bytes version_text ≡ false → listed bytes ≡ names_in bytes
unfolding listed listing
listed-plain bytes is =
    ap (λ test. option_map (λ (read : Listing). read.names) (cond test (said Two (names_in (drop (length version_text) bytes))) (said One (names_in bytes)))) is
    ∙ said-names One (names_in bytes)

-- the names of a list by what stands behind the version's line, and without that line
pub listed-lines : (bytes lines : List ℕ) → bytes ≡ version_text ++ lines → listed bytes ≡ names_in lines
listed-lines bytes lines is =
    ap listed is ∙ listed-behind (version_text ++ lines) (begins-line lines) ∙ ap names_in (behind_line lines)

pub listed-unversioned : (bytes : List ℕ) → ((rest : List ℕ) → bytes ≢ version_text ++ rest)
    → listed bytes ≡ names_in bytes
listed-unversioned bytes never = elim (cases_Bool (starts_with nat_eq bytes version_text)) [
  | inl is ↦ absurd (never (drop (length version_text) bytes) (begins bytes is))
  | inr none ↦ listed-plain bytes none
]

-- a list without the version's line is of version 1
pub old_list-is : (bytes : List ℕ) (names : List (List ℕ)) → listed bytes ≡ Some names
    → is_old_list (Some bytes) ≡ not (starts_with nat_eq bytes version_text)
unfolding listed listing
old_list-is bytes names is =
    at_line (starts_with nat_eq bytes version_text) (names_in (drop (length version_text) bytes)) (names_in bytes) is
  where
    at_line : (test : Bool) (two one : Option (List (List ℕ)))
        → option_map (λ (read : Listing). read.names) (cond test (said Two two) (said One one)) ≡ Some names
        → is_one (option_map (λ (read : Listing). read.version) (cond test (said Two two) (said One one))) ≡ not test
    at_line true None one is = absurd (cc)
    at_line true (Some found) one is = refl
    at_line false two None is = absurd (cc)
    at_line false two (Some found) is = refl

-- a list that was saved is of version 2, and stays so where it is not changed
pub current-saved : (files : FileMap) (names : List (List ℕ)) → are_listable names ≡ true
    → files list_name ≡ Some (saved_list names) → IsCurrent files
current-saved files names may is bytes found =
    let same : saved_list names ≡ bytes = some_same (saved_list names) bytes (sym is ∙ found) in
    ap (λ bytes. version_of (Some bytes)) (sym same)
    ∙ ap (option_map (λ (read : Listing). read.version)) (listing-text (record { version = Two; names = names }) may)
  where
    some_same : (first second : List ℕ) → Some first ≡ Some second → first ≡ second
    some_same first second is = cc

pub current-same : (files others : FileMap) → others list_name ≡ files list_name → IsCurrent files → IsCurrent others
current-same files others same current bytes found = current bytes (sym same ∙ found)

-- primaries that were read by a list which is not of version 1
pub current-read : (files : FileMap) (held : Option (List SetFile)) → primary_set files ≡ Ok held
    → is_old_list (files list_name) ≡ false → IsCurrent files
unfolding primary_set listed
current-read files held reads new bytes found =
    at_read (listing bytes) (ap (set_listed primary_name (Ok None) files) (sym found) ∙ reads) (ap is_old_list (sym found) ∙ new)
  where
    at_version : (version : Version) → is_one (Some version) ≡ false → Some version ≡ Some Two
    at_version One new = absurd (true≢false new)
    at_version Two new = refl

    at_read : (read : Option Listing) → set_named primary_name files (option_map (λ (read : Listing). read.names) read) ≡ Ok held
        → is_one (option_map (λ (read : Listing). read.version) read) ≡ false
        → option_map (λ (read : Listing). read.version) read ≡ Some Two
    at_read None reads new = absurd (cc)
    at_read (Some read) reads new = at_version read.version new

-- what a stripped front tells, by whether there is one
module _ (bytes : List ℕ) (stripped : Option (Bor (List ℕ))) where
  pub with_line : (lines : Bor (List ℕ)) → stripped ≡ Some lines
      → MatchOption stripped ((rest : List ℕ) → bytes ≢ version_text ++ rest) (λ found. bytes ≡ version_text ++ found.now)
      → bytes ≡ version_text ++ lines.now
  with_line lines is told =
      subst (λ (stripped : Option (Bor (List ℕ))). MatchOption stripped ((rest : List ℕ) → bytes ≢ version_text ++ rest) (λ found. bytes ≡ version_text ++ found.now)) is told

  pub without_line : stripped ≡ None
      → MatchOption stripped ((rest : List ℕ) → bytes ≢ version_text ++ rest) (λ found. bytes ≡ version_text ++ found.now)
      → (rest : List ℕ) → bytes ≢ version_text ++ rest
  without_line is told =
      subst (λ (stripped : Option (Bor (List ℕ))). MatchOption stripped ((rest : List ℕ) → bytes ≢ version_text ++ rest) (λ found. bytes ≡ version_text ++ found.now)) is told
