-- A list file and the names in it.
use Rattle.std.proofs.Common.{◌≡◌, ℕ, Bool, true, false, ◌&&◌, ◌==◌, List, [], ◌∷◌, ◌++◌, Some, None, length, cond, refl, sym, ◌∙◌, ap, append_assoc, get_or, ◌<◌}
use Rattle.std.proofs.lemmas.List.{append-nil}
use Rattle.std.proofs.lemmas.Bool.{and_parts, and_from, both_ways, ne_eqb, false≢true}
use Rattle.std.specs.List.{list_all, AllPass, AllByRecursion}
use Rattle.std.specs.List.Sorted.{IsStrictlySortedBy}
use Rattle.std.specs.Ordering.{nat_cmp, is_lt}
use Rattle.std.specs.Cmp.Lexicographic.{slice_cmp}
use Rattle.std.specs.declared.cmp.Ordering.{Ordering}
use Rattle.std.specs.declared.cmp.Ordering.TheVariants.{Less, Equal, Greater}
use Rattle.std.proofs.lemmas.List.Recursion.{and_at, and_from_places}
use Rattle.desk_ports.specs.declared.file_sets.SetFile.{SetFile}
use Rattle.desk_ports.specs.FileName.{is_file_name_byte}
use Rattle.desk_ports.specs.FileMap.{names_of, NamesRise}
use Rattle.guard_files.specs.OwnName.{is_listable}
use Rattle.guard_files.specs.ListFile.{list_text, in_front, lines_of, rises, are_listable, names_in}
use Rattle.guard_files.proofs.Names.{same-true, same-same, listable}

no_newline : (byte : ℕ) → is_file_name_byte byte ≡ true → (byte == 10) ≡ false
no_newline byte is = ne_eqb byte 10 (λ newline. both_ways (is_file_name_byte byte) (ap is_file_name_byte newline) is)

-- a line without a newline in it, and the one that ends it
pub lines_of-line : (line rest : List ℕ) → list_all is_file_name_byte line ≡ true
    → lines_of (line ++ 10 ∷ rest) ≡ line ∷ lines_of rest
lines_of-line [] rest all = refl
lines_of-line (byte ∷ line) rest all =
    let both = and_parts _ _ all in
    ap (λ test. cond test ([] ∷ lines_of (line ++ 10 ∷ rest)) (in_front byte (lines_of (line ++ 10 ∷ rest)))) (no_newline byte both.0)
    ∙ ap (in_front byte) (lines_of-line line rest both.1)

-- the lines of the names' text, and of whatever follows
pub lines_of-text : (names : List (List ℕ)) (rest : List ℕ) → list_all is_listable names ≡ true
    → lines_of (list_text names ++ rest) ≡ names ++ lines_of rest
lines_of-text [] rest all = refl
lines_of-text (name ∷ names) rest all =
    let both = and_parts _ _ all in
    ap lines_of (append_assoc name (10 ∷ list_text names) rest)
    ∙ lines_of-line name (list_text names ++ rest) (listable name both.0).bytes
    ∙ ap (λ lines. name ∷ lines) (lines_of-text names rest both.1)

pub lines_of-names : (names : List (List ℕ)) → list_all is_listable names ≡ true → lines_of (list_text names) ≡ names
lines_of-names names all =
    ap lines_of (sym (append-nil (list_text names))) ∙ lines_of-text names [] all ∙ append-nil names

-- the lines of names that may stand in a list are read as these names
pub names_in-text : (names : List (List ℕ)) → are_listable names ≡ true → names_in (list_text names) ≡ Some names
unfolding names_in
names_in-text names may =
    let lines = lines_of-names names (and_parts _ _ may).0 in
    let same = same-same (list_text (lines_of (list_text names))) (list_text names) (ap list_text lines) in
    ap (λ test. cond (test && are_listable (lines_of (list_text names))) (Some (lines_of (list_text names))) None) same
    ∙ ap (λ names. cond (are_listable names) (Some names) None) lines
    ∙ ap (λ test. cond test (Some names) None) may

spelled : (bytes : List ℕ) (lines : List (List ℕ)) (test : Bool) (names : List (List ℕ))
    → (test ≡ true → (list_text lines ≡ bytes) × (are_listable lines ≡ true)) → cond test (Some lines) None ≡ Some names
    → (list_text names ≡ bytes) × (are_listable names ≡ true)
spelled bytes lines true names holds is =
    let same : lines ≡ names = cc in
    let fact = holds refl in (ap list_text (sym same) ∙ fact.0, ap are_listable (sym same) ∙ fact.1)
spelled bytes lines false names holds is = absurd (cc)

-- and lines that are read are those of their names
pub text-names_in : (bytes : List ℕ) (names : List (List ℕ)) → names_in bytes ≡ Some names
    → (list_text names ≡ bytes) × (are_listable names ≡ true)
unfolding names_in
text-names_in bytes names is =
    spelled bytes (lines_of bytes) _ names
    (λ both. let parts = and_parts _ _ both in (same-true _ _ parts.0, parts.1)) is

-- one more name
pub list_text-push : (names : List (List ℕ)) (name : List ℕ)
    → list_text (names ++ name ∷ []) ≡ (list_text names ++ name) ++ 10 ∷ []
list_text-push [] name = refl
list_text-push (first ∷ names) name =
    ap (λ rest. first ++ 10 ∷ rest) (list_text-push names name)
    ∙ sym (append_assoc first (10 ∷ list_text names ++ name) (10 ∷ []))
    ∙ ap (λ front. front ++ 10 ∷ []) (sym (append_assoc first (10 ∷ list_text names) name))

-- the name of a file whose names may all stand in a list
pub listable_at : (files : List SetFile) (i : ℕ) (file : SetFile) → list_all is_listable (names_of files) ≡ true
    → i < length files
    → file ≡ get_or files i file → is_listable file.name ≡ true
listable_at files i file all within is =
    ap (λ (file : SetFile). is_listable file.name) is
    ∙ and_at (λ (files : List SetFile). list_all is_listable (names_of files)) (λ file. is_listable file.name) refl (λ _ _. refl) files i file within all

-- a set's names rise, so they may stand in a list where each of them may
all_above : (name : List ℕ) (names : List (List ℕ))
    → AllByRecursion (λ later. slice_cmp nat_cmp name later ≡ Less) names
    → list_all (λ later. is_lt (slice_cmp nat_cmp name later)) names ≡ true
all_above name [] above = refl
all_above name (later ∷ names) above = and_from _ _ (ap is_lt above.0) (all_above name names above.1)

pub rises-from : (names : List (List ℕ)) → NamesRise names → rises names ≡ true
unfolding IsStrictlySortedBy
rises-from [] rising = refl
rises-from (name ∷ names) rising = and_from _ _ (all_above name names rising.0) (rises-from names rising.1)

above_all : (name : List ℕ) (names : List (List ℕ))
    → list_all (λ later. is_lt (slice_cmp nat_cmp name later)) names ≡ true
    → AllByRecursion (λ later. slice_cmp nat_cmp name later ≡ Less) names
above_all name [] above = tt
above_all name (later ∷ names) above =
    let both = and_parts _ _ above in (less (slice_cmp nat_cmp name later) both.0, above_all name names both.1)
  where
    less : (order : Ordering) → is_lt order ≡ true → order ≡ Less
    less Less is = refl
    less Equal is = absurd (false≢true is)
    less Greater is = absurd (false≢true is)

pub NamesRise-from : (names : List (List ℕ)) → rises names ≡ true → NamesRise names
unfolding IsStrictlySortedBy
NamesRise-from [] rising = tt
NamesRise-from (name ∷ names) rising = let both = and_parts _ _ rising in (above_all name names both.0, NamesRise-from names both.1)

pub listable_set : (names : List (List ℕ)) → AllPass is_listable names → NamesRise names → are_listable names ≡ true
listable_set names all rising =
    and_from _ _ (and_from_places (list_all is_listable) is_listable refl (λ _ _. refl) names [] (λ i within. all i [] within)) (rises-from names rising)
