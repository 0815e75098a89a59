-- What a search by halving says of a list that rises by a text.
use Rattle.std.proofs.Common.{◌≡◌, ℕ, Bool, true, false, ◌||◌, cond, List, [], ◌∷◌, ◌++◌, length, get_or, refl, sym, ap}
use Rattle.std.proofs.Common.{◌∙◌}
use Rattle.std.specs.declared.cmp.Ordering.TheVariants.{Less, Greater}
use Rattle.std.specs.List.{AllByRecursion, list_any}
use Rattle.std.specs.Ordering.{is_eq}
use Rattle.cynara_keys.specs.Text.{same_text, text_cmp}
use Rattle.cynara_keys.proofs.Order.{text_cmp-equal}
use Rattle.bucket_store.specs.parts.Search.{StandsAt, BelongsAt}
use Rattle.std.specs.List.Sorted.{IsStrictlySortedBy}
use Rattle.std.specs.Ordering.{on}
use Rattle.desk_ports.specs.FileMap.{NamesRise, names_of}
use Rattle.desk_ports.specs.declared.file_sets.SetFile.{SetFile}
use Rattle.set_text.specs.Fault.{bytes_in}

or-true : (b : Bool) → (b || true) ≡ true
or-true true = refl
or-true false = refl

module _ {X : Type 0} (key : X → List ℕ) (name : List ℕ) where
  any-front : (front : List X) (x : X) (back : List X) → same_text (key x) name ≡ true
      → list_any (λ x. same_text (key x) name) (front ++ x ∷ back) ≡ true
  any-front [] x back is = ap (λ b. b || list_any (λ x. same_text (key x) name) back) is
  any-front (first ∷ front) x back is =
      ap (λ b. same_text (key first) name || b) (any-front front x back is) ∙ or-true (same_text (key first) name)

  any-less : (front back : List X) → AllByRecursion (λ x. text_cmp (key x) name ≡ Less) front
      → list_any (λ x. same_text (key x) name) back ≡ false
      → list_any (λ x. same_text (key x) name) (front ++ back) ≡ false
  any-less [] back all none = none
  any-less (first ∷ front) back all none =
      ap (λ b. b || list_any (λ x. same_text (key x) name) (front ++ back))
      (sym (text_cmp-equal (key first) name) ∙ ap is_eq all.0)
      ∙ any-less front back all.1 none

  any-greater : (back : List X) → AllByRecursion (λ x. text_cmp (key x) name ≡ Greater) back
      → list_any (λ x. same_text (key x) name) back ≡ false
  any-greater [] all = refl
  any-greater (first ∷ back) all =
      ap (λ b. b || list_any (λ x. same_text (key x) name) back)
      (sym (text_cmp-equal (key first) name) ∙ ap is_eq all.0)
      ∙ any-greater back all.1

  pub any-found : (list : List X) (at : ℕ) → StandsAt (λ x. text_cmp (key x) name) list at
      → list_any (λ x. same_text (key x) name) list ≡ true
  any-found list at stands =
      ap (list_any (λ x. same_text (key x) name)) stands.parts
      ∙ any-front stands.front stands.element stands.back
      (sym (text_cmp-equal (key stands.element) name) ∙ ap is_eq stands.ties)

  pub any-absent : (list : List X) (at : ℕ) → BelongsAt (λ x. text_cmp (key x) name) list at
      → list_any (λ x. same_text (key x) name) list ≡ false
  any-absent list at belongs =
      ap (list_any (λ x. same_text (key x) name)) belongs.parts
      ∙ any-less belongs.front belongs.back belongs.before (any-greater belongs.back belongs.behind)

-- ---- the bytes of a file

bytes-front : (name : List ℕ) (front set : List SetFile)
    → AllByRecursion (λ (file : SetFile). text_cmp file.name name ≡ Less) front
    → bytes_in (front ++ set) name ≡ bytes_in set name
bytes-front name [] set all = refl
bytes-front name (file ∷ front) set all =
    ap (λ b. cond b file.bytes (bytes_in (front ++ set) name)) (sym (text_cmp-equal file.name name) ∙ ap is_eq all.0)
    ∙ bytes-front name front set all.1

bytes-none : (name : List ℕ) (set : List SetFile)
    → AllByRecursion (λ (file : SetFile). text_cmp file.name name ≡ Greater) set
    → bytes_in set name ≡ []
bytes-none name [] all = refl
bytes-none name (file ∷ set) all =
    ap (λ b. cond b file.bytes (bytes_in set name)) (sym (text_cmp-equal file.name name) ∙ ap is_eq all.0)
    ∙ bytes-none name set all.1

pub bytes-found : (name : List ℕ) (set : List SetFile) (at : ℕ)
    → (stands : StandsAt (λ (file : SetFile). text_cmp file.name name) set at)
    → bytes_in set name ≡ stands.element.bytes
bytes-found name set at stands =
    ap (λ set. bytes_in set name) stands.parts
    ∙ bytes-front name stands.front (stands.element ∷ stands.back) stands.before
    ∙ ap (λ b. cond b stands.element.bytes (bytes_in stands.back name))
    (sym (text_cmp-equal stands.element.name name) ∙ ap is_eq stands.ties)

pub bytes-absent : (name : List ℕ) (set : List SetFile) (at : ℕ)
    → BelongsAt (λ (file : SetFile). text_cmp file.name name) set at
    → bytes_in set name ≡ []
bytes-absent name set at belongs =
    ap (λ set. bytes_in set name) belongs.parts
    ∙ bytes-front name belongs.front belongs.back belongs.before ∙ bytes-none name belongs.back belongs.behind

pub element-at : {X : Type 0} (front : List X) (element other : X) (back : List X)
    → get_or (front ++ element ∷ back) (length front) other ≡ element
element-at [] element other back = refl
element-at (first ∷ front) element other back = element-at front element other back

-- files that rise by their names
pub files-rise : (set : List SetFile) → NamesRise (names_of set)
    → IsStrictlySortedBy (on (λ (file : SetFile). file.name) text_cmp) set
unfolding IsStrictlySortedBy
files-rise [] rise = tt
files-rise (file ∷ set) rise = (below set rise.0, files-rise set rise.1)
  where
    below : (others : List SetFile) → AllByRecursion (λ name. text_cmp file.name name ≡ Less) (names_of others)
        → AllByRecursion (λ (other : SetFile). text_cmp file.name other.name ≡ Less) others
    below [] all = tt
    below (other ∷ others) all = (all.0, below others all.1)
