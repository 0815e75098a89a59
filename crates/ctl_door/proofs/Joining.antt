-- Files that are put together of their parts.
use Rattle.std.proofs.Common.{◌≡◌, ◌∙◌, ℕ, Bool, true, false, if◌then◌else◌, List, [], ◌∷◌, ◌++◌, Option, Some, None, refl, sym, ap}
use Rattle.std.specs.Str.{bytes_eq}
use Rattle.std.proofs.lemmas.Slice.Eq.{bytes_eq-Decides}
use Rattle.desk_ports.specs.FileMap.{FileMap}
use Rattle.ctl_door.specs.declared.frames.Part.{Part}
use Rattle.ctl_door.specs.Joining.{behind, with_part, with_parts}

pub one_more : (files : FileMap) (parts : List Part) (part : Part) (name : List ℕ)
    → with_parts files (parts ++ part ∷ []) name ≡ with_part (with_parts files parts) part name
one_more files [] part name = refl
one_more files (other ∷ parts) part name = one_more (with_part files other) parts part name

-- what a part adds follows from the bytes of its name alone
pub same_with : (one other : FileMap) (part : Part) (name : List ℕ) → one name ≡ other name → with_part one part name ≡ with_part other part name
same_with one other part name same =
    ap (λ (content : Option (List ℕ)). if bytes_eq part.name name then behind content part.bytes else content) same

-- a further part of a file that is there
pub behind_at : (is : Bool) (before bytes : List ℕ) (was between now : Option (List ℕ)) → (is ≡ true → was ≡ Some before)
    → between ≡ (if is then None else was) → now ≡ (if is then Some (before ++ bytes) else between)
    → now ≡ (if is then behind was bytes else was)
behind_at true before bytes was between now found gone put = put ∙ sym (ap (λ (content : Option (List ℕ)). behind content bytes) (found refl))
behind_at false before bytes was between now found gone put = put ∙ gone

-- the first part of one
pub first_at : (is : Bool) (bytes : List ℕ) (was between now : Option (List ℕ)) → (is ≡ true → was ≡ None)
    → between ≡ (if is then None else was) → now ≡ (if is then Some bytes else between) → now ≡ (if is then behind was bytes else was)
first_at true bytes was between now found gone put = put ∙ sym (ap (λ (content : Option (List ℕ)). behind content bytes) (found refl))
first_at false bytes was between now found gone put = put ∙ gone

-- what is found at the name is found at each name that is equal
pub found_at : (files : FileMap) (name other : List ℕ) (content : Option (List ℕ)) → content ≡ files name → bytes_eq name other ≡ true
    → files other ≡ content
found_at files name other content at same = ap files (sym ((bytes_eq-Decides name other).0 same)) ∙ sym at
